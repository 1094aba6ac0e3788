-- Texts that are formulas, and texts that are not, with their numbers; and what differs.
use Rattle.std.specs.Prelude.{ℕ, ◌≡◌, refl, List, [], ◌∷◌, map}
use Prim.Native.String.{String}
use Rattle.text.specs.Text.{bytes}
use Rattle.text.specs.Columns.{columns_for}
use Rattle.text.specs.Find.{same_bytes}
use Rattle.field_symbols.specs.Read.{symbol_in, among}
use Rattle.formula_rules.specs.Formula.{between}
use Rattle.formula_rules.specs.Element.{element_of}
use Rattle.formula_rules.specs.Parse.{count_at, symbol_end, element_at, symbol_at, units_by, units_of, formula_of}
use Rattle.formula_rules.specs.Sums.{sat, add_tree, added_units}
use Rattle.formula_rules.specs.Judged.{sums_of, crowded, trees_of, shallow_of, verdict_of, number_of}

pub record Sample : Type 0 where
  pub text : String
  pub number : ℕ

abbrev pub samples : List Sample
samples =
    record { text = "Ca(OH)2"; number = 0 } ∷
    record { text = "Co"; number = 0 } ∷
    record { text = "CO"; number = 0 } ∷
    record { text = "C6H12O6"; number = 0 } ∷
    record { text = "((C)2)999"; number = 0 } ∷
    record { text = ""; number = 31 } ∷
    record { text = "C1"; number = 31 } ∷
    record { text = "C02"; number = 31 } ∷
    record { text = "C1000"; number = 31 } ∷
    record { text = "C()"; number = 31 } ∷
    record { text = "Ca(OH"; number = 31 } ∷
    record { text = "A2"; number = 31 } ∷
    record { text = "C H4"; number = 31 } ∷
    record { text = "cO"; number = 31 } ∷
    record { text = "((((((((C))))))))"; number = 0 } ∷
    record { text = "(((((((((C)))))))))"; number = 32 } ∷
    record { text = "(((((((((C1)))))))))"; number = 31 } ∷
    record { text = "(C999)10C9"; number = 0 } ∷
    record { text = "(C999)10C10"; number = 33 } ∷
    record { text = "(H100)100"; number = 33 } ∷
    record { text = "((((((((U999)999)999)999)999)999)999)999)999"; number = 33 } ∷
    []

pub samples_hold : map (λ (s : Sample). number_of (verdict_of (bytes s.text))) samples ≡ map (λ (s : Sample). s.number) samples
unfolding verdict_of shallow_of formula_of units_of units_by count_at symbol_at symbol_end element_at element_of symbol_in among same_bytes columns_for between sums_of added_units add_tree sat crowded trees_of
samples_hold = refl
