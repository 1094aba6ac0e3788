-- The part of a key that a record's items give, by the first item of the name.
use Rattle.std.specs.Prelude.{ℕ, ◌≡◌, Bool}
use Rattle.std.proofs.Math.Path.{refl}
use Rattle.std.proofs.Common.{ap, ◌∙◌}
use mathlib.Core.List.{List, [], ◌∷◌, ◌++◌}
use Rattle.std.proofs.Math.Bool.{true, false, cond}
use Rattle.text.specs.Text.{Bytes, Line}
use Rattle.text.specs.Find.{same_bytes}
use Rattle.text.specs.Agree.{same_bytes_lem}
use Rattle.rules.specs.Record.{Item}
use Rattle.reader_item.specs.Promise.{NoneNamed}
use Rattle.reader_item.specs.Beyond.{FirstNamed}
use Rattle.stock_rules.specs.Key.{Fault, Part, line_of, part_of}

module _ (width pad : ℕ) (name : Bytes) where
  pub part_none : (is : List Item) → NoneNamed name is → part_of width pad name is ≡ Part.no_part Fault.missing
  unfolding part_of NoneNamed
  part_none [] h = refl
  part_none (i ∷ is) h = go (same_bytes i.name name) refl (part_none is h.1)
    where
      go : (b : Bool) → same_bytes i.name name ≡ b → part_of width pad name is ≡ Part.no_part Fault.missing →
          cond b (line_of width pad i.values) (part_of width pad name is) ≡ Part.no_part Fault.missing
      go true e q = absurd (h.0 ((same_bytes_lem i.name name).0 e))
      go false e q = q

  first_by_lem : (before after : List Item) (vs : List Line) → NoneNamed name before →
      part_of width pad name (before ++ (record { name = name; values = vs } ∷ after)) ≡ line_of width pad vs
  unfolding part_of NoneNamed
  first_by_lem [] after vs h = rw ((same_bytes_lem name name).1 refl)
  first_by_lem (i ∷ before) after vs h = go (same_bytes i.name name) refl (first_by_lem before after vs h.1)
    where
      go : (b : Bool) → same_bytes i.name name ≡ b → part_of width pad name (before ++ (record { name = name; values = vs } ∷ after)) ≡ line_of width pad vs →
          cond b (line_of width pad i.values) (part_of width pad name (before ++ (record { name = name; values = vs } ∷ after))) ≡ line_of width pad vs
      go true e q = absurd (h.0 ((same_bytes_lem i.name name).0 e))
      go false e q = q

  pub part_first : (is : List Item) (vs : List Line) → FirstNamed name is vs → part_of width pad name is ≡ line_of width pad vs
  part_first is vs f = ap (part_of width pad name) f.parts ∙ first_by_lem f.before f.after vs f.others
