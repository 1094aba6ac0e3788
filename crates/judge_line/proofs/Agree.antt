-- Each line judge finds exactly what the rules say: one law for each kind of line.
use Rattle.std.specs.Prelude.{ℕ, ◌≡◌, ◌↔◌, List, ◌++◌, false, not}
use Rattle.std.proofs.Common.{sym, ap, ◌∙◌}
use Rattle.std.proofs.lemmas.Bool.{not-true}
use Rattle.text.specs.Text.{Bytes, Line, bytes}
use Rattle.text.specs.Columns.{Within}
use Rattle.rules.specs.Forms.{FirstHeaderLine, Counts, CountsLine, Atom, AtomLine, Bond, BondLine, Kind, Property, PropertyLine, EndLine, DataHeader, RecordEnd, ValueLine, BlankLine}
use Rattle.judge_line.specs.Got.{got}
use Rattle.judge_line.specs.GotLaws.{got_inj, need_got, need_is}
use Rattle.judge_line.specs.Judge.{contains, reserved, first_header_of, counts_of, atom_of, bond_of, property_of, property, last, item_of, title, close, value_of, value, blank}
use Rattle.text.specs.Laws.{or_false, never_both}
use Rattle.judge_line.specs.AgreeText.{none_of, contains_got, contains_is}
use Rattle.judge_line.specs.AgreeLine.{counts_is_lem, atom_is_lem, bond_is_lem}
use Rattle.judge_line.proofs.AgreeLine.{counts_got_lem, atom_got_lem, bond_got_lem}
use Rattle.judge_line.specs.AgreeProperty.{NewEntries}
use Rattle.judge_line.specs.AgreeProperty.{end_is}
use Rattle.judge_line.proofs.AgreeProperty.{property_means, property_is}
use Rattle.judge_line.specs.AgreeItem.{blank_line_is}
use Rattle.judge_line.proofs.AgreeItem.{item_means, title_is_lem, close_line_is, value_means, value_is_lem}

-- ---- 1. Header lines

-- the test for a text finds it where it stands, and only there
absent : (t l : Bytes) → contains t l ≡ false → ¬ ((before : Bytes) × (after : Bytes) × (l ≡ before ++ (t ++ after)))
absent t l e c = never_both (contains t l) (rw c.2 (contains_is t c.0 c.1)) e

first_header_got : (l h : Line) → Within 80 l → first_header_of l ≡ got h → FirstHeaderLine l × (h ≡ l)
unfolding first_header_of
first_header_got l h w e =
    let n = need_got (not (reserved l)) 5 1 (got l) h e in
    let a = or_false (contains (bytes "$$$$") l) _ (not-true (reserved l) n.0) in
    let b = or_false (contains (bytes "$MDL") l) _ a.1 in
    let c = or_false (contains (bytes "$RXN") l) (contains (bytes "$RDFILE") l) b.1 in (
      record {
        line = w;
        no_end = absent (bytes "$$$$") l a.0;
        no_molfile = absent (bytes "$MDL") l b.0;
        no_rxnfile = absent (bytes "$RXN") l c.0;
        no_rdfile = absent (bytes "$RDFILE") l c.1;
      },
      sym (got_inj n.1),
    )

first_header_is : (l : Line) → FirstHeaderLine l → first_header_of l ≡ got l
unfolding first_header_of
first_header_is l f =
    let a = none_of (contains (bytes "$$$$") l) (contains_got (bytes "$$$$") l) f.no_end in
    let b = none_of (contains (bytes "$MDL") l) (contains_got (bytes "$MDL") l) f.no_molfile in
    let c = none_of (contains (bytes "$RXN") l) (contains_got (bytes "$RXN") l) f.no_rxnfile in
    let d = none_of (contains (bytes "$RDFILE") l) (contains_got (bytes "$RDFILE") l) f.no_rdfile in
    need_is (not (reserved l)) 5 1 (got l) (rw (a, b, c, d))

pub header_agrees : (l h : Line) → Within 80 l → (first_header_of l ≡ got h) ↔ (FirstHeaderLine l × (h ≡ l))
header_agrees l h w = (first_header_got l h w, λ f. first_header_is l f.0 ∙ ap got (sym f.1))

-- ---- 2. The counts line

pub counts_agrees : (limit : ℕ) (l : Line) (c : Counts) → Within 80 l → (counts_of limit l ≡ got c) ↔ CountsLine limit l c
counts_agrees limit l c w = (counts_got_lem limit l c w, counts_is_lem limit l c)

-- ---- 3. Atom lines

pub atom_agrees : (n : ℕ) (l : Line) (a : Atom) → Within 80 l → (atom_of n l ≡ got a) ↔ AtomLine n l a
atom_agrees n l a w = (atom_got_lem n l a w, atom_is_lem n l a)

-- ---- 4. Bond lines

pub bond_agrees : (n : ℕ) (l : Line) (b : Bond) → Within 80 l → (bond_of n l ≡ got b) ↔ BondLine n l b
bond_agrees n l b w = (bond_got_lem n l b w, bond_is_lem n l b)

-- ---- 5. Property lines

pub property_agrees : (n : ℕ) (seen : Kind → List ℕ) (l : Line) (p : Property) → Within 80 l →
    (property_of n seen l ≡ got (property p)) ↔ (PropertyLine n l p × NewEntries (seen p.kind) p.entries)
property_agrees n seen l p w = (property_means n seen l (property p) w, property_is n seen l p)

pub end_agrees : (n : ℕ) (seen : Kind → List ℕ) (l : Line) → Within 80 l → (property_of n seen l ≡ got last) ↔ EndLine l
end_agrees n seen l w = (property_means n seen l last w, end_is n seen l)

-- ---- 6. Data items

pub title_agrees : (l : Line) (name : Bytes) → Within 80 l → (item_of l ≡ got (title name)) ↔ DataHeader l name
title_agrees l name w = (item_means l (title name) w, title_is_lem l name)

pub close_agrees : (l : Line) → Within 80 l → (item_of l ≡ got close) ↔ RecordEnd l
close_agrees l w = (item_means l close w, close_line_is l)

pub value_agrees : (l : Line) → Within 200 l → (value_of l ≡ got value) ↔ ValueLine l
value_agrees l w = (value_means l value w, value_is_lem l)

pub blank_agrees : (l : Line) → Within 200 l → (value_of l ≡ got blank) ↔ BlankLine l
blank_agrees l w = (value_means l blank w, blank_line_is l)
