-- Laws of a molecule's text: its parts and its length.
use Rattle.std.specs.Prelude.{ℕ, zero, suc, ◌+◌, ◌-◌, ◌*◌, ◌/◌, ◌≤◌, ◌<◌, ◌≡◌, refl, List, [], ◌∷◌, ◌++◌, map, Bool, true, false, cond, ltb, length, take, drop, ℤ}
use Rattle.std.proofs.Common.{arith, sym, ap, ◌∙◌, subst, append_assoc, length-append, length-take, length-drop, ltb-true, ltb-false}
use Rattle.std.proofs.lemmas.Simd.{map-map}
use Rattle.std.proofs.lemmas.List.{map-append}
use Rattle.text.specs.Text.{Bytes, LF}
use Rattle.text.specs.Written.{text, text_append}
use Rattle.rules.specs.Forms.{Kind, Entry}
use Rattle.rules.specs.Record.{limit}
use Rattle.rules.specs.Write.{counts_text, property_text, end_text}
use Rattle.rules.specs.Canon.{atom_row, number_of, is_zero, entries_from, eights, properties_of, canon}
use Rattle.writer_lines.specs.Laid.{Laid, Field, laid_join}
use Rattle.rules.specs.Rows.{rows_of, rows_length}
use Rattle.writer_lines.specs.Lines.{atom_line, bond_line}
use Rattle.writer_molecule.specs.Properties.{kind_of, entries_at, lines_text, properties_text, Eight}
use Rattle.writer_lines.specs.Walks.{atom_long, bond_long, lines_length}
use Rattle.writer_molecule.specs.Listing.{lines_next, line_length, eight_few, eight_full}
use Rattle.writer_lines.specs.LineParts.{counts_length}
use Rattle.writer_molecule.specs.Body.{body_lines, body_text, rest_text, rest_size, body_size}

-- ---- The lines of a kind

nothing_long : (kind : ℕ) → length (lines_text kind []) ≡ 0
unfolding lines_text text eights
nothing_long kind = refl

-- one line, then the others
lines_long_next : (kind k : ℕ) (es : List Entry) → 0 < length es → Eight (length es) k → length (lines_text kind es) ≡ 10 + 8 * k + length (lines_text kind (drop k es))
lines_long_next kind k es h x =
    ap length (lines_next kind (length es) k es refl h x)
    ∙ length-append (text (property_text (record { kind = kind_of kind; entries = take k es }) ∷ [])) (lines_text kind (drop k es))
    ∙ omega (arith, line_length kind (take k es), length-take k es, x.most)

-- the bytes of so many entries of a kind
abbrev pub size : ℕ → ℕ
size k = 10 * ((k + 7) / 8) + 8 * k

pub lines_long : (fuel kind : ℕ) (es : List Entry) → length es ≤ fuel → length (lines_text kind es) ≡ size (length es)
lines_long zero kind [] h = nothing_long kind
lines_long zero kind (e ∷ es) h = absurd (omega arith)
lines_long (suc fuel) kind [] h = nothing_long kind
lines_long (suc fuel) kind (e ∷ es) h = go (e ∷ es) (omega arith) h (λ xs s. lines_long fuel kind xs s) (ltb (length (e ∷ es)) 8) refl
  where
    go : (all : List Entry) → 0 < length all → length all ≤ suc fuel → ((xs : List Entry) → length xs ≤ fuel → length (lines_text kind xs) ≡ size (length xs)) →
        (b : Bool) → ltb (length all) 8 ≡ b → length (lines_text kind all) ≡ size (length all)
    go all o h less true q =
        let s = ltb-true (length all) 8 q in
        let d = length-drop (length all) all in
        omega (arith, d, lines_long_next kind (length all) all o (eight_few (length all) o s), less (drop (length all) all) (omega arith))
    go all o h less false q =
        let s = ltb-false (length all) 8 q in
        let d = length-drop 8 all in
        omega (arith, d, lines_long_next kind 8 all o (eight_full (length all) s), less (drop 8 all) (omega arith))

from_most : (k : Kind) (i : ℕ) (ts : List (List ℤ)) → length (entries_from k i ts) ≤ length ts
unfolding entries_from
from_most k i [] = omega arith
from_most k i (t ∷ ts) = go (is_zero (number_of k (atom_row t))) (from_most k (suc i) ts)
  where
    go : (b : Bool) → length (entries_from k (suc i) ts) ≤ length ts →
        length (cond b (entries_from k (suc i) ts) (record { atom = i; number = number_of k (atom_row t) } ∷ entries_from k (suc i) ts)) ≤ suc (length ts)
    go true h = omega arith
    go false h = omega arith

pub entries_most : (kind n : ℕ) (t : List ℤ) → length (entries_at kind n t 0) ≤ n
unfolding entries_at
entries_most kind n t = omega (arith, from_most (kind_of kind) 1 (rows_of 16 n t), rows_length 16 n t)

-- what is computed from the number of entries
pub kind_long : (kind n : ℕ) (t : List ℤ) (k : ℕ) → k ≡ length (entries_at kind n t 0) → 10 * ((k + 7) / 8) + 8 * k ≡ length (properties_text kind n t)
kind_long kind n t k e = rw e (sym (lines_long (length (entries_at kind n t 0)) kind (entries_at kind n t 0) (omega arith)))

-- one entry an atom at most
kind_most : (kind n : ℕ) (t : List ℤ) → n ≤ limit → length (properties_text kind n t) ≤ size limit
kind_most kind n t h =
    let l = lines_long (length (entries_at kind n t 0)) kind (entries_at kind n t 0) (omega arith) in
    omega (arith, l, entries_most kind n t)

pub kinds_most : (n : ℕ) (t : List ℤ) → n ≤ limit → length (properties_text 0 n t) + length (properties_text 1 n t) + length (properties_text 2 n t) ≤ 3 * size limit
kinds_most n t h = omega (arith, kind_most 0 n t h, kind_most 1 n t h, kind_most 2 n t h)

-- ---- The parts

pub rest_parts : (n : ℕ) (t : List ℤ) {r₀ r₁ r₂ r₃ r₄ : Bytes} {at a b c d : ℕ} →
    Laid r₀ r₁ at (properties_text 0 n t) a → Laid r₁ r₂ a (properties_text 1 n t) b → Laid r₂ r₃ b (properties_text 2 n t) c →
    Field r₃ r₄ c 7 (end_text ++ (LF ∷ [])) d → Laid r₀ r₄ at (rest_text n t) d
unfolding rest_text
rest_parts n t p q s u = laid_join p (laid_join q (laid_join s u.laid))

body_is : (n m chiral : ℕ) (atoms bonds : List ℤ) →
    text (counts_text (record { atoms = n; bonds = m; chiral = chiral }) ∷ [])
    ++ (text (map atom_line (rows_of 16 n atoms)) ++ (text (map bond_line (rows_of 6 m bonds)) ++ rest_text n atoms))
    ≡ body_text n m chiral atoms bonds
unfolding body_text body_lines canon properties_of rest_text lines_text entries_at text
body_is n m chiral atoms bonds =
    simp (text_append, map-append, append_assoc, map-map)

pub body_parts : (n m chiral : ℕ) (atoms bonds : List ℤ) {r₀ r₁ r₂ r₃ r₄ : Bytes} {at a b c d : ℕ} →
    Field r₀ r₁ at 40 (text (counts_text (record { atoms = n; bonds = m; chiral = chiral }) ∷ [])) a →
    Field r₁ r₂ a (70 * n) (text (map atom_line (rows_of 16 n atoms))) b →
    Field r₂ r₃ b (22 * m) (text (map bond_line (rows_of 6 m bonds))) c → Laid r₃ r₄ c (rest_text n atoms) d →
    Laid r₀ r₄ at (body_text n m chiral atoms bonds) d
body_parts n m chiral atoms bonds {r₀} {r₄ = r₄} {at} {d = d} p q s u =
    subst (λ (x : Bytes). Laid r₀ r₄ at x d) (body_is n m chiral atoms bonds) (laid_join p.laid (laid_join q.laid (laid_join s.laid u)))

pub rest_length : (n : ℕ) (t : List ℤ) → length (rest_text n t) ≡ rest_size n t
unfolding rest_text
rest_length n t =
    length-append (properties_text 0 n t) (properties_text 1 n t ++ (properties_text 2 n t ++ (end_text ++ (LF ∷ []))))
    ∙ omega (arith, length-append (properties_text 1 n t) (properties_text 2 n t ++ (end_text ++ (LF ∷ []))), length-append (properties_text 2 n t) (end_text ++ (LF ∷ [])))

-- the length of the text
pub body_length : (n m chiral : ℕ) (atoms bonds : List ℤ) → length (body_text n m chiral atoms bonds) ≡ body_size n m atoms
body_length n m chiral atoms bonds =
    let c = text (counts_text (record { atoms = n; bonds = m; chiral = chiral }) ∷ []) in
    let a = text (map atom_line (rows_of 16 n atoms)) in
    let b = text (map bond_line (rows_of 6 m bonds)) in
    ap length (sym (body_is n m chiral atoms bonds))
    ∙ length-append c (a ++ (b ++ rest_text n atoms))
    ∙ omega (
      arith,
      length-append a (b ++ rest_text n atoms),
      length-append b (rest_text n atoms),
      counts_length n m chiral,
      lines_length atom_line 70 atom_long (rows_of 16 n atoms),
      lines_length bond_line 22 bond_long (rows_of 6 m bonds),
      rows_length 16 n atoms,
      rows_length 6 m bonds,
      rest_length n atoms,
    )

pub ruleset body_laws = (rest_parts, body_parts)
