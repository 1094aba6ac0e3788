-- While the lines of a table's rows are written, one after the other.
use Rattle.std.specs.Prelude.{ℕ, zero, suc, ◌+◌, ◌-◌, ◌*◌, ◌≤◌, ◌<◌, ◌≡◌, refl, length, get_or, take, ℤ, pos, nat_abs}
use Rattle.std.proofs.Common.{mul-suc, mul-le-mul_left, add-one, arith, ap, ◌∙◌, length-append, length-take, length-drop}
use Rattle.std.proofs.Math.Path.{sym, subst}
use mathlib.Core.List.{List, [], ◌∷◌, ◌++◌, map, append_assoc}
use Rattle.std.proofs.Math.ListN.{drop, drop_of_length-le}
use Rattle.text.specs.Text.{Bytes, Line, LF}
use Rattle.text.specs.Written.{text}
use Rattle.field_numbers.specs.Written.{signed_length, text_length}
use Rattle.field_coordinates.specs.Written.{coordinate_length}
use Rattle.field_symbols.specs.Symbol.{symbols_all}
use Rattle.field_symbols.specs.Write.{symbol_length}
use Rattle.rules.specs.Write.{joined, atom_text, bond_text}
use Rattle.rules.specs.Canon.{atom_row, atom_of, bond_of, WritableAtom}
use Rattle.rules.specs.Canon as R
use Rattle.writer_lines.specs.Laid.{Laid, Field, Owes, owes_start, owes_next, owes_end}
use Rattle.rules.specs.Rows.{rows_of, row_at, rows_length, rows_at, rows_next}
use Rattle.rules.specs.CanonGood.{sized}
use Rattle.writer_lines.specs.Lines.{atom_line, bond_line, WritableAtoms}

-- ---- Every line is as long as the others, its LF included

pub record Long (f : List ℤ → Line) (line : ℕ) : Type 0 where
  pub long : (t : List ℤ) → length (f t) + 1 ≡ line

pub atom_long : Long atom_line 70
unfolding atom_text atom_of joined
atom_long = record { long = λ t. simp (length-append, coordinate_length, symbol_length, signed_length, text_length) }

pub bond_long : Long bond_line 22
unfolding bond_text bond_of joined
bond_long = record { long = λ t. simp (length-append, signed_length, text_length) }

pub lines_length : (f : List ℤ → Line) (line : ℕ) → Long f line → (ts : List (List ℤ)) → length (text (map f ts)) ≡ line * length ts
unfolding text
lines_length f line l [] = omega arith
lines_length f line l (t ∷ ts) =
    length-append (f t) (LF ∷ text (map f ts))
    ∙ omega (arith, l.long t, lines_length f line l ts, mul-suc line (length ts))

-- ---- The walk

pub record Laying (f : List ℤ → Line) (width line : ℕ) (t : List ℤ) (n : ℕ) (r₀ r : Bytes) (at i e : ℕ) : Type 0 where
  pub inside : width * n ≤ length t
  pub within : i ≤ n
  pub room : at + line * n ≤ length r₀
  pub place : e ≡ at + line * i
  pub size : length r ≡ length r₀
  pub owes : Owes r₀ r at e (text (map f (rows_of width n t))) (text (map f (drop i (rows_of width n t))))

pub laying_start : (f : List ℤ → Line) (width line : ℕ) (t : List ℤ) (n : ℕ) (r : Bytes) (at : ℕ) → Long f line →
    width * n ≤ length t → at + line * n ≤ length r → Laying f width line t n r r at 0 at
laying_start f width line t n r at l h k =
    record {
      inside = h;
      within = omega arith;
      room = k;
      place = let e : line * 0 ≡ 0 = omega arith in omega arith;
      size = refl;
      owes = owes_start r at (text (map f (rows_of width n t)))
          (let e : length (text (map f (rows_of width n t))) ≡ line * n = lines_length f line l (rows_of width n t) ∙ ap (λ (j : ℕ). line * j) (rows_length width n t) in omega arith);
    }

-- a row as it is lent
abbrev part : ℕ → List ℤ → ℕ → List ℤ
part width t i = take (width * i + width - width * i) (drop (width * i) t)

part_is : (width : ℕ) (t : List ℤ) (i : ℕ) → part width t i ≡ row_at width t i
part_is width t i = let e : width * i + width - width * i ≡ width = omega arith in rw e

module _ (f : List ℤ → Line) (width line : ℕ) (t : List ℤ) (n : ℕ) (r₀ r : Bytes) (at i e : ℕ) (g : Laying f width line t n r₀ r at i e) where
  owed : i < n → text (map f (drop i (rows_of width n t))) ≡ text (f (row_at width t i) ∷ []) ++ text (map f (drop (i + 1) (rows_of width n t)))
  unfolding text
  owed h = rw (rows_next width n t i h) (sym (append_assoc (f (row_at width t i)) (LF ∷ []) (text (map f (drop (i + 1) (rows_of width n t))))))

  pub laying_next : i < n → (r' : Bytes) (e' : ℕ) → Field r r' e line (text (f (part width t i) ∷ [])) e' → Laying f width line t n r₀ r' at (i + 1) e'
  laying_next h r' e' l =
      let l' : Laid r r' e (text (f (row_at width t i) ∷ [])) e' = subst (λ (x : List ℤ). Laid r r' e (text (f x ∷ [])) e') (part_is width t i) l.laid in
      let s : line * (i + 1) ≡ line * i + line = ap (λ (j : ℕ). line * j) (add-one i) ∙ mul-suc line i in
      record {
        inside = g.inside;
        within = omega arith;
        room = g.room;
        place = omega (arith, g.place, l.wide);
        size = l.laid.size ∙ g.size;
        owes = owes_next (rw (owed h) at g.owes) l';
      }

  pub laying_end : n ≤ i → Field r₀ r at (line * n) (text (map f (rows_of width n t))) e
  unfolding text
  laying_end h =
      let k : i ≡ n = omega (arith, g.within) in
      let d : drop i (rows_of width n t) ≡ [] = drop_of_length-le (rows_of width n t) {i = i} (omega (arith, rows_length width n t)) in
      record {
        laid = owes_end (subst (λ (ts : List (List ℤ)). Owes r₀ r at e (text (map f (rows_of width n t))) (text (map f ts))) d g.owes);
        wide = subst (λ (j : ℕ). e ≡ at + line * j) k g.place;
      }

  pub laying_size : length r ≡ length r₀
  laying_size = g.size

-- a row has its length
pub part_long : (width : ℕ) (t : List ℤ) (n i : ℕ) → width * n ≤ length t → i < n → length (part width t i) ≡ width
part_long width t n i h k =
    let s : width * suc i ≤ width * n = mul-le-mul_left width k in
    ap length (part_is width t i) ∙ length-take width (drop (width * i) t) ∙ omega (arith, mul-suc width i, length-drop (width * i) t)

-- ---- The symbols of atoms that can be written

rows_each : (width : ℕ) (P : List ℤ → Type 0) (ts : List (List ℤ)) → R.Rows width P ts → (i : ℕ) → i < length ts → P (get_or ts i [])
unfolding R.Rows
rows_each width P [] h i k = absurd (omega arith)
rows_each width P (t ∷ ts) h zero k = h.0.1
rows_each width P (t ∷ ts) h (suc i) k = rows_each width P ts h.1 i (omega arith)

module _ (n : ℕ) (t : List ℤ) (w : WritableAtoms n t) (i : ℕ) (h : i < n) where
  row_good : WritableAtom n (atom_row (part 16 t i))
  unfolding WritableAtoms
  row_good =
      subst (λ (x : List ℤ). WritableAtom n (atom_row x)) (rows_at 16 n t i h ∙ sym (part_is 16 t i))
      (rows_each 16 (λ (x : List ℤ). WritableAtom n (atom_row x)) (rows_of 16 n t) w i (omega (arith, rows_length 16 n t)))

  pub symbol_least : 1 ≤ nat_abs (get_or (part 16 t i) 3 (pos 0))
  symbol_least = (sized 1 symbols_all (get_or (part 16 t i) 3 (pos 0)) row_good.symbol).0

  pub symbol_most : nat_abs (get_or (part 16 t i) 3 (pos 0)) ≤ symbols_all
  symbol_most = (sized 1 symbols_all (get_or (part 16 t i) 3 (pos 0)) row_good.symbol).1

pub ruleset laying_laws = (atom_long, bond_long, laying_start, laying_next, laying_end, laying_size, part_long, symbol_least, symbol_most)
