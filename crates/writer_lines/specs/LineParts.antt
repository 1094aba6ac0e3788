-- The parts of a line make the line.
use Rattle.std.specs.Prelude.{ℕ, zero, suc, ◌+◌, ◌-◌, ◌*◌, ◌≤◌, ◌<◌, ◌^◌, ◌≡◌, refl, List, [], ◌∷◌, ◌++◌, Bool, true, length, get_or, take, set, ℤ, pos, nat_abs}
use Rattle.std.proofs.Common.{add-one, sym, ap, ◌∙◌, subst, append_assoc, length-append, length-set, take-suc, take_all, to_z, of_z}
use native.Mathlib.Omega.{arith}
use Rattle.std.proofs.lemmas.List.Edits.{sets}
use Rattle.std.specs.Int.Signed.{mag}
use Rattle.std.specs.Int.{w32}
use Rattle.text.specs.Text.{Bytes, bytes, LF}
use Rattle.text.specs.Written.{text}
use Rattle.field_numbers.specs.Write.{number_text, signed_text}
use Rattle.field_numbers.specs.Written.{text_length, number_length, signed_length}
use Rattle.field_coordinates.specs.Write.{coordinate_text}
use Rattle.field_coordinates.specs.Written.{coordinate_length}
use Rattle.field_symbols.specs.Symbol.{symbols_all}
use Rattle.field_symbols.specs.Write.{symbol_text, symbol_length}
use Rattle.rules.specs.Write.{joined, counts_text, atom_text, bond_text}
use Rattle.rules.specs.Canon.{atom_of, bond_of, charge_code}
use Rattle.writer_lines.specs.Laid.{Laid, Field, laid_none, laid_join, field_put, field_join, Owes, owes_start, owes_next, owes_end}
use Rattle.writer_lines.specs.Lines.{atom_line, bond_line, columns_from, code_text, position_text, values_text, stereo_text, are_zeros, is_plain}
use Rattle.writer_lines.specs.Signs.{hop}
use Rattle.writer_lines.specs.Zeros.{values_plain, stereo_plain}

-- ---- While bytes are copied

pub record Copying (src r₀ r : Bytes) (at i : ℕ) : Type 0 where
  pub within : i ≤ length src
  pub room : at + length src ≤ length r₀
  pub laid : Laid r₀ r at (take i src) (at + i)
  pub size : length r ≡ length r₀

pub copying_start : (src r : Bytes) (at : ℕ) → at + length src ≤ length r → Copying src r r at 0
copying_start src r at h =
    let e : at + 0 ≡ at = omega arith in
    record { within = omega arith; room = h; laid = rw e (laid_none r at (omega arith)); size = refl }

pub laid_one : (r : Bytes) (at b : ℕ) → at < length r → Laid r (set r at b) at (b ∷ []) (at + 1)
laid_one r at b h = record { size = length-set r at b; next = refl; fits = omega arith; same = refl }

module _ (src r₀ r : Bytes) (at i : ℕ) (g : Copying src r₀ r at i) where
  pub copying_next : i < length src → Copying src r₀ (set r (at + i) (get_or src i 0)) at (i + 1)
  copying_next h =
      let t : take (i + 1) src ≡ take i src ++ (get_or src i 0 ∷ []) = ap (λ (k : ℕ). take k src) (add-one i) ∙ take-suc src i 0 h in
      let e : at + (i + 1) ≡ at + i + 1 = omega arith in
      record {
        within = omega arith;
        room = g.room;
        laid = rw (t, e) (laid_join g.laid (laid_one r (at + i) (get_or src i 0) (omega (arith, g.room, g.size))));
        size = length-set r (at + i) (get_or src i 0) ∙ g.size;
      }

  pub copying_end : length src ≤ i → Field r₀ r at (length src) src (at + i)
  copying_end h =
      record { laid = subst (λ (x : Bytes). Laid r₀ r at x (at + i)) (take_all i src h) g.laid; wide = omega (arith, g.within) }

  pub copying_size : length r ≡ length r₀
  copying_size = g.size

pub ruleset copying_laws = (copying_start, copying_next, copying_end, copying_size)

-- ---- What a leaf has put

module _ (r₀ r : Bytes) (at : ℕ) where
  pub number_put : (k : ℕ) → at + 3 ≤ length r₀ → r ≡ sets r₀ at (number_text 3 k) → Field r₀ r at 3 (number_text 3 k) (at + 3)
  number_put k h e = field_put r₀ r at 3 (number_text 3 k) (number_length 3 k) h e

  pub signed_put : (w : ℕ) (z : ℤ) → mag z < 2 ^ 31 → at + w ≤ length r₀ → r ≡ sets r₀ at (signed_text w (to_z w32 (of_z w32 z))) → Field r₀ r at w (signed_text w z) (at + w)
  signed_put w z m h e = field_put r₀ r at w (signed_text w z) (signed_length w z) h (rw (hop z m) at e)

  pub coordinate_put : (z : ℤ) → mag z < 2 ^ 31 → at + 10 ≤ length r₀ → r ≡ sets r₀ at (coordinate_text (to_z w32 (of_z w32 z))) → Field r₀ r at 10 (coordinate_text z) (at + 10)
  coordinate_put z m h e = field_put r₀ r at 10 (coordinate_text z) (coordinate_length z) h (rw (hop z m) at e)

  pub symbol_put : (z : ℤ) (k : ℕ) → mag z < 2 ^ 31 → k ≡ nat_abs (to_z w32 (of_z w32 z)) → at + 3 ≤ length r₀ → r ≡ sets r₀ at (symbol_text k) → Field r₀ r at 3 (symbol_text (nat_abs z)) (at + 3)
  symbol_put z k m s h e =
      let k_is : k ≡ nat_abs z = s ∙ ap nat_abs (hop z m) in
      field_put r₀ r at 3 (symbol_text (nat_abs z)) (symbol_length (nat_abs z)) h (e ∙ ap (λ (j : ℕ). sets r₀ at (symbol_text j)) k_is)

  pub code_put : (t : List ℤ) (x e : ℕ) → mag (get_or t 5 (pos 0)) < 2 ^ 31 → mag (get_or t 6 (pos 0)) < 2 ^ 31 →
      x ≡ charge_code (to_z w32 (of_z w32 (get_or t 5 (pos 0)))) (to_z w32 (of_z w32 (get_or t 6 (pos 0)))) → Field r₀ r at 3 (number_text 3 x) e → Field r₀ r at 3 (code_text t) e
  code_put t x e m k s l =
      let x_is : x ≡ charge_code (get_or t 5 (pos 0)) (get_or t 6 (pos 0)) = rw (hop (get_or t 5 (pos 0)) m, hop (get_or t 6 (pos 0)) k) at s in
      subst (λ (j : ℕ). Field r₀ r at 3 (number_text 3 j) e) x_is l

-- a size has the range of its number
module _ (z : ℤ) (k : ℕ) (m : mag z < 2 ^ 31) (s : k ≡ nat_abs (to_z w32 (of_z w32 z))) where
  size_is : k ≡ nat_abs z
  size_is = s ∙ ap nat_abs (hop z m)

  pub size_low : 1 ≤ nat_abs z → 1 ≤ k
  size_low h = rw size_is h

  pub size_high : nat_abs z ≤ symbols_all → k ≤ symbols_all
  size_high h = rw size_is h

pub ruleset put_laws = (number_put, signed_put, coordinate_put, symbol_put, code_put, size_low, size_high)

-- ---- While numbers of a row are written, three columns each

columns_length : (t : List ℤ) (i count : ℕ) → length (columns_from t i count) ≡ 3 * count
unfolding columns_from
columns_length t i zero = refl
columns_length t i (suc count) =
    length-append (number_text 3 (nat_abs (get_or t i (pos 0)))) (columns_from t (suc i) count)
    ∙ omega (arith, number_length 3 (nat_abs (get_or t i (pos 0))), columns_length t (suc i) count)

columns_next : (t : List ℤ) (k e : ℕ) → k < e → columns_from t k (e - k) ≡ number_text 3 (nat_abs (get_or t k (pos 0))) ++ columns_from t (k + 1) (e - (k + 1))
unfolding columns_from
columns_next t k e h = let d : e - k ≡ suc (e - (k + 1)) = omega arith in rw (d, add-one k)

pub record Columns (t : List ℤ) (r₀ r : Bytes) (at i e k a : ℕ) : Type 0 where
  pub low : i ≤ k
  pub high : k ≤ e
  pub inside : e ≤ length t
  pub room : at + 3 * (e - i) ≤ length r₀
  pub place : a + 3 * (e - k) ≡ at + 3 * (e - i)
  pub size : length r ≡ length r₀
  pub owes : Owes r₀ r at a (columns_from t i (e - i)) (columns_from t k (e - k))

pub columns_start : (t : List ℤ) (r : Bytes) (at i e : ℕ) → i ≤ e → e ≤ length t → at + 3 * (e - i) ≤ length r → Columns t r r at i e i at
columns_start t r at i e h l f =
    record {
      low = omega arith;
      high = h;
      inside = l;
      room = f;
      place = refl;
      size = refl;
      owes = owes_start r at (columns_from t i (e - i)) (omega (arith, columns_length t i (e - i)));
    }

module _ (t : List ℤ) (r₀ r : Bytes) (at i e k a : ℕ) (g : Columns t r₀ r at i e k a) where
  pub columns_more : k < e → (r' : Bytes) (x f : ℕ) → mag (get_or t k (pos 0)) < 2 ^ 31 → x ≡ nat_abs (to_z w32 (of_z w32 (get_or t k (pos 0)))) →
      Field r r' a 3 (number_text 3 x) f → Columns t r₀ r' at i e (k + 1) f
  columns_more h r' x f m s l =
      let x_is : x ≡ nat_abs (get_or t k (pos 0)) = s ∙ ap nat_abs (hop (get_or t k (pos 0)) m) in
      let l' : Laid r r' a (number_text 3 (nat_abs (get_or t k (pos 0)))) f = subst (λ (j : ℕ). Laid r r' a (number_text 3 j) f) x_is l.laid in
      record {
        low = omega (arith, g.low);
        high = omega arith;
        inside = g.inside;
        room = g.room;
        place = omega (arith, g.place, l.wide);
        size = l.laid.size ∙ g.size;
        owes = owes_next (rw (columns_next t k e h) at g.owes) l';
      }

  pub columns_end : e ≤ k → Field r₀ r at (3 * (e - i)) (columns_from t i (e - i)) a
  unfolding columns_from
  columns_end h =
      let z : e - k ≡ 0 = omega arith in
      record { laid = owes_end (rw z at g.owes); wide = omega (arith, g.place) }

  pub columns_size : length r ≡ length r₀
  columns_size = g.size

pub ruleset columns_laws = (columns_start, columns_more, columns_end, columns_size)

-- ---- Lines

counts_is_lem : (n m chiral : ℕ) →
    number_text 3 n ++ (number_text 3 m ++ (bytes "  0  0" ++ (number_text 3 chiral ++ (bytes "  0  0  0  0  0999 V2000" ++ (LF ∷ [])))))
    ≡ text (counts_text (record { atoms = n; bonds = m; chiral = chiral }) ∷ [])
unfolding text counts_text joined
counts_is_lem n m chiral = simp append_assoc

pub counts_length : (n m chiral : ℕ) → length (text (counts_text (record { atoms = n; bonds = m; chiral = chiral }) ∷ [])) ≡ 40
counts_length n m chiral = ap length (sym (counts_is_lem n m chiral)) ∙ simp (length-append, text_length)

pub counts_parts : (n m chiral : ℕ) {r₀ r₁ r₂ r₃ r₄ r₅ : Bytes} {at a b c d e : ℕ} →
    Field r₀ r₁ at 3 (number_text 3 n) a → Field r₁ r₂ a 3 (number_text 3 m) b → Field r₂ r₃ b 6 (bytes "  0  0") c → Field r₃ r₄ c 3 (number_text 3 chiral) d →
    Field r₄ r₅ d 25 (bytes "  0  0  0  0  0999 V2000" ++ (LF ∷ [])) e → Field r₀ r₅ at 40 (text (counts_text (record { atoms = n; bonds = m; chiral = chiral }) ∷ [])) e
counts_parts n m chiral {r₀} {r₅ = r₅} {at} {e = e} p q s t u =
    subst (λ (x : Bytes). Field r₀ r₅ at 40 x e) (counts_is_lem n m chiral) (field_join p (field_join q (field_join s (field_join t u))))

pub position_parts : (t : List ℤ) {r₀ r₁ r₂ r₃ r₄ : Bytes} {at a b c d : ℕ} →
    Field r₀ r₁ at 10 (coordinate_text (get_or t 0 (pos 0))) a → Field r₁ r₂ a 10 (coordinate_text (get_or t 1 (pos 0))) b →
    Field r₂ r₃ b 10 (coordinate_text (get_or t 2 (pos 0))) c → Field r₃ r₄ c 1 (bytes " ") d → Field r₀ r₄ at 31 (position_text t) d
unfolding position_text
position_parts t p q s l = field_join p (field_join q (field_join s l))

atom_is_lem : (t : List ℤ) → position_text t ++ (symbol_text (nat_abs (get_or t 3 (pos 0))) ++ values_text t) ≡ text (atom_line t ∷ [])
unfolding text atom_text atom_of joined position_text values_text columns_from
atom_is_lem t = simp append_assoc

pub values_parts : (t : List ℤ) {r₀ r₁ r₂ r₃ r₄ r₅ r₆ : Bytes} {at a b c d e f : ℕ} →
    Field r₀ r₁ at 2 (signed_text 2 (get_or t 4 (pos 0))) a → Field r₁ r₂ a 3 (code_text t) b → Field r₂ r₃ b 15 (columns_from t 8 5) c → Field r₃ r₄ c 6 (bytes "  0  0") d →
    Field r₄ r₅ d 9 (columns_from t 13 3) e → Field r₅ r₆ e 1 (LF ∷ []) f → Field r₀ r₆ at 36 (values_text t) f
unfolding values_text
values_parts t p q s u v w = field_join p (field_join q (field_join s (field_join u (field_join v w))))

module _ (t : List ℤ) {r₀ r₁ r₂ r₃ : Bytes} {at a b c : ℕ} (p : Field r₀ r₁ at 31 (position_text t) a) (q : Field r₁ r₂ a 3 (symbol_text (nat_abs (get_or t 3 (pos 0)))) b) where
  pub atom_parts : Field r₂ r₃ b 36 (values_text t) c → Field r₀ r₃ at 70 (text (atom_line t ∷ [])) c
  atom_parts s = subst (λ (x : Bytes). Field r₀ r₃ at 70 x c) (atom_is_lem t) (field_join p (field_join q s))

  pub atom_plain : (z : Bool) → z ≡ is_plain t → z ≡ true → Field r₂ r₃ b 36 (bytes " 0  0  0  0  0  0  0  0  0  0  0  0" ++ (LF ∷ [])) c →
      Field r₀ r₃ at 70 (text (atom_line t ∷ [])) c
  atom_plain z e h s = atom_parts (subst (λ (x : Bytes). Field r₂ r₃ b 36 x c) (sym (values_plain t (sym e ∙ h))) s)

bond_is_lem : (t : List ℤ) → columns_from t 0 3 ++ stereo_text t ≡ text (bond_line t ∷ [])
unfolding text bond_text bond_of joined columns_from stereo_text
bond_is_lem t = simp append_assoc

pub stereo_parts : (t : List ℤ) {r₀ r₁ r₂ r₃ r₄ r₅ : Bytes} {at a b c d e : ℕ} →
    Field r₀ r₁ at 3 (columns_from t 3 1) a → Field r₁ r₂ a 3 (bytes "  0") b → Field r₂ r₃ b 3 (columns_from t 4 1) c →
    Field r₃ r₄ c 3 (signed_text 3 (get_or t 5 (pos 0))) d → Field r₄ r₅ d 1 (LF ∷ []) e → Field r₀ r₅ at 13 (stereo_text t) e
unfolding stereo_text
stereo_parts t p q s u v = field_join p (field_join q (field_join s (field_join u v)))

module _ (t : List ℤ) {r₀ r₁ r₂ : Bytes} {at a b : ℕ} (p : Field r₀ r₁ at 9 (columns_from t 0 3) a) where
  pub bond_parts : Field r₁ r₂ a 13 (stereo_text t) b → Field r₀ r₂ at 22 (text (bond_line t ∷ [])) b
  bond_parts q = subst (λ (x : Bytes). Field r₀ r₂ at 22 x b) (bond_is_lem t) (field_join p q)

  pub bond_plain : (z : Bool) → z ≡ are_zeros t 3 3 → z ≡ true → Field r₁ r₂ a 13 (bytes "  0  0  0  0" ++ (LF ∷ [])) b →
      Field r₀ r₂ at 22 (text (bond_line t ∷ [])) b
  bond_plain z e h q = bond_parts (subst (λ (x : Bytes). Field r₁ r₂ a 13 x b) (sym (stereo_plain t (sym e ∙ h))) q)

pub ruleset line_parts = (counts_parts, position_parts, values_parts, atom_parts, atom_plain, stereo_parts, bond_parts, bond_plain)
