-- Laws on the codes of symbols: that a code stands for its three bytes, and that what code has by first letter is the table.
use Rattle.std.specs.Prelude.{Some, None}
use Prim.Native.Nat.{ℕ, suc, ◌+◌, ◌*◌, ◌-◌, ◌/◌, ◌%◌, ◌^◌, ◌≤◌, ◌<◌}
use Prim.Native.String.{String}
use native.Mathlib.Omega.{arith}
use mathlib.Core.Path.{◌≡◌, refl, sym, ap, ◌∙◌, subst}
use mathlib.Core.List.{List, [], ◌∷◌, map}
use mathlib.Core.Bool.{Bool, true, false, cond, ◌&&◌}
use lib.Dec.{eqb, ltb}
use lib.ListN.{get_or, length, set, length-map, get_or-map}
use lib.Seq.{sets}
use borrow.Author.Tests.{eq-eqb, ne_eqb, eqb-true, ltb-true}
use Rattle.text.specs.Text.{Bytes, Line, bytes}
use Rattle.text.specs.Columns.{column, columns, columns_for}
use Rattle.field_symbols.specs.Symbol.{names, symbols_all}
use Rattle.text.specs.Find.{same_bytes}
use Rattle.text.specs.Agree.{same_bytes_lem}
use Rattle.field_symbols.specs.Read.{among, symbol_in}
use Rattle.field_symbols.specs.Write.{symbol_text}
use Rattle.field_symbols.specs.Codes.{code_of, codes, number_of}
use Rattle.field_symbols.specs.Places.{pick, rows, place_of, entries, entries_from, carbon_entry, words, words_from, word_of}
use Rattle.field_symbols.specs.Agree.{is_number, is_number_lem}
use Rattle.text.specs.Laws.{and_true, get_d_any}
use Rattle.field_symbols.specs.Table.{passes, passes_at}

-- ---- Equal codes are equal bytes

is_byte : ℕ → Bool
is_byte b = ltb b 256

small : ℕ → String → Bool
small i s = is_byte (column (bytes s) 1) && (is_byte (column (bytes s) 2) && is_byte (column (bytes s) 3))

all_small : passes small 0 names ≡ true
unfolding passes small is_byte
all_small = refl

module _ (a b c : ℕ) (a< : a < 256) (b< : b < 256) (c< : c < 256) where
  same_code : (x y z : ℕ) → x < 256 → y < 256 → z < 256 →
      same_bytes (a ∷ b ∷ c ∷ []) (x ∷ y ∷ z ∷ []) ≡ eqb (code_of (x ∷ y ∷ z ∷ [])) (code_of (a ∷ b ∷ c ∷ []))
  same_code x y z x< y< z< = go (same_bytes (a ∷ b ∷ c ∷ []) (x ∷ y ∷ z ∷ [])) refl
    where
      go : (t : Bool) → same_bytes (a ∷ b ∷ c ∷ []) (x ∷ y ∷ z ∷ []) ≡ t → same_bytes (a ∷ b ∷ c ∷ []) (x ∷ y ∷ z ∷ []) ≡ eqb (code_of (x ∷ y ∷ z ∷ [])) (code_of (a ∷ b ∷ c ∷ []))
      go true e = e ∙ sym (eq-eqb (code_of (x ∷ y ∷ z ∷ [])) (code_of (a ∷ b ∷ c ∷ [])) (ap code_of (sym ((same_bytes_lem (a ∷ b ∷ c ∷ []) (x ∷ y ∷ z ∷ [])).0 e))))
      go false e =
          e ∙ sym (ne_eqb (code_of (x ∷ y ∷ z ∷ [])) (code_of (a ∷ b ∷ c ∷ []))
          (λ q.
          let s : c ≡ z = omega arith in
          let r : b ≡ y = omega arith in
          let p : a ≡ x = omega arith in
          let l : a ∷ b ∷ c ∷ [] ≡ x ∷ y ∷ z ∷ [] = cc in
          let t = (same_bytes_lem (a ∷ b ∷ c ∷ []) (x ∷ y ∷ z ∷ [])).1 l in
          let w : ◌≡◌ {A = ℕ} 0 1 = cc in
          omega arith))

  among_codes : (ss : List String) (i k : ℕ) → passes small i ss ≡ true →
      among (a ∷ b ∷ c ∷ []) k ss ≡ number_of (code_of (a ∷ b ∷ c ∷ [])) k (map (λ s. code_of (columns (bytes s) 1 3)) ss)
  unfolding among number_of passes small is_byte columns_for
  among_codes [] i k h = refl
  among_codes (s ∷ ss) i k h =
      let t = and_true (small i s) (passes small (suc i) ss) h in
      let u = and_true (is_byte (column (bytes s) 1)) (is_byte (column (bytes s) 2) && is_byte (column (bytes s) 3)) t.0 in
      let v = and_true (is_byte (column (bytes s) 2)) (is_byte (column (bytes s) 3)) u.1 in
      rw (
        same_code (column (bytes s) 1) (column (bytes s) 2) (column (bytes s) 3)
            (ltb-true (column (bytes s) 1) 256 u.0) (ltb-true (column (bytes s) 2) 256 v.0) (ltb-true (column (bytes s) 3) 256 v.1),
        among_codes ss (suc i) (suc k) t.1,
      )

  symbol_code : symbol_in (a ∷ b ∷ c ∷ []) ≡ number_of (code_of (a ∷ b ∷ c ∷ [])) 1 codes
  unfolding symbol_in codes
  symbol_code = among_codes names 0 1 all_small

three_columns : (l : Line) (i : ℕ) → columns l i (i + 2) ≡ column l i ∷ column l (i + 1) ∷ column l (i + 2) ∷ []
unfolding columns_for
three_columns l i =
    let e : suc (i + 2) - i ≡ 3 = omega arith in
    let f : i + 1 ≡ suc i = omega arith in
    let g : i + 2 ≡ suc (suc i) = omega arith in
    rw (e, f, g)

symbol_found : (l : Line) (i a b c : ℕ) → a ≡ column l i → b ≡ column l (i + 1) → c ≡ column l (i + 2) → a < 256 → b < 256 → c < 256 →
    number_of (a + b * 256 + c * 65536) 1 codes ≡ symbol_in (columns l i (i + 2))
symbol_found l i a b c p q r a< b< c< =
    let e : a ∷ b ∷ c ∷ [] ≡ column l i ∷ column l (i + 1) ∷ column l (i + 2) ∷ [] = cc in
    sym (ap symbol_in (three_columns l i ∙ sym e) ∙ symbol_code a b c a< b< c<)

pub code_found : (l : Line) (i a b c r : ℕ) → a ≡ column l i → b ≡ column l (i + 1) → c ≡ column l (i + 2) → a < 256 → b < 256 → c < 256 →
    r ≡ a + b * 256 + c * 65536 → number_of r 1 codes ≡ symbol_in (columns l i (i + 2))
code_found l i a b c r p q s a< b< c< e = rw e (symbol_found l i a b c p q s a< b< c<)

-- ---- The usual symbols

module _ (x : ℕ) where
  pub carbon : x ≡ 0x202043 → Some 6 ≡ number_of x 1 codes
  unfolding number_of codes columns_for
  carbon e = rw e

  pub nitrogen : x ≡ 0x20204e → Some 7 ≡ number_of x 1 codes
  unfolding number_of codes columns_for
  nitrogen e = rw e

  pub oxygen : x ≡ 0x20204f → Some 8 ≡ number_of x 1 codes
  unfolding number_of codes columns_for
  oxygen e = rw e

pub ruleset usual_laws = (carbon, nitrogen, oxygen)

-- ---- What a `match` answers

-- s is the first of no pair of the list, as the last arm of a `match` has it
unfoldable pub Others : ℕ → Type 0 → List (ℕ × ℕ) → Type 0
Others s A [] = A
Others s A (e ∷ es) = Others s (A × (s ≡ e.0 → ⊥)) es

others_known : (s : ℕ) (A : Type 0) (es : List (ℕ × ℕ)) → Others s A es → A
unfolding Others
others_known s A [] h = h
others_known s A (e ∷ es) h = (others_known s (A × (s ≡ e.0 → ⊥)) es h).0

pub pick_none : (d s : ℕ) (A : Type 0) (es : List (ℕ × ℕ)) → Others s A es → d ≡ pick d s es
unfolding Others pick
pick_none d s A [] h = refl
pick_none d s A (e ∷ es) h =
    let n = (others_known s (A × (s ≡ e.0 → ⊥)) es h).1 in
    rw (ne_eqb e.0 s (λ q. n (sym q)), ← pick_none d s (A × (s ≡ e.0 → ⊥)) es h)

-- a test that what the pairs answer passes
answers : (ℕ → Bool) → ℕ → (ℕ × ℕ) → Bool
answers p i e = p e.1

pick_passes : (p : ℕ → Bool) (d s i : ℕ) (es : List (ℕ × ℕ)) → p d ≡ true → passes (answers p) i es ≡ true → p (pick d s es) ≡ true
unfolding pick passes answers
pick_passes p d s i [] h t = h
pick_passes p d s i (e ∷ es) h t =
    go (eqb e.0 s) refl (pick_passes p d s (suc i) es h (and_true (p e.1) (passes (answers p) (suc i) es) t).1)
  where
    go : (b : Bool) → eqb e.0 s ≡ b → p (pick d s es) ≡ true → p (cond (eqb e.0 s) e.1 (pick d s es)) ≡ true
    go true q r = rw q (and_true (p e.1) (passes (answers p) (suc i) es) t).0
    go false q r = rw q r

-- ---- Reading: the lists by first letter are the table

small_row : ℕ → Bool
small_row n = ltb n 1000

rows_small : passes (answers small_row) 0 rows ≡ true
unfolding passes answers small_row rows
rows_small = refl

pub row_below : (s : ℕ) → pick 0 s rows < 1000
unfolding small_row
row_below s = ltb-true (pick 0 s rows) 1000 (pick_passes small_row 0 s 0 rows refl rows_small)

-- an entry has its code's number
right : ℕ → Bool
right e = is_number (e % 256) (number_of (e / 256) 1 codes)

all_right : passes (answers right) 0 entries ≡ true
unfolding passes answers right is_number number_of entries entries_from place_of pick rows codes columns_for
all_right = refl

carbon_right : right carbon_entry ≡ true
unfolding right is_number number_of codes columns_for
carbon_right = refl

pub entry_found : (s x : ℕ) → pick carbon_entry s entries / 256 ≡ x → Some (pick carbon_entry s entries % 256) ≡ number_of x 1 codes
unfolding right
entry_found s x e =
    let n = is_number_lem (pick carbon_entry s entries % 256) (number_of (pick carbon_entry s entries / 256) 1 codes) (pick_passes right carbon_entry s 0 entries carbon_right all_right) in
    sym (subst (λ (y : ℕ). number_of y 1 codes ≡ Some (pick carbon_entry s entries % 256)) e n)

-- a code is found at its place
entry_for : ℕ → ℕ
entry_for x = pick carbon_entry (place_of x) entries / 256

kept : ℕ → ℕ → Bool
kept i x = eqb (entry_for x) x

all_kept : passes kept 0 codes ≡ true
unfolding passes kept entry_for entries entries_from place_of pick rows codes columns_for
all_kept = refl

none_like : (x i k : ℕ) (xs : List ℕ) → passes kept i xs ≡ true → (entry_for x ≡ x → ⊥) → number_of x k xs ≡ None
unfolding passes kept number_of
none_like x i k [] t n = refl
none_like x i k (y ∷ ys) t n =
    let u = and_true (eqb (entry_for y) y) (passes kept (suc i) ys) t in
    let m : y ≡ x → ⊥ = λ q. n (subst (λ (z : ℕ). entry_for z ≡ z) q (eqb-true (entry_for y) y u.0)) in
    rw (ne_eqb y x m, none_like x (suc i) (suc k) ys u.1 n)

pub entry_lost : (x : ℕ) → (pick carbon_entry (place_of x) entries / 256 ≡ x → ⊥) → None ≡ number_of x 1 codes
unfolding entry_for
entry_lost x n = sym (none_like x 0 1 codes all_kept n)

-- as code asks: x is the code, r its row, e the entry at its place
module _ (x r e : ℕ) (p : r ≡ pick 0 (x % 32) rows) (q : e ≡ pick carbon_entry (r + x / 256 % 32) entries) where
  pub entry_taken : e / 256 ≡ x → Some (e % 256) ≡ number_of x 1 codes
  entry_taken h = rw q (entry_found (r + x / 256 % 32) x (rw (← q) h))

  pub entry_missed : (e / 256 ≡ x → ⊥) → None ≡ number_of x 1 codes
  unfolding place_of
  entry_missed n = entry_lost x (rw (← p, ← q) n)

pub row_fits : (r s : ℕ) → r ≡ pick 0 s rows → r < 1000
row_fits r s e = rw e (row_below s)

-- ---- Writing: the words are the table

letters_at : ℕ → ℕ
letters_at i = pick 0 (i / 4) words / 2 ^ (16 * (i % 4)) % 65536

spelled : ℕ → ℕ → Bool
spelled i x = eqb (letters_at i + 0x200000) x

all_spelled : passes spelled 0 codes ≡ true
unfolding passes spelled letters_at pick words words_from word_of codes columns_for
all_spelled = refl

pub codes_length : length codes ≡ symbols_all
unfolding codes
codes_length = refl

pub letters_told : (k w : ℕ) → 1 ≤ k → k ≤ symbols_all → w ≡ pick 0 ((k - 1) / 4) words → w / 2 ^ (16 * ((k - 1) % 4)) % 65536 + 0x200000 ≡ get_or codes (k - 1) 0
unfolding spelled letters_at
letters_told k w lo hi p =
    let e : 0 + (k - 1) ≡ k - 1 = omega arith in
    let t = subst (λ (i : ℕ). spelled i (get_or codes (k - 1) 0) ≡ true) e (passes_at spelled 0 codes 0 (k - 1) all_spelled (omega (arith, codes_length))) in
    rw p (eqb-true (letters_at (k - 1) + 0x200000) (get_or codes (k - 1) 0) t)

-- ---- A code gives its bytes back

three : ℕ → Bytes
three x = x % 256 ∷ x / 256 % 256 ∷ x / 65536 ∷ []

all_three : map three codes ≡ map (λ s. columns (bytes s) 1 3) names
unfolding three codes columns_for
all_three = refl

code_text_lem : (k : ℕ) → 1 ≤ k → k ≤ symbols_all → symbol_text k ≡ three (get_or codes (k - 1) 0)
unfolding symbol_text
code_text_lem k lo hi =
    sym (get_or-map (λ (s : String). columns (bytes s) 1 3) names (k - 1) "")
    ∙ ap (λ (l : List Bytes). get_or l (k - 1) (columns (bytes "") 1 3)) (sym all_three)
    ∙ get_d_any (map three codes) (k - 1) (columns (bytes "") 1 3) (three 0) (omega (arith, codes_length, length-map codes three))
    ∙ get_or-map three codes (k - 1) 0

two_bytes : ℕ → ℕ → Bool
two_bytes i x = ltb x 0x210000

all_two : passes two_bytes 0 codes ≡ true
unfolding passes two_bytes codes columns_for
all_two = refl

module _ (x k : ℕ) (lo : 1 ≤ k) (hi : k ≤ symbols_all) (e : x + 0x200000 ≡ get_or codes (k - 1) 0) where
  pub letters_below : x < 65536
  unfolding two_bytes
  letters_below =
      let b = ltb-true (get_or codes (k - 1) 0) 0x210000 (passes_at two_bytes 0 codes 0 (k - 1) all_two (omega (arith, codes_length))) in
      omega (arith, b, e)

  pub letters_written : (out : Bytes) (at : ℕ) → set (set (set out at (x % 256)) (at + 1) (x / 256)) (at + 2) 32 ≡ sets out at (symbol_text k)
  unfolding three
  letters_written out at =
      let f : at + 1 ≡ suc at = omega arith in
      let g : at + 2 ≡ suc (suc at) = omega arith in
      let b = letters_below in
      let l : (x + 0x200000) % 256 ≡ x % 256 = omega arith in
      let d : (x + 0x200000) / 256 ≡ x / 256 + 8192 = omega arith in
      let h : x / 256 < 256 = omega (arith, b) in
      let m : (x + 0x200000) / 256 % 256 ≡ x / 256 = rw d (omega (arith, h)) in
      let n : (x + 0x200000) / 65536 ≡ 32 = omega (arith, b) in
      rw (code_text_lem k lo hi, ← e, l, m, n, f, g)
