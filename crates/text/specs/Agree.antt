-- Searches and tests say what the rules say; and laws on columns.
use Rattle.std.specs.Prelude.{Some, None, ℕ, zero, suc, ◌+◌, ◌-◌, ◌≤◌, ◌<◌, ◌≡◌, refl, ◌↔◌, [], ◌∷◌, ◌++◌, Bool, true, false, ◌&&◌, ◌||◌, eqb, ltb, length, get_or, take, drop}
use Rattle.std.proofs.Common.{not-suc-le-zero, le_of_suc-le-suc, add-zero, zero-add, add-suc, suc-add, arith, sym, ap, ap₂, ◌∙◌, subst, length-drop, drop_of_length-le, get_or-append-add, get_or-drop, eq-eqb, eqb-true, ltb-false, le-ltb}
use Rattle.std.proofs.Math.Bool.{and-eq-true_iff}
use Rattle.std.proofs.Math.ListN.{get_or-eq_default, get_or-append}
use Rattle.std.proofs.Math.Seq.{drop-append_seam}
use Rattle.std.proofs.lemmas.Bool.{not-false}
use Rattle.text.specs.Text.{Bytes, Line, byte, Each}
use Rattle.text.specs.Columns.{column, columns_for, columns, spaces, Space, Blank, SpacesFrom, Allowed}
use Rattle.text.specs.Laws.{or_false}
use Rattle.text.specs.Find.{is_bad, is_ink, bad_column, ink_column, is_blank, same_bytes, has_text}
use Rattle.text.specs.First.{each_as, first_within, first_nothing, nothing_first}

-- ---- tests on one byte

pub good_byte : (b : ℕ) → is_bad b ≡ false → Allowed b
good_byte b h = let n = or_false (ltb b 32) (ltb 126 b) h in (ltb-false b 32 n.0, ltb-false 126 b n.1)

pub byte_good : (b : ℕ) → Allowed b → is_bad b ≡ false
byte_good b a = rw (le-ltb b 32 a.0, le-ltb 126 b a.1)

pub no_ink : (b : ℕ) → is_ink b ≡ false → Space b
no_ink b h = eqb-true b (byte " ") (not-false (eqb b (byte " ")) h)

pub space_no_ink : (b : ℕ) → Space b → is_ink b ≡ false
space_no_ink b e = rw (eq-eqb b (byte " ") e)

-- ---- searches

pub bad_none : (l : Line) → (bad_column l ≡ None) ↔ Each Allowed l
unfolding bad_column
bad_none l = (λ h. each_as l good_byte (first_nothing is_bad 1 l h), λ a. nothing_first is_bad 1 l (each_as l byte_good a))

pub ink_none : (l : Line) (i : ℕ) → (ink_column l i ≡ None) ↔ SpacesFrom l i
unfolding ink_column
ink_none l i = (λ h. each_as (drop (i - 1) l) no_ink (first_nothing is_ink i (drop (i - 1) l) h), λ a. nothing_first is_ink i (drop (i - 1) l) (each_as (drop (i - 1) l) space_no_ink a))

pub blank_is : (l : Line) → (is_blank l ≡ true) ↔ Blank l
unfolding is_blank Each
blank_is l = (to l, back l)
  where
    to : (l : Line) → is_blank l ≡ true → Blank l
    to [] h = tt
    to (b ∷ l) h = let p = (and-eq-true_iff (eqb b (byte " ")) (is_blank l)).0 h in (eqb-true b (byte " ") p.0, to l p.1)

    back : (l : Line) → Blank l → is_blank l ≡ true
    back [] e = refl
    back (b ∷ l) e = rw (eq-eqb b (byte " ") e.0) (back l e.1)

pub same_bytes_lem : (a b : Bytes) → (same_bytes a b ≡ true) ↔ (a ≡ b)
unfolding same_bytes
same_bytes_lem a b = (to a b, λ e. subst (λ (x : Bytes). same_bytes a x ≡ true) e (back a))
  where
    to : (a b : Bytes) → same_bytes a b ≡ true → a ≡ b
    to [] [] h = refl
    to [] (y ∷ b) h = absurd (let z : ◌≡◌ {A = ℕ} 0 1 = cc in omega arith)
    to (x ∷ a) [] h = absurd (let z : ◌≡◌ {A = ℕ} 0 1 = cc in omega arith)
    to (x ∷ a) (y ∷ b) h = let p = (and-eq-true_iff (eqb x y) (same_bytes a b)).0 h in ap₂ (λ (v : ℕ) (vs : Bytes). v ∷ vs) (eqb-true x y p.0) (to a b p.1)

    back : (a : Bytes) → same_bytes a a ≡ true
    back [] = refl
    back (x ∷ a) = rw (eq-eqb x x refl) (back a)

pub has_text_is : (l : Line) (i : ℕ) (text : Bytes) → (has_text l i text ≡ true) ↔ (columns_for l i (length text) ≡ text)
unfolding has_text
has_text_is l i text = same_bytes_lem (columns_for l i (length text)) text

-- ---- where a search finds something

pub bad_within : (l : Line) (c : ℕ) → bad_column l ≡ Some c → (1 ≤ c) × (c ≤ length l)
unfolding bad_column
bad_within l c h = let w = first_within is_bad 1 c l h in omega arith

pub ink_within : (l : Line) (i c : ℕ) → ink_column l i ≡ Some c → (i ≤ c) × (c ≤ i + length l)
unfolding ink_column
ink_within l i c h = let w = first_within is_ink i c (drop (i - 1) l) h in omega (arith, length-drop (i - 1) l)

-- ---- columns

pub columns_length : (l : Line) (i w : ℕ) → length (columns_for l i w) ≡ w
unfolding columns_for
columns_length l i zero = refl
columns_length l i (suc w) = ap suc (columns_length l (suc i) w)

pub columns_none : (l : Line) (i : ℕ) → columns_for l i 0 ≡ []
unfolding columns_for
columns_none l i = refl

-- the first column and the others
pub columns_more : (l : Line) (i w : ℕ) → columns_for l i (suc w) ≡ column l i ∷ columns_for l (suc i) w
unfolding columns_for
columns_more l i w = refl

-- the same for the columns from i up to but not with e
pub columns_step : (l : Line) (i e : ℕ) → i < e → columns_for l i (e - i) ≡ column l i ∷ columns_for l (i + 1) (e - (i + 1))
unfolding columns_for
columns_step l i e h =
    let k : e - i ≡ suc (e - (i + 1)) = omega arith in
    let n : i + 1 ≡ suc i = omega arith in
    rw (k, n)

pub columns_over : (l : Line) (i e : ℕ) → e ≤ i → columns_for l i (e - i) ≡ []
unfolding columns_for
columns_over l i e h =
    let k : e - i ≡ 0 = omega arith in
    rw k

-- columns of two parts side by side
pub columns_join : (l : Line) (i v w : ℕ) → columns_for l i (v + w) ≡ columns_for l i v ++ columns_for l (i + v) w
unfolding columns_for
columns_join l i zero w = rw (zero-add w, add-zero i)
columns_join l i (suc v) w = rw (suc-add v w, add-suc i v, ← suc-add i v) (ap (λ (x : Bytes). column l i ∷ x) (columns_join l (suc i) v w))

pub columns_take : (l : Line) (i v w : ℕ) → take v (columns_for l i (v + w)) ≡ columns_for l i v
unfolding columns_for
columns_take l i zero w = refl
columns_take l i (suc v) w = rw (suc-add v w) (ap (λ (x : Bytes). column l i ∷ x) (columns_take l (suc i) v w))

pub columns_drop : (l : Line) (i v w : ℕ) → drop v (columns_for l i (v + w)) ≡ columns_for l (i + v) w
unfolding columns_for
columns_drop l i zero w = rw (zero-add w, add-zero i)
columns_drop l i (suc v) w = rw (suc-add v w, add-suc i v, ← suc-add i v) (columns_drop l (suc i) v w)

pub columns_get : (l : Line) (i k w d : ℕ) → k < w → get_or (columns_for l i w) k d ≡ column l (i + k)
unfolding columns_for
columns_get l i k zero d h = absurd (not-suc-le-zero h)
columns_get l i zero (suc w) d h = rw (add-zero i)
columns_get l i (suc k) (suc w) d h = rw (add-suc i k, ← suc-add i k) (columns_get l (suc i) k w d (le_of_suc-le-suc h))

-- two lines with the same columns
pub columns_same : (l m : Line) (i j w : ℕ) → ((k : ℕ) → k < w → column l (i + k) ≡ column m (j + k)) → columns_for l i w ≡ columns_for m j w
unfolding columns_for
columns_same l m i j zero h = refl
columns_same l m i j (suc w) h = ap₂ (λ (v : ℕ) (vs : Bytes). v ∷ vs) first (columns_same l m (suc i) (suc j) w others)
  where
    first : column l i ≡ column m j
    first = let q : column l (i + 0) ≡ column m (j + 0) = h 0 (omega arith) in rw (add-zero i, add-zero j) at q

    others : (k : ℕ) → k < w → column l (suc i + k) ≡ column m (suc j + k)
    others k r = let q : column l (i + suc k) ≡ column m (j + suc k) = h (suc k) (omega arith) in rw (add-suc i k, add-suc j k, ← suc-add i k, ← suc-add j k) at q

-- past the end of the line
pub column_past : (l : Line) (i : ℕ) → length l < i → column l i ≡ byte " "
column_past l i h = get_or-eq_default l (byte " ") (omega arith)

pub columns_past : (l : Line) (i w : ℕ) → length l < i → columns_for l i w ≡ spaces w
unfolding columns_for
columns_past l i zero h = refl
columns_past l i (suc w) h = ap₂ (λ (v : ℕ) (vs : Bytes). v ∷ vs) (column_past l i h) (columns_past l (suc i) w (omega arith))

-- columns of the first part of a line, and of what follows that part
pub columns_first : (a b : Line) (i w : ℕ) → 1 ≤ i → i + w ≤ suc (length a) → columns_for (a ++ b) i w ≡ columns_for a i w
columns_first a b i w one h = columns_same (a ++ b) a i i w (λ k r. get_or-append a b (byte " ") (i + k - 1) (omega arith))

pub columns_after : (a b : Line) (i w : ℕ) → columns_for (a ++ b) (length a + suc i) w ≡ columns_for b (suc i) w
columns_after a b i w = columns_same (a ++ b) b (length a + suc i) (suc i) w same
  where
    same : (k : ℕ) → k < w → column (a ++ b) (length a + suc i + k) ≡ column b (suc i + k)
    same k r =
        let p : length a + suc i + k - 1 ≡ length a + (i + k) = omega arith in
        let q : suc i + k - 1 ≡ i + k = omega arith in
        rw (p, q) (get_or-append-add a b (i + k) (byte " "))

pub columns_whole : (l : Line) → columns_for l 1 (length l) ≡ l
unfolding columns_for
columns_whole [] = refl
columns_whole (b ∷ l) = ap (λ (x : Bytes). b ∷ x) (columns_after (b ∷ []) l 0 (length l) ∙ columns_whole l)

pub columns_at : (a b c : Bytes) → columns_for (a ++ (b ++ c)) (suc (length a)) (length b) ≡ b
columns_at a b c =
    let p : suc (length a) ≡ length a + 1 = omega arith in
    rw p (columns_after a (b ++ c) 0 (length b)) ∙ columns_first b c 1 (length b) (omega arith) (omega arith) ∙ columns_whole b

-- the same by the first and the last column
pub columns_part : (a b c : Bytes) (i j : ℕ) → suc (length a) ≡ i → length a + length b ≡ j → columns (a ++ (b ++ c)) i j ≡ b
columns_part a b c i j p q =
    let w : suc j - i ≡ length b = omega arith in
    rw (w, sym p) (columns_at a b c)

pub column_at : (a : Bytes) (b : ℕ) (c : Bytes) → column (a ++ (b ∷ c)) (suc (length a)) ≡ b
column_at a b c =
    let p : suc (length a) - 1 ≡ length a + 0 = omega arith in
    rw p (get_or-append-add a (b ∷ c) 0 (byte " "))

-- a line that is shorter than its columns
pub columns_fill : (l : Line) (w : ℕ) → columns_for l 1 (length l + w) ≡ l ++ spaces w
columns_fill l w = columns_join l 1 (length l) w ∙ ap₂ (λ (x y : Bytes). x ++ y) (columns_whole l) (columns_past l (1 + length l) w (omega arith))

-- ---- spaces to the end of the line

pub each_get : (P : ℕ → Type 0) (xs : Bytes) (k d : ℕ) → P d → Each P xs → P (get_or xs k d)
unfolding Each
each_get P [] k d h e = h
each_get P (x ∷ xs) zero d h e = e.0
each_get P (x ∷ xs) (suc k) d h e = each_get P xs k d h e.1

pub spaces_blank : (k : ℕ) → Blank (spaces k)
unfolding Each
spaces_blank zero = tt
spaces_blank (suc k) = (refl, spaces_blank k)

pub spaces_at : (l : Line) (i j : ℕ) → 1 ≤ i → i ≤ j → SpacesFrom l i → column l j ≡ byte " "
spaces_at l i j one h e =
    let p : i - 1 + (j - i) ≡ j - 1 = omega arith in
    let q : get_or l (i - 1 + (j - i)) (byte " ") ≡ byte " " = sym (get_or-drop (i - 1) l (j - i) (byte " ")) ∙ each_get Space (drop (i - 1) l) (j - i) (byte " ") refl e in
    rw p at q

pub spaces_columns : (l : Line) (i w : ℕ) → 1 ≤ i → SpacesFrom l i → columns_for l i w ≡ spaces w
spaces_columns l i w one e = go i w one (λ j h. spaces_at l i j one h e)
  where
    go : (k w : ℕ) → 1 ≤ k → ((j : ℕ) → k ≤ j → column l j ≡ byte " ") → columns_for l k w ≡ spaces w
    go k zero o f = columns_none l k
    go k (suc w) o f = columns_more l k w ∙ ap₂ (λ (v : ℕ) (vs : Bytes). v ∷ vs) (f k (omega arith)) (go (suc k) w (omega arith) (λ j h. f j (omega arith)))

pub spaces_past : (l : Line) (i : ℕ) → length l < i → SpacesFrom l i
unfolding Each
spaces_past l i h =
    let s : length l ≤ i - 1 = omega arith in
    rw (drop_of_length-le l s) tt

pub spaces_after : (l : Line) (k : ℕ) → SpacesFrom (l ++ spaces k) (suc (length l))
spaces_after l k =
    let p : suc (length l) - 1 ≡ length l = omega arith in
    rw (p, drop-append_seam l (spaces k)) (spaces_blank k)
