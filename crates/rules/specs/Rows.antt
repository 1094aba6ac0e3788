-- A flat table as its rows: so many numbers each, one row after the other.
use Rattle.std.specs.Prelude.{ℕ, zero, suc, ◌+◌, ◌*◌, ◌<◌, ◌≡◌, refl, List, [], ◌∷◌, length, get_or, take, drop, ℤ}
use Rattle.std.proofs.Common.{mul-suc, add-one, arith, ap, ◌∙◌, drop-drop, drop-cons}

-- the first n rows
unfoldable pub rows_of : ℕ → ℕ → List ℤ → List (List ℤ)
rows_of width zero t = []
rows_of width (suc n) t = take width t ∷ rows_of width n (drop width t)

-- row i, from 0
abbrev pub row_at : ℕ → List ℤ → ℕ → List ℤ
row_at width t i = take width (drop (width * i) t)

pub rows_length : (width n : ℕ) (t : List ℤ) → length (rows_of width n t) ≡ n
unfolding rows_of
rows_length width zero t = refl
rows_length width (suc n) t = ap suc (rows_length width n (drop width t))

pub rows_at : (width n : ℕ) (t : List ℤ) (i : ℕ) → i < n → get_or (rows_of width n t) i [] ≡ row_at width t i
unfolding rows_of
rows_at width zero t i h = absurd (omega arith)
rows_at width (suc n) t zero h = let e : width * 0 ≡ 0 = omega arith in rw e
rows_at width (suc n) t (suc i) h =
    let e : width * suc i ≡ width + width * i = mul-suc width i ∙ omega arith in
    rows_at width n (drop width t) i (omega arith) ∙ rw (drop-drop (width * i) width t, e)

-- one more row
pub rows_next : (width n : ℕ) (t : List ℤ) (i : ℕ) → i < n → drop i (rows_of width n t) ≡ row_at width t i ∷ drop (i + 1) (rows_of width n t)
rows_next width n t i h =
    drop-cons (rows_of width n t) i [] (omega (arith, rows_length width n t))
    ∙ rw (rows_at width n t i h, add-one i)
