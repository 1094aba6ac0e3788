-- A test that is computed over a whole list, and the law that takes it to each entry.
use Rattle.std.specs.Prelude.{ℕ, zero, suc, ◌+◌, ◌<◌, ◌≡◌, List, [], ◌∷◌, Bool, true, ◌&&◌, get_or, length}
use Rattle.std.proofs.Common.{arith, add-zero}
use Rattle.text.specs.Laws.{and_true}

-- the test passes at each entry with its place, where the first has place i
unfoldable pub passes : {A : Type 0} → (ℕ → A → Bool) → ℕ → List A → Bool
passes p i [] = true
passes p i (x ∷ xs) = p i x && passes p (suc i) xs

pub passes_at : {A : Type 0} (p : ℕ → A → Bool) (d : A) (xs : List A) (i k : ℕ) → passes p i xs ≡ true → k < length xs → p (i + k) (get_or xs k d) ≡ true
unfolding passes
passes_at p d [] i k h l = absurd (omega arith)
passes_at p d (x ∷ xs) i zero h l = rw (add-zero i) (and_true (p i x) (passes p (suc i) xs) h).0
passes_at p d (x ∷ xs) i (suc k) h l =
    let e : i + suc k ≡ suc i + k = omega arith in
    rw e (passes_at p d xs (suc i) k (and_true (p i x) (passes p (suc i) xs) h).1 (omega arith))
