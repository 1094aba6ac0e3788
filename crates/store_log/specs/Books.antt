-- The books: over any log the sum of paper quantities is the accepted receipts minus the accepted issues.
use Rattle.std.specs.Prelude.{ℕ, ◌≡◌, refl, [], ◌∷◌, Bool, true, false, cond}
use Rattle.std.proofs.Common.{ap, true≢false}
use Rattle.store_log.specs.Log.{Bytes}
use Rattle.store_log.specs.Store.{Store, same_bytes, known, paper_of, with_paper}

-- ---- One event

pub unknown_paper : (key : Bytes) (ls : Store) → known key ls ≡ false → paper_of key ls ≡ 0
unfolding known paper_of
unknown_paper key [] h = refl
unknown_paper key (l ∷ ls) h = go (same_bytes key l.key) h (unknown_paper key ls)
  where
    go : (t : Bool) → cond t true (known key ls) ≡ false → (known key ls ≡ false → paper_of key ls ≡ 0) → cond t l.paper (paper_of key ls) ≡ 0
    go true k again = absurd (true≢false k)
    go false k again = again k

pub unknown_same : (key : Bytes) (p : ℕ) (ls : Store) → known key ls ≡ false → with_paper key p ls ≡ ls
unfolding known with_paper
unknown_same key p [] h = refl
unknown_same key p (l ∷ ls) h = go (same_bytes key l.key) h (unknown_same key p ls)
  where
    go : (t : Bool) → cond t true (known key ls) ≡ false → (known key ls ≡ false → with_paper key p ls ≡ ls) →
        cond t (record { key = l.key; paper = p } ∷ ls) (l ∷ with_paper key p ls) ≡ l ∷ ls
    go true k again = absurd (true≢false k)
    go false k again = ap (λ (m : Store). l ∷ m) (again k)
