-- Entries of the store: a receipt for a lot never received makes one, also a receipt of 0; no issue and no count does; and each lot has one only.
use Rattle.std.specs.Prelude.{ℕ, ◌+◌, ◌-◌, ◌≤◌, ◌<◌, ◌≡◌, refl, [], ◌∷◌, ◌++◌, Bool, true, false, ltb, length}
use Rattle.std.proofs.Common.{arith, lt-ltb, le-ltb}
use Rattle.store_log.specs.Log.{Bytes}
use Rattle.store_log.specs.Store.{Store, known, paper_of, most_lots, most_paper, Told, receipt, issue_by, issue, count}
use Rattle.store_log.specs.Books.{unknown_paper, unknown_same}

-- ---- Which events make one

pub receipt_entry : (key : Bytes) (q : ℕ) (ls : Store) → known key ls ≡ false → q ≤ most_paper → length ls < most_lots →
    receipt key q ls ≡ record { told = Told.received q; store = ls ++ (record { key = key; paper = q } ∷ []) }
unfolding receipt
receipt_entry key q ls h b l =
    let z = unknown_paper key ls h in
    rw (le-ltb most_paper (paper_of key ls + q) (omega (arith, z, b)), h, lt-ltb (length ls) most_lots l)

pub issue_no_entry : (key : Bytes) (q : ℕ) (ls : Store) → known key ls ≡ false → (issue key q ls).store ≡ ls
unfolding issue
issue_no_entry key q ls h = go (ltb (paper_of key ls) q)
  where
    go : (t : Bool) → (issue_by t key q ls).store ≡ ls
    go true = refl
    go false = unknown_same key (paper_of key ls - q) ls h

pub count_no_entry : (key : Bytes) (shelf : ℕ) (ls : Store) → (count key shelf ls).store ≡ ls
unfolding count
count_no_entry key shelf ls = refl

-- ---- Each lot has one

unfoldable pub OneEach : Store → Type 0
OneEach [] = Unit {0}
OneEach (l ∷ ls) = (known l.key ls ≡ false) × OneEach ls
