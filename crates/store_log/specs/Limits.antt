-- The limits of a store that a replay makes: at most 512 lots, each with at most 1,000,000 on paper; and lots keep their places.
use Rattle.std.specs.Prelude.{ℕ, suc, ◌≤◌, ◌≡◌, refl, List, [], ◌∷◌, ◌++◌, map, Bool, true, false, cond, length}
use Rattle.std.proofs.Common.{arith, sym, ap, ◌∙◌}
use Rattle.store_log.specs.Log.{Bytes}
use Rattle.store_log.specs.Store.{Store, same_bytes, paper_of, with_paper, most_lots, most_paper}

abbrev pub keys_in : Store → List Bytes
keys_in ls = map (λ l. l.key) ls

unfoldable pub Within : Store → Type 0
Within [] = Unit {0}
Within (l ∷ ls) = (l.paper ≤ most_paper) × Within ls

-- ---- Keys keep their places

pub with_keys : (key : Bytes) (p : ℕ) (ls : Store) → keys_in (with_paper key p ls) ≡ keys_in ls
unfolding with_paper
with_keys key p [] = refl
with_keys key p (l ∷ ls) = go (same_bytes key l.key) (with_keys key p ls)
  where
    go : (t : Bool) → keys_in (with_paper key p ls) ≡ keys_in ls →
        keys_in (cond t (record { key = l.key; paper = p } ∷ ls) (l ∷ with_paper key p ls)) ≡ l.key ∷ keys_in ls
    go true again = refl
    go false again = ap (λ (ks : List Bytes). l.key ∷ ks) again

keys_length : (ls : Store) → length (keys_in ls) ≡ length ls
keys_length [] = refl
keys_length (l ∷ ls) = ap suc (keys_length ls)

pub with_length : (key : Bytes) (p : ℕ) (ls : Store) → length (with_paper key p ls) ≡ length ls
with_length key p ls = sym (keys_length (with_paper key p ls)) ∙ ap length (with_keys key p ls) ∙ keys_length ls

-- ---- Papers within the limit

pub paper_within : (key : Bytes) (ls : Store) → Within ls → paper_of key ls ≤ most_paper
unfolding Within paper_of
paper_within key [] w = omega arith
paper_within key (l ∷ ls) w = go (same_bytes key l.key) (paper_within key ls w.1)
  where
    go : (t : Bool) → paper_of key ls ≤ most_paper → cond t l.paper (paper_of key ls) ≤ most_paper
    go true again = w.0
    go false again = again

-- ---- One event, any log

pub record Sound (ls : Store) : Type 0 where
  pub few : length ls ≤ most_lots
  pub within : Within ls

-- the store after: sound, and its keys are those before, with one more at the end or none
pub record Keeps (ls ms : Store) : Type 0 where
  pub sound : Sound ms
  pub new : List Bytes
  pub one : length new ≤ 1
  pub keys : keys_in ms ≡ keys_in ls ++ new

pub sound_empty : Sound []
unfolding Within
sound_empty = record { few = omega arith; within = tt }
