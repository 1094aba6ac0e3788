-- Bytes of a buffer moved to its front.
use Rattle.std.specs.Prelude.{ℕ, suc, ◌+◌, ◌-◌, ◌<◌, ◌≡◌, refl}
use Rattle.std.specs.List.{copy_within}
use Rattle.std.proofs.Common.{add-one, zero-add, ◌∙◌, length-take, take-suc, drop-cons, get_or-append-add, get_or-drop}
use native.Mathlib.Omega.{arith}
use Rattle.std.proofs.Math.Path.{sym, ap}
use mathlib.Core.List.{List, ◌∷◌, ◌++◌}
use Rattle.std.proofs.Math.ListN.{length, take, drop, get_or, set, length-drop}
use Rattle.std.proofs.Math.Seq.{append_snoc, set_at}

-- the first i of the bytes from `from` on stand at the front; what follows them is as it was
unfoldable pub moved : List ℕ → ℕ → ℕ → List ℕ
moved b from i = take i (drop from b) ++ drop i b

pub moved_none : (b : List ℕ) (from : ℕ) → b ≡ moved b from 0
unfolding moved
moved_none b from = refl

-- all of them at once
pub moved_whole : (b : List ℕ) (from to : ℕ) → copy_within b from to 0 ≡ moved b from (to - from)
unfolding moved
moved_whole b from to = ap (λ (k : ℕ). take (to - from) (drop from b) ++ drop k b) (zero-add (to - from))

module _ (b : List ℕ) (from i : ℕ) (h : from + i < length b) where
  front_length : length (take i (drop from b)) ≡ i
  front_length = simp (length-take, length-drop) (omega arith)

  -- what is moved next was not written over yet
  moved_byte : get_or (moved b from i) (from + i) 0 ≡ get_or b (from + i) 0
  unfolding moved
  moved_byte =
      let place : from + i ≡ length (take i (drop from b)) + from = omega (arith, front_length) in
      let swap : i + from ≡ from + i = omega arith in
      ap (λ (k : ℕ). get_or (take i (drop from b) ++ drop i b) k 0) place
      ∙ (get_or-append-add (take i (drop from b)) (drop i b) from 0 ∙ (get_or-drop i b from 0 ∙ ap (λ (k : ℕ). get_or b k 0) swap))

  moved_set : (a : ℕ) → set (moved b from i) i a ≡ take i (drop from b) ++ (a ∷ drop (suc i) b)
  unfolding moved
  moved_set a =
      let within : i < length b = omega arith in
      ap (λ (l : List ℕ). set (take i (drop from b) ++ l) i a) (drop-cons b i 0 within)
      ∙ set_at (take i (drop from b)) (get_or b i 0) (drop (suc i) b) a i front_length

  moved_more : take i (drop from b) ++ (get_or b (from + i) 0 ∷ drop (suc i) b) ≡ moved b from (suc i)
  unfolding moved
  moved_more =
      let within : i < length (drop from b) = simp length-drop (omega arith) in
      sym
      (ap (λ (l : List ℕ). l ++ drop (suc i) b) (take-suc (drop from b) i 0 within)
      ∙ (append_snoc (take i (drop from b)) (get_or (drop from b) i 0) (drop (suc i) b)
      ∙ ap (λ (v : ℕ). take i (drop from b) ++ (v ∷ drop (suc i) b)) (get_or-drop from b i 0)))

-- one byte more
pub moved_next : (b buf : List ℕ) (from i j : ℕ) → buf ≡ moved b from i → j ≡ from + i → j < length b → set buf i (get_or buf j 0) ≡ moved b from (i + 1)
moved_next b buf from i j e p h =
    let k : from + i < length b = omega arith in
    ap (λ (l : List ℕ). set l i (get_or l j 0)) e
    ∙ (ap (λ (n : ℕ). set (moved b from i) i (get_or (moved b from i) n 0)) p
    ∙ (ap (λ (v : ℕ). set (moved b from i) i v) (moved_byte b from i k)
    ∙ (moved_set b from i k (get_or b (from + i) 0)
    ∙ (moved_more b from i k ∙ ap (λ (n : ℕ). moved b from n) (sym (add-one i))))))
