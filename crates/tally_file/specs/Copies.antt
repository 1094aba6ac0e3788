-- One list copied over the first of another.
use Rattle.std.specs.Prelude.{ℕ, suc, ◌+◌, ◌≤◌, ◌<◌, ◌≡◌, refl, List, ◌++◌, length, get_or, set, take, drop}
use Rattle.std.proofs.Common.{arith, add-one, sym, ap, ◌∙◌, length-set, take-suc, drop-cons, length-take-le}
use Rattle.std.proofs.Math.Seq.{append_snoc}
use Rattle.std.proofs.lemmas.List.{set_at}
use Rattle.tally_file.specs.Promise.{over}

pub record Copying (n : ℕ) (xs ys₀ ys : List ℕ) (i : ℕ) : Type 0 where
  pub inside : i ≤ n
  pub room : n ≤ length ys₀
  pub source : n ≤ length xs
  pub size : length ys ≡ length ys₀
  pub same : ys ≡ over i xs ys₀

pub copying_start : (n : ℕ) (xs ys : List ℕ) → n ≤ length ys → n ≤ length xs → Copying n xs ys ys 0
copying_start n xs ys h k = record { inside = omega arith; room = h; source = k; size = refl; same = refl }

module _ (n : ℕ) (xs ys₀ ys : List ℕ) (i : ℕ) (g : Copying n xs ys₀ ys i) where
  pub copying_end : n ≤ i → ys ≡ over n xs ys₀
  copying_end h = let e : i ≡ n = omega (arith, g.inside) in g.same ∙ ap (λ (k : ℕ). over k xs ys₀) e

  pub copying_next : i < n → Copying n xs ys₀ (set ys i (get_or xs i 0)) (i + 1)
  copying_next h =
      let a : i < length ys₀ = omega (arith, g.room) in
      let b : i < length xs = omega (arith, g.source) in
      record {
        inside = omega arith;
        room = g.room;
        source = g.source;
        size = length-set ys i (get_or xs i 0) ∙ g.size;
        same =
            ap (λ (zs : List ℕ). set zs i (get_or xs i 0)) (g.same ∙ ap (λ (zs : List ℕ). take i xs ++ zs) (drop-cons ys₀ i 0 a))
            ∙ set_at (take i xs) (get_or ys₀ i 0) (drop (suc i) ys₀) (get_or xs i 0) i (length-take-le i xs (omega arith))
            ∙ sym (append_snoc (take i xs) (get_or xs i 0) (drop (suc i) ys₀))
            ∙ ap (λ (zs : List ℕ). zs ++ drop (suc i) ys₀) (sym (take-suc xs i 0 b))
            ∙ ap (λ (k : ℕ). over k xs ys₀) (sym (add-one i));
      }

  pub copying_write : i < n → i < length ys
  copying_write h = omega (arith, g.size, g.room)

  pub copying_read : i < n → i < length xs
  copying_read h = omega (arith, g.source)

  pub copying_size : length ys ≡ length ys₀
  copying_size = g.size

pub ruleset copy_laws = (copying_start, copying_end, copying_next, copying_write, copying_read, copying_size)
