-- Once the rest is cleared, the tables are as they are promised.
use Rattle.std.specs.Prelude.{ℕ, ◌-◌, ◌≤◌, ◌≡◌, List, ◌++◌, length, drop, replicate, ℤ, pos}
use Rattle.std.proofs.Common.{arith, sym, ap, ap₂, ◌∙◌, append_assoc, length-append, length-drop, drop_at}
use Rattle.std.proofs.lemmas.List.{length-replicate}
use Rattle.reader_tables.specs.Row.{Holds}
use Rattle.reader_tables.specs.Filled.{cleared, filled}

-- u was t before the reading; the walk and the meaning leave everything from the limit on as it was
module _ (cap : ℕ) (t u : List ℤ) (past : drop cap u ≡ drop cap t) where
  pub cleared_filled : (vs : List ℤ) → Holds u vs → cleared u (length vs) cap ≡ filled cap t vs
  cleared_filled vs h = ap₂ (λ (x y : List ℤ). x ++ (replicate (cap - length vs) (pos 0) ++ y)) h past

pub length_filled : (cap : ℕ) (t vs : List ℤ) → cap ≤ length t → length vs ≤ cap → length (filled cap t vs) ≡ length t
length_filled cap t vs h k =
    length-append vs (replicate (cap - length vs) (pos 0) ++ drop cap t)
    ∙ omega (arith, length-append (replicate (cap - length vs) (pos 0)) (drop cap t), length-replicate (cap - length vs) (pos 0), length-drop cap t)

pub filled_past : (cap : ℕ) (t vs : List ℤ) → length vs ≤ cap → drop cap (filled cap t vs) ≡ drop cap t
filled_past cap t vs k =
    let zeros : List ℤ = replicate (cap - length vs) (pos 0) in
    ap (drop cap) (sym (append_assoc vs zeros (drop cap t)))
    ∙ drop_at (vs ++ zeros) (drop cap t) cap (length-append vs zeros ∙ omega (arith, length-replicate (cap - length vs) (pos 0)))
