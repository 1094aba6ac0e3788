-- `reader_rows::clear` meets its contract.
use Rattle.std.proofs.Common.{ℕ, ◌≡◌, ◌∙◌, ap, List, ◌++◌, rules, drop, replicate, length-take-le}
use Rattle.reader_rows.specs.Says.{row_places, emptied}
use Rattle.reader_rows.proofs.clear.Goals as goal

emptied_by : (ws zs : List ℕ) → zs ≡ replicate row_places 0 → zs ++ drop row_places ws ≡ emptied ws
unfolding emptied
emptied_by ws zs e = rw e

pub returns : goal.returns
returns c =
    emptied_by c.args.rows.now c.fill.new.self
    (c.fill.ensures.after (λ y h. search rules) ∙ ap (λ (k : ℕ). replicate k 0) (length-take-le row_places c.args.rows.now c.requires))
