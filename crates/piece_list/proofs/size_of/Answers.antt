-- `piece_list::size_of` meets its contract.
use borrow.Author.Rules.{rules}
use mathlib.Core.Path.{◌∙◌}
use Rattle.piece_list.proofs.Gathering.{gathering_start, gathering_miss, gathering_hit, gathering_end}
use Rattle.piece_list.proofs.size_of.Goals as goal
use Rattle.piece_list.proofs.size_of.Goals.{then-labels-j, else-labels-j}

pub loop-j-init : goal.loop-j-init
loop-j-init c = gathering_start _ _ _ (search rules) c.requires.2

pub loop-j-preserved : goal.loop-j-preserved
loop-j-preserved c =
    elim c.if-labels-j.branch [
      | then-labels-j w ↦ gathering_hit _ _ _ _ _ c.loop-j.invariant (search rules) (search rules) _ w.if-labels-j.true (w.atoms-is ∙ w.put.ensures)
      | else-labels-j w ↦ rw w.atoms-is (gathering_miss _ _ _ _ _ c.loop-j.invariant (search rules) (search rules) w.if-labels-j.false)
    ]

pub returns : goal.returns
returns c = gathering_end _ _ _ _ _ _ c.loop-j.invariant (search rules) (search rules) c.size.ensures
