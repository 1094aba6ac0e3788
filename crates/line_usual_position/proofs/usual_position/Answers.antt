-- `line_usual_position::usual_position` meets its contract.
use native.Mathlib.Omega.{arith}
use borrow.Author.Rules.{rules}
use Rattle.line_usual_position.specs.Usual.{line_said}
use Rattle.line_usual_position.proofs.usual_position.Goals as goal

pub coordinate-requires : goal.coordinate-requires
coordinate-requires c = (omega arith, omega arith, (c.is_usual.ensures (search rules)).0)

pub coordinate-requires-then-is_usual : goal.coordinate-requires-then-is_usual
coordinate-requires-then-is_usual c = (omega arith, omega arith, (c.is_usual.ensures (search rules)).1)

pub coordinate-requires-then-is_usual-2 : goal.coordinate-requires-then-is_usual-2
coordinate-requires-then-is_usual-2 c = (omega arith, omega arith, (c.is_usual.ensures (search rules)).2)

pub returns-then-is_usual : goal.returns-then-is_usual
returns-then-is_usual c = let u = c.is_usual.ensures (search rules) in
    search (rules, line_said, u)
