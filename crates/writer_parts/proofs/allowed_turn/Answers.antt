-- `writer_parts::allowed_turn` meets its contract.
use Rattle.std.specs.Prelude.{Some, None}
use Rattle.writer_parts.proofs.Turns.{turn_laws}
use borrow.Author.Rules.{rules}
use Rattle.writer_parts.proofs.allowed_turn.Goals as goal

pub returns-in-Some : goal.returns-in-Some
returns-in-Some c = search (rules, turn_laws)

pub returns-in-None : goal.returns-in-None
returns-in-None c = search (rules, turn_laws)
