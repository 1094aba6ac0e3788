-- `writer_parts::first_turn` meets its contract.
use Rattle.std.proofs.Common.{rules}
use Rattle.writer_parts.proofs.Turns.{first_laws}
use Rattle.writer_parts.proofs.first_turn.Goals as goal

pub returns-in-Ok : goal.returns-in-Ok
returns-in-Ok c = search (rules, first_laws)

pub returns-in-Err : goal.returns-in-Err
returns-in-Err c = search (rules, first_laws)
