-- `writer_parts::line_turn` meets its contract.
use Rattle.writer_parts.proofs.Turns.{turn_laws}
use borrow.Author.Rules.{rules}
use Rattle.writer_parts.proofs.line_turn.Goals as goal

pub returns-then-most-line : goal.returns-then-most-line
returns-then-most-line c = search (rules, turn_laws)

pub allowed_turn-requires : goal.allowed_turn-requires
allowed_turn-requires c = search (rules, turn_laws)

pub returns : goal.returns
returns c = search (rules, turn_laws)
