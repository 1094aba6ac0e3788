use Rattle.mend_lines.specs.Deeds.{piece_laws}
use borrow.Author.Rules.{rules}
use Rattle.mend_lines.proofs.piece_at.Goals as goal

pub last_piece-requires : goal.last_piece-requires
last_piece-requires c = search (rules, piece_laws)

pub returns-in-Line : goal.returns-in-Line
returns-in-Line c = search (rules, piece_laws)
