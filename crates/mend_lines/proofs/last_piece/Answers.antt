use Rattle.mend_lines.specs.Deeds.{piece_laws}
use borrow.Author.Rules.{rules}
use Rattle.mend_lines.proofs.last_piece.Goals as goal

pub returns-then-s-n-eq13 : goal.returns-then-s-n-eq13
returns-then-s-n-eq13 c = search (rules, piece_laws)

pub returns : goal.returns
returns c = search (rules, piece_laws)
