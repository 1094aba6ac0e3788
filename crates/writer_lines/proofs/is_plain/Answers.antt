-- `writer_lines::is_plain` meets its contract.
use borrow.Author.Rules.{rules}
use Rattle.writer_lines.specs.Zeros.{zeros_laws}
use Rattle.writer_lines.proofs.is_plain.Goals as goal

pub returns-then-are_zeros : goal.returns-then-are_zeros
returns-then-are_zeros c = search (rules, zeros_laws)

pub returns : goal.returns
returns c = search (rules, zeros_laws)
