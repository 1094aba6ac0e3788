-- `writer_parts::value_size` meets its contract.
use borrow.Author.Rules.{rules}
use Rattle.writer_parts.proofs.Sizing.{sized_laws}
use Rattle.writer_parts.proofs.value_size.Goals as goal

pub returns-then-is_blank : goal.returns-then-is_blank
returns-then-is_blank c = search (rules, sized_laws)

pub returns : goal.returns
returns c = search (rules, sized_laws)
