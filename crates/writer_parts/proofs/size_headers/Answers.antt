-- `writer_parts::size_headers` meets its contract.
use borrow.Author.Rules.{rules}
use Prim.Native.Nat.{◌-◌}
use lib.ListN.{length}
use Rattle.writer_parts.proofs.Sizing.{Heading, headers_laws}
use Rattle.writer_parts.proofs.size_headers.Goals as goal

pub loop-at-init : goal.loop-at-init
loop-at-init c = search (rules, headers_laws)

pub whole_line-line-requires : goal.whole_line-line-requires
whole_line-line-requires c = search (rules, headers_laws)

pub overflow_sub-size : goal.overflow_sub-size
overflow_sub-size c = search (rules, headers_laws)

pub overflow_add-size : goal.overflow_add-size
overflow_add-size c = search (rules, headers_laws)

pub overflow_add-size-in-loop-at : goal.overflow_add-size-in-loop-at
overflow_add-size-in-loop-at c = search (rules, headers_laws)

pub loop-at-smaller : goal.loop-at-smaller
loop-at-smaller c = search (rules, headers_laws)

pub loop-at-preserved : goal.loop-at-preserved
loop-at-preserved c = search (rules, headers_laws)

pub returns : goal.returns
returns c = search (rules, headers_laws)
