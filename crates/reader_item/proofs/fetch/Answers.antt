-- `reader_item::fetch` meets its contract.
use Rattle.reader_item.proofs.Hunting.{part_laws}
use Rattle.reader_item.proofs.Agree.{handed}
use borrow.Author.Rules.{rules}
use Rattle.reader_item.proofs.fetch.Goals as goal

pub slice_bounds-result-count : goal.slice_bounds-result-count
slice_bounds-result-count c = search (rules, part_laws)

pub slice_bounds-result-start : goal.slice_bounds-result-start
slice_bounds-result-start c = search (rules, part_laws)

pub slice_bounds-result-end : goal.slice_bounds-result-end
slice_bounds-result-end c = search (rules, part_laws)

pub returns : goal.returns
returns c = search (rules, handed)
