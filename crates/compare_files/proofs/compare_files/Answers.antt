use borrow.Author.Rules.{rules}
use Rattle.compare_files.specs.Listing.{files_short, long_rooms, files_long}
use Rattle.compare_files.proofs.compare_files.Goals as goal

pub returns-then-is_short : goal.returns-then-is_short
returns-then-is_short c = search (rules, files_short)

pub compare_judged-answer-requires : goal.compare_judged-answer-requires
compare_judged-answer-requires c =
    let s = c.args in
    long_rooms s.ta.now s.tb.now s.ua.now s.ub.now _ c.is_short.ensures c.if-is_short.false

pub returns : goal.returns
returns c =
    let j = c.compare_judged-answer.ensures in
    files_long _ _ _ _ _ _ _ _ c.is_short.ensures c.if-is_short.false _ _ _ _ _ _ _ _ _ _ j.value j.list_after j.kept
    c.zero_rows.ensures c.zero_rows-2.ensures c.zero_rows-3.ensures c.zero_rows-4.ensures
