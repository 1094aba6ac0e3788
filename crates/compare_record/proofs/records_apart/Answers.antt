use borrow.Author.Rules.{rules}
use Rattle.compare_record.specs.Heads.{record_noted}
use Rattle.compare_record.proofs.records_apart.Goals as goal

pub items_apart-requires : goal.items_apart-requires
items_apart-requires c = c.requires.position_bound.0

pub returns : goal.returns
returns c = let s = c.args in
    record_noted s.position s.ha.now s.hb.now s.x s.y s.ta.now s.tb.now s.ua.now s.ub.now s.ia.now s.ib.now _ _ _ _ _ _
    c.headers_apart-c.ensures c.counts_apart-d.ensures c.rows_apart-e.ensures c.rows_apart-f.ensures c.items_apart.ensures
