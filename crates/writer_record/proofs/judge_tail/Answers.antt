-- `writer_record::judge_tail` meets its contract.
use Rattle.std.proofs.Common.{rules}
use Rattle.std.proofs.lemmas.Result.{err_from_is_err_and}
use Rattle.writer_record.specs.Measure.{part_laws}
use Rattle.writer_record.proofs.judge_tail.Goals as goal

pub returns-in_err-size : goal.returns-in_err-size
returns-in_err-size c =
    let p = err_from_is_err_and c.from_residual.result c.from_residual.ensures.1 in
    rw (p.1, p.2) (search (part_laws, c.in_err-size.was))

pub returns : goal.returns
returns c = search (rules, part_laws, c.in_ok-size.was)
