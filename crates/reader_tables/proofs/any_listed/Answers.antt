-- `reader_tables::any_listed` meets its contract.
use Rattle.std.proofs.Common.{◌+◌, ◌-◌, ◌≡◌, ◌∙◌, arith}
use Rattle.reader_tables.proofs.Meaning.{any_part}
use Rattle.reader_tables.proofs.any_listed.Goals as goal

pub returns : goal.returns
returns c =
    let e : c.args.from + 1 + c.args.n - (c.args.from + 1) ≡ c.args.n = omega arith in
    (rw e at c.any_used.ensures) ∙ any_part c.args.listed.now c.args.from c.args.n (omega arith)
