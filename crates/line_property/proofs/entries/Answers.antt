use Rattle.std.proofs.Common.{◌≡◌, ◌+◌, ◌*◌, ◌-◌, arith, rules}
use Rattle.line_property.specs.Entering.{entering, entry_refused}
use Rattle.line_property.proofs.entries.Goals as goal

pub returns-in_err-entry : goal.returns-in_err-entry
returns-in_err-entry c = record {
  listed_after = entry_refused _ _ _ _ c.from_residual.ensures.1 (search (rules, entering, c.in_err-entry.was));
  listed_len_unchanged = search (rules, entering);
}

pub loop-k-preserved : goal.loop-k-preserved
loop-k-preserved c =
    let k = c.loop-k.k in
    let i : 10 + 8 * (k + 1) ≡ 10 + 8 * k + 8 = omega arith in
    let left : c.args.count - (k + 1) ≡ c.args.count - k - 1 = omega arith in
    rw (i, left) (search (rules, entering, c.in_ok-entry.was))
