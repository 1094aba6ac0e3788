use mathlib.Core.Path.{refl}
use Rattle.formula_sums.specs.Adds.{line_formula, line_none}
use Rattle.formula_sums.proofs.count_formula.Goals as goal

pub returns-then-is_formula : goal.returns-then-is_formula
returns-then-is_formula c =
    record {
      value = line_formula c.args.line.now c.is_formula.ensures c.if-is_formula.true c.count_shallow.ensures.value;
      counts_after = c.count_shallow.ensures.counts_after;
    }

pub returns : goal.returns
returns c =
    let k = line_none c.args.line.now c.is_formula.ensures c.if-is_formula.false _ refl in
    record { value = k.0; counts_after = k.1 }
