use native.Mathlib.Omega.{arith}
use Rattle.formula_sums.specs.Adds.{shallow_empty, shallow_many, shallow_few, shallow_not}
use Rattle.formula_sums.proofs.count_shallow.Goals as goal

pub add_units-requires : goal.add_units-requires
add_units-requires c =
    let p = shallow_empty c.args.line.now c.is_formula.ensures c.if-is_formula.true c.args.counts.now c.requires in
    (omega arith, p.0, omega arith, p.1)

pub returns-then-too_many : goal.returns-then-too_many
returns-then-too_many c =
    let k = shallow_many c.args.line.now c.is_formula.ensures c.if-is_formula.true c.args.counts.now _ c.requires c.add_units.ensures c.too_many.ensures c.if-too_many.true in
    record { value = k.0; counts_after = k.1 }

pub returns-then-is_formula : goal.returns-then-is_formula
returns-then-is_formula c =
    let k = shallow_few c.args.line.now c.is_formula.ensures c.if-is_formula.true c.args.counts.now _ c.requires c.add_units.ensures c.too_many.ensures c.if-too_many.false in
    record { value = k.0; counts_after = k.1 }

pub returns : goal.returns
returns c =
    let k = shallow_not c.args.line.now c.is_formula.ensures c.if-is_formula.false c.args.counts.now c.requires in
    record { value = k.0; counts_after = k.1 }
