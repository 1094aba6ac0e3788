-- `line_counts_bonds::counts_line` meets its contract.
use native.Mathlib.Omega.{arith}
use Rattle.line_fields.specs.Steps.{steps, field_most}
use Rattle.judge_line.specs.Judge.{counts_of}
use Rattle.line_counts_bonds.specs.Answer.{after_counts}
use Rattle.line_counts_bonds.proofs.counts_line.Goals as goal

pub returns-in_err-atoms : goal.returns-in_err-atoms
unfolding counts_of after_counts
returns-in_err-atoms c = search (steps, c.in_err-atoms.was) depth 24 fits 20000

pub returns-in_err-bonds : goal.returns-in_err-bonds
unfolding counts_of after_counts
returns-in_err-bonds c = search (steps, c.in_ok-atoms.was, c.in_err-bonds.was) depth 24 fits 20000

pub returns-then-enough_pairs : goal.returns-then-enough_pairs
unfolding counts_of after_counts
returns-then-enough_pairs c = search (steps, c.in_ok-atoms.was, c.in_ok-bonds.was) depth 24 fits 20000

pub returns-else-enough_pairs : goal.returns-else-enough_pairs
unfolding counts_of after_counts
returns-else-enough_pairs c = search (steps, c.in_ok-atoms.was, c.in_ok-bonds.was) depth 24 fits 20000

pub enough_pairs-requires : goal.enough_pairs-requires
enough_pairs-requires c =
    let a = field_most c.args.line.now 1 3 0 c.args.limit _ _ c.number_field.ensures c.in_ok-atoms.was in
    let b = field_most c.args.line.now 4 6 0 c.args.limit _ _ c.number_field-2.ensures c.in_ok-bonds.was in
    (omega (arith, c.requires), omega (arith, c.requires))
