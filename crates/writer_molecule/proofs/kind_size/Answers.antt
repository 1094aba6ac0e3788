-- `writer_molecule::kind_size` meets its contract.
use native.Mathlib.Omega.{arith}
use Rattle.writer_molecule.specs.Sizes.{entries_most, kind_long}
use borrow.Author.Rules.{rules}
use Rattle.writer_molecule.proofs.kind_size.Goals as goal

pub overflow_add-result : goal.overflow_add-result
overflow_add-result c = omega (arith, entries_most c.args.kind c.args.n c.args.atoms.now)

pub overflow_mul-result : goal.overflow_mul-result
overflow_mul-result c = omega (arith, entries_most c.args.kind c.args.n c.args.atoms.now)

pub overflow_mul-result-2 : goal.overflow_mul-result-2
overflow_mul-result-2 c = omega (arith, entries_most c.args.kind c.args.n c.args.atoms.now)

pub overflow_add-result-2 : goal.overflow_add-result-2
overflow_add-result-2 c = omega (arith, entries_most c.args.kind c.args.n c.args.atoms.now)

pub returns : goal.returns
returns c = kind_long c.args.kind c.args.n c.args.atoms.now c.entry_count-k.result c.entry_count-k.ensures
