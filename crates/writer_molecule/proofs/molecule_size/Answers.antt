-- `writer_molecule::molecule_size` meets its contract.
use native.Mathlib.Omega.{arith}
use Rattle.writer_molecule.specs.Sizes.{kinds_most}
use borrow.Author.Rules.{rules}
use Rattle.writer_molecule.proofs.molecule_size.Goals as goal

pub overflow_add-result-3 : goal.overflow_add-result-3
overflow_add-result-3 c = let s = c in omega (arith, kinds_most s.args.n s.args.atoms.now s.requires.1.0)

pub overflow_add-result-4 : goal.overflow_add-result-4
overflow_add-result-4 c = let s = c in omega (arith, kinds_most s.args.n s.args.atoms.now s.requires.1.0)

pub overflow_add-result-5 : goal.overflow_add-result-5
overflow_add-result-5 c = let s = c in omega (arith, kinds_most s.args.n s.args.atoms.now s.requires.1.0)

pub overflow_add-result-6 : goal.overflow_add-result-6
overflow_add-result-6 c = let s = c in omega (arith, kinds_most s.args.n s.args.atoms.now s.requires.1.0)
