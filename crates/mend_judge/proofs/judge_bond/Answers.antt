use Rattle.mend_judge.specs.Bonds.{bond_laws}
use borrow.Author.Rules.{rules}
use Rattle.mend_judge.proofs.judge_bond.Goals as goal

pub returns-then-repeats : goal.returns-then-repeats
returns-then-repeats c = search (rules, bond_laws)

pub returns : goal.returns
returns c = search (rules, bond_laws)
