-- `writer_lines::code_of_charge` meets its contract.
use borrow.Author.Rules.{rules}
use Rattle.writer_lines.specs.Signs.{code_laws}
use Rattle.writer_lines.proofs.code_of_charge.Goals as goal

pub returns-then-charge-eq3 : goal.returns-then-charge-eq3
returns-then-charge-eq3 c = search (rules, code_laws)

pub returns-then-charge-eq2 : goal.returns-then-charge-eq2
returns-then-charge-eq2 c = search (rules, code_laws)

pub returns-then-charge-eq1 : goal.returns-then-charge-eq1
returns-then-charge-eq1 c = search (rules, code_laws)

pub returns-then-charge-eqminus1 : goal.returns-then-charge-eqminus1
returns-then-charge-eqminus1 c = search (rules, code_laws)

pub returns-then-charge-eqminus2 : goal.returns-then-charge-eqminus2
returns-then-charge-eqminus2 c = search (rules, code_laws)

pub returns-then-charge-eqminus3 : goal.returns-then-charge-eqminus3
returns-then-charge-eqminus3 c = search (rules, code_laws)

pub returns : goal.returns
returns c = search (rules, code_laws)
