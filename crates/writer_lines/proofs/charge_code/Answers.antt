-- `writer_lines::charge_code` meets its contract.
use Rattle.writer_lines.specs.Signs.{code_laws}
use borrow.Author.Rules.{rules}
use Rattle.writer_lines.proofs.charge_code.Goals as goal

pub returns-then-radical-eq0 : goal.returns-then-radical-eq0
returns-then-radical-eq0 c = search (rules, code_laws)

pub returns-then-charge-eq0 : goal.returns-then-charge-eq0
returns-then-charge-eq0 c = search (rules, code_laws)

pub returns-then-radical-eq2 : goal.returns-then-radical-eq2
returns-then-radical-eq2 c = search (rules, code_laws)

pub returns : goal.returns
returns c = search (rules, code_laws)
