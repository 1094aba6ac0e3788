-- `writer_lines::put_bond` meets its contract.
use borrow.Author.Rules.{rules}
use Rattle.writer_lines.specs.LineParts.{bond_parts, bond_plain}
use Rattle.writer_lines.proofs.put_bond.Goals as goal

pub returns-then-are_zeros : goal.returns-then-are_zeros
returns-then-are_zeros c = search (rules, bond_plain)

pub returns : goal.returns
returns c = search (rules, bond_parts)
