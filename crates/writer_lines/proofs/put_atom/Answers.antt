-- `writer_lines::put_atom` meets its contract.
use borrow.Author.Rules.{rules}
use Rattle.writer_lines.specs.LineParts.{atom_parts, atom_plain}
use Rattle.writer_lines.proofs.put_atom.Goals as goal

pub returns-then-is_plain : goal.returns-then-is_plain
returns-then-is_plain c = search (rules, atom_plain)

pub returns : goal.returns
returns c = search (rules, atom_parts)
