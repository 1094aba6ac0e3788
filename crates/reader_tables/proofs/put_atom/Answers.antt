-- `reader_tables::put_atom` meets its contract.
use Rattle.reader_tables.proofs.Stored.{atom_stored_lem}
use borrow.Author.Rules.{rules}
use Rattle.reader_tables.proofs.put_atom.Goals as goal

pub returns : goal.returns
returns c = search (rules, atom_stored_lem)
