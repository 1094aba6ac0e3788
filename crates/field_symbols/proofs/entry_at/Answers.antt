-- `field_symbols::entry_at` meets its contract: each arm by computing, what is left by one law.
use Rattle.field_symbols.specs.Places.{pick, entries, entries_from, place_of, rows, carbon_entry}
use Rattle.field_symbols.specs.Codes.{codes}
use Rattle.text.specs.Columns.{columns_for}
use Rattle.field_symbols.proofs.Codes.{Others, pick_none}
use Rattle.field_symbols.proofs.entry_at.Goals as goal

pub returns-in_default : goal.returns-in_default
unfolding Others pick rows place_of entries entries_from codes columns_for
returns-in_default c = pick_none carbon_entry c.args.place Unit entries c.in_default.in_default-own.rest
