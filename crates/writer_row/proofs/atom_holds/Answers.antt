-- `writer_row::atom_holds` meets its contract.
use Rattle.writer_row.specs.Row.{atom_holds}
use Rattle.writer_row.proofs.Steps.{tests}
use borrow.Author.Rules.{rules}
use Rattle.writer_row.proofs.atom_holds.Goals as goal

pub returns-then-not-place_holds : goal.returns-then-not-place_holds
unfolding atom_holds
returns-then-not-place_holds c = search tests depth 24 fits 20000

pub returns-then-not-numbers_hold : goal.returns-then-not-numbers_hold
unfolding atom_holds
returns-then-not-numbers_hold c = search tests depth 24 fits 20000

pub returns-then-not-codes_hold : goal.returns-then-not-codes_hold
unfolding atom_holds
returns-then-not-codes_hold c = search tests depth 24 fits 20000

pub returns : goal.returns
unfolding atom_holds
returns c = search tests depth 24 fits 20000
