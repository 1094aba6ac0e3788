-- `piece_record::split_record` meets its contract.
use borrow.Author.Rules.{rules}
use mathlib.Core.Path.{refl}
use Rattle.piece_record.specs.Promised.{read_table, promise_split, promise_refused}
use Rattle.piece_record.proofs.split_record.Goals as goal

pub split_read-requires : goal.split_read-requires
split_read-requires c = let read = c.read_plain.ensures in
    read_table _ _ _ _ _ _ _ _ _ _ _ _ _ _ _ read.read_promise c.in-Read.is

pub returns-in-Read : goal.returns-in-Read
returns-in-Read c = let read = c.read_plain.ensures in
    promise_split _ _ _ _ _ _ _ _ _ _ _ _ _ _ _ _ _ _ read.read_promise c.in-Read.is c.split_read.ensures

pub returns-in-Refused : goal.returns-in-Refused
returns-in-Refused c = let read = c.read_plain.ensures in
    promise_refused _ _ _ _ _ _ _ _ _ _ _ _ _ read.read_promise c.in-Refused.is refl c.clear_lists.ensures
