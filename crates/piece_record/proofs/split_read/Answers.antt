-- `piece_record::split_read` meets its contract.
use mathlib.Core.Path.{refl}
use Rattle.piece_record.specs.Promised.{blank}
use Rattle.piece_record.proofs.split_read.Goals as goal

pub split-count-requires : goal.split-count-requires
split-count-requires c = (c.requires, refl, blank, blank)
