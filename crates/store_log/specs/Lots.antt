-- Lots are told apart by bytes, and each lot's paper is its own accepted receipts minus its own accepted issues.
use Rattle.std.specs.Prelude.{ℕ, [], cond}
use Rattle.store_log.specs.Log.{Bytes, Kind, Event}
use Rattle.store_log.specs.Store.{same_bytes}

-- ---- One event

-- of this lot's events
abbrev pub received_for : Bytes → Event → ℕ
received_for key (Event.scan Kind.received k q) = cond (same_bytes key k) q 0
received_for key (Event.scan Kind.issued k q) = 0
received_for key (Event.scan Kind.counted k q) = 0
received_for key (Event.day date) = 0

abbrev pub issued_for : Bytes → Event → ℕ
issued_for key (Event.scan Kind.received k q) = 0
issued_for key (Event.scan Kind.issued k q) = cond (same_bytes key k) q 0
issued_for key (Event.scan Kind.counted k q) = 0
issued_for key (Event.day date) = 0
