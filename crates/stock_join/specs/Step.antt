-- What becomes of a record, and what a step answers and leaves in the lent memory.
use Rattle.std.specs.Prelude.{ℕ, ◌+◌, ◌-◌, ◌^◌, cond, eqb, ltb, get_or, set}
use Rattle.store_log.specs.Store.{most_lots}
use Rattle.store_event.specs.declared.Key.{Key}
use Rattle.store_lots.specs.Memory.{Words, place_from}
use Rattle.stock_key.specs.declared.KeyRead.{KeyRead}
use Rattle.stock_join.specs.declared.Fate.{Fate}
use Rattle.stock_join.specs.declared.Join.{Join}

-- ---- The fate of a record

unfoldable pub place_in : Key → Words → ℕ → Fate
place_in k keys lots =
    cond (ltb most_lots lots) Fate.Nowhere
    (cond (ltb (place_from keys k 0 lots) lots) (Fate.Under (place_from keys k 0 lots))
    Fate.Never)

abbrev pub fate_of : KeyRead → Words → ℕ → Fate
fate_of (KeyRead.Key k) keys lots = place_in k keys lots
fate_of (KeyRead.NoSupplier why) keys lots = Fate.Keyless
fate_of (KeyRead.NoLot why) keys lots = Fate.Keyless
fate_of (KeyRead.Refused e i column) keys lots = Fate.Nowhere

-- ---- One step

abbrev pub most : ℕ
most = 2 ^ 64 - 1

unfoldable pub up_to : ℕ → ℕ
up_to n = cond (eqb n most) n (n + 1)

abbrev pub fresh : Join
fresh = record { file = 0; number = 0; received = 0; never = 0; keyless = 0 }

abbrev pub next_file : Join → Join
next_file j = record { file = up_to j.file; number = 0; received = j.received; never = j.never; keyless = j.keyless }

-- a lot's records are counted at its place; the first one's file and number stand 512 and 1,024 places behind
unfoldable pub marked : Words → ℕ → ℕ → ℕ → Words
marked marks lot file number =
    cond (eqb (get_or marks lot 0) 0) (set (set (set marks (512 + lot) file) (1024 + lot) number) lot 1)
    (set marks lot (up_to (get_or marks lot 0)))

pub record After : Type 0 where
  pub join : Join
  pub marks : Words

abbrev pub after : Join → Words → After
after j marks = record { join = j; marks = marks }

unfoldable pub under_at : Join → ℕ → Words → After
under_at j lot marks =
    cond (ltb lot most_lots)
    (after (record { file = j.file; number = up_to j.number; received = up_to j.received; never = j.never; keyless = j.keyless })
    (marked marks lot j.file (up_to j.number)))
    (after j marks)

unfoldable pub next_of : Join → Fate → Words → After
next_of j (Fate.Under lot) marks = under_at j lot marks
next_of j Fate.Never marks = after (record { file = j.file; number = up_to j.number; received = j.received; never = up_to j.never; keyless = j.keyless }) marks
next_of j Fate.Keyless marks = after (record { file = j.file; number = up_to j.number; received = j.received; never = j.never; keyless = up_to j.keyless }) marks
next_of j Fate.Nowhere marks = after j marks
