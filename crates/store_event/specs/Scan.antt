-- One event of the log by place and number: what stands there, as the code has it.
use Rattle.std.specs.Prelude.{ℕ, ◌+◌, ◌-◌, ◌*◌, Bool, cond, ◌||◌, eqb, ltb, length, get_or}
use Rattle.store_log.specs.Log.{Bytes}
use Rattle.store_event.specs.declared.Key.{Key}
use Rattle.store_event.specs.declared.Scan.{Scan}

-- ---- Numbers and keys

-- low byte first
unfoldable pub word_at : Bytes → ℕ → ℕ
word_at s i = get_or s i 0 + 256 * (get_or s (i + 1) 0 + 256 * (get_or s (i + 2) 0 + 256 * get_or s (i + 3) 0))

unfoldable pub half_at : Bytes → ℕ → ℕ
half_at s i = get_or s i 0 + 256 * get_or s (i + 1) 0

unfoldable pub key_at : Bytes → ℕ → Key
key_at s i = record { supplier = word_at s i; first = word_at s (i + 4); second = word_at s (i + 8) }

-- ---- The event that starts there

-- `R`, `I`, `C`
unfoldable pub is_scan : ℕ → Bool
is_scan kind = eqb kind 82 || (eqb kind 73 || eqb kind 67)

unfoldable pub scan_of : ℕ → Key → ℕ → Scan
scan_of kind k q = cond (eqb kind 82) (Scan.Received k q) (cond (eqb kind 73) (Scan.Issued k q) (Scan.Counted k q))

-- `D`, a scan, or neither; each has its body whole, or is cut
unfoldable pub scan_at : Bytes → ℕ → Scan
scan_at s at =
    cond (eqb (get_or s at 0) 68) (cond (ltb (length s - at) 5) Scan.Cut Scan.Day)
    (cond (is_scan (get_or s at 0)) (cond (ltb (length s - at) 15) Scan.Cut (scan_of (get_or s at 0) (key_at s (at + 1)) (half_at s (at + 13))))
    Scan.Unknown)
