-- A log that comes in parts: where fifteen bytes of it are there, or all that is left, the part tells the event that the whole log has there.
use Rattle.std.specs.Prelude.{◌≤◌, ◌≡◌, [], ◌∷◌, ◌++◌, length}
use Rattle.std.proofs.Common.{arith, sym, ap, ◌∙◌, subst, append_assoc, append-nil}
use Rattle.store_log.specs.Log.{Bytes, Event, Begins, Close, Closes, letter, day_letter, a_scan, a_day, no_byte, no_kind, cut_scan, cut_day}
use Rattle.store_log.specs.Read.{Reading, read_of}
use Rattle.store_log.specs.OneReading.{begins_read, closes_read, reads, Reads, event_one, close_one, apart}

-- b is there, and m follows it
pub data Enough (b m : Bytes) : Type 0 where
  fifteen : 15 ≤ length b → Enough b m
  last : m ≡ [] → Enough b m

pub event_stays : {b t : Bytes} {e : Event} (m : Bytes) → Begins b e t → Begins (b ++ m) e (t ++ m)
event_stays m (a_scan k key low high r h e) =
    a_scan k key low high (r ++ m) h (ap (λ (x : Bytes). x ++ m) e ∙ ap (λ (x : Bytes). letter k ∷ x) (append_assoc key (low ∷ high ∷ r) m))
event_stays m (a_day date r h e) = a_day date (r ++ m) h (ap (λ (x : Bytes). x ++ m) e ∙ ap (λ (x : Bytes). day_letter ∷ x) (append_assoc date r m))

close_stays : {b : Bytes} {c : Close} (m : Bytes) → 15 ≤ length b → Closes b c → Closes (b ++ m) c
close_stays m h (no_byte e) = let l = ap length e in absurd (omega (arith, l, h))
close_stays m h (no_kind x t e k d) = no_kind x (t ++ m) (ap (λ (y : Bytes). y ++ m) e) k d
close_stays m h (cut_scan k t e l) = let n = ap length e in absurd (omega (arith, n, h, l))
close_stays m h (cut_day t e l) = let n = ap length e in absurd (omega (arith, n, h, l))

pub part_stays : {b : Bytes} {c : Close} (m : Bytes) → Enough b m → Closes b c → Closes (b ++ m) c
part_stays m (fifteen h) k = close_stays m h k
part_stays {b = b} {c = c} m (last h) k = subst (λ (x : Bytes). Closes x c) (sym (ap (λ (y : Bytes). b ++ y) h ∙ append-nil b)) k

-- ---- What the whole log has there, the part has

pub record Begun (b m : Bytes) (e : Event) (t : Bytes) : Type 0 where
  pub rest : Bytes
  pub begins : Begins b e rest
  pub whole : t ≡ rest ++ m

pub part_event : {b m : Bytes} {e : Event} {t : Bytes} → Enough b m → Begins (b ++ m) e t → Begun b m e t
part_event {b = b} {m = m} {e = e} {t = t} n g = go (read_of b) (reads b)
  where
    go : (x : Reading) → Reads b x → Begun b m e t
    go (Reading.event f r) k =
        let o = event_one (sym (begins_read g) ∙ begins_read (event_stays m k)) in
        record { rest = r; begins = subst (λ (z : Event). Begins b z r) (sym o.0) k; whole = o.1 }
    go (Reading.close c) k = apart (sym (closes_read (part_stays m n k)) ∙ begins_read g)

pub part_close : {b m : Bytes} {c : Close} → Enough b m → Closes (b ++ m) c → Closes b c
part_close {b = b} {m = m} {c = c} n g = go (read_of b) (reads b)
  where
    go : (x : Reading) → Reads b x → Closes b c
    go (Reading.event f r) k = apart (sym (closes_read g) ∙ begins_read (event_stays m k))
    go (Reading.close d) k = subst (λ (z : Close). Closes b z) (close_one (sym (closes_read (part_stays m n k)) ∙ closes_read g)) k
