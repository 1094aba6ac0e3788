-- Ends of the code that reads an event: each gives the definition's answer.
use Rattle.std.specs.Prelude.{ℕ, ◌+◌, ◌-◌, ◌*◌, ◌≤◌, ◌<◌, ◌≡◌, Bool, true, false, length, get_or}
use Rattle.std.proofs.Math.Path.{sym}
use Rattle.std.proofs.Common.{◌∙◌}
use borrow.Author.Tests.{eq-eqb, ne_eqb, lt-ltb, le-ltb, le-leb, lt-leb}
use Rattle.store_log.specs.Log.{Bytes}
use Rattle.store_event.specs.declared.Key.{Key}
use Rattle.store_event.specs.declared.Scan.{Scan}
use Rattle.store_event.specs.Scan.{word_at, half_at, key_at, is_scan, scan_of, scan_at}

pub ruleset tests = (eq-eqb, ne_eqb, lt-ltb, le-ltb, le-leb, lt-leb)

-- ---- Numbers and keys in the log

module _ (s : Bytes) (i : ℕ) where
  pub word_is : (a b c d : ℕ) → a ≡ get_or s i 0 → b ≡ get_or s (i + 1) 0 → c ≡ get_or s (i + 2) 0 → d ≡ get_or s (i + 3) 0 →
      a + 256 * (b + 256 * (c + 256 * d)) ≡ word_at s i
  unfolding word_at
  word_is a b c d ha hb hc hd = rw (ha, hb, hc, hd)

  pub half_is : (a b : ℕ) → a ≡ get_or s i 0 → b ≡ get_or s (i + 1) 0 → a + 256 * b ≡ half_at s i
  unfolding half_at
  half_is a b ha hb = rw (ha, hb)

  pub key_is : (a b c : ℕ) → a ≡ word_at s i → b ≡ word_at s (i + 4) → c ≡ word_at s (i + 8) → record { supplier = a; first = b; second = c } ≡ key_at s i
  unfolding key_at
  key_is a b c ha hb hc = rw (ha, hb, hc)

pub ruleset number_laws = (word_is, half_is, key_is)

-- ---- The event there

module _ (s : Bytes) (at : ℕ) where
  pub cut_day : get_or s at 0 ≡ 68 → length s - at < 5 → Scan.Cut ≡ scan_at s at
  unfolding scan_at
  cut_day e h = rw (eq-eqb (get_or s at 0) 68 e, lt-ltb (length s - at) 5 h)

  pub whole_day : get_or s at 0 ≡ 68 → 5 ≤ length s - at → Scan.Day ≡ scan_at s at
  unfolding scan_at
  whole_day e h = rw (eq-eqb (get_or s at 0) 68 e, le-ltb (length s - at) 5 h)

  module _ (ne : get_or s at 0 ≡ 68 → ⊥) (t : Bool) (is : t ≡ is_scan (get_or s at 0)) where
    pub cut_scan : t ≡ true → length s - at < 15 → Scan.Cut ≡ scan_at s at
    unfolding scan_at
    cut_scan e h = rw (ne_eqb (get_or s at 0) 68 ne, sym is ∙ e, lt-ltb (length s - at) 15 h)

    pub whole_scan : t ≡ true → 15 ≤ length s - at → (k : Key) (q : ℕ) (r : Scan) → k ≡ key_at s (at + 1) → q ≡ half_at s (at + 13) → r ≡ scan_of (get_or s at 0) k q → r ≡ scan_at s at
    unfolding scan_at
    whole_scan e h k q r hk hq hr = rw (ne_eqb (get_or s at 0) 68 ne, sym is ∙ e, le-ltb (length s - at) 15 h, sym hk, sym hq) hr

    pub unknown_scan : t ≡ false → Scan.Unknown ≡ scan_at s at
    unfolding scan_at
    unknown_scan e = rw (ne_eqb (get_or s at 0) 68 ne, sym is ∙ e)

pub ruleset scan_laws = (cut_day, whole_day, cut_scan, whole_scan, unknown_scan)
