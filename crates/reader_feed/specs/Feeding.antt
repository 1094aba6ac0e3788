-- The ends of a part: laws for the code.
use Rattle.std.specs.Prelude.{ℕ, ◌≤◌, ◌<◌, ◌≡◌, Bool, true, false, length}
use Rattle.std.proofs.Math.Path.{refl, ap}
use Rattle.std.proofs.Common.{sym, ◌∙◌, lt-ltb, le-ltb}
use Rattle.text.specs.Text.{Bytes}
use Rattle.reader_cursor.specs.declared.Cursor.{Cursor}
use Rattle.reader_cursor.specs.declared.Ended.{Ended}
use Rattle.reader_cursor.specs.Walk.{Walk, over, short, stopped, ended_by, file_walk}
use Rattle.reader_feed.specs.declared.Counter.{Counter}
use Rattle.reader_feed.specs.declared.Fed.{Fed}
use Rattle.reader_feed.specs.Fed.{plus_of, counted, wait_of, short_of, end_of, fed_by, fed_of}

-- ---- The end of a part

pub wait_used : (c : Counter) (used len room : ℕ) → 0 < used → Fed.More c used ≡ wait_of c used len room
unfolding wait_of
wait_used c used len room h = rw (lt-ltb 0 used h)

pub wait_room : (c : Counter) (used len room : ℕ) → used ≤ 0 → len < room → Fed.More c used ≡ wait_of c used len room
unfolding wait_of
wait_room c used len room h l = rw (le-ltb 0 used h, lt-ltb len room l)

pub wait_none : (c : Counter) (used len room r : ℕ) → used ≤ 0 → room ≤ len → r ≡ plus_of c.records 1 → Fed.TooLong r ≡ wait_of c used len room
unfolding wait_of
wait_none c used len room r h l e = rw (le-ltb 0 used h, le-ltb len room l, e)

module _ (ended : Bool) (c : Counter) (d : Cursor) (len room i : ℕ) where
  pub short_ended : (l : ℕ) → ended ≡ true → l ≡ plus_of c.lines i → Fed.Refused 19 l 1 ≡ short_of ended room len c d i
  unfolding short_of
  short_ended l h e = rw (h, e)

  pub short_waits : (b : Counter) (r : Fed) → ended ≡ false → b ≡ counted c d → r ≡ wait_of b d.at len room → r ≡ short_of ended room len c d i
  unfolding short_of
  short_waits b r h e w = rw h (w ∙ ap (λ (x : Counter). wait_of x d.at len room) e)

pub end_ended : (ended : Bool) (c : Counter) (used len room : ℕ) → ended ≡ true → Fed.Accepted c.records ≡ end_of ended room len c used
unfolding end_of
end_ended ended c used len room h = rw h

pub end_waits : (ended : Bool) (c : Counter) (used len room : ℕ) (r : Fed) → ended ≡ false → r ≡ wait_of c used len room → r ≡ end_of ended room len c used
unfolding end_of
end_waits ended c used len room r h e = rw h e

pub ruleset end_laws = (wait_used, wait_room, wait_none, short_ended, short_waits, end_ended, end_waits)

pub counted_is : (c : Counter) (d : Cursor) (r l : ℕ) → r ≡ plus_of c.records d.records → l ≡ plus_of c.lines d.lines → record { records = r; lines = l } ≡ counted c d
unfolding counted
counted_is c d r l a b = rw (a, b)

pub ruleset counted_laws = counted_is

-- ---- What the walk over the part comes to

abbrev fed_at : Bool → ℕ → ℕ → Counter → Ended → Fed
fed_at ended room len c (Ended.Over d) = end_of ended room len (counted c d) d.at
fed_at ended room len c (Ended.Short d i) = short_of ended room len c d i
fed_at ended room len c (Ended.Refused e i column) = Fed.Refused e (plus_of c.lines i) column

module _ (c : Counter) (part : Bytes) (ended : Bool) (room : ℕ) (x : Ended) (ex : x ≡ ended_by (file_walk part)) where
  told : fed_at ended room (length part) c x ≡ fed_of c part ended room
  unfolding fed_of
  told = ap (fed_at ended room (length part) c) ex ∙ go (file_walk part)
    where
      go : (w : Walk) → fed_at ended room (length part) c (ended_by w) ≡ fed_by ended room (length part) c w
      go (over xs d) = refl
      go (short xs d i) = refl
      go (stopped xs d e i column) = refl

  pub take_over : (d : Cursor) (b : Counter) (r : Fed) → x ≡ Ended.Over d → b ≡ counted c d → r ≡ end_of ended room (length part) b d.at → r ≡ fed_of c part ended room
  take_over d b r q e h =
      h ∙ ap (λ (y : Counter). end_of ended room (length part) y d.at) e ∙ ap (fed_at ended room (length part) c) (sym q) ∙ told

  pub take_short : (d : Cursor) (i : ℕ) (r : Fed) → x ≡ Ended.Short d i → r ≡ short_of ended room (length part) c d i → r ≡ fed_of c part ended room
  take_short d i r q h = h ∙ ap (fed_at ended room (length part) c) (sym q) ∙ told

  pub take_refused : (e i column l : ℕ) → x ≡ Ended.Refused e i column → l ≡ plus_of c.lines i → Fed.Refused e l column ≡ fed_of c part ended room
  take_refused e i column l q h = ap (λ (j : ℕ). Fed.Refused e j column) h ∙ ap (fed_at ended room (length part) c) (sym q) ∙ told

pub ruleset take_laws = (take_over, take_short, take_refused)
