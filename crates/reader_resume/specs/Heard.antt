-- What is said of the record at the front of a part, and of a part behind a refused line.
use Rattle.std.specs.Prelude.{ℕ, suc, ◌+◌, ◌-◌, List, [], ◌∷◌, Bool, cond, ◌&&◌, eqb, ltb, length}
use Rattle.text.specs.Text.{Bytes, LF}
use Rattle.reader_end.specs.declared.Walked.{Walked}
use Rattle.reader_walk.specs.Stands.{kind_of}
use Rattle.reader_walk.specs.Walked.{walk_of}
use Rattle.reader_feed.specs.declared.Counter.{Counter}
use Rattle.reader_feed.specs.Fed.{plus_of}
use Rattle.resume_rules.specs.Passed.{marked}
use Rattle.reader_resume.specs.declared.Asked.{Asked}
use Rattle.reader_resume.specs.declared.Passing.{Passing}
use Rattle.reader_resume.specs.declared.Heard.{Heard}
use Rattle.reader_resume.specs.declared.Passed.{Passed}
use Rattle.reader_resume.specs.declared.Mark.{Mark}

-- ---- Behind a refused line

abbrev pub lined : Counter → ℕ → Counter
lined c k = record { records = c.records; lines = plus_of c.lines k }

unfoldable pub line_end : Passing → Mark
line_end p =
    cond (eqb (p.left - 1) 0 && eqb p.seen 4) (Mark.End (lined p.counter 1))
    (Mark.On (record { counter = lined p.counter 1; left = p.left - 1; seen = 0 }))

unfoldable pub byte_of : Passing → ℕ → Mark
byte_of p b = cond (eqb b LF) (line_end p) (Mark.On (record { counter = p.counter; left = p.left; seen = marked p.seen b }))

-- so many bytes of the part stand before
unfoldable pub pass_from : Passing → ℕ → Bytes → Passed
pass_from p i [] = Passed.On p
pass_from p i (b ∷ t) = elim (byte_of p b) [ Mark.End c ↦ Passed.Behind c (i + 1) | Mark.On q ↦ pass_from q (i + 1) t ]

unfoldable pub pass_of : Passing → Bytes → Passed
pass_of p part = pass_from p 0 part

-- ---- The record at the front

-- the record is refused at its line k
abbrev pub refused_at : Counter → ℕ → Passing
refused_at c k = record { counter = record { records = plus_of c.records 1; lines = c.lines }; left = k; seen = 0 }

-- it goes beyond a part of so many bytes
unfoldable pub open_at : Asked → ℕ → ℕ → ℕ → Heard
open_at a len k column =
    cond a.ended (Heard.Bad (refused_at a.counter k) 19 (plus_of a.counter.lines k) column)
    (cond (ltb len a.room) Heard.More (Heard.TooLong (refused_at a.counter k)))

unfoldable pub not_whole : Asked → ℕ → ℕ → ℕ → ℕ → Heard
not_whole a len e k column = cond (eqb e 19) (open_at a len k column) (Heard.Bad (refused_at a.counter k) e (plus_of a.counter.lines k) column)

abbrev pub heard_by : Asked → ℕ → Walked → Heard
heard_by a len (Walked.Whole cs n k h from to) =
    Heard.Good (record { records = plus_of a.counter.records 1; lines = plus_of a.counter.lines k }) n from to
heard_by a len (Walked.Refused e k column) = not_whole a len e k column

unfoldable pub heard_of : Asked → Bytes → Heard
heard_of a part = heard_by a (length part) (walk_of (kind_of a.sd) part)
