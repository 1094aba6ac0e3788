-- Data headers, `$$$$` lines, value lines and blank lines are judged as their rules say.
use Rattle.std.specs.Prelude.{ℕ, ◌≡◌, [], true, false}
use Rattle.std.proofs.Common.{arith}
use Rattle.text.specs.Text.{Bytes, Line}
use Rattle.text.specs.Find.{is_blank}
use Rattle.text.specs.Agree.{blank_is}
use Rattle.rules.specs.Forms.{DataHeader, ValueLine, BlankLine}
use Rattle.judge_line.specs.Got.{got}
use Rattle.judge_line.specs.Judge.{named, none, begins, is_close, blank, value_of}
use Rattle.judge_line.specs.AgreeText.{none_of}

-- ---- a header's name

pub no_name : {X : Type 0} {name : Bytes} → none ≡ named name → X
no_name e = absurd (let z : ◌≡◌ {A = ℕ} 0 1 = cc in omega arith)

-- ---- where a data header or `$$$$` must stand

pub not_close : (l name : Bytes) → DataHeader l name → is_close l ≡ false
unfolding begins
not_close l name d = rw d.parts

-- ---- where a value line or a blank line must stand

-- one look tells the two apart
pub value_told : (l : Line) → ValueLine l → is_blank l ≡ false
value_told l v = none_of (is_blank l) (blank_is l).0 v.not_blank

pub blank_told : (l : Line) → BlankLine l → is_blank l ≡ true
blank_told l b = (blank_is l).1 b.blank

pub blank_line_is : (l : Line) → BlankLine l → value_of l ≡ got blank
unfolding value_of
blank_line_is l b = rw (blank_told l b)
