-- Laws on one line of a part: what each of the code's answers says of its turn.
use Rattle.std.specs.Prelude.{Result, Ok, Err, Option, Some, None}
use Prim.Native.Nat.{ℕ, suc, ◌+◌, ◌-◌, ◌≤◌, ◌<◌}
use native.Mathlib.Omega.{arith}
use mathlib.Core.Path.{◌≡◌, ap}
use lib.ListN.{length, take, drop}
use mir.Syntax.{w64}
use mir.Val.{Fits}
use borrow.Author.Tests.{le-leb, lt-leb}
use Rattle.text.specs.Text.{Line}
use Rattle.text.specs.Find.{bad_column}
use Rattle.judge_line.specs.Got.{then, need}
use Rattle.judge_line.specs.Field.{within}
use Rattle.judge_line.specs.Judge.{first_header_of, item_of, value_of}
use Rattle.line_text.specs.Answer.{header_got, item_got, item_in, value_got}
use Rattle.line_text.specs.Within.{title_order, title_end}
use Rattle.judge_line.specs.declared.Refusal.{Refusal}
use Rattle.line_text.specs.declared.ItemLine.{ItemLine}
use Rattle.line_text.specs.declared.ValueKind.{ValueKind}
use Rattle.writer_parts.specs.Lengths.{line_length, title_length, name_length}
use Rattle.writer_parts.specs.Step.{line_as, longest, allowed_as, turn_as, turned, ends_as}
use Rattle.writer_parts.specs.declared.Place.{Place}
use Rattle.writer_parts.specs.declared.Turn.{Turn}
use Rattle.judge_file.specs.declared.TextRefusal.{TextRefusal}

-- ---- the first header line

module _ (l : Line) (x : Result (Unit {0}) Refusal) (e : header_got l x ≡ first_header_of l) where
  pub first_next : x ≡ Ok tt → Turn.Next Place.Second (length l + 1) ≡ turned (line_as Place.First l)
  unfolding line_as then
  first_next h = rw (← e, h) (ap (Turn.Next Place.Second) (line_length l))

  pub first_bad : (r : Refusal) → x ≡ Err r → Turn.Bad r.no r.column ≡ turned (line_as Place.First l)
  unfolding line_as then
  first_bad r h = rw (← e, h)

pub ruleset first_laws = (first_next, first_bad)

-- ---- where a data header must stand

module _ (l : Line) (x : Result ItemLine Refusal) (e : item_got l x ≡ item_of l) where
  pub item_next : item_in l x → (from to : ℕ) → x ≡ Ok (ItemLine.Title from to) → Turn.Next Place.Values (to - from + 6) ≡ turned (line_as Place.Items l)
  unfolding line_as then
  item_next w from to h =
      let n = name_length l from to (title_order l x from to w h) (title_end l x from to w h) in
      rw (← e, h) (ap (Turn.Next Place.Values) (omega (arith, n, title_length (take (to - from) (drop from l)))))

  pub item_close : x ≡ Ok ItemLine.Close → Turn.Bad 16 1 ≡ turned (line_as Place.Items l)
  unfolding line_as then
  item_close h = rw (← e, h)

  pub item_bad : (r : Refusal) → x ≡ Err r → Turn.Bad r.no r.column ≡ turned (line_as Place.Items l)
  unfolding line_as then
  item_bad r h = rw (← e, h)

pub title_fits : (l : Line) (x : Result ItemLine Refusal) (from to : ℕ) → item_in l x → x ≡ Ok (ItemLine.Title from to) → length l ≤ 200 → Fits w64 (to - from + 6)
title_fits l x from to w h k = record { fits = omega (arith, title_end l x from to w h) }

pub ruleset item_laws = (item_next, item_close, item_bad, title_order, title_fits)

-- ---- where a value line or the blank line after the values must stand

module _ (l : Line) (x : Result ValueKind Refusal) (e : value_got x ≡ value_of l) where
  pub value_next : x ≡ Ok ValueKind.Value → Turn.Next Place.Values (length l + 1) ≡ turned (line_as Place.Values l)
  unfolding line_as then
  value_next h = rw (← e, h) (ap (Turn.Next Place.Values) (line_length l))

  pub value_blank : x ≡ Ok ValueKind.Blank → Turn.Next Place.Items 1 ≡ turned (line_as Place.Values l)
  unfolding line_as then
  value_blank h = rw (← e, h)

  pub value_bad : (r : Refusal) → x ≡ Err r → Turn.Bad r.no r.column ≡ turned (line_as Place.Values l)
  unfolding line_as then
  value_bad r h = rw (← e, h)

pub ruleset value_laws = (value_next, value_blank, value_bad)

-- ---- by the place

module _ (l : Line) (p : Place) where
  pub at_this : (q : Place) (x : Turn) → p ≡ q → x ≡ turned (line_as q l) → x ≡ turned (line_as p l)
  at_this q x e h = rw e h

  pub at_second : p ≡ Place.Second → Turn.Next Place.Third (length l + 1) ≡ turned (line_as p l)
  unfolding line_as
  at_second e = rw e (ap (Turn.Next Place.Third) (line_length l))

  pub at_third : p ≡ Place.Third → Turn.Next Place.Full (length l + 1) ≡ turned (line_as p l)
  unfolding line_as
  at_third e = rw e (ap (Turn.Next Place.Full) (line_length l))

  pub at_full : p ≡ Place.Full → Turn.Bad 18 1 ≡ turned (line_as p l)
  unfolding line_as
  at_full e = rw e

  -- ---- its bytes, its length

  pub bad_byte : (x : Option ℕ) (column : ℕ) → x ≡ bad_column l → x ≡ Some column → Turn.Bad 4 column ≡ turned (allowed_as p l)
  unfolding allowed_as
  bad_byte x column e h = rw (← e, h)

  pub good_bytes : (x : Option ℕ) (r : Turn) → x ≡ bad_column l → x ≡ None → r ≡ turned (line_as p l) → r ≡ turned (allowed_as p l)
  unfolding allowed_as
  good_bytes x r e h k = rw (← e, h) k

  pub too_long : (most : ℕ) → most ≡ longest p → most < length l → Turn.Bad 3 (most + 1) ≡ turned (turn_as p l)
  unfolding turn_as within need
  too_long most e h =
      let n : most + 1 ≡ suc (longest p) = omega arith in
      rw (lt-leb (length l) (longest p) (omega arith)) (ap (Turn.Bad 3) n)

  pub short_enough : (most : ℕ) (r : Turn) → most ≡ longest p → length l ≤ most → r ≡ turned (allowed_as p l) → r ≡ turned (turn_as p l)
  unfolding turn_as allowed_as within need
  short_enough most r e h k = rw (le-leb (length l) (longest p) (omega arith)) k

pub longest_most : (p : Place) → longest p ≤ 200
longest_most Place.First = omega arith
longest_most Place.Second = omega arith
longest_most Place.Third = omega arith
longest_most Place.Full = omega arith
longest_most Place.Items = omega arith
longest_most Place.Values = omega arith

pub within_200 : (l : Line) (p : Place) (most : ℕ) → most ≡ longest p → length l ≤ most → length l ≤ 200
within_200 l p most e h = omega (arith, longest_most p)

pub ruleset turn_laws = (at_this, at_second, at_third, at_full, bad_byte, good_bytes, too_long, short_enough, within_200)

-- ---- at the end of a part

module _ (p : Place) (size line : ℕ) where
  pub end_first : (r : Result ℕ TextRefusal) → p ≡ Place.First → r ≡ Err (record { no = 19; line = line; column = 1 }) → r ≡ ends_as p size line
  end_first r e h = rw e h

  pub end_second : (r : Result ℕ TextRefusal) → p ≡ Place.Second → r ≡ Err (record { no = 19; line = line; column = 1 }) → r ≡ ends_as p size line
  end_second r e h = rw e h

  pub end_third : (r : Result ℕ TextRefusal) → p ≡ Place.Third → r ≡ Err (record { no = 19; line = line; column = 1 }) → r ≡ ends_as p size line
  end_third r e h = rw e h

  pub end_full : p ≡ Place.Full → Ok size ≡ ends_as p size line
  end_full e = rw e

  pub end_items : p ≡ Place.Items → Ok size ≡ ends_as p size line
  end_items e = rw e

  pub end_values : (r : Result ℕ TextRefusal) → p ≡ Place.Values → r ≡ Err (record { no = 19; line = line; column = 1 }) → r ≡ ends_as p size line
  end_values r e h = rw e h

pub ruleset end_laws = (end_first, end_second, end_third, end_full, end_items, end_values)
