-- In a good file every line stays.
use Rattle.std.specs.Prelude.{ℕ, ◌≡◌, Bool, get_or}
use Rattle.std.proofs.Math.Path.{refl, sym, ap}
use Rattle.std.proofs.Common.{◌∙◌, arith}
use mathlib.Core.List.{List, [], ◌∷◌, map}
use Rattle.std.proofs.Math.Bool.{true, false}
use Rattle.text.specs.Text.{Bytes, Line}
use Rattle.text.specs.Columns.{columns_for, Within, Space}
use Rattle.text.specs.Find.{is_blank}
use Rattle.text.specs.Laws.{true_false}
use Rattle.text.specs.Agree.{each_get, blank_is}
use Rattle.rules.specs.Forms.{DataHeader, RecordEnd}
use Rattle.judge_line.specs.Got.{Got, got, bad}
use Rattle.judge_line.specs.Agree.{within_got}
use Rattle.judge_line.proofs.Agree.{title_agrees, close_agrees}
use Rattle.judge_line.specs.Field.{within}
use Rattle.judge_line.specs.Judge.{ItemOrEnd, title, close, item_of}
use Rattle.mend_rules.specs.Mend.{keep, item_line, applied}

-- ---- blank lines

pub blank_byte : (l : Line) → is_blank l ≡ true → (i : ℕ) → get_or l i 32 ≡ 32
blank_byte l h i = each_get Space l i 32 refl ((blank_is l).0 h)

blank_header : {X : Type 0} {l : Line} {name : Bytes} → DataHeader l name → is_blank l ≡ true → X
blank_header {l = l} d h =
    let a : get_or l 0 32 ≡ 62 = ap (λ (x : Bytes). get_or x 0 32) d.parts in
    absurd (omega (arith, blank_byte l h 0))

blank_end : {X : Type 0} {l : Line} → RecordEnd l → is_blank l ≡ true → X
unfolding columns_for
blank_end {l = l} d h =
    let a : get_or l 0 32 ≡ 36 = ap (λ (x : Bytes). get_or x 0 32) d.tagged in
    absurd (omega (arith, blank_byte l h 0))

-- ---- a value line or a blank is no data header and no `$$$$` line

pub blank_no_item : {X : Type 0} (l : Line) (w : ItemOrEnd) → Within 80 l → is_blank l ≡ true → item_of l ≡ got w → X
blank_no_item l (title name) i h e = blank_header ((title_agrees l name i).0 e) h
blank_no_item l close i h e = blank_end ((close_agrees l i).0 e) h

pub item_line_lem : (l : Line) → item_line l ≡ true → (w : ItemOrEnd) × (Within 80 l × (item_of l ≡ got w))
unfolding item_line
item_line_lem l h = go (within 80 l (item_of l)) refl h
  where
    go : (g : Got ItemOrEnd) → within 80 l (item_of l) ≡ g → item_line l ≡ true → (w : ItemOrEnd) × (Within 80 l × (item_of l ≡ got w))
    go (got w) e h = (w, within_got 80 l (item_of l) w e)
    go (bad n c) e h = true_false (sym h ∙ rw e)

pub item_not_blank : (l : Line) → item_line l ≡ true → is_blank l ≡ false
item_not_blank l h = go (is_blank l) refl
  where
    go : (t : Bool) → is_blank l ≡ t → t ≡ false
    go true e = let w = item_line_lem l h in blank_no_item l w.0 w.1.0 e w.1.1
    go false e = refl

pub applied_kept : (ls : List Line) → applied (map (λ t. keep) ls) ls ≡ ls
unfolding applied
applied_kept [] = refl
applied_kept (l ∷ ls) = ap (λ (x : List Line). l ∷ x) (applied_kept ls)
