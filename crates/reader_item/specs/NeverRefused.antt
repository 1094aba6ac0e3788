-- The items of a good record, looked at again: no line is unfinished, none is refused.
use Rattle.std.specs.Prelude.{ℕ, ◌-◌, ◌≡◌, refl, true, false, List, ◌∷◌, take, drop}
use Rattle.std.proofs.Common.{sym, ap, ◌∙◌, subst}
use Rattle.text.specs.Text.{Bytes, Line}
use Rattle.text.specs.Find.{line_at, is_blank}
use Rattle.text.specs.Cut.{Cut, cut, line_cut, line_rest}
use Rattle.text.specs.declared.LineAt.{LineAt}
use Rattle.text.specs.Laws.{never_both}
use Rattle.rules.specs.Record.{Item, Values, Items}
use Rattle.rules.specs.PartLaws.{no_items, no_values}
use Rattle.judge_line.specs.Got.{got, bad}
use Rattle.judge_line.specs.GotLaws.{bad_got}
use Rattle.judge_line.specs.Judge.{title, close, item_of, value, blank, value_of}
use Rattle.judge_line.specs.AgreeItem.{blank_line_is, value_told, blank_told}
use Rattle.judge_line.proofs.AgreeItem.{title_is_lem, close_line_is, value_is_lem}
use Rattle.line_judged.specs.Known.{Standing, HeaderOrEnd}

-- ---- A line that begins items, or values

pub item_known : {l : Line} {t r : List Line} {is : List Item} → Items (l ∷ t) is r → HeaderOrEnd l
item_known (Items.end h) = HeaderOrEnd.record_end h
item_known (Items.more {name = name} h v p) = HeaderOrEnd.header name h

item_never_bad : {X : Type 0} (l : Line) (e c : ℕ) → HeaderOrEnd l → item_of l ≡ bad e c → X
item_never_bad l e c (HeaderOrEnd.header name d) h = bad_got (sym h ∙ title_is_lem l name d)
item_never_bad l e c (HeaderOrEnd.record_end r) h = bad_got (sym h ∙ close_line_is l r)

value_never_bad : {X : Type 0} {l : Line} {t vs r : List Line} (e c : ℕ) → Values (l ∷ t) vs r → value_of l ≡ bad e c → X
value_never_bad e c (Values.end {l = l} b) h = bad_got (sym h ∙ blank_line_is l b)
value_never_bad e c (Values.more {l = l} v p) h = bad_got (sym h ∙ value_is_lem l v)

-- one look tells the values from the blank after them
pub value_known : {l : Line} {t vs r : List Line} → Values (l ∷ t) vs r → is_blank l ≡ false → (ws : List Line) × Values t ws r × (value_of l ≡ got value)
value_known (Values.end {l = l} b) h = never_both (is_blank l) (blank_told l b) h
value_known (Values.more {l = l} {vs = vs} v p) h = (vs, p, value_is_lem l v)

pub blank_known : {l : Line} {t vs r : List Line} → Values (l ∷ t) vs r → is_blank l ≡ true → value_of l ≡ got blank
blank_known (Values.end {l = l} b) h = blank_line_is l b
blank_known (Values.more {l = l} v p) h = never_both (is_blank l) h (value_told l v)

-- ---- At a position of the text

module _ (s : Bytes) (at : ℕ) where
  -- no line of the items is unfinished
  pub items_never_cut : {X : Type 0} {is : List Item} {r : List Line} → Items (cut (drop at s)).lines is r → line_at s at ≡ LineAt.Unfinished → X
  items_never_cut {is = is} {r = r} g h = no_items (subst (λ (t : List Line). Items t is r) (ap (λ (c : Cut). c.lines) (line_rest s at h)) g)

  pub items_stand : {is : List Item} {r : List Line} → Items (cut (drop at s)).lines is r → Standing s at
  items_stand g = go (line_at s at) refl
    where
      go : (x : LineAt) → line_at s at ≡ x → Standing s at
      go (LineAt.Line e n) h = record { end = e; next = n; is = h }
      go LineAt.Unfinished h = items_never_cut g h

  pub values_never_cut : {X : Type 0} {vs r : List Line} → Values (cut (drop at s)).lines vs r → line_at s at ≡ LineAt.Unfinished → X
  values_never_cut {vs = vs} {r = r} g h = no_values (subst (λ (t : List Line). Values t vs r) (ap (λ (c : Cut). c.lines) (line_rest s at h)) g)

  pub values_stand : {vs r : List Line} → Values (cut (drop at s)).lines vs r → Standing s at
  values_stand g = go (line_at s at) refl
    where
      go : (x : LineAt) → line_at s at ≡ x → Standing s at
      go (LineAt.Line e n) h = record { end = e; next = n; is = h }
      go LineAt.Unfinished h = values_never_cut g h

  module _ (e n : ℕ) (line : line_at s at ≡ LineAt.Line e n) where
    pub items_line : {is : List Item} {r : List Line} → Items (cut (drop at s)).lines is r → Items (take (e - at) (drop at s) ∷ (cut (drop n s)).lines) is r
    items_line {is = is} {r = r} g = subst (λ (t : List Line). Items t is r) (ap (λ (c : Cut). c.lines) (line_cut s at e n line)) g

    pub values_line : {vs r : List Line} → Values (cut (drop at s)).lines vs r → Values (take (e - at) (drop at s) ∷ (cut (drop n s)).lines) vs r
    values_line {vs = vs} {r = r} g = subst (λ (t : List Line). Values t vs r) (ap (λ (c : Cut). c.lines) (line_cut s at e n line)) g

    -- none is refused
    pub items_never_bad : {X : Type 0} {is : List Item} {r : List Line} (num column : ℕ) → Items (cut (drop at s)).lines is r → item_of (take (e - at) (drop at s)) ≡ bad num column → X
    items_never_bad num column g h = item_never_bad _ num column (item_known (items_line g)) h

    pub values_never_bad : {X : Type 0} {vs r : List Line} (num column : ℕ) → Values (cut (drop at s)).lines vs r → value_of (take (e - at) (drop at s)) ≡ bad num column → X
    values_never_bad num column g h = value_never_bad num column (values_line g) h
