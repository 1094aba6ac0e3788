-- The table of refusals for the two parts that a writer is handed, in the words of the rules: lines of the right forms lead to a place, and the next line does
-- not meet the first of these demands. The judge stops at a line with a number and a column exactly if this is so.
use Rattle.std.specs.Prelude.{ℕ, ◌≡◌, ◌↔◌}
use Rattle.std.proofs.Common.{arith, sym, ◌∙◌, inl, inr}
use Rattle.std.proofs.Math.Path.{refl, subst}
use mathlib.Core.List.{List, []}
use Rattle.text.specs.Text.{Line}
use Rattle.text.specs.Columns.{Within}
use Rattle.rules.specs.Forms.{DataHeader}
use Rattle.judge_refusals.specs.Demand.{All, Some}
use Rattle.judge_refusals.specs.Refusals.{header_or_end}
use Rattle.judge_line.specs.Got.{Got, got, bad, then}
use Rattle.judge_line.specs.GotLaws.{got_inj, bad_got, then_got, then_is}
use Rattle.judge_line.specs.Judge.{item_of, ItemOrEnd, title, close, value_of, ValueOrBlank, value, blank}
use Rattle.judge_line.specs.Agree.{within_got, within_is}
use Rattle.judge_line.proofs.Agree.{title_agrees, value_agrees, blank_agrees}
use Rattle.judge_refusals.specs.Tells as T
use Rattle.judge_refusals.specs.Tells.{Tells, then_last}
use Rattle.judge_refusals.proofs.Fields.{within_tells}
use Rattle.judge_refusals.specs.Lists.{item_tells, value_tells}
use Rattle.judge_parts.specs.Part.{stopped, run}
use Rattle.judge_parts.specs.Part.{ItemPlace, items, values, after_item, after_value, item_turn}
use Rattle.judge_parts.specs.PartBecause.{because, taken, ItemTakes, header_alone, item_demands, ItemBecause}

-- ---- Items

item_line_lem : (p : ItemPlace) (l : Line) (q : ItemPlace) → item_turn p l ≡ got q → ItemTakes p l q
unfolding item_turn
item_line_lem (items is) l q h =
    let v = within_got 80 l _ q h in
    let r = then_got (item_of l) _ q v.1 in
    go v.0 r.0 r.1 r.2
  where
    go : Within 80 l → (i : ItemOrEnd) → item_of l ≡ got i → after_item is i ≡ got q → ItemTakes (items is) l q
    go w (title name) e g = subst (ItemTakes (items is) l) (got_inj g) (ItemTakes.data_header ((title_agrees l name w).0 e))
    go w close e g = bad_got g
item_line_lem (values is name vs) l q h =
    let v = within_got 200 l _ q h in
    let r = then_got (value_of l) _ q v.1 in
    go v.0 r.0 r.1 r.2
  where
    go : Within 200 l → (x : ValueOrBlank) → value_of l ≡ got x → got (after_value is name vs l x) ≡ got q → ItemTakes (values is name vs) l q
    go w value e g = subst (ItemTakes (values is name vs) l) (got_inj g) (ItemTakes.value_line ((value_agrees l w).0 e))
    go w blank e g = subst (ItemTakes (values is name vs) l) (got_inj g) (ItemTakes.blank_line ((blank_agrees l w).0 e))

item_taken_lem : {p : ItemPlace} {l : Line} {q : ItemPlace} → ItemTakes p l q → item_turn p l ≡ got q
unfolding item_turn
item_taken_lem (ItemTakes.data_header {is = is} {l = l} {name = name} h) =
    within_is 80 l (then (item_of l) λ i. after_item is i) h.line ∙ then_is (item_of l) _ (title name) ((title_agrees l name h.line).1 h)
item_taken_lem (ItemTakes.value_line {is = is} {name = name} {vs = vs} {l = l} h) =
    within_is 200 l (then (value_of l) λ v. got (after_value is name vs l v)) h.line ∙ then_is (value_of l) _ value ((value_agrees l h.line).1 h)
item_taken_lem (ItemTakes.blank_line {is = is} {name = name} {vs = vs} {l = l} h) =
    within_is 200 l (then (value_of l) λ v. got (after_value is name vs l v)) h.line ∙ then_is (value_of l) _ blank ((blank_agrees l h.line).1 h)

item_takes : (p : ItemPlace) (l : Line) (q : ItemPlace) → (item_turn p l ≡ got q) ↔ ItemTakes p l q
item_takes p l q = (item_line_lem p l q, item_taken_lem)

items_tell : (p : ItemPlace) (l : Line) → Tells (item_demands p l) (item_turn p l)
unfolding item_turn then
items_tell (items is) l = within_tells l 80 λ w. go w (item_of l) refl (item_tells l w)
  where
    neither : Within 80 l → {e c : ℕ} → item_of l ≡ bad e c → ¬ Some (DataHeader l)
    neither w h d = bad_got (sym h ∙ (title_agrees l d.0 w).1 d.1)

    closes : Within 80 l → item_of l ≡ got close → ¬ Some (DataHeader l)
    closes w h d = let z : close ≡ title d.0 = got_inj (sym h ∙ (title_agrees l d.0 w).1 d.1) in let y : ◌≡◌ {A = ℕ} 0 1 = cc in omega arith

    go : Within 80 l → (x : Got ItemOrEnd) → item_of l ≡ x → Tells (header_or_end l) x → Tells (header_alone l) (then x (λ i. after_item is i))
    go w (got (title name)) e t = T.value ((name, (title_agrees l name w).0 e), tt)
    go w (got close) e t = T.refusal (inl (closes w e, refl, refl))
    go w (bad n c) e (T.refusal (inl r)) = T.refusal (inl (neither w e, r.1, r.2))
    go w (bad n c) e (T.refusal (inr r)) = absurd r.1
items_tell (values is name vs) l = within_tells l 200 λ w. then_last _ (value_tells l w)

pub item_because : (ls : List Line) (e i c : ℕ) → (run item_turn (items []) 1 ls ≡ stopped e i c) ↔ ItemBecause ls e i c
item_because ls e i c = because item_turn ItemTakes item_demands item_takes items_tell (items []) ls e i c

pub item_taken_if : (p : ItemPlace) (l : Line) → (Some λ q. ItemTakes p l q) ↔ All (item_demands p l)
item_taken_if p l = taken item_turn ItemTakes item_demands item_takes items_tell p l
