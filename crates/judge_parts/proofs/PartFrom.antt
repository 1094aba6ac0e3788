-- What may follow each place of the two parts by the rules, and that the judge's turns fit it.
use Rattle.std.specs.Prelude.{ℕ, ◌≡◌, refl, List, [], ◌∷◌, ◌++◌}
use Rattle.std.proofs.Common.{arith, sym, ap, ◌∙◌, subst, append-nil}
use Rattle.text.specs.Text.{Bytes, Line}
use Rattle.text.specs.Columns.{Within}
use Rattle.rules.specs.Forms.{HeaderLine, DataHeader, BlankLine, ValueLine}
use Rattle.rules.specs.Record.{Item, Values}
use Rattle.rules.specs.Canon.{ItemPart}
use Rattle.rules.specs.PartLaws.{no_values}
use Rattle.judge_line.specs.Got.{got}
use Rattle.judge_line.specs.GotLaws.{got_inj, bad_got, then_got, then_is}
use Rattle.judge_line.specs.Judge.{item_of, ItemOrEnd, title, close}
use Rattle.judge_line.specs.Judge.{value_of, ValueOrBlank, value, blank}
use Rattle.judge_line.specs.Agree.{within_got, within_is}
use Rattle.judge_line.proofs.Agree.{title_agrees, value_agrees, blank_agrees}
use Rattle.judge_file.specs.Marked.{Marked, marked_then, marked_within, marked_item, marked_value}
use Rattle.judge_file.specs.Witness.{blank_line}
use Rattle.judge_file.specs.Verdict.{accepted}
use Rattle.judge_file.specs.SameVerdict.{accepted_refused, same_accepted}
use Rattle.judge_file.specs.Owed.{snoc}
use Rattle.judge_parts.specs.Part.{ItemPlace, items, values, after_item, after_value, item_turn, items_end}
use Rattle.judge_parts.specs.AnyPart.{Ends, Fitting}
use Rattle.judge_parts.specs.PartFrom.{FromItems, FromValues, FromItemPlace}

-- ---- Items

OnwardItem : ItemPlace → Line → List Line → List Item → Type 0
OnwardItem p l t js = (q : ItemPlace) × (item_turn p l ≡ got q) × FromItemPlace q t js

title_turn : (is : List Item) (l : Line) (name : Bytes) → DataHeader l name → item_turn (items is) l ≡ got (values is name [])
unfolding item_turn
title_turn is l name h = within_is 80 l _ h.line ∙ then_is (item_of l) _ (title name) ((title_agrees l name h.line).1 h)

value_turn : (is : List Item) (name : Bytes) (vs : List Line) (l : Line) → ValueLine l → item_turn (values is name vs) l ≡ got (values is name (vs ++ (l ∷ [])))
unfolding item_turn
value_turn is name vs l h = within_is 200 l _ h.line ∙ then_is (value_of l) _ value ((value_agrees l h.line).1 h)

blank_turn : (is : List Item) (name : Bytes) (vs : List Line) (l : Line) → BlankLine l →
    item_turn (values is name vs) l ≡ got (items (is ++ (record { name = name; values = vs } ∷ [])))
unfolding item_turn
blank_turn is name vs l h = within_is 200 l _ h.line ∙ then_is (value_of l) _ blank ((blank_agrees l h.line).1 h)

onward_items : (p : ItemPlace) (l : Line) (t : List Line) (js : List Item) → FromItemPlace p (l ∷ t) js → OnwardItem p l t js
unfolding OnwardItem
onward_items (items is) l t js f = go f.part f.all
  where
    go : {ks : List Item} → ItemPart (l ∷ t) ks → js ≡ is ++ ks → OnwardItem (items is) l t js
    go (ItemPart.more {name = name} {u = u} {vs = vs} {is = ks} h v p) e =
        (values is name [], title_turn is l name h, record { ws = vs; u = u; ks = ks; values = v; part = p; all = e })
onward_items (values is name vs) l t js f = go f.values f.part f.all
  where
    go : {ws u : List Line} {ks : List Item} → Values (l ∷ t) ws u → ItemPart u ks → js ≡ is ++ (record { name = name; values = vs ++ ws } ∷ ks) →
        OnwardItem (values is name vs) l t js
    go {ks = ks} (Values.end h) p e =
        let i : Item = record { name = name; values = vs } in
        (items (is ++ (i ∷ [])), blank_turn is name vs l h, record { ks = ks; part = p; all = (rw (append-nil vs) at e) ∙ snoc is i ks })
    go {u = u} {ks = ks} (Values.more {vs = ws} h v) p e =
        (values is name (vs ++ (l ∷ [])), value_turn is name vs l h, record { ws = ws; u = u; ks = ks; values = v; part = p; all = rw (snoc vs l ws) at e })

backward_items : (p : ItemPlace) (l : Line) (q : ItemPlace) → item_turn p l ≡ got q → (t : List Line) (js : List Item) → FromItemPlace q t js →
    FromItemPlace p (l ∷ t) js
unfolding item_turn
backward_items (items is) l q e t js f =
    let r = within_got 80 l _ q e in
    let s = then_got (item_of l) _ q r.1 in
    go s.0 r.0 s.1 s.2
  where
    go : (i : ItemOrEnd) → HeaderLine l → item_of l ≡ got i → after_item is i ≡ got q → FromItems is (l ∷ t) js
    go (title name) w h k =
        let g : FromValues is name [] t js = subst (λ (p : ItemPlace). FromItemPlace p t js) (sym (got_inj k)) f in
        record { ks = record { name = name; values = g.ws } ∷ g.ks; part = ItemPart.more ((title_agrees l name w).0 h) g.values g.part; all = g.all }
    go close w h k = bad_got k
backward_items (values is name vs) l q e t js f =
    let r = within_got 200 l _ q e in
    let s = then_got (value_of l) _ q r.1 in
    go s.0 r.0 s.1 s.2
  where
    go : (v : ValueOrBlank) → Within 200 l → value_of l ≡ got v → got (after_value is name vs l v) ≡ got q → FromValues is name vs (l ∷ t) js
    go value w h k =
        let g : FromValues is name (vs ++ (l ∷ [])) t js = subst (λ (p : ItemPlace). FromItemPlace p t js) (sym (got_inj k)) f in
        record {
          ws = l ∷ g.ws;
          u = g.u;
          ks = g.ks;
          values = Values.more ((value_agrees l w).0 h) g.values;
          part = g.part;
          all = rw (snoc vs l g.ws) g.all;
        }
    go blank w h k =
        let i : Item = record { name = name; values = vs } in
        let g : FromItems (is ++ (i ∷ [])) t js = subst (λ (p : ItemPlace). FromItemPlace p t js) (sym (got_inj k)) f in
        record {
          ws = [];
          u = t;
          ks = g.ks;
          values = Values.end ((blank_agrees l w).0 h);
          part = g.part;
          all = rw (append-nil vs) (g.all ∙ sym (snoc is i g.ks));
        }

items_at_end : (p : ItemPlace) (js : List Item) → FromItemPlace p [] js → (i : ℕ) → items_end p i ≡ accepted js
items_at_end (items is) js f i = go f.part f.all
  where
    go : {ks : List Item} → ItemPart [] ks → js ≡ is ++ ks → accepted is ≡ accepted js
    go ItemPart.none e = ap accepted (sym (e ∙ append-nil is))
items_at_end (values is name vs) js f i = no_values f.values

items_from_end : (p : ItemPlace) (js : List Item) (i : ℕ) → items_end p i ≡ accepted js → FromItemPlace p [] js
items_from_end (items is) js i e = record { ks = []; part = ItemPart.none; all = sym (same_accepted e) ∙ sym (append-nil is) }
items_from_end (values is name vs) js i e = accepted_refused (sym e)

items_ends : (p : ItemPlace) → Ends items_end p
items_ends (items is) = Ends.whole is (λ i. refl)
items_ends (values is name vs) = Ends.short (λ i. refl)

-- a blank line finishes an item
items_ahead : (p : ItemPlace) → (t : List Line) × (js : List Item) × FromItemPlace p t js
items_ahead (items is) = ([], is, record { ks = []; part = ItemPart.none; all = sym (append-nil is) })
items_ahead (values is name vs) = (
  [] ∷ [],
  is ++ (record { name = name; values = vs ++ [] } ∷ []),
  record { ws = []; u = []; ks = []; values = Values.end blank_line; part = ItemPart.none; all = refl },
)

items_marked : (p : ItemPlace) (l : Line) → Marked (item_turn p l)
unfolding item_turn
items_marked (items is) l = marked_within l 80 (marked_then (marked_item l) go)
  where
    go : (i : ItemOrEnd) → Marked (after_item is i)
    go (title name) = Marked.value
    go close = Marked.refusal 16 1 (omega arith) (omega arith)
items_marked (values is name vs) l = marked_within l 200 (marked_then (marked_value l) λ v. Marked.value)

pub fitting_items : Fitting item_turn items_end FromItemPlace
unfolding OnwardItem
fitting_items =
    record {
      onward = onward_items;
      backward = backward_items;
      at_end_lem = items_at_end;
      from_end = items_from_end;
      ends = items_ends;
      ahead = items_ahead;
      marked = items_marked;
    }
