-- `tally_list::add` meets its contract: the change that is decided leaves the list that the rules say.
use Rattle.std.proofs.Common.{ℕ, ◌≡◌, sym, ap, ◌∙◌, subst, arith, get_or, take}
use Rattle.std.proofs.lemmas.List.{get_or_default}
use mathlib.Core.List.{List}
use Rattle.tally_rules.specs.declared.Tally.{Tally}
use Rattle.tally_flat.specs.Slots.{no_tally}
use Rattle.tally_list.specs.declared.Change.{Change}
use Rattle.tally_list.specs.Tallies.{place_from}
use Rattle.tally_list.specs.Change.{within, change_of, Ready, ListReady}
use Rattle.tally_list.specs.Changed.{Told, within_size, change_right, place_ready}
use Rattle.tally_list.proofs.add.Goals as goal
use Rattle.tally_list.proofs.add.Goals.{After-place_within-place, After-change_at-c}
use Rattle.text.specs.Text.{Bytes}

-- the place found is inside the list, so what stands there is the same at any default
at_place : (ys : List Tally) (used : ℕ) (ns : Bytes) (g : ListReady ys used ns) (r k : ℕ) (d : Tally) → k ≡ within r → get_or ys k d ≡ get_or ys k no_tally
at_place ys used ns g r k d e = let w = within_size r in get_or_default ys k d no_tally (omega (arith, w, g.room, e))

right : (ys : List Tally) (used : ℕ) (ns : Bytes) (g : ListReady ys used ns) (r k : ℕ) (d : Tally) (c : Change) (e : r ≡ place_from ns 0 (take used ys)) → k ≡ within r → c ≡ change_of (get_or ys k d) r used ns → Told ys used ns g r e k c
right ys used ns g r k d c e ek ec =
    subst (Told ys used ns g r e k) (sym (ec ∙ ap (λ (t : Tally). change_of t r used ns) (at_place ys used ns g r k d ek))) (subst (λ (j : ℕ). Told ys used ns g r e j (change_of (get_or ys j no_tally) r used ns)) (sym ek) (change_right ys used ns g r e))

pub slice_copy_out-t : goal.slice_copy_out-t
slice_copy_out-t c = let w = within_size c.find-at.result in omega (arith, w, c.requires.room, c.place_within-place.ensures)

pub offset_bounds-list-place : goal.offset_bounds-list-place
offset_bounds-list-place c = let w = within_size c.find-at.result in omega (arith, w, c.place_within-place.ensures)

pub change_at-c-requires : goal.change_at-c-requires
change_at-c-requires c =
    subst (λ (t : Tally). Ready t c.find-at.result c.args.used c.args.name.now) (sym (at_place c.args.list.now c.args.used c.args.name.now c.requires c.find-at.result c.place_within-place.result _ c.place_within-place.ensures))
    (subst (λ (k : ℕ). Ready (get_or c.args.list.now k no_tally) c.find-at.result c.args.used c.args.name.now) (sym c.place_within-place.ensures) (place_ready c.args.list.now c.args.used c.args.name.now c.requires c.find-at.result c.find-at.ensures))

pub insert_tally-requires : goal.insert_tally-requires
insert_tally-requires c =
    let r = right c.args.list.now c.args.used c.args.name.now c.requires c.find-at.result c.place_within-place.result _ c.change_at-c.result c.find-at.ensures c.place_within-place.ensures c.change_at-c.ensures in
    (r.low, r.high)

pub returns : goal.returns
returns c =
    let r = right c.args.list.now c.args.used c.args.name.now c.requires c.find-at.result c.place_within-place.result _ c.change_at-c.result c.find-at.ensures c.place_within-place.ensures c.change_at-c.ensures in
    (r.now, c.insert_tally.ensures ∙ r.list)
