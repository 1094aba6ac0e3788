-- Laws of writing one line: lines and data headers laid into the room.
use Prim.Native.Nat.{ℕ, ◌+◌, ◌-◌, ◌≤◌, ◌<◌}
use native.Mathlib.Omega.{arith}
use mathlib.Core.Path.{◌≡◌, refl, sym, ap, ◌∙◌, subst}
use mathlib.Core.Bool.{Bool, true, false}
use mathlib.Core.List.{[], ◌∷◌, ◌++◌, append_assoc}
use lib.ListN.{length, take, drop, set, length-append}
use Rattle.text.specs.Text.{Bytes, Line, LF, bytes}
use Rattle.text.specs.Find.{is_blank}
use Rattle.rules.specs.Write.{header_text}
use Rattle.judge_line.specs.GotLaws.{got_inj}
use Rattle.line_judged.specs.Known.{Header, Named}
use Rattle.writer_parts.specs.Step.{ended, Taken, taken, turn_as, place_of}
use Rattle.writer_parts.specs.NeverRefused.{never_closed, title_taken, value_taken_lem, blank_taken}
use Rattle.writer_parts.specs.Lengths.{title_length, name_length}
use Rattle.writer_parts.specs.declared.Place.{Place}
use Rattle.writer_lines.specs.Laid.{Laid, Field, laid_join}
use Rattle.writer_lines.specs.LineParts.{laid_one}
use Rattle.writer_parts_put.specs.Put.{Fitting, PutTo}
use Rattle.writer_parts_put.specs.declared.Put.{Put}

-- ---- a line and its end, a data header

pub line_laid : (r₀ r : Bytes) (at : ℕ) (l : Line) (e : ℕ) → at + (length l + 1) ≤ length r₀ → Field r₀ r at (length l) l e → Laid r₀ (set r e 10) at (ended l) (e + 1)
line_laid r₀ r at l e h g = laid_join g.laid (laid_one r e 10 (omega (arith, g.laid.size, g.wide)))

pub title_laid : (name : Bytes) {r₀ r₁ r₂ r₃ : Bytes} {at a b e : ℕ} →
    Field r₀ r₁ at 4 (bytes ">  <") a → Field r₁ r₂ a (length name) name b → Laid r₂ r₃ b (ended (bytes ">")) e → Laid r₀ r₃ at (ended (header_text name)) e
unfolding header_text
title_laid name {r₀} {r₃ = r₃} {at} {e = e} p q s =
    subst (λ (x : Bytes). Laid r₀ r₃ at x e) same (laid_join p.laid (laid_join q.laid s))
  where
    same : bytes ">  <" ++ (name ++ ended (bytes ">")) ≡ ended (bytes ">  <" ++ (name ++ bytes ">"))
    same = simp append_assoc

-- ---- one line of items

-- room for the text that was found
room_for : {p q : Place} {l : Line} {at k n : ℕ} {bs : Bytes} (g : Fitting p l at k) → turn_as p l ≡ taken q bs → length bs ≡ n → at + n ≤ k
room_for {bs = bs} g e m =
    let same : bs ≡ g.taking.text = ap (λ (t : Taken). t.text) (got_inj (sym e ∙ g.taking.turn)) in
    omega (arith, g.enough, ap length same)

module _ (l : Line) (at k : ℕ) (g : Fitting Place.Items l at k) where
  pub item_header : Header l
  item_header = never_closed l g.taking

  module _ (from to : ℕ) (d : Named l from to) where
    pub title_order : from ≤ to
    title_order = d.order

    pub title_end : to ≤ length l
    title_end = d.inside

    pub title_room : at + (to - from + 6) ≤ k
    title_room =
        room_for g (title_taken l g.taking from to d)
        (omega (arith, title_length (take (to - from) (drop from l)), name_length l from to d.order d.inside))

    pub title_put : (r₀ r : Bytes) (e : ℕ) → Laid r₀ r at (ended (header_text (take (to - from) (drop from l)))) e → PutTo Place.Items l r₀ r at Place.Values e
    title_put r₀ r e p = record { text = _; turn = title_taken l g.taking from to d; laid = p }

pub ruleset put_item_laws = (item_header, title_order, title_end, title_room, title_put)

module _ (l : Line) (at k : ℕ) (g : Fitting Place.Values l at k) (b : Bool) (e : b ≡ is_blank l) where
  pub value_room : b ≡ false → at + (length l + 1) ≤ k
  value_room h = room_for g (value_taken_lem l g.taking (sym e ∙ h)) (length-append l (LF ∷ []))

  pub blank_room : b ≡ true → at + 1 ≤ k
  blank_room h = room_for g (blank_taken l g.taking (sym e ∙ h)) refl

  pub value_put : (r₀ r : Bytes) (f : ℕ) → b ≡ false → Laid r₀ r at (ended l) f → PutTo Place.Values l r₀ r at Place.Values f
  value_put r₀ r f h p = record { text = ended l; turn = value_taken_lem l g.taking (sym e ∙ h); laid = p }

  pub blank_put : (r₀ r : Bytes) (f : ℕ) → b ≡ true → Laid r₀ r at (LF ∷ []) f → PutTo Place.Values l r₀ r at Place.Items f
  blank_put r₀ r f h p = record { text = ended []; turn = blank_taken l g.taking (sym e ∙ h); laid = p }

pub ruleset put_value_laws = (value_room, blank_room, value_put, blank_put)

-- by the place
module _ (b : Bool) (l : Line) (at : ℕ) where
  pub in_values : (k : ℕ) → b ≡ true → Fitting (place_of b) l at k → Fitting Place.Values l at k
  in_values k e g = subst (λ (z : Bool). Fitting (place_of z) l at k) e g

  pub in_items_lem : (k : ℕ) → b ≡ false → Fitting (place_of b) l at k → Fitting Place.Items l at k
  in_items_lem k e g = subst (λ (z : Bool). Fitting (place_of z) l at k) e g

  module _ (r₀ r : Bytes) (y : Put) where
    pub from_values : b ≡ true → PutTo Place.Values l r₀ r at (place_of y.inside) y.next → PutTo (place_of b) l r₀ r at (place_of y.inside) y.next
    from_values e g = subst (λ (z : Bool). PutTo (place_of z) l r₀ r at (place_of y.inside) y.next) (sym e) g

    pub from_items : b ≡ false → PutTo Place.Items l r₀ r at (place_of y.inside) y.next → PutTo (place_of b) l r₀ r at (place_of y.inside) y.next
    from_items e g = subst (λ (z : Bool). PutTo (place_of z) l r₀ r at (place_of y.inside) y.next) (sym e) g

pub ruleset put_next_laws = (in_values, in_items_lem, from_values, from_items)
