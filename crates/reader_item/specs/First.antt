-- The first item of a name is one, the hunt finds it, and the stretch of its value lines is one.
use Prim.Native.Nat.{ℕ, ◌+◌, ◌-◌, ◌<◌}
use Rattle.std.proofs.Common.{arith, sym, ◌∙◌, subst, length-drop, length-append, take-append-drop, length-take-le}
use Rattle.std.proofs.Math.Path.{◌≡◌, refl, ap}
use mathlib.Core.List.{List, [], ◌∷◌}
use Rattle.std.specs.Prelude.{length, take, drop}
use Rattle.text.specs.Text.{Bytes, Line}
use Rattle.rules.specs.Record.{Item, Values, Items}
use Rattle.rules.specs.OneForm.{one_header, header_or_end_lem}
use Rattle.rules.proofs.Unique.{values_one}
use Rattle.reader_walk.specs.Outcome.{whole}
use Rattle.reader_item.specs.Find.{after, nowhere, spot_of}
use Rattle.reader_item.specs.Position.{Past, past_values}
use Rattle.reader_item.specs.Promise.{FirstItem, NoneNamed, Joined, Stretch}
use Rattle.reader_item.specs.Joined.{start_one, joined_one}

-- the value lines stand at the front
pub lead : {t vs u : List Line} → Values t vs u → take (length vs) t ≡ vs
lead (Values.end h) = refl
lead (Values.more {l = l} h p) = ap (λ (x : List Line). l ∷ x) (lead p)

-- ---- The first item of a name is one

module _ (name : Bytes) where
  pub none_first : {u v vs more : List Line} {is : List Item} → Items u is more → NoneNamed name is → FirstItem name u v vs → ⊥
  unfolding NoneNamed
  none_first (Items.end h) n (FirstItem.here k p) = header_or_end_lem k h
  none_first (Items.end h) n (FirstItem.later k m p f) = header_or_end_lem k h
  none_first (Items.more h v p) n (FirstItem.here k q) = n.0 (one_header h k)
  none_first (Items.more h v p) n (FirstItem.later {v = w} {vs = ws} k m q f) =
      none_first p n.1 (subst (λ (t : List Line). FirstItem name t w ws) (values_one q v).1 f)

  pub first_lead : {u v vs : List Line} → FirstItem name u v vs → (take (length vs) v ≡ vs) × (length vs < length v)
  first_lead (FirstItem.here h p) = (lead p, omega (arith, (past_values p).some))
  first_lead (FirstItem.later h n p f) = first_lead f

  -- ---- The hunt finds it

  pub data Hunted (u : List Line) (is : List Item) : Type 0 where
    none : NoneNamed name is → ((j : ℕ) → spot_of name j is ≡ nowhere) → Hunted u is
    found : {v vs : List Line} (d : ℕ) → FirstItem name u v vs → Past d u v → ((j : ℕ) → spot_of name j is ≡ after (j + d) (length vs)) → Hunted u is

-- ---- The stretch of its value lines is one

module _ (s : Bytes) where
  pub stretch_one : {ls v vs : List Line} {a b c d : ℕ} → Stretch s ls v vs a b → Stretch s ls v vs c d → (a ≡ c) × (b ≡ d)
  stretch_one {v = v} {vs = vs} {a = a} {b = b} {c = c} {d = d} p q =
      let n : length p.before ≡ length q.before =
      omega (arith, ap length p.lines, ap length q.lines, length-append p.before v, length-append q.before v) in
      let ac = start_one s a c p.before q.before p.whole q.whole n (omega (arith, p.order, p.inside)) (omega (arith, q.order, q.inside)) in
      let t = drop a s in
      let g : Joined vs (take (d - a) t) = subst (λ (i : ℕ). Joined vs (take (d - i) (drop i s))) (sym ac) q.values in
      let same = joined_one p.values g (drop (b - a) t) (drop (d - a) t) (take-append-drop (b - a) t ∙ sym (take-append-drop (d - a) t)) in
      let m : length t ≡ length s - a = length-drop a s in
      let e : b - a ≡ d - a =
      sym (length-take-le (b - a) t (omega (arith, p.inside))) ∙ ap length same ∙ length-take-le (d - a) t (omega (arith, q.inside)) in
      (ac, omega (arith, p.order, q.order))
