-- The first item of a name is one, the hunt finds it, and the stretch of its value lines is one.
use Prim.Native.Nat.{ℕ, suc, ◌+◌, ◌-◌, ◌<◌}
use Rattle.std.proofs.Common.{arith, sym, ◌∙◌, subst, take-append-drop}
use Rattle.std.proofs.Math.Path.{◌≡◌, refl, ap}
use mathlib.Core.List.{List, [], ◌∷◌, ◌++◌}
use Rattle.std.specs.Prelude.{Bool, length, take, drop}
use Rattle.std.proofs.Math.Bool.{true, false}
use Rattle.text.specs.Text.{Bytes, Line, Lines}
use Rattle.text.specs.Find.{same_bytes}
use Rattle.text.specs.Cut.{cut}
use Rattle.text.specs.Agree.{same_bytes_lem}
use Rattle.rules.specs.Forms.{DataHeader}
use Rattle.rules.specs.Record.{Item, Items}
use Rattle.rules.specs.OneForm.{one_header}
use Rattle.rules.specs.Unique.{parts_one}
use Rattle.rules.proofs.Unique.{values_one}
use Rattle.judge_file.specs.WalkText.{after_lines}
use Rattle.reader_walk.specs.Outcome.{whole}
use Rattle.reader_item.specs.Find.{to_of, after, spot_of}
use Rattle.reader_item.specs.Position.{after_low, Past, past_none, past_more, past_join, past_values}
use Rattle.reader_item.proofs.Position.{stretch_within}
use Rattle.reader_item.specs.Hunting.{by_title, items_at}
use Rattle.reader_item.specs.Promise.{FirstItem, NoneNamed, ItemIn, Joined, Stretch}
use Rattle.reader_item.specs.Joined.{before_lines, joined_lines}
use Rattle.reader_item.specs.First.{Hunted}

-- ---- The first item of a name is one

module _ (name : Bytes) where
  pub first_item_one : {u v w vs ws : List Line} → FirstItem name u v vs → FirstItem name u w ws → (v ≡ w) × (vs ≡ ws)
  first_item_one (FirstItem.here h p) (FirstItem.here k q) = (refl, (values_one p q).0)
  first_item_one (FirstItem.here h p) (FirstItem.later k n q g) = absurd (n (one_header k h))
  first_item_one (FirstItem.later h n p f) (FirstItem.here k q) = absurd (n (one_header h k))
  first_item_one (FirstItem.later h n p f) (FirstItem.later {v = w} {vs = ws} k m q g) =
      first_item_one f (subst (λ (t : List Line). FirstItem name t w ws) (sym (values_one p q).1) g)

  pub item_one : {ls v w vs ws : List Line} → ItemIn name ls v vs → ItemIn name ls w ws → (v ≡ w) × (vs ≡ ws)
  item_one {w = w} {ws = ws} a b =
      first_item_one a.first (subst (λ (t : List Line). FirstItem name t w ws) (sym (parts_one a.molecule b.molecule).1) b.first)

  -- ---- The hunt finds it

  pub hunted : {u more : List Line} {is : List Item} → Items u is more → Hunted name u is
  unfolding spot_of NoneNamed
  hunted (Items.end h) = Hunted.none tt (λ j. refl)
  hunted (Items.more {l = l} {name = other} {t = t} {u = u} {vs = vs} {is = is} h v p) = go (same_bytes other name) refl (hunted p)
    where
      go : (b : Bool) → same_bytes other name ≡ b → Hunted name u is → Hunted name (l ∷ t) (record { name = other; values = vs } ∷ is)
      go true e r =
          Hunted.found 1 (FirstItem.here (subst (DataHeader l) ((same_bytes_lem other name).0 e) h) v) (past_more 0 l t t (past_none t))
          (λ j. by_title name other vs is j true e ∙ ap (λ (k : ℕ). after k (length vs)) (omega arith))
      go false e (Hunted.none n s) =
          Hunted.none ((λ q. absurd (let b = (same_bytes_lem other name).1 q in let z : ◌≡◌ {A = ℕ} 0 1 = cc in omega arith)), n)
          (λ j. by_title name other vs is j false e ∙ s (suc j + suc (length vs)))
      go false e (Hunted.found {v = w} {vs = ws} d f past s) =
          Hunted.found (suc (suc (length vs)) + d)
          (FirstItem.later h (λ q. absurd (let b = (same_bytes_lem other name).1 q in let z : ◌≡◌ {A = ℕ} 0 1 = cc in omega arith)) v f)
          (past_join (suc (suc (length vs))) d (l ∷ t) u w (past_more (suc (length vs)) l t u (past_values v)) past)
          (λ j. by_title name other vs is j false e ∙ s (suc j + suc (length vs)) ∙ ap (λ (k : ℕ). after k (length ws)) (omega arith))

-- ---- The stretch of its value lines is one

module _ (s : Bytes) where
  pub stretch : (j : ℕ) (v vs : List Line) (l : Line) → Past j (cut s).lines v → take (suc (length vs)) v ≡ l ∷ vs → length vs < length v →
      Stretch s (cut s).lines v (l ∷ vs) (after_lines s 0 j) (to_of s (after_lines s 0 j) (suc (length vs)))
  stretch j v vs l p front some =
      let at = after_lines s 0 j in
      let low = (after_low s 0 j (omega arith)).1 in
      let w = stretch_within s at (suc (length vs)) low in
      let here = items_at s j v p in
      let z : at - 0 ≡ at = omega arith in
      let b : Lines (take (at - 0) s) (take j (cut s).lines) [] = before_lines s 0 j (omega arith) p.some in
      record {
        before = take j (cut s).lines;
        lines = sym (take-append-drop j (cut s).lines) ∙ ap (λ (x : List Line). take j (cut s).lines ++ x) (sym p.rest);
        whole = rw z at b;
        order = w.0;
        inside = w.1;
        values = subst (λ (x : List Line). Joined x (take (to_of s at (suc (length vs)) - at) (drop at s))) (ap (take (suc (length vs))) here ∙ front) (joined_lines s at (length vs) low (omega (arith, ap length here)));
      }
