-- Property lines and the lines of items are judged as the demands on them say.
use Prim.Native.Nat.{ℕ, zero, suc, ◌+◌, ◌*◌, ◌≤◌}
use Rattle.std.proofs.Common.{arith, subst, inl, inr}
use Rattle.std.proofs.Math.Path.{◌≡◌, refl}
use Rattle.std.specs.Prelude.{◌⊎◌, List, [], ◌∷◌, map, Bool, not, length}
use Rattle.std.proofs.Math.Bool.{true, false, cond}
use Rattle.std.proofs.Math.Dec.{eqb}
use borrow.Author.Tests.{eqb-true, eqb-false, ne_eqb, not-true, not-false}
use Rattle.text.specs.Text.{Line}
use Rattle.text.specs.Columns.{Has, Within}
use Rattle.text.specs.Laws.{never_both}
use Rattle.field_numbers.specs.Number.{Number, OneOf}
use Rattle.field_numbers.specs.Agree.{one_number}
use Rattle.rules.specs.Forms.{Kind, CHG, RAD, ISO, tag, Property}
use Rattle.rules.specs.Record.{listed}
use Rattle.rules.specs.OneForm.{one_kind, no_end}
use Rattle.judge_line.specs.Got.{got}
use Rattle.judge_line.specs.Field.{elem, has, spaces_from}
use Rattle.judge_line.specs.Judge.{last, entry_number_at, entries_of, list_of, property_of}
use Rattle.judge_line.specs.Judge.{value}
use Rattle.judge_line.specs.AgreeField.{number_got_lem, has_got, has_is}
use Rattle.judge_refusals.specs.Demand.{Demand, ◌and_then◌, Some, given, whichever}
use Rattle.judge_refusals.specs.Refusals.{spaces_from_lem, entry_number, entries, listing, property_demands, one_of_four}
use Rattle.judge_refusals.specs.Tells as T
use Rattle.judge_refusals.specs.Tells.{Tells, past, until, then_tells, then_last, need_tells, cond_tells, given_tells, all_given, whichever_all, whichever_tells}
use Rattle.judge_refusals.specs.Fields.{number_tells, signed_tells, space_tells, spaces_last}
use Rattle.judge_refusals.specs.Lists.{Agrees, seen_agrees, New}

-- ---- 5. Property lines

entry_tells : (l : Line) (i j : ℕ) (kind : Kind) → Tells (entry_number l i j kind) (entry_number_at l i j kind)
unfolding entry_number_at
entry_tells l i j CHG = signed_tells l i j 15 15
entry_tells l i j RAD = then_last _ (number_tells l i j 0 3)
entry_tells l i j ISO = then_last _ (number_tells l i j 1 999)

module _ (n : ℕ) (l : Line) where
  one_more_lem : (i atom : ℕ) → Number l (i + 1) (i + 3) 1 n atom → (seen : List ℕ) (New : ℕ → Type 0) → Agrees seen New →
      Agrees (atom ∷ seen) (λ a. New a × (¬ Number l (i + 1) (i + 3) 1 n a))
  unfolding elem
  one_more_lem i atom k seen New h a = (to (eqb a atom) refl, back)
    where
      to : (t : Bool) → eqb a atom ≡ t → cond t true (elem a seen) ≡ false → New a × (¬ Number l (i + 1) (i + 3) 1 n a)
      to true e g = absurd (let z : ◌≡◌ {A = ℕ} 0 1 = cc in omega arith)
      to false e g = ((h a).0 g, λ m. eqb-false a atom e (one_number m k))

      back : New a × (¬ Number l (i + 1) (i + 3) 1 n a) → cond (eqb a atom) true (elem a seen) ≡ false
      back g = rw (ne_eqb a atom (λ e. g.1 (rw e k))) ((h a).1 g.0)

  entries_tells : (kind : Kind) (i k : ℕ) (seen : List ℕ) (New : ℕ → Type 0) → Agrees seen New → Tells (entries n kind l New i k) (entries_of n kind l i k seen)
  unfolding entries_of
  entries_tells kind i zero seen New h = T.value tt
  entries_tells kind i (suc k) seen New h =
      space_tells l i
      (then_tells (number_tells l (i + 1) (i + 3) 1 n) λ atom e.
      let atom_is_lem = number_got_lem l (i + 1) (i + 3) 1 n atom e in
      need_tells (not (elem atom seen)) (λ t. (atom, (atom_is_lem, (h atom).0 (not-true (elem atom seen) t))))
      (λ t d. never_both (elem atom seen) (not-false (elem atom seen) t) ((h atom).1 (subst New (one_number d.1.0 atom_is_lem) d.1.1))) λ t.
      space_tells l (i + 4)
      (then_tells (entry_tells l (i + 5) (i + 7) kind) λ number e.
      then_last _ (entries_tells kind (i + 8) k (atom ∷ seen) _ (one_more_lem i atom atom_is_lem seen New h))))

  counted : (k : ℕ) → 1 ≤ k → k ≤ 8 → OneOf k (1 ∷ 2 ∷ 3 ∷ 4 ∷ 5 ∷ 6 ∷ 7 ∷ 8 ∷ [])
  counted zero low high = absurd (omega arith)
  counted (suc zero) low high = OneOf.this
  counted (suc (suc zero)) low high = OneOf.later OneOf.this
  counted (suc (suc (suc zero))) low high = OneOf.later (OneOf.later OneOf.this)
  counted (suc (suc (suc (suc zero)))) low high = OneOf.later (OneOf.later (OneOf.later OneOf.this))
  counted (suc (suc (suc (suc (suc zero))))) low high = OneOf.later (OneOf.later (OneOf.later (OneOf.later OneOf.this)))
  counted (suc (suc (suc (suc (suc (suc zero)))))) low high = OneOf.later (OneOf.later (OneOf.later (OneOf.later (OneOf.later OneOf.this))))
  counted (suc (suc (suc (suc (suc (suc (suc zero))))))) low high = OneOf.later (OneOf.later (OneOf.later (OneOf.later (OneOf.later (OneOf.later OneOf.this)))))
  counted (suc (suc (suc (suc (suc (suc (suc (suc zero)))))))) low high = OneOf.later (OneOf.later (OneOf.later (OneOf.later (OneOf.later (OneOf.later (OneOf.later OneOf.this))))))
  counted (suc (suc (suc (suc (suc (suc (suc (suc (suc k))))))))) low high = absurd (omega arith)

  only_count : (k : ℕ) → Number l 7 9 1 8 k → (j : ℕ) → (j ≡ k) ⊎ (¬ Number l 7 9 1 8 j)
  only_count k k_is j = go (eqb j k) refl
    where
      go : (t : Bool) → eqb j k ≡ t → (j ≡ k) ⊎ (¬ Number l 7 9 1 8 j)
      go true e = inl (eqb-true j k e)
      go false e = inr (λ m. eqb-false j k e (one_number m k_is))

  list_tells : (kind : Kind) (seen : List ℕ) (New : ℕ → Type 0) → Agrees seen New → length l ≤ 80 → Tells (listing n kind New l) (list_of n kind seen l)
  unfolding list_of
  list_tells kind seen New h short =
      then_tells (number_tells l 7 9 1 8) λ k e.
      let k_is = number_got_lem l 7 9 1 8 k e in
      whichever_tells (Number l 7 9 1 8) (λ m. entries n kind l New 10 m and_then spaces_from_lem l (10 + 8 * m)) k k_is (only_count k k_is) _ (counted k k_is.low k_is.high)
      (then_tells (entries_tells kind 10 k seen New h) λ es e. spaces_last l _ (10 + 8 * k) (omega arith) short)

one_of_three : (k : Kind) → OneOf k (CHG ∷ RAD ∷ ISO ∷ [])
one_of_three CHG = OneOf.this
one_of_three RAD = OneOf.later OneOf.this
one_of_three ISO = OneOf.later (OneOf.later OneOf.this)

module _ (n : ℕ) (ps : List Property) (l : Line) (w : Within 80 l) where
  abbrev Tagged : Kind → Type 0
  Tagged kind = Has l 1 6 (tag kind)

  abbrev by_kind : List Demand
  by_kind = whichever (CHG ∷ RAD ∷ ISO ∷ []) Tagged (λ kind. listing n kind (New n ps l w kind) l)

  abbrev at_end : List Demand
  at_end = given (Has l 1 6 "M  END") (spaces_from_lem l 7)

  tagged_tells : (kind : Kind) → has l 1 6 (tag kind) ≡ true →
      Tells (property_demands n ps l) (list_of n kind (map (λ e. e.atom) (listed kind ps)) l)
  tagged_tells kind t =
      let h = has_got l 1 6 (tag kind) t in
      past (one_of_four l) (inl (kind, h), tt)
      (until at_end
      (whichever_tells Tagged (λ k. listing n k (New n ps l w k) l) kind h (only h) (CHG ∷ RAD ∷ ISO ∷ []) (one_of_three kind)
      (list_tells n l kind _ (New n ps l w kind) (seen_agrees (listed kind ps)) w.short))
      (λ a. all_given (spaces_from_lem l 7) (no_end l kind h)))
    where
      only : Tagged kind → (k : Kind) → (k ≡ kind) ⊎ (¬ Tagged k)
      only h k = go (has l 1 6 (tag k)) refl
        where
          go : (u : Bool) → has l 1 6 (tag k) ≡ u → (k ≡ kind) ⊎ (¬ Tagged k)
          go true e = inl (one_kind l k kind (has_got l 1 6 (tag k) e) h)
          go false e = inr (λ g. never_both (has l 1 6 (tag k)) (has_is l 1 6 (tag k) g) e)

  end_tells : has l 1 6 "M  END" ≡ true → Tells (property_demands n ps l) (spaces_from l 7 (got last))
  end_tells t =
      let h = has_got l 1 6 "M  END" t in
      past (one_of_four l) (inr h, tt)
      (past by_kind (whichever_all Tagged (λ k. listing n k (New n ps l w k) l) (CHG ∷ RAD ∷ ISO ∷ []) (λ k g. no_end l k g h))
      (given_tells h (spaces_last l last 7 (omega arith) w.short)))

  not_tagged : (kind : Kind) → has l 1 6 (tag CHG) ≡ false → has l 1 6 (tag RAD) ≡ false → has l 1 6 (tag ISO) ≡ false → ¬ Tagged kind
  not_tagged CHG a b c h = never_both (has l 1 6 (tag CHG)) (has_is l 1 6 (tag CHG) h) a
  not_tagged RAD a b c h = never_both (has l 1 6 (tag RAD)) (has_is l 1 6 (tag RAD) h) b
  not_tagged ISO a b c h = never_both (has l 1 6 (tag ISO)) (has_is l 1 6 (tag ISO) h) c

  pub property_tells : Tells (property_demands n ps l) (property_of n (λ kind. map (λ e. e.atom) (listed kind ps)) l)
  unfolding property_of
  property_tells =
      cond_tells (has l 1 6 (tag CHG)) (tagged_tells CHG) λ a.
      cond_tells (has l 1 6 (tag RAD)) (tagged_tells RAD) λ b.
      cond_tells (has l 1 6 (tag ISO)) (tagged_tells ISO) λ c.
      cond_tells (has l 1 6 "M  END") end_tells λ d.
      T.refusal (inl (none_of_four a b c d, refl, refl))
    where
      none_of_four : has l 1 6 (tag CHG) ≡ false → has l 1 6 (tag RAD) ≡ false → has l 1 6 (tag ISO) ≡ false → has l 1 6 "M  END" ≡ false →
          (Some λ kind. Has l 1 6 (tag kind)) ⊎ Has l 1 6 "M  END" → ⊥
      none_of_four a b c d (inl h) = not_tagged h.0 a b c h.1
      none_of_four a b c d (inr h) = never_both (has l 1 6 "M  END") (has_is l 1 6 "M  END" h) d
