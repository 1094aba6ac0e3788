-- `tally_list::insert_tally` meets its contract: each turn is one step of the shift.
use Rattle.std.proofs.Common.{ℕ, suc, ◌+◌, ◌-◌, ◌≡◌, ◌≤◌, ◌<◌, sym, ap, ◌∙◌, arith, length, get_or, set}
use Rattle.std.proofs.lemmas.List.{get_or_default}
use mathlib.Core.List.{List}
use Rattle.tally_rules.specs.declared.Tally.{Tally}
use Rattle.tally_flat.specs.Slots.{no_tally}
use Rattle.tally_list.specs.Tallies.{shifted}
use Rattle.tally_list.proofs.insert_tally.Goals as goal

shift_more : (start j : ℕ) (zs : List Tally) → start < j → shifted (j - start) start zs ≡ shifted (j - 1 - start) start (set zs j (get_or zs (j - 1) no_tally))
unfolding shifted
shift_more start j zs h =
    let n = j - 1 - start in
    let a : j - start ≡ suc n = omega arith in
    let b : start + n ≡ j - 1 = omega arith in
    let c : suc (j - 1) ≡ j = omega arith in
    ap (λ (m : ℕ). shifted m start zs) a
    ∙ ap (λ (m : ℕ). shifted n start (set zs (suc m) (get_or zs m no_tally))) b
    ∙ ap (λ (m : ℕ). shifted n start (set zs m (get_or zs (j - 1) no_tally))) c

shift_at : (start j : ℕ) (d : Tally) (zs : List Tally) → start < j → j ≤ length zs → shifted (j - start) start zs ≡ shifted (j - 1 - start) start (set zs j (get_or zs (j - 1) d))
shift_at start j d zs h l =
    shift_more start j zs h ∙ ap (λ (t : Tally). shifted (j - 1 - start) start (set zs j t)) (get_or_default zs (j - 1) no_tally d (omega arith))

shift_end : (start j : ℕ) (zs : List Tally) → j ≤ start → shifted (j - start) start zs ≡ zs
unfolding shifted
shift_end start j zs h = let a : j - start ≡ 0 = omega arith in rw a

pub loop-k-preserved : goal.loop-k-preserved
loop-k-preserved c = record {
  low = omega arith;
  high = omega arith;
  same =
      let e : c.loop-k.k - 1 + 1 ≡ c.loop-k.k = omega arith in
      rw e (c.loop-k.invariant.same ∙ shift_at c.args.from c.loop-k.k _ c.loop-k.list c.loop-k-test.true (omega arith));
}

pub returns : goal.returns
returns c =
    ap (λ (zs : List Tally). set zs c.args.from c.args.t) (sym (c.loop-k.invariant.same ∙ shift_end c.args.from c.loop-k.k c.loop-k.list c.loop-k-test.false))
