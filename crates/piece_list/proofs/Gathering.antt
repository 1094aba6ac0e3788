-- The set of a piece's atoms, gathered.
use Prim.Native.Nat.{ℕ, ◌+◌, ◌-◌, ◌≤◌, ◌<◌}
use native.Mathlib.Omega.{arith}
use mathlib.Core.Path.{◌≡◌, refl, sym, ap, ◌∙◌, subst}
use mathlib.Core.List.{List}
use mathlib.Core.Bool.{Bool, true, false, ◌||◌}
use lib.Dec.{eqb}
use lib.ListN.{length, get_or, replicate}
use borrow.Author.Tests.{eq-eqb, ne_eqb, eqb-true, eqb-false}
use Rattle.sets_words.specs.Bits.{has_bit, with_bit}
use Rattle.sets_words.specs.HowMany.{how_many, many_same, many_above}
use Rattle.sets_words.specs.Members.{put_has, put_length, none_has}
use Rattle.rules.specs.Record.{limit}
use Rattle.piece_list.specs.Heads.{Below, labelled, size_in}

pub record Gathering (ls : List ℕ) (n head : ℕ) (ws : List ℕ) (i : ℕ) : Type 0 where
  pub within : i ≤ n
  pub room : length ws ≡ 16
  pub gathered : (j : ℕ) → j < i → has_bit ws j ≡ labelled ls head j
  pub empty : (j : ℕ) → i ≤ j → has_bit ws j ≡ false

-- no atom before i has the label i + 1
pub gathering_start : (ls : List ℕ) (n i : ℕ) → i < n → Below n ls → Gathering ls n (i + 1) (replicate 16 0) i
unfolding Below
gathering_start ls n i h low =
    record {
      within = omega arith;
      room = refl;
      gathered = λ j l. none_has 16 j ∙ sym (ne_eqb (get_or ls j 0) (i + 1) (λ e. omega (arith, low j (omega arith))));
      empty = λ j l. none_has 16 j;
    }

module _ (ls : List ℕ) (n head : ℕ) (ws : List ℕ) (i : ℕ) (g : Gathering ls n head ws i) (h : i < n) (few : n ≤ limit) where
  pub gathering_miss : (get_or ls i 0 ≡ head → ⊥) → Gathering ls n head ws (i + 1)
  gathering_miss ne =
      record {
        within = omega arith;
        room = g.room;
        gathered = λ j l. go j l (eqb j i) refl;
        empty = λ j l. g.empty j (omega arith);
      }
    where
      go : (j : ℕ) → j < i + 1 → (t : Bool) → eqb j i ≡ t → has_bit ws j ≡ labelled ls head j
      go j l true q =
          subst (λ (k : ℕ). has_bit ws k ≡ labelled ls head k) (sym (eqb-true j i q)) (g.empty i (omega arith) ∙ sym (ne_eqb (get_or ls i 0) head ne))
      go j l false q = let d = eqb-false j i q in g.gathered j (omega arith)

  pub gathering_hit : (vs : List ℕ) → get_or ls i 0 ≡ head → vs ≡ with_bit ws i → Gathering ls n head vs (i + 1)
  gathering_hit vs e w =
      subst (λ (us : List ℕ). Gathering ls n head us (i + 1)) (sym w)
      (record {
        within = omega arith;
        room = put_length ws i ∙ g.room;
        gathered = λ j l. has j ∙ go j l (eqb j i) refl;
        empty = λ j l. has j ∙ none j l;
      })
    where
      has : (j : ℕ) → has_bit (with_bit ws i) j ≡ (eqb j i || has_bit ws j)
      has j = put_has ws i j (omega (arith, g.room))

      go : (j : ℕ) → j < i + 1 → (t : Bool) → eqb j i ≡ t → (eqb j i || has_bit ws j) ≡ labelled ls head j
      go j l true q = ap (λ (b : Bool). b || has_bit ws j) q ∙ sym (ap (labelled ls head) (eqb-true j i q) ∙ eq-eqb (get_or ls i 0) head e)
      go j l false q = let d = eqb-false j i q in ap (λ (b : Bool). b || has_bit ws j) q ∙ g.gathered j (omega arith)

      none : (j : ℕ) → i + 1 ≤ j → (eqb j i || has_bit ws j) ≡ false
      none j l = ap (λ (b : Bool). b || has_bit ws j) (ne_eqb j i (λ q. omega arith)) ∙ g.empty j (omega arith)

pub gathering_end : (ls : List ℕ) (n head : ℕ) (ws : List ℕ) (i r : ℕ) → Gathering ls n head ws i → n ≤ i → n ≤ limit → r ≡ how_many (has_bit ws) 1024 →
    r ≡ size_in ls n head
gathering_end ls n head ws i r g h few e =
    let d : 1024 ≡ n + (1024 - n) = omega arith in
    e ∙ ap (how_many (has_bit ws)) d ∙ many_above (has_bit ws) n (1024 - n) (λ j l u. g.empty j (omega (arith, g.within)))
    ∙ many_same (has_bit ws) (labelled ls head) n (λ j l. g.gathered j (omega arith))
