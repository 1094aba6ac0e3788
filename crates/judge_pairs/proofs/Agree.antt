-- The computed test says what the rules say: a pair is not taken if it is new.
use Rattle.std.specs.Prelude.{ℕ, ◌≡◌, refl, ◌↔◌, List, [], ◌∷◌, Bool, true, false, cond, ◌&&◌, ◌||◌, eqb}
use Rattle.std.proofs.Common.{sym, ◌∙◌, eqb-true, eq-eqb}
use Rattle.std.proofs.Math.Bool.{or-true}
use Rattle.text.specs.Laws.{true_false}
use Rattle.rules.specs.Forms.{Bond}
use Rattle.rules.specs.Record.{SamePair, along, against, NewPair}
use Rattle.judge_pairs.specs.Taken.{same_pair, pair_taken}

-- ---- Two bonds

both : (x y : ℕ) (u v : ℕ) → (eqb x u && eqb y v) ≡ true → (x ≡ u) × (y ≡ v)
both x y u v h = go (eqb x u) (eqb y v) refl refl h
  where
    go : (s t : Bool) → eqb x u ≡ s → eqb y v ≡ t → (s && t) ≡ true → (x ≡ u) × (y ≡ v)
    go true true p q h = (eqb-true x u p, eqb-true y v q)
    go true false p q h = true_false (sym h)
    go false t p q h = true_false (sym h)

pub same_sound : (b c : Bond) → same_pair b c ≡ true → SamePair b c
same_sound b c h = go (eqb b.first c.first && eqb b.second c.second) refl h
  where
    go : (t : Bool) → (eqb b.first c.first && eqb b.second c.second) ≡ t →
        (t || (eqb b.first c.second && eqb b.second c.first)) ≡ true → SamePair b c
    go true e h = let p = both b.first b.second c.first c.second e in along p.0 p.1
    go false e h = let p = both b.first b.second c.second c.first h in against p.0 p.1

pub same_complete : (b c : Bond) → SamePair b c → same_pair b c ≡ true
same_complete b c (along e f) = rw (eq-eqb b.first c.first e, eq-eqb b.second c.second f)
same_complete b c (against e f) =
    rw (eq-eqb b.first c.second e, eq-eqb b.second c.first f) (or-true (eqb b.first c.first && eqb b.second c.second))

pub same_agrees : (b c : Bond) → (same_pair b c ≡ true) ↔ SamePair b c
same_agrees b c = (same_sound b c, same_complete b c)

-- ---- A bond and those before it

not_taken : (b : Bond) (bs : List Bond) → pair_taken b bs ≡ false → NewPair b bs
unfolding pair_taken NewPair
not_taken b [] h = tt
not_taken b (c ∷ cs) h = go (same_pair b c) refl (λ k. not_taken b cs k) h
  where
    go : (t : Bool) → same_pair b c ≡ t → (pair_taken b cs ≡ false → NewPair b cs) → cond t true (pair_taken b cs) ≡ false → ¬ SamePair b c × NewPair b cs
    go true e ih k = true_false k
    go false e ih k = ((λ s. true_false (sym (same_complete b c s) ∙ e)), ih k)

new_free : (b : Bond) (bs : List Bond) → NewPair b bs → pair_taken b bs ≡ false
unfolding pair_taken NewPair
new_free b [] h = refl
new_free b (c ∷ cs) h = go (same_pair b c) refl (new_free b cs h.1)
  where
    go : (t : Bool) → same_pair b c ≡ t → pair_taken b cs ≡ false → cond t true (pair_taken b cs) ≡ false
    go true e ih = absurd (h.0 (same_sound b c e))
    go false e ih = ih

pub taken_no : (b : Bond) (bs : List Bond) → (pair_taken b bs ≡ false) ↔ NewPair b bs
taken_no b bs = (not_taken b bs, new_free b bs)
