-- The list of what was done. It says all: the mended lines are made of the lines as they came and the list, and a line that the list does not name comes out as it is.
use Rattle.std.specs.Prelude.{ℕ, suc, ◌*◌, ◌≤◌, ◌<◌, ◌≡◌, refl, List, [], ◌∷◌, ◌++◌, Bool, true, false, ◌&&◌, length}
use Rattle.std.proofs.Common.{ap, ◌∙◌, arith, eq-eqb, ne_eqb}
use Rattle.std.proofs.lemmas.List.{length-map}
use Rattle.text.specs.Text.{Line}
use Rattle.rules.specs.Record.{Raw}
use Rattle.judge_file.specs.Place.{Place}
use Rattle.mend_rules.specs.Mend.{Action, keep, put, lose, action_at, emptied, Left, went, fell, left, actions_of, piece, applied}
use Rattle.mend_rules.specs.Named.{Deed, Fix, fix, deeds, none, fixes_from, named, by_list, Rising, line_put, blank_dropped, lf_added}

-- ---- one action a line

pub actions_length : (limit : ℕ) (p : Place) (xs : List Raw) (ls : List Line) → length (actions_of limit p xs ls) ≡ length ls
unfolding actions_of
actions_length limit p xs [] = refl
actions_length limit p xs (l ∷ ls) = go (λ q ys. actions_length limit q ys ls) (action_at p xs l ls) refl (left limit p xs l) refl (left limit (emptied p) xs l) refl
  where
    go : ((q : Place) (ys : List Raw) → length (actions_of limit q ys ls) ≡ length ls) → (a : Action) → action_at p xs l ls ≡ a →
        (f : Left) → left limit p xs l ≡ f → (g : Left) → left limit (emptied p) xs l ≡ g → length (actions_of limit p xs (l ∷ ls)) ≡ suc (length ls)
    go r keep e (went q ys) f m g = rw (e, f, actions_of) (ap suc (r q ys))
    go r keep e (fell n c) f m g = rw (e, f, actions_of) (ap suc (length-map ls (λ t. keep)))
    go r put e m f (went q ys) g = rw (e, g, actions_of) (ap suc (r q ys))
    go r put e m f (fell n c) g = rw (e, g, actions_of) (ap suc (length-map ls (λ t. keep)))
    go r lose e m f n g = rw (e, actions_of) (ap suc (r p xs))

-- ---- in line order, and at one line the LF last

rising_down : (k j : ℕ) (fs : List Fix) → k ≤ j → Rising j fs → Rising k fs
unfolding Rising
rising_down k j [] l h = tt
rising_down k j (f ∷ fs) l h = (omega arith, h.1)

deeds_rise : (i : ℕ) (a : Action) (b : Bool) (fs : List Fix) → Rising (2 * suc i) fs → Rising (2 * i) (deeds i a b ++ fs)
unfolding Rising
deeds_rise i keep true fs h = (omega arith, rising_down _ (2 * suc i) fs (omega arith) h)
deeds_rise i keep false fs h = rising_down (2 * i) (2 * suc i) fs (omega arith) h
deeds_rise i put true fs h = (omega arith, (omega arith, rising_down _ (2 * suc i) fs (omega arith) h))
deeds_rise i put false fs h = (omega arith, rising_down _ (2 * suc i) fs (omega arith) h)
deeds_rise i lose b fs h = (omega arith, rising_down _ (2 * suc i) fs (omega arith) h)

pub in_order : (u : Bool) (i : ℕ) (t : List Action) → Rising (2 * i) (fixes_from u i t)
unfolding fixes_from Rising
in_order u i [] = tt
in_order u i (a ∷ t) = deeds_rise i a (u && none t) (fixes_from u (suc i) t) (in_order u (suc i) t)

-- ---- the list says all

passed : (j : ℕ) (f : Fix) (fs : List Fix) (ls : List Line) → f.line < j → by_list j (f ∷ fs) ls ≡ by_list j fs ls
unfolding by_list named
passed j f fs [] h = refl
passed j f fs (l ∷ ls) h = rw (ne_eqb j f.line (λ z. omega arith), passed (suc j) f fs ls (omega arith))

deeds_passed : (i : ℕ) (a : Action) (b : Bool) (fs : List Fix) (ls : List Line) → by_list (suc i) (deeds i a b ++ fs) ls ≡ by_list (suc i) fs ls
deeds_passed i keep true fs ls = passed (suc i) (fix i lf_added) fs ls (omega arith)
deeds_passed i keep false fs ls = refl
deeds_passed i put true fs ls = passed (suc i) (fix i line_put) (fix i lf_added ∷ fs) ls (omega arith) ∙ passed (suc i) (fix i lf_added) fs ls (omega arith)
deeds_passed i put false fs ls = passed (suc i) (fix i line_put) fs ls (omega arith)
deeds_passed i lose b fs ls = passed (suc i) (fix i blank_dropped) fs ls (omega arith)

deeds_other : (k i : ℕ) (a : Action) (b : Bool) (fs : List Fix) → k < i → named k fs ≡ keep → named k (deeds i a b ++ fs) ≡ keep
unfolding named
deeds_other k i keep true fs h e = rw (ne_eqb k i (λ z. omega arith)) e
deeds_other k i keep false fs h e = e
deeds_other k i put true fs h e = rw (ne_eqb k i (λ z. omega arith)) e
deeds_other k i put false fs h e = rw (ne_eqb k i (λ z. omega arith)) e
deeds_other k i lose b fs h e = rw (ne_eqb k i (λ z. omega arith)) e

unnamed : (u : Bool) (k i : ℕ) (t : List Action) → k < i → named k (fixes_from u i t) ≡ keep
unfolding named fixes_from
unnamed u k i [] h = refl
unnamed u k i (a ∷ t) h = deeds_other k i a (u && none t) (fixes_from u (suc i) t) h (unnamed u k (suc i) t (omega arith))

deeds_named : (i : ℕ) (a : Action) (b : Bool) (fs : List Fix) → named i fs ≡ keep → named i (deeds i a b ++ fs) ≡ a
unfolding named
deeds_named i keep true fs e = rw (eq-eqb i i refl)
deeds_named i keep false fs e = e
deeds_named i put true fs e = rw (eq-eqb i i refl)
deeds_named i put false fs e = rw (eq-eqb i i refl)
deeds_named i lose b fs e = rw (eq-eqb i i refl)

pub kept_lines : (u : Bool) (i : ℕ) (t : List Action) (ls : List Line) → length t ≡ length ls → applied t ls ≡ by_list i (fixes_from u i t) ls
unfolding applied fixes_from by_list
kept_lines u i [] [] h = refl
kept_lines u i [] (l ∷ ls) h = absurd (omega arith)
kept_lines u i (a ∷ t) [] h = absurd (omega arith)
kept_lines u i (a ∷ t) (l ∷ ls) h =
    let fs = fixes_from u (suc i) t in
    let b = u && none t in
    rw (deeds_named i a b fs (unnamed u i (suc i) t (omega arith)), deeds_passed i a b fs ls)
    (ap (λ (x : List Line). piece a l ++ x) (kept_lines u (suc i) t ls (omega arith)))
