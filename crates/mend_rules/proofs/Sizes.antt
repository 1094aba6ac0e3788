-- How long the mended text and the list can get.
use Rattle.std.specs.Prelude.{ℕ, suc, ◌+◌, ◌≤◌, List, [], ◌∷◌, Bool, true, false, cond, ◌&&◌, length}
use Rattle.std.proofs.Common.{arith, length-append}
use Rattle.std.proofs.Math.Bool.{and-false}
use Rattle.text.specs.Text.{Bytes}
use Rattle.text.specs.Cut.{split}
use Rattle.mend_rules.specs.Mend.{Action, keep, put, lose}
use Rattle.mend_rules.specs.Named.{deeds, fixes_from}
use Rattle.mend_rules.specs.Text.{actions, fixes, unfinished}
use Rattle.mend_rules.proofs.Text.{actions_many}
use Rattle.mend_rules.specs.Sizes.{pieces_size}

-- at most one fix for each line, and the LF
deeds_size : (i : ℕ) (a : Action) (b : Bool) → length (deeds i a b) ≤ 1 + cond b 1 0
deeds_size i keep true = omega arith
deeds_size i keep false = omega arith
deeds_size i put true = omega arith
deeds_size i put false = omega arith
deeds_size i lose true = omega arith
deeds_size i lose false = omega arith

deeds_few : (i : ℕ) (a : Action) (b : Bool) → length (deeds i a b) ≤ 2
deeds_few i a true = deeds_size i a true
deeds_few i a false = omega (arith, deeds_size i a false)

fixes_size : (u : Bool) (i : ℕ) (t : List Action) → length (fixes_from u i t) ≤ length t + 1
unfolding fixes_from
fixes_size u i [] = omega arith
fixes_size u i (a ∷ []) = omega (arith, length-append (deeds i a (u && true)) [], deeds_few i a (u && true))
fixes_size u i (a ∷ (b ∷ t)) =
    rw (and-false u) (omega (arith, deeds_size i a false, length-append (deeds i a false) (fixes_from u (suc i) (b ∷ t)), fixes_size u (suc i) (b ∷ t)))

pub list_size : (limit : ℕ) (s : Bytes) → length (fixes limit s) ≤ length s + 1
unfolding fixes
list_size limit s = omega (arith, fixes_size (unfinished (split s).rest) 1 (actions limit s), actions_many limit s, (pieces_size s).1)
