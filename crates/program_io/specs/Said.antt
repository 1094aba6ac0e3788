-- What is said into a short text, byte by byte: what does not fit is left out.
use Rattle.std.specs.Prelude.{ℕ, zero, suc, ◌+◌, ◌<◌, ◌≤◌, ◌≡◌, refl, nat_lt, cond}
use Rattle.std.proofs.Common.{arith, lt-ltb, le-ltb, sym, ap, ◌∙◌, add-one}
use mathlib.Core.List.{List, [], ◌∷◌}
use Rattle.std.proofs.Math.ListN.{length, take, get_or, set}
use Rattle.program_io.specs.declared.Text.{Text}

unfoldable pub said_byte : Text → ℕ → Text
said_byte t b = cond (nat_lt t.used 128) (record { bytes = set t.bytes t.used b; used = t.used + 1 }) t

unfoldable pub said : Text → List ℕ → Text
said t [] = t
said t (b ∷ bs) = said (said_byte t b) bs

pub said_room : (t : Text) (b : ℕ) → t.used < 128 → record { bytes = set t.bytes t.used b; used = t.used + 1 } ≡ said_byte t b
unfolding said_byte
said_room t b h = rw (lt-ltb t.used 128 h) refl

pub said_full : (t : Text) (b : ℕ) → 128 ≤ t.used → t ≡ said_byte t b
unfolding said_byte
said_full t b h = rw (le-ltb t.used 128 h) refl

pub said_none : (t : Text) → t ≡ said t []
unfolding said
said_none t = refl

step : (t : Text) (w : List ℕ) (i : ℕ) → i < length w → said_byte (said t (take i w)) (get_or w i 0) ≡ said t (take (suc i) w)
unfolding said
step t [] i h = absurd (omega (arith, h))
step t (b ∷ w) zero h = refl
step t (b ∷ w) (suc i) h = step (said_byte t b) w i (omega (arith, h))

pub said_next : (t x y : Text) (w : List ℕ) (i : ℕ) → x ≡ said t (take i w) → y ≡ said_byte x (get_or w i 0) → i < length w → y ≡ said t (take (i + 1) w)
said_next t x y w i e f h = f ∙ ap (λ (z : Text). said_byte z (get_or w i 0)) e ∙ step t w i h ∙ ap (λ (n : ℕ). said t (take n w)) (sym (add-one i))

pub room_next : (t x : Text) (w : List ℕ) (i : ℕ) → x ≡ said t (take i w) → x.used < 128 → i < length w → record { bytes = set x.bytes x.used (get_or w i 0); used = x.used + 1 } ≡ said t (take (i + 1) w)
room_next t x w i e r h = said_next t x _ w i e (said_room x (get_or w i 0) r) h

pub full_next : (t x : Text) (w : List ℕ) (i : ℕ) → x ≡ said t (take i w) → 128 ≤ x.used → i < length w → x ≡ said t (take (i + 1) w)
full_next t x w i e r h = said_next t x x w i e (said_full x (get_or w i 0) r) h
