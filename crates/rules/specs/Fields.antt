-- Laws of a line that is made of fields, one after the other: where each field stands, how long the line is, and what follows it.
use Rattle.std.specs.Prelude.{ℕ, zero, suc, ◌+◌, ◌^◌, ◌≤◌, ◌<◌, ◌≡◌, refl, List, [], ◌∷◌, ◌++◌, true, false, get_or, length, ℤ, pos}
use Rattle.std.proofs.Common.{arith, sym, ◌∙◌, subst, append_assoc, length-append}
use Rattle.text.specs.Laws.{each_append}
use Rattle.text.specs.Text.{Bytes, Line, Each}
use Rattle.text.specs.Columns.{columns, Allowed, Within, SpacesFrom}
use Rattle.text.specs.Agree.{columns_part, spaces_past}
use Rattle.field_numbers.specs.Number.{Integer, Number, Signed, Listed, SignedListed, Between, OneOf}
use Rattle.field_numbers.specs.Write.{number_text, signed_text, Fitting}
use Rattle.field_numbers.specs.Written.{number_back, signed_back}
use Rattle.rules.specs.Write.{joined}

-- each field has its width, and holds allowed bytes
unfoldable pub Fields : List Bytes → List ℕ → Type 0
Fields [] [] = Unit {0}
Fields [] (w ∷ ws) = ⊥
Fields (f ∷ fs) [] = ⊥
Fields (f ∷ fs) (w ∷ ws) = ((length f ≡ w) × Each Allowed f) × Fields fs ws

-- the width of the first k fields
abbrev pub upto : ℕ → List ℕ → ℕ
upto zero ws = 0
upto (suc k) [] = 0
upto (suc k) (w ∷ ws) = w + upto k ws

abbrev pub total : List ℕ → ℕ
total [] = 0
total (w ∷ ws) = w + total ws

pub joined_length : (fs : List Bytes) (ws : List ℕ) → Fields fs ws → length (joined fs) ≡ total ws
unfolding Fields joined
joined_length [] [] h = refl
joined_length [] (w ∷ ws) h = absurd h
joined_length (f ∷ fs) [] h = absurd h
joined_length (f ∷ fs) (w ∷ ws) h = length-append f (joined fs) ∙ omega (arith, h.0.0, joined_length fs ws h.1)

pub joined_allowed : (fs : List Bytes) (ws : List ℕ) → Fields fs ws → Each Allowed (joined fs)
unfolding Fields joined Each
joined_allowed [] [] h = tt
joined_allowed [] (w ∷ ws) h = absurd h
joined_allowed (f ∷ fs) [] h = absurd h
joined_allowed (f ∷ fs) (w ∷ ws) h = each_append Allowed f (joined fs) h.0.1 (joined_allowed fs ws h.1)

pub joined_within : (most : ℕ) (fs : List Bytes) (ws : List ℕ) → Fields fs ws → total ws ≤ most → Within most (joined fs)
joined_within most fs ws h s = record { short = omega (arith, joined_length fs ws h); allowed = joined_allowed fs ws h }

pub joined_past : (i : ℕ) (fs : List Bytes) (ws : List ℕ) → Fields fs ws → total ws < i → SpacesFrom (joined fs) i
joined_past i fs ws h s = spaces_past (joined fs) i (omega (arith, joined_length fs ws h))

pub field_after : (a : Bytes) (fs : List Bytes) (ws : List ℕ) (k i j : ℕ) → Fields fs ws → k < length fs →
    i ≡ suc (length a + upto k ws) → j ≡ length a + upto (suc k) ws → columns (a ++ joined fs) i j ≡ get_or fs k []
unfolding Fields joined
field_after a [] ws k i j h l p q = absurd (omega arith)
field_after a (f ∷ fs) [] k i j h l p q = absurd h
field_after a (f ∷ fs) (w ∷ ws) zero i j h l p q = columns_part a f (joined fs) i j (omega arith) (omega (arith, h.0.0))
field_after a (f ∷ fs) (w ∷ ws) (suc k) i j h l p q =
    let e = length-append a f in
    let g = h.0.0 in
    subst (λ (x : Line). columns x i j ≡ get_or fs k []) (append_assoc a f (joined fs))
    (field_after (a ++ f) fs ws k i j h.1 (omega arith) (omega arith) (omega arith))

-- the columns of field k
pub field_at : (fs : List Bytes) (ws : List ℕ) → Fields fs ws → (k : ℕ) → k < length fs →
    columns (joined fs) (suc (upto k ws)) (upto (suc k) ws) ≡ get_or fs k []
field_at fs ws h k l = field_after [] fs ws k (suc (upto k ws)) (upto (suc k) ws) h l (omega arith) (omega arith)

-- ---- Columns that hold a written number

pub number_in_lem : (l : Line) (i j w least most k : ℕ) → columns l i j ≡ number_text w k → k < 10 ^ w → least ≤ k → k ≤ most → Number l i j least most k
number_in_lem l i j w least most k e h low high =
    record { field = subst (λ (cs : Bytes). Integer false cs (pos k)) (sym e) (number_back false w k h); low = low; high = high }

pub listed_in : (l : Line) (i j w : ℕ) (list : List ℕ) (k : ℕ) → columns l i j ≡ number_text w k → k < 10 ^ w → OneOf k list → Listed l i j list k
listed_in l i j w list k e h o =
    record { field = subst (λ (cs : Bytes). Integer false cs (pos k)) (sym e) (number_back false w k h); listed = o }

pub signed_in_lem : (l : Line) (i j w below above : ℕ) (z : ℤ) → columns l i j ≡ signed_text w z → Fitting w z → Between below above z → Signed l i j below above z
signed_in_lem l i j w below above z e h b =
    record { field = subst (λ (cs : Bytes). Integer true cs z) (sym e) (signed_back w z h); range = b }

pub signed_listed_in : (l : Line) (i j w : ℕ) (list : List ℤ) (z : ℤ) → columns l i j ≡ signed_text w z → Fitting w z → OneOf z list → SignedListed l i j list z
signed_listed_in l i j w list z e h o =
    record { field = subst (λ (cs : Bytes). Integer true cs z) (sym e) (signed_back w z h); listed = o }

-- ---- Lists of numbers

-- what holds of every entry of a list holds of one of them
unfoldable pub Every : {A : Type 0} → (A → Type 0) → List A → Type 0
Every P [] = Unit {0}
Every P (x ∷ xs) = P x × Every P xs

pub one_every : {A : Type 0} (P : A → Type 0) {x : A} {xs : List A} → OneOf x xs → Every P xs → P x
unfolding Every
one_every P OneOf.this h = h.0
one_every P (OneOf.later o) h = one_every P o h.1

pub every_at : {A : Type 0} (P : A → Type 0) (xs : List A) (i : ℕ) (d : A) → Every P xs → P d → P (get_or xs i d)
unfolding Every
every_at P [] i d h p = p
every_at P (x ∷ xs) zero d h p = h.0
every_at P (x ∷ xs) (suc i) d h p = every_at P xs i d h.1 p
