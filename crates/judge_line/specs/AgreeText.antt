-- Tests on the bytes of a line: what it begins with or contains, and whether it is blank.
use Rattle.std.specs.Prelude.{ℕ, ◌≡◌, refl, [], ◌∷◌, ◌++◌, Bool, true, false, ◌||◌, eqb, length}
use Rattle.std.proofs.Common.{arith, sym, ap, eqb-true, eq-eqb}
use Rattle.std.proofs.Math.Bool.{or-true}
use Rattle.text.specs.Text.{Bytes, Line, Each}
use Rattle.text.specs.Columns.{Blank, spaces}
use Rattle.text.specs.Laws.{and_true}
use Rattle.judge_line.specs.Judge.{begins, contains}

-- a test that finds what there is, and only that
pub none_of : {X : Type 0} (t : Bool) → (t ≡ true → X) → ¬ X → t ≡ false
none_of true p q = absurd (q (p refl))
none_of false p q = refl

-- ---- `begins`

pub begins_got : (t l : Bytes) → begins t l ≡ true → (after : Bytes) × (l ≡ t ++ after)
unfolding begins
begins_got [] l h = (l, refl)
begins_got (t ∷ ts) [] h = absurd (let z : ◌≡◌ {A = ℕ} 0 1 = cc in omega arith)
begins_got (t ∷ ts) (b ∷ l) h =
    let a = and_true (eqb t b) (begins ts l) h in
    let e : t ≡ b = eqb-true t b a.0 in
    let r = begins_got ts l a.1 in
    let q = r.1 in
    (r.0, λ i. sym e i ∷ q i)

pub begins_is : (t after : Bytes) → begins t (t ++ after) ≡ true
unfolding begins
begins_is [] after = refl
begins_is (t ∷ ts) after = rw (eq-eqb t t refl) (begins_is ts after)

-- ---- `contains`

begins_within : (t l : Bytes) → begins t l ≡ true → contains t l ≡ true
unfolding contains
begins_within t [] h = h
begins_within t (b ∷ l) h = rw h

pub contains_is : (t before after : Bytes) → contains t (before ++ (t ++ after)) ≡ true
unfolding contains
contains_is t [] after = begins_within t (t ++ after) (begins_is t after)
contains_is t (b ∷ before) after = rw (contains_is t before after) (or-true (begins t (b ∷ (before ++ (t ++ after)))))

-- the bytes before the text, those after it
abbrev Holding : Bytes → Line → Type 0
Holding t l = (before : Bytes) × (after : Bytes) × (l ≡ before ++ (t ++ after))

contains_by : (t l : Bytes) (b : ℕ) (x : Bool) → begins t (b ∷ l) ≡ x → (contains t l ≡ true → Holding t l) → (x || contains t l) ≡ true → Holding t (b ∷ l)
contains_by t l b true e more h = let r = begins_got t (b ∷ l) e in ([], r.0, r.1)
contains_by t l b false e more h = let r = more h in (b ∷ r.0, r.1, ap (λ (x : Bytes). b ∷ x) r.2)

pub contains_got : (t l : Bytes) → contains t l ≡ true → (before : Bytes) × (after : Bytes) × (l ≡ before ++ (t ++ after))
unfolding contains
contains_got t [] h = let r = begins_got t [] h in ([], r.0, r.1)
contains_got t (b ∷ l) h = contains_by t l b (begins t (b ∷ l)) refl (contains_got t l) h

-- ---- blank lines

pub blank_spaces : (l : Line) → Blank l → l ≡ spaces (length l)
unfolding Each
blank_spaces [] h = refl
blank_spaces (b ∷ l) h = let e = h.0 in let r = blank_spaces l h.1 in λ i. e i ∷ r i
