-- Letters looked up in the names of the elements: what is found is the name that stands there.
use Rattle.std.specs.Prelude.{Option, Some, None, ℕ, suc, ◌+◌, ◌-◌, ◌≤◌, ◌≡◌, refl, [], ◌∷◌, Bool, true, false, cond, ◌&&◌, leb, length}
use Prim.Native.String.{String}
use Rattle.std.proofs.Common.{arith, sym, ap, ◌∙◌, subst, leb-true, le-leb}
use Rattle.text.specs.Text.{Bytes, bytes}
use Rattle.text.specs.Columns.{columns, columns_for}
use Rattle.text.specs.Laws.{and_true}
use Rattle.field_symbols.specs.Symbol.{names, name}
use Rattle.field_symbols.specs.Symbol as S
use Rattle.field_symbols.specs.Read.{symbol_in}
use Rattle.field_symbols.specs.Agree.{symbol_agrees}
use Rattle.field_symbols.specs.Table.{passes, passes_at}
use Rattle.formula_rules.specs.Formula.{between, Element, elements}
use Rattle.formula_rules.specs.Bytes.{is_capital, is_small, between_from}

-- ---- Names of elements: a capital, or a capital and a small letter

shaped : Bytes → Bool
shaped [] = false
shaped (x ∷ []) = is_capital x
shaped (x ∷ y ∷ []) = is_capital x && is_small y
shaped (x ∷ y ∷ z ∷ bs) = false

shaped_name : ℕ → String → Bool
shaped_name i s = cond (leb elements i) true (shaped (bytes s))

all_shaped : passes shaped_name 0 names ≡ true
unfolding passes shaped_name shaped between
all_shaped = refl

pub data Named (bs : Bytes) : Type 0 where
  one : (x : ℕ) → is_capital x ≡ true → bs ≡ x ∷ [] → Named bs
  two : (x y : ℕ) → is_capital x ≡ true → is_small y ≡ true → bs ≡ x ∷ y ∷ [] → Named bs

named_by : (bs : Bytes) → shaped bs ≡ true → Named bs
unfolding shaped
named_by [] h = absurd (let z : ◌≡◌ {A = ℕ} 0 1 = cc in omega arith)
named_by (x ∷ []) h = Named.one x h refl
named_by (x ∷ y ∷ []) h = let p = and_true (is_capital x) (is_small y) h in Named.two x y p.0 p.1 refl
named_by (x ∷ y ∷ z ∷ bs) h = absurd (let z : ◌≡◌ {A = ℕ} 0 1 = cc in omega arith)

pub named : (k : ℕ) → Element k → Named (bytes (name k))
unfolding shaped_name
named k e =
    let z : 0 + (k - 1) ≡ k - 1 = omega arith in
    let p : shaped_name (k - 1) (name k) ≡ true = subst (λ (i : ℕ). shaped_name i (name k) ≡ true) z (passes_at shaped_name "" names 0 (k - 1) all_shaped (omega (arith, e.low, e.high))) in
    named_by (bytes (name k)) (go (leb elements (k - 1)) refl p)
  where
    go : (t : Bool) → leb elements (k - 1) ≡ t → cond t true (shaped (bytes (name k))) ≡ true → shaped (bytes (name k)) ≡ true
    go true q h = absurd (omega (arith, leb-true elements (k - 1) q, e.low, e.high))
    go false q h = h

-- ---- The search

-- the element that two letters name, a space for the second where there is one letter; 0 is none
abbrev pub only_element : Option ℕ → ℕ
only_element (Some k) = cond (leb k elements) k 0
only_element None = 0

unfoldable pub element_of : ℕ → ℕ → ℕ
element_of x y = only_element (symbol_in (x ∷ y ∷ 32 ∷ []))

pub element_le : (x y : ℕ) → element_of x y ≤ elements
unfolding element_of
element_le x y = go (symbol_in (x ∷ y ∷ 32 ∷ []))
  where
    low : (k : ℕ) (t : Bool) → leb k elements ≡ t → cond t k 0 ≤ elements
    low k true e = leb-true k elements e
    low k false e = omega arith

    go : (r : Option ℕ) → only_element r ≤ elements
    go (Some k) = low k (leb k elements) refl
    go None = omega arith

columns_one : (x : ℕ) → columns (x ∷ []) 1 3 ≡ x ∷ 32 ∷ 32 ∷ []
unfolding columns_for
columns_one x = refl

columns_two : (x y : ℕ) → columns (x ∷ y ∷ []) 1 3 ≡ x ∷ y ∷ 32 ∷ []
unfolding columns_for
columns_two x y = refl

element_by : (k x y : ℕ) → Element k → x ∷ y ∷ 32 ∷ [] ≡ columns (bytes (name k)) 1 3 → element_of x y ≡ k
unfolding element_of
element_by k x y e h =
    let f = (symbol_agrees (x ∷ y ∷ 32 ∷ []) k).1 (record { low = e.low; high = omega (arith, e.high); text = h }) in
    ap only_element f ∙ rw (le-leb k elements e.high)

pub one_letter : (k x : ℕ) → Element k → bytes (name k) ≡ x ∷ [] → element_of x 32 ≡ k
one_letter k x e h = element_by k x 32 e (sym (ap (λ (bs : Bytes). columns bs 1 3) h ∙ columns_one x))

pub two_letters : (k x y : ℕ) → Element k → bytes (name k) ≡ x ∷ y ∷ [] → element_of x y ≡ k
two_letters k x y e h = element_by k x y e (sym (ap (λ (bs : Bytes). columns bs 1 3) h ∙ columns_two x y))

-- ---- What is found

pub record Spelled (k x y : ℕ) : Type 0 where
  pub element : Element k
  pub text : x ∷ y ∷ 32 ∷ [] ≡ columns (bytes (name k)) 1 3

spelled : (k x y : ℕ) → element_of x y ≡ suc k → Spelled (suc k) x y
unfolding element_of
spelled k x y h = go (symbol_in (x ∷ y ∷ 32 ∷ [])) refl h
  where
    small : (j : ℕ) (t : Bool) → leb j elements ≡ t → symbol_in (x ∷ y ∷ 32 ∷ []) ≡ Some j → cond t j 0 ≡ suc k → Spelled (suc k) x y
    small j true q e h =
        let s : S.Symbol (x ∷ y ∷ 32 ∷ []) (suc k) = (symbol_agrees (x ∷ y ∷ 32 ∷ []) (suc k)).0 (e ∙ ap Some h) in
        record { element = record { low = s.low; high = omega (arith, leb-true j elements q) }; text = s.text }
    small j false q e h = absurd (omega arith)

    go : (r : Option ℕ) → symbol_in (x ∷ y ∷ 32 ∷ []) ≡ r → only_element r ≡ suc k → Spelled (suc k) x y
    go (Some j) e h = small j (leb j elements) refl e h
    go None e h = absurd (omega arith)

pub element_is : (k x y : ℕ) → element_of x y ≡ suc k → Element (suc k)
element_is k x y h = (spelled k x y h).element

pub found_one : (k x : ℕ) → element_of x 32 ≡ suc k → bytes (name (suc k)) ≡ x ∷ []
found_one k x h = let s = spelled k x 32 h in go (named (suc k) s.element) s.text
  where
    go : Named (bytes (name (suc k))) → x ∷ 32 ∷ 32 ∷ [] ≡ columns (bytes (name (suc k))) 1 3 → bytes (name (suc k)) ≡ x ∷ []
    go (Named.one z p q) t =
        let u : x ∷ 32 ∷ 32 ∷ [] ≡ z ∷ 32 ∷ 32 ∷ [] = t ∙ ap (λ (bs : Bytes). columns bs 1 3) q ∙ columns_one z in
        let v : x ≡ z = cc in
        q ∙ ap (λ (b : ℕ). b ∷ []) (sym v)
    go (Named.two z w p r q) t =
        let u : x ∷ 32 ∷ 32 ∷ [] ≡ z ∷ w ∷ 32 ∷ [] = t ∙ ap (λ (bs : Bytes). columns bs 1 3) q ∙ columns_two z w in
        let v : 32 ≡ w = cc in
        absurd (omega (arith, between_from 97 122 w r))

pub found_two : (k x y : ℕ) → is_small y ≡ true → element_of x y ≡ suc k → bytes (name (suc k)) ≡ x ∷ y ∷ []
found_two k x y i h = let s = spelled k x y h in go (named (suc k) s.element) s.text
  where
    go : Named (bytes (name (suc k))) → x ∷ y ∷ 32 ∷ [] ≡ columns (bytes (name (suc k))) 1 3 → bytes (name (suc k)) ≡ x ∷ y ∷ []
    go (Named.one z p q) t =
        let u : x ∷ y ∷ 32 ∷ [] ≡ z ∷ 32 ∷ 32 ∷ [] = t ∙ ap (λ (bs : Bytes). columns bs 1 3) q ∙ columns_one z in
        let v : y ≡ 32 = cc in
        absurd (omega (arith, between_from 97 122 y i))
    go (Named.two z w p r q) t =
        let u : x ∷ y ∷ 32 ∷ [] ≡ z ∷ w ∷ 32 ∷ [] = t ∙ ap (λ (bs : Bytes). columns bs 1 3) q ∙ columns_two z w in
        let v : x ≡ z = cc in
        let o : y ≡ w = cc in
        q ∙ ap (λ (b : ℕ). b ∷ w ∷ []) (sym v) ∙ ap (λ (b : ℕ). x ∷ b ∷ []) (sym o)

-- how a name begins
pub short_capital : (k x : ℕ) → Element k → bytes (name k) ≡ x ∷ [] → is_capital x ≡ true
short_capital k x e h = go (named k e)
  where
    go : Named (bytes (name k)) → is_capital x ≡ true
    go (Named.one z p q) = let u : x ∷ [] ≡ z ∷ [] = sym h ∙ q in let v : x ≡ z = cc in rw v p
    go (Named.two z w p r q) = let u : length (x ∷ []) ≡ length (z ∷ w ∷ []) = ap length (sym h ∙ q) in absurd (omega arith)

pub long_letters : (k x y : ℕ) → Element k → bytes (name k) ≡ x ∷ y ∷ [] → (is_capital x ≡ true) × (is_small y ≡ true)
long_letters k x y e h = go (named k e)
  where
    go : Named (bytes (name k)) → (is_capital x ≡ true) × (is_small y ≡ true)
    go (Named.one z p q) = let u : length (x ∷ y ∷ []) ≡ length (z ∷ []) = ap length (sym h ∙ q) in absurd (omega arith)
    go (Named.two z w p r q) = let u : x ∷ y ∷ [] ≡ z ∷ w ∷ [] = sym h ∙ q in let v : x ≡ z = cc in let o : y ≡ w = cc in (rw v p, rw o r)
