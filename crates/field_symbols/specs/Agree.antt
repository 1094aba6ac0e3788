-- The search for a symbol finds what the rule says, and three columns are one symbol at most.
use Rattle.std.specs.Prelude.{Option, Some, None, ℕ, suc, ◌+◌, ◌-◌, ◌≤◌, ◌<◌, ◌≡◌, refl, ◌↔◌, List, [], ◌∷◌, Bool, true, false, cond, eqb, get_or, length}
use Prim.Native.String.{String}
use Rattle.std.proofs.Common.{arith, ap, ◌∙◌, subst, eqb-true}
use Rattle.text.specs.Text.{Bytes, bytes}
use Rattle.text.specs.Columns.{columns, columns_for}
use Rattle.field_symbols.specs.Symbol.{names, name, Symbol}
use Rattle.text.specs.Find.{same_bytes}
use Rattle.text.specs.Agree.{same_bytes_lem}
use Rattle.field_symbols.specs.Read.{among, symbol_in}
use Rattle.field_symbols.specs.Table.{passes, passes_at}

-- ---- What is found is a symbol

-- the columns hold entry j - k of a list whose first entry has number k
record Among (cs : Bytes) (k : ℕ) (ss : List String) (j : ℕ) : Type 0 where
  low : k ≤ j
  high : j < k + length ss
  text : cs ≡ columns (bytes (get_or ss (j - k) "")) 1 3

among_sound : (cs : Bytes) (k j : ℕ) (ss : List String) → among cs k ss ≡ Some j → Among cs k ss j
unfolding among
among_sound cs k j [] h = absurd (let z : ◌≡◌ {A = ℕ} 0 1 = cc in omega arith)
among_sound cs k j (s ∷ ss) h = go (same_bytes cs (columns (bytes s) 1 3)) refl (λ g. among_sound cs (suc k) j ss g) h
  where
    go : (t : Bool) → same_bytes cs (columns (bytes s) 1 3) ≡ t → (among cs (suc k) ss ≡ Some j → Among cs (suc k) ss j) → cond t (Some k) (among cs (suc k) ss) ≡ Some j → Among cs k (s ∷ ss) j
    go true e ih g =
        let p : k ≡ j = cc in
        let z : j - k ≡ 0 = omega arith in
        record {
          low = omega arith;
          high = omega arith;
          text = rw z ((same_bytes_lem cs (columns (bytes s) 1 3)).0 e);
        }
    go false e ih g =
        let r = ih g in
        let z : j - k ≡ suc (j - suc k) = omega (arith, r.low) in
        record {
          low = omega (arith, r.low);
          high = omega (arith, r.high);
          text = rw z r.text;
        }

-- ---- A symbol is found: no name stands twice

unfoldable pub is_number : ℕ → Option ℕ → Bool
is_number k (Some j) = eqb j k
is_number k None = false

pub is_number_lem : (k : ℕ) (r : Option ℕ) → is_number k r ≡ true → r ≡ Some k
unfolding is_number
is_number_lem k (Some j) h = ap Some (eqb-true j k h)
is_number_lem k None h = absurd (let z : ◌≡◌ {A = ℕ} 0 1 = cc in omega arith)

found : ℕ → String → Bool
found k s = is_number k (symbol_in (columns (bytes s) 1 3))

all_found : passes found 1 names ≡ true
unfolding passes found is_number symbol_in among same_bytes columns_for
all_found = refl

found_at : (k : ℕ) → 1 ≤ k → k ≤ length names → symbol_in (columns (bytes (name k)) 1 3) ≡ Some k
unfolding found
found_at k lo hi =
    let e : 1 + (k - 1) ≡ k = omega arith in
    is_number_lem k (symbol_in (columns (bytes (name k)) 1 3))
    (subst (λ (j : ℕ). found j (name k) ≡ true) e (passes_at found "" names 1 (k - 1) all_found (omega arith)))

-- ---- The search and the rule agree

pub symbol_agrees : (cs : Bytes) (k : ℕ) → (symbol_in cs ≡ Some k) ↔ Symbol cs k
unfolding symbol_in
symbol_agrees cs k = (
  (λ h. let r = among_sound cs 1 k names h in record { low = r.low; high = omega (arith, r.high); text = r.text }),
  (λ s. ap symbol_in s.text ∙ found_at k s.low s.high),
)

pub one_symbol : {cs : Bytes} {j k : ℕ} → Symbol cs j → Symbol cs k → j ≡ k
one_symbol {cs} {j} {k} a b =
    let p = (symbol_agrees cs j).1 a in
    let q = (symbol_agrees cs k).1 b in
    cc
