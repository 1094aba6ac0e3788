-- The atoms counted: the loop, and what its table says.
use Rattle.std.specs.Prelude.{ℕ, zero, suc, ◌+◌, ◌*◌, ◌-◌, ◌≤◌, ◌<◌, ◌≡◌, refl, List, [], ◌∷◌, Bool, cond, eqb, length, get_or, ℤ, pos, nat_abs}
use native.Mathlib.Omega.{arith}
use Rattle.std.proofs.Math.Path.{sym, ap}
use Rattle.std.proofs.Common.{◌∙◌, length-set, get_or-set_same, get_or-set_other, SFits, to_z, of_z}
use Rattle.std.proofs.Math.Bool.{true, false}
use Rattle.std.proofs.Math.Dec.{leb}
use Rattle.std.proofs.Math.ListN.{set}
use Rattle.std.specs.Int.Signed.{lt_z}
use Rattle.std.specs.Int.{w32}
use borrow.Author.Tests.{le-leb, lt-leb, eqb-true, eqb-false}
use Rattle.text.specs.Laws.{and_true}
use Rattle.field_numbers.specs.Signs.{below, above, same_sign, same_cast, same_size}
use Rattle.formula_rules.specs.Formula.{elements}
use Rattle.formula_rules.specs.Sums.{sat, Below}
use Rattle.formula_rules.specs.Capped.{sat_small, below_at}
use Rattle.formula_drawn.specs.Drawn.{plain, symbol_at, symbols_from, only_elements, how_many, tallied}

-- ---- A symbol

module _ (z : ℤ) (f : SFits w32 z) where
  pub symbol_less : lt_z (to_z w32 (of_z w32 z)) (pos 0) ≡ true → 0 ≡ plain z
  symbol_less t = ap plain (sym (below z f t).number)

  pub symbol_size : lt_z (to_z w32 (of_z w32 z)) (pos 0) ≡ false → nat_abs (to_z w32 (of_z w32 z)) ≡ plain z
  symbol_size t = let e = (above z f t).number in same_size z f t ∙ ap nat_abs e ∙ sym (ap plain e)

-- ---- The loop

pub record Tallying (t : List ℤ) (n : ℕ) (d₀ d : List ℕ) (i : ℕ) : Type 0 where
  pub within : i ≤ n
  pub low : Below d
  pub only : only_elements (symbols_from t 0 n) ≡ only_elements (symbols_from t i (n - i))
  pub same : tallied (symbols_from t 0 n) d₀ ≡ tallied (symbols_from t i (n - i)) d

module _ (t : List ℤ) (n : ℕ) (d₀ : List ℕ) where
  pub tally_start : Below d₀ → Tallying t n d₀ d₀ 0
  tally_start b =
      let z : n ≡ n - 0 = omega arith in
      record { within = omega arith; low = b; only = ap (λ (m : ℕ). only_elements (symbols_from t 0 m)) z; same = ap (λ (m : ℕ). tallied (symbols_from t 0 m) d₀) z }

  module _ (d : List ℕ) (i : ℕ) (h : Tallying t n d₀ d i) where
    pub tally_row : i < n → 16 * n ≤ length t → 16 * i + 16 ≤ length t
    tally_row l r = omega arith

    step : i < n → n - i ≡ suc (n - (i + 1))
    step l = omega arith

    pub tally_stop : i < n → {k : ℕ} → k ≡ symbol_at t i → 118 < k → (false ≡ only_elements (symbols_from t 0 n)) × (d ≡ tallied (symbols_from t 0 n) d₀)
    unfolding symbols_from only_elements tallied
    tally_stop l e g =
        let p : leb (symbol_at t i) elements ≡ false = lt-leb (symbol_at t i) elements (omega arith) in (
          sym (h.only ∙ ap (λ (m : ℕ). only_elements (symbols_from t i m)) (step l) ∙ rw p),
          sym (h.same ∙ ap (λ (m : ℕ). tallied (symbols_from t i m) d) (step l) ∙ rw p),
        )

    pub tally_next : i < n → {k : ℕ} → k ≡ symbol_at t i → k ≤ 118 → (u : List ℕ) → u ≡ set d k (sat (get_or d k 0 + 1)) → Tallying t n d₀ u (i + 1)
    unfolding symbols_from only_elements tallied
    tally_next l {k} e g u eu =
        let p : leb (symbol_at t i) elements ≡ true = le-leb (symbol_at t i) elements (omega arith) in
        record {
          within = omega arith;
          low = below_at d u k 1 h.low eu;
          only = h.only ∙ ap (λ (m : ℕ). only_elements (symbols_from t i m)) (step l) ∙ rw p;
          same = h.same ∙ ap (λ (m : ℕ). tallied (symbols_from t i m) d) (step l)
              ∙ rw p (ap (tallied (symbols_from t (i + 1) (n - (i + 1)))) (sym (eu ∙ ap (λ (j : ℕ). set d j (sat (get_or d j 0 + 1))) e)));
        }

    pub tally_end : n ≤ i → (true ≡ only_elements (symbols_from t 0 n)) × (d ≡ tallied (symbols_from t 0 n) d₀)
    unfolding symbols_from only_elements tallied
    tally_end l =
        let z : n - i ≡ 0 = omega arith in
        (sym (h.only ∙ ap (λ (m : ℕ). only_elements (symbols_from t i m)) z), sym (h.same ∙ ap (λ (m : ℕ). tallied (symbols_from t i m) d) z))

-- ---- What the table says

pub symbols_length : (t : List ℤ) (i n : ℕ) → length (symbols_from t i n) ≡ n
unfolding symbols_from
symbols_length t i zero = refl
symbols_length t i (suc n) = ap suc (symbols_length t (i + 1) n)

pub many_le : (ks : List ℕ) (j : ℕ) → how_many ks j ≤ length ks
unfolding how_many
many_le [] j = omega arith
many_le (k ∷ ks) j = go (eqb k j) (many_le ks j)
  where
    go : (b : Bool) → how_many ks j ≤ length ks → cond b 1 0 + how_many ks j ≤ suc (length ks)
    go true h = omega arith
    go false h = omega arith

entry_by : (t : List ℕ) (k j m : ℕ) → j < length t → get_or t j 0 + m + 1 ≤ 10000 → (b : Bool) → eqb k j ≡ b → get_or (set t k (sat (get_or t k 0 + 1))) j 0 ≡ get_or t j 0 + cond b 1 0
entry_by t k j m l s true e =
    rw (eqb-true k j e, get_or-set_same t j (sat (get_or t j 0 + 1)) 0 l) (sym (sat_small (get_or t j 0 + 1) (omega arith)))
entry_by t k j m l s false e =
    let n : (k ≡ j → ⊥) = eqb-false k j e in
    get_or-set_other t k j _ 0 (λ q. n (sym q)) ∙ omega arith

pub tally_entry : (ks t : List ℕ) (j : ℕ) → only_elements ks ≡ true → j < length t → get_or t j 0 + length ks ≤ 10000 → get_or (tallied ks t) j 0 ≡ get_or t j 0 + how_many ks j
unfolding tallied how_many only_elements
tally_entry [] t j h l s = omega arith
tally_entry (k ∷ ks) t j h l s =
    let p = and_true (leb k elements) (only_elements ks) h in
    let u = set t k (sat (get_or t k 0 + 1)) in
    let e = entry_by t k j (length ks) l (omega arith) (eqb k j) refl in
    rw p.0
    (tally_entry ks u j p.1 (omega (arith, length-set t k (sat (get_or t k 0 + 1)))) (bound (eqb k j) e) ∙ ap (λ (x : ℕ). x + how_many ks j) e ∙ omega arith)
  where
    bound : (b : Bool) → get_or (set t k (sat (get_or t k 0 + 1))) j 0 ≡ get_or t j 0 + cond b 1 0 → get_or (set t k (sat (get_or t k 0 + 1))) j 0 + length ks ≤ 10000
    bound true e = omega arith
    bound false e = omega arith

pub ruleset symbol_laws = (symbol_less, symbol_size, same_sign, same_cast)

pub ruleset tally_laws = (tally_start, tally_row, tally_stop, tally_next, tally_end)
