-- What follows the rules is read, and read in one way.
use Rattle.std.specs.Prelude.{ℕ, zero, suc, ◌-◌, ◌≤◌, ◌<◌, List, Bool, length}
use Rattle.std.proofs.Math.Path.{◌≡◌, refl}
use Rattle.std.proofs.Common.{sym, ◌∙◌, arith}
use Rattle.std.proofs.Math.Bool.{true, false}
use Rattle.std.proofs.Math.Dec.{eqb}
use Rattle.std.proofs.Math.ListN.{get_or-eq_default}
use borrow.Author.Tests.{ne_eqb}
use Rattle.formula_rules.specs.Formula.{byte_at, between, is_digit, Tree, Trees, Count, Symbol, Units}
use Rattle.formula_rules.specs.Formula as F
use Rattle.formula_rules.specs.Bytes.{is_capital, is_small, between_from}
use Rattle.formula_rules.specs.Depth.{TreeIn, TreesIn}

outside_by : (l h b : ℕ) → (t : Bool) → between l h b ≡ t → (l ≤ b → b ≤ h → ⊥) → t ≡ false
outside_by l h b true e f = let p = between_from l h b e in absurd (f p.0 p.1)
outside_by l h b false e f = refl

pub outside : (l h b : ℕ) → (l ≤ b → b ≤ h → ⊥) → between l h b ≡ false
outside l h b f = outside_by l h b (between l h b) refl f

module _ (s : List ℕ) where
  -- neither a count nor a symbol goes on here
  pub record Stop (e : ℕ) : Type 0 where
    pub no_digit : is_digit (byte_at s e) ≡ false
    pub no_small : is_small (byte_at s e) ≡ false

  -- no unit starts here either
  pub record End (e : ℕ) : Type 0 where
    pub stop : Stop e
    pub no_open : eqb (byte_at s e) 40 ≡ false
    pub no_capital : is_capital (byte_at s e) ≡ false
    pub within : e ≤ length s

  pub end_of : (e b : ℕ) → byte_at s e ≡ b → b < 42 → (b ≡ 40 → ⊥) → e ≤ length s → End e
  end_of e b h l nope w =
      record {
        stop = record { no_digit = outside 48 57 (byte_at s e) (λ p q. omega arith); no_small = outside 97 122 (byte_at s e) (λ p q. omega arith) };
        no_open = ne_eqb (byte_at s e) 40 (λ z. nope (sym h ∙ z));
        no_capital = outside 65 90 (byte_at s e) (λ p q. omega arith);
        within = w;
      }

  pub end_text_lem : End (length s)
  end_text_lem = end_of (length s) 0 (get_or-eq_default s 0 (omega arith)) (omega arith) (λ z. omega arith) (omega arith)

  count_longer : {a e c : ℕ} → Count s a e c → a ≤ e
  count_longer Count.none = omega arith
  count_longer (Count.one p) = omega arith
  count_longer (Count.two p q) = omega arith
  count_longer (Count.three p q r) = omega arith

  symbol_longer : {a m k : ℕ} → Symbol s a m k → a < m
  symbol_longer (Symbol.short el n) = omega arith
  symbol_longer (Symbol.long el n) = omega arith

  mutual
    pub unit_longer : {a e : ℕ} {t : Tree} → F.Unit s a e t → a < e
    unit_longer (F.Unit.symbol y k) = omega (arith, symbol_longer y, count_longer k)
    unit_longer (F.Unit.grouped o us cl k) = omega (arith, units_longer us, count_longer k)

    pub units_longer : {a e : ℕ} {ts : Trees} → Units s a e ts → a < e
    units_longer (Units.last u) = unit_longer u
    units_longer (Units.next u us) = omega (arith, unit_longer u, units_longer us)

  -- each level takes bytes
  mutual
    unfolding TreeIn

    pub unit_shallow : {a e : ℕ} {t : Tree} → F.Unit s a e t → (d : ℕ) → e - a ≤ d → TreeIn t d
    unit_shallow (F.Unit.symbol y k) d l = tt
    unit_shallow (F.Unit.grouped o us cl k) zero l = absurd (omega (arith, units_longer us, count_longer k))
    unit_shallow (F.Unit.grouped o us cl k) (suc d) l = units_shallow us d (omega (arith, count_longer k))

    pub units_shallow : {a e : ℕ} {ts : Trees} → Units s a e ts → (d : ℕ) → e - a ≤ d → TreesIn ts d
    units_shallow (Units.last u) d l = (unit_shallow u d l, tt)
    units_shallow (Units.next u us) d l = (unit_shallow u d (omega (arith, units_longer us)), units_shallow us d (omega (arith, unit_longer u)))
