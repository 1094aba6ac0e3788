-- What a record's numbers have to be before its rows are compared.
use Rattle.std.specs.Prelude.{ℕ, ◌*◌, ◌≤◌, ◌<◌, ◌^◌, ◌≡◌, Bool, true, false}
use Rattle.std.proofs.Common.{arith}
use Rattle.compare_record.specs.declared.Numbers.{Numbers}
use Rattle.compare_record.specs.Numbers.{SmallNumbers}

pub record Fitting (x : Numbers) (ta tb : ℕ) : Type 0 where
  pub small : SmallNumbers x
  pub atoms : 16 * x.n ≤ ta
  pub bonds : 6 * x.m ≤ tb

pub not_fitting : (x : Numbers) (ta tb : ℕ) → false ≡ true → Fitting x ta tb
not_fitting x ta tb h = absurd (let z : ◌≡◌ {A = ℕ} 0 1 = cc in omega arith)

pub fitting : (x : Numbers) (ta tb : ℕ) → x.n ≤ 2147483647 → x.m ≤ 2147483647 → x.chiral ≤ 1 → 16 * x.n ≤ ta → 6 * x.m ≤ tb → true ≡ true → Fitting x ta tb
fitting x ta tb n m c a b h = record { small = record { n = omega arith; m = omega arith; chiral = omega arith }; atoms = a; bonds = b }

module _ (r : Bool) (x : Numbers) (ta tb : ℕ) (f : r ≡ true → Fitting x ta tb) (h : r ≡ true) where
  pub fit_small : SmallNumbers x
  fit_small = (f h).small

  pub fit_atoms : 16 * x.n ≤ ta
  fit_atoms = (f h).atoms

  pub fit_bonds : 6 * x.m ≤ tb
  fit_bonds = (f h).bonds

pub ruleset fit_laws = (fit_small, fit_atoms, fit_bonds)
