-- The bonds of a table of numbers: six a row, the two atoms first.
use Prim.Native.Nat.{ℕ, zero, suc, ◌+◌, ◌*◌, ◌≤◌, ◌<◌}
use Rattle.std.proofs.Common.{arith, ap, ◌∙◌}
use Rattle.std.specs.Prelude.{◌≡◌, List, [], ◌∷◌, ◌++◌, ℤ, pos, nat_abs, length, get_or}
use Rattle.rules.specs.Forms.{Bond}
use Rattle.rules.specs.Record.{limit}
use Rattle.piece_rules.specs.Pieces.{Inside}

-- the number at place i
unfoldable pub atom_at : List ℤ → ℕ → ℕ
atom_at t i = nat_abs (get_or t i (pos 0))

abbrev pub bond_at : List ℤ → ℕ → Bond
bond_at t k =
    record {
      first = atom_at t (6 * k);
      second = atom_at t (6 * k + 1);
      type = atom_at t (6 * k + 2);
      stereo = atom_at t (6 * k + 3);
      topology = atom_at t (6 * k + 4);
      centre = get_or t (6 * k + 5) (pos 0);
    }

-- the bonds of m rows from row k on
unfoldable pub bonds_from : List ℤ → ℕ → ℕ → List Bond
bonds_from t k zero = []
bonds_from t k (suc m) = bond_at t k ∷ bonds_from t (suc k) m

abbrev pub bonds_in : List ℤ → ℕ → List Bond
bonds_in t m = bonds_from t 0 m

-- place i holds an atom of n
pub record AtomIn (n : ℕ) (t : List ℤ) (i : ℕ) : Type 0 where
  pub is : get_or t i (pos 0) ≡ pos (atom_at t i)
  pub low : 1 ≤ atom_at t i
  pub high : atom_at t i ≤ n

-- the ends of m bonds are atoms of n
pub record BondTable (n m : ℕ) (t : List ℤ) : Type 0 where
  pub few : n ≤ limit
  pub room : 6 * m ≤ length t
  pub first : (k : ℕ) → k < m → AtomIn n t (6 * k)
  pub second : (k : ℕ) → k < m → AtomIn n t (6 * k + 1)

pub bonds_snoc : (t : List ℤ) (k m : ℕ) → bonds_from t k (suc m) ≡ bonds_from t k m ++ (bond_at t (k + m) ∷ [])
unfolding bonds_from
bonds_snoc t k zero = let e : k ≡ k + 0 = omega arith in ap (λ (j : ℕ). bond_at t j ∷ []) e
bonds_snoc t k (suc m) =
    let e : suc k + m ≡ k + suc m = omega arith in
    ap (λ (bs : List Bond). bond_at t k ∷ bs) (bonds_snoc t (suc k) m ∙ ap (λ (j : ℕ). bonds_from t (suc k) m ++ (bond_at t j ∷ [])) e)

module _ (n m : ℕ) (t : List ℤ) (g : BondTable n m t) where
  inside_from : (k j : ℕ) → k + j ≤ m → Inside n (bonds_from t k j)
  unfolding Inside bonds_from
  inside_from k zero h = tt
  inside_from k (suc j) h =
      let f = g.first k (omega arith) in
      let s = g.second k (omega arith) in
      ((f.low, f.high, s.low, s.high), inside_from (suc k) j (omega arith))

  pub inside_in : (j : ℕ) → j ≤ m → Inside n (bonds_in t j)
  inside_in j h = inside_from 0 j (omega arith)
