-- The meaning of the rows that a record's reading stored, given by its table of listed numbers. Each row is changed once, after the last line.
use Rattle.std.specs.Prelude.{ℕ, zero, suc, ◌+◌, ◌*◌, ◌-◌, ◌≤◌, List, [], ◌∷◌, Bool, true, false, cond, ◌||◌, eqb, leb, get_or, ℤ, pos, negsuc, neg_ℤ}
use Rattle.std.proofs.lemmas.List.Edits.{sets}
use Rattle.rules.specs.Forms.{Kind, CHG, RAD, ISO}
use Rattle.rules.specs.Meaning.{charge_of_code, radical_of_code}
use Rattle.line_property.specs.Listed.{base, slot}
use Rattle.reader_tables.specs.declared.Superseded.{Superseded}

-- ---- what is listed

-- some place of 1 to n after this one is in use
unfoldable pub any_after : ℕ → List ℕ → ℕ → Bool
any_after from t zero = false
any_after from t (suc a) = cond (eqb (get_or t (from + suc a) 0) 0) (any_after from t a) true

-- a line of this kind lists some atom of 1 to n
abbrev pub any_listed : Kind → List ℕ → ℕ → Bool
any_listed kind t n = any_after (base kind) t n

abbrev pub codes_in : ℕ → List ℕ → Bool
codes_in n t = any_listed CHG t n || any_listed RAD t n

abbrev pub superseded_in : ℕ → List ℕ → Superseded
superseded_in n t = record { codes = codes_in n t; masses = any_listed ISO t n }

-- the number that a place keeps; 0 if none
abbrev pub number_kept : ℕ → ℤ
number_kept k = cond (eqb k 0) (pos 0) (cond (leb 16 k) (pos (k - 16)) (neg_ℤ (pos (16 - k))))

abbrev pub listed_number : Kind → List ℕ → ℕ → ℤ
listed_number kind t atom = number_kept (get_or t (slot kind atom) 0)

-- no place of 0 to n keeps a number above 999
pub record Kept (n : ℕ) (t : List ℕ) : Type 0 where
  pub small : (kind : Kind) (atom : ℕ) → atom ≤ n → get_or t (slot kind atom) 0 ≤ 1015

-- ---- which kind of line supersedes what

abbrev pub charge_by : Superseded → ℕ → ℤ → ℤ
charge_by over code number = cond over.codes number (charge_of_code code)

abbrev pub radical_by : Superseded → ℕ → ℤ → ℤ
radical_by over code number = cond over.codes number (radical_of_code code)

abbrev pub mass_by : Superseded → ℤ → ℤ
mass_by over mass = cond over.masses (pos 0) mass

-- ---- rows

-- a charge code as a row holds it
abbrev pub code_in : ℤ → ℕ
code_in (pos k) = k
code_in (negsuc k) = 0

-- mass difference, charge, radical and isotope of row i; rows count from 0, atoms from 1
abbrev pub four_of : Superseded → List ℕ → ℕ → List ℤ → List ℤ
four_of over listed i t =
    let code = code_in (get_or t (16 * i + 5) (pos 0)) in
    mass_by over (get_or t (16 * i + 4) (pos 0)) ∷
    charge_by over code (listed_number CHG listed (i + 1)) ∷
    radical_by over code (listed_number RAD listed (i + 1)) ∷
    listed_number ISO listed (i + 1) ∷ []

abbrev pub meant_row : Superseded → List ℕ → ℕ → List ℤ → List ℤ
meant_row over listed i t = sets t (16 * i + 4) (four_of over listed i t)

-- k rows from row i on
unfoldable pub meant_from : Superseded → List ℕ → ℕ → ℕ → List ℤ → List ℤ
meant_from over listed i zero t = t
meant_from over listed i (suc k) t = meant_from over listed (suc i) k (meant_row over listed i t)

abbrev pub meant : ℕ → List ℤ → List ℕ → List ℤ
meant n t listed = meant_from (superseded_in n listed) listed 0 n t
