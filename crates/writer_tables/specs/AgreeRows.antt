-- The tests of all rows of a table say what the rules say.
use Rattle.std.specs.Prelude.{ℕ, zero, suc, ◌*◌, ◌≤◌, ◌≡◌, refl, ◌≢◌, ◌↔◌, List, [], ◌∷◌, Bool, true, false, cond, ◌&&◌, ◌||◌, get_or, length, take, drop, ℤ, pos}
use Rattle.std.proofs.Common.{mul-suc, arith, sym, length-drop, length-take-le}
use Rattle.text.specs.Laws.{true_false}
use Rattle.rules.specs.Forms.{ISO}
use Rattle.rules.specs.Canon.{atom_row, is_zero, entries_from, Rows}
use Rattle.rules.specs.Rows.{rows_of}
use Rattle.writer_row.specs.AgreeNumber.{and_agrees, zero_agrees}
use Rattle.writer_tables.specs.Tables.{all_rows, all_zero, masses_hold}

-- ---- All rows

room : (width n : ℕ) (t : List ℤ) → width * suc n ≤ length t → width * n ≤ length (drop width t)
room width n t h = rw (length-drop width t) (omega (arith, mul-suc width n))

whole : (width n : ℕ) (t : List ℤ) → width * suc n ≤ length t → length (take width t) ≡ width
whole width n t h = length-take-le width t (omega (arith, mul-suc width n))

pub rows_agree : (width : ℕ) (p : List ℤ → Bool) (P : List ℤ → Type 0) → ((r : List ℤ) → (p r ≡ true) ↔ P r) → (n : ℕ) (t : List ℤ) → width * n ≤ length t →
    (all_rows p (rows_of width n t) ≡ true) ↔ Rows width P (rows_of width n t)
unfolding rows_of all_rows Rows
rows_agree width p P f zero t h = ((λ _. tt), (λ _. refl))
rows_agree width p P f (suc n) t h =
    let i = and_agrees (f (take width t)) (rows_agree width p P f n (drop width t) (room width n t h)) in
    ((λ k. ((whole width n t h, (i.0 k).0), (i.0 k).1)), (λ k. i.1 (k.0.1, k.1)))

-- ---- Isotopes and mass differences

no_isotope : (i : ℕ) (ts : List (List ℤ)) → (all_zero 7 ts ≡ true) ↔ (entries_from ISO i ts ≡ [])
unfolding all_rows entries_from
no_isotope i [] = ((λ _. refl), (λ _. refl))
no_isotope i (t ∷ ts) = go (is_zero (get_or t 7 (pos 0))) (no_isotope (suc i) ts)
  where
    go : (b : Bool) → (all_zero 7 ts ≡ true) ↔ (entries_from ISO (suc i) ts ≡ []) →
        ((b && all_zero 7 ts) ≡ true) ↔ (cond b (entries_from ISO (suc i) ts) (record { atom = i; number = get_or t 7 (pos 0) } ∷ entries_from ISO (suc i) ts) ≡ [])
    go true r = r
    go false r = ((λ h. true_false (sym h)), (λ h. absurd (let z : ◌≡◌ {A = ℕ} 0 1 = cc in omega arith)))

either : (a b : Bool) (P Q : Type 0) → (a ≡ true) ↔ P → (b ≡ true) ↔ Q → ((a || b) ≡ true) ↔ (¬ P → Q)
either true b P Q f g = ((λ h k. absurd (k (f.0 refl))), (λ h. refl))
either false b P Q f g = ((λ h k. g.0 h), (λ h. g.1 (h (λ p. true_false (sym (f.1 p))))))

pub masses_agree : (n : ℕ) (t : List ℤ) → 16 * n ≤ length t →
    (masses_hold (rows_of 16 n t) ≡ true) ↔ (entries_from ISO 1 (rows_of 16 n t) ≢ [] → Rows 16 (λ (r : List ℤ). (atom_row r).mass_difference ≡ pos 0) (rows_of 16 n t))
unfolding masses_hold
masses_agree n t h =
    either _ _ _ _ (no_isotope 1 (rows_of 16 n t)) (rows_agree 16 (λ (r : List ℤ). is_zero (get_or r 4 (pos 0))) (λ (r : List ℤ). (atom_row r).mass_difference ≡ pos 0) (λ r. zero_agrees (get_or r 4 (pos 0))) n t h)
