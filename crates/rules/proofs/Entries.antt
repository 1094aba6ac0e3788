-- Laws of the entries that property lines list, and of those written for a reading.
use Rattle.std.specs.Prelude.{ℕ, zero, suc, ◌≤◌, ◌≡◌, refl, List, [], ◌∷◌, ◌++◌, map, true, false, ◌||◌, length, take, drop, ℤ}
use Rattle.std.proofs.Common.{arith, ap, ◌∙◌, append-nil, take-append-drop, length-drop}
use Rattle.rules.specs.Forms.{Kind, CHG, RAD, ISO, same_kind, Entry, Property}
use Rattle.rules.specs.Record.{listed}
use Rattle.rules.specs.Meaning.{among}
use Rattle.rules.specs.Canon.{entries_from, eights, lines_of, properties_of}
use Rattle.rules.specs.Entries.{listed_append, among_append, not_among}

-- ---- Eight a line

lined_same : (k : Kind) (n : ℕ) (es : List Entry) → same_kind k k ≡ true → length es ≤ n →
    listed k (map (λ (line : List Entry). record { kind = k; entries = line }) (eights n es)) ≡ es
unfolding eights listed
lined_same k zero [] s h = refl
lined_same k zero (e ∷ es) s h = absurd (omega arith)
lined_same k (suc n) [] s h = refl
lined_same k (suc n) (e ∷ es) s h =
    rw s
    (ap (λ (x : List Entry). take 8 (e ∷ es) ++ x) (lined_same k n (drop 8 (e ∷ es)) s (omega (arith, length-drop 8 (e ∷ es))))
    ∙ take-append-drop 8 (e ∷ es))

lined_other : (j k : Kind) (n : ℕ) (es : List Entry) → same_kind j k ≡ false →
    among j (map (λ (line : List Entry). record { kind = k; entries = line }) (eights n es)) ≡ false
unfolding eights among
lined_other j k zero es s = refl
lined_other j k (suc n) [] s = refl
lined_other j k (suc n) (e ∷ es) s = rw s (lined_other j k n (drop 8 (e ∷ es)) s)

pub lines_list : (k : Kind) (es : List Entry) → same_kind k k ≡ true → listed k (lines_of k es) ≡ es
lines_list k es s = lined_same k (length es) es s (omega arith)

pub lines_other : (j k : Kind) (es : List Entry) → same_kind j k ≡ false → among j (lines_of k es) ≡ false
lines_other j k es s = lined_other j k (length es) es s

lines_nothing : (j k : Kind) (es : List Entry) → same_kind j k ≡ false → listed j (lines_of k es) ≡ []
lines_nothing j k es s = not_among j (lines_of k es) (lines_other j k es s)

-- ---- The property lines of a reading

pub properties_list : (k : Kind) (ts : List (List ℤ)) → listed k (properties_of ts) ≡ entries_from k 1 ts
unfolding properties_of
properties_list k ts = listed_append k C (R ++ I) ∙ ap (λ (x : List Entry). listed k C ++ x) (listed_append k R I) ∙ go k
  where
    C : List Property
    C = lines_of CHG (entries_from CHG 1 ts)

    R : List Property
    R = lines_of RAD (entries_from RAD 1 ts)

    I : List Property
    I = lines_of ISO (entries_from ISO 1 ts)

    go : (k : Kind) → listed k C ++ (listed k R ++ listed k I) ≡ entries_from k 1 ts
    go CHG = rw (lines_list CHG (entries_from CHG 1 ts) refl, lines_nothing CHG RAD (entries_from RAD 1 ts) refl, lines_nothing CHG ISO (entries_from ISO 1 ts) refl) (append-nil (entries_from CHG 1 ts))
    go RAD = rw (lines_nothing RAD CHG (entries_from CHG 1 ts) refl, lines_list RAD (entries_from RAD 1 ts) refl, lines_nothing RAD ISO (entries_from ISO 1 ts) refl) (append-nil (entries_from RAD 1 ts))
    go ISO = rw (lines_nothing ISO CHG (entries_from CHG 1 ts) refl, lines_nothing ISO RAD (entries_from RAD 1 ts) refl, lines_list ISO (entries_from ISO 1 ts) refl)

-- no isotope, no line of isotopes
pub isotope_lines : (ts : List (List ℤ)) → entries_from ISO 1 ts ≡ [] → among ISO (properties_of ts) ≡ false
unfolding properties_of eights among
isotope_lines ts e =
    among_append ISO (lines_of CHG (entries_from CHG 1 ts)) (lines_of RAD (entries_from RAD 1 ts) ++ lines_of ISO (entries_from ISO 1 ts))
    ∙ rw (among_append ISO (lines_of RAD (entries_from RAD 1 ts)) (lines_of ISO (entries_from ISO 1 ts)), lines_other ISO CHG (entries_from CHG 1 ts) refl, lines_other ISO RAD (entries_from RAD 1 ts) refl, e)
