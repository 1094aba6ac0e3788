-- Property lines are judged by the atoms seen before only as far as these are from 1 to n; the table tells those.
use Rattle.std.specs.Prelude.{ℕ, zero, suc, ◌+◌, ◌*◌, ◌≤◌, ◌<◌, ◌≡◌, refl, ◌≢◌, List, ◌∷◌, Bool, true, false, cond, not, eqb, length, get_or, set, ℤ, pos, negsuc}
use Rattle.std.proofs.Common.{arith, sym, ap, ◌∙◌, get_or-set_same, get_or-set_other, eq-eqb, ne_eqb, eqb-true}
use Rattle.std.proofs.lemmas.Bool.{eqb-false}
use Rattle.text.specs.Text.{Line}
use Rattle.rules.specs.Forms.{Kind, CHG, RAD, ISO}
use Rattle.rules.specs.Record.{limit}
use Rattle.field_numbers.specs.Number.{Between}
use Rattle.judge_line.specs.Got.{Got, got, bad, then}
use Rattle.judge_line.specs.GotLaws.{got_inj, then_got}
use Rattle.judge_line.specs.Field.{elem, number_at, space_at}
use Rattle.judge_line.specs.AgreeField.{number_got_lem, signed_got_lem}
use Rattle.judge_line.specs.Judge.{entry_number_at, entries_of, list_of, property_of}
use Rattle.line_property.specs.Listed.{places, slot, noted, listed_to, seen_of}

-- ---- the judgement goes by which atoms from 1 to n were seen

abbrev pub SameSeen : ℕ → List ℕ → List ℕ → Type 0
SameSeen n s s' = (a : ℕ) → 1 ≤ a → a ≤ n → elem a s ≡ elem a s'

same_more : (n x : ℕ) (s s' : List ℕ) → SameSeen n s s' → SameSeen n (x ∷ s) (x ∷ s')
unfolding elem
same_more n x s s' h a low high = ap (λ (b : Bool). cond (eqb a x) true b) (h a low high)

-- what follows a value is the same, if it is so for the value found
pub then_same : {A B : Type 0} (x : Got A) (f g : A → Got B) → ((a : A) → x ≡ got a → f a ≡ g a) → then x f ≡ then x g
unfolding then
then_same (got a) f g h = h a refl
then_same (bad e column) f g h = refl

pub entries_same : (n : ℕ) (kind : Kind) (l : Line) (i k : ℕ) (s s' : List ℕ) → SameSeen n s s' → entries_of n kind l i k s ≡ entries_of n kind l i k s'
unfolding entries_of
entries_same n kind l i zero s s' h = refl
entries_same n kind l i (suc k) s s' h =
    ap (space_at l i) (then_same (number_at l (i + 1) (i + 3) 1 n) _ _ λ atom e.
    let is = number_got_lem l (i + 1) (i + 3) 1 n atom e in
    rw (h atom is.low is.high, entries_same n kind l (i + 8) k (atom ∷ s) (atom ∷ s') (same_more n atom s s' h)))

list_same : (n : ℕ) (kind : Kind) (l : Line) (s s' : List ℕ) → SameSeen n s s' → list_of n kind s l ≡ list_of n kind s' l
unfolding list_of
list_same n kind l s s' h = then_same (number_at l 7 9 1 8) _ _ λ k e. rw (entries_same n kind l 10 k s s' h)

pub property_same : (n : ℕ) (l : Line) (s s' : Kind → List ℕ) → ((kind : Kind) → SameSeen n (s kind) (s' kind)) → property_of n s l ≡ property_of n s' l
unfolding property_of
property_same n l s s' h =
    rw (list_same n CHG l (s CHG) (s' CHG) (h CHG), list_same n RAD l (s RAD) (s' RAD) (h RAD), list_same n ISO l (s ISO) (s' ISO) (h ISO))

-- ---- places of the table

pub slot_small : (kind : Kind) (a : ℕ) → a ≤ limit → slot kind a < 3 * places
slot_small CHG a h = omega arith
slot_small RAD a h = omega arith
slot_small ISO a h = omega arith

pub slot_apart : (kind : Kind) (a b : ℕ) → a ≢ b → slot kind a ≢ slot kind b
slot_apart CHG a b h e = h (omega arith)
slot_apart RAD a b h e = h (omega arith)
slot_apart ISO a b h e = h (omega arith)

-- ---- what the table lists

listed_above : (kind : Kind) (t : List ℕ) (n a : ℕ) → n < a → elem a (listed_to kind t n) ≡ false
unfolding elem listed_to
listed_above kind t zero a h = refl
listed_above kind t (suc n) a h = go (eqb (get_or t (slot kind (suc n)) 0) 0) (listed_above kind t n a (omega arith))
  where
    go : (z : Bool) → elem a (listed_to kind t n) ≡ false → elem a (cond z (listed_to kind t n) (suc n ∷ listed_to kind t n)) ≡ false
    go true r = r
    go false r = rw (ne_eqb a (suc n) (λ (e : a ≡ suc n). omega arith)) r

-- an atom is listed where its place is not 0
pub listed_elem : (kind : Kind) (t : List ℕ) (n a : ℕ) → 1 ≤ a → a ≤ n → elem a (listed_to kind t n) ≡ not (eqb (get_or t (slot kind a) 0) 0)
unfolding elem listed_to
listed_elem kind t zero a low high = absurd (omega arith)
listed_elem kind t (suc n) a low high = go (eqb a (suc n)) refl (λ less. listed_elem kind t n a low less)
  where
    here : (z : Bool) → a ≡ suc n → elem a (cond z (listed_to kind t n) (suc n ∷ listed_to kind t n)) ≡ not z
    here true e = listed_above kind t n a (omega arith)
    here false e = rw (eq-eqb a (suc n) e)

    further : (z : Bool) → a ≢ suc n → elem a (cond z (listed_to kind t n) (suc n ∷ listed_to kind t n)) ≡ elem a (listed_to kind t n)
    further true e = refl
    further false e = rw (ne_eqb a (suc n) e)

    go : (b : Bool) → eqb a (suc n) ≡ b → (a ≤ n → elem a (listed_to kind t n) ≡ not (eqb (get_or t (slot kind a) 0) 0)) →
        elem a (listed_to kind t (suc n)) ≡ not (eqb (get_or t (slot kind a) 0) 0)
    go true q less =
        let e = eqb-true a (suc n) q in
        here (eqb (get_or t (slot kind (suc n)) 0) 0) e ∙ ap (λ (x : ℕ). not (eqb (get_or t (slot kind x) 0) 0)) (sym e)
    go false q less =
        let e = eqb-false a (suc n) q in
        further (eqb (get_or t (slot kind (suc n)) 0) 0) e ∙ less (omega arith)

-- one atom more
pub seen_set : (n : ℕ) (kind : Kind) (t : List ℕ) (atom v : ℕ) → n ≤ limit → length t ≡ 3 * places → atom ≤ n → 1 ≤ v →
    SameSeen n (atom ∷ seen_of n t kind) (seen_of n (set t (slot kind atom) v) kind)
unfolding elem
seen_set n kind t atom v most size within some a low high = go (eqb a atom) refl ∙ sym (listed_elem kind (set t (slot kind atom) v) n a low high)
  where
    go : (b : Bool) → eqb a atom ≡ b → cond b true (elem a (seen_of n t kind)) ≡ not (eqb (get_or (set t (slot kind atom) v) (slot kind a) 0) 0)
    go true q =
        let small : slot kind atom < length t = rw size (slot_small kind atom (omega arith)) in
        rw (eqb-true a atom q, get_or-set_same t (slot kind atom) v 0 small, ne_eqb v 0 (λ (e : v ≡ 0). omega arith))
    go false q = rw (get_or-set_other t (slot kind atom) (slot kind a) v 0 (slot_apart kind a atom (eqb-false a atom q))) (listed_elem kind t n a low high)

-- ---- a number of an entry is kept as one that is not 0

pub noted_some : (above : ℕ) (z : ℤ) → Between 15 above z → 1 ≤ noted z
noted_some above (pos k) h = omega arith
noted_some above (negsuc k) h = omega arith

plain_some : (x : Got ℕ) (z : ℤ) → then x (λ k. got (pos k)) ≡ got z → 1 ≤ noted z
plain_some x z h = let f = then_got x (λ (k : ℕ). got (pos k)) z h in rw (sym (got_inj f.2)) (omega arith)

pub entry_some : (l : Line) (i j : ℕ) (kind : Kind) (z : ℤ) → entry_number_at l i j kind ≡ got z → 1 ≤ noted z
unfolding entry_number_at
entry_some l i j CHG z h = noted_some 15 z (signed_got_lem l i j 15 15 z h).range
entry_some l i j RAD z h = plain_some (number_at l i j 0 3) z h
entry_some l i j ISO z h = plain_some (number_at l i j 1 999) z h
