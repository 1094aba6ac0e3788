-- The answer of a tally: what the arrays hold, and what they tell in the words of the rules.
use Rattle.std.specs.Prelude.{ℕ, ◌≡◌, refl, List, [], ◌∷◌, Bool, true, false, cond, get_or}
use Rattle.std.proofs.Common.{sym, ap₂, ◌∙◌, subst}
use Rattle.std.proofs.Math.Path.{ap}
use Rattle.text.specs.Text.{Bytes}
use Rattle.tally_rules.specs.declared.Totals.{Totals}
use Rattle.tally_flat.specs.Flat.{Memory}
use Rattle.tally_file.specs.declared.Tallied.{Tallied}
use Rattle.tally_file.specs.Count.{is_done}
use Rattle.tally_file.specs.Promise.{TallyPromise}
use Rattle.tally_file.specs.Once.{one_promise}

-- 0, records; or number, line, column, record
unfoldable pub tallied_numbers : Tallied → List ℕ
tallied_numbers (Tallied.Done records t) = 0 ∷ (records ∷ (0 ∷ (0 ∷ [])))
tallied_numbers (Tallied.Refused e i column k) = e ∷ (i ∷ (column ∷ (k ∷ [])))

unfoldable pub totals_numbers : Tallied → List ℕ
totals_numbers (Tallied.Done records t) = t.entries ∷ (t.missing ∷ (t.total ∷ []))
totals_numbers (Tallied.Refused e i column k) = 0 ∷ (0 ∷ (0 ∷ []))

-- entries, missing, total
abbrev pub handed : List ℕ → Totals
handed ts = record { entries = get_or ts 0 0; missing = get_or ts 1 0; total = get_or ts 2 0 }

-- after a refusal the totals stay
abbrev pub totals_then : Tallied → List ℕ → List ℕ
totals_then r ts = cond (is_done r) (totals_numbers r) ts

-- list m and totals ts were lent; the answer is then out, and they are ts' and m'
pub record TallyHeld (s : Bytes) (m : Memory) (ts out ts' : List ℕ) (m' : Memory) : Type 0 where
  pub told : Tallied
  pub promise : TallyPromise s m (handed ts) told m'
  pub answer : out ≡ tallied_numbers told
  pub totals : ts' ≡ totals_then told ts

-- one answer, one list and one row of totals for every input
pub one_held : {s : Bytes} {m : Memory} {ts out ts' out₂ ts₂ : List ℕ} {m' m₂ : Memory} → TallyHeld s m ts out ts' m' → TallyHeld s m ts out₂ ts₂ m₂ →
    (out ≡ out₂) × (ts' ≡ ts₂) × (m' ≡ m₂)
one_held {s = s} {m = m} {ts = ts} {m' = m'} {m₂ = m₂} a b =
    let e = one_promise s m (handed ts) a.told m' b.told m₂ a.promise b.promise in
    (a.answer ∙ ap tallied_numbers e.0 ∙ sym b.answer, a.totals ∙ ap (λ (r : Tallied). totals_then r ts) e.0 ∙ sym b.totals, e.1)

-- ---- The arrays, of the answer

module _ (r : Tallied) where
  pub tallied_done : (k : ℕ) (t : Totals) → r ≡ Tallied.Done k t → 0 ∷ (k ∷ (0 ∷ (0 ∷ []))) ≡ tallied_numbers r
  unfolding tallied_numbers
  tallied_done k t e = ap tallied_numbers (sym e)

  pub tallied_refused : (e i c k : ℕ) → r ≡ Tallied.Refused e i c k → e ∷ (i ∷ (c ∷ (k ∷ []))) ≡ tallied_numbers r
  unfolding tallied_numbers
  tallied_refused e i c k h = ap tallied_numbers (sym h)

  pub totals_done : (k : ℕ) (t : Totals) → r ≡ Tallied.Done k t → t.entries ∷ (t.missing ∷ (t.total ∷ [])) ≡ totals_numbers r
  unfolding totals_numbers
  totals_done k t e = ap totals_numbers (sym e)

  pub totals_refused : (e i c k : ℕ) → r ≡ Tallied.Refused e i c k → 0 ∷ (0 ∷ (0 ∷ [])) ≡ totals_numbers r
  unfolding totals_numbers
  totals_refused e i c k h = ap totals_numbers (sym h)

pub ruleset tallied_array = (tallied_done, tallied_refused)

pub ruleset totals_array = (totals_done, totals_refused)

module _ (s : Bytes) (m : Memory) (ts : List ℕ) (r : Tallied) (m' : Memory) (p : TallyPromise s m (handed ts) r m') {b : Bool} (eb : b ≡ is_done r) where
  pub held_done : b ≡ true → (out new : List ℕ) → out ≡ tallied_numbers r → new ≡ totals_numbers r → TallyHeld s m ts out new m'
  held_done h out new e f = let z = sym eb ∙ h in record { told = r; promise = p; answer = e; totals = f ∙ rw z }

  pub held_not : b ≡ false → (out : List ℕ) → out ≡ tallied_numbers r → TallyHeld s m ts out ts m'
  held_not h out e = let z = sym eb ∙ h in record { told = r; promise = p; answer = e; totals = rw z }
