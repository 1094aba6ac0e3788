-- The answer of a fetch: what the array tells in the words of the rules.
use Rattle.std.specs.Prelude.{ℕ, ◌≤◌, ◌≡◌, refl, ◌↔◌, List}
use Rattle.std.proofs.Common.{arith, sym, ap, ◌∙◌, subst}
use Rattle.text.specs.Text.{Bytes}
use Rattle.reader_item.specs.Find.{Said, item, refused, found_of}
use Rattle.reader_item.specs.Promise.{FoundAt, RefusedAt, Fetched, Promised}
use Rattle.capellanote_numbers.specs.Numbers.{found_numbers}
use Rattle.capellanote.specs.Answer.{number, by_first, first_refused, zero_exactly}
use Rattle.capellanote.specs.Read.{none_numbered}

-- what an array tells
unfoldable pub found_told : List ℕ → Said
found_told a = by_first (number a 0) (item (number a 1) (number a 2)) (λ e. refused e (number a 1) (number a 2))

-- ---- It tells that answer, since no refusal has the number 0

apart : {X : Type 0} {e i c from to : ℕ} → refused e i c ≡ item from to → X
apart h = absurd (let z : ◌≡◌ {A = ℕ} 0 1 = cc in omega arith)

at_numbered : {s name : Bytes} {e i column : ℕ} → RefusedAt s name e i column → 1 ≤ e
at_numbered (RefusedAt.no_record r) = none_numbered r
at_numbered (RefusedAt.no_item h r none) = omega arith

tells : (s name : Bytes) (x : Said) → Fetched s name x → found_told (found_numbers x) ≡ x
unfolding found_numbers found_told
tells s name (item from to) p = refl
tells s name (refused e i column) p = first_refused e (item i column) (λ (n : ℕ). refused n i column) (at_numbered ((p.refuses e i column).0 refl))

module _ (s name : Bytes) (x : Said) (out : List ℕ) (e : out ≡ found_numbers x) (p : Promised s name x) where
  pub found_held : out ≡ found_numbers (found_of s name)
  found_held = e ∙ ap found_numbers p.judged

  pub found_told_lem : Fetched s name (found_told out)
  found_told_lem = subst (Fetched s name) (sym (ap found_told e ∙ tells s name x p.fetched)) p.fetched

pub ruleset found_laws = (found_held, found_told_lem)

-- ---- The first number is 0 exactly where a good record has the item

pub find_good : (s name : Bytes) (a : List ℕ) → Fetched s name (found_told a) → (number a 0 ≡ 0) ↔ ((from : ℕ) × (to : ℕ) × FoundAt s name from to)
unfolding found_told
find_good s name a p =
    zero_exactly (number a 0) (item (number a 1) (number a 2)) (λ (e : ℕ). refused e (number a 1) (number a 2))
    (λ h. (number a 1, number a 2, (p.finds (number a 1) (number a 2)).0 h)) (λ g n h. apart (sym h ∙ (p.finds g.0 g.1).1 g.2))
