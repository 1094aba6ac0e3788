-- Both files judged one after the other; work tables without room: laws for the code.
use Rattle.std.specs.Prelude.{Result, Ok, Err, ℕ, ◌≤◌, ◌<◌, ◌≡◌, refl, List, Bool, true, false, cond, ltb, length}
use Rattle.std.proofs.Common.{sym, ap, ◌∙◌}
use borrow.Author.Tests.{lt-ltb, le-ltb, ltb-true, ltb-false}
use Rattle.text.specs.Text.{Bytes}
use Rattle.rules.specs.Record.{Raw, limit, atom_places, bond_places}
use Rattle.judge_file.specs.Place.{sdfile}
use Rattle.judge_file.specs.Verdict.{Verdict, accepted, refused, verdict}
use Rattle.judge_file.specs.SameVerdict.{accepted_refused, same_accepted, same_reason}
use Rattle.reader_walk.specs.Promise.{said_by}
use Rattle.judge_file.specs.declared.TextRefusal.{TextRefusal}
use Rattle.reader_check.specs.Promised.{numbers_of, Promised}
use Rattle.compare_files.specs.declared.Judged.{Judged}

-- the second, where the first has n records
abbrev pub second_by : ℕ → Verdict (List Raw) → Judged
second_by n (accepted ys) = Judged.Good n (length ys)
second_by n (refused e line column) = Judged.Bad 37 line column

abbrev pub judged_by : Verdict (List Raw) → Verdict (List Raw) → Judged
judged_by (accepted xs) v = second_by (length xs) v
judged_by (refused e line column) v = Judged.Bad 36 line column

-- what the check's answer says of the judge's verdict
module _ (s : Bytes) (r : Result ℕ TextRefusal) (p : Promised 1 s r) where
  pub accepted_is : (n : ℕ) → r ≡ Ok n → (xs : List Raw) × (verdict sdfile limit s ≡ accepted xs) × (n ≡ length xs)
  accepted_is n q = go (verdict sdfile limit s) refl (sym (ap numbers_of q) ∙ p.judged)
    where
      go : (v : Verdict (List Raw)) → verdict sdfile limit s ≡ v → accepted n ≡ said_by v → (xs : List Raw) × (verdict sdfile limit s ≡ accepted xs) × (n ≡ length xs)
      go (accepted xs) e h = (xs, e, same_accepted h)
      go (refused k i c) e h = accepted_refused h

  pub refused_is : (f : TextRefusal) → r ≡ Err f → verdict sdfile limit s ≡ refused f.no f.line f.column
  refused_is f q = go (verdict sdfile limit s) refl (sym (ap numbers_of q) ∙ p.judged)
    where
      go : (v : Verdict (List Raw)) → verdict sdfile limit s ≡ v → refused f.no f.line f.column ≡ said_by v → verdict sdfile limit s ≡ refused f.no f.line f.column
      go (accepted xs) o h = accepted_refused (sym h)
      go (refused k j d) o h = same_reason (λ (n l b : ℕ). verdict sdfile limit s ≡ refused n l b) (sym h) o

  pub second_good : (k n : ℕ) → r ≡ Ok n → Judged.Good k n ≡ second_by k (verdict sdfile limit s)
  second_good k n q = let a = accepted_is n q in ap (Judged.Good k) a.2 ∙ sym (ap (second_by k) a.1)

  pub second_bad : (k : ℕ) (f : TextRefusal) → r ≡ Err f → Judged.Bad 37 f.line f.column ≡ second_by k (verdict sdfile limit s)
  second_bad k f q = sym (ap (second_by k) (refused_is f q))

  pub first_good : (n : ℕ) (v : Verdict (List Raw)) (j : Judged) → r ≡ Ok n → j ≡ second_by n v → j ≡ judged_by (verdict sdfile limit s) v
  first_good n v j q h = let a = accepted_is n q in h ∙ ap (λ (k : ℕ). second_by k v) a.2 ∙ sym (ap (λ (w : Verdict (List Raw)). judged_by w v) a.1)

  pub first_bad : (f : TextRefusal) (v : Verdict (List Raw)) → r ≡ Err f → Judged.Bad 36 f.line f.column ≡ judged_by (verdict sdfile limit s) v
  first_bad f v q = sym (ap (λ (w : Verdict (List Raw)). judged_by w v) (refused_is f q))

pub ruleset judge_laws = (second_good, second_bad, first_good, first_bad)

-- ---- Work tables without room

unfoldable pub short_by : ℕ → ℕ → ℕ → ℕ → Bool
short_by ta tb ua ub = cond (ltb ta atom_places) true (cond (ltb tb bond_places) true (cond (ltb ua atom_places) true (ltb ub bond_places)))

module _ (ta tb ua ub : ℕ) where
  pub short_first : ta < atom_places → true ≡ short_by ta tb ua ub
  unfolding short_by
  short_first h = rw (lt-ltb ta atom_places h)

  pub short_second : atom_places ≤ ta → tb < bond_places → true ≡ short_by ta tb ua ub
  unfolding short_by
  short_second h k = rw (le-ltb ta atom_places h, lt-ltb tb bond_places k)

  pub short_third : atom_places ≤ ta → bond_places ≤ tb → ua < atom_places → true ≡ short_by ta tb ua ub
  unfolding short_by
  short_third h k i = rw (le-ltb ta atom_places h, le-ltb tb bond_places k, lt-ltb ua atom_places i)

  pub short_fourth : (r : Bool) → atom_places ≤ ta → bond_places ≤ tb → atom_places ≤ ua → r ≡ ltb ub bond_places → r ≡ short_by ta tb ua ub
  unfolding short_by
  short_fourth r h k i e = rw (le-ltb ta atom_places h, le-ltb tb bond_places k, le-ltb ua atom_places i) e

pub ruleset short_laws = (short_first, short_second, short_third, short_fourth)
