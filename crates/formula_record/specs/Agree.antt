-- What is said keeps the promise, and nothing else does.
use Rattle.std.specs.Prelude.{Result, Err, ℕ, ◌*◌, ◌≤◌, ◌<◌, ◌≡◌, List, [], ◌∷◌, Bool, true, false, cond, ◌&&◌, leb, length, ℤ}
use Rattle.std.proofs.Common.{arith, sym, ap, ◌∙◌, subst, le-leb, leb-true}
use Rattle.std.proofs.Math.Path.{refl}
use Rattle.text.specs.Text.{Bytes, Line}
use Rattle.text.specs.Laws.{and_true, true_false}
use Rattle.rules.specs.Record.{Raw, limit}
use Rattle.judge_file.specs.Place.{sdfile}
use Rattle.judge_file.specs.Verdict.{accepted, refused, mapped}
use Rattle.judge_refusals.specs.NoRecord.{NoRecord}
use Rattle.reader_walk.specs.Outcome.{Outcome, whole, outcome_of}
use Rattle.reader_walk.specs.Outcome as O
use Rattle.reader_item.specs.Find as F
use Rattle.reader_item.specs.Find.{Spot, spot_of, said_by, found_by, found_of}
use Rattle.reader_item.specs.Promise.{NoneNamed, RefusedAt}
use Rattle.reader_item.specs.Beyond.{FirstNamed}
use Rattle.reader_item.proofs.Agree.{refused_is}
use Rattle.reader_answer.specs.declared.RecordRead.{RecordRead}
use Rattle.reader_answer.specs.Promise.{Begins, Roomy, ReadPromise}
use Rattle.reader_answer.specs.Told.{begins_outcome, outcome_begins, outcome_refused}
use Rattle.reader_walk.specs.Stands.{molecule_lines}
use Rattle.formula_rules.specs.Formula.{Trees}
use Rattle.formula_rules.specs.Total.{count_trees}
use Rattle.formula_rules.specs.Verdict.{Verdict, counts, Judged, differences}
use Rattle.formula_rules.specs.Verdict as W
use Rattle.formula_rules.specs.Judged.{verdict_of}
use Rattle.formula_rules.proofs.Judged.{judged, one_verdict}
use Rattle.formula_drawn.specs.Drawn.{only_elements, how_many}
use Rattle.formula_record.specs.Said.{Said, formula_name, symbols, Value, nowhere, none, first, value_in, value_of, by_verdict, by_value, by_outcome, said_of, told_of, found_in, room, answer_of, found_after}
use Rattle.formula_record.specs.Promise.{numbers_of, OnlyElements, Compares, ComparePromise}
use Rattle.formula_record.specs.Values.{Valued, valued, value_none, value_first, only_elements_lem, elements_only}
use Rattle.judge_file.specs.declared.TextRefusal.{TextRefusal}

-- ---- A good record

pub good_said : (s : Bytes) (x : Raw) → Begins sdfile s x → said_of s ≡ by_value (symbols x.molecule.atoms) (value_of formula_name x.items)
unfolding said_of
good_said s x g = ap by_outcome (begins_outcome sdfile s x g)

module _ (s : Bytes) where
  by_first : (x : Raw) → Begins sdfile s x → (vs : List Line) → FirstNamed formula_name x.items vs → Compares s (by_value (symbols x.molecule.atoms) (value_in vs))
  by_first x g [] f = Compares.no_line g f
  by_first x g (l ∷ vs) f = go (verdict_of l) (judged l)
    where
      all : (ts : Trees) (b : Bool) → only_elements (symbols x.molecule.atoms) ≡ b → Judged l (counts ts) → Compares s (cond b (accepted (differences (count_trees ts) (how_many (symbols x.molecule.atoms)))) (refused 34 0 0))
      all ts true e j = Compares.compared g f j (only_elements_lem (symbols x.molecule.atoms) e)
      all ts false e j = Compares.not_comparable g f j (λ h. true_false (sym (elements_only (symbols x.molecule.atoms) h) ∙ e))

      go : (v : Verdict) → Judged l v → Compares s (by_verdict (symbols x.molecule.atoms) v)
      go (counts ts) j = all ts (only_elements (symbols x.molecule.atoms)) refl j
      go (W.refused n) j = Compares.no_formula g f j

  pub compares : Compares s (said_of s)
  unfolding said_of
  compares = go (outcome_of sdfile s) refl
    where
      good : (x : Raw) → Begins sdfile s x → (v : Value) → Valued formula_name x.items v → Compares s (by_value (symbols x.molecule.atoms) v)
      good x g v (Valued.none n) = Compares.no_item g n
      good x g v (Valued.found {vs = vs} f) = by_first x g vs f

      go : (o : Outcome) → outcome_of sdfile s ≡ o → Compares s (by_outcome o)
      go (whole x k) e = good x (outcome_begins sdfile s x k e) (value_of formula_name x.items) (valued formula_name x.items)
      go (O.refused e i column) h = Compares.no_record (outcome_refused sdfile s e i column h)

-- ---- A text that does not begin with a record

pub record_number : {s : Bytes} {e i c : ℕ} → NoRecord s e i c → (3 ≤ e) × (e ≤ 19)
record_number (NoRecord.line h m k d o) = (m.0, omega (arith, m.1))
record_number (NoRecord.cut_short h v w) = (omega arith, omega arith)

pub refused_said : (s : Bytes) (e i c : ℕ) → NoRecord s e i c → said_of s ≡ refused e i c
unfolding said_of found_of
refused_said s e i c n = go (outcome_of sdfile s) (refused_is s formula_name (RefusedAt.no_record n))
  where
    spot : {X : Type 0} (p : Spot) → said_by s p ≡ F.refused e i c → X
    spot (Spot.after j k) q = absurd (let z : ◌≡◌ {A = ℕ} 0 1 = cc in omega arith)
    spot Spot.nowhere q = let z : 22 ≡ e = cc in absurd (omega (arith, record_number n))

    go : (o : Outcome) → found_by s formula_name o ≡ F.refused e i c → by_outcome o ≡ refused e i c
    go (whole x k) q = spot (spot_of formula_name (molecule_lines x.molecule) x.items) q
    go (O.refused a b d) q = let z : a ≡ e = cc in let y : b ≡ i = cc in let w : d ≡ c = cc in rw (z, y, w)

-- ---- One answer

not_only : (ks : List ℕ) → ¬ OnlyElements ks → only_elements ks ≡ false
not_only ks n = go (only_elements ks) refl
  where
    go : (b : Bool) → only_elements ks ≡ b → only_elements ks ≡ false
    go true e = absurd (n (only_elements_lem ks e))
    go false e = e

module _ (s : Bytes) where
  module _ (x : Raw) (g : Begins sdfile s x) (l : Line) (vs : List Line) (f : FirstNamed formula_name x.items (l ∷ vs)) (v : Verdict) (j : Judged l v) where
    line_said : said_of s ≡ by_verdict (symbols x.molecule.atoms) v
    line_said =
        good_said s x g ∙ ap (by_value (symbols x.molecule.atoms)) (value_first formula_name x.items (l ∷ vs) f)
        ∙ ap (by_verdict (symbols x.molecule.atoms)) (one_verdict (judged l) j)

  pub compares_said : {w : Said} → Compares s w → said_of s ≡ w
  compares_said (Compares.no_record {e = e} {i = i} {column = c} n) = refused_said s e i c n
  compares_said (Compares.no_item {x = x} g n) = good_said s x g ∙ ap (by_value (symbols x.molecule.atoms)) (value_none formula_name x.items n)
  compares_said (Compares.no_line {x = x} g f) = good_said s x g ∙ ap (by_value (symbols x.molecule.atoms)) (value_first formula_name x.items [] f)
  compares_said (Compares.no_formula {x = x} {l = l} {vs = vs} {n = n} g f j) = line_said x g l vs f (W.refused n) j
  compares_said (Compares.not_comparable {x = x} {l = l} {vs = vs} {ts = ts} g f j n) =
      let e = not_only (symbols x.molecule.atoms) n in
      line_said x g l vs f (counts ts) j ∙ rw e
  compares_said (Compares.compared {x = x} {l = l} {vs = vs} {ts = ts} g f j h) =
      let e = elements_only (symbols x.molecule.atoms) h in
      line_said x g l vs f (counts ts) j ∙ rw e

  pub one_promise : {v w : Said} → Compares s v → Compares s w → v ≡ w
  one_promise p q = sym (compares_said p) ∙ compares_said q

-- ---- Room

module _ (ta tb : List ℤ) where
  pub with_room : Roomy ta tb → room (length ta) (length tb) ≡ true
  with_room y = rw (le-leb (16 * limit) (length ta) y.atoms, le-leb (6 * limit) (length tb) y.bonds)

  pub has_room : room (length ta) (length tb) ≡ true → Roomy ta tb
  has_room h =
      let p = and_true (leb (16 * limit) (length ta)) (leb (6 * limit) (length tb)) h in
      record { atoms = leb-true (16 * limit) (length ta) p.0; bonds = leb-true (6 * limit) (length tb) p.1 }

  pub without_room : ¬ Roomy ta tb → room (length ta) (length tb) ≡ false
  without_room n = go (room (length ta) (length tb)) refl
    where
      go : (b : Bool) → room (length ta) (length tb) ≡ b → room (length ta) (length tb) ≡ false
      go true e = absurd (n (has_room e))
      go false e = e

pub promised : (s : Bytes) (ta tb : List ℤ) (f : List ℕ) (r : Result ℕ TextRefusal) (ta' tb' : List ℤ) (f' : List ℕ) →
    r ≡ answer_of (length ta) (length tb) s → f' ≡ found_after (length ta) (length tb) s f → (q : RecordRead) → ReadPromise 1 s ta tb q ta' tb' →
    ComparePromise s ta tb f r ta' tb' f'
unfolding answer_of found_after
promised s ta tb f r ta' tb' f' er ef q p =
    record {
      tables = (q, p);
      no_room = λ n.
          let z : r ≡ Err (record { no = 2; line = 0; column = 0 }) = er ∙ rw (without_room ta tb n) in
          (ap numbers_of z, ef ∙ rw (without_room ta tb n));
      compares = λ y.
          let z : r ≡ told_of (said_of s) = er ∙ rw (with_room ta tb y) in
          (said_of s, compares s, ap numbers_of z ∙ said (said_of s), ef ∙ rw (with_room ta tb y));
    }
  where
    said : (w : Said) → numbers_of (told_of w) ≡ mapped length w
    said (accepted ds) = refl
    said (refused e i column) = refl
