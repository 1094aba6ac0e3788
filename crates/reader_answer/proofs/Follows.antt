-- What stands behind a record, or behind a refused line, changes neither the answer nor the tables.
use Rattle.std.specs.Prelude.{ℕ, suc, ◌+◌, ◌≤◌, ◌≡◌, refl, List, [], ◌∷◌, ◌++◌, length, take, drop}
use Rattle.std.proofs.Common.{arith, sym, ap, ◌∙◌, subst}
use Rattle.text.specs.Text.{Bytes, Line}
use Rattle.text.specs.Cut.{Cut, cut}
use Rattle.rules.specs.Record.{Raw, limit}
use Rattle.judge_line.specs.Got.{Got, got, bad}
use Rattle.judge_file.specs.Place.{sdfile, Place, first, Turn, next, done, turn_of}
use Rattle.judge_file.specs.Verdict.{accepted}
use Rattle.judge_file.specs.One.{One, one_from, one_record}
use Rattle.judge_file.specs.OneRun.{one_next, one_stop}
use Rattle.judge_file.proofs.OneRun.{one_done}
use Rattle.reader_walk.specs.Outcome.{Outcome, refused, of_one, outcome_of}
use Rattle.reader_walk.specs.Walked.{walked_by, walk_of}
use Rattle.reader_answer.specs.Read.{answered, read_as, atoms_as, bonds_as, read_of, atoms_after, bonds_after}
use Rattle.reader_answer.specs.Stretch.{Stretch, stretch_cut, stretch_front}
use Rattle.reader_answer.specs.Promise.{Reply, Begins, Told}
use Rattle.reader_answer.specs.Told.{reply_of, told_reply, begins_told, begins_outcome, told_begins, told_order}
use Rattle.reader_answer.specs.Promised.{begins_said, same_read}
use Rattle.reader_answer.specs.Follows.{Alike}

alike : (s t : Bytes) → answered (walk_of sdfile t) ≡ answered (walk_of sdfile s) → outcome_of sdfile t ≡ outcome_of sdfile s → Alike s t
unfolding read_of atoms_after bonds_after read_as atoms_as bonds_as
alike s t e o =
    record {
      answer = λ la lb. rw e;
      atoms = λ lb ta. rw o;
      bonds = λ la tb. rw o;
    }

-- ---- Behind a record

module _ (s : Bytes) (x : Raw) (g : Begins sdfile s x) (u : Bytes) where
  w : Reply
  w = reply_of sdfile s x

  t : Bytes
  t = take w.bytes s ++ u

  told : Told sdfile s x (reply_of sdfile s x)
  told = begins_told sdfile s x g

  told_still : Told sdfile t x (reply_of sdfile s x)
  unfolding t w
  told_still =
      let d = told in
      let n = d.own.1.inside in
      let o = told_order sdfile s x (reply_of sdfile s x) d in
      record {
        n = refl;
        m = refl;
        chiral = refl;
        own = (d.own.0, stretch_front s w.bytes n u d.own.1 (omega arith), d.own.2, d.own.3);
        headers = stretch_front s w.bytes n u d.headers (omega (arith, o.0, o.1, o.2));
        molecule = (d.molecule.0, stretch_front s w.bytes n u d.molecule.1 (omega (arith, o.1, o.2)), d.molecule.2);
        items = (
          d.items.0,
          stretch_front s w.bytes n u d.items.1 o.2,
          d.items.2,
        );
      }

  begins_still : Begins sdfile t x
  begins_still = told_begins t x (reply_of sdfile s x) told_still

  still : Alike s t
  still =
      let e : reply_of sdfile s x ≡ reply_of sdfile t x = told_reply sdfile t x (reply_of sdfile s x) told_still in
      alike s t
      (same_read (answered (walk_of sdfile t)) (answered (walk_of sdfile s)) (begins_said sdfile t x begins_still ∙ ap accepted (sym e) ∙ sym (begins_said sdfile s x g)))
      (begins_outcome sdfile t x begins_still ∙ sym (begins_outcome sdfile s x g))

-- what follows the record's last line, its `$$$$` line
pub after_record : (s : Bytes) (x : Raw) (w : Reply) → Begins sdfile s x → Told sdfile s x w → (u : Bytes) → Alike s (take w.bytes s ++ u)
unfolding t w
after_record s x v g d u =
    subst (λ (z : Reply). Alike s (take z.bytes s ++ u)) (sym (told_reply sdfile s x v d)) (still s x g u)

-- ---- Behind a refused line

apart : {X : Type 0} {x : Raw} {k e i c : ℕ} {r : List Line} → One.whole x k r ≡ One.refused e i c → X
apart h = absurd (let z : ◌≡◌ {A = ℕ} 0 1 = cc in omega arith)

-- it is one of the lines handed in
refused_later : (p : Place) (j : ℕ) (ls : List Line) (e i c : ℕ) → one_from limit p j ls ≡ One.refused e i c → j ≤ i
unfolding one_from
refused_later p j [] e i c h = absurd (let z : ◌≡◌ {A = ℕ} 0 1 = cc in omega arith)
refused_later p j (l ∷ ls) e i c h = go (λ q g. refused_later q (suc j) ls e i c g) (turn_of sdfile limit p l) refl
  where
    go : ((q : Place) → one_from limit q (suc j) ls ≡ One.refused e i c → suc j ≤ i) → (r : Got Turn) → turn_of sdfile limit p l ≡ r → j ≤ i
    go r (got (next q)) k = omega (arith, r q (sym (one_next limit p q j l ls k) ∙ h))
    go r (got (done y)) k = apart (sym (one_done limit p y j l ls k) ∙ h)
    go r (bad n d) k =
        let w : One.refused n j d ≡ One.refused e i c = sym (one_stop limit p j l ls n d k) ∙ h in
        let same : j ≡ i = cc in
        omega arith

-- the judge looks at no line after it
refused_still : (p : Place) (j : ℕ) (front more other : List Line) (e i c : ℕ) → one_from limit p j (front ++ more) ≡ One.refused e i c → i + 1 ≤ j + length front →
    one_from limit p j (front ++ other) ≡ One.refused e i c
unfolding one_from
refused_still p j [] more other e i c h few = absurd (omega (arith, refused_later p j more e i c h))
refused_still p j (l ∷ front) more other e i c h few =
    go (λ q g. refused_still q (suc j) front more other e i c g (omega arith)) (turn_of sdfile limit p l) refl
  where
    go : ((q : Place) → one_from limit q (suc j) (front ++ more) ≡ One.refused e i c → one_from limit q (suc j) (front ++ other) ≡ One.refused e i c) →
        (r : Got Turn) → turn_of sdfile limit p l ≡ r → one_from limit p j (l ∷ (front ++ other)) ≡ One.refused e i c
    go r (got (next q)) k = one_next limit p q j l (front ++ other) k ∙ r q (sym (one_next limit p q j l (front ++ more) k) ∙ h)
    go r (got (done y)) k = apart (sym (one_done limit p y j l (front ++ more) k) ∙ h)
    go r (bad n d) k = one_stop limit p j l (front ++ other) n d k ∙ sym (one_stop limit p j l (front ++ more) n d k) ∙ h

-- lines up to the refused one, and then anything
pub after_refused : (s : Bytes) (n : ℕ) (front : List Line) (e column : ℕ) → Stretch s 0 n front → one_record limit (cut s).lines ≡ One.refused e (length front) column →
    (u : Bytes) → Alike s (take n s ++ u)
unfolding one_record walk_of outcome_of
after_refused s n front e column st h u =
    let v = take n s ++ u in
    let st' = stretch_front s n st.inside u st (omega arith) in
    let a = ap (λ (c : Cut). c.lines) (stretch_cut s st) in
    let b = ap (λ (c : Cut). c.lines) (stretch_cut v st') in
    let k = refused_still first 1 front (cut (drop n s)).lines (cut (drop n v)).lines e (length front) column (ap (one_from limit first 1) (sym a) ∙ h) (omega arith) in
    let o : outcome_of sdfile v ≡ refused e (length front) column = ap of_one (ap (one_from limit first 1) b ∙ k) in
    let p : outcome_of sdfile s ≡ refused e (length front) column = ap of_one h in
    alike s v
    (ap (λ (x : Outcome). answered (walked_by sdfile v x)) o ∙ sym (ap (λ (x : Outcome). answered (walked_by sdfile s x)) p))
    (o ∙ sym p)
