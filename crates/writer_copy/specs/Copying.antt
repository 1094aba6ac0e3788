-- A record read and then written: laws for the code.
use Rattle.std.specs.Prelude.{Result, Ok, Err, ℕ, ◌*◌, ◌≤◌, ◌≡◌, List, Bool, cond, leb, length, ℤ}
use Rattle.std.proofs.Common.{arith, ◌∙◌}
use Rattle.std.proofs.Math.Path.{refl, sym, ap, subst}
use Rattle.std.proofs.Math.Bool.{true, false}
use Rattle.text.specs.Text.{Bytes}
use Rattle.rules.specs.Record.{limit}
use Rattle.rules.specs.Meaning.{Reading, meaning}
use Rattle.rules.specs.Canon.{Writable}
use Rattle.judge_file.specs.Place.{FileKind, molfile, sdfile}
use Rattle.reader_walk.specs.Outcome.{Outcome, whole, refused, outcome_of}
use Rattle.reader_walk.specs.Walked.{walked_by, walk_of}
use Rattle.writer_lines.specs.Laid.{Laid}
use Rattle.judge_file.specs.Verdict.{accepted}
use Rattle.reader_answer.specs.declared.RecordRead.{RecordRead}
use Rattle.reader_answer.specs.Read.{answered, read_as, read_of, atoms_after, bonds_after, RowsLeft}
use Rattle.reader_answer.specs.Promise.{Roomy, kind_number}
use Rattle.reader_answer.specs.Rows.{RowsPromise}
use Rattle.reader_answer.proofs.Promised.{after_left}
use Rattle.writer_tables.specs.Tables.{writable_tables}
use Rattle.judge_file.specs.declared.TextRefusal.{TextRefusal}
use Rattle.writer_record.specs.Write as W
use Rattle.writer_record.specs.Write.{Given, canon_text, demand, text_for, write_of}
use Rattle.writer_record.specs.Measure.{sized, parts_size, GoodParts, never_refused, tables_agree, judged_parts, record_text, Ready, ready_by}
use Rattle.writer_record.specs.Promise as WP
use Rattle.writer_record.specs.Promise.{Accepted, record_agrees, promise_done, promise_refused, accepted_ready, accepted_laid}
use Rattle.writer_answer.specs.declared.Copied.{Copied}
use Rattle.writer_answer.specs.Copy.{text_of, fitting, answer_by, room_by, copy_of, room_after}
use Rattle.writer_answer.specs.CopyPromise.{Promise, Seen, seen}
use Rattle.writer_answer.proofs.CopyPromise.{promise}
use Rattle.writer_copy.specs.Most.{copy_most, surely, surely_enough}
use Rattle.writer_copy.specs.Bridge.{walked_refused, given_of, Front, front}
use Rattle.writer_copy.specs.NeverRefused.{good_parts}

-- ---- What was read is measured and laid

-- what is handed in is a reading that can be written
pub record Sound (g : Given) : Type 0 where
  pub x : Reading
  pub accepted : Accepted g x

pub sound_parts : (n m chiral : ℕ) (atoms bonds : List ℤ) (headers items : Bytes) →
    Sound (record { atoms = atoms; bonds = bonds; n = n; m = m; chiral = chiral; headers = headers; items = items }) → GoodParts headers items
sound_parts n m chiral atoms bonds headers items s = good_parts _ s.x s.accepted

pub sound_small : (n m chiral : ℕ) (atoms bonds : List ℤ) (headers items : Bytes) →
    Sound (record { atoms = atoms; bonds = bonds; n = n; m = m; chiral = chiral; headers = headers; items = items }) →
    (16 * n ≤ length atoms) × ((n ≤ limit) × (m ≤ limit))
sound_small n m chiral atoms bonds headers items s =
    let w = s.accepted.writable in
    let en = ap (λ (y : Reading). y.n) s.accepted.tables in
    let em = ap (λ (y : Reading). y.m) s.accepted.tables in
    (omega (arith, w.n, en, s.accepted.roomy.atoms), (omega (arith, w.n, en), omega (arith, w.m, em)))

module _ (g : Given) (s : Sound g) (k : ℕ) (j : Result ℕ TextRefusal) (e : j ≡ sized (parts_size g.n g.m g.atoms g.headers g.items) k) where
  sound_judged : j ≡ write_of g k
  sound_judged =
      let a = s.accepted in
      let t = (tables_agree g s.x.headers s.x.items a.roomy).1 (subst (Writable limit) a.tables a.writable) in
      let same = never_refused g.n g.m g.atoms g.headers g.items k (good_parts g s.x s.accepted) in
      judged_parts g k (writable_tables g.n g.m g.chiral g.atoms g.bonds) a.roomy.atoms a.roomy.bonds refl t j (e ∙ sym same)

  pub sound_ready : (l : ℕ) → j ≡ Ok l → Ready g k
  sound_ready l h = ready_by g k l j sound_judged h

abbrev copied_of : ℕ → ℕ → Result ℕ TextRefusal → Copied
copied_of taken lines (Ok l) = Copied.Done taken lines l
copied_of taken lines (Err r) = Copied.Refused r.no r.line r.column

-- as a writer keeps its promise
pub record PutRead (g : Given) (taken lines : ℕ) (r₀ : Bytes) (c : Copied) (r : Bytes) : Type 0 where
  pub w : Result ℕ TextRefusal
  pub said : c ≡ copied_of taken lines w
  pub written : WP.Promise g r₀ w r

module _ (g : Given) (s : Sound g) (taken lines : ℕ) (r₀ : Bytes) (j : Result ℕ TextRefusal)
    (e : j ≡ sized (parts_size g.n g.m g.atoms g.headers g.items) (length r₀)) where
  pub sound_done : (l : ℕ) (r : Bytes) (v : ℕ) → j ≡ Ok l → Laid r₀ r 0 (record_text g) v → PutRead g taken lines r₀ (Copied.Done taken lines v) r
  sound_done l r v h p = record { w = Ok v; said = refl; written = promise_done g r₀ j l r v (sound_judged g s (length r₀) j e) h p }

  pub sound_refused : (r : TextRefusal) → j ≡ Err r → PutRead g taken lines r₀ (Copied.Refused r.no r.line r.column) r₀
  sound_refused r h =
      record { w = Err r; said = refl; written = promise_refused g r₀ j r (sound_judged g s (length r₀) j e) h }

-- ---- Room that surely suffices

module _ (g : Given) (s : Sound g) (k : ℕ) (t : Bool) (e : t ≡ surely (length g.headers) (length g.items) k) (h : t ≡ true) where
  sure_fits : length (canon_text s.x) ≤ k
  sure_fits = omega (arith, copy_most g s.x s.accepted, surely_enough (length g.headers) (length g.items) k (sym e ∙ h))

  pub sure_ready : Ready g k
  sure_ready = accepted_ready g s.x s.accepted k sure_fits

pub sure_done : (g : Given) → Sound g → (taken lines : ℕ) (r₀ : Bytes) (t : Bool) → t ≡ surely (length g.headers) (length g.items) (length r₀) → t ≡ true →
    (r : Bytes) (v : ℕ) → Laid r₀ r 0 (record_text g) v → PutRead g taken lines r₀ (Copied.Done taken lines v) r
sure_done g s taken lines r₀ t e h r v p =
    record { w = Ok v; said = refl; written = accepted_laid g s.x s.accepted r₀ r v (sure_fits g s (length r₀) t e h) p }

-- ---- A reading that was accepted, or refused

-- what was read can be written; of a refusal nothing is asked
unfoldable pub Readable : Bytes → List ℤ → List ℤ → RecordRead → Type 0
Readable s ta tb (RecordRead.Read n m chiral len k h a b) = (h ≤ length s) × (a ≤ b) × (b ≤ length s) × Sound (given_of s ta tb n m chiral h a b)
Readable s ta tb (RecordRead.Refused e i c) = Unit {0}

-- it was put as a writer puts it; after a refusal nothing was
unfoldable pub PutGot : Bytes → List ℤ → List ℤ → RecordRead → Bytes → Copied → Bytes → Type 0
PutGot s ta tb (RecordRead.Read n m chiral len k h a b) r₀ c r = PutRead (given_of s ta tb n m chiral h a b) len k r₀ c r
PutGot s ta tb (RecordRead.Refused e i column) r₀ c r = (c ≡ Copied.Refused e i column) × (r ≡ r₀)

module _ (s : Bytes) (ta tb : List ℤ) (got : RecordRead) where
  module _ (g : Readable s ta tb got) (n m chiral len k h a b : ℕ) (q : got ≡ RecordRead.Read n m chiral len k h a b) where
    opened : (h ≤ length s) × (a ≤ b) × (b ≤ length s) × Sound (given_of s ta tb n m chiral h a b)
    unfolding Readable
    opened = subst (Readable s ta tb) q g

    pub got_headers : h ≤ length s
    got_headers = opened.0

    pub got_items : a ≤ b
    got_items = opened.1

    pub got_items_end : b ≤ length s
    got_items_end = opened.2

    pub got_sound : Sound (given_of s ta tb n m chiral h a b)
    got_sound = opened.3

  module _ (r₀ : Bytes) where
    pub got_done : (n m chiral len k h a b : ℕ) → got ≡ RecordRead.Read n m chiral len k h a b →
        (c : Copied) (r : Bytes) → PutRead (given_of s ta tb n m chiral h a b) len k r₀ c r → PutGot s ta tb got r₀ c r
    unfolding PutGot
    got_done n m chiral len k h a b q c r p = subst (λ (z : RecordRead). PutGot s ta tb z r₀ c r) (sym q) p

    pub got_refused : (e i c : ℕ) → got ≡ RecordRead.Refused e i c → PutGot s ta tb got r₀ (Copied.Refused e i c) r₀
    unfolding PutGot
    got_refused e i c q = subst (λ (z : RecordRead). PutGot s ta tb z r₀ (Copied.Refused e i c) r₀) (sym q) (refl, refl)

-- ---- A record walked, its rows in the tables

module _ (f : FileKind) (s : Bytes) (ta₀ tb₀ ta tb : List ℤ) (left : RowsLeft ta₀ ta tb₀ tb (outcome_of f s)) where
  walked_readable : (got : RecordRead) → answered (walk_of f s) ≡ got → Readable s ta tb got
  unfolding Readable
  walked_readable (RecordRead.Read n m chiral len k h a b) q =
      let it = front f s ta₀ tb₀ ta tb left n m chiral len k h a b q in
      (it.headers_end_lem, it.items_start_lem, it.items_end_lem, record { x = meaning it.x; accepted = it.accepted })
  walked_readable (RecordRead.Refused e i c) q = tt

  module _ (r₀ : Bytes) (c : Copied) (r : Bytes) where
    -- as copying does by an outcome
    abbrev CopiedBy : Outcome → Type 0
    CopiedBy o = (c ≡ answer_by s o) × (r ≡ room_by r₀ o)

    module _ (n m chiral len k h a b : ℕ) (q : answered (walk_of f s) ≡ RecordRead.Read n m chiral len k h a b) where
      abbrev g : Given
      g = given_of s ta tb n m chiral h a b

      it : Front f s ta tb n m chiral len k h a b
      it = front f s ta₀ tb₀ ta tb left n m chiral len k h a b q

      abbrev fits : Bool
      fits = leb (length (text_of it.x)) (length r₀)

      text_is : text_for g (length r₀) ≡ demand fits 20 (accepted (text_of it.x))
      unfolding text_for
      text_is = rw ((record_agrees g (meaning it.x)).1 it.accepted)

      whole_copied : PutRead g len k r₀ c r → CopiedBy (fitting (length r₀) (outcome_of f s))
      unfolding write_of W.room_after
      whole_copied p = (
        p.said ∙ ap (copied_of len k) (p.written.answer ∙ ap W.answer text_is) ∙ said fits ∙ ap (λ (o : Outcome). answer_by s (fitting (length r₀) o)) (sym it.is),
        p.written.room ∙ ap (W.room r₀) text_is ∙ stood fits ∙ ap (λ (o : Outcome). room_by r₀ (fitting (length r₀) o)) (sym it.is),
      )
        where
          said : (t : Bool) → copied_of len k (W.answer (demand t 20 (accepted (text_of it.x)))) ≡ answer_by s (cond t (whole it.x k) (refused 20 0 0))
          said true = ap (λ (z : ℕ). Copied.Done z k (length (text_of it.x))) it.size
          said false = refl

          stood : (t : Bool) → W.room r₀ (demand t 20 (accepted (text_of it.x))) ≡ room_by r₀ (cond t (whole it.x k) (refused 20 0 0))
          stood true = refl
          stood false = refl

    walked_copied : (got : RecordRead) → answered (walk_of f s) ≡ got → PutGot s ta tb got r₀ c r → CopiedBy (fitting (length r₀) (outcome_of f s))
    unfolding PutGot walk_of
    walked_copied (RecordRead.Read n m chiral len k h a b) q p = whole_copied n m chiral len k h a b q p
    walked_copied (RecordRead.Refused e i column) q p =
        let o = walked_refused f s e i column (outcome_of f s) q in
        (p.0 ∙ sym (ap (λ (z : Outcome). answer_by s (fitting (length r₀) z)) o), p.1 ∙ sym (ap (λ (z : Outcome). room_by r₀ (fitting (length r₀) z)) o))

-- ---- Any kind and tables

module _ (kind : ℕ) (s : Bytes) (ta tb ta' tb' : List ℤ) (rows : (f : FileKind) → kind ≡ kind_number f → Roomy ta tb → RowsLeft ta ta' tb tb' (outcome_of f s)) where
  readable_seen : {k : ℕ} {got : RecordRead} {o : Outcome} → Seen kind s ta tb k got o → Readable s ta' tb' got
  unfolding Readable walk_of
  readable_seen (Seen.other_kind h) = tt
  readable_seen (Seen.tables h y) = tt
  readable_seen (Seen.walked f e y) = walked_readable f s ta tb ta' tb' (rows f e y) (answered (walked_by f s (outcome_of f s))) refl

  copied_seen : (r₀ : Bytes) (c : Copied) (r : Bytes) {got : RecordRead} {o : Outcome} → Seen kind s ta tb (length r₀) got o → PutGot s ta' tb' got r₀ c r →
      (c ≡ answer_by s o) × (r ≡ room_by r₀ o)
  unfolding PutGot walk_of
  copied_seen r₀ c r (Seen.other_kind h) p = p
  copied_seen r₀ c r (Seen.tables h y) p = p
  copied_seen r₀ c r (Seen.walked f e y) p = walked_copied f s ta tb ta' tb' (rows f e y) r₀ c r (answered (walked_by f s (outcome_of f s))) refl p

  module _ (got : RecordRead) (er : got ≡ read_of kind (length ta) (length tb) s) where
    readable : Readable s ta' tb' got
    readable = subst (Readable s ta' tb') (sym er) (readable_seen (seen kind s ta tb 0))

    copied : (r₀ : Bytes) (c : Copied) (r : Bytes) → PutGot s ta' tb' got r₀ c r →
        (c ≡ copy_of kind (length ta) (length tb) s (length r₀)) × (r ≡ room_after kind (length ta) (length tb) s r₀)
    unfolding copy_of room_after
    copied r₀ c r p = copied_seen r₀ c r (seen kind s ta tb (length r₀)) (subst (λ (z : RecordRead). PutGot s ta' tb' z r₀ c r) er p)

-- the tables are cleared behind the rows
module _ (kind : ℕ) (s : Bytes) (ta tb ta' tb' : List ℤ) (got : RecordRead) (er : got ≡ read_of kind (length ta) (length tb) s)
    (ea : ta' ≡ atoms_after kind (length tb) s ta) (eb : tb' ≡ bonds_after kind (length ta) s tb) where
  rows_cleared : (f : FileKind) → kind ≡ kind_number f → Roomy ta tb → RowsLeft ta ta' tb tb' (outcome_of f s)
  rows_cleared f e y = after_left s ta tb kind f ta' tb' e y ea eb

  pub copy_readable : Readable s ta' tb' got
  copy_readable = readable kind s ta tb ta' tb' rows_cleared got er

  pub copy_done : (r₀ : Bytes) (c : Copied) (r : Bytes) → PutGot s ta' tb' got r₀ c r → Promise kind s ta tb r₀ c ta' tb' r
  copy_done r₀ c r p =
      let d = copied kind s ta tb ta' tb' rows_cleared got er r₀ c r p in
      promise kind s ta tb r₀ c ta' tb' r d.0 d.1 ea eb

-- a copy that clears nothing: answer and room are the same, and the tables begin with the rows that were read
pub record RowsCopied (f : FileKind) (s : Bytes) (ta₀ tb₀ : List ℤ) (r₀ : Bytes) (a : Copied) (ta tb : List ℤ) (r : Bytes) : Type 0 where
  pub answer : a ≡ copy_of (kind_number f) (length ta₀) (length tb₀) s (length r₀)
  pub room : r ≡ room_after (kind_number f) (length ta₀) (length tb₀) s r₀
  pub tables : RowsPromise f s ta₀ tb₀ ta tb

module _ (f : FileKind) (s : Bytes) (ta tb ta' tb' : List ℤ) (got : RecordRead) (er : got ≡ read_as f (length ta) (length tb) s) (p : RowsPromise f s ta tb ta' tb') where
  same_kind_lem : (g h : FileKind) → kind_number g ≡ kind_number h → g ≡ h
  same_kind_lem molfile molfile e = refl
  same_kind_lem molfile sdfile e = absurd (omega arith)
  same_kind_lem sdfile molfile e = absurd (omega arith)
  same_kind_lem sdfile sdfile e = refl

  rows_are : (g : FileKind) → kind_number f ≡ kind_number g → Roomy ta tb → RowsLeft ta ta' tb tb' (outcome_of g s)
  rows_are g e y = subst (λ (k : FileKind). RowsLeft ta ta' tb tb' (outcome_of k s)) (same_kind_lem f g e) (p.rows y)

  numbered : (g : FileKind) → read_as g (length ta) (length tb) s ≡ read_of (kind_number g) (length ta) (length tb) s
  unfolding read_of
  numbered molfile = refl
  numbered sdfile = refl

  pub rows_readable : Readable s ta' tb' got
  rows_readable = readable (kind_number f) s ta tb ta' tb' rows_are got (er ∙ numbered f)

  pub rows_copied : (r₀ : Bytes) (c : Copied) (r : Bytes) → PutGot s ta' tb' got r₀ c r → RowsCopied f s ta tb r₀ c ta' tb' r
  rows_copied r₀ c r q =
      let d = copied (kind_number f) s ta tb ta' tb' rows_are got (er ∙ numbered f) r₀ c r q in
      record { answer = d.0; room = d.1; tables = p }
