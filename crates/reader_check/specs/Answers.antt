-- The answers of the check, by what the walk over the text says.
use Rattle.std.specs.Prelude.{Result, Ok, Err, ℕ, ◌≡◌, refl, List, [], ◌∷◌, length}
use Rattle.std.proofs.Common.{arith, sym, ap, ◌∙◌}
use Rattle.text.specs.Text.{Bytes}
use Rattle.text.specs.Cut.{cut}
use Rattle.rules.specs.Record.{Raw, limit}
use Rattle.line_counts_bonds.specs.declared.Counts.{Counts}
use Rattle.judge_file.specs.Place.{molfile, sdfile}
use Rattle.judge_file.specs.Verdict.{Verdict, accepted, refused, verdict}
use Rattle.judge_file.proofs.Promise.{accepted_mol}
use Rattle.reader_end.specs.declared.Walked.{Walked}
use Rattle.reader_walk.specs.Outcome.{of_verdict, outcome_of}
use Rattle.reader_walk.specs.Walked.{walked_by, walk_of}
use Rattle.reader_walk.specs.Promise.{said_by}
use Rattle.reader_walk.specs.Checking.{said_of}
use Rattle.reader_cursor.specs.declared.Cursor.{Cursor}
use Rattle.reader_cursor.specs.declared.Ended.{Ended}
use Rattle.reader_cursor.specs.Walk.{Walk, over, short, stopped, ended_by, verdict_by, records_of, cursor_of, file_walk}
use Rattle.reader_cursor.specs.After.{verdict_walk, walk_after}
use Rattle.judge_file.specs.declared.TextRefusal.{TextRefusal}
use Rattle.reader_check.specs.Promised.{numbers_of}

-- ---- A molfile

abbrev pub answer_by : Walked → Result ℕ TextRefusal
answer_by (Walked.Whole c length lines h a b) = Ok 1
answer_by (Walked.Refused e i column) = Err (record { no = e; line = i; column = column })

pub mol_said : (s : Bytes) (x : Walked) → x ≡ walk_of molfile s → numbers_of (answer_by x) ≡ said_of molfile s
unfolding walk_of outcome_of
mol_said s x e = ap (λ (w : Walked). numbers_of (answer_by w)) e ∙ go (verdict molfile limit s) refl
  where
    go : (v : Verdict (List Raw)) → verdict molfile limit s ≡ v → numbers_of (answer_by (walked_by molfile s (of_verdict (length (cut s).lines) v))) ≡ said_by v
    go (accepted []) h =
        let g = (accepted_mol limit s []).0 h in
        absurd (omega (arith, ap length g.1))
    go (accepted (y ∷ ys)) h =
        let g = (accepted_mol limit s (y ∷ ys)).0 h in
        ap accepted (sym (ap length g.1))
    go (refused n i c) h = refl

pub mol_whole : (s : Bytes) (x : Walked) (c : Counts) (len k h a b : ℕ) → x ≡ walk_of molfile s → x ≡ Walked.Whole c len k h a b → numbers_of (Ok 1) ≡ said_of molfile s
mol_whole s x c len k h a b e q = ap (λ (w : Walked). numbers_of (answer_by w)) (sym q) ∙ mol_said s x e

pub mol_refused : (s : Bytes) (x : Walked) (e i column : ℕ) → x ≡ walk_of molfile s → x ≡ Walked.Refused e i column → numbers_of (Err (record { no = e; line = i; column = column })) ≡ said_of molfile s
mol_refused s x e i column h q = ap (λ (w : Walked). numbers_of (answer_by w)) (sym q) ∙ mol_said s x h

pub ruleset mol_laws = (mol_whole, mol_refused)

-- ---- An SDfile

abbrev answer_of : Ended → Result ℕ TextRefusal
answer_of (Ended.Over c) = Ok c.records
answer_of (Ended.Short c i) = Err (record { no = 19; line = i; column = 1 })
answer_of (Ended.Refused e i column) = Err (record { no = e; line = i; column = column })

module _ (s : Bytes) (x : Ended) (ex : x ≡ ended_by (file_walk s)) where
  sd_said : numbers_of (answer_of x) ≡ said_of sdfile s
  sd_said = ap (λ (y : Ended). numbers_of (answer_of y)) ex ∙ go (file_walk s) (walk_after s).count ∙ sym (ap said_by (verdict_walk s))
    where
      go : (w : Walk) → (cursor_of w).records ≡ length (records_of w) → numbers_of (answer_of (ended_by w)) ≡ said_by (verdict_by w)
      go (over xs c) n = ap accepted n
      go (short xs c i) n = refl
      go (stopped xs c e i column) n = refl

  pub sd_over : (c : Cursor) → x ≡ Ended.Over c → numbers_of (Ok c.records) ≡ said_of sdfile s
  sd_over c q = ap (λ (y : Ended). numbers_of (answer_of y)) (sym q) ∙ sd_said

  pub sd_short : (c : Cursor) (i : ℕ) → x ≡ Ended.Short c i → numbers_of (Err (record { no = 19; line = i; column = 1 })) ≡ said_of sdfile s
  sd_short c i q = ap (λ (y : Ended). numbers_of (answer_of y)) (sym q) ∙ sd_said

  pub sd_refused : (e i column : ℕ) → x ≡ Ended.Refused e i column → numbers_of (Err (record { no = e; line = i; column = column })) ≡ said_of sdfile s
  sd_refused e i column q = ap (λ (y : Ended). numbers_of (answer_of y)) (sym q) ∙ sd_said

pub ruleset sd_laws = (sd_over, sd_short, sd_refused)
