-- The answers of the library as arrays of numbers for C: the first is 0, or the number of the refusal, and then the next two are its line and column.
use Rattle.std.specs.Prelude.{Result, Ok, Err, ℕ, zero, suc, ◌≡◌, refl, Bool, true, false, List, [], ◌∷◌}
use Rattle.std.proofs.Common.{arith, sym}
use Rattle.std.proofs.Math.Path.{ap}
use Rattle.judge_file.specs.Verdict.{Verdict, accepted, refused}
use Rattle.judge_file.specs.declared.TextRefusal.{TextRefusal}
use Rattle.reader_check.specs.Promised.{numbers_of}
use Rattle.reader_answer.specs.declared.RecordRead.{RecordRead}
use Rattle.reader_item.specs.declared.Found.{Found}
use Rattle.reader_item.specs.Find as F
use Rattle.reader_cursor.specs.declared.Cursor.{Cursor}
use Rattle.reader_file.specs.declared.Next.{Next}
use Rattle.reader_feed.specs.declared.Counter.{Counter}
use Rattle.reader_feed.specs.declared.Fed.{Fed}
use Rattle.writer_answer.specs.declared.Copied.{Copied}
use Rattle.writer_answer.specs.declared.Catalogue.{Catalogue}

-- ---- The check of a whole file

-- 0, records, 0
unfoldable pub check_numbers : Verdict ℕ → List ℕ
check_numbers (accepted count) = 0 ∷ (count ∷ (0 ∷ []))
check_numbers (refused e i column) = e ∷ (i ∷ (column ∷ []))

module _ (a : Result ℕ TextRefusal) where
  pub check_accepted : (count : ℕ) → a ≡ Ok count → 0 ∷ (count ∷ (0 ∷ [])) ≡ check_numbers (numbers_of a)
  unfolding check_numbers
  check_accepted count h = ap (λ (x : Result ℕ TextRefusal). check_numbers (numbers_of x)) (sym h)

  pub check_refused : (r : TextRefusal) → a ≡ Err r → r.no ∷ (r.line ∷ (r.column ∷ [])) ≡ check_numbers (numbers_of a)
  unfolding check_numbers
  check_refused r h = ap (λ (x : Result ℕ TextRefusal). check_numbers (numbers_of x)) (sym h)

pub ruleset check_array = (check_accepted, check_refused)

-- ---- The reading of a record

-- 0, n, m, chiral, length, lines, end of the header lines, start and end of the items; last, also after a refusal, the rows asked
unfoldable pub read_numbers : RecordRead → ℕ → List ℕ
read_numbers (RecordRead.Read n m chiral length lines h a b) q = 0 ∷ (n ∷ (m ∷ (chiral ∷ (length ∷ (lines ∷ (h ∷ (a ∷ (b ∷ (q ∷ [])))))))))
read_numbers (RecordRead.Refused e i column) q = e ∷ (i ∷ (column ∷ (0 ∷ (0 ∷ (0 ∷ (0 ∷ (0 ∷ (0 ∷ (q ∷ [])))))))))

module _ (x : RecordRead) (q : ℕ) where
  pub read_accepted : (n m chiral length lines h a b : ℕ) → x ≡ RecordRead.Read n m chiral length lines h a b →
      0 ∷ (n ∷ (m ∷ (chiral ∷ (length ∷ (lines ∷ (h ∷ (a ∷ (b ∷ (q ∷ []))))))))) ≡ read_numbers x q
  unfolding read_numbers
  read_accepted n m chiral length lines h a b e = ap (λ (y : RecordRead). read_numbers y q) (sym e)

  pub read_refused : (e i column : ℕ) → x ≡ RecordRead.Refused e i column → e ∷ (i ∷ (column ∷ (0 ∷ (0 ∷ (0 ∷ (0 ∷ (0 ∷ (0 ∷ (q ∷ []))))))))) ≡ read_numbers x q
  unfolding read_numbers
  read_refused e i column h = ap (λ (y : RecordRead). read_numbers y q) (sym h)

pub ruleset read_array = (read_accepted, read_refused)

-- ---- A fetch

-- 0, start and end of the values
unfoldable pub found_numbers : F.Said → List ℕ
found_numbers (F.item from to) = 0 ∷ (from ∷ (to ∷ []))
found_numbers (F.refused e i column) = e ∷ (i ∷ (column ∷ []))

module _ (x : Found) where
  pub found_item : (from to : ℕ) → x ≡ Found.Item from to → 0 ∷ (from ∷ (to ∷ [])) ≡ found_numbers (F.numbers_of x)
  unfolding found_numbers
  found_item from to h = ap (λ (y : Found). found_numbers (F.numbers_of y)) (sym h)

  pub found_refused : (e i column : ℕ) → x ≡ Found.Refused e i column → e ∷ (i ∷ (column ∷ [])) ≡ found_numbers (F.numbers_of x)
  unfolding found_numbers
  found_refused e i column h = ap (λ (y : Found). found_numbers (F.numbers_of y)) (sym h)

pub ruleset found_array = (found_item, found_refused)

-- ---- The writing of a record

-- 0, length, 0
unfoldable pub written_numbers : Result ℕ TextRefusal → List ℕ
written_numbers (Ok length) = 0 ∷ (length ∷ (0 ∷ []))
written_numbers (Err r) = r.no ∷ (r.line ∷ (r.column ∷ []))

module _ (x : Result ℕ TextRefusal) where
  pub written_done : (length : ℕ) → x ≡ Ok length → 0 ∷ (length ∷ (0 ∷ [])) ≡ written_numbers x
  unfolding written_numbers
  written_done length h = ap written_numbers (sym h)

  pub written_refused : (r : TextRefusal) → x ≡ Err r → r.no ∷ (r.line ∷ (r.column ∷ [])) ≡ written_numbers x
  unfolding written_numbers
  written_refused r h = ap written_numbers (sym h)

pub ruleset written_array = (written_done, written_refused)

-- ---- The copying of a record

-- 0, bytes and lines that the record takes, length of its text
unfoldable pub copied_numbers : Copied → List ℕ
copied_numbers (Copied.Done taken lines length) = 0 ∷ (taken ∷ (lines ∷ (length ∷ [])))
copied_numbers (Copied.Refused e i column) = e ∷ (i ∷ (column ∷ (0 ∷ [])))

module _ (x : Copied) where
  pub copied_done : (taken lines length : ℕ) → x ≡ Copied.Done taken lines length → 0 ∷ (taken ∷ (lines ∷ (length ∷ []))) ≡ copied_numbers x
  unfolding copied_numbers
  copied_done taken lines length h = ap copied_numbers (sym h)

  pub copied_refused : (e i column : ℕ) → x ≡ Copied.Refused e i column → e ∷ (i ∷ (column ∷ (0 ∷ []))) ≡ copied_numbers x
  unfolding copied_numbers
  copied_refused e i column h = ap copied_numbers (sym h)

pub ruleset copied_array = (copied_done, copied_refused)

-- ---- The writing of a catalogue

-- 0, length, records
unfoldable pub catalogue_numbers : Catalogue → List ℕ
catalogue_numbers (Catalogue.Done length records) = 0 ∷ (length ∷ (records ∷ []))
catalogue_numbers (Catalogue.Refused e i column) = e ∷ (i ∷ (column ∷ []))

module _ (x : Catalogue) where
  pub catalogue_done : (length records : ℕ) → x ≡ Catalogue.Done length records → 0 ∷ (length ∷ (records ∷ [])) ≡ catalogue_numbers x
  unfolding catalogue_numbers
  catalogue_done length records h = ap catalogue_numbers (sym h)

  pub catalogue_refused : (e i column : ℕ) → x ≡ Catalogue.Refused e i column → e ∷ (i ∷ (column ∷ [])) ≡ catalogue_numbers x
  unfolding catalogue_numbers
  catalogue_refused e i column h = ap catalogue_numbers (sym h)

pub ruleset catalogue_array = (catalogue_done, catalogue_refused)

-- ---- A cursor over a file

-- 0, then of a record its eight numbers as a reading tells them, the cursor past it, and 1; at the end and after a refusal the cursor is the one handed in
unfoldable pub next_numbers : Cursor → Next → List ℕ
next_numbers c (Next.Record n m chiral bytes lines h a b d) =
    0 ∷ (n ∷ (m ∷ (chiral ∷ (bytes ∷ (lines ∷ (h ∷ (a ∷ (b ∷ (d.at ∷ (d.lines ∷ (d.records ∷ (1 ∷ []))))))))))))
next_numbers c Next.End = 0 ∷ (0 ∷ (0 ∷ (0 ∷ (0 ∷ (0 ∷ (0 ∷ (0 ∷ (0 ∷ (c.at ∷ (c.lines ∷ (c.records ∷ (0 ∷ []))))))))))))
next_numbers c (Next.Refused e i column) = e ∷ (i ∷ (column ∷ (0 ∷ (0 ∷ (0 ∷ (0 ∷ (0 ∷ (0 ∷ (c.at ∷ (c.lines ∷ (c.records ∷ (0 ∷ []))))))))))))

module _ (c : Cursor) (x : Next) where
  pub next_record : (n m chiral bytes lines h a b : ℕ) (d : Cursor) → x ≡ Next.Record n m chiral bytes lines h a b d →
      0 ∷ (n ∷ (m ∷ (chiral ∷ (bytes ∷ (lines ∷ (h ∷ (a ∷ (b ∷ (d.at ∷ (d.lines ∷ (d.records ∷ (1 ∷ [])))))))))))) ≡ next_numbers c x
  unfolding next_numbers
  next_record n m chiral bytes lines h a b d e = ap (next_numbers c) (sym e)

  pub next_end : x ≡ Next.End → 0 ∷ (0 ∷ (0 ∷ (0 ∷ (0 ∷ (0 ∷ (0 ∷ (0 ∷ (0 ∷ (c.at ∷ (c.lines ∷ (c.records ∷ (0 ∷ [])))))))))))) ≡ next_numbers c x
  unfolding next_numbers
  next_end e = ap (next_numbers c) (sym e)

  pub next_refused : (e i column : ℕ) → x ≡ Next.Refused e i column →
      e ∷ (i ∷ (column ∷ (0 ∷ (0 ∷ (0 ∷ (0 ∷ (0 ∷ (0 ∷ (c.at ∷ (c.lines ∷ (c.records ∷ (0 ∷ [])))))))))))) ≡ next_numbers c x
  unfolding next_numbers
  next_refused e i column h = ap (next_numbers c) (sym h)

pub ruleset next_array = (next_record, next_end, next_refused)

-- ---- The counter of an input in parts

-- 0, and 0 where more is asked for: records, lines, bytes used; 1 where the input is accepted: records; 2 where a record is too long: which
unfoldable pub fed_numbers : Fed → List ℕ
fed_numbers (Fed.More c used) = 0 ∷ (0 ∷ (c.records ∷ (c.lines ∷ (used ∷ []))))
fed_numbers (Fed.Accepted n) = 0 ∷ (1 ∷ (n ∷ (0 ∷ (0 ∷ []))))
fed_numbers (Fed.Refused e i column) = e ∷ (i ∷ (column ∷ (0 ∷ (0 ∷ []))))
fed_numbers (Fed.TooLong k) = 0 ∷ (2 ∷ (k ∷ (0 ∷ (0 ∷ []))))

module _ (x : Fed) where
  pub fed_more : (c : Counter) (used : ℕ) → x ≡ Fed.More c used → 0 ∷ (0 ∷ (c.records ∷ (c.lines ∷ (used ∷ [])))) ≡ fed_numbers x
  unfolding fed_numbers
  fed_more c used h = ap fed_numbers (sym h)

  pub fed_accepted : (n : ℕ) → x ≡ Fed.Accepted n → 0 ∷ (1 ∷ (n ∷ (0 ∷ (0 ∷ [])))) ≡ fed_numbers x
  unfolding fed_numbers
  fed_accepted n h = ap fed_numbers (sym h)

  pub fed_refusal : (e i column : ℕ) → x ≡ Fed.Refused e i column → e ∷ (i ∷ (column ∷ (0 ∷ (0 ∷ [])))) ≡ fed_numbers x
  unfolding fed_numbers
  fed_refusal e i column h = ap fed_numbers (sym h)

  pub fed_long : (k : ℕ) → x ≡ Fed.TooLong k → 0 ∷ (2 ∷ (k ∷ (0 ∷ (0 ∷ [])))) ≡ fed_numbers x
  unfolding fed_numbers
  fed_long k h = ap fed_numbers (sym h)

pub ruleset fed_array = (fed_more, fed_accepted, fed_refusal, fed_long)

-- ---- A byte of C as a truth value

abbrev pub truth : ℕ → Bool
truth zero = false
truth (suc n) = true

pub truth_none : (b : ℕ) → b ≡ 0 → false ≡ truth b
truth_none zero h = refl
truth_none (suc n) h = absurd (omega (arith, h))

pub truth_some : (b : ℕ) → (b ≡ 0 → ⊥) → true ≡ truth b
truth_some zero h = absurd (h refl)
truth_some (suc n) h = refl

pub ruleset truth_laws = (truth_none, truth_some)
