-- What splitting a record promises, in the words of the rules: the record is read first, and all holds that reading promises;
-- then the lists say each atom's lowest and the pieces, or the refusal is the reading's. There is one answer and one memory.
use Rattle.std.specs.Prelude.{ℕ, ◌≡◌, List, cond, leb, ℤ, length, replicate}
use Rattle.text.specs.Text.{Bytes}
use Rattle.rules.specs.Forms.{Bond}
use Rattle.rules.specs.Record.{Raw, limit}
use Rattle.piece_rules.specs.Pieces.{Split}
use Rattle.judge_file.specs.Place.{FileKind}
use Rattle.judge_file.specs.Verdict.{Verdict, accepted, refused}
use Rattle.reader_answer.specs.declared.RecordRead.{RecordRead}
use Rattle.reader_answer.specs.Promise.{Begins, Roomy, ReadPromise, kind_number}
use Rattle.reader_answer.specs.Promise as R
use Rattle.piece_record.specs.declared.RecordSplit.{RecordSplit}

-- ---- What an answer says

pub record Counts : Type 0 where
  pub atoms : ℕ
  pub pieces : ℕ

abbrev pub numbers_of : RecordSplit → Verdict Counts
numbers_of (RecordSplit.Pieces atoms pieces) = accepted (record { atoms = atoms; pieces = pieces })
numbers_of (RecordSplit.Refused e line column) = refused e line column

-- ---- The promise

-- the three lists lent: each atom's lowest, the pieces' lowest atoms, their sizes
pub record Lists : Type 0 where
  pub labels : List ℕ
  pub heads : List ℕ
  pub sizes : List ℕ

abbrev pub lists_of : List ℕ → List ℕ → List ℕ → Lists
lists_of labels heads sizes = record { labels = labels; heads = heads; sizes = sizes }

-- kept shut, for it computes as far as the limit
unfoldable pub zeros : List ℕ
zeros = replicate limit 0

-- refusals 1 and 2 change no list; after any other they hold zeros
unfoldable pub lists_after : ℕ → Lists → Lists
lists_after e was = cond (leb e 2) was (lists_of zeros zeros zeros)

-- n atoms with these bonds are split
pub record SplitInto (n : ℕ) (bs : List Bond) (r : RecordSplit) (after : Lists) : Type 0 where
  pub count : ℕ
  pub answer : numbers_of r ≡ accepted (record { atoms = n; pieces = count })
  pub split : Split n bs after.labels after.heads after.sizes count
  pub rooms : (length after.labels ≡ limit) × (length after.heads ≡ limit) × (length after.sizes ≡ limit)

-- the tables were ta and tb and the lists `was`, r is the answer, and they are then ta', tb' and `after`
pub record SplitPromise (kind : ℕ) (s : Bytes) (ta tb : List ℤ) (was : Lists) (r : RecordSplit) (ta' tb' : List ℤ) (after : Lists) : Type 0 where
  pub reading : RecordRead
  pub reads : ReadPromise kind s ta tb reading ta' tb'
  pub splits : (k : FileKind) → kind ≡ kind_number k → Roomy ta tb → (x : Raw) → Begins k s x →
      SplitInto x.molecule.counts.atoms x.molecule.bonds r after
  pub refuses : (e i column : ℕ) → R.numbers_of reading ≡ refused e i column → (numbers_of r ≡ refused e i column) × (after ≡ lists_after e was)
