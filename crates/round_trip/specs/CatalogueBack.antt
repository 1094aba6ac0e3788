-- The text of the catalogue writer, visited record by record, is the list of readings of the file that was handed in.
use Rattle.std.specs.Prelude.{ℕ, suc, ◌≤◌, ◌≡◌, refl, List, [], ◌∷◌, map, length}
use Rattle.std.proofs.Common.{sym, ap, ◌∙◌}
use Rattle.text.specs.Text.{Bytes}
use Rattle.rules.specs.Record.{Raw, GoodSDfile, atom_places, bond_places}
use Rattle.rules.specs.Meaning.{Reading, meaning}
use Rattle.judge_file.specs.Place.{sdfile}
use Rattle.judge_file.specs.Verdict.{accepted}
use Rattle.reader_walk.specs.Checking.{said_of}
use Rattle.writer_answer.specs.Catalogue.{catalogue_text}
use Rattle.writer_answer.specs.CataloguePromise.{text_stands}
use Rattle.reader_cursor.specs.declared.Cursor.{Cursor}
use Rattle.reader_cursor.specs.Walk.{fresh}
use Rattle.reader_file.specs.Promise.{end}
use Rattle.reader_file.specs.Visits.{Visits}
use Rattle.reader_file.specs.Visiting.{visits_good}

-- a text is visited to its end, as records that mean these readings, and the check counts as many
pub record VisitedAs (la lb : ℕ) (s : Bytes) (xs : List Reading) : Type 0 where
  pub records : List Raw
  pub same : map meaning records ≡ xs
  pub last : Cursor
  pub visits : Visits la lb s fresh records last end
  pub whole : last.at ≡ length s
  pub count : said_of sdfile s ≡ accepted (length xs)

map_length : (rs : List Raw) → length (map meaning rs) ≡ length rs
map_length [] = refl
map_length (r ∷ rs) = ap suc (map_length rs)

pub catalogue_back : (s : Bytes) (xs : List Raw) → GoodSDfile s xs → (la lb : ℕ) → atom_places ≤ la → bond_places ≤ lb → VisitedAs la lb (catalogue_text xs) (map meaning xs)
catalogue_back s xs f la lb ra rb =
    let t = text_stands s xs f in
    let v = visits_good la lb ra rb (catalogue_text xs) t.0 t.1 in
    record {
      records = t.0;
      same = t.2;
      last = v.0;
      visits = v.1;
      whole = v.4;
      count = v.2 ∙ ap accepted (v.3 ∙ sym (map_length t.0) ∙ ap length t.2);
    }
