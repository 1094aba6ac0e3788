-- Every record of an SDfile, whatever became of those before it. A record is judged from its start. After an accepted one the next begins behind its `$$$$` line;
-- after a refused one behind the next line, from its refused line on, that begins `$$$$`.
use Rattle.std.specs.Prelude.{ℕ, suc, ◌+◌, ◌≤◌, ◌<◌, ◌≡◌, List, [], ◌∷◌, ◌++◌, length, take}
use Rattle.text.specs.Text.{Bytes, Line, LF, bytes, Without, Ended}
use Rattle.text.specs.Cut.{cut}
use Rattle.rules.specs.Record.{Raw, GoodSDfile}
use Rattle.judge_refusals.specs.NoRecord.{NoRecord}
use Rattle.reader_feed.specs.Says.{Told, accepted, refused, too_long}

-- ---- Where judging goes on

abbrev pub Tagged : Line → Type 0
Tagged l = (after : Bytes) × (l ≡ bytes "$$$$" ++ after)

-- `Behind p t own rest`: lines of t are passed by, the first p whatever they hold, up to and with the first that begins `$$$$`; where none does, all of t.
-- They are `own`, and judging goes on with the rest.
pub data Behind : ℕ → Bytes → Bytes → Bytes → Type 0 where
  none : {p : ℕ} {t : Bytes} → Without LF t → Behind p t t []
  pass : {p : ℕ} {t bs more after own rest : Bytes} {l : Line} →
      t ≡ bs ++ (LF ∷ more) → Without LF bs → Ended bs l → Behind p more after rest → own ≡ bs ++ (LF ∷ after) → Behind (suc p) t own rest
  other : {t bs more after own rest : Bytes} {l : Line} →
      t ≡ bs ++ (LF ∷ more) → Without LF bs → Ended bs l → ¬ Tagged l → Behind 0 more after rest → own ≡ bs ++ (LF ∷ after) → Behind 0 t own rest
  found : {t bs more own : Bytes} {l : Line} → t ≡ bs ++ (LF ∷ more) → Without LF bs → Ended bs l → Tagged l → own ≡ bs ++ (LF ∷ []) → Behind 0 t own more

-- ---- The stretches of a file

-- the bytes of a stretch, and what it is
pub data Part : Type 0 where
  good : Bytes → Part  -- a record
  bad : Bytes → ℕ → ℕ → ℕ → Part  -- none: number, line and column of the refusal, the line counted from the stretch's start
  long : Bytes → Part  -- neither the end of a record nor a refused line within the room

-- A record is looked for in the first `room` bytes from its start.
pub data Dealt (room : ℕ) : Bytes → List Part → Type 0 where
  none : Dealt room [] []
  whole : {t own rest : Bytes} {x : Raw} {ps : List Part} → t ≡ own ++ rest → GoodSDfile own (x ∷ []) → length own ≤ room → Dealt room rest ps → Dealt room t (good own ∷ ps)
  dead : {t own rest : Bytes} {e p column : ℕ} {ps : List Part} → 0 < length t → NoRecord (take room t) e (suc p) column → (e ≡ 19 → length t ≤ room) →
      Behind p t own rest → Dealt room rest ps → Dealt room t (bad own e (suc p) column ∷ ps)
  endless : {t own rest : Bytes} {p : ℕ} {ps : List Part} → room < length t → NoRecord (take room t) 19 (suc p) 1 → Behind p t own rest → Dealt room rest ps → Dealt room t (long own ∷ ps)

-- ---- What is told of them

abbrev pub bytes_of : Part → Bytes
bytes_of (good own) = own
bytes_of (bad own e k column) = own
bytes_of (long own) = own

unfoldable pub joined : List Part → Bytes
joined [] = []
joined (p ∷ ps) = bytes_of p ++ joined ps

-- complete lines
abbrev pub lines_of : Part → ℕ
lines_of p = length (cut (bytes_of p)).lines

-- the first that is refused, after c records and i lines; or how many records there are
unfoldable pub first_told : ℕ → ℕ → List Part → Told
first_told c i [] = accepted c
first_told c i (good own ∷ ps) = first_told (c + 1) (i + lines_of (good own)) ps
first_told c i (bad own e k column ∷ ps) = refused e (i + k) column
first_told c i (long own ∷ ps) = too_long (c + 1)
