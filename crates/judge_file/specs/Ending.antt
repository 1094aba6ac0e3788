-- What the judge says at the end of the complete lines: good exactly where a file may end and nothing unfinished follows. And what its verdict rests on.
use Rattle.std.specs.Prelude.{ℕ, suc, ◌≡◌, List, [], ◌∷◌, Bool, length, eqb}
use Rattle.text.specs.Text.{Bytes, Line, Lines}
use Rattle.text.specs.Cut.{lines_cut}
use Rattle.rules.specs.Record.{Molecule, Raw}
use Rattle.judge_file.specs.Place.{FileKind, molfile, sdfile}
use Rattle.judge_file.specs.Place.{Place, first, second, third, counts, atoms, bonds, properties, over, items, values}
use Rattle.judge_file.specs.Verdict.{at, stopped, run, Verdict, accepted, refused, conclude, verdict}
use Rattle.judge_file.specs.From.{alone}
use Rattle.judge_file.specs.Runs.{End}

-- at the place, with this rest, the file is whole
abbrev pub Whole : FileKind → Place → Bytes → Type 0
Whole kind p rest = (zs : List Raw) × End kind p zs × (rest ≡ [])

pub data Ending : FileKind → Place → List Raw → Bytes → ℕ → Verdict (List Raw) → Type 0 where
  good_sd : {xs : List Raw} {i : ℕ} → Ending sdfile first xs [] i (accepted xs)
  good_mol : {m : Molecule} {xs : List Raw} {i : ℕ} → Ending molfile (over m) xs [] i (accepted (alone m ∷ []))
  short : {kind : FileKind} {p : Place} {xs : List Raw} {rest : Bytes} {i : ℕ} → ¬ Whole kind p rest → Ending kind p xs rest i (refused 19 i 1)

-- each kind of place by a number
abbrev pub place_number : Place → ℕ
place_number first = 0
place_number (second h₁) = 1
place_number (third h₁ h₂) = 2
place_number (counts hs) = 3
place_number (atoms hs c k xs) = 4
place_number (bonds hs c xs k bs) = 5
place_number (properties hs c xs bs ps) = 6
place_number (over m) = 7
place_number (items m is) = 8
place_number (values m is name vs) = 9

-- a record may begin at the place
abbrev pub is_first : Place → Bool
is_first p = eqb (place_number p) 0

-- ---- The verdict on a text

-- what was found of the text's lines where the verdict is v
pub data Judged (limit : ℕ) (s : Bytes) : FileKind → Verdict (List Raw) → Type 0 where
  good_sd : {ls : List Line} {xs : List Raw} → Lines s ls [] → run sdfile limit first [] 1 ls ≡ at first xs → Judged limit s sdfile (accepted xs)
  good_mol : {ls : List Line} {m : Molecule} {xs : List Raw} →
      Lines s ls [] → run molfile limit first [] 1 ls ≡ at (over m) xs → Judged limit s molfile (accepted (alone m ∷ []))
  short : {kind : FileKind} {ls : List Line} {rest : Bytes} {p : Place} {xs : List Raw} →
      Lines s ls rest → run kind limit first [] 1 ls ≡ at p xs → ¬ Whole kind p rest → Judged limit s kind (refused 19 (suc (length ls)) 1)
  stop : {kind : FileKind} {ls : List Line} {rest : Bytes} {e i c : ℕ} →
      Lines s ls rest → run kind limit first [] 1 ls ≡ stopped e i c → Judged limit s kind (refused e i c)

-- the verdict goes by the lines
pub verdict_lines : (kind : FileKind) (limit : ℕ) {s : Bytes} {ls : List Line} {rest : Bytes} → Lines s ls rest →
    verdict kind limit s ≡ conclude kind (run kind limit first [] 1 ls) rest (suc (length ls))
unfolding verdict
verdict_lines kind limit h = rw (lines_cut h)
