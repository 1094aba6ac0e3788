-- What the check of a whole text says, by the judge.
use Rattle.std.specs.Prelude.{ℕ, zero, suc, ◌≡◌, List, length, ℤ}
use Rattle.text.specs.Text.{Bytes}
use Rattle.rules.specs.Record.{limit}
use Rattle.judge_file.specs.Place.{FileKind, molfile, sdfile}
use Rattle.judge_file.specs.Verdict.{Verdict, refused, verdict}
use Rattle.reader_walk.specs.Outcome.{Outcome}
use Rattle.reader_walk.specs.Walked.{Left}
use Rattle.reader_walk.specs.Promise.{said_by}

abbrev pub said_of : FileKind → Bytes → Verdict ℕ
said_of kind s = said_by (verdict kind limit s)

abbrev pub check_of : ℕ → Bytes → Verdict ℕ
check_of zero s = said_of molfile s
check_of (suc zero) s = said_of sdfile s
check_of (suc (suc kind)) s = refused 1 0 0

-- ---- The lengths that the walk leaves

pub left_length : (ta₀ ta tb₀ tb : List ℤ) (t : List ℕ) (o : Outcome) → Left ta₀ ta tb₀ tb t o → length ta ≡ length ta₀
left_length ta₀ ta tb₀ tb t o l = l.atoms.size

pub left_length_2 : (ta₀ ta tb₀ tb : List ℤ) (t : List ℕ) (o : Outcome) → Left ta₀ ta tb₀ tb t o → length tb ≡ length tb₀
left_length_2 ta₀ ta tb₀ tb t o l = l.bonds.size
