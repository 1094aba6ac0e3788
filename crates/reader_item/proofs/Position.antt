-- Laws on positions of lines, and on what a part of a record takes from the front of some lines.
use Rattle.std.specs.Prelude.{ℕ, zero, suc, ◌≤◌, length}
use Rattle.std.proofs.Common.{arith}
use Rattle.text.specs.Text.{Bytes}
use Rattle.judge_file.specs.WalkText.{after_lines}
use Rattle.reader_item.specs.Find.{from_of, to_of}
use Rattle.reader_item.specs.Position.{after_low, end_within}

-- ---- Positions

-- a stretch of value lines lies in the text
pub stretch_within : (s : Bytes) (at k : ℕ) → at ≤ length s → (from_of at k ≤ to_of s at k) × (to_of s at k ≤ length s)
stretch_within s at zero h = (omega arith, omega arith)
stretch_within s at (suc k) h =
    let a = after_low s at k h in
    let b = end_within s (after_lines s at k) a.1 in
    (omega (arith, a.0, b.0), b.1)
