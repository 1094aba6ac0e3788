-- Why a text does not begin with a record, in the words of the rules.
use Rattle.std.specs.Prelude.{ℕ, suc, ◌≤◌, List, length}
use Rattle.text.specs.Text.{Bytes, Line, Lines}
use Rattle.rules.specs.Record.{Raw, Record, limit}
use Rattle.rules.specs.Viable.{Viable, FirstDead, ARecord}
use Rattle.judge_refusals.specs.Because.{BecauseFirst}

-- Numbers 3 to 18 name the first line after which no further lines make a record; number and column are those of the first demand that it does not meet.
-- Number 19 names the line after the complete ones: these can be finished, and do not begin with a record.
pub data NoRecord (s : Bytes) : ℕ → ℕ → ℕ → Type 0 where
  line : {ls : List Line} {rest : Bytes} {e i column : ℕ} → Lines s ls rest → (3 ≤ e) × (e ≤ 18) → 1 ≤ column →
      FirstDead (ARecord limit) ls i → BecauseFirst limit ls e i column → NoRecord s e i column
  cut_short : {ls : List Line} {rest : Bytes} → Lines s ls rest → Viable (ARecord limit) ls → ¬ ((x : Raw) × (more : List Line) × Record limit ls x more) →
      NoRecord s 19 (suc (length ls)) 1
