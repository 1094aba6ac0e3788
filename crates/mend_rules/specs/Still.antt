-- The walk that mends, line by line: what stands between two lines, and how each line carries it on or ends it.
use Rattle.std.specs.Prelude.{ℕ, suc, length}
use Rattle.std.proofs.Math.Path.{◌≡◌, refl}
use Rattle.std.proofs.Common.{◌∙◌}
use mathlib.Core.List.{List, [], ◌++◌, map, append-nil}
use Rattle.text.specs.Text.{Bytes}
use Rattle.text.specs.Cut.{ended, split}
use Rattle.rules.specs.Record.{Raw}
use Rattle.judge_file.specs.Place.{Place, first}
use Rattle.mend_rules.specs.Mend.{actions_of, applied, walk_from}
use Rattle.mend_rules.specs.Named.{Fix, fixes_from}
use Rattle.mend_rules.specs.Text.{pieces, unfinished, actions, mended_pieces, fixes}

-- ---- Between two lines: `out` has come out and `noted` is listed, line i is next and `rest` is left

pub record Still (limit : ℕ) (s : Bytes) (p : Place) (xs : List Raw) (out : List Bytes) (noted : List Fix) (i : ℕ) (rest : List Bytes) : Type 0 where
  pub walk : walk_from limit first [] 1 (map ended (pieces s)) ≡ walk_from limit p xs (suc (length out)) (map ended rest)
  pub acted : mended_pieces limit s ≡ out ++ applied (actions_of limit p xs (map ended rest)) rest
  pub listed : fixes limit s ≡ noted ++ fixes_from (unfinished (split s).rest) i (actions_of limit p xs (map ended rest))

pub still_start : (limit : ℕ) (s : Bytes) → Still limit s first [] [] [] 1 (pieces s)
unfolding mended_pieces fixes actions
still_start limit s = record { walk = refl; acted = refl; listed = refl }

-- ---- and so does the end of the file

module _ (limit : ℕ) (s : Bytes) (p : Place) (xs : List Raw) (out : List Bytes) (noted : List Fix) (i : ℕ) (g : Still limit s p xs out noted i []) where
  pub over_pieces : mended_pieces limit s ≡ out
  unfolding actions_of applied
  over_pieces = g.acted ∙ append-nil out

  pub over_fixes : fixes limit s ≡ noted
  unfolding actions_of fixes_from
  over_fixes = g.listed ∙ append-nil noted
