-- The judge's verdict on a text, in the words of the rules: good texts and their records, and the line that a refusal names.
use Rattle.std.specs.Prelude.{ℕ, suc, ◌≤◌, ◌≡◌, List, [], length}
use Rattle.std.proofs.Common.{sym, subst, append-nil}
use Rattle.text.specs.Text.{Bytes, Line, Lines}
use Rattle.text.specs.Cut.{lines_same}
use Rattle.rules.specs.Viable.{Viable, FirstDead, first_dead}
use Rattle.judge_file.specs.Place.{FileKind}
use Rattle.judge_file.specs.Refuse.{AFile}

-- the text's lines are a file of the kind, and nothing unfinished follows them
abbrev pub Good : FileKind → ℕ → Bytes → Type 0
Good kind limit s = (ls : List Line) × Lines s ls [] × AFile kind limit ls

-- ---- Refused texts

-- Number 19 names the line after the complete ones: these can be finished, and the text is not good. Every other number names the first line after
-- which no further lines make a file.
pub data Refusal (kind : FileKind) (limit : ℕ) (s : Bytes) : ℕ → ℕ → ℕ → Type 0 where
  line : {ls : List Line} {rest : Bytes} {e i column : ℕ} → Lines s ls rest → (3 ≤ e) × (e ≤ 18) → 1 ≤ column →
      FirstDead (AFile kind limit) ls i → Refusal kind limit s e i column
  cut_short : {ls : List Line} {rest : Bytes} → Lines s ls rest → Viable (AFile kind limit) ls → ¬ Good kind limit s →
      Refusal kind limit s 19 (suc (length ls)) 1

module _ (kind : FileKind) (limit : ℕ) (s : Bytes) where
  pub not_good : {ls : List Line} {rest : Bytes} → Lines s ls rest → ¬ ((rest ≡ []) × AFile kind limit ls) → ¬ Good kind limit s
  not_good h bad g =
      let same = lines_same g.1 h in
      bad (sym same.1, subst (AFile kind limit) same.0 g.2)

module _ (kind : FileKind) (limit : ℕ) (s : Bytes) where
  -- a refused text is not good
  pub refusal_bad : {e i column : ℕ} → Refusal kind limit s e i column → ¬ Good kind limit s
  refusal_bad (Refusal.line {ls = ls} {i = i} h m c f) =
      not_good kind limit s h (λ g. first_dead (AFile kind limit) ls i f [] (subst (AFile kind limit) (sym (append-nil ls)) g.1))
  refusal_bad (Refusal.cut_short h v bad) = bad
