-- Where a title's name stands: inside the line.
use Rattle.std.specs.Prelude.{Result, Ok, ℕ, ◌≤◌, ◌≡◌, length}
use Rattle.std.proofs.Math.Path.{subst}
use Rattle.text.specs.Text.{Line}
use Rattle.line_text.specs.Answer.{item_in}
use Rattle.line_text.specs.declared.ItemLine.{ItemLine}
use Rattle.judge_line.specs.declared.Refusal.{Refusal}

module _ (l : Line) (r : Result ItemLine Refusal) (from to : ℕ) (h : item_in l r) (e : r ≡ Ok (ItemLine.Title from to)) where
  title_in_lem : (from ≤ to) × (to ≤ length l)
  unfolding item_in
  title_in_lem = subst (item_in l) e h

  pub title_order : from ≤ to
  title_order = title_in_lem.0

  pub title_end : to ≤ length l
  title_end = title_in_lem.1
