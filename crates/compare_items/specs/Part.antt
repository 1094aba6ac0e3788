-- The items of a good part, by its lines; and by positions in its text.
use Rattle.std.specs.Prelude.{ℕ, ◌≡◌, refl, List, [], ◌∷◌, cond, drop}
use Rattle.std.proofs.Common.{ap, ap₂, ◌∙◌}
use Rattle.text.specs.Text.{Bytes, Line, Lines}
use Rattle.text.specs.Find.{is_blank}
use Rattle.text.specs.Cut.{cut, lines_cut}
use Rattle.rules.specs.Record.{Item, Values}
use Rattle.rules.specs.Canon.{ItemPart}
use Rattle.judge_line.specs.Got.{Got, got, bad}
use Rattle.judge_line.specs.Judge.{item_of, ItemOrEnd, title, close}
use Rattle.judge_line.specs.AgreeItem.{value_told, blank_told}
use Rattle.judge_line.proofs.AgreeItem.{title_is_lem}

-- ---- The definition

-- the name in a data header
abbrev pub name_by : Got ItemOrEnd → Bytes
name_by (got (title name)) = name
name_by (got close) = []
name_by (bad e column) = []

abbrev pub name_on : Line → Bytes
name_on l = name_by (item_of l)

-- value lines up to the blank line
unfoldable pub values_of : List Line → List Line
values_of [] = []
values_of (l ∷ ls) = cond (is_blank l) [] (l ∷ values_of ls)

unfoldable mutual
  -- the items, where a data header stands first
  pub in_items : List Line → List Item
  in_items [] = []
  in_items (l ∷ ls) = record { name = name_on l; values = values_of ls } ∷ past_item ls

  -- the items after the blank line
  pub past_item : List Line → List Item
  past_item [] = []
  past_item (l ∷ ls) = cond (is_blank l) (in_items ls) (past_item ls)

-- by positions
unfoldable pub items_at : Bytes → ℕ → List Item
items_at s at = in_items (cut (drop at s)).lines

unfoldable pub values_at : Bytes → ℕ → List Line
values_at s at = values_of (cut (drop at s)).lines

unfoldable pub past_at : Bytes → ℕ → List Item
past_at s at = past_item (cut (drop at s)).lines

-- ---- It says what the rules say

values_are : {t vs u : List Line} → Values t vs u → (values_of t ≡ vs) × (past_item t ≡ in_items u)
unfolding values_of past_item
values_are (Values.end {l = l} h) = (rw (blank_told l h), rw (blank_told l h))
values_are (Values.more {l = l} h p) = let q = values_are p in (rw (value_told l h) (ap (λ (x : List Line). l ∷ x) q.0), rw (value_told l h) q.1)

item_of_lem : Bytes → List Line → Item
item_of_lem name values = record { name = name; values = values }

items_are : {ls : List Line} {is : List Item} → ItemPart ls is → in_items ls ≡ is
unfolding in_items item_of_lem
items_are ItemPart.none = refl
items_are (ItemPart.more {l = l} {name = name} h v p) =
    let q = values_are v in
    ap₂ (λ (x : Item) (xs : List Item). x ∷ xs) (ap₂ item_of_lem (ap name_by (title_is_lem l name h)) q.0) (q.1 ∙ items_are p)

-- the items of a part of a record, as its reader promises them
pub part_items : (s : Bytes) (ls : List Line) (is : List Item) → Lines s ls [] → ItemPart ls is → items_at s 0 ≡ is
unfolding items_at
part_items s ls is h p = rw (lines_cut h) (items_are p)
