-- The judge of the two parts agrees with the rules and with the table of refusals: good parts and what they stand for; and it refuses with number e at line i
-- and column c exactly if the table does. There is one refusal at most.
use Rattle.std.specs.Prelude.{ℕ, ◌≡◌, refl, ◌↔◌, List, []}
use Rattle.std.proofs.Common.{sym, subst}
use Rattle.text.specs.Text.{Bytes, Line, Lines}
use Rattle.rules.specs.Record.{Item}
use Rattle.rules.specs.Canon.{ItemPart}
use Rattle.judge_file.specs.Verdict.{accepted, refused}
use Rattle.judge_parts.specs.Part.{items, item_turn, items_end, items_verdict}
use Rattle.judge_parts.specs.AnyPart.{PartRefusal, good_part, refusal, refusal_one}
use Rattle.judge_parts.specs.PartBecause.{ItemBecause}
use Rattle.judge_parts.proofs.PartBecause.{item_because}
use Rattle.judge_parts.specs.PartFrom.{FromItemPlace}
use Rattle.judge_parts.proofs.PartFrom.{fitting_items}
use Rattle.judge_parts.specs.PartAgree.{AnItemPart}

-- ---- Items

-- no items before the first
items_start_lem : (ls : List Line) (is : List Item) → FromItemPlace (items []) ls is ↔ ItemPart ls is
items_start_lem ls is = (λ f. subst (ItemPart ls) (sym f.all) f.part, λ p. record { ks = is; part = p; all = refl })

pub good_items : (s : Bytes) (is : List Item) → (items_verdict s ≡ accepted is) ↔ ((ls : List Line) × Lines s ls [] × ItemPart ls is)
unfolding items_verdict
good_items s is = good_part item_turn items_end FromItemPlace fitting_items (items []) ItemPart items_start_lem s is

pub refused_items : (s : Bytes) (e i column : ℕ) → (items_verdict s ≡ refused e i column) ↔ PartRefusal AnItemPart ItemBecause s e i column
unfolding items_verdict
refused_items s e i column = refusal item_turn items_end FromItemPlace fitting_items (items []) ItemPart items_start_lem s ItemBecause item_because e i column

pub one_item_refusal : (s : Bytes) {e i c e' i' c' : ℕ} →
    PartRefusal AnItemPart ItemBecause s e i c → PartRefusal AnItemPart ItemBecause s e' i' c' → (e ≡ e') × (i ≡ i') × (c ≡ c')
one_item_refusal s p q = refusal_one item_turn items_end FromItemPlace fitting_items (items []) ItemPart items_start_lem s ItemBecause item_because p q
