-- Laws of the two parts that a writer is handed beside the tables: each has one reading, is good to write, and stands so in a record.
use Rattle.std.specs.Prelude.{◌≡◌, refl, List, [], ◌∷◌}
use Rattle.std.proofs.Common.{sym, ap₂, subst}
use Rattle.text.specs.Text.{Line}
use Rattle.rules.specs.Record.{Item}
use Rattle.rules.specs.Canon.{ItemPart, GoodItems}
use Rattle.rules.specs.OneForm.{one_header}
use Rattle.rules.proofs.Unique.{values_one}
use Rattle.rules.specs.Rewritten.{good_name}
use Rattle.rules.proofs.Rewritten.{good_values}

-- ---- Each part has one reading

pub item_part_one : {t : List Line} {is js : List Item} → ItemPart t is → ItemPart t js → is ≡ js
item_part_one ItemPart.none ItemPart.none = refl
item_part_one (ItemPart.more h v p) (ItemPart.more {is = js} k w q) =
    let e = values_one v w in
    ap₂ ◌∷◌ (λ i. record { name = one_header h k i; values = e.0 i }) (item_part_one p (subst (λ (z : List Line). ItemPart z js) (sym e.1) q))

-- ---- and is good to write

pub item_part_good : {t : List Line} {is : List Item} → ItemPart t is → GoodItems is
unfolding GoodItems
item_part_good ItemPart.none = tt
item_part_good (ItemPart.more h v p) = (record { name = good_name h; values = good_values v }, item_part_good p)
