-- Laws of the two parts that a writer is handed beside the tables: each has one reading, is good to write, and stands so in a record.
use Rattle.std.specs.Prelude.{◌≡◌, refl, List, [], ◌∷◌, ◌++◌}
use Rattle.std.proofs.Common.{sym, ap, ◌∙◌, append_assoc}
use Rattle.text.specs.Text.{Line}
use Rattle.rules.specs.Forms.{RecordEnd}
use Rattle.rules.specs.Record.{Headers, Item, Values, Items}
use Rattle.rules.specs.Canon.{HeaderPart, ItemPart, GoodHeaders}
use Rattle.rules.specs.After.{values_after}

-- ---- Each part has one reading

pub header_part_one : {t : List Line} {h k : Headers} → HeaderPart t h → HeaderPart t k → h ≡ k
header_part_one (HeaderPart.three a b c) (HeaderPart.three d e f) = refl

-- ---- and is good to write

pub header_part_good : {t : List Line} {h : Headers} → HeaderPart t h → GoodHeaders h
header_part_good (HeaderPart.three a b c) = record { first = a; second = b; third = c }

-- ---- The items of a record are such a part, and then the line that ends the record

pub record Closed (t : List Line) (is : List Item) (r : List Line) : Type 0 where
  pub part : List Line
  pub l : Line
  pub lines : t ≡ part ++ (l ∷ r)
  pub items : ItemPart part is
  pub close : RecordEnd l

pub closed_items : {part r : List Line} {is : List Item} {l : Line} → ItemPart part is → RecordEnd l → Items (part ++ (l ∷ r)) is r
closed_items ItemPart.none e = Items.end e
closed_items {r = r} {l = l} (ItemPart.more h v p) e = Items.more h (values_after v (l ∷ r)) (closed_items p e)

record Fronted (t vs u : List Line) : Type 0 where
  front : List Line
  lines : t ≡ front ++ u
  values : Values front vs []

fronted : {t vs u : List Line} → Values t vs u → Fronted t vs u
fronted (Values.end {l = l} h) = record { front = l ∷ []; lines = refl; values = Values.end h }
fronted (Values.more {l = l} h p) =
    let f = fronted p in
    record { front = l ∷ f.front; lines = ap (λ (x : List Line). l ∷ x) f.lines; values = Values.more h f.values }

pub items_closed : {t r : List Line} {is : List Item} → Items t is r → Closed t is r
items_closed (Items.end {l = l} h) = record { part = []; l = l; lines = refl; items = ItemPart.none; close = h }
items_closed {r = r} (Items.more {l = l} h v p) =
    let f = fronted v in
    let c = items_closed p in
    record {
      part = l ∷ (f.front ++ c.part);
      l = c.l;
      lines = ap (λ (x : List Line). l ∷ x) (f.lines ∙ ap (λ (x : List Line). f.front ++ x) c.lines ∙ sym (append_assoc f.front c.part (c.l ∷ r)));
      items = ItemPart.more h (values_after f.values c.part) c.items;
      close = c.close;
    }
