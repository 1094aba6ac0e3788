-- Where the item stands in the record's list of items; and what follows a record does not matter to a fetch from it.
use Rattle.std.specs.Prelude.{◌≡◌, List, [], ◌∷◌, ◌++◌}
use Rattle.std.proofs.Common.{ap, ◌∙◌, subst}
use Rattle.text.specs.Text.{Bytes, Line}
use Rattle.rules.specs.Record.{Item, Items}
use Rattle.rules.specs.OneForm.{one_header, header_or_end_lem}
use Rattle.rules.proofs.Unique.{values_one}
use Rattle.reader_item.specs.Promise.{FirstItem, NoneNamed}

-- ---- In the list of items

pub record FirstNamed (name : Bytes) (is : List Item) (vs : List Line) : Type 0 where
  pub before : List Item
  pub after : List Item
  pub parts : is ≡ before ++ (record { name = name; values = vs } ∷ after)
  pub others : NoneNamed name before

-- the first item by its lines is the first in the list
pub first_named : {name : Bytes} {u v vs more : List Line} {is : List Item} → Items u is more → FirstItem name u v vs → FirstNamed name is vs
unfolding NoneNamed
first_named (Items.end h) (FirstItem.here k q) = header_or_end_lem k h
first_named (Items.end h) (FirstItem.later k n q f) = header_or_end_lem k h
first_named (Items.more {is = is} h v p) (FirstItem.here k q) =
    record {
      before = [];
      after = is;
      parts = λ i. record { name = one_header h k i; values = (values_one v q).0 i } ∷ is;
      others = tt;
    }
first_named {name = name} (Items.more {name = found} {vs = ws} h v p) (FirstItem.later {v = w} {vs = vs} k n q f) =
    let r = first_named p (subst (λ (t : List Line). FirstItem name t w vs) (values_one q v).1 f) in
    record {
      before = record { name = found; values = ws } ∷ r.before;
      after = r.after;
      parts = ap (λ (is : List Item). record { name = found; values = ws } ∷ is) r.parts;
      others = ((λ e. n (one_header k h ∙ e)), r.others);
    }
