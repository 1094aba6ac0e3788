-- A text stands for one list of records at most.
use Rattle.std.specs.Prelude.{ℕ, ◌≡◌, refl, List, [], ◌∷◌}
use Rattle.std.proofs.Common.{sym, ap, ap₂, subst}
use Rattle.text.specs.Text.{Bytes, Line}
use Rattle.text.specs.Cut.{lines_same}
use Rattle.rules.specs.Record.{Item, Raw, Values, Items, Record, SDfile, GoodSDfile, limit}
use Rattle.rules.specs.OneForm.{one_header, header_or_end_lem}
use Rattle.rules.proofs.OneForm.{value_or_blank_lem}
use Rattle.rules.specs.PartLaws.{no_record}
use Rattle.rules.specs.Unique.{parts_one}

pub values_one : {t xs ys r q : List Line} → Values t xs r → Values t ys q → (xs ≡ ys) × (r ≡ q)
values_one (Values.end h) (Values.end k) = (refl, refl)
values_one (Values.end h) (Values.more k q) = value_or_blank_lem k h
values_one (Values.more h p) (Values.end k) = value_or_blank_lem h k
values_one (Values.more {l = l} h p) (Values.more k q) = let e = values_one p q in (ap (λ (x : List Line). l ∷ x) e.0, e.1)

items_one : {t r q : List Line} {xs ys : List Item} → Items t xs r → Items t ys q → (xs ≡ ys) × (r ≡ q)
items_one (Items.end h) (Items.end k) = (refl, refl)
items_one (Items.end h) (Items.more k v q) = header_or_end_lem k h
items_one (Items.more h v p) (Items.end k) = header_or_end_lem h k
items_one (Items.more h v p) (Items.more {r = r} {is = is} k w q) =
    let f = values_one v w in
    let e = items_one p (subst (λ (x : List Line). Items x is r) (sym f.1) q) in
    (ap₂ ◌∷◌ (λ i. record { name = one_header h k i; values = f.0 i }) e.0, e.1)

pub record_one : {limit : ℕ} {t r q : List Line} {x y : Raw} → Record limit t x r → Record limit t y q → (x ≡ y) × (r ≡ q)
record_one (Record.record_of p is₁) (Record.record_of {r = r} {is = is} q is₂) =
    let e = parts_one p q in
    let f = items_one is₁ (subst (λ (z : List Line). Items z is r) (sym e.1) is₂) in
    (λ i. record { molecule = e.0 i; items = f.0 i }, f.1)

pub sdfile_one : {limit : ℕ} {t : List Line} {xs ys : List Raw} → SDfile limit t xs → SDfile limit t ys → xs ≡ ys
sdfile_one SDfile.none SDfile.none = refl
sdfile_one SDfile.none (SDfile.more q qs) = no_record q
sdfile_one (SDfile.more p ps) SDfile.none = no_record p
sdfile_one {limit} (SDfile.more p ps) (SDfile.more {xs = ys} q qs) =
    let e = record_one p q in
    ap₂ ◌∷◌ e.0 (sdfile_one ps (subst (λ (z : List Line). SDfile limit z ys) (sym e.1) qs))

pub one_sdfile : (text : Bytes) (xs ys : List Raw) → GoodSDfile text xs → GoodSDfile text ys → xs ≡ ys
one_sdfile text xs ys p q = sdfile_one p.2 (subst (λ (z : List Line). SDfile limit z ys) (sym (lines_same p.1 q.1).0) q.2)
