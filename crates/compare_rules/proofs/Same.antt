-- Nothing differs exactly if the readings are the same.
use Rattle.std.specs.Prelude.{ℕ, ◌≡◌, refl, ◌≢◌, ◌↔◌, List, [], ◌∷◌, Bool, true, false, cond, length, ℤ, pos}
use Rattle.std.proofs.Common.{arith, sym, ap₂, ◌∙◌, subst}
use Rattle.text.specs.Text.{Line, Bytes}
use Rattle.text.specs.Find.{same_bytes}
use Rattle.text.specs.Agree.{same_bytes_lem}
use Rattle.rules.specs.Record.{Headers, Item}
use Rattle.rules.specs.Meaning.{Reading}
use Rattle.rules.specs.Canon.{Rows, Good, AllGood}
use Rattle.rules.specs.Fields.{Every}
use Rattle.compare_rules.specs.declared.Place.{Place}
use Rattle.compare_rules.specs.Along.{along}
use Rattle.compare_rules.specs.Differences.{an_atom, a_bond, value_line, item_name, Difference, place, same_figure, figures, texts, only, fieldwise, rowwise, linewise, itemwise}
use Rattle.compare_rules.specs.Differences.{headers_apart, counts_apart, records_apart, recordwise, differences_of}
use Rattle.compare_rules.specs.AlongLaws.{both_empty, along_self, along_many, along_same, all_of}
use Rattle.compare_rules.specs.Same.{same_figure_lem, record_self}

-- ---- Two at one place

one_listed : (t : Bool) (d : Difference) → cond t [] (d ∷ []) ≡ [] → t ≡ true
one_listed true d h = refl
one_listed false d h = absurd (let z : ◌≡◌ {A = ℕ} 0 1 = cc in omega arith)

figures_none : (at : Place) (x y : ℤ) → figures at x y ≡ [] → x ≡ y
unfolding figures
figures_none at x y h = same_figure_lem x y (one_listed (same_figure x y) _ h)

texts_none : (at : Place) (l k : Line) → texts at l k ≡ [] → l ≡ k
unfolding texts
texts_none at l k h = (same_bytes_lem l k).0 (one_listed (same_bytes l k) _ h)

only_some : (side : ℕ) (at : Place) → only side at ≢ []
only_some side at h = let z : ◌≡◌ {A = ℕ} 0 1 = cc in omega arith

number_same : (j k : ℕ) → ◌≡◌ {A = ℤ} (pos j) (pos k) → j ≡ k
number_same j k h = cc

-- ---- Rows

-- so many numbers
abbrev Wide : ℕ → List ℤ → Type 0
Wide width t = length t ≡ width

all_wide : (width : ℕ) (P : List ℤ → Type 0) (ts : List (List ℤ)) → Rows width P ts → Every (Wide width) ts
unfolding Rows Every
all_wide width P [] h = tt
all_wide width P (t ∷ ts) h = (h.0.0, all_wide width P ts h.1)

row_same : (r : ℕ) (part : ℕ) (width i : ℕ) (t u : List ℤ) → Wide width t → Wide width u → along (fieldwise r part i) 1 t u ≡ [] → t ≡ u
row_same r part width i t u p q h =
    along_same (fieldwise r part i) (λ x. Unit {0}) (λ j x y a b e. figures_none (place r part i j) x y e) 1 t u
    (all_of (λ x. Unit {0}) (λ x. tt) t) (all_of (λ x. Unit {0}) (λ x. tt) u) (p ∙ sym q) h

rows_same : (r : ℕ) (part : ℕ) (width : ℕ) (ts us : List (List ℤ)) → Every (Wide width) ts → Every (Wide width) us → length ts ≡ length us →
    along (rowwise r part) 1 ts us ≡ [] → ts ≡ us
rows_same r part width ts us p q k h = along_same (rowwise r part) (Wide width) (row_same r part width) 1 ts us p q k h

-- ---- Items

values_same : (r i : ℕ) (ls ks : List Line) → along (linewise r i) 1 ls ks ≡ [] → ls ≡ ks
values_same r i ls ks h =
    along_same (linewise r i) (λ l. Unit {0}) (λ j l k a b e. texts_none (place r value_line i j) l k e) 1 ls ks
    (all_of (λ l. Unit {0}) (λ l. tt) ls) (all_of (λ l. Unit {0}) (λ l. tt) ks)
    (along_many (linewise r i) (λ j l. only_some _ _) (λ j l. only_some _ _) 1 ls ks h) h

item_of_lem : Bytes → List Line → Item
item_of_lem name values = record { name = name; values = values }

item_same : (r i : ℕ) (a b : Item) → (itemwise r).both i a b ≡ [] → a ≡ b
unfolding item_of_lem
item_same r i a b h =
    let e = both_empty (texts (place r item_name i 0) a.name b.name) (along (linewise r i) 1 a.values b.values) h in
    ap₂ item_of_lem (texts_none _ a.name b.name e.0) (values_same r i a.values b.values e.1)

items_same : (r : ℕ) (xs ys : List Item) → along (itemwise r) 1 xs ys ≡ [] → xs ≡ ys
items_same r xs ys h =
    along_same (itemwise r) (λ a. Unit {0}) (λ i a b p q e. item_same r i a b e) 1 xs ys
    (all_of (λ a. Unit {0}) (λ a. tt) xs) (all_of (λ a. Unit {0}) (λ a. tt) ys)
    (along_many (itemwise r) (λ j l. only_some _ _) (λ j l. only_some _ _) 1 xs ys h) h

-- ---- Records

headers_of_lem : Line → Line → Line → Headers
headers_of_lem a b c = record { first = a; second = b; third = c }

headers_same : (r : ℕ) (g h : Headers) → headers_apart r g h ≡ [] → g ≡ h
unfolding headers_apart headers_of_lem
headers_same r g h e =
    let p = both_empty _ _ e in
    let q = both_empty _ _ p.1 in
    let a = texts_none _ g.first h.first p.0 in
    let b = texts_none _ g.second h.second q.0 in
    let c = texts_none _ g.third h.third q.1 in
    let z : headers_of_lem g.first g.second g.third ≡ headers_of_lem h.first h.second h.third = cc in z

reading_of : Headers → ℕ → ℕ → ℕ → List (List ℤ) → List (List ℤ) → List Item → Reading
reading_of h n m chiral atoms bonds items = record { headers = h; n = n; m = m; chiral = chiral; atoms = atoms; bonds = bonds; items = items }

reading_same : (x y : Reading) → x.headers ≡ y.headers → x.n ≡ y.n → x.m ≡ y.m → x.chiral ≡ y.chiral →
    x.atoms ≡ y.atoms → x.bonds ≡ y.bonds → x.items ≡ y.items → x ≡ y
unfolding reading_of
reading_same x y a b c d e f g =
    let z : reading_of x.headers x.n x.m x.chiral x.atoms x.bonds x.items ≡ reading_of y.headers y.n y.m y.chiral y.atoms y.bonds y.items = cc in
    z

pub record_same : (limit r : ℕ) (x y : Reading) → Good limit x → Good limit y → records_apart r x y ≡ [] → x ≡ y
unfolding records_apart counts_apart
record_same limit r x y p q h =
    let a = both_empty (headers_apart r x.headers y.headers) _ h in
    let b = both_empty (counts_apart r x y) _ a.1 in
    let c = both_empty (along (rowwise r an_atom) 1 x.atoms y.atoms) _ b.1 in
    let d = both_empty (along (rowwise r a_bond) 1 x.bonds y.bonds) _ c.1 in
    let n = both_empty _ _ b.0 in
    let m = both_empty _ _ n.1 in
    let en : x.n ≡ y.n = number_same _ _ (figures_none _ (pos x.n) (pos y.n) n.0) in
    let em : x.m ≡ y.m = number_same _ _ (figures_none _ (pos x.m) (pos y.m) m.0) in
    let ec : x.chiral ≡ y.chiral = number_same _ _ (figures_none _ (pos x.chiral) (pos y.chiral) m.1) in
    reading_same x y
    (headers_same r x.headers y.headers a.0) en em ec
    (rows_same r an_atom 16 x.atoms y.atoms (all_wide 16 _ x.atoms p.writable.atoms) (all_wide 16 _ y.atoms q.writable.atoms)
    (p.writable.n_atoms ∙ (en ∙ sym q.writable.n_atoms)) c.0)
    (rows_same r a_bond 6 x.bonds y.bonds (all_wide 6 _ x.bonds p.writable.bonds) (all_wide 6 _ y.bonds q.writable.bonds)
    (p.writable.m_bonds ∙ (em ∙ sym q.writable.m_bonds)) d.0)
    (items_same r x.items y.items d.1)

-- ---- Files

all_good : (limit : ℕ) (xs : List Reading) → AllGood limit xs → Every (Good limit) xs
unfolding AllGood Every
all_good limit [] h = tt
all_good limit (x ∷ xs) h = (h.0, all_good limit xs h.1)

-- the list is empty exactly if the two files have the same readings
pub none_same : (limit : ℕ) (xs ys : List Reading) → AllGood limit xs → AllGood limit ys → (differences_of xs ys ≡ []) ↔ (xs ≡ ys)
unfolding differences_of
none_same limit xs ys p q = (to, λ e. subst (λ (zs : List Reading). along recordwise 1 xs zs ≡ []) e (along_self recordwise record_self 1 xs))
  where
    to : along recordwise 1 xs ys ≡ [] → xs ≡ ys
    to h =
        along_same recordwise (Good limit) (record_same limit) 1 xs ys (all_good limit xs p) (all_good limit ys q)
        (along_many recordwise (λ r x. only_some _ _) (λ r x. only_some _ _) 1 xs ys h) h
