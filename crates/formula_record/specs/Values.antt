-- The value that is looked up is the one of the rules.
use Rattle.std.specs.Prelude.{ℕ, ◌≤◌, ◌≡◌, refl, List, [], ◌∷◌, ◌++◌, Bool, true, false, cond, ◌&&◌, leb}
use Rattle.std.proofs.Common.{sym, ap, ◌∙◌, subst, leb-true, leb-false, le-leb}
use Rattle.text.specs.Text.{Bytes, Line, Each}
use Rattle.text.specs.Find.{same_bytes}
use Rattle.text.specs.Agree.{same_bytes_lem}
use Rattle.text.specs.Laws.{and_true, true_false}
use Rattle.rules.specs.Record.{Item}
use Rattle.reader_item.specs.Promise.{NoneNamed}
use Rattle.reader_item.specs.Beyond.{FirstNamed}
use Rattle.formula_rules.specs.Formula.{elements}
use Rattle.formula_drawn.specs.Drawn.{only_elements}
use Rattle.formula_record.specs.Said.{Value, nowhere, value_in, value_of}
use Rattle.formula_record.specs.Promise.{OnlyElements}

pub data Valued (name : Bytes) (is : List Item) : Value → Type 0 where
  none : NoneNamed name is → Valued name is nowhere
  found : {vs : List Line} → FirstNamed name is vs → Valued name is (value_in vs)

pub valued : (name : Bytes) (is : List Item) → Valued name is (value_of name is)
unfolding value_of NoneNamed
valued name [] = Valued.none tt
valued name (i ∷ is) = go (same_bytes i.name name) refl (value_of name is) (valued name is)
  where
    go : (b : Bool) → same_bytes i.name name ≡ b → (v : Value) → Valued name is v → Valued name (i ∷ is) (cond b (value_in i.values) v)
    go true e v h =
        let n : i.name ≡ name = (same_bytes_lem i.name name).0 e in
        Valued.found (record { before = []; after = is; parts = ap (λ (x : Bytes). record { name = x; values = i.values } ∷ is) n; others = tt })
    go false e v (Valued.none n) = Valued.none ((λ q. true_false (sym ((same_bytes_lem i.name name).1 q) ∙ e)), n)
    go false e v (Valued.found f) =
        Valued.found
        (record { before = i ∷ f.before; after = f.after; parts = ap (λ (x : List Item). i ∷ x) f.parts; others = ((λ q. true_false (sym ((same_bytes_lem i.name name).1 q) ∙ e)), f.others) })

pub value_none : (name : Bytes) (is : List Item) → NoneNamed name is → value_of name is ≡ nowhere
unfolding value_of NoneNamed
value_none name [] h = refl
value_none name (i ∷ is) h = go (same_bytes i.name name) refl (value_none name is h.1)
  where
    go : (b : Bool) → same_bytes i.name name ≡ b → value_of name is ≡ nowhere → cond b (value_in i.values) (value_of name is) ≡ nowhere
    go true e q = absurd (h.0 ((same_bytes_lem i.name name).0 e))
    go false e q = q

first_by_lem : (name : Bytes) (before after : List Item) (vs : List Line) → NoneNamed name before → value_of name (before ++ (record { name = name; values = vs } ∷ after)) ≡ value_in vs
unfolding value_of NoneNamed
first_by_lem name [] after vs h = rw ((same_bytes_lem name name).1 refl)
first_by_lem name (i ∷ before) after vs h = go (same_bytes i.name name) refl (first_by_lem name before after vs h.1)
  where
    go : (b : Bool) → same_bytes i.name name ≡ b → value_of name (before ++ (record { name = name; values = vs } ∷ after)) ≡ value_in vs →
        cond b (value_in i.values) (value_of name (before ++ (record { name = name; values = vs } ∷ after))) ≡ value_in vs
    go true e q = absurd (h.0 ((same_bytes_lem i.name name).0 e))
    go false e q = q

pub value_first : (name : Bytes) (is : List Item) (vs : List Line) → FirstNamed name is vs → value_of name is ≡ value_in vs
value_first name is vs f = ap (value_of name) f.parts ∙ first_by_lem name f.before f.after vs f.others

-- ---- Elements only

pub only_elements_lem : (ks : List ℕ) → only_elements ks ≡ true → OnlyElements ks
unfolding only_elements Each
only_elements_lem [] h = tt
only_elements_lem (k ∷ ks) h = let p = and_true (leb k elements) (only_elements ks) h in (leb-true k elements p.0, only_elements_lem ks p.1)

pub elements_only : (ks : List ℕ) → OnlyElements ks → only_elements ks ≡ true
unfolding only_elements Each
elements_only [] h = refl
elements_only (k ∷ ks) h = rw (le-leb k elements h.0, elements_only ks h.1)
