-- A record takes its lines from the front, whatever follows them.
use Rattle.std.specs.Prelude.{ℕ, ◌≡◌, refl, List, [], ◌∷◌, ◌++◌}
use Rattle.std.proofs.Common.{sym, ap, ◌∙◌, subst, append-nil, append_assoc}
use Rattle.text.specs.Text.{Line}
use Rattle.rules.specs.Forms.{Atom, Bond, Property}
use Rattle.rules.specs.Record.{Molecule, Item, Raw, Atoms, Bonds, Properties, Values, Items, Parts1to5, Record}

-- the lines are a part's own lines and then the rest, and the part can stand before any other rest
pub record Front (Part : List Line → List Line → Type 0) (t r : List Line) : Type 0 where
  pub before : List Line
  pub parts : t ≡ before ++ r
  pub any : (s : List Line) → Part (before ++ s) s

-- nothing taken
none_front : (P : List Line → List Line → Type 0) (t : List Line) → ((s : List Line) → P s s) → Front P t t
none_front P t h = record { before = []; parts = refl; any = h }

-- one line more
more_front : (P Q : List Line → List Line → Type 0) (l : Line) (t r : List Line) → ((a s : List Line) → P a s → Q (l ∷ a) s) → Front P t r → Front Q (l ∷ t) r
more_front P Q l t r step f =
    record { before = l ∷ f.before; parts = ap (λ (x : List Line). l ∷ x) f.parts; any = λ s. step (f.before ++ s) s (f.any s) }

-- one part after another
join_front : (P Q R : List Line → List Line → Type 0) (t u r : List Line) →
    ((a b s : List Line) → P a b → Q b s → R a s) → Front P t u → Front Q u r → Front R t r
join_front P Q R t u r join f g =
    record {
      before = f.before ++ g.before;
      parts = f.parts ∙ ap (λ (x : List Line). f.before ++ x) g.parts ∙ sym (append_assoc f.before g.before r);
      any = λ s.
          join ((f.before ++ g.before) ++ s) (g.before ++ s) s
          (subst (λ (x : List Line). P x (g.before ++ s)) (sym (append_assoc f.before g.before s)) (f.any (g.before ++ s)))
          (g.any s);
    }

atoms_front : {n k : ℕ} {t : List Line} {xs : List Atom} {r : List Line} → Atoms n k t xs r → Front (λ a s. Atoms n k a xs s) t r
atoms_front (Atoms.none {t = t}) = none_front _ t (λ s. Atoms.none)
atoms_front (Atoms.more {l = l} {t = t} {r = r} h p) = more_front _ _ l t r (λ a s q. Atoms.more h q) (atoms_front p)

bonds_front : {n k : ℕ} {t : List Line} {bs : List Bond} {r : List Line} → Bonds n k t bs r → Front (λ a s. Bonds n k a bs s) t r
bonds_front (Bonds.none {t = t}) = none_front _ t (λ s. Bonds.none)
bonds_front (Bonds.more {l = l} {t = t} {r = r} h p) = more_front _ _ l t r (λ a s q. Bonds.more h q) (bonds_front p)

properties_front : {n : ℕ} {t : List Line} {ps : List Property} {r : List Line} → Properties n t ps r → Front (λ a s. Properties n a ps s) t r
properties_front (Properties.end {l = l} {t = t} h) = record { before = l ∷ []; parts = refl; any = λ s. Properties.end h }
properties_front (Properties.more {l = l} {t = t} {r = r} h p) = more_front _ _ l t r (λ a s q. Properties.more h q) (properties_front p)

values_front : {t vs r : List Line} → Values t vs r → Front (λ a s. Values a vs s) t r
values_front (Values.end {l = l} h) = record { before = l ∷ []; parts = refl; any = λ s. Values.end h }
values_front (Values.more {l = l} {t = t} {r = r} h p) = more_front _ _ l t r (λ a s q. Values.more h q) (values_front p)

items_front : {t : List Line} {is : List Item} {r : List Line} → Items t is r → Front (λ a s. Items a is s) t r
items_front (Items.end {l = l} h) = record { before = l ∷ []; parts = refl; any = λ s. Items.end h }
items_front (Items.more {l = l} {t = t} {u = u} {r = r} {vs = vs} {is = is} h v p) =
    let tail = join_front (λ a s. Values a vs s) (λ a s. Items a is s) (λ a s. (b : List Line) × Values a vs b × Items b is s) t u r (λ a b s x y. (b, x, y)) (values_front v) (items_front p) in
    more_front _ _ l t r (λ a s q. Items.more h q.1 q.2) tail

pub parts_front : {limit : ℕ} {t : List Line} {m : Molecule} {r : List Line} → Parts1to5 limit t m r → Front (λ a s. Parts1to5 limit a m s) t r
parts_front (Parts1to5.parts {h₁ = h₁} {h₂ = h₂} {h₃ = h₃} {l = l} {c = c} {t = t} {u = u} {v = v} {r = r} {xs = xs} {bs = bs} {ps = ps} f₁ f₂ f₃ k a b pairs p once) =
    let bp = join_front (λ a s. Bonds c.atoms c.bonds a bs s) (λ a s. Properties c.atoms a ps s)
    (λ a s. (b : List Line) × Bonds c.atoms c.bonds a bs b × Properties c.atoms b ps s) u v r (λ a b s x y. (b, x, y)) (bonds_front b) (properties_front p)
    in
    let abp = join_front (λ a s. Atoms c.atoms c.atoms a xs s) (λ a s. (b : List Line) × Bonds c.atoms c.bonds a bs b × Properties c.atoms b ps s)
    (λ a s. (d : List Line) × (b : List Line) × Atoms c.atoms c.atoms a xs d × Bonds c.atoms c.bonds d bs b × Properties c.atoms b ps s)
    t u r (λ a d s x y. (d, y.0, x, y.1, y.2)) (atoms_front a) bp
    in
    record {
      before = h₁ ∷ (h₂ ∷ (h₃ ∷ (l ∷ abp.before)));
      parts = ap (λ (x : List Line). h₁ ∷ (h₂ ∷ (h₃ ∷ (l ∷ x)))) abp.parts;
      any = λ s. let q = abp.any s in Parts1to5.parts f₁ f₂ f₃ k q.2 q.3 pairs q.4 once;
    }

pub record_front : {limit : ℕ} {t : List Line} {x : Raw} {r : List Line} → Record limit t x r → Front (λ a s. Record limit a x s) t r
record_front {limit = limit} (Record.record_of {t = t} {u = u} {r = r} {m = m} {is = is} p i) =
    join_front (λ a s. Parts1to5 limit a m s) (λ a s. Items a is s) (λ a s. Record limit a (record { molecule = m; items = is }) s) t u r
    (λ a b s x y. Record.record_of x y) (parts_front p) (items_front i)

-- a record whose lines are all of them, before others
pub record_before : {limit : ℕ} {t : List Line} {x : Raw} → Record limit t x [] → (s : List Line) → Record limit (t ++ s) x s
record_before {limit = limit} {x = x} h s =
    let f = record_front h in
    subst (λ (a : List Line). Record limit (a ++ s) x s) (sym (f.parts ∙ append-nil f.before)) (f.any s)
