-- The bonds of a record that have come to the check for repeated pairs, by the judge's turns: a row is asked for each.
use Rattle.std.specs.Prelude.{Option, Some, None, ℕ, zero, suc, ◌+◌, ◌-◌, ◌*◌, ◌≡◌, refl, List, [], ◌∷◌, ◌++◌, Bool, true, false, not, leb, length, take, drop}
use Rattle.std.proofs.Common.{arith, sym, ap, ◌∙◌, subst, length-append, drop_at}
use Rattle.std.proofs.Math.Seq.{take-append_seam}
use Rattle.text.specs.Text.{Bytes, Line}
use Rattle.text.specs.Find.{bad_column}
use Rattle.text.specs.Cut.{cut}
use Rattle.rules.specs.Forms.{Bond, BondLine}
use Rattle.rules.specs.Record.{Molecule, Raw, limit}
use Rattle.judge_line.specs.Got.{Got, got, bad, then, need}
use Rattle.judge_line.specs.GotLaws.{bad_got}
use Rattle.judge_line.specs.Field.{within, none_found}
use Rattle.judge_line.specs.Judge.{bond_of}
use Rattle.judge_line.specs.Agree.{within_got, within_is}
use Rattle.judge_line.proofs.Agree.{bond_agrees}
use Rattle.judge_pairs.specs.Compared.{Asked, its_own, not_its_own}
use Rattle.judge_file.specs.Place.{FileKind, molfile, sdfile, turn_of}
use Rattle.judge_file.specs.Place.{Place, first, second, third, counts, atoms, bonds, properties, over, items, values, Turn, next, done}
use Rattle.judge_file.proofs.Takes.{turn_takes}
use Rattle.judge_file.specs.Verdict.{at, run}
use Rattle.judge_file.specs.Runs.{at_place}
use Rattle.judge_refusals.specs.Because.{Leads, leads_run}
use Rattle.reader_walk.specs.Outcome.{Outcome, whole, refused, end_at, record_from, from_next, from_done, from_bad}
use Rattle.reader_walk.specs.Stands.{bonds_in}

-- ---- The definition

abbrev pub with_own : List Bond → Got Bond → List Bond
with_own bs (got b) = bs ++ (b ∷ [])
with_own bs (bad e column) = bs

-- where a line is refused: the bonds read, and its own if it is a bond line that is good but for its pair
abbrev pub asked_at : Place → Line → List Bond
asked_at first l = []
asked_at (second h₁) l = []
asked_at (third h₁ h₂) l = []
asked_at (counts hs) l = []
asked_at (atoms hs c k xs) l = []
asked_at (bonds hs c xs k bs) l = with_own bs (within 80 l (bond_of c.atoms l))
asked_at (properties hs c xs bs ps) l = bs
asked_at (over m) l = m.bonds
asked_at (items m is) l = m.bonds
asked_at (values m is name vs) l = m.bonds

-- from a place, with these lines left: up to the record's end, the line refused or the last line
unfoldable pub asked_from : FileKind → Place → List Line → List Bond
asked_from kind p [] = bonds_in p
asked_from kind p (l ∷ ls) = elim (turn_of kind limit p l) [
  | got t ↦ elim t [ next q ↦ asked_from kind q ls | done x ↦ x.molecule.bonds ]
  | bad e column ↦ asked_at p l
]

unfoldable pub asked_of : FileKind → Bytes → List Bond
asked_of kind s = asked_from kind first (cut s).lines

-- the record at the front of the text: as many rows as bonds that came to the check
unfoldable pub rows_asked : FileKind → Bytes → ℕ
rows_asked kind s = length (asked_of kind s)

-- ---- Line by line

module _ (kind : FileKind) where
  pub asked_next : (p q : Place) (l : Line) (ls : List Line) → turn_of kind limit p l ≡ got (next q) → asked_from kind p (l ∷ ls) ≡ asked_from kind q ls
  unfolding asked_from
  asked_next p q l ls e = rw (e, asked_from)

  pub asked_done : (p : Place) (x : Raw) (l : Line) (ls : List Line) → turn_of kind limit p l ≡ got (done x) → asked_from kind p (l ∷ ls) ≡ x.molecule.bonds
  unfolding asked_from
  asked_done p x l ls e = rw (e, asked_from)

  pub asked_bad : (p : Place) (l : Line) (ls : List Line) (e column : ℕ) → turn_of kind limit p l ≡ bad e column → asked_from kind p (l ∷ ls) ≡ asked_at p l
  unfolding asked_from
  asked_bad p l ls e column h = rw (h, asked_from)

pub asked_start : (kind : FileKind) (s : Bytes) → asked_of kind s ≡ asked_from kind first (cut s).lines
unfolding asked_of
asked_start kind s = refl

pub asked_is : (kind : FileKind) (s : Bytes) (bs : List Bond) → asked_of kind s ≡ bs → rows_asked kind s ≡ length bs
unfolding rows_asked
asked_is kind s bs e = ap length e

-- a line refused by its form brings no bond: both go by the judge of the bond line
pub none_own : {A : Type 0} (longest : ℕ) (l : Line) (bs : List Bond) (g : Got Bond) (f : Bond → A) (e column : ℕ) →
    within longest l (then g λ b. got (f b)) ≡ bad e column → with_own bs (within longest l g) ≡ bs
unfolding within need then
none_own {A} longest l bs g f e column h = go (leb (length l) longest) (bad_column l) g h
  where
    go : (t : Bool) (n : Option ℕ) (g : Got Bond) → need t 3 (suc longest) (none_found 4 n (then g λ b. got (f b))) ≡ bad e column →
        with_own bs (need t 3 (suc longest) (none_found 4 n g)) ≡ bs
    go true (Some i) g h = refl
    go true None (got b) h = bad_got (sym h)
    go true None (bad x y) h = refl
    go false n g h = refl

-- ---- The same in the words of the rules

-- where a bond line must stand, its form decides; at every other place the bonds read are all
abbrev pub AskedAt : Place → Line → List Bond → Type 0
AskedAt first l cs = cs ≡ []
AskedAt (second h₁) l cs = cs ≡ []
AskedAt (third h₁ h₂) l cs = cs ≡ []
AskedAt (counts hs) l cs = cs ≡ []
AskedAt (atoms hs c k xs) l cs = cs ≡ []
AskedAt (bonds hs c xs k bs) l cs = Asked c.atoms bs l cs
AskedAt (properties hs c xs bs ps) l cs = cs ≡ bs
AskedAt (over m) l cs = cs ≡ m.bonds
AskedAt (items m is) l cs = cs ≡ m.bonds
AskedAt (values m is name vs) l cs = cs ≡ m.bonds

-- the lines from the place on; where none is left the bonds read are all
abbrev pub AskedOn : Place → List Line → List Bond → Type 0
AskedOn p [] cs = cs ≡ bonds_in p
AskedOn p (l ∷ ls) cs = AskedAt p l cs

-- line i of these is refused, or is the line after the last; no record is finished before it; these bonds have come to the check
pub record Came (kind : FileKind) (ls : List Line) (i : ℕ) (cs : List Bond) : Type 0 where
  pub before : List Line
  pub after : List Line
  pub place : Place
  pub whole : ls ≡ before ++ after
  pub line : i ≡ suc (length before)
  pub stands : Leads kind limit first [] before place []
  pub asked : AskedOn place after cs

asked_at_lem : (p : Place) (l : Line) → AskedAt p l (asked_at p l)
asked_at_lem first l = refl
asked_at_lem (second h₁) l = refl
asked_at_lem (third h₁ h₂) l = refl
asked_at_lem (counts hs) l = refl
asked_at_lem (atoms hs c k xs) l = refl
asked_at_lem (bonds hs c xs k bs) l = go (within 80 l (bond_of c.atoms l)) refl
  where
    go : (g : Got Bond) → within 80 l (bond_of c.atoms l) ≡ g → Asked c.atoms bs l (with_own bs g)
    go (got b) e = let w = within_got 80 l (bond_of c.atoms l) b e in its_own ((bond_agrees c.atoms l b w.0).0 w.1)
    go (bad x y) e =
        not_its_own (λ h. bad_got (sym e ∙ within_is 80 l (bond_of c.atoms l) h.1.line ∙ (bond_agrees c.atoms l h.0 h.1.line).1 h.1))
asked_at_lem (properties hs c xs bs ps) l = refl
asked_at_lem (over m) l = refl
asked_at_lem (items m is) l = refl
asked_at_lem (values m is name vs) l = refl

at_one : (p : Place) (l : Line) (cs : List Bond) → AskedAt p l cs → cs ≡ asked_at p l
at_one first l cs h = h
at_one (second h₁) l cs h = h
at_one (third h₁ h₂) l cs h = h
at_one (counts hs) l cs h = h
at_one (atoms hs c k xs) l cs h = h
at_one (bonds hs c xs k bs) l cs h = go h
  where
    none : (g : Got Bond) → within 80 l (bond_of c.atoms l) ≡ g → ¬ ((b : Bond) × BondLine c.atoms l b) → bs ≡ with_own bs g
    none (got b) e n = let w = within_got 80 l (bond_of c.atoms l) b e in absurd (n (b, (bond_agrees c.atoms l b w.0).0 w.1))
    none (bad x y) e n = refl

    go : {ds : List Bond} → Asked c.atoms bs l ds → ds ≡ with_own bs (within 80 l (bond_of c.atoms l))
    go (its_own {b = b} h) = ap (with_own bs) (sym (within_is 80 l (bond_of c.atoms l) h.line ∙ (bond_agrees c.atoms l b h.line).1 h))
    go (not_its_own n) = none (within 80 l (bond_of c.atoms l)) refl n
at_one (properties hs c xs bs ps) l cs h = h
at_one (over m) l cs h = h
at_one (items m is) l cs h = h
at_one (values m is name vs) l cs h = h

-- there is one such list of bonds
pub came_one : (kind : FileKind) (ls : List Line) (i : ℕ) (cs ds : List Bond) → Came kind ls i cs → Came kind ls i ds → cs ≡ ds
came_one kind ls i cs ds g h =
    let n : length h.before ≡ length g.before = omega (arith, g.line, h.line) in
    let eb : g.before ≡ h.before =
    sym (take-append_seam g.before g.after) ∙ ap (take (length g.before)) (sym g.whole ∙ h.whole)
    ∙ ap (λ (k : ℕ). take k (h.before ++ h.after)) (sym n) ∙ take-append_seam h.before h.after in
    let ea : g.after ≡ h.after =
    sym (drop_at g.before g.after (length g.before) refl) ∙ ap (drop (length g.before)) (sym g.whole ∙ h.whole)
    ∙ drop_at h.before h.after (length g.before) n in
    let run_g = leads_run kind limit 1 g.stands in
    let run_h = leads_run kind limit 1 h.stands in
    let ep : g.place ≡ h.place = at_place (sym run_g ∙ ap (run kind limit first [] 1) eb ∙ run_h) in
    same g.place h.place g.after h.after ep ea g.asked h.asked
  where
    on : (p : Place) (after : List Line) → AskedOn p after cs → AskedOn p after ds → cs ≡ ds
    on p [] a b = a ∙ sym b
    on p (l ∷ t) a b = at_one p l cs a ∙ sym (at_one p l ds b)

    same : (p q : Place) (t u : List Line) → p ≡ q → t ≡ u → AskedOn p t cs → AskedOn q u ds → cs ≡ ds
    same p q t u ep eu a b = on q u (subst (λ (x : Place). AskedOn x u cs) ep (subst (λ (y : List Line). AskedOn p y cs) eu a)) b

-- ---- How many where a record is refused

-- the next line is a bond line that is good but for its pair, and b is its bond
abbrev pub Own : Place → List Line → Bond → Type 0
Own p [] b = ⊥
Own first (l ∷ ls) b = ⊥
Own (second h₁) (l ∷ ls) b = ⊥
Own (third h₁ h₂) (l ∷ ls) b = ⊥
Own (counts hs) (l ∷ ls) b = ⊥
Own (atoms hs c k xs) (l ∷ ls) b = ⊥
Own (bonds hs c xs k bs) (l ∷ ls) b = BondLine c.atoms l b
Own (properties hs c xs bs ps) (l ∷ ls) b = ⊥
Own (over m) (l ∷ ls) b = ⊥
Own (items m is) (l ∷ ls) b = ⊥
Own (values m is name vs) (l ∷ ls) b = ⊥

on_other : (p : Place) (t : List Line) (cs : List Bond) → AskedOn p t cs → ((b : Bond) → ¬ Own p t b) → cs ≡ bonds_in p
on_other p [] cs h n = h
on_other first (l ∷ t) cs h n = h
on_other (second h₁) (l ∷ t) cs h n = h
on_other (third h₁ h₂) (l ∷ t) cs h n = h
on_other (counts hs) (l ∷ t) cs h n = h
on_other (atoms hs c k xs) (l ∷ t) cs h n = h
on_other (bonds hs c xs k bs) (l ∷ t) cs h n = go h
  where
    go : {ds : List Bond} → Asked c.atoms bs l ds → ds ≡ bs
    go (its_own {b = b} g) = absurd (n b g)
    go (not_its_own g) = refl
on_other (properties hs c xs bs ps) (l ∷ t) cs h n = h
on_other (over m) (l ∷ t) cs h n = h
on_other (items m is) (l ∷ t) cs h n = h
on_other (values m is name vs) (l ∷ t) cs h n = h

on_own : (p : Place) (t : List Line) (cs : List Bond) (b : Bond) → AskedOn p t cs → Own p t b → cs ≡ bonds_in p ++ (b ∷ [])
on_own p [] cs b h o = absurd o
on_own first (l ∷ t) cs b h o = absurd o
on_own (second h₁) (l ∷ t) cs b h o = absurd o
on_own (third h₁ h₂) (l ∷ t) cs b h o = absurd o
on_own (counts hs) (l ∷ t) cs b h o = absurd o
on_own (atoms hs c k xs) (l ∷ t) cs b h o = absurd o
on_own (bonds hs c xs k bs) (l ∷ t) cs b h o =
    at_one (bonds hs c xs k bs) l cs h ∙ sym (at_one (bonds hs c xs k bs) l (bs ++ (b ∷ [])) (its_own o))
on_own (properties hs c xs bs ps) (l ∷ t) cs b h o = absurd o
on_own (over m) (l ∷ t) cs b h o = absurd o
on_own (items m is) (l ∷ t) cs b h o = absurd o
on_own (values m is name vs) (l ∷ t) cs b h o = absurd o

module _ (kind : FileKind) (ls : List Line) (i : ℕ) (cs : List Bond) (g : Came kind ls i cs) where
  -- refused for another reason than its pair, or cut short: the bonds read
  pub came_other : ((b : Bond) → ¬ Own g.place g.after b) → length cs ≡ length (bonds_in g.place)
  came_other n = ap length (on_other g.place g.after cs g.asked n)

  -- a bond line that is good but for its pair: one more
  pub came_own : (b : Bond) → Own g.place g.after b → length cs ≡ suc (length (bonds_in g.place))
  came_own b o =
      ap length (on_own g.place g.after cs b g.asked o) ∙ length-append (bonds_in g.place) (b ∷ []) ∙ omega arith

-- ---- The judge's outcome and its bonds

pub apart : {X : Type 0} {x : Raw} {k e i c : ℕ} → whole x k ≡ refused e i c → X
apart h = absurd (let z : ◌≡◌ {A = ℕ} 0 1 = cc in omega arith)

refused_line : {e i c e' i' c' : ℕ} → refused e i c ≡ refused e' i' c' → i ≡ i'
refused_line h = cc

pub whole_record : {x y : Raw} {j k : ℕ} → whole x j ≡ whole y k → x ≡ y
whole_record h = cc

end_line : (kind : FileKind) (p : Place) (rest : Bytes) (i e j c : ℕ) → end_at kind p rest i ≡ refused e j c → j ≡ i
end_line sdfile p rest i e j c h = sym (refused_line h)
end_line molfile p (b ∷ rest) i e j c h = sym (refused_line h)
end_line molfile first [] i e j c h = sym (refused_line h)
end_line molfile (second h₁) [] i e j c h = sym (refused_line h)
end_line molfile (third h₁ h₂) [] i e j c h = sym (refused_line h)
end_line molfile (counts hs) [] i e j c h = sym (refused_line h)
end_line molfile (atoms hs d k xs) [] i e j c h = sym (refused_line h)
end_line molfile (bonds hs d xs k bs) [] i e j c h = sym (refused_line h)
end_line molfile (properties hs d xs bs ps) [] i e j c h = sym (refused_line h)
end_line molfile (over m) [] i e j c h = apart h
end_line molfile (items m is) [] i e j c h = sym (refused_line h)
end_line molfile (values m is name vs) [] i e j c h = sym (refused_line h)

pub end_bonds : (kind : FileKind) (p : Place) (rest : Bytes) (i : ℕ) (x : Raw) (k : ℕ) → end_at kind p rest i ≡ whole x k → bonds_in p ≡ x.molecule.bonds
end_bonds sdfile p rest i x k h = apart (sym h)
end_bonds molfile p (b ∷ rest) i x k h = apart (sym h)
end_bonds molfile first [] i x k h = apart (sym h)
end_bonds molfile (second h₁) [] i x k h = apart (sym h)
end_bonds molfile (third h₁ h₂) [] i x k h = apart (sym h)
end_bonds molfile (counts hs) [] i x k h = apart (sym h)
end_bonds molfile (atoms hs d j xs) [] i x k h = apart (sym h)
end_bonds molfile (bonds hs d xs j bs) [] i x k h = apart (sym h)
end_bonds molfile (properties hs d xs bs ps) [] i x k h = apart (sym h)
end_bonds molfile (over m) [] i x k h = ap (λ (y : Raw). y.molecule.bonds) (whole_record h)
end_bonds molfile (items m is) [] i x k h = apart (sym h)
end_bonds molfile (values m is name vs) [] i x k h = apart (sym h)

-- an accepted record: all its bonds
pub asked_whole : (kind : FileKind) (p : Place) (j : ℕ) (ls : List Line) (rest : Bytes) (x : Raw) (k : ℕ) → record_from kind p j ls rest ≡ whole x k →
    asked_from kind p ls ≡ x.molecule.bonds
unfolding record_from asked_from
asked_whole kind p j [] rest x k h = end_bonds kind p rest j x k h
asked_whole kind p j (l ∷ ls) rest x k h = go (λ q g. asked_whole kind q (suc j) ls rest x k g) (turn_of kind limit p l) refl
  where
    go : ((q : Place) → record_from kind q (suc j) ls rest ≡ whole x k → asked_from kind q ls ≡ x.molecule.bonds) → (g : Got Turn) → turn_of kind limit p l ≡ g →
        asked_from kind p (l ∷ ls) ≡ x.molecule.bonds
    go r (got (next q)) e = asked_next kind p q l ls e ∙ r q (sym (from_next kind p q j l ls rest e) ∙ h)
    go r (got (done y)) e = asked_done kind p y l ls e ∙ ap (λ (z : Raw). z.molecule.bonds) (whole_record (sym (from_done kind p y j l ls rest e) ∙ h))
    go r (bad n c) e = apart (sym (sym (from_bad kind p j l ls rest n c e) ∙ h))

record CameFrom (kind : FileKind) (p : Place) (j : ℕ) (ls : List Line) (i : ℕ) (cs : List Bond) : Type 0 where
  before : List Line
  after : List Line
  place : Place
  lines : ls ≡ before ++ after
  line : i ≡ j + length before
  stands : Leads kind limit p [] before place []
  asked : AskedOn place after cs

came_from : (kind : FileKind) (p : Place) (j : ℕ) (ls : List Line) (rest : Bytes) (e i c : ℕ) → record_from kind p j ls rest ≡ refused e i c →
    CameFrom kind p j ls i (asked_from kind p ls)
unfolding record_from asked_from
came_from kind p j [] rest e i c h =
    record { before = []; after = []; place = p; lines = refl; line = end_line kind p rest j e i c h ∙ omega arith; stands = Leads.none; asked = refl }
came_from kind p j (l ∷ ls) rest e i c h = go (λ q g. came_from kind q (suc j) ls rest e i c g) (turn_of kind limit p l) refl
  where
    go : ((q : Place) → record_from kind q (suc j) ls rest ≡ refused e i c → CameFrom kind q (suc j) ls i (asked_from kind q ls)) → (g : Got Turn) → turn_of kind limit p l ≡ g →
        CameFrom kind p j (l ∷ ls) i (asked_from kind p (l ∷ ls))
    go r (got (next q)) t =
        let f = r q (sym (from_next kind p q j l ls rest t) ∙ h) in
        record {
          before = l ∷ f.before;
          after = f.after;
          place = f.place;
          lines = ap (λ (u : List Line). l ∷ u) f.lines;
          line = f.line ∙ omega arith;
          stands = Leads.on (turn_takes kind limit p l (next q) t) f.stands;
          asked = subst (AskedOn f.place f.after) (sym (asked_next kind p q l ls t)) f.asked;
        }
    go r (got (done y)) t = apart (sym (from_done kind p y j l ls rest t) ∙ h)
    go r (bad n d) t =
        record {
          before = [];
          after = l ∷ ls;
          place = p;
          lines = refl;
          line = sym (refused_line (sym (from_bad kind p j l ls rest n d t) ∙ h)) ∙ omega arith;
          stands = Leads.none;
          asked = subst (AskedAt p l) (sym (asked_bad kind p l ls n d t)) (asked_at_lem p l);
        }

-- a refused one: those that came to the check
pub asked_came : (kind : FileKind) (ls : List Line) (rest : Bytes) (e i c : ℕ) → record_from kind first 1 ls rest ≡ refused e i c → Came kind ls i (asked_from kind first ls)
asked_came kind ls rest e i c h =
    let f = came_from kind first 1 ls rest e i c h in
    record {
      before = f.before;
      after = f.after;
      place = f.place;
      whole = f.lines;
      line = f.line ∙ omega arith;
      stands = f.stands;
      asked = f.asked;
    }
