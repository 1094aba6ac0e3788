-- A look at a text that begins with a good record finds what a fetch finds there: before its items no line from the fourth on begins with `>` or `$`.
use Prim.Native.Nat.{ℕ, zero, suc, ◌+◌, ◌≤◌}
use native.Mathlib.Omega.{arith}
use Rattle.std.specs.Prelude.{◌≡◌, ◌⊎◌, Bool, ◌&&◌, List, [], ◌∷◌, ◌++◌, leb, ℤ, length}
use Rattle.std.proofs.Math.Path.{refl, sym, ap, subst}
use Rattle.std.proofs.Common.{◌∙◌, inl, inr, append_assoc, length-drop, ne_eqb, le-leb}
use Rattle.std.proofs.Math.Bool.{true, false}
use Rattle.std.proofs.lemmas.Bool.{false≢true}
use Rattle.text.specs.Text.{Bytes, Line, bytes, Each}
use Rattle.text.specs.Columns.{column, columns, columns_for, spaces}
use Rattle.text.specs.Find.{same_bytes}
use Rattle.text.specs.Cut.{cut}
use Rattle.field_numbers.specs.Number.{Digit, Digits, Integer}
use Rattle.field_coordinates.specs.Coordinate.{Coordinate}
use Rattle.rules.specs.Forms.{Atom, Bond, Kind, CHG, RAD, ISO, tag, Property, PropertyLine, DataHeader, RecordEnd}
use Rattle.rules.specs.Record.{Item, Raw, Molecule, Atoms, Bonds, Properties, Items, Parts1to5, Record, limit}
use Rattle.judge_file.specs.Place.{sdfile}
use Rattle.judge_file.specs.WalkText.{after_lines, after_none, after_next}
use Rattle.reader_walk.specs.Outcome.{Outcome, whole, outcome_of}
use Rattle.reader_walk.specs.Stands.{molecule_lines}
use Rattle.reader_item.specs.Find.{from_of, to_of, Spot, after, nowhere, spot_of, said_by, found_by, found_of}
use Rattle.reader_item.specs.Position.{after_join, Past, past_none, past_more, past_join, past_values, past_molecule}
use Rattle.reader_item.specs.Hunting.{by_title, items_at}
use Rattle.reader_items.specs.Agree.{lines, begun, step_end}
use Rattle.reader_items.proofs.Agree.{step_item}
use Rattle.reader_items.specs.Stepping.{name_here, item_rest, stood}
use Rattle.reader_look.specs.declared.Looked.{Looked}
use Rattle.reader_look.specs.declared.Reached.{Reached}
use Rattle.reader_look.specs.declared.Sought.{Sought}
use Rattle.reader_look.specs.Look.{begins_item, Reaches, keep_first, keep, looked_by, Looks, LookOf}
use Rattle.reader_look.specs.Looking.{look_one, reached_low, reached_high}
use Rattle.reader_look.specs.Promise.{looked_as, Promised}

-- ---- First bytes

-- neither `>` nor `$`
abbrev Dull : ℕ → Type 0
Dull c = (c ≡ 62 → ⊥) × (c ≡ 36 → ⊥)

dull_space : (c : ℕ) → c ≡ 32 → Dull c
dull_space c h = ((λ e. omega (arith, h, e)), (λ e. omega (arith, h, e)))

dull_digit : (c : ℕ) → Digit c → Dull c
dull_digit c h = ((λ e. omega (arith, h.0, h.1, e)), (λ e. omega (arith, h.0, h.1, e)))

led : (i c : ℕ) (cs rest : Bytes) → c ∷ cs ≡ spaces i ++ rest → (c ≡ 32) ⊎ (c ∷ cs ≡ rest)
led zero c cs rest h = inr h
led (suc i) c cs rest h = inl cc

digits_first : (ds rest cs : Bytes) (c k : ℕ) → Digits ds k → c ∷ cs ≡ ds ++ rest → Dull c
unfolding Each
digits_first [] rest cs c k d h = absurd (omega (arith, d.some))
digits_first (b ∷ ds) rest cs c k d h = let e : b ≡ c = cc in subst Dull e (dull_digit b d.each.0)

spaced_digits : (i c : ℕ) (cs ds rest : Bytes) (k : ℕ) → Digits ds k → c ∷ cs ≡ spaces i ++ (ds ++ rest) → Dull c
spaced_digits i c cs ds rest k d h = go (led i c cs (ds ++ rest) h)
  where
    go : (c ≡ 32) ⊎ (c ∷ cs ≡ ds ++ rest) → Dull c
    go (inl e) = dull_space c e
    go (inr e) = digits_first ds rest cs c k d e

all_spaces : (i c : ℕ) (cs : Bytes) → c ∷ cs ≡ spaces i → Dull c
all_spaces zero c cs h = absurd (omega (arith, ap length h))
all_spaces (suc i) c cs h = dull_space c cc

number_first : {ds : Bytes} {z : ℤ} (c : ℕ) (cs : Bytes) → c ∷ cs ≡ ds → Integer false ds z → Dull c
number_first c cs h (Integer.blank i e) = all_spaces i c cs (h ∙ e)
number_first c cs h (Integer.plain i ds j k e d) = spaced_digits i c cs ds (spaces j) k d (h ∙ e)
number_first c cs h (Integer.plus i ds j k t e d) = absurd (false≢true t)
number_first c cs h (Integer.minus i ds j k t e d) = absurd (false≢true t)

coordinate_first : {ds : Bytes} {z : ℤ} (c : ℕ) (cs : Bytes) → c ∷ cs ≡ ds → Coordinate ds z → Dull c
coordinate_first c cs h (Coordinate.blank e) = all_spaces 10 c cs (h ∙ e)
coordinate_first c cs h (Coordinate.plain i ds fs w f p d k) =
    spaced_digits i c cs ds (46 ∷ fs) w d (h ∙ p.parts ∙ append_assoc (spaces i) ds (46 ∷ fs))
coordinate_first c cs h (Coordinate.minus i ds fs w f p d k) = go (led i c cs (45 ∷ (ds ++ (46 ∷ fs))) (h ∙ p.parts ∙ append_assoc (spaces i) (45 ∷ ds) (46 ∷ fs)))
  where
    go : (c ≡ 32) ⊎ (c ∷ cs ≡ 45 ∷ (ds ++ (46 ∷ fs))) → Dull c
    go (inl e) = dull_space c e
    go (inr e) = let z : c ≡ 45 = cc in ((λ e. omega (arith, z, e)), (λ e. omega (arith, z, e)))

three : (l : Line) → column l 1 ∷ columns_for l 2 2 ≡ columns l 1 3
unfolding columns_for
three l = refl

ten : (l : Line) → column l 1 ∷ columns_for l 2 9 ≡ columns l 1 10
unfolding columns_for
ten l = refl

six : (l : Line) → column l 1 ∷ columns_for l 2 5 ≡ columns l 1 6
unfolding columns_for
six l = refl

letter_first : (c : ℕ) (cs rest : Bytes) → c ∷ cs ≡ 77 ∷ rest → Dull c
letter_first c cs rest h = let z : c ≡ 77 = cc in ((λ e. omega (arith, z, e)), (λ e. omega (arith, z, e)))

property_first : {n : ℕ} {l : Line} {p : Property} → PropertyLine n l p → Dull (column l 1)
property_first {l = l} {p = p} h = go p.kind (six l ∙ h.tagged)
  where
    go : (k : Kind) → column l 1 ∷ columns_for l 2 5 ≡ bytes (tag k) → Dull (column l 1)
    go CHG e = letter_first (column l 1) (columns_for l 2 5) (bytes "  CHG") e
    go RAD e = letter_first (column l 1) (columns_for l 2 5) (bytes "  RAD") e
    go ISO e = letter_first (column l 1) (columns_for l 2 5) (bytes "  ISO") e

plain_line : (l : Line) (j : ℕ) → Dull (column l 1) → begins_item l j ≡ false
unfolding begins_item
plain_line l j d = rw (ne_eqb (column l 1) 62 d.0, ne_eqb (column l 1) 36 d.1) (go (leb 3 j))
  where
    go : (t : Bool) → (t && false) ≡ false
    go true = refl
    go false = refl

-- the first line of the items
arrow_line : (l name : Bytes) (j : ℕ) → 3 ≤ j → DataHeader l name → begins_item l j ≡ true
unfolding begins_item
arrow_line l name j h d = rw (le-leb 3 j h, d.parts)

dollar_line : (l : Line) (j : ℕ) → 3 ≤ j → RecordEnd l → begins_item l j ≡ true
unfolding begins_item columns_for
dollar_line l j h d =
    let t = d.tagged in
    let z : column l 1 ≡ 36 = cc in
    rw (le-leb 3 j h, z)

-- ---- Up to the items

-- so many lines are passed
record Through (s : Bytes) (at j : ℕ) (u : List Line) : Type 0 where
  m : ℕ
  past : Past m (lines s at) u
  back : (x : Reached) → Reaches s (after_lines s at m) (j + m) x → Reaches s at j x

module _ (s : Bytes) where
  none_through : (at j : ℕ) (t : List Line) → lines s at ≡ t → Through s at j t
  none_through at j t q =
      record {
        m = 0;
        past = subst (λ (x : List Line). Past 0 x t) (sym q) (past_none t);
        back = λ x r.
            let z : j + 0 ≡ j = omega arith in
            subst (λ (i : ℕ). Reaches s at i x) z (subst (λ (a : ℕ). Reaches s a (j + 0) x) (after_none s at) r);
      }

  -- one line more, and those after it
  more_through : (at j : ℕ) (l : Line) (t u : List Line) → lines s at ≡ l ∷ t → begins_item l j ≡ false → ((at : ℕ) → lines s at ≡ t → Through s at (j + 1) u) → Through s at j u
  more_through at j l t u q b f =
      let g = begun s at l t q in
      let p = f g.n g.rest in
      let z : j + suc p.m ≡ j + 1 + p.m = omega arith in
      record {
        m = suc p.m;
        past = subst (λ (x : List Line). Past (suc p.m) x u) (sym q) (past_more p.m l t u (subst (λ (x : List Line). Past p.m x u) g.rest p.past));
        back = λ x r.
            Reaches.on g.line (ap (λ (y : Line). begins_item y j) g.first ∙ b)
            (p.back x
            (subst (λ (i : ℕ). Reaches s (after_lines s g.n p.m) i x) z
            (subst (λ (a : ℕ). Reaches s a (j + suc p.m) x) (after_next s at g.e g.n p.m g.line) r)));
      }

  -- what goes on from some lines, wherever they start
  abbrev On : List Line → List Line → Type 0
  On t u = (at j : ℕ) → lines s at ≡ t → Through s at j u

  dull_through : (l : Line) (t u : List Line) → Dull (column l 1) → On t u → On (l ∷ t) u
  dull_through l t u d f at j q = more_through at j l t u q (plain_line l j d) (λ at q. f at (j + 1) q)

  atoms_through : {n k : ℕ} {t r u : List Line} {xs : List Atom} → Atoms n k t xs r → On r u → On t u
  atoms_through Atoms.none f = f
  atoms_through {u = u} (Atoms.more {l = l} {t = t} h p) f =
      dull_through l t u (coordinate_first (column l 1) (columns_for l 2 9) (ten l) h.x) (atoms_through p f)

  bonds_through : {n k : ℕ} {t r u : List Line} {bs : List Bond} → Bonds n k t bs r → On r u → On t u
  bonds_through Bonds.none f = f
  bonds_through {u = u} (Bonds.more {l = l} {t = t} h p) f =
      dull_through l t u (number_first (column l 1) (columns_for l 2 2) (three l) h.first.field) (bonds_through p f)

  properties_through : {n : ℕ} {t r : List Line} {ps : List Property} → Properties n t ps r → On t r
  properties_through (Properties.end {l = l} {t = t} h) =
      dull_through l t t (letter_first (column l 1) (columns_for l 2 5) (bytes "  END") (six l ∙ h.tagged)) (λ at j q. none_through at j t q)
  properties_through (Properties.more {l = l} {t = t} {r = r} h p) = dull_through l t r (property_first h) (properties_through p)

  molecule_through : {t r : List Line} {m : Molecule} → Parts1to5 limit t m r → lines s 0 ≡ t → Through s 0 0 r
  unfolding begins_item
  molecule_through (Parts1to5.parts {h₁ = h₁} {h₂ = h₂} {h₃ = h₃} {l = l} {t = t} {r = r} f g h c a b w p o) q =
      more_through 0 0 h₁ (h₂ ∷ h₃ ∷ l ∷ t) r q refl λ at q.
      more_through at 1 h₂ (h₃ ∷ l ∷ t) r q refl λ at q.
      more_through at 2 h₃ (l ∷ t) r q refl λ at q.
      dull_through l t r (number_first (column l 1) (columns_for l 2 2) (three l) c.atoms.field) (atoms_through a (bonds_through b (properties_through p))) at 3 q

  -- the items' first line is reached, and no other
  items_reached : {t u more : List Line} {m : Molecule} {is : List Item} → (cut s).lines ≡ t → Parts1to5 limit t m u → Items u is more →
      Reaches s 0 0 (Reached.At (after_lines s 0 (molecule_lines m)) (molecule_lines m))
  items_reached {t = t} {u = u} {m = m} {is = is} e p i =
      let f = molecule_through p e in
      let past : Past (molecule_lines m) (cut s).lines u = subst (λ (x : List Line). Past (molecule_lines m) x u) (sym e) (past_molecule p) in
      let same : f.m ≡ molecule_lines m = one_past f.past past in
      let z : 0 + molecule_lines m ≡ molecule_lines m = omega arith in
      f.back (Reached.At (after_lines s 0 (molecule_lines m)) (molecule_lines m))
      (subst (λ (k : ℕ). Reaches s (after_lines s 0 k) (0 + k) (Reached.At (after_lines s 0 (molecule_lines m)) (molecule_lines m))) (sym same)
      (subst (λ (k : ℕ). Reaches s (after_lines s 0 (molecule_lines m)) k (Reached.At (after_lines s 0 (molecule_lines m)) (molecule_lines m))) (sym z)
      (at_items_lem (after_lines s 0 (molecule_lines m)) (molecule_lines m) (omega arith) (items_at s (molecule_lines m) u past) i)))
    where
      one_past : {j k : ℕ} {x y : List Line} → Past j x y → Past k x y → j ≡ k
      one_past {j} {k} {x} a b = omega (arith, ap length a.rest, ap length b.rest, length-drop j x, length-drop k x, a.some, b.some)

      at_items_lem : {x r : List Line} {js : List Item} (at j : ℕ) → 3 ≤ j → lines s at ≡ x → Items x js r → Reaches s at j (Reached.At at j)
      at_items_lem at j h q (Items.end {l = l} {t = t} d) =
          let g = begun s at l t q in
          Reaches.here g.line (ap (λ (y : Line). begins_item y j) g.first ∙ dollar_line l j h d)
      at_items_lem at j h q (Items.more {l = l} {name = name} {t = t} d v w) =
          let g = begun s at l t q in
          Reaches.here g.line (ap (λ (y : Line). begins_item y j) g.first ∙ arrow_line l name j h d)

  -- ---- Over the items

  -- what is found so far, and then what is found in the items that are left
  unfoldable final : Sought → Spot → Sought
  final (Sought.At a b) spot = Sought.At a b
  final Sought.Nowhere (after j k) = Sought.At (from_of (after_lines s 0 j) k) (to_of s (after_lines s 0 j) k)
  final Sought.Nowhere nowhere = Sought.Nowhere

  module _ (name : Bytes) where
    record Over (at j : ℕ) (is : List Item) (more : List Line) (sought : Sought) : Type 0 where
      m : ℕ
      past : Past m (lines s at) more
      looks : Looks s name at j sought (looked_by (final sought (spot_of name j is)) (after_lines s 0 (j + m)) (j + m))

    final_none : (sought : Sought) (j : ℕ) → final sought (spot_of name j []) ≡ sought
    unfolding final spot_of
    final_none (Sought.At a b) j = refl
    final_none Sought.Nowhere j = refl

    final_more : (sought : Sought) (j n : ℕ) (found : Bytes) (vs : List Line) (is : List Item) (b : Bool) → same_bytes found name ≡ b → after_lines s 0 (suc j) ≡ n →
        final (keep sought b (from_of n (length vs)) (to_of s n (length vs))) (spot_of name (j + (length vs + 2)) is) ≡
        final sought (spot_of name j (record { name = found; values = vs } ∷ is))
    unfolding final keep keep_first
    final_more (Sought.At x y) j n found vs is true h q = refl
    final_more (Sought.At x y) j n found vs is false h q = refl
    final_more Sought.Nowhere j n found vs is true h q =
        sym (ap (final Sought.Nowhere) (by_title name found vs is j true h) ∙ ap (λ (a : ℕ). Sought.At (from_of a (length vs)) (to_of s a (length vs))) q)
    final_more Sought.Nowhere j n found vs is false h q =
        let z : suc j + suc (length vs) ≡ j + (length vs + 2) = omega arith in
        sym (ap (final Sought.Nowhere) (by_title name found vs is j false h) ∙ ap (λ (i : ℕ). final Sought.Nowhere (spot_of name i is)) z)

    over : {x more : List Line} {is : List Item} (at j : ℕ) → after_lines s 0 j ≡ at → lines s at ≡ x → Items x is more → (sought : Sought) → Over at j is more sought
    over at j place q (Items.end {l = l} {t = t} d) sought =
        let g = begun s at l t q in
        let n_is : g.n ≡ after_lines s 0 (j + 1) =
        sym (after_join s 0 j 1 ∙ ap (λ (a : ℕ). after_lines s a 1) place ∙ after_next s at g.e g.n 0 g.line ∙ after_none s g.n) in
        record {
          m = 1;
          past = subst (λ (y : List Line). Past 1 y t) (sym q) (past_more 0 l t t (past_none t));
          looks =
              subst (λ (a : ℕ). Looks s name at j sought (looked_by (final sought (spot_of name j [])) a (j + 1))) n_is
              (subst (λ (f : Sought). Looks s name at j sought (looked_by f g.n (j + 1))) (sym (final_none sought j)) (Looks.end (step_end s at l t g d)));
        }
    over at j place q (Items.more {l = l} {name = found} {t = t} {u = u} {r = more} {vs = vs} {is = is} d v p) sought =
        let g = begun s at l t q in
        let k = length vs in
        let n_is : after_lines s 0 (suc j) ≡ g.n =
        (let z : suc j ≡ j + 1 = omega arith in ap (after_lines s 0) z) ∙ after_join s 0 j 1 ∙ ap (λ (a : ℕ). after_lines s a 1) place
        ∙ after_next s at g.e g.n 0 g.line ∙ after_none s g.n in
        let here : Past (suc (suc k)) (lines s at) u = subst (λ (y : List Line). Past (suc (suc k)) y u) (sym q) (past_more (suc k) l t u (past_values v)) in
        let step : after_lines s at (suc (suc k)) ≡ after_lines s g.n (suc k) = after_next s at g.e g.n (suc k) g.line in
        let rest : lines s (after_lines s g.n (suc k)) ≡ u = ap (lines s) (sym step) ∙ item_rest s at (suc (suc k)) u here in
        let two : suc (suc k) ≡ k + 2 = omega arith in
        let next : after_lines s 0 (j + (k + 2)) ≡ after_lines s g.n (suc k) =
        after_join s 0 j (k + 2) ∙ ap (λ (a : ℕ). after_lines s a (k + 2)) place ∙ ap (after_lines s at) (sym two) ∙ step in
        let b = same_bytes found name in
        let new = keep sought b (from_of g.n k) (to_of s g.n k) in
        let f = over (after_lines s g.n (suc k)) (j + (k + 2)) next rest p new in
        let all : j + (k + 2) + f.m ≡ j + (suc (suc k) + f.m) = omega arith in
        let last = final sought (spot_of name j (record { name = found; values = vs } ∷ is)) in
        let inner : Looks s name (after_lines s g.n (suc k)) (j + (k + 2)) new (looked_by last (after_lines s 0 (j + (suc (suc k) + f.m))) (j + (suc (suc k) + f.m))) =
        subst (λ (i : ℕ). Looks s name (after_lines s g.n (suc k)) (j + (k + 2)) new (looked_by last (after_lines s 0 i) i)) all
        (subst (λ (y : Sought). Looks s name (after_lines s g.n (suc k)) (j + (k + 2)) new (looked_by y (after_lines s 0 (j + (k + 2) + f.m)) (j + (k + 2) + f.m)))
        (final_more sought j g.n found vs is b refl n_is) f.looks) in
        record {
          m = suc (suc k) + f.m;
          past = past_join (suc (suc k)) f.m (lines s at) u more here (subst (λ (y : List Line). Past f.m y more) rest f.past);
          looks =
              Looks.on (step_item s at l t g found d v)
              (subst
              (λ (y : Bytes).
              Looks s name (after_lines s g.n (suc k)) (j + (k + 2)) (keep sought (same_bytes y name) (from_of g.n k) (to_of s g.n k))
              (looked_by last (after_lines s 0 (j + (suc (suc k) + f.m))) (j + (suc (suc k) + f.m))))
              (sym (name_here s at l found t g d)) inner);
        }

    -- ---- The look

    by_spot : (spot : Spot) (n k : ℕ) → looked_by (final Sought.Nowhere spot) n k ≡ looked_as (said_by s spot) n k
    unfolding final looked_by
    by_spot (after j m) n k = refl
    by_spot nowhere n k = refl

    record_looked : {t more : List Line} {x : Raw} (k : ℕ) → (cut s).lines ≡ t → Record limit t x more → k + length more ≡ length t →
        LookOf s name (looked_as (said_by s (spot_of name (molecule_lines x.molecule) x.items)) (after_lines s 0 k) k)
    record_looked {t = t} {more = more} k e (Record.record_of {u = u} {m = m} {is = is} p i) size =
        let j = molecule_lines m in
        let past : Past j (cut s).lines u = subst (λ (y : List Line). Past j y u) (sym e) (past_molecule p) in
        let here = items_at s j u past in
        let f = over (after_lines s 0 j) j refl here i Sought.Nowhere in
        let all = past_join j f.m (cut s).lines u more past (subst (λ (y : List Line). Past f.m y more) here f.past) in
        let same : j + f.m ≡ k = omega (arith, all.some, ap length all.rest, length-drop (j + f.m) (cut s).lines, ap length e, size) in
        LookOf.near (items_reached e p i)
        (subst (Looks s name (after_lines s 0 j) j Sought.Nowhere) (by_spot (spot_of name j is) (after_lines s 0 k) k)
        (subst (λ (n : ℕ). Looks s name (after_lines s 0 j) j Sought.Nowhere (looked_by (final Sought.Nowhere (spot_of name j is)) (after_lines s 0 n) n)) same f.looks))

    good_look : (x : Raw) (k : ℕ) → outcome_of sdfile s ≡ whole x k → LookOf s name (looked_as (found_of s name) (after_lines s 0 k) k)
    unfolding found_of
    good_look x k h =
        let b = stood s x k h in
        subst (λ (o : Outcome). LookOf s name (looked_as (found_by s name o) (after_lines s 0 k) k)) (sym h) (record_looked k refl b.good b.size)

    pub promised : (r : Looked) → LookOf s name r → Promised s name r
    promised r p = record { is = p; good = λ x k h. look_one s name p (good_look x k h) }

-- ---- As the code takes it

module _ (s name : Bytes) (x : Reached) (p : Reaches s 0 0 x) where
  pub look_near : (at j : ℕ) (r : Looked) → x ≡ Reached.At at j → Looks s name at j Sought.Nowhere r → Promised s name r
  look_near at j r q l = promised s name r (LookOf.near (subst (Reaches s 0 0) q p) l)

  pub look_far : x ≡ Reached.Beyond → Promised s name Looked.Beyond
  look_far q = promised s name Looked.Beyond (LookOf.far (subst (Reaches s 0 0) q p))

pub ruleset look_laws = (look_near, look_far, reached_low, reached_high)
