-- The loop over the items of a record; what comes before it and after it.
use Rattle.std.specs.Prelude.{ℕ, suc, ◌+◌, ◌-◌, ◌≤◌, ◌<◌, List, [], ◌∷◌, Bool, true, false, cond, length, take, drop}
use Rattle.std.proofs.Common.{arith, ◌∙◌, subst}
use Rattle.std.proofs.Math.Path.{◌≡◌, refl, sym, ap}
use Rattle.text.specs.Text.{Bytes, Line}
use Rattle.text.specs.Find.{line_at, same_bytes}
use Rattle.text.specs.Cut.{Cut, cut, line_within}
use Rattle.text.specs.declared.LineAt.{LineAt}
use Rattle.rules.specs.Record.{Item, Raw, Values, Items, Record, limit}
use Rattle.judge_line.specs.Got.{got}
use Rattle.judge_line.specs.Judge.{title, close, item_of}
use Rattle.judge_line.specs.AgreeItem.{blank_line_is}
use Rattle.judge_line.proofs.AgreeItem.{title_is_lem, close_line_is, value_is_lem}
use Rattle.line_judged.specs.Known.{Standing, HeaderOrEnd}
use Rattle.judge_file.specs.Place.{sdfile}
use Rattle.judge_file.specs.One.{One, one_record}
use Rattle.judge_file.proofs.OneAgree.{one_whole}
use Rattle.judge_file.specs.WalkText.{after_lines, after_cut}
use Rattle.reader_walk.specs.Outcome.{Outcome, whole, outcome_of, of_one}
use Rattle.reader_walk.specs.Stands.{molecule_lines}
use Rattle.reader_walk.specs.Walked.{walked_by, walk_of}
use Rattle.reader_walk.specs.Walking.{after_more}
use Rattle.reader_walk.specs.Checking.{left_length, left_length_2}
use Rattle.reader_end.specs.declared.Walked.{Walked}
use Rattle.line_counts_bonds.specs.declared.Counts.{Counts}
use Rattle.reader_item.specs.declared.Found.{Found}
use Rattle.reader_item.specs.declared.Part.{Part}
use Rattle.reader_item.specs.declared.Title.{Title}
use Rattle.reader_item.specs.declared.Values.{Values as Stretch}
use Rattle.reader_item.specs.Find.{from_of, to_of, item, refused, numbers_of, Spot, after, nowhere, spot_of, said_by, found_by, found_of, stretch_of}
use Rattle.reader_item.specs.Find.{titled_as, title_by, values_ahead, values_at, ItemsStart, ValuesFrom}
use Rattle.reader_item.specs.NeverRefused.{item_known, items_stand, items_line}
use Rattle.reader_item.specs.Position.{after_join, after_low, Past, past_values, past_molecule}

-- ---- A line of the items, with the lines after it

many_values : {t vs u : List Line} → Values t vs u → values_ahead t ≡ length vs
unfolding values_ahead
many_values (Values.end {l = l} h) = rw (blank_line_is l h)
many_values (Values.more {l = l} h p) = rw (value_is_lem l h) (ap suc (many_values p))

module _ (name : Bytes) where
  pub by_title : (found : Bytes) (vs : List Line) (is : List Item) (j : ℕ) (b : Bool) → same_bytes found name ≡ b →
      spot_of name j (record { name = found; values = vs } ∷ is) ≡ cond b (after (suc j) (length vs)) (spot_of name (suc j + suc (length vs)) is)
  unfolding spot_of
  by_title found vs is j b h = rw (sym h)

  title_by_lem : (l found : Bytes) → item_of l ≡ got (title found) → title_by name (item_of l) ≡ cond (same_bytes found name) Title.Named Title.Other
  unfolding title_by titled_as
  title_by_lem l found h = ap (title_by name) h

  close_by : (l : Bytes) → item_of l ≡ got close → title_by name (item_of l) ≡ Title.Close
  unfolding title_by
  close_by l h = ap (title_by name) h

  is_named : (b : Bool) → cond b Title.Named Title.Other ≡ Title.Named → b ≡ true
  is_named true h = refl
  is_named false h = absurd (let z : ◌≡◌ {A = ℕ} 0 1 = cc in omega arith)

  is_other : (b : Bool) → cond b Title.Named Title.Other ≡ Title.Other → b ≡ false
  is_other true h = absurd (let z : ◌≡◌ {A = ℕ} 0 1 = cc in omega arith)
  is_other false h = refl

  not_close : (b : Bool) → cond b Title.Named Title.Other ≡ Title.Close → ⊥
  not_close true h = let z : ◌≡◌ {A = ℕ} 0 1 = cc in omega arith
  not_close false h = let z : ◌≡◌ {A = ℕ} 0 1 = cc in omega arith

  here_named : {l : Line} {t rest : List Line} {left : List Item} → Items (l ∷ t) left rest → title_by name (item_of l) ≡ Title.Named →
      (j : ℕ) → spot_of name j left ≡ after (suc j) (values_ahead t)
  here_named (Items.end {l = l} h) q j = absurd (let c = close_by l (close_line_is l h) in let z : ◌≡◌ {A = ℕ} 0 1 = cc in omega arith)
  here_named (Items.more {l = l} {name = found} {vs = vs} {is = is} h v p) q j =
      let b = is_named (same_bytes found name) (sym (title_by_lem l found (title_is_lem l found h)) ∙ q) in
      by_title found vs is j true b ∙ ap (after (suc j)) (sym (many_values v))

  -- what follows a data header are its values
  here_values : {l : Line} {t rest : List Line} {left : List Item} → Items (l ∷ t) left rest → (title_by name (item_of l) ≡ Title.Close → ⊥) → (vs : List Line) × (u : List Line) × Values t vs u
  here_values (Items.end {l = l} h) n = absurd (n (close_by l (close_line_is l h)))
  here_values (Items.more {u = u} {vs = vs} h v p) n = (vs, u, v)

  -- the items that follow an item
  record Later (t rest : List Line) (left : List Item) : Type 0 where
    pub u : List Line
    pub is : List Item
    pub items : Items u is rest
    pub past : Past (suc (values_ahead t)) t u
    pub same : (j : ℕ) → spot_of name j left ≡ spot_of name (suc j + suc (values_ahead t)) is

  here_other : {l : Line} {t rest : List Line} {left : List Item} → Items (l ∷ t) left rest → title_by name (item_of l) ≡ Title.Other → Later t rest left
  here_other (Items.end {l = l} h) q = absurd (let c = close_by l (close_line_is l h) in let z : ◌≡◌ {A = ℕ} 0 1 = cc in omega arith)
  here_other (Items.more {l = l} {name = found} {t = t} {u = u} {vs = vs} {is = is} h v p) q =
      let b = is_other (same_bytes found name) (sym (title_by_lem l found (title_is_lem l found h)) ∙ q) in
      let n = many_values v in
      record {
        u = u;
        is = is;
        items = p;
        past = subst (λ (k : ℕ). Past (suc k) t u) (sym n) (past_values v);
        same = λ j. by_title found vs is j false b ∙ ap (λ (k : ℕ). spot_of name (suc j + suc k) is) (sym n);
      }

  here_close : {l : Line} {t rest : List Line} {left : List Item} → Items (l ∷ t) left rest → title_by name (item_of l) ≡ Title.Close → (j : ℕ) → spot_of name j left ≡ nowhere
  unfolding spot_of
  here_close (Items.end h) q j = refl
  here_close (Items.more {l = l} {name = found} h v p) q j = absurd (not_close (same_bytes found name) (sym (title_by_lem l found (title_is_lem l found h)) ∙ q))

-- ---- The items of a record

-- the items from here on, with j lines before them: what is found in them is what is found in the record
pub record Hunting (s name : Bytes) (at : ℕ) : Type 0 where
  pub x : Raw
  pub k : ℕ
  pub is : outcome_of sdfile s ≡ whole x k
  pub j : ℕ
  pub place : after_lines s 0 j ≡ at
  pub left : List Item
  pub rest : List Line
  pub items : Items (cut (drop at s)).lines left rest
  pub same : spot_of name (molecule_lines x.molecule) x.items ≡ spot_of name j left

-- a whole record of the rules stands behind a good outcome
pub behind : (s : Bytes) (x : Raw) (k : ℕ) → outcome_of sdfile s ≡ whole x k → (more : List Line) × Record limit (cut s).lines x more
unfolding outcome_of
behind s x k h = go (one_record limit (cut s).lines) refl h
  where
    go : (o : One) → one_record limit (cut s).lines ≡ o → of_one o ≡ whole x k → (more : List Line) × Record limit (cut s).lines x more
    go (One.whole y i more) e q =
        let same : y ≡ x = cc in
        (more, subst (λ (z : Raw). Record limit (cut s).lines z more) same ((one_whole limit (cut s).lines y i more).0 e).0)
    go (One.refused n i c) e q = absurd (let z : ◌≡◌ {A = ℕ} 0 1 = cc in omega arith)
    go (One.short i) e q = absurd (let z : ◌≡◌ {A = ℕ} 0 1 = cc in omega arith)

-- the lines from the items on
pub items_at : (s : Bytes) (m : ℕ) (u : List Line) → Past m (cut s).lines u → (cut (drop (after_lines s 0 m) s)).lines ≡ u
items_at s m u p = ap (λ (c : Cut). c.lines) (after_cut s 0 m p.some) ∙ sym p.rest

pub hunting_start : (s name : Bytes) (at : ℕ) → ItemsStart s at → Hunting s name at
hunting_start s name at g = go refl (behind s g.x g.k g.is).1
  where
    go : {y : Raw} {more : List Line} → y ≡ g.x → Record limit (cut s).lines y more → Hunting s name at
    go e (Record.record_of {u = u} {r = r} {m = m} {is = is} p i) =
        let z : molecule_lines m ≡ molecule_lines g.x.molecule = ap (λ (y : Raw). molecule_lines y.molecule) e in
        let here : at ≡ after_lines s 0 (molecule_lines m) = g.start ∙ ap (after_lines s 0) (sym z) in
        record {
          x = g.x;
          k = g.k;
          is = g.is;
          j = molecule_lines m;
          place = sym here;
          left = is;
          rest = r;
          items = subst (λ (t : List Line). Items t is r) (sym (ap (λ (a : ℕ). (cut (drop a s)).lines) here ∙ items_at s (molecule_lines m) u (past_molecule p))) i;
          same = ap (λ (y : Raw). spot_of name (molecule_lines y.molecule) y.items) (sym e);
        }

module _ (s name : Bytes) (at : ℕ) (g : Hunting s name at) where
  -- by what is found from here on
  said : (p : Spot) → spot_of name g.j g.left ≡ p → said_by s p ≡ found_of s name
  unfolding found_of
  said p h = ap (said_by s) (sym h ∙ sym g.same) ∙ ap (found_by s name) (sym g.is)

  pub hunting_line : Standing s at
  hunting_line = items_stand s at g.items

  module _ (e n : ℕ) (l_is : line_at s at ≡ LineAt.Line e n) where
    pub hunting_low : at ≤ e
    hunting_low = (line_within s at e n l_is).0

    pub hunting_high : e ≤ length s
    hunting_high = let w = line_within s at e n l_is in omega (arith, w.1, w.2)

    here : Items (take (e - at) (drop at s) ∷ (cut (drop n s)).lines) g.left g.rest
    here = items_line s at e n l_is g.items

    pub hunting_known : HeaderOrEnd (take (e - at) (drop at s))
    hunting_known = item_known here

    next_is : after_lines s 0 (suc g.j) ≡ n
    next_is = after_more s 0 g.j at e n g.place l_is

    module _ (y : Title) (u : y ≡ title_by name (item_of (take (e - at) (drop at s)))) where
      pub hunting_close : y ≡ Title.Close → refused 22 0 0 ≡ found_of s name
      hunting_close k = said nowhere (here_close name here (sym u ∙ k) g.j)

      values_from_lem : (title_by name (item_of (take (e - at) (drop at s))) ≡ Title.Close → ⊥) → ValuesFrom s n
      values_from_lem k = let v = here_values name here k in record { vs = v.0; rest = v.1; is = v.2 }

      pub named_values : y ≡ Title.Named → ValuesFrom s n
      named_values k = values_from_lem (λ h. let z : Title.Named ≡ Title.Close = sym k ∙ u ∙ h in let z : ◌≡◌ {A = ℕ} 0 1 = cc in omega arith)

      pub other_values : y ≡ Title.Other → ValuesFrom s n
      other_values k = values_from_lem (λ h. let z : Title.Other ≡ Title.Close = sym k ∙ u ∙ h in let z : ◌≡◌ {A = ℕ} 0 1 = cc in omega arith)

      module _ (v : Stretch) (vals : v ≡ values_at s n) where
        pub hunting_named : y ≡ Title.Named → item v.from v.to ≡ found_of s name
        unfolding values_at
        hunting_named k =
            let m = values_ahead (cut (drop n s)).lines in
            ap (λ (w : Stretch). item w.from w.to) vals
            ∙ ap (λ (a : ℕ). item (from_of a m) (to_of s a m)) (sym next_is)
            ∙ said (after (suc g.j) m) (here_named name here (sym u ∙ k) g.j)

        later : y ≡ Title.Other → Later name (cut (drop n s)).lines g.rest g.left
        later k = here_other name here (sym u ∙ k)

        after_is : v.next ≡ after_lines s n (suc (values_ahead (cut (drop n s)).lines))
        unfolding values_at
        after_is = ap (λ (w : Stretch). w.next) vals

        pub hunting_other : y ≡ Title.Other → Hunting s name v.next
        hunting_other k =
            let m = values_ahead (cut (drop n s)).lines in
            let z = later k in
            let lines : (cut (drop v.next s)).lines ≡ z.u =
            ap (λ (a : ℕ). (cut (drop a s)).lines) after_is ∙ ap (λ (c : Cut). c.lines) (after_cut s n (suc m) z.past.some) ∙ sym z.past.rest in
            record {
              x = g.x;
              k = g.k;
              is = g.is;
              j = suc g.j + suc m;
              place = after_join s 0 (suc g.j) (suc m) ∙ ap (λ (a : ℕ). after_lines s a (suc m)) next_is ∙ sym after_is;
              left = z.is;
              rest = g.rest;
              items = subst (λ (t : List Line). Items t z.is g.rest) (sym lines) z.items;
              same = g.same ∙ z.same g.j;
            }

        pub hunting_less : length s - v.next < length s - at
        hunting_less =
            let w = line_within s at e n l_is in
            let a = after_low s n (suc (values_ahead (cut (drop n s)).lines)) w.2 in
            omega (arith, after_is, a.0, w.0, w.1, w.2)

pub ruleset hunting_laws = (hunting_start, hunting_line, hunting_low, hunting_high, hunting_known, hunting_close, named_values, other_values, hunting_named, hunting_other, hunting_less)

-- ---- After the walk

module _ (s name : Bytes) (w : Walked) (e : w ≡ walk_of sdfile s) where
  pub walked_items : (c : Counts) (len k h a b : ℕ) → w ≡ Walked.Whole c len k h a b → ItemsStart s a
  unfolding walk_of
  walked_items c len k h a b q = go (outcome_of sdfile s) refl (sym e ∙ q)
    where
      go : (o : Outcome) → outcome_of sdfile s ≡ o → walked_by sdfile s o ≡ Walked.Whole c len k h a b → ItemsStart s a
      go (whole x i) is r = record { x = x; k = i; is = is; start = cc }
      go (Outcome.refused n i d) is r = absurd (let z : ◌≡◌ {A = ℕ} 0 1 = cc in omega arith)

  pub walked_refused : (n i c : ℕ) → w ≡ Walked.Refused n i c → refused n i c ≡ found_of s name
  unfolding walk_of found_of
  walked_refused n i c q = go (outcome_of sdfile s) refl (sym e ∙ q)
    where
      go : (o : Outcome) → outcome_of sdfile s ≡ o → walked_by sdfile s o ≡ Walked.Refused n i c → refused n i c ≡ found_by s name (outcome_of sdfile s)
      go (whole x k) is r = absurd (let z : ◌≡◌ {A = ℕ} 0 1 = cc in omega arith)
      go (Outcome.refused m k d) is r = let z : refused n i c ≡ refused m k d = cc in z ∙ ap (found_by s name) (sym is)

pub ruleset walked_laws = (walked_items, walked_refused, left_length, left_length_2)

-- ---- The part of the text

module _ (x : Found) where
  pub part_item : (a b : ℕ) → x ≡ Found.Item a b → ◌≡◌ {A = Part} (record { from = a; to = b }) (stretch_of (numbers_of x))
  part_item a b q = ap (λ (y : Found). stretch_of (numbers_of y)) (sym q)

  pub part_none : (e i c : ℕ) → x ≡ Found.Refused e i c → ◌≡◌ {A = Part} (record { from = 0; to = 0 }) (stretch_of (numbers_of x))
  part_none e i c q = ap (λ (y : Found). stretch_of (numbers_of y)) (sym q)

pub ruleset stretch_laws = (part_item, part_none)
