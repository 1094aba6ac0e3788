-- Laws on a step, place by place: what a callee answered decides what the step is.
use Rattle.std.specs.Prelude.{IsErrAnd, Result, Ok, Err, Option, Some, None}
use Prim.Native.Nat.{ℕ, suc, ◌+◌, ◌*◌, ◌-◌, ◌≤◌}
use native.Mathlib.Omega.{arith}
use mathlib.Core.Path.{◌≡◌, refl, sym, ap, ◌∙◌, subst}
use mathlib.Core.List.{List, []}
use mathlib.Core.Bool.{Bool, true, false}
use lib.Dec.{leb}
use lib.ListN.{length, take, drop}
use borrow.Author.Tests.{ne_eqb}
use Rattle.text.specs.Text.{Line}
use Rattle.text.specs.Find.{bad_column}
use Rattle.rules.specs.Record.{limit}
use Rattle.judge_line.specs.Got.{Got, got, bad, then, need}
use Rattle.judge_line.specs.GotLaws.{bad_got, then_got}
use Rattle.judge_line.specs.Field.{within, none_found}
use Rattle.judge_line.specs.AgreeField.{within_got}
use Rattle.judge_line.specs.Judge as J
use Rattle.line_atom.specs.Answer.{atom_is, atom_got}
use Rattle.line_counts_bonds.specs.Answer.{counts_is, counts_got, bond_is, bond_got}
use Rattle.line_counts_bonds.specs.declared.Counts.{Counts}
use Rattle.line_atom.specs.declared.Atom.{Atom}
use Rattle.judge_line.specs.declared.Refusal.{Refusal}
use Rattle.line_counts_bonds.specs.declared.Bond.{Bond}
use Rattle.line_property.specs.Listed.{seen_of, places, emptied}
use Rattle.line_property.specs.Emptied.{emptied_size}
use Rattle.reader_state.proofs.Few.{atoms_few}
use Rattle.line_property.specs.Answer.{property_read}
use Rattle.line_property.specs.Kept as E
use Rattle.line_property.specs.declared.PropertyLine.{PropertyLine}
use Rattle.line_text.specs.Answer.{header_got, item_got, item_in, value_got}
use Rattle.line_text.specs.Within.{title_order, title_end}
use Rattle.line_text.specs.declared.ItemLine.{ItemLine}
use Rattle.line_text.specs.declared.ValueKind.{ValueKind}
use Rattle.reader_places.specs.declared.Place.{Place}
use Rattle.reader_places.specs.declared.Place.TheVariants as P
use Rattle.reader_state.specs.declared.Reader.{Reader}
use Rattle.reader_state.specs.declared.Step.{Step}
use Rattle.reader_places.specs.Places.{bonds_owed, atoms_owed, after_end, longest_in, line_got}
use Rattle.reader_state.specs.LineRead.{step_got, emptied_by, Went, on, headed, atom, bond, ended, title, value, blank, done, moved, counted, after_property, entered_by, header_in, line_in, went_of, Kept, Owing, Sane}
use Rattle.reader_state.specs.StateParts.{title_in, KeptAt}

-- ---- a step that is no title

module _ (l : Line) (r : Reader) where
  pub next_in : title_in l (Ok (Step.Next r))
  unfolding title_in
  next_in = tt

  pub headed_in : title_in l (Ok (Step.Headed r))
  unfolding title_in
  headed_in = tt

  pub atom_in : (a : Atom) → title_in l (Ok (Step.Atom r a))
  unfolding title_in
  atom_in a = tt

  pub bond_in : (b : Bond) → title_in l (Ok (Step.Bond r b))
  unfolding title_in
  bond_in b = tt

  pub ended_in : title_in l (Ok (Step.Ended r))
  unfolding title_in
  ended_in = tt

  pub value_in : title_in l (Ok (Step.Value r))
  unfolding title_in
  value_in = tt

  pub blank_in : title_in l (Ok (Step.Blank r))
  unfolding title_in
  blank_in = tt

pub done_in : (l : Line) → title_in l (Ok Step.Done)
unfolding title_in
done_in l = tt

pub refused_in : (l : Line) (r : Refusal) → title_in l (Err r)
unfolding title_in
refused_in l r = tt

pub ruleset untitled = (next_in, headed_in, atom_in, bond_in, ended_in, value_in, blank_in, done_in, refused_in)

-- a refusal that is handed on
module _ (l : Line) (y : Result Step Refusal) (r : Refusal) (is : IsErrAnd y (λ e. e ≡ r)) where
  pub step_back : (g : Got Went) → bad r.no r.column ≡ g → step_got l y ≡ g
  step_back g e = go y is
    where
      go : (z : Result Step Refusal) → IsErrAnd z (λ f. f ≡ r) → step_got l z ≡ g
      go (Ok u) h = absurd h
      go (Err f) h = rw h e

  pub untitled_back : title_in l y
  unfolding title_in
  untitled_back = go y is
    where
      go : (z : Result Step Refusal) → IsErrAnd z (λ f. f ≡ r) → title_in l z
      go (Ok u) h = absurd h
      go (Err f) h = tt

-- ---- header lines

module _ (r : Reader) (l : Line) (v : Result (Unit {0}) Refusal) (e : header_got l v ≡ J.first_header_of l) where
  pub first_next : (m : Reader) → v ≡ Ok tt → m ≡ moved r (P.Header 2) → got (on m) ≡ header_in r 3 l
  unfolding header_in then
  first_next m h k = rw (← e, h, k)

  pub first_stop : (f : Refusal) → v ≡ Err f → bad f.no f.column ≡ header_in r 3 l
  unfolding header_in then
  first_stop f h = rw (← e, h)

module _ (r : Reader) (owed : ℕ) (l : Line) where
  pub header_first : (g : Got Went) → owed ≡ 3 → g ≡ header_in r 3 l → g ≡ header_in r owed l
  header_first g h k = rw h k

  pub header_second : (m : Reader) → owed ≡ 2 → m ≡ moved r (P.Header 1) → got (on m) ≡ header_in r owed l
  unfolding header_in
  header_second m h k = rw (h, k)

  pub header_third : (m : Reader) → (owed ≡ 3 → ⊥) → (owed ≡ 2 → ⊥) → m ≡ moved r P.Counts → got (headed m) ≡ header_in r owed l
  unfolding header_in
  header_third m h k e = rw (ne_eqb owed 3 h, ne_eqb owed 2 k, e)

pub ruleset header_laws = (first_next, first_stop, header_first, header_second, header_third)

-- ---- the counts line

pub counted_is : (r : Reader) (c : Counts) (p : Place) → p ≡ atoms_owed c.atoms c.bonds → ◌≡◌ {A = Reader} (record { sd = r.sd; place = p; counts = c }) (counted r (counts_is c))
counted_is r c p e = rw e

module _ (r : Reader) (t : List ℕ) (l : Line) (v : Result Counts Refusal) (e : counts_got v ≡ J.counts_of limit l) where
  pub counts_next : (c : Counts) (m : Reader) → v ≡ Ok c → m ≡ counted r (counts_is c) → got (on m) ≡ line_in r P.Counts t l
  unfolding line_in then
  counts_next c m h k = rw (← e, h, k)

  pub counts_stop : (f : Refusal) → v ≡ Err f → bad f.no f.column ≡ line_in r P.Counts t l
  unfolding line_in then
  counts_stop f h = rw (← e, h)

  counts_are : (c : Counts) → v ≡ Ok c → J.counts_of limit l ≡ got (counts_is c)
  counts_are c h = sym e ∙ ap counts_got h

  pub counts_few : (c : Counts) → v ≡ Ok c → c.atoms ≤ limit
  counts_few c h = atoms_few l (counts_is c) (counts_are c h)

  pub counts_emptied : (c : Counts) (t' : List ℕ) → v ≡ Ok c → t' ≡ emptied (c.atoms + 1) t → KeptAt r P.Counts t l t'
  counts_emptied c t' h k = record { kept = λ w q. k ∙ ap (emptied_by t) (sym (counts_are c h)) }

  pub counts_refused : (f : Refusal) (t' : List ℕ) → v ≡ Err f → KeptAt r P.Counts t l t'
  counts_refused f t' h = record { kept = λ w q. bad_got (counts_stop f h ∙ q) }

pub table_size : (k : ℕ) (t t' : List ℕ) → t' ≡ emptied k t → length t ≡ 3 * places → length t' ≡ 3 * places
table_size k t t' e h = rw e (emptied_size k t ∙ h)

pub ruleset counts_laws = (counts_next, counts_stop, counts_few, counts_emptied, counts_refused, table_size)

-- ---- atom and bond lines

module _ (r : Reader) (owed : ℕ) (t : List ℕ) (l : Line) (v : Result Atom Refusal) (e : atom_got v ≡ J.atom_of r.counts.atoms l) where
  pub atoms_next_lem : (a : Atom) (p : Place) (m : Reader) → v ≡ Ok a → p ≡ atoms_owed (owed - 1) r.counts.bonds → m ≡ moved r p → got (atom m (atom_is a)) ≡ line_in r (P.Atoms owed) t l
  unfolding line_in then
  atoms_next_lem a p m h k q = rw (← e, h, q, k)

  pub atoms_stop : (f : Refusal) → v ≡ Err f → bad f.no f.column ≡ line_in r (P.Atoms owed) t l
  unfolding line_in then
  atoms_stop f h = rw (← e, h)

module _ (r : Reader) (owed : ℕ) (t : List ℕ) (l : Line) (v : Result Bond Refusal) (e : bond_got v ≡ J.bond_of r.counts.atoms l) where
  pub bonds_next_lem : (b : Bond) (p : Place) (m : Reader) → v ≡ Ok b → p ≡ bonds_owed (owed - 1) → m ≡ moved r p → got (bond m (bond_is b)) ≡ line_in r (P.Bonds owed) t l
  unfolding line_in then
  bonds_next_lem b p m h k q = rw (← e, h, q, k)

  pub bonds_stop : (f : Refusal) → v ≡ Err f → bad f.no f.column ≡ line_in r (P.Bonds owed) t l
  unfolding line_in then
  bonds_stop f h = rw (← e, h)

pub ruleset atoms_laws = (atoms_next_lem, atoms_stop)

pub ruleset bonds_laws = (bonds_next_lem, bonds_stop)

-- ---- property lines

-- by what was read alone, since a property itself is not read
abbrev read_went : Reader → Result PropertyLine Refusal → Got Went
read_went r (Ok PropertyLine.Listed) = got (on r)
read_went r (Ok PropertyLine.End) = got (ended (moved r (after_end r.sd)))
read_went r (Err f) = bad f.no f.column

read_went_lem : (r : Reader) (g : Got J.PropertyOrEnd) → read_went r (property_read g) ≡ then g (λ p. got (after_property r p))
unfolding then
read_went_lem r (got (J.property p)) = refl
read_went_lem r (got J.last) = refl
read_went_lem r (bad e column) = refl

module _ (r : Reader) (t : List ℕ) (l : Line) where
  abbrev judged : Got J.PropertyOrEnd
  judged = J.property_of r.counts.atoms (seen_of r.counts.atoms t) l

  module _ (v : Result PropertyLine Refusal) (e : v ≡ property_read judged) where
    properties_went : read_went r v ≡ line_in r P.Properties t l
    unfolding line_in
    properties_went = ap (read_went r) e ∙ read_went_lem r judged

    pub properties_next : v ≡ Ok PropertyLine.Listed → got (on r) ≡ line_in r P.Properties t l
    properties_next h = ap (read_went r) (sym h) ∙ properties_went

    pub properties_end : (p : Place) (m : Reader) → v ≡ Ok PropertyLine.End → p ≡ after_end r.sd → m ≡ moved r p → got (ended m) ≡ line_in r P.Properties t l
    properties_end p m h k q = rw (q, k) (ap (read_went r) (sym h) ∙ properties_went)

    pub properties_stop : (f : Refusal) → v ≡ Err f → bad f.no f.column ≡ line_in r P.Properties t l
    properties_stop f h = ap (read_went r) (sym h) ∙ properties_went

  kept_by : (t' : List ℕ) (x : J.PropertyOrEnd) → E.Kept r.counts.atoms t l t' → judged ≡ got x → t' ≡ entered_by t (got x)
  kept_by t' (J.property p) k e = k.entered p e
  kept_by t' J.last k e = k.same e

  pub properties_kept : (t' : List ℕ) → E.Kept r.counts.atoms t l t' → KeptAt r P.Properties t l t'
  unfolding line_in
  properties_kept t' k = record { kept = there }
    where
      there : (w : Went) → then judged (λ p. got (after_property r p)) ≡ got w → t' ≡ entered_by t judged
      there w q =
          let g = then_got judged (λ p. got (after_property r p)) w q in
          kept_by t' g.0 k g.1 ∙ ap (entered_by t) (sym g.1)

pub properties_size : (n : ℕ) (t : List ℕ) (l : Line) (t' : List ℕ) → E.Kept n t l t' → length t ≡ 3 * places → length t' ≡ 3 * places
properties_size n t l t' k h = k.size ∙ h

pub ruleset properties_laws = (properties_next, properties_end, properties_stop, properties_kept, properties_size)

-- ---- data items

module _ (r : Reader) (t : List ℕ) (l : Line) (v : Result ItemLine Refusal) (e : item_got l v ≡ J.item_of l) where
  pub items_title : (from to : ℕ) (m : Reader) → v ≡ Ok (ItemLine.Title from to) → m ≡ moved r P.Values → got (title m (take (to - from) (drop from l))) ≡ line_in r P.Items t l
  unfolding line_in then
  items_title from to m h k = rw (← e, h, k)

  pub items_close : v ≡ Ok ItemLine.Close → got done ≡ line_in r P.Items t l
  unfolding line_in then
  items_close h = rw (← e, h)

  pub items_stop : (f : Refusal) → v ≡ Err f → bad f.no f.column ≡ line_in r P.Items t l
  unfolding line_in then
  items_stop f h = rw (← e, h)

pub items_in : (l : Line) (v : Result ItemLine Refusal) (from to : ℕ) (m : Reader) → item_in l v → v ≡ Ok (ItemLine.Title from to) → title_in l (Ok (Step.Title m from to))
unfolding title_in
items_in l v from to m h e = (title_order l v from to h e, title_end l v from to h e)

pub ruleset items_laws = (items_title, items_close, items_stop, items_in)

module _ (r : Reader) (t : List ℕ) (l : Line) (v : Result ValueKind Refusal) (e : value_got v ≡ J.value_of l) where
  pub values_value : v ≡ Ok ValueKind.Value → got (value r) ≡ line_in r P.Values t l
  unfolding line_in then
  values_value h = rw (← e, h)

  pub values_blank : (m : Reader) → v ≡ Ok ValueKind.Blank → m ≡ moved r P.Items → got (blank m) ≡ line_in r P.Values t l
  unfolding line_in then
  values_blank m h k = rw (← e, h, k)

  pub values_stop : (f : Refusal) → v ≡ Err f → bad f.no f.column ≡ line_in r P.Values t l
  unfolding line_in then
  values_stop f h = rw (← e, h)

pub ruleset values_laws = (values_value, values_blank, values_stop)

-- ---- all places

-- places at which the table is neither read nor changed
abbrev untabled : Place → Type 0
untabled (P.Header owed) = Unit {0}
untabled P.Counts = ⊥
untabled (P.Atoms owed) = Unit {0}
untabled (P.Bonds owed) = Unit {0}
untabled P.Properties = ⊥
untabled P.Over = Unit {0}
untabled P.Items = Unit {0}
untabled P.Values = Unit {0}

any_table : (r : Reader) (p : Place) (t : List ℕ) (l : Line) → untabled p → line_in r p [] l ≡ line_in r p t l
unfolding line_in
any_table r (P.Header owed) t l h = refl
any_table r P.Counts t l h = absurd h
any_table r (P.Atoms owed) t l h = refl
any_table r (P.Bonds owed) t l h = refl
any_table r P.Properties t l h = absurd h
any_table r P.Over t l h = refl
any_table r P.Items t l h = refl
any_table r P.Values t l h = refl

same_table : (r : Reader) (p : Place) (t : List ℕ) (l : Line) → untabled p → KeptAt r p t l t
same_table r (P.Header owed) t l h = record { kept = λ w q. refl }
same_table r P.Counts t l h = absurd h
same_table r (P.Atoms owed) t l h = record { kept = λ w q. refl }
same_table r (P.Bonds owed) t l h = record { kept = λ w q. refl }
same_table r P.Properties t l h = absurd h
same_table r P.Over t l h = record { kept = λ w q. refl }
same_table r P.Items t l h = record { kept = λ w q. refl }
same_table r P.Values t l h = record { kept = λ w q. refl }

module _ (r : Reader) (t : List ℕ) (l : Line) (p : Place) (e : r.place ≡ p) where
  pub place_is : (g : Got Went) → g ≡ line_in r p t l → g ≡ line_in r r.place t l
  place_is g h = h ∙ ap (λ (q : Place). line_in r q t l) (sym e)

  pub place_untabled : (g : Got Went) → untabled p → g ≡ line_in r p [] l → g ≡ line_in r r.place t l
  place_untabled g u h = place_is g (h ∙ any_table r p t l u)

  pub kept_is : (t' : List ℕ) → KeptAt r p t l t' → KeptAt r r.place t l t'
  kept_is t' h = subst (λ (q : Place). KeptAt r q t l t') (sym e) h

  pub kept_same : untabled p → KeptAt r r.place t l t
  kept_same u = kept_is t (same_table r p t l u)

pub place_header : (r : Reader) (t : List ℕ) (l : Line) (owed : ℕ) (g : Got Went) → r.place ≡ P.Header owed → g ≡ header_in r owed l → g ≡ line_in r r.place t l
unfolding line_in
place_header r t l owed g e h = place_is r t l (P.Header owed) e g h

pub place_over : (r : Reader) (t : List ℕ) (l : Line) → r.place ≡ P.Over → bad 18 1 ≡ line_in r r.place t l
unfolding line_in
place_over r t l e = place_is r t l P.Over e (bad 18 1) refl

pub atoms_owing : (r : Reader) (owed : ℕ) → Sane r → r.place ≡ P.Atoms owed → 1 ≤ owed
atoms_owing r owed s e = (subst Owing e s.owing).0

pub bonds_owing : (r : Reader) (owed : ℕ) → Sane r → r.place ≡ P.Bonds owed → 1 ≤ owed
bonds_owing r owed s e = (subst Owing e s.owing).0

pub ruleset place_laws = (place_is, place_untabled, place_header, place_over, kept_is, kept_same, atoms_owing, bonds_owing)

-- ---- a whole step

longest_most : (p : Place) → longest_in p ≤ 200
longest_most (P.Header owed) = omega arith
longest_most P.Counts = omega arith
longest_most (P.Atoms owed) = omega arith
longest_most (P.Bonds owed) = omega arith
longest_most P.Properties = omega arith
longest_most P.Over = omega arith
longest_most P.Items = omega arith
longest_most P.Values = omega arith

pub longest_is : (n : ℕ) (p : Place) → n ≡ longest_in p → n ≤ 200
longest_is n p e = let h = longest_most p in omega arith

within_by : {A : Type 0} (longest : ℕ) (l : Line) (x : Got A) (b : Bool) (found : Option ℕ) →
    then (need b 3 (suc longest) (none_found 4 found (got l))) (λ k. x) ≡ need b 3 (suc longest) (none_found 4 found x)
unfolding then need
within_by longest l x true (Some i) = refl
within_by longest l x true None = refl
within_by longest l x false found = refl

within_then : {A : Type 0} (longest : ℕ) (l : Line) (x : Got A) → then (within longest l (got l)) (λ k. x) ≡ within longest l x
unfolding within
within_then longest l x = within_by longest l x (leb (length l) longest) (bad_column l)

module _ (r : Reader) (t : List ℕ) (l : Line) (n : ℕ) (v : Result (Unit {0}) Refusal) (p : n ≡ longest_in r.place) (e : line_got l v ≡ within n l (got l)) where
  step_by : (x : Result (Unit {0}) Refusal) → v ≡ x → then (line_got l x) (λ k. line_in r r.place t l) ≡ went_of r t l
  unfolding went_of
  step_by x h =
      ap (λ (g : Got Line). then g (λ k. line_in r r.place t l)) (ap (line_got l) (sym h) ∙ (e ∙ ap (λ (m : ℕ). within m l (got l)) p))
      ∙ within_then (longest_in r.place) l (line_in r r.place t l)

  pub step_good : (g : Got Went) → v ≡ Ok tt → g ≡ line_in r r.place t l → g ≡ went_of r t l
  unfolding then
  step_good g h k = k ∙ step_by (Ok tt) h

  pub step_stop : (f : Refusal) → v ≡ Err f → bad f.no f.column ≡ went_of r t l
  unfolding then
  step_stop f h = step_by (Err f) h

  pub step_refused : (f : Refusal) (t' : List ℕ) → v ≡ Err f → Kept r t l t'
  step_refused f t' h = record { kept = λ w q. bad_got (step_stop f h ∙ q) }

pub step_kept : (r : Reader) (t : List ℕ) (l : Line) (t' : List ℕ) → KeptAt r r.place t l t' → Kept r t l t'
unfolding went_of
step_kept r t l t' k = record { kept = λ w q. k.kept w (within_got (longest_in r.place) l (line_in r r.place t l) w q).1 }

pub ruleset step_laws = (longest_is, step_good, step_stop, step_refused, step_kept)
