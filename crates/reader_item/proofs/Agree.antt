-- A fetch keeps its promise, and any two answers that keep it are equal.
use Rattle.std.specs.Prelude.{ℕ, suc, ◌+◌, ◌-◌, ◌≡◌, refl, List, [], ◌∷◌, length, drop}
use Rattle.std.proofs.Common.{zero-add, arith, sym, ap₂, ◌∙◌, subst}
use Rattle.std.proofs.Math.Path.{ap}
use Rattle.std.proofs.Math.ListN.{take}
use Rattle.text.specs.Text.{Bytes, Line, Lines}
use Rattle.text.specs.Cut.{cut, cut_is}
use Rattle.rules.specs.Record.{Raw, Record, limit}
use Rattle.rules.proofs.Unique.{record_one}
use Rattle.rules.specs.Viable.{Viable, ARecord, first_dead}
use Rattle.judge_file.specs.One.{One, one_record}
use Rattle.judge_file.proofs.OneAgree.{one_whole, one_refused, one_short}
use Rattle.judge_file.specs.WalkText.{after_lines}
use Rattle.reader_walk.specs.Outcome.{whole, outcome_of, of_one}
use Rattle.reader_walk.specs.Stands.{molecule_lines}
use Rattle.reader_item.specs.declared.Part.{Part}
use Rattle.reader_item.specs.Find.{to_of, Said, item, refused, after, spot_of, said_by, found_by, found_of, stretch_of, part_of}
use Rattle.reader_item.specs.Position.{Past, past_join, past_molecule}
use Rattle.judge_refusals.proofs.Because.{one_because}
use Rattle.judge_refusals.specs.NoRecord.{NoRecord}
use Rattle.reader_item.specs.Promise.{NoneNamed, ItemIn, Joined, Stretch, FoundAt, RefusedAt, Fetched, Promised, Address, Handed}
use Rattle.reader_item.specs.First.{none_first, first_lead, Hunted, stretch_one}
use Rattle.reader_item.proofs.First.{item_one, hunted, stretch}
use Rattle.reader_item.specs.Agree.{not_refused, the_record, is_cut}

-- ---- What a fetch finds in a text

module _ (s name : Bytes) where
  -- the judge's four outcomes
  data View : Type 0 where
    stop : {e i c : ℕ} → one_record limit (cut s).lines ≡ One.refused e i c → found_of s name ≡ refused e i c → View
    short : {i : ℕ} → one_record limit (cut s).lines ≡ One.short i → found_of s name ≡ refused 19 i 1 → View
    none : {x : Raw} {more : List Line} → Record limit (cut s).lines x more → NoneNamed name x.items → found_of s name ≡ refused 22 0 0 → View
    found : {v vs : List Line} (j : ℕ) → ItemIn name (cut s).lines v vs → Past j (cut s).lines v →
        found_of s name ≡ said_by s (after j (length vs)) → View

  found_by_lem : (o : One) → one_record limit (cut s).lines ≡ o → found_of s name ≡ found_by s name (of_one o)
  unfolding found_of outcome_of
  found_by_lem o e = ap (λ (o : One). found_by s name (of_one o)) e

  view_record : {ls more : List Line} {x : Raw} → (cut s).lines ≡ ls → Record limit ls x more → found_of s name ≡ said_by s (spot_of name (molecule_lines x.molecule) x.items) → View
  view_record {ls = ls} e (Record.record_of {u = u} {r = more} {m = m} {is = is} p i) h = go (hunted name i)
    where
      go : Hunted name u is → View
      go (Hunted.none n f) =
          View.none (subst (λ (t : List Line). Record limit t (record { molecule = m; items = is }) more) (sym e) (Record.record_of p i)) n
          (h ∙ ap (said_by s) (f (molecule_lines m)))
      go (Hunted.found {v = v} {vs = vs} d f past at) =
          View.found (molecule_lines m + d)
          (subst (λ (t : List Line). ItemIn name t v vs) (sym e)
          (record { x = record { molecule = m; items = is }; after_molecule = u; after_record = more; molecule = p; items = i; first = f }))
          (subst (λ (t : List Line). Past (molecule_lines m + d) t v) (sym e) (past_join (molecule_lines m) d ls u v (past_molecule p) past))
          (h ∙ ap (said_by s) (at (molecule_lines m)))

  view : View
  view = go (one_record limit (cut s).lines) refl
    where
      go : (o : One) → one_record limit (cut s).lines ≡ o → View
      go (One.whole x k more) e = view_record refl ((one_whole limit (cut s).lines x k more).0 e).0 (found_by_lem (One.whole x k more) e)
      go (One.refused n i c) e = View.stop e (found_by_lem (One.refused n i c) e)
      go (One.short i) e = View.short e (found_by_lem (One.short i) e)

  apart : {X : Type 0} {a b e i c : ℕ} → item a b ≡ refused e i c → X
  apart h = absurd (let z : ◌≡◌ {A = ℕ} 0 1 = cc in omega arith)

  no_record : {X : Type 0} {i : ℕ} {x : Raw} {more : List Line} → one_record limit (cut s).lines ≡ One.short i → Record limit (cut s).lines x more → X
  no_record {i = i} {x = x} {more = more} h r = absurd ((one_short limit (omega arith) (cut s).lines i h).2 (x, more, r))

  not_none : {X : Type 0} {v vs more : List Line} {x : Raw} → ItemIn name (cut s).lines v vs → Record limit (cut s).lines x more → NoneNamed name x.items → X
  not_none it r n = absurd (none_first name it.items (subst (λ (y : Raw). NoneNamed name y.items) (record_one r (the_record it)).0 n) it.first)

  -- ---- An item that is there is found

  record Located (v vs : List Line) : Type 0 where
    pub j : ℕ
    pub past : Past j (cut s).lines v
    pub said : found_of s name ≡ said_by s (after j (length vs))

  located : {v vs : List Line} → ItemIn name (cut s).lines v vs → Located v vs
  located {v = v} {vs = vs} it = go view
    where
      go : View → Located v vs
      go (View.stop h e) = not_refused (the_record it) h
      go (View.short h e) = no_record h (the_record it)
      go (View.none r n e) = not_none it r n
      go (View.found j other past e) =
          let same = item_one name other it in
          record { j = j; past = subst (Past j (cut s).lines) same.0 past; said = e ∙ ap (λ (ws : List Line). said_by s (after j (length ws))) same.1 }

  the_stretch : {v vs : List Line} {l : Line} (it : ItemIn name (cut s).lines v (l ∷ vs)) (at : Located v (l ∷ vs)) →
      Stretch s (cut s).lines v (l ∷ vs) (after_lines s 0 at.j) (to_of s (after_lines s 0 at.j) (suc (length vs)))
  the_stretch {v = v} {vs = vs} {l = l} it at =
      let f = first_lead name it.first in
      stretch s at.j v vs l at.past f.0 (omega (arith, f.1))

  pub found_is : {from to : ℕ} → FoundAt s name from to → found_of s name ≡ item from to
  found_is (FoundAt.some_values {v = v} {vs = vs} {l = l} {from = from} {to = to} h it st) =
      let here = subst (λ (t : List Line). ItemIn name t v (l ∷ vs)) (is_cut s name h) it in
      let at = located here in
      let same = stretch_one s (the_stretch here at) (subst (λ (t : List Line). Stretch s t v (l ∷ vs) from to) (is_cut s name h) st) in
      at.said ∙ ap₂ item same.0 same.1
  found_is (FoundAt.no_values {v = v} h it) = (located (subst (λ (t : List Line). ItemIn name t v []) (is_cut s name h) it)).said

  pub is_found : (from to : ℕ) → found_of s name ≡ item from to → FoundAt s name from to
  is_found from to q = go view
    where
      at_values_lem : {v : List Line} (vs : List Line) → ItemIn name (cut s).lines v vs → Located v vs → FoundAt s name from to
      at_values_lem [] it at =
          let z : item 0 0 ≡ item from to = sym at.said ∙ q in
          let a : 0 ≡ from = cc in
          let b : 0 ≡ to = cc in
          subst (FoundAt s name from) b (subst (λ (i : ℕ). FoundAt s name i 0) a (FoundAt.no_values (cut_is s) it))
      at_values_lem {v = v} (l ∷ vs) it at =
          let z = sym at.said ∙ q in
          let a : after_lines s 0 at.j ≡ from = cc in
          let b : to_of s (after_lines s 0 at.j) (suc (length vs)) ≡ to = cc in
          FoundAt.some_values (cut_is s) it
          (subst (Stretch s (cut s).lines v (l ∷ vs) from) b
          (subst (λ (i : ℕ). Stretch s (cut s).lines v (l ∷ vs) i (to_of s (after_lines s 0 at.j) (suc (length vs)))) a (the_stretch it at)))

      go : View → FoundAt s name from to
      go (View.stop h e) = apart (sym q ∙ e)
      go (View.short h e) = apart (sym q ∙ e)
      go (View.none r n e) = apart (sym q ∙ e)
      go (View.found {vs = vs} j it past e) = at_values_lem vs it (record { j = j; past = past; said = e })

  -- ---- Refusals

  refused_as : {e i c e' i' c' : ℕ} → refused e i c ≡ refused e' i' c' → RefusedAt s name e i c → RefusedAt s name e' i' c'
  refused_as {e = e} {i = i} {c = c} {e' = e'} {i' = i'} {c' = c'} q r =
      let a : e ≡ e' = cc in
      let b : i ≡ i' = cc in
      let d : c ≡ c' = cc in
      subst (RefusedAt s name e' i') d (subst (λ (k : ℕ). RefusedAt s name e' k c) b (subst (λ (n : ℕ). RefusedAt s name n i c) a r))

  pub is_refused : (e i c : ℕ) → found_of s name ≡ refused e i c → RefusedAt s name e i c
  is_refused e i c q = go view
    where
      go : View → RefusedAt s name e i c
      go (View.stop {e = n} {i = k} {c = d} h f) =
          let m = one_refused limit (omega arith) (cut s).lines n k d h in
          refused_as (sym f ∙ q) (RefusedAt.no_record (NoRecord.line (cut_is s) m.0 m.1 m.2 ((one_because limit (cut s).lines n k d).0 h)))
      go (View.short {i = k} h f) =
          let m = one_short limit (omega arith) (cut s).lines k h in
          refused_as (ap (λ (j : ℕ). refused 19 j 1) (sym m.0) ∙ sym f ∙ q) (RefusedAt.no_record (NoRecord.cut_short (cut_is s) m.1 m.2))
      go (View.none r n f) = refused_as (sym f ∙ q) (RefusedAt.no_item (cut_is s) r n)
      go (View.found j it past f) = apart (sym f ∙ q)

  pub refused_is : {e i c : ℕ} → RefusedAt s name e i c → found_of s name ≡ refused e i c
  refused_is (RefusedAt.no_record (NoRecord.line {ls = ls} {e = e} {i = i} {column = c} h m k d o)) =
      found_by_lem (One.refused e i c) (ap (one_record limit) (sym (is_cut s name h)) ∙ (one_because limit ls e i c).1 o)
  refused_is (RefusedAt.no_record (NoRecord.cut_short {ls = ls} h v w)) = go view
    where
      go : View → found_of s name ≡ refused 19 (suc (length ls)) 1
      go (View.stop {e = e} {i = i} {c = c} o f) =
          let d = (one_refused limit (omega arith) (cut s).lines e i c o).2 in
          let u = subst (Viable (ARecord limit)) (is_cut s name h) v in
          absurd (first_dead (ARecord limit) (cut s).lines i d u.0 u.1)
      go (View.short {i = i} o f) =
          let m = one_short limit (omega arith) (cut s).lines i o in
          f ∙ ap (λ (k : ℕ). refused 19 k 1) (m.0 ∙ ap (λ (t : List Line). suc (length t)) (sym (is_cut s name h)))
      go (View.none {x = x} {more = more} r n f) = absurd (w (x, more, subst (λ (t : List Line). Record limit t x more) (sym (is_cut s name h)) r))
      go (View.found j it past f) =
          let x : Raw = record { molecule = it.x.molecule; items = it.x.items } in
          absurd (w (x, it.after_record, subst (λ (t : List Line). Record limit t x it.after_record) (sym (is_cut s name h)) (the_record it)))
  refused_is (RefusedAt.no_item {more = more} {x = x} h r n) = go view
    where
      here : Record limit (cut s).lines x more
      here = subst (λ (t : List Line). Record limit t x more) (is_cut s name h) r

      go : View → found_of s name ≡ refused 22 0 0
      go (View.stop o f) = not_refused here o
      go (View.short o f) = no_record o here
      go (View.none k m f) = f
      go (View.found j it past f) = not_none it here n

  pub fetched : Fetched s name (found_of s name)
  fetched = record { finds = λ from to. (is_found from to, found_is); refuses = λ e i column. (is_refused e i column, refused_is) }

-- ---- The functions keep it

pub promised : (s name : Bytes) (r : Said) → r ≡ found_of s name → Promised s name r
promised s name r e = record { judged = e; fetched = subst (Fetched s name) (sym e) (fetched s name) }

pub ruleset promise_laws = (promised)

-- as `fetch` takes the part: x is what the search found, and d its stretch
pub handed : (p : Address) (s name : Bytes) (x : Said) (d : Part) → Promised s name x → d ≡ stretch_of x →
    Handed p s name (p.0, d.from + p.1) (take (d.to - d.from) (drop d.from s))
unfolding part_of
handed p s name x d h e =
    record {
      said = x;
      promised = h;
      stands = ap (λ (y : Part). (p.0, y.from + p.1)) e;
      part = ap (λ (y : Part). take (y.to - y.from) (drop y.from s)) e;
    }

-- nothing is handed back from the start, where the fetch is refused and where the item has no value lines
module _ {p : Address} {s name : Bytes} {q : Address} {bs : Bytes} (h : Handed p s name q bs) where
  from_start : (x : Said) → found_of s name ≡ x → stretch_of x ≡ record { from = 0; to = 0 } → (q ≡ p) × (bs ≡ [])
  unfolding part_of
  from_start x e z =
      let same : h.said ≡ x = h.promised.judged ∙ e in (
        h.stands ∙ ap (λ (y : Said). (p.0, (stretch_of y).from + p.1)) same ∙ ap (λ (d : Part). (p.0, d.from + p.1)) z ∙ ap (λ (k : ℕ). (p.0, k)) (zero-add p.1),
        h.part ∙ ap (λ (y : Said). part_of y s) same ∙ ap (λ (d : Part). take (d.to - d.from) (drop d.from s)) z,
      )

  pub handed_refused : {e i c : ℕ} → RefusedAt s name e i c → (q ≡ p) × (bs ≡ [])
  handed_refused {e = e} {i = i} {c = c} r = from_start (refused e i c) (refused_is s name r) refl

  pub handed_no_values : {ls v : List Line} {rest : Bytes} → Lines s ls rest → ItemIn name ls v [] → (q ≡ p) × (bs ≡ [])
  handed_no_values l it = from_start (item 0 0) (found_is s name (FoundAt.no_values l it)) refl

-- the bytes handed back are the value lines
pub handed_values : (p : Address) (s name : Bytes) (q : Address) (bs : Bytes) {ls v vs : List Line} {l : Line} {rest : Bytes} → Handed p s name q bs → Lines s ls rest → ItemIn name ls v (l ∷ vs) → Joined (l ∷ vs) bs
unfolding part_of
handed_values p s name q bs {v = v} {vs = vs} {l = l} h lines it =
    let here = subst (λ (t : List Line). ItemIn name t v (l ∷ vs)) (is_cut s name lines) it in
    let at = located s name here in
    subst (Joined (l ∷ vs)) (sym (h.part ∙ ap (λ (x : Said). part_of x s) (h.promised.judged ∙ at.said))) (the_stretch s name here at).values
