-- The comparison in the facts that the code has.
use Rattle.std.specs.Prelude.{Result, Ok, Err, ℕ, zero, suc, ◌+◌, ◌*◌, ◌-◌, ◌≤◌, ◌<◌, ◌≡◌, Bool, true, cond, eqb, length, take, drop, replicate, ℤ}
use Rattle.std.proofs.Common.{arith, sym, ap₂, ◌∙◌, subst, eq-eqb, ne_eqb}
use Rattle.std.proofs.Math.Path.{refl, ap}
use mathlib.Core.List.{List, [], ◌∷◌}
use Rattle.std.proofs.Math.Bool.{false}
use Rattle.std.proofs.Math.ListN.{get_or}
use Rattle.std.proofs.lemmas.List.Edits.{sets}
use Rattle.text.specs.Text.{Bytes, Line}
use Rattle.rules.specs.Record.{Raw}
use Rattle.judge_file.specs.Place.{sdfile}
use Rattle.judge_file.specs.Verdict.{accepted, refused}
use Rattle.judge_file.specs.SameVerdict.{same_numbers}
use Rattle.judge_refusals.specs.NoRecord.{NoRecord}
use Rattle.reader_walk.specs.Stands.{molecule_lines}
use Rattle.reader_item.specs.Find as F
use Rattle.reader_item.specs.Find.{Spot, spot_of, said_by, found_by, found_of}
use Rattle.reader_item.specs.Promise.{NoneNamed, RefusedAt}
use Rattle.reader_item.proofs.Agree.{refused_is}
use Rattle.reader_item.specs.Beyond.{FirstNamed}
use Rattle.reader_answer.specs.declared.RecordRead.{RecordRead}
use Rattle.reader_answer.specs.Promise.{Reply, numbers_of, Begins, Roomy, ReadPromise}
use Rattle.reader_answer.specs.Told.{begins_outcome, begins_one}
use Rattle.reader_first_line.specs.declared.FirstLine.{FirstLine}
use Rattle.reader_first_line.specs.Promise.{FirstAt, FirstPromise}
use Rattle.formula_rules.specs.Formula.{Element, elements, Trees, Formula}
use Rattle.formula_rules.specs.Depth.{TreesIn, deepest}
use Rattle.formula_rules.specs.Total.{count_trees}
use Rattle.formula_rules.specs.Verdict.{Few, Verdict, counts, Judged, Difference, differing, differences, numbers}
use Rattle.formula_rules.specs.Verdict as W
use Rattle.formula_rules.specs.Parse.{formula_of}
use Rattle.formula_rules.proofs.Complete.{formula_complete}
use Rattle.formula_rules.specs.Sums.{Below}
use Rattle.formula_rules.specs.Judged.{empty, sums_of, counts_of, verdict_of, number_of}
use Rattle.formula_rules.proofs.Judged.{sum_exact, judged}
use Rattle.formula_drawn.specs.Drawn.{symbols_from, only_elements, how_many, tallied}
use Rattle.formula_drawn.specs.Tallying.{tally_entry, symbols_length}
use Rattle.formula_drawn.specs.Listing.{entry}
use Rattle.formula_record.specs.Said.{Said, formula_name, symbols, value_of, by_verdict, by_value, said_of, told_of, found_in, zeros, room, answer_of, found_after}
use Rattle.formula_record.specs.Promise.{ComparePromise}
use Rattle.formula_record.specs.Values.{value_none, value_first}
use Rattle.formula_record.specs.Agree.{good_said, record_number, refused_said, with_room, has_room, promised}
use Rattle.formula_record.specs.Ready.{Ready, no_room, read_room, ready}
use Rattle.judge_file.specs.declared.TextRefusal.{TextRefusal}

-- ---- The list emptied

pub zeros_are : replicate 354 0 ≡ zeros
unfolding zeros
zeros_are = refl

pub kept_two : (e : ℕ) (f : List ℕ) → e ≡ 2 → f ≡ cond (eqb e 2) f zeros
kept_two e f h = rw (eq-eqb e 2 h)

pub emptied : (e : ℕ) (f : List ℕ) → (e ≡ 2 → ⊥) → replicate 354 0 ≡ cond (eqb e 2) f zeros
emptied e f h = rw (ne_eqb e 2 h) zeros_are

-- ---- A line

-- the same numbers differ
same_differing : (w d v c : ℕ → ℕ) (k n : ℕ) → ((j : ℕ) → k ≤ j → j < k + n → (w j ≡ v j) × (d j ≡ c j)) → differing w d k n ≡ differing v c k n
unfolding differing
same_differing w d v c k zero h = refl
same_differing w d v c k (suc n) h =
    let p = h k (omega arith) (omega arith) in
    let r = same_differing w d v c (k + 1) n (λ j l m. h j (omega arith) (omega arith)) in
    rw (p.0, p.1, r)

no_count : (n k : ℕ) → ◌≡◌ {A = ℕ} (get_or (replicate n 0) k 0) 0
no_count zero k = refl
no_count (suc n) zero = refl
no_count (suc n) (suc k) = no_count n k

record Counted (line : Bytes) : Type 0 where
  ts : Trees
  is : verdict_of line ≡ counts ts
  formula : Formula line ts
  deep : TreesIn ts deepest
  few : Few ts

counted : (line : Bytes) → number_of (verdict_of line) ≡ 0 → Counted line
counted line h = go (verdict_of line) refl (judged line) h
  where
    go : (v : Verdict) → verdict_of line ≡ v → Judged line v → number_of v ≡ 0 → Counted line
    go v e (Judged.formula {ts = ts} f i w) q = record { ts = ts; is = e; formula = f; deep = i; few = w }
    go v e (Judged.no_formula n) q = absurd (omega arith)
    go v e (Judged.too_deep f n) q = absurd (omega arith)
    go v e (Judged.too_many f i n) q = absurd (omega arith)

module _ (line : Bytes) (ks : List ℕ) {no : ℕ} (en : no ≡ number_of (verdict_of line)) where
  pub line_refused : (no ≡ 0 → ⊥) → (f : List ℕ) → f ≡ zeros → (Err (record { no = no; line = 0; column = 0 }) ≡ told_of (by_verdict ks (verdict_of line))) × (f ≡ found_in (by_verdict ks (verdict_of line)))
  line_refused h f ef = go (verdict_of line) en
    where
      go : (v : Verdict) → no ≡ number_of v → (Err (record { no = no; line = 0; column = 0 }) ≡ told_of (by_verdict ks v)) × (f ≡ found_in (by_verdict ks v))
      go (counts ts) q = absurd (h q)
      go (W.refused n) q = (ap (λ (k : ℕ). Err (record { no = k; line = 0; column = 0 })) q, ef)

  module _ (h : no ≡ 0) where
    it : Counted line
    it = counted line (sym en ∙ h)

    pub line_other : {b : Bool} → b ≡ only_elements ks → b ≡ false → (f : List ℕ) → f ≡ zeros →
        (Err (record { no = 34; line = 0; column = 0 }) ≡ told_of (by_verdict ks (verdict_of line))) × (f ≡ found_in (by_verdict ks (verdict_of line)))
    line_other eb hb f ef =
        let o : only_elements ks ≡ false = sym eb ∙ hb in
        let s : by_verdict ks (verdict_of line) ≡ refused 34 0 0 = ap (by_verdict ks) it.is ∙ rw o in
        (sym (ap told_of s), ef ∙ sym (ap found_in s))

    module _ (small : length ks ≤ 9999) {b : Bool} (eb : b ≡ only_elements ks) (hb : b ≡ true) (w d : List ℕ) (ew : w ≡ counts_of line) (ed : d ≡ tallied ks empty) where
      written_is : (k : ℕ) → Element k → entry w k ≡ count_trees it.ts k
      unfolding counts_of
      written_is k e =
          let p = formula_complete line it.formula deepest it.deep in
          let q : counts_of line ≡ sums_of line = rw p in
          ap (λ (x : List ℕ). get_or x k 0) (ew ∙ q) ∙ sum_exact line it.ts it.formula it.deep it.few k e

      drawn_is : (k : ℕ) → k ≤ elements → entry d k ≡ how_many ks k
      drawn_is k l =
          let z = no_count 119 k in
          ap (λ (x : List ℕ). get_or x k 0) ed ∙ tally_entry ks empty k (sym eb ∙ hb) (omega arith) (omega arith) ∙ omega arith

      same : differences (entry w) (entry d) ≡ differences (count_trees it.ts) (how_many ks)
      same = same_differing (entry w) (entry d) (count_trees it.ts) (how_many ks) 2 117 (λ j l m. (written_is j (record { low = omega arith; high = omega arith }), drawn_is j (omega arith)))

      pub line_differs : (c : ℕ) → c ≡ length (differences (entry w) (entry d)) → (f u : List ℕ) → f ≡ zeros → u ≡ sets f 0 (numbers (differences (entry w) (entry d))) →
          (Ok c ≡ told_of (by_verdict ks (verdict_of line))) × (u ≡ found_in (by_verdict ks (verdict_of line)))
      line_differs c ec f u ef eu =
          let o : only_elements ks ≡ true = sym eb ∙ hb in
          let s : by_verdict ks (verdict_of line) ≡ accepted (differences (entry w) (entry d)) = ap (by_verdict ks) it.is ∙ rw o (ap accepted (sym same)) in (
            ap Ok ec ∙ sym (ap told_of s),
            eu ∙ ap (λ (x : List ℕ). sets x 0 (numbers (differences (entry w) (entry d)))) ef ∙ sym (ap found_in s),
          )

-- ---- A good record

not_record : {X : Type 0} (s : Bytes) (x : Raw) → Begins sdfile s x → (e i c : ℕ) → NoRecord s e i c → X
unfolding found_of
not_record {X} s x g e i c n = go (spot_of formula_name (molecule_lines x.molecule) x.items) (sym (ap (found_by s formula_name) (begins_outcome sdfile s x g)) ∙ refused_is s formula_name (RefusedAt.no_record n))
  where
    go : (p : Spot) → said_by s p ≡ F.refused e i c → X
    go (Spot.after j k) q = absurd (let z : ◌≡◌ {A = ℕ} 0 1 = cc in omega arith)
    go Spot.nowhere q = let z : 22 ≡ e = cc in absurd (omega (arith, record_number n))

-- its first value line stands there
record Here (s : Bytes) (from to : ℕ) : Type 0 where
  pub x : Raw
  pub begins : Begins sdfile s x
  pub l : Line
  pub vs : List Line
  pub named : FirstNamed formula_name x.items (l ∷ vs)
  pub order : from ≤ to
  pub inside : to ≤ length s
  pub bytes : take (to - from) (drop from s) ≡ l

here : (s : Bytes) (r : FirstLine) → FirstAt s formula_name r → (from to : ℕ) → r ≡ FirstLine.Line from to → Here s from to
here s r (FirstAt.line {ls = ls} {more = more} {vs = vs} {rest = rest} {x = x} {l = l} {from = a} {to = b} lines rec named o i e) from to q =
    let p : a ≡ from = cc in
    let z : b ≡ to = cc in
    record {
      x = x;
      begins = (ls, rest, more, lines, rec);
      l = l;
      vs = vs;
      named = named;
      order = omega arith;
      inside = omega arith;
      bytes = subst (λ (k : ℕ). take (to - k) (drop k s) ≡ l) p (subst (λ (k : ℕ). take (k - a) (drop a s) ≡ l) z e);
    }
here s r (FirstAt.empty lines rec named) from to q = absurd (let z : ◌≡◌ {A = ℕ} 0 1 = cc in omega arith)
here s r (FirstAt.refused h) from to q = absurd (let z : ◌≡◌ {A = ℕ} 0 1 = cc in omega arith)

module _ (s : Bytes) (t : List ℤ) (n : ℕ) (d : Ready s t n) (r : FirstLine) (p : FirstPromise s formula_name r) where
  module _ (from to : ℕ) (e : r ≡ FirstLine.Line from to) where
    pub line_order : from ≤ to
    line_order = (here s r p.first from to e).order

    pub line_inside : to ≤ length s
    line_inside = (here s r p.first from to e).inside

    said_line : said_of s ≡ by_verdict (symbols_from t 0 n) (verdict_of (take (to - from) (drop from s)))
    said_line =
        let h = here s r p.first from to e in
        let same = begins_one sdfile s h.x d.x h.begins d.begins in
        good_said s h.x h.begins ∙ ap (by_value (symbols h.x.molecule.atoms)) (value_first formula_name h.x.items (h.l ∷ h.vs) h.named)
        ∙ ap (λ (y : Raw). by_verdict (symbols y.molecule.atoms) (verdict_of h.l)) same
        ∙ ap₂ by_verdict (sym d.drawn) (ap verdict_of (sym h.bytes))

    pub line_said : (o : Result ℕ TextRefusal) (u : List ℕ) → o ≡ told_of (by_verdict (symbols_from t 0 n) (verdict_of (take (to - from) (drop from s)))) →
        u ≡ found_in (by_verdict (symbols_from t 0 n) (verdict_of (take (to - from) (drop from s)))) → (o ≡ told_of (said_of s)) × (u ≡ found_in (said_of s))
    line_said o u eo eu = (eo ∙ sym (ap told_of said_line), eu ∙ sym (ap found_in said_line))

  nothing_said : (r : TextRefusal) → said_of s ≡ refused r.no r.line r.column → (f : List ℕ) → f ≡ zeros → (Err r ≡ told_of (said_of s)) × (f ≡ found_in (said_of s))
  nothing_said r h f ef = (sym (ap told_of h), ef ∙ sym (ap found_in h))

  said_empty : {r : FirstLine} → FirstAt s formula_name r → r ≡ FirstLine.Empty → said_of s ≡ refused 31 0 0
  said_empty (FirstAt.line lines rec named o i e) q = absurd (let z : ◌≡◌ {A = ℕ} 0 1 = cc in omega arith)
  said_empty (FirstAt.empty {ls = ls} {more = more} {rest = rest} {x = x} lines rec named) q =
      good_said s x (ls, rest, more, lines, rec) ∙ ap (by_value (symbols x.molecule.atoms)) (value_first formula_name x.items [] named)
  said_empty (FirstAt.refused h) q = absurd (let z : ◌≡◌ {A = ℕ} 0 1 = cc in omega arith)

  none_here : {e i c : ℕ} → RefusedAt s formula_name e i c → said_of s ≡ refused 22 0 0
  none_here (RefusedAt.no_item {ls = ls} {more = more} {rest = rest} {x = x} lines rec n) =
      good_said s x (ls, rest, more, lines, rec) ∙ ap (by_value (symbols x.molecule.atoms)) (value_none formula_name x.items n)
  none_here (RefusedAt.no_record {e = e} {i = i} {column = c} n) = not_record s d.x d.begins e i c n

  said_none : {r : FirstLine} → FirstAt s formula_name r → (e i c : ℕ) → r ≡ FirstLine.Refused e i c → said_of s ≡ refused 22 0 0
  said_none (FirstAt.line lines rec named o i e) a b c q = absurd (let z : ◌≡◌ {A = ℕ} 0 1 = cc in omega arith)
  said_none (FirstAt.empty lines rec named) a b c q = absurd (let z : ◌≡◌ {A = ℕ} 0 1 = cc in omega arith)
  said_none (FirstAt.refused h) a b c q = none_here h

  pub empty_said : r ≡ FirstLine.Empty → (f : List ℕ) → f ≡ zeros → (Err (record { no = 31; line = 0; column = 0 }) ≡ told_of (said_of s)) × (f ≡ found_in (said_of s))
  empty_said e f ef = nothing_said (record { no = 31; line = 0; column = 0 }) (said_empty p.first e) f ef

  pub none_said : (e i c : ℕ) → r ≡ FirstLine.Refused e i c → (f : List ℕ) → f ≡ zeros → (Err (record { no = 22; line = 0; column = 0 }) ≡ told_of (said_of s)) × (f ≡ found_in (said_of s))
  none_said e i c h f ef = nothing_said (record { no = 22; line = 0; column = 0 }) (said_none p.first e i c h) f ef

-- ---- The record

module _ (s : Bytes) (ta tb : List ℤ) (f : List ℕ) (q : RecordRead) (ta' tb' : List ℤ) (p : ReadPromise 1 s ta tb q ta' tb') where
  abbrev Kept : Result ℕ TextRefusal → List ℕ → Type 0
  Kept r u = (r ≡ answer_of (length ta) (length tb) s) × (u ≡ found_after (length ta) (length tb) s f) × ComparePromise s ta tb f r ta' tb' u

  kept : (r : Result ℕ TextRefusal) (u : List ℕ) → r ≡ answer_of (length ta) (length tb) s → u ≡ found_after (length ta) (length tb) s f → Kept r u
  kept r u er eu = (er, eu, promised s ta tb f r ta' tb' u er eu q p)

  module _ (n m chiral len k h a b : ℕ) (e : q ≡ RecordRead.Read n m chiral len k h a b) where
    abbrev reply : Reply
    reply = record { n = n; m = m; chiral = chiral; bytes = len; lines = k; header_end = h; items_start_lem = a; items_end_lem = b }

    pub record_ready : Ready s ta' n
    record_ready = ready s ta tb q ta' tb' p reply (ap numbers_of e)

    pub record_kept : (r : Result ℕ TextRefusal) (u : List ℕ) → r ≡ told_of (said_of s) → u ≡ found_in (said_of s) → Kept r u
    unfolding answer_of found_after
    record_kept r u er eu =
        let o = with_room ta tb (read_room s ta tb q ta' tb' p reply (ap numbers_of e)) in
        kept r u (er ∙ rw o) (eu ∙ rw o)

  pub refused_kept : (e i c : ℕ) → q ≡ RecordRead.Refused e i c → (r : Result ℕ TextRefusal) (u : List ℕ) → r ≡ Err (record { no = e; line = i; column = c }) → u ≡ cond (eqb e 2) f zeros → Kept r u
  unfolding answer_of found_after
  refused_kept e i c h r u er eu = go (room (length ta) (length tb)) refl
    where
      no_space : room (length ta) (length tb) ≡ false → (e ≡ 2) × (i ≡ 0) × (c ≡ 0) → Kept r u
      no_space o z =
          let x = z.0 in
          let y = z.1 in
          let w = z.2 in
          kept r u (er ∙ rw (x, y, w, o)) (eu ∙ rw (eq-eqb e 2 x, o))

      go : (b : Bool) → room (length ta) (length tb) ≡ b → Kept r u
      go true o =
          let y = has_room ta tb o in
          let g = ((p.reads sdfile refl y).refuses e i c (ap numbers_of h)).0 in
          let l = record_number g in
          let d = refused_said s e i c g in
          let x : (e ≡ 2 → ⊥) = λ z. omega (arith, l) in
          kept r u (er ∙ rw o (sym (ap told_of d))) (eu ∙ rw (ne_eqb e 2 x, o) (sym (ap found_in d)))
      go false o = no_space o (same_numbers (sym (ap numbers_of h) ∙ (p.no_room (omega arith) (λ y. no_room o y)).0))
