-- A step keeps its promise: what the judge finds from a position on is what the rules say, and nothing else is.
use Rattle.std.specs.Prelude.{Result, Ok, Err, ℕ, suc, ◌+◌, ◌-◌, ◌≤◌, ◌≡◌, refl, ◌↔◌, List, [], ◌∷◌, take, drop}
use native.Mathlib.Omega.{arith}
use Rattle.std.proofs.Math.Path.{sym, ap}
use Rattle.std.proofs.Common.{◌∙◌, subst, length-drop, take-append-drop, length-take-le}
use Rattle.std.proofs.Math.ListN.{length}
use Rattle.text.specs.Text.{Bytes, Line, Lines}
use Rattle.text.specs.Find.{line_at}
use Rattle.text.specs.Cut.{Cut, cut, cut_is, line_cut}
use Rattle.text.specs.declared.LineAt.{LineAt}
use Rattle.rules.specs.Forms.{DataHeader}
use Rattle.rules.specs.Record.{Values}
use Rattle.judge_line.specs.Got.{Got, got, bad}
use Rattle.judge_line.specs.Judge.{ItemOrEnd, title, close, ValueOrBlank, value, blank}
use Rattle.judge_refusals.specs.Tells.{tells_bad}
use Rattle.judge_file.specs.WalkText.{after_lines}
use Rattle.line_text.specs.declared.ItemLine.{ItemLine}
use Rattle.judge_line.specs.declared.Refusal.{Refusal}
use Rattle.reader_item.specs.Find.{from_of, to_of}
use Rattle.reader_item.specs.Promise.{Joined}
use Rattle.reader_item.specs.Joined.{joined_one}
use Rattle.reader_items.specs.declared.ItemAt.{ItemAt}
use Rattle.reader_items.specs.declared.ValuesAt.{ValuesAt}
use Rattle.reader_items.specs.Step.{title_is, value_is, title_of, Ran, over, stopped, values_run, values_by, values_from, with_values, titled, step_of}
use Rattle.reader_items.specs.Titles.{titled_got, closed_got, valued_is, valued_got, title_tells, values_tell, header_titled}
use Rattle.reader_items.specs.Running.{run_value, run_blank, run_bad, run_none, step_rest, step_line}
use Rattle.reader_items.specs.Promise.{ValuesIn, ValuesStand, NoValues, NoItem, StepAt, Stepped}
use Rattle.reader_items.specs.Agree.{values_run_lem, over_stopped, run_over, Begun, no_cons, lines, begun, is_cut, behind_one, n, next_behind, item_behind, item_values, by_line, step_end, line, code_low, code_high, code_fits, code_fits_2}

-- ---- The value lines of an item

stopped_as : {e i c e' i' c' : ℕ} {t : List Line} (n : ℕ) → stopped e i c ≡ stopped e' i' c' → NoValues n t e i c → NoValues n t e' i' c'
stopped_as {e = e} {i = i} {c = c} {e' = e'} {i' = i'} {c' = c'} {t = t} n h v =
    let p : e ≡ e' = cc in
    let q : i ≡ i' = cc in
    let r : c ≡ c' = cc in
    subst (NoValues n t e' i') r (subst (λ (x : ℕ). NoValues n t e' x c) q (subst (λ (x : ℕ). NoValues n t x i c) p v))

run_stops : (k : ℕ) (t : List Line) (e i c : ℕ) → values_run k t ≡ stopped e i c → NoValues (k + 2) t e i c
run_stops k [] e i c h = stopped_as (k + 2) (sym (run_none k) ∙ h) NoValues.cut_short
run_stops k (l ∷ t) e i c h = go (λ r. run_stops (suc k) t e i c r) (value_is l) refl
  where
    go : (values_run (suc k) t ≡ stopped e i c → NoValues (suc k + 2) t e i c) → (v : Got ValueOrBlank) → value_is l ≡ v → NoValues (k + 2) (l ∷ t) e i c
    go r (got value) f =
        let z : suc k + 2 ≡ suc (k + 2) = omega arith in
        NoValues.later (valued_got l f) (subst (λ (n : ℕ). NoValues n t e i c) z (r (sym (run_value k l t f) ∙ h)))
    go r (got blank) f = over_stopped (sym (run_blank k l t f) ∙ h)
    go r (bad n d) f = stopped_as (k + 2) (sym (run_bad k l t n d f) ∙ h) (NoValues.bad_line ((tells_bad n d (values_tell l)).0 f))

stops_run : {i e j c : ℕ} {t : List Line} → NoValues i t e j c → (k : ℕ) → i ≡ k + 2 → values_run k t ≡ stopped e j c
stops_run NoValues.cut_short k h = run_none k ∙ ap (λ (i : ℕ). stopped 19 i 1) (sym h)
stops_run (NoValues.bad_line {e = e} {c = c} {l = l} {t = t} r) k h =
    run_bad k l t e c ((tells_bad e c (values_tell l)).1 r) ∙ ap (λ (i : ℕ). stopped e i c) (sym h)
stops_run (NoValues.later {l = l} {t = t} v p) k h = run_value k l t (valued_is l v) ∙ stops_run p (suc k) (omega (arith, h))

-- ---- Places

-- value lines from one start end at one place
values_one : (s : Bytes) {vs : List Line} {a b c d : ℕ} → ValuesIn s vs a b → ValuesIn s vs c d → (1 ≤ length vs → a ≡ c) → (a ≡ c) × (b ≡ d)
values_one s ValuesIn.none ValuesIn.none h = (refl, refl)
values_one s (ValuesIn.some {l = l} {vs = vs} {from = a} {to = b} o i p) (ValuesIn.some {from = c} {to = d} o' i' q) h =
    let ac : a ≡ c = h (omega arith) in
    let t = drop a s in
    let g : Joined (l ∷ vs) (take (d - a) t) = subst (λ (j : ℕ). Joined (l ∷ vs) (take (d - j) (drop j s))) (sym ac) q in
    let same = joined_one p g (drop (b - a) t) (drop (d - a) t) (take-append-drop (b - a) t ∙ sym (take-append-drop (d - a) t)) in
    let m : length t ≡ length s - a = length-drop a s in
    let e : b - a ≡ d - a = sym (length-take-le (b - a) t (omega (arith, i))) ∙ ap length same ∙ length-take-le (d - a) t (omega (arith, i')) in
    (ac, omega (arith, o, o', ac))

stand_one : (s : Bytes) (at : ℕ) {ls v vs : List Line} {a b c d : ℕ} → ValuesStand s at ls v vs a b → ValuesStand s at ls v vs c d → (a ≡ c) × (b ≡ d)
stand_one s at p q = values_one s p.values q.values (λ h. (behind_one s at (p.start h) (q.start h)).0)

-- ---- What the step finds stands there

module _ (s : Bytes) (at : ℕ) (l : Line) (t : List Line) (g : Begun s at l t) where
  by_values : (a b : ℕ) (r : Ran) → values_run 0 t ≡ r → titled s at (n s at l t g) (Ok (ItemLine.Title a b)) ≡ with_values (at + a) (at + b) (values_by s (n s at l t g) r)
  unfolding titled values_from
  by_values a b r h = ap (λ (x : Ran). with_values (at + a) (at + b) (values_by s (n s at l t g) x)) (ap (values_run 0) g.rest ∙ h)

  pub step_item : (name : Bytes) (d : DataHeader l name) {vs u : List Line} → Values t vs u →
      step_of s at ≡
      ItemAt.Item (at + (d.between + 2)) (at + (d.between + 2 + length name)) (from_of (n s at l t g) (length vs)) (to_of s (n s at l t g) (length vs)) (after_lines s (n s at l t g) (suc (length vs))) (length vs + 2)
  unfolding with_values
  step_item name d {vs = vs} v =
      let a = d.between + 2 in
      let z : 0 + length vs ≡ length vs = omega arith in
      by_line s at l t g (Ok (ItemLine.Title a (a + length name))) (header_titled l name d) ∙ by_values a (a + length name) (over (length vs)) (values_run_lem 0 v ∙ ap over z)

  step_stopped : (name : Bytes) → DataHeader l name → (num i c : ℕ) → values_run 0 t ≡ stopped num i c → step_of s at ≡ ItemAt.Refused num i c
  unfolding with_values
  step_stopped name d num i c h =
      let a = d.between + 2 in
      by_line s at l t g (Ok (ItemLine.Title a (a + length name))) (header_titled l name d) ∙ by_values a (a + length name) (stopped num i c) h

  step_bad : (r : Refusal) → title_is l ≡ bad r.no r.column → step_of s at ≡ ItemAt.Refused r.no 1 r.column
  unfolding titled title_of
  step_bad r h = by_line s at l t g (Err r) (ap (title_of l) h)

  found : {rest : Bytes} → Lines (drop at s) (l ∷ t) rest → StepAt s at (step_of s at)
  found all = go (title_is l) refl
    where
      run : (name : Bytes) → DataHeader l name → (r : Ran) → values_run 0 t ≡ r → StepAt s at (step_of s at)
      run name d (over k) q =
          let v = (run_over 0 t k q).values in
          subst (StepAt s at) (sym (step_item name d v)) (StepAt.item all d v (item_values s at l t g v) (item_behind s at l t g v))
      run name d (stopped num i c) q =
          subst (StepAt s at) (sym (step_stopped name d num i c q)) (StepAt.refused all (NoItem.bad_values d (run_stops 0 t num i c q)))

      go : (x : Got ItemOrEnd) → title_is l ≡ x → StepAt s at (step_of s at)
      go (got (title name)) h = run name (titled_got l name h) (values_run 0 t) refl
      go (got close) h = let d = closed_got l h in subst (StepAt s at) (sym (step_end s at l t g d)) (StepAt.end all d (next_behind s at l t g))
      go (bad num c) h = subst (StepAt s at) (sym (step_bad (record { no = num; column = c }) h)) (StepAt.refused all (NoItem.bad_line ((tells_bad num c (title_tells l)).0 h)))

  -- and nothing else does
  refused_only : (e i c : ℕ) → NoItem (l ∷ t) e i c → step_of s at ≡ ItemAt.Refused e i c
  refused_only e i c (NoItem.bad_line h) = step_bad (record { no = e; column = c }) ((tells_bad e c (title_tells l)).1 h)
  refused_only e i c (NoItem.bad_values {name = name} d v) = step_stopped name d e i c (stops_run v 0 (omega arith))

module _ (s : Bytes) (at : ℕ) where
  over_lines : lines s at ≡ [] → line_at s at ≡ LineAt.Unfinished
  over_lines h = go (line_at s at) refl
    where
      go : (o : LineAt) → line_at s at ≡ o → line_at s at ≡ LineAt.Unfinished
      go (LineAt.Line e n) q = no_cons (sym h ∙ ap (λ (c : Cut). c.lines) (line_cut s at e n q))
      go LineAt.Unfinished q = q

  stands : StepAt s at (step_of s at)
  stands = go (lines s at) refl
    where
      all : {ls : List Line} → lines s at ≡ ls → Lines (drop at s) ls (cut (drop at s)).rest
      all h = subst (λ (x : List Line). Lines (drop at s) x (cut (drop at s)).rest) h (cut_is (drop at s))

      go : (ls : List Line) → lines s at ≡ ls → StepAt s at (step_of s at)
      go [] h = subst (StepAt s at) (sym (step_rest s at (over_lines h))) (StepAt.refused (all h) NoItem.no_line)
      go (l ∷ t) h = found s at l t (begun s at l t h) (all h)

  same_item : {a b from to n k from' to' n' k' : ℕ} → (from ≡ from') × (to ≡ to') → (n ≡ n') × (k ≡ k') → ItemAt.Item a b from to n k ≡ ItemAt.Item a b from' to' n' k'
  same_item {a} {b} p q = λ i. ItemAt.Item a b (p.0 i) (p.1 i) (q.0 i) (q.1 i)

  only : {x : ItemAt} → StepAt s at x → step_of s at ≡ x
  only (StepAt.item {l = l} {name = name} {t = t} h d v p q) =
      let g = begun s at l t (is_cut s at h) in
      step_item s at l t g name d v ∙ same_item (stand_one s at (item_values s at l t g v) p) (behind_one s at (item_behind s at l t g v) q)
  only (StepAt.end {l = l} {t = t} h d q) =
      let g = begun s at l t (is_cut s at h) in
      step_end s at l t g d ∙ ap ItemAt.End (behind_one s at (next_behind s at l t g) q).0
  only (StepAt.refused {ls = ls} h r) = go ls (is_cut s at h) r
    where
      go : (ls : List Line) {e i c : ℕ} → lines s at ≡ ls → NoItem ls e i c → step_of s at ≡ ItemAt.Refused e i c
      go [] q NoItem.no_line = step_rest s at (over_lines q)
      go (l ∷ t) {e} {i} {c} q r = refused_only s at l t (begun s at l t q) e i c r

  pub step_told_lem : (x : ItemAt) → (step_of s at ≡ x) ↔ StepAt s at x
  step_told_lem x = (λ h. subst (StepAt s at) h stands, only)

  pub stepped : (r : ItemAt) → r ≡ step_of s at → Stepped s at r
  stepped r e = record { judged = e; told = λ x. ((λ h. (step_told_lem x).0 (sym e ∙ h)), λ p. e ∙ (step_told_lem x).1 p) }

-- ---- As the code takes it

module _ (s : Bytes) (at : ℕ) (o : LineAt) (is : o ≡ line_at s at) where
  pub code_rest : o ≡ LineAt.Unfinished → Stepped s at (ItemAt.Refused 19 1 1)
  code_rest q = stepped s at (ItemAt.Refused 19 1 1) (sym (step_rest s at (sym is ∙ q)))

  module _ (e n : ℕ) (q : o ≡ LineAt.Line e n) where
    module _ (x : Result ItemLine Refusal) (f : x ≡ title_of (take (e - at) (drop at s)) (title_is (take (e - at) (drop at s)))) where
      pub code_item : (a b : ℕ) (v : ValuesAt) (r : ItemAt) → x ≡ Ok (ItemLine.Title a b) → v ≡ values_from s n → r ≡ with_values (at + a) (at + b) v → Stepped s at r
      unfolding titled
      code_item a b v r h k z = stepped s at r (z ∙ ap (with_values (at + a) (at + b)) k ∙ sym (step_line s at e n (line s at o is e n q) (Ok (ItemLine.Title a b)) (sym f ∙ h)))

      pub code_end : x ≡ Ok ItemLine.Close → Stepped s at (ItemAt.End n)
      unfolding titled
      code_end h = stepped s at (ItemAt.End n) (sym (step_line s at e n (line s at o is e n q) (Ok ItemLine.Close) (sym f ∙ h)))

      pub code_bad : (r : Refusal) → x ≡ Err r → Stepped s at (ItemAt.Refused r.no 1 r.column)
      unfolding titled
      code_bad r h = stepped s at (ItemAt.Refused r.no 1 r.column) (sym (step_line s at e n (line s at o is e n q) (Err r) (sym f ∙ h)))

pub ruleset step_laws = (code_rest, code_low, code_high, code_item, code_end, code_bad, code_fits, code_fits_2)
