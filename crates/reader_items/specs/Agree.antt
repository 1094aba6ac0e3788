-- A step keeps its promise: what the judge finds from a position on is what the rules say, and nothing else is.
use Rattle.std.specs.Prelude.{Result, Ok, ℕ, suc, ◌+◌, ◌-◌, ◌*◌, ◌^◌, ◌≤◌, ◌<◌, ◌≡◌, refl, List, [], ◌∷◌, ◌++◌, take, drop}
use native.Mathlib.Omega.{arith}
use Rattle.std.proofs.Math.Path.{sym, ap}
use Rattle.std.proofs.Common.{◌∙◌, subst, length-drop, length-append, take-append-drop, length-take-le, Fits}
use Rattle.std.proofs.Math.ListN.{length}
use Rattle.std.specs.Int.{w64}
use Rattle.text.specs.Text.{Bytes, Line, Lines}
use Rattle.text.specs.Find.{line_at}
use Rattle.text.specs.Cut.{Cut, cut, lines_cut, line_within, line_cut, line_rest}
use Rattle.text.specs.declared.LineAt.{LineAt}
use Rattle.rules.specs.Forms.{RecordEnd}
use Rattle.rules.specs.Record.{Values}
use Rattle.judge_line.specs.Got.{Got, got, bad}
use Rattle.judge_line.specs.Judge.{ValueOrBlank, value, blank}
use Rattle.judge_file.specs.WalkText.{after_lines, after_none, after_next}
use Rattle.line_text.specs.declared.ItemLine.{ItemLine}
use Rattle.judge_line.specs.declared.Refusal.{Refusal}
use Rattle.reader_item.specs.Find.{from_of, to_of}
use Rattle.reader_item.specs.Position.{after_low, Past, past_values}
use Rattle.reader_item.proofs.Position.{stretch_within}
use Rattle.reader_item.specs.First.{lead}
use Rattle.reader_item.specs.Promise.{Joined}
use Rattle.reader_item.specs.Joined.{before_lines, joined_lines, start_one, head_same}
use Rattle.reader_items.specs.declared.ItemAt.{ItemAt}
use Rattle.reader_items.specs.Step.{title_is, value_is, title_of, over, stopped, values_run, titled, step_of}
use Rattle.reader_items.specs.Titles.{valued_is, valued_got, blanked_is, blanked_got, end_titled}
use Rattle.reader_items.specs.Running.{run_value, run_blank, run_bad, run_none, step_line, name_within}
use Rattle.reader_items.specs.Promise.{Behind, ValuesIn, ValuesStand, Stepped}

-- ---- The value lines of an item

pub values_run_lem : (k : ℕ) {t vs u : List Line} → Values t vs u → values_run k t ≡ over (k + length vs)
values_run_lem k (Values.end {l = l} {t = t} h) = let z : k ≡ k + 0 = omega arith in run_blank k l t (blanked_is l h) ∙ ap over z
values_run_lem k (Values.more {l = l} {t = t} {vs = vs} h p) =
    let z : suc k + length vs ≡ k + suc (length vs) = omega arith in
    run_value k l t (valued_is l h) ∙ values_run_lem (suc k) p ∙ ap over z

-- what was run through
pub record Ranged (k : ℕ) (t : List Line) (j : ℕ) : Type 0 where
  pub vs : List Line
  pub u : List Line
  pub values : Values t vs u
  pub many : j ≡ k + length vs

same_over : {j k : ℕ} → over j ≡ over k → j ≡ k
same_over h = cc

pub over_stopped : {X : Type 0} {j e i c : ℕ} → over j ≡ stopped e i c → X
over_stopped h = absurd (let z : ◌≡◌ {A = ℕ} 0 1 = cc in omega arith)

pub run_over : (k : ℕ) (t : List Line) (j : ℕ) → values_run k t ≡ over j → Ranged k t j
run_over k [] j h = over_stopped (sym h ∙ run_none k)
run_over k (l ∷ t) j h = go (λ r. run_over (suc k) t j r) (value_is l) refl
  where
    go : (values_run (suc k) t ≡ over j → Ranged (suc k) t j) → (v : Got ValueOrBlank) → value_is l ≡ v → Ranged k (l ∷ t) j
    go r (got value) e =
        let m = r (sym (run_value k l t e) ∙ h) in
        record { vs = l ∷ m.vs; u = m.u; values = Values.more (valued_got l e) m.values; many = omega (arith, m.many) }
    go r (got blank) e =
        let z = same_over (sym h ∙ run_blank k l t e) in
        record { vs = []; u = t; values = Values.end (blanked_got l e); many = omega arith }
    go r (bad n c) e = over_stopped (sym h ∙ run_bad k l t n c e)

-- ---- Places

-- the lines that begin at a position
pub record Begun (s : Bytes) (at : ℕ) (l : Line) (t : List Line) : Type 0 where
  pub e : ℕ
  pub n : ℕ
  pub line : line_at s at ≡ LineAt.Line e n
  pub first : take (e - at) (drop at s) ≡ l
  pub rest : (cut (drop n s)).lines ≡ t

tail_same : {l m : Line} {ls ms : List Line} → l ∷ ls ≡ m ∷ ms → ls ≡ ms
tail_same h = cc

pub no_cons : {X : Type 0} {l : Line} {ls : List Line} → [] ≡ l ∷ ls → X
no_cons h = absurd (omega (arith, ap length h))

module _ (s : Bytes) (at : ℕ) where
  abbrev pub lines : List Line
  lines = (cut (drop at s)).lines

  pub begun : (l : Line) (t : List Line) → lines ≡ l ∷ t → Begun s at l t
  begun l t h = go (line_at s at) refl
    where
      go : (o : LineAt) → line_at s at ≡ o → Begun s at l t
      go (LineAt.Line e n) q =
          let c = sym (ap (λ (c : Cut). c.lines) (line_cut s at e n q)) ∙ h in
          record { e = e; n = n; line = q; first = head_same c; rest = tail_same c }
      go LineAt.Unfinished q = no_cons (sym (ap (λ (c : Cut). c.lines) (line_rest s at q)) ∙ h)

  pub is_cut : {ls : List Line} {rest : Bytes} → Lines (drop at s) ls rest → lines ≡ ls
  is_cut h = ap (λ (c : Cut). c.lines) (lines_cut h)

  pub behind : (k : ℕ) (u : List Line) → at ≤ length s → Past k lines u → Behind s at lines u (after_lines s at k) k
  behind k u h p =
      let w = after_low s at k h in
      record {
        before = take k lines;
        lines = sym (take-append-drop k lines) ∙ ap (λ (x : List Line). take k lines ++ x) (sym p.rest);
        many = length-take-le k lines p.some;
        low = w.0;
        inside = w.1;
        whole = before_lines s at k h p.some;
      }

  pub behind_one : {ls u : List Line} {n k m j : ℕ} → Behind s at ls u n k → Behind s at ls u m j → (n ≡ m) × (k ≡ j)
  behind_one {u = u} {n = n} {m = m} p q =
      let same : length p.before ≡ length q.before =
      omega (arith, ap length p.lines, ap length q.lines, length-append p.before u, length-append q.before u) in
      let z = length-drop at s in
      let e = start_one (drop at s) (n - at) (m - at) p.before q.before p.whole q.whole same (omega (arith, p.low, p.inside)) (omega (arith, q.low, q.inside)) in
      (omega (arith, p.low, q.low, e), omega (arith, p.many, q.many))

-- the value lines stand at the front
values_in : (s : Bytes) (n : ℕ) {vs u : List Line} → n ≤ length s → Values (cut (drop n s)).lines vs u → ValuesIn s vs (from_of n (length vs)) (to_of s n (length vs))
values_in s n {vs = []} h v = ValuesIn.none
values_in s n {vs = l ∷ vs} h v =
    let w = stretch_within s n (suc (length vs)) h in
    ValuesIn.some w.0 w.1
    (subst (λ (x : List Line). Joined x (take (to_of s n (suc (length vs)) - n) (drop n s))) (lead v) (joined_lines s n (length vs) h (omega (arith, (past_values v).some))))

values_start : (n : ℕ) (vs : List Line) → 1 ≤ length vs → from_of n (length vs) ≡ n
values_start n [] h = absurd (omega (arith, h))
values_start n (l ∷ vs) h = refl

-- ---- What the step finds stands there

module _ (s : Bytes) (at : ℕ) (l : Line) (t : List Line) (g : Begun s at l t) where
  abbrev pub n : ℕ
  n = g.n

  lines_are : lines s at ≡ l ∷ t
  lines_are = ap (λ (c : Cut). c.lines) (line_cut s at g.e n g.line) ∙ λ i. g.first i ∷ g.rest i

  within : (at ≤ g.e) × (g.e < n) × (n ≤ length s)
  within = line_within s at g.e n g.line

  low : at ≤ length s
  low = omega (arith, within.0, within.1, within.2)

  past_first : (k : ℕ) (u : List Line) → Past k t u → Past (suc k) (lines s at) u
  past_first k u p = record { rest = p.rest ∙ ap (drop (suc k)) (sym lines_are); some = omega (arith, p.some, ap length lines_are) }

  here : {u : List Line} {m k : ℕ} → Behind s at (lines s at) u m k → Behind s at (l ∷ t) u m k
  here {u = u} {m = m} {k = k} b = subst (λ (x : List Line). Behind s at x u m k) lines_are b

  after_first : (k : ℕ) → after_lines s at (suc k) ≡ after_lines s n k
  after_first k = after_next s at g.e n k g.line

  pub next_behind : Behind s at (l ∷ t) t n 1
  next_behind =
      subst (λ (m : ℕ). Behind s at (l ∷ t) t m 1) (after_first 0 ∙ after_none s n)
      (here (behind s at 1 t low (past_first 0 t (record { rest = refl; some = omega arith }))))

  pub item_behind : {vs u : List Line} → Values t vs u → Behind s at (l ∷ t) u (after_lines s n (suc (length vs))) (length vs + 2)
  item_behind {vs = vs} {u = u} v =
      let z : suc (suc (length vs)) ≡ length vs + 2 = omega arith in
      subst (Behind s at (l ∷ t) u (after_lines s n (suc (length vs)))) z
      (subst (λ (m : ℕ). Behind s at (l ∷ t) u m (suc (suc (length vs)))) (after_first (suc (length vs)))
      (here (behind s at (suc (suc (length vs))) u low (past_first (suc (length vs)) u (past_values v)))))

  pub item_values : {vs u : List Line} → Values t vs u → ValuesStand s at (l ∷ t) t vs (from_of n (length vs)) (to_of s n (length vs))
  item_values {vs = vs} {u = u} v =
      record {
        values = values_in s n within.2 (subst (λ (x : List Line). Values x vs u) (sym g.rest) v);
        start = λ h. subst (λ (m : ℕ). Behind s at (l ∷ t) t m 1) (sym (values_start n vs h)) next_behind;
      }

  -- the step, by what the line is
  pub by_line : (x : Result ItemLine Refusal) → title_of l (title_is l) ≡ x → step_of s at ≡ titled s at n x
  by_line x h = step_line s at g.e n g.line x (ap (λ (y : Line). title_of y (title_is y)) g.first ∙ h)

  pub step_end : RecordEnd l → step_of s at ≡ ItemAt.End n
  unfolding titled
  step_end d = by_line (Ok ItemLine.Close) (end_titled l d)

-- one answer for every text and position
pub stepped_one : (s : Bytes) (at : ℕ) (r r' : ItemAt) → Stepped s at r → Stepped s at r' → r ≡ r'
stepped_one s at r r' p q = p.judged ∙ sym q.judged

-- ---- As the code takes it

module _ (s : Bytes) (at : ℕ) (o : LineAt) (is : o ≡ line_at s at) where
  module _ (e n : ℕ) (q : o ≡ LineAt.Line e n) where
    pub line : line_at s at ≡ LineAt.Line e n
    line = sym is ∙ q

    pub code_low : at ≤ e
    code_low = (line_within s at e n line).0

    pub code_high : e ≤ length s
    code_high = let w = line_within s at e n line in omega (arith, w.1, w.2)

    module _ (x : Result ItemLine Refusal) (f : x ≡ title_of (take (e - at) (drop at s)) (title_is (take (e - at) (drop at s)))) where
      pub code_fits : (a b : ℕ) → x ≡ Ok (ItemLine.Title a b) → length s * 1 < 2 ^ 63 → Fits w64 (at + a)
      code_fits a b h k = let w = name_within s at e n line a b (sym f ∙ h) in record { fits = omega (arith, w.0, w.1) }

      pub code_fits_2 : (a b : ℕ) → x ≡ Ok (ItemLine.Title a b) → length s * 1 < 2 ^ 63 → Fits w64 (at + b)
      code_fits_2 a b h k = let w = name_within s at e n line a b (sym f ∙ h) in record { fits = omega (arith, w.0, w.1) }
