-- In a good file every line stays.
use Rattle.std.specs.Prelude.{ℕ, suc, ◌≡◌, Bool, not, ◌&&◌, get_or, drop}
use Rattle.std.proofs.Math.Path.{refl, sym, ap}
use Rattle.std.proofs.Common.{◌∙◌, arith}
use mathlib.Core.List.{List, [], ◌∷◌, ◌++◌, map}
use Rattle.std.proofs.Math.Bool.{true, false, cond, and-eq-true_iff}
use Rattle.text.specs.Text.{Bytes, Line, bytes}
use Rattle.text.specs.Columns.{columns_for, Within}
use Rattle.text.specs.Find.{is_blank}
use Rattle.text.specs.Laws.{true_false}
use Rattle.rules.specs.Forms.{Counts, CountsLine}
use Rattle.rules.specs.Record.{Raw, Headers, Molecule, Item}
use Rattle.judge_line.specs.Got.{Got, got, bad}
use Rattle.judge_line.specs.GotLaws.{got_inj, bad_got, then_got, need_got, cond_by}
use Rattle.judge_line.specs.Agree.{within_got}
use Rattle.judge_line.proofs.Agree.{counts_agrees}
use Rattle.judge_line.specs.Judge.{begins, header_of, HeaderRead, named, none, title_got, not_header, is_close, ItemOrEnd, item_of, ValueOrBlank, value_of, reserved, first_header_of, counts_of}
use Rattle.judge_file.specs.Place.{sdfile, Place, first, second, third, counts, atoms, bonds, properties, over, items, values}
use Rattle.judge_file.specs.Place.{Turn, next, done, turn_of, line_of}
use Rattle.judge_file.specs.Verdict.{at, run}
use Rattle.judge_file.specs.Runs.{run_next, run_stop, at_stopped, at_place}
use Rattle.judge_file.proofs.Runs.{run_done}
use Rattle.judge_file.specs.Ending.{is_first}
use Rattle.mend_rules.specs.Mend.{Action, keep, put, lose, item_line, all_blank, some, action_at, left, actions_of, applied, mended_lines}
use Rattle.mend_rules.specs.Unchanged.{blank_byte, blank_no_item, item_line_lem, applied_kept}

-- ---- blank lines

blank_counts : {X : Type 0} {limit : ℕ} {l : Line} {c : Counts} → CountsLine limit l c → is_blank l ≡ true → X
unfolding columns_for
blank_counts {l = l} d h =
    let a : get_or l 34 32 ≡ 86 = ap (λ (x : Bytes). get_or x 1 32) d.version in
    absurd (omega (arith, blank_byte l h 34))

-- ---- a value line or a blank is no data header and no `$$$$` line

value_no_item : {X : Type 0} (l : Line) (v : ValueOrBlank) (w : ItemOrEnd) → Within 80 l → value_of l ≡ got v → item_of l ≡ got w → X
unfolding value_of item_of
value_no_item l v w i e f =
    cond_by (is_blank l) _ _ (got v) e (λ t _. blank_no_item l w i t f) λ _ e.
    cond_by (begins (bytes "$$$$") l) _ _ (got v) e (λ _ z. bad_got z) λ t e.
    cond_by (is_close l) _ _ (got w) f (λ z _. true_false (sym ((and-eq-true_iff (begins (bytes "$$$$") l) (is_blank (drop 4 l))).0 z).0 ∙ t)) λ _ f.
    go (header_of l) e f
  where
    go : {X : Type 0} (h : HeaderRead) → not_header h ≡ got v → title_got h ≡ got w → X
    go (named name) e f = bad_got e
    go none e f = bad_got f

module _ (limit : ℕ) where
  value_turn : {X : Type 0} (m : Molecule) (is : List Item) (name : Bytes) (vs : List Line) (l : Line) (u : Turn) →
      turn_of sdfile limit (values m is name vs) l ≡ got u → item_line l ≡ true → X
  unfolding turn_of line_of
  value_turn m is name vs l u e h =
      let w = item_line_lem l h in
      let a = within_got 200 l (line_of sdfile limit (values m is name vs) l) u e in
      let b = then_got (value_of l) _ u a.1 in
      value_no_item l b.0 w.0 w.1.0 b.1 w.1.1

  item_turn_lem : {X : Type 0} (m : Molecule) (is : List Item) (l : Line) (u : Turn) → turn_of sdfile limit (items m is) l ≡ got u → is_blank l ≡ true → X
  unfolding turn_of line_of
  item_turn_lem m is l u e h =
      let a = within_got 80 l (line_of sdfile limit (items m is) l) u e in
      let b = then_got (item_of l) _ u a.1 in
      blank_no_item l b.0 a.0 h b.1

  counts_turn : {X : Type 0} (hs : Headers) (l : Line) (u : Turn) → turn_of sdfile limit (counts hs) l ≡ got u → is_blank l ≡ true → X
  unfolding turn_of line_of
  counts_turn hs l u e h =
      let a = within_got 80 l (line_of sdfile limit (counts hs) l) u e in
      let b = then_got (counts_of limit l) _ u a.1 in
      blank_counts ((counts_agrees limit l b.0 a.0).0 b.1) h

  -- ---- blanks alone make no record

  never_first : {X : Type 0} {p : Place} {xs ys : List Raw} → is_first p ≡ false → at p xs ≡ at first ys → X
  never_first f h = true_false (sym (ap is_first (at_place h)) ∙ f)

  blanks_counts : {X : Type 0} (hs : Headers) (xs : List Raw) (i : ℕ) (ls : List Line) (ys : List Raw) → all_blank ls ≡ true → run sdfile limit (counts hs) xs i ls ≡ at first ys → X
  unfolding run all_blank
  blanks_counts hs xs i [] ys b h = never_first refl h
  blanks_counts hs xs i (l ∷ ls) ys b h = go (turn_of sdfile limit (counts hs) l) refl
    where
      go : {X : Type 0} (g : Got Turn) → turn_of sdfile limit (counts hs) l ≡ g → X
      go (got u) e = counts_turn hs l u e ((and-eq-true_iff (is_blank l) (all_blank ls)).0 b).0
      go (bad n c) e = at_stopped (sym h ∙ run_stop sdfile limit (counts hs) xs i l ls n c e)

  -- the lines before the counts line: a blank may stand for each
  before : {X : Type 0} (p : Place) (l : Line) (q : Place) → ((u : Turn) → turn_of sdfile limit p l ≡ got u → u ≡ next q) → (xs : List Raw) (i : ℕ) (ls : List Line) (ys : List Raw) →
      (run sdfile limit q xs (suc i) ls ≡ at first ys → X) → run sdfile limit p xs i (l ∷ ls) ≡ at first ys → X
  before {X} p l q f xs i ls ys r h = go (turn_of sdfile limit p l) refl
    where
      go : (g : Got Turn) → turn_of sdfile limit p l ≡ g → X
      go (got u) e = r (sym (run_next sdfile limit p q xs i l ls (e ∙ ap got (f u e))) ∙ h)
      go (bad n c) e = at_stopped (sym h ∙ run_stop sdfile limit p xs i l ls n c e)

  third_turn : (h₁ h₂ l : Line) (u : Turn) → turn_of sdfile limit (third h₁ h₂) l ≡ got u → u ≡ next (counts (record { first = h₁; second = h₂; third = l }))
  unfolding turn_of line_of
  third_turn h₁ h₂ l u e = sym (got_inj (within_got 80 l (line_of sdfile limit (third h₁ h₂) l) u e).1)

  second_turn : (h₁ l : Line) (u : Turn) → turn_of sdfile limit (second h₁) l ≡ got u → u ≡ next (third h₁ l)
  unfolding turn_of line_of
  second_turn h₁ l u e = sym (got_inj (within_got 80 l (line_of sdfile limit (second h₁) l) u e).1)

  first_turn : (l : Line) (u : Turn) → turn_of sdfile limit first l ≡ got u → u ≡ next (second l)
  unfolding turn_of line_of first_header_of
  first_turn l u e =
      let a = within_got 80 l (line_of sdfile limit first l) u e in
      let b = then_got (first_header_of l) _ u a.1 in
      let c = need_got (not (reserved l)) 5 1 (got l) b.0 b.1 in
      sym (got_inj b.2) ∙ ap (λ (x : Line). next (second x)) (sym (got_inj c.1))

  blanks_third : {X : Type 0} (h₁ h₂ : Line) (xs : List Raw) (i : ℕ) (ls : List Line) (ys : List Raw) → all_blank ls ≡ true → run sdfile limit (third h₁ h₂) xs i ls ≡ at first ys → X
  unfolding run all_blank
  blanks_third h₁ h₂ xs i [] ys b h = never_first refl h
  blanks_third h₁ h₂ xs i (l ∷ ls) ys b h = before (third h₁ h₂) l _ (third_turn h₁ h₂ l) xs i ls ys (blanks_counts _ xs (suc i) ls ys ((and-eq-true_iff (is_blank l) (all_blank ls)).0 b).1) h

  blanks_second : {X : Type 0} (h₁ : Line) (xs : List Raw) (i : ℕ) (ls : List Line) (ys : List Raw) → all_blank ls ≡ true → run sdfile limit (second h₁) xs i ls ≡ at first ys → X
  unfolding run all_blank
  blanks_second h₁ xs i [] ys b h = never_first refl h
  blanks_second h₁ xs i (l ∷ ls) ys b h = before (second h₁) l _ (second_turn h₁ l) xs i ls ys (blanks_third _ _ xs (suc i) ls ys ((and-eq-true_iff (is_blank l) (all_blank ls)).0 b).1) h

  blanks_first : {X : Type 0} (xs : List Raw) (i : ℕ) (l : Line) (ls : List Line) (ys : List Raw) → all_blank (l ∷ ls) ≡ true → run sdfile limit first xs i (l ∷ ls) ≡ at first ys → X
  unfolding all_blank
  blanks_first xs i l ls ys b h = before first l _ (first_turn l) xs i ls ys (blanks_second _ xs (suc i) ls ys ((and-eq-true_iff (is_blank l) (all_blank ls)).0 b).1) h

  -- ---- every line stays

  stays : (p : Place) (xs : List Raw) (i : ℕ) (l : Line) (ls : List Line) (ys : List Raw) (u : Turn) → turn_of sdfile limit p l ≡ got u →
      run sdfile limit p xs i (l ∷ ls) ≡ at first ys → action_at p xs l ls ≡ keep
  unfolding action_at
  stays first xs i l ls ys u e h = go (some xs && all_blank (l ∷ ls)) refl
    where
      go : (t : Bool) → (some xs && all_blank (l ∷ ls)) ≡ t → cond t lose keep ≡ keep
      go true q = blanks_first xs i l ls ys ((and-eq-true_iff (some xs) (all_blank (l ∷ ls))).0 q).1 h
      go false q = refl
  stays (second h₁) xs i l ls ys u e h = refl
  stays (third h₁ h₂) xs i l ls ys u e h = refl
  stays (counts hs) xs i l ls ys u e h = refl
  stays (atoms hs c k zs) xs i l ls ys u e h = refl
  stays (bonds hs c zs k bs) xs i l ls ys u e h = refl
  stays (properties hs c zs bs ps) xs i l ls ys u e h = refl
  stays (over m) xs i l ls ys u e h = refl
  stays (items m is) xs i l ls ys u e h = go (is_blank l) refl
    where
      go : (t : Bool) → is_blank l ≡ t → cond t lose keep ≡ keep
      go true q = item_turn_lem m is l u e q
      go false q = refl
  stays (values m is name vs) xs i l ls ys u e h = go (item_line l) refl
    where
      go : (t : Bool) → item_line l ≡ t → cond t put keep ≡ keep
      go true q = value_turn m is name vs l u e q
      go false q = refl

  pub good_unchanged : (p : Place) (xs : List Raw) (i : ℕ) (ls : List Line) (ys : List Raw) → run sdfile limit p xs i ls ≡ at first ys →
      actions_of limit p xs ls ≡ map (λ t. keep) ls
  unfolding run actions_of left
  good_unchanged p xs i [] ys h = refl
  good_unchanged p xs i (l ∷ ls) ys h = go (λ q zs g. good_unchanged q zs (suc i) ls ys g) (turn_of sdfile limit p l) refl
    where
      go : ((q : Place) (zs : List Raw) → run sdfile limit q zs (suc i) ls ≡ at first ys → actions_of limit q zs ls ≡ map (λ t. keep) ls) →
          (g : Got Turn) → turn_of sdfile limit p l ≡ g → actions_of limit p xs (l ∷ ls) ≡ keep ∷ map (λ t. keep) ls
      go r (got (next q)) e = by (r q xs (sym (run_next sdfile limit p q xs i l ls e) ∙ h)) (stays p xs i l ls ys _ e h)
        where
          by : actions_of limit q xs ls ≡ map (λ t. keep) ls → action_at p xs l ls ≡ keep → actions_of limit p xs (l ∷ ls) ≡ keep ∷ map (λ t. keep) ls
          by s a = rw (a, e, actions_of, s)
      go r (got (done x)) e = by (r first (xs ++ (x ∷ [])) (sym (run_done sdfile limit p x xs i l ls e) ∙ h)) (stays p xs i l ls ys _ e h)
        where
          by : actions_of limit first (xs ++ (x ∷ [])) ls ≡ map (λ t. keep) ls → action_at p xs l ls ≡ keep → actions_of limit p xs (l ∷ ls) ≡ keep ∷ map (λ t. keep) ls
          by s a = rw (a, e, actions_of, s)
      go r (bad n c) e = at_stopped (sym h ∙ run_stop sdfile limit p xs i l ls n c e)

pub good_same : (limit : ℕ) (ls : List Line) (ys : List Raw) → run sdfile limit first [] 1 ls ≡ at first ys → mended_lines limit ls ≡ ls
unfolding mended_lines
good_same limit ls ys h = ap (λ (x : List Action). applied x ls) (good_unchanged limit first [] 1 ls ys h) ∙ applied_kept ls
