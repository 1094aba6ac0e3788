-- The walk that mends, line by line: what stands between two lines, and how each line carries it on or ends it.
use Rattle.std.specs.Prelude.{ℕ, suc, Bool, ◌&&◌, length}
use Rattle.std.proofs.Math.Path.{◌≡◌, refl, sym, ap}
use Rattle.std.proofs.Common.{◌∙◌, arith, length-append}
use mathlib.Core.List.{List, [], ◌∷◌, ◌++◌, map, append_assoc}
use Rattle.std.proofs.Math.Bool.{true, false, cond}
use Rattle.text.specs.Text.{Bytes, Line}
use Rattle.text.specs.Find.{is_blank}
use Rattle.text.specs.Cut.{ended, split}
use Rattle.rules.specs.Record.{Raw}
use Rattle.judge_file.specs.Place.{sdfile, Place, first, second, third, counts, atoms, bonds, properties, over, items, values}
use Rattle.judge_file.specs.Verdict.{stopped, refused, end_sdfile, verdict}
use Rattle.mend_rules.specs.Mend.{Action, keep, put, lose, item_line, all_blank, some, action_at, emptied, Left, went, fell, left, actions_of, applied, walk_from}
use Rattle.mend_rules.specs.Named.{Fix, fix, line_put, blank_dropped, line_end, none, fixes_from}
use Rattle.mend_rules.proofs.Named.{actions_length}
use Rattle.mend_rules.specs.Text.{unfinished, mended_text}
use Rattle.mend_rules.proofs.Text.{judged_text}
use Rattle.mend_rules.specs.Unchanged.{item_not_blank}
use Rattle.mend_rules.specs.Still.{Still, over_pieces}

module _ (limit : ℕ) where
  -- ---- one line

  acts_next : (p q : Place) (xs ys : List Raw) (l : Line) (ls : List Line) → action_at p xs l ls ≡ keep → left limit p xs l ≡ went q ys →
      actions_of limit p xs (l ∷ ls) ≡ keep ∷ actions_of limit q ys ls
  unfolding actions_of
  acts_next p q xs ys l ls a e = rw (a, e, actions_of)

  walk_next : (p q : Place) (xs ys : List Raw) (j : ℕ) (l : Line) (ls : List Line) → action_at p xs l ls ≡ keep → left limit p xs l ≡ went q ys →
      walk_from limit p xs j (l ∷ ls) ≡ walk_from limit q ys (suc j) ls
  unfolding walk_from
  walk_next p q xs ys j l ls a e = rw (a, e, walk_from)

  walk_stop : (p : Place) (xs : List Raw) (j : ℕ) (l : Line) (ls : List Line) (n c : ℕ) → action_at p xs l ls ≡ keep → left limit p xs l ≡ fell n c →
      walk_from limit p xs j (l ∷ ls) ≡ stopped n j c
  unfolding walk_from
  walk_stop p xs j l ls n c a e = rw (a, e, walk_from)

  acts_lost : (p : Place) (xs : List Raw) (l : Line) (ls : List Line) → action_at p xs l ls ≡ lose → actions_of limit p xs (l ∷ ls) ≡ lose ∷ actions_of limit p xs ls
  unfolding actions_of
  acts_lost p xs l ls a = rw (a, actions_of)

  walk_lost : (p : Place) (xs : List Raw) (j : ℕ) (l : Line) (ls : List Line) → action_at p xs l ls ≡ lose → walk_from limit p xs j (l ∷ ls) ≡ walk_from limit p xs j ls
  unfolding walk_from
  walk_lost p xs j l ls a = rw (a, walk_from)

  -- ---- an empty line put: the line itself is then looked at again, and stays

  stays_then : (p : Place) (xs : List Raw) (l : Line) (ls : List Line) → action_at p xs l ls ≡ put → action_at (emptied p) xs l ls ≡ keep
  unfolding action_at emptied
  stays_then first xs l ls h = go (some xs && all_blank (l ∷ ls)) h
    where
      go : (t : Bool) → cond t lose keep ≡ put → cond t lose keep ≡ keep
      go true h = absurd (let z : ◌≡◌ {A = ℕ} 0 1 = cc in omega arith)
      go false h = refl
  stays_then (second h₁) xs l ls h = refl
  stays_then (third h₁ h₂) xs l ls h = refl
  stays_then (counts hs) xs l ls h = refl
  stays_then (atoms hs c k ys) xs l ls h = refl
  stays_then (bonds hs c ys k bs) xs l ls h = refl
  stays_then (properties hs c ys bs ps) xs l ls h = refl
  stays_then (over m) xs l ls h = refl
  stays_then (items m is) xs l ls h = go (is_blank l) h
    where
      go : (t : Bool) → cond t lose keep ≡ put → cond t lose keep ≡ keep
      go true h = absurd (let z : ◌≡◌ {A = ℕ} 0 1 = cc in omega arith)
      go false h = refl
  stays_then (values m is name vs) xs l ls h = go (item_line l) refl h
    where
      go : (t : Bool) → item_line l ≡ t → cond t put keep ≡ put → cond (is_blank l) lose keep ≡ keep
      go true e h = rw (item_not_blank l e)
      go false e h = absurd (let z : ◌≡◌ {A = ℕ} 0 1 = cc in omega arith)

  -- what is done after the line
  record Then (p : Place) (xs : List Raw) (l : Line) (ls : List Line) : Type 0 where
    acts : List Action
    with_put : actions_of limit p xs (l ∷ ls) ≡ put ∷ acts
    without : actions_of limit (emptied p) xs (l ∷ ls) ≡ keep ∷ acts

  acts_put : (p : Place) (xs : List Raw) (l : Line) (ls : List Line) → action_at p xs l ls ≡ put → Then p xs l ls
  unfolding actions_of
  acts_put p xs l ls a = go (left limit (emptied p) xs l) refl
    where
      b : action_at (emptied p) xs l ls ≡ keep
      b = stays_then p xs l ls a

      go : (f : Left) → left limit (emptied p) xs l ≡ f → Then p xs l ls
      go (went q ys) e = record { acts = actions_of limit q ys ls; with_put = rw (a, e, actions_of); without = rw (b, e, actions_of) }
      go (fell n c) e = record { acts = map (λ t. keep) ls; with_put = rw (a, e, actions_of); without = rw (b, e, actions_of) }

  walk_put : (p : Place) (xs : List Raw) (j : ℕ) (l : Line) (ls : List Line) → action_at p xs l ls ≡ put →
      walk_from limit p xs j (l ∷ ls) ≡ walk_from limit (emptied p) xs (suc j) (l ∷ ls)
  unfolding walk_from
  walk_put p xs j l ls a = go (left limit (emptied p) xs l) refl
    where
      b : action_at (emptied p) xs l ls ≡ keep
      b = stays_then p xs l ls a

      go : (f : Left) → left limit (emptied p) xs l ≡ f → walk_from limit p xs j (l ∷ ls) ≡ walk_from limit (emptied p) xs (suc j) (l ∷ ls)
      go (went q ys) e = rw (a, b, e, walk_from)
      go (fell n c) e = rw (a, b, e, walk_from)

-- ---- Between two lines: `out` has come out and `noted` is listed, line i is next and `rest` is left

none_same : {A B : Type 0} (xs : List A) (ys : List B) → length xs ≡ length ys → none xs ≡ none ys
none_same [] [] e = refl
none_same [] (y ∷ ys) e = absurd (omega arith)
none_same (x ∷ xs) [] e = absurd (omega arith)
none_same (x ∷ xs) (y ∷ ys) e = refl

length_ended : (rs : List Bytes) → length (map ended rs) ≡ length rs
length_ended [] = refl
length_ended (r ∷ rs) = ap suc (length_ended rs)

one_more_lem : (out : List Bytes) (r : Bytes) → length (out ++ (r ∷ [])) ≡ suc (length out)
one_more_lem out r = length-append out (r ∷ []) ∙ omega arith

module _ (limit : ℕ) (s : Bytes) (p : Place) (xs : List Raw) (out : List Bytes) (noted : List Fix) (i : ℕ) (r : Bytes) (rs : List Bytes)
    (g : Still limit s p xs out noted i (r ∷ rs)) where
  u : Bool
  u = unfinished (split s).rest

  last_one : (q : Place) (ys : List Raw) → none (actions_of limit q ys (map ended rs)) ≡ none rs
  last_one q ys = none_same (actions_of limit q ys (map ended rs)) rs (actions_length limit q ys (map ended rs) ∙ length_ended rs)

  pub still_kept : (q : Place) (ys : List Raw) → action_at p xs (ended r) (map ended rs) ≡ keep → left limit p xs (ended r) ≡ went q ys →
      Still limit s q ys (out ++ (r ∷ [])) (noted ++ line_end i (unfinished (split s).rest && none rs)) (suc i) rs
  unfolding applied fixes_from u
  still_kept q ys a e =
      let t = actions_of limit q ys (map ended rs) in
      let n = acts_next limit p q xs ys (ended r) (map ended rs) a e in
      record {
        walk = g.walk ∙ walk_next limit p q xs ys (suc (length out)) (ended r) (map ended rs) a e ∙ rw (one_more_lem out r);
        acted =
            g.acted ∙ ap (λ (x : List Action). out ++ applied x (r ∷ rs)) n ∙ sym (append_assoc out (r ∷ []) (applied t rs));
        listed =
            g.listed ∙ ap (λ (x : List Action). noted ++ fixes_from u i x) n
            ∙ ap (λ (b : Bool). noted ++ (line_end i (u && b) ++ fixes_from u (suc i) t)) (last_one q ys)
            ∙ sym (append_assoc noted (line_end i (u && none rs)) (fixes_from u (suc i) t));
      }

  pub still_lost : action_at p xs (ended r) (map ended rs) ≡ lose → Still limit s p xs out (noted ++ (fix i blank_dropped ∷ [])) (suc i) rs
  unfolding applied fixes_from u
  still_lost a =
      let t = actions_of limit p xs (map ended rs) in
      let n = acts_lost limit p xs (ended r) (map ended rs) a in
      record {
        walk = g.walk ∙ walk_lost limit p xs (suc (length out)) (ended r) (map ended rs) a;
        acted = g.acted ∙ ap (λ (x : List Action). out ++ applied x (r ∷ rs)) n;
        listed = g.listed ∙ ap (λ (x : List Action). noted ++ fixes_from u i x) n ∙ sym (append_assoc noted (fix i blank_dropped ∷ []) (fixes_from u (suc i) t));
      }

  pub still_put : action_at p xs (ended r) (map ended rs) ≡ put →
      Still limit s (emptied p) xs (out ++ ([] ∷ [])) (noted ++ (fix i line_put ∷ [])) i (r ∷ rs)
  unfolding applied fixes_from u
  still_put a =
      let t = acts_put limit p xs (ended r) (map ended rs) a in
      let v = fixes_from u i (keep ∷ t.acts) in
      record {
        walk = g.walk ∙ walk_put limit p xs (suc (length out)) (ended r) (map ended rs) a ∙ rw (one_more_lem out []);
        acted =
            g.acted ∙ ap (λ (x : List Action). out ++ applied x (r ∷ rs)) t.with_put
            ∙ sym (append_assoc out ([] ∷ []) (r ∷ applied t.acts rs))
            ∙ ap (λ (x : List Action). (out ++ ([] ∷ [])) ++ applied x (r ∷ rs)) (sym t.without);
        listed =
            g.listed ∙ ap (λ (x : List Action). noted ++ fixes_from u i x) t.with_put
            ∙ sym (append_assoc noted (fix i line_put ∷ []) v)
            ∙ ap (λ (x : List Action). (noted ++ (fix i line_put ∷ [])) ++ fixes_from u i x) (sym t.without);
      }

  -- ---- a line that is refused ends it

  pub still_refused : (n c : ℕ) → action_at p xs (ended r) (map ended rs) ≡ keep → left limit p xs (ended r) ≡ fell n c →
      verdict sdfile limit (mended_text limit s) ≡ refused n (suc (length out)) c
  still_refused n c a e =
      judged_text limit s ∙ rw (g.walk ∙ walk_stop limit p xs (suc (length out)) (ended r) (map ended rs) n c a e)

-- ---- and so does the end of the file

module _ (limit : ℕ) (s : Bytes) (p : Place) (xs : List Raw) (out : List Bytes) (noted : List Fix) (i : ℕ) (g : Still limit s p xs out noted i []) where
  pub over_verdict : verdict sdfile limit (mended_text limit s) ≡ end_sdfile p xs (suc (length out))
  unfolding walk_from
  over_verdict = judged_text limit s ∙ rw (g.walk, over_pieces limit s p xs out noted i g)
