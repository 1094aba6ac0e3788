-- What is found keeps the promise.
use Rattle.std.specs.Prelude.{ℕ, suc, ◌+◌, ◌-◌, ◌≤◌, ◌<◌, ◌≡◌, List, [], ◌∷◌, ◌++◌, Bool, true, false, cond, eqb, length, take, drop}
use Rattle.std.proofs.Common.{arith, ◌∙◌, subst, length-append, take-append-drop, drop_at, eq-eqb, ne_eqb, eqb-true}
use Rattle.std.proofs.Math.Path.{refl, sym, ap}
use Rattle.std.proofs.Math.ListN.{length-drop}
use Rattle.std.proofs.Math.Seq.{length-take-le}
use Rattle.text.specs.Text.{Bytes, Line, LF, Each, Lines}
use Rattle.text.specs.Find.{line_at}
use Rattle.text.specs.Cut.{Cut, cut, cut_is, lines_same, line_within, line_cut, line_rest}
use Rattle.text.specs.declared.LineAt.{LineAt}
use Rattle.rules.specs.Forms.{ValueLine}
use Rattle.rules.specs.Record.{Values}
use Rattle.reader_item.specs.declared.Found.{Found}
use Rattle.reader_item.specs.Find.{Said, item, refused, numbers_of, found_of, line_end}
use Rattle.reader_item.specs.Promise.{FirstItem, ItemIn, Joined, Stretch, FoundAt, RefusedAt, Promised}
use Rattle.reader_item.specs.Position.{end_is}
use Rattle.reader_item.specs.First.{first_lead}
use Rattle.reader_item.specs.Joined.{lines_then}
use Rattle.reader_item.specs.Agree.{the_record}
use Rattle.reader_item.proofs.Agree.{is_found, is_refused}
use Rattle.reader_item.specs.Beyond.{first_named}
use Rattle.reader_first_line.specs.First.{line_from, first_by, first_of}
use Rattle.reader_first_line.specs.Promise.{FirstAt, FirstPromise}
use Rattle.reader_first_line.specs.declared.FirstLine.{FirstLine}

-- ---- A value line has bytes, so its stretch does not end at 0

first_value_lem : {name : Bytes} {u v vs : List Line} {l : Line} → FirstItem name u v (l ∷ vs) → ValueLine l
first_value_lem (FirstItem.here h (Values.more k p)) = k
first_value_lem (FirstItem.later h n p f) = first_value_lem f

some_bytes : (l : Line) → ValueLine l → 0 < length l
unfolding Each
some_bytes [] v = absurd (v.not_blank tt)
some_bytes (b ∷ l) v = omega arith

joined_bytes : {l : Line} {vs : List Line} {t : Bytes} → Joined (l ∷ vs) t → 0 < length l → 0 < length t
joined_bytes Joined.last h = h
joined_bytes (Joined.more {bs = bs} {rest = rest} e f g j) h = omega (arith, ap length e, length-append bs (LF ∷ rest))

-- ---- The lines from the stretch's start on

module _ (s : Bytes) {ls v vs : List Line} {rest : Bytes} {from to : ℕ} (lines : Lines s ls rest) (st : Stretch s ls v vs from to) where
  lines_from : (cut (drop from s)).lines ≡ v
  lines_from =
      let both = lines_then st.whole (cut_is (drop from s)) in
      let here = subst (λ (t : Bytes). Lines t (st.before ++ (cut (drop from s)).lines) (cut (drop from s)).rest) (take-append-drop from s) both in
      let same : st.before ++ (cut (drop from s)).lines ≡ st.before ++ v = (lines_same here lines).0 ∙ st.lines in
      sym (drop_at st.before (cut (drop from s)).lines (length st.before) refl) ∙ ap (drop (length st.before)) same
      ∙ drop_at st.before v (length st.before) refl

headed : (v vs : List Line) (l : Line) → take (suc (length vs)) v ≡ l ∷ vs → (t : List Line) × (v ≡ l ∷ t)
headed [] vs l h = let z : ◌≡◌ {A = ℕ} 0 (suc (length vs)) = ap length h in absurd (omega arith)
headed (m ∷ t) vs l h = let e : m ≡ l = cc in (t, ap (λ (x : Line). x ∷ t) e)

-- the line that starts there
pub record Starts (s : Bytes) (from : ℕ) (l : Line) : Type 0 where
  pub order : from ≤ line_end s from
  pub inside : line_end s from ≤ length s
  pub bytes : take (line_end s from - from) (drop from s) ≡ l

starts : (s : Bytes) (from : ℕ) (l : Line) (t : List Line) → (cut (drop from s)).lines ≡ l ∷ t → Starts s from l
starts s from l t h = go (line_at s from) refl
  where
    go : (x : LineAt) → line_at s from ≡ x → Starts s from l
    go (LineAt.Line e n) q =
        let w = line_within s from e n q in
        let z : line_end s from ≡ e = end_is s from e n q in
        let c : take (e - from) (drop from s) ∷ (cut (drop n s)).lines ≡ l ∷ t = ap (λ (c : Cut). c.lines) (sym (line_cut s from e n q)) ∙ h in
        let f : take (e - from) (drop from s) ≡ l = cc in
        record { order = omega (arith, w.0); inside = omega (arith, w.1, w.2); bytes = rw z f }
    go LineAt.Unfinished q =
        let c : ◌≡◌ {A = ℕ} 0 (suc (length t)) = ap (λ (c : Cut). length c.lines) (sym (line_rest s from q)) ∙ ap length h in
        absurd (omega arith)

-- ---- The promise

module _ (s name : Bytes) where
  some_first : (from to : ℕ) → FoundAt s name from to → FirstAt s name (line_from s from to)
  unfolding line_from
  some_first from to (FoundAt.some_values {v = v} {vs = vs} {l = l} lines it st) =
      let n = joined_bytes st.values (some_bytes l (first_value_lem it.first)) in
      let k : (to ≡ 0 → ⊥) = λ z. omega (arith, n, length-take-le (to - from) (drop from s) (omega (arith, length-drop from s, st.inside))) in
      let v_is = headed v vs l (first_lead name it.first).0 in
      let b = starts s from l v_is.0 (lines_from s lines st ∙ v_is.1) in
      rw (ne_eqb to 0 k) (FirstAt.line lines (the_record it) (first_named it.items it.first) b.order b.inside b.bytes)
  some_first from to (FoundAt.no_values lines it) = FirstAt.empty lines (the_record it) (first_named it.items it.first)

  first : FirstAt s name (first_of s name)
  unfolding first_of
  first = go (found_of s name) refl
    where
      go : (r : Said) → found_of s name ≡ r → FirstAt s name (first_by s r)
      go (item from to) q = some_first from to (is_found s name from to q)
      go (refused e i column) q = FirstAt.refused (is_refused s name e i column q)

  promised : (r : FirstLine) → r ≡ first_of s name → FirstPromise s name r
  promised r e = record { judged = e; first = subst (FirstAt s name) (sym e) first }

  pub first_found : {f : Found} → Promised s name (numbers_of f) → (from to : ℕ) → f ≡ Found.Item from to → (r : FirstLine) → r ≡ line_from s from to → FirstPromise s name r
  unfolding first_of
  first_found {f} p from to h r e = promised r (e ∙ ap (first_by s) (sym (ap numbers_of h) ∙ p.judged))

  pub first_refused : {f : Found} → Promised s name (numbers_of f) → (n i c : ℕ) → f ≡ Found.Refused n i c → FirstPromise s name (FirstLine.Refused n i c)
  unfolding first_of
  first_refused {f} p n i c h = promised (FirstLine.Refused n i c) (ap (first_by s) (sym (ap numbers_of h) ∙ p.judged))

-- ---- The line at the start

module _ (s : Bytes) (from to : ℕ) where
  pub line_none : to ≡ 0 → FirstLine.Empty ≡ line_from s from to
  unfolding line_from
  line_none h = rw (eq-eqb to 0 h)

  pub line_found : (to ≡ 0 → ⊥) → {x : LineAt} → x ≡ line_at s from → (e n : ℕ) → x ≡ LineAt.Line e n → FirstLine.Line from e ≡ line_from s from to
  unfolding line_from
  line_found h q e n k = let z : line_end s from ≡ e = end_is s from e n (sym q ∙ k) in rw (ne_eqb to 0 h, z)

  pub line_open : (to ≡ 0 → ⊥) → {x : LineAt} → x ≡ line_at s from → x ≡ LineAt.Unfinished → FirstLine.Line from from ≡ line_from s from to
  unfolding line_from line_end
  line_open h q k = let z : line_at s from ≡ LineAt.Unfinished = sym q ∙ k in rw (ne_eqb to 0 h, z, line_end)

pub ruleset line_laws = (line_none, line_found, line_open)

pub ruleset first_laws = (first_found, first_refused)
