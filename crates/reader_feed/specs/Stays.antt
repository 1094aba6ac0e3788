-- A record that is whole, or refused, is the same in any longer text: so it does not matter where the input is cut.
use Rattle.std.specs.Prelude.{Option, Some, None, ℕ, zero, suc, ◌+◌, ◌-◌, ◌≤◌, ◌<◌, Bool, true, false, cond, length, drop}
use Rattle.std.proofs.Common.{arith, sym, ◌∙◌}
use Rattle.std.proofs.Math.Path.{◌≡◌, refl, ap, subst}
use mathlib.Core.List.{List, [], ◌∷◌, ◌++◌, append_assoc}
use Rattle.std.proofs.Math.ListN.{length-drop, get_or-append}
use Rattle.std.proofs.lemmas.List.{drop-append-le}
use Rattle.text.specs.Text.{Bytes, Line, LF, Lines}
use Rattle.text.specs.Find.{first_from, is_lf, line_to, line_at}
use Rattle.text.specs.First.{first_within}
use Rattle.text.specs.Cut.{Cut, cut, cut_is, lines_cut, line_within, line_cut, line_rest}
use Rattle.text.specs.declared.LineAt.{LineAt}
use Rattle.rules.specs.Record.{Raw, limit}
use Rattle.judge_line.specs.Got.{Got, got, bad}
use Rattle.judge_file.specs.Place.{sdfile, Place, first, Turn, next, done, turn_of}
use Rattle.judge_file.specs.One.{One, one_from, one_record}
use Rattle.judge_file.proofs.OneAgree.{one_whole}
use Rattle.judge_file.specs.WalkText.{after_lines, after_none, after_next}
use Rattle.judge_file.specs.OneRun.{one_next, one_stop}
use Rattle.judge_file.proofs.OneRun.{one_done}
use Rattle.reader_feed.specs.Fed.{Piece, piece_by, piece_of}

-- ---- The lines of a longer text begin with those of the shorter one

lines_more : {s : Bytes} {ls : List Line} {rest : Bytes} (more : Bytes) → Lines s ls rest → (ms : List Line) × (r : Bytes) × Lines (s ++ more) (ls ++ ms) r
lines_more more (Lines.unfinished {rest = rest} f) = ((cut (rest ++ more)).lines, (cut (rest ++ more)).rest, cut_is (rest ++ more))
lines_more more (Lines.line {bs = bs} {more = after} e f h p) =
    let m = lines_more more p in
    (m.0, m.1, Lines.line (ap (λ (x : Bytes). x ++ more) e ∙ append_assoc bs (LF ∷ after) more) f h m.2)

pub cut_more : (s more : Bytes) → (ms : List Line) × ((cut (s ++ more)).lines ≡ (cut s).lines ++ ms)
cut_more s more =
    let m = lines_more more (cut_is s) in
    (m.0, ap (λ (c : Cut). c.lines) (lines_cut m.2))

-- ---- and stand at the same positions

first_more : (p : ℕ → Bool) (i k : ℕ) (xs ys : Bytes) → first_from p i xs ≡ Some k → first_from p i (xs ++ ys) ≡ Some k
unfolding first_from
first_more p i k [] ys h = absurd (let z : ◌≡◌ {A = ℕ} 0 1 = cc in omega arith)
first_more p i k (x ∷ xs) ys h = go (p x) (first_more p (suc i) k xs ys) h
  where
    go : (t : Bool) → (first_from p (suc i) xs ≡ Some k → first_from p (suc i) (xs ++ ys) ≡ Some k) →
        cond t (Some i) (first_from p (suc i) xs) ≡ Some k → cond t (Some i) (first_from p (suc i) (xs ++ ys)) ≡ Some k
    go true r q = q
    go false r q = r q

to_none : (s : Bytes) (at e n : ℕ) → line_to s at None ≡ LineAt.Line e n → ⊥
unfolding line_to
to_none s at e n h = absurd (let z : ◌≡◌ {A = ℕ} 0 1 = cc in omega arith)

module _ (s more : Bytes) where
  line_to_more : (at k : ℕ) → k < length s → line_to (s ++ more) at (Some k) ≡ line_to s at (Some k)
  unfolding line_to
  line_to_more at k h = rw (get_or-append s more 0 (k - 1) (omega arith))

  line_more : (at e n : ℕ) → at ≤ length s → line_at s at ≡ LineAt.Line e n → line_at (s ++ more) at ≡ LineAt.Line e n
  unfolding line_at
  line_more at e n h q = go (first_from is_lf at (drop at s)) refl q
    where
      go : (f : Option ℕ) → first_from is_lf at (drop at s) ≡ f → line_to s at f ≡ LineAt.Line e n → line_to (s ++ more) at (first_from is_lf at (drop at (s ++ more))) ≡ LineAt.Line e n
      go (Some k) found z =
          let w = first_within is_lf at k (drop at s) found in
          let d : first_from is_lf at (drop at (s ++ more)) ≡ Some k =
          ap (first_from is_lf at) (drop-append-le at s more h) ∙ first_more is_lf at k (drop at s) more found in
          ap (line_to (s ++ more) at) d ∙ line_to_more at k (omega (arith, w.0, w.1, length-drop at s)) ∙ z
      go None found z = absurd (to_none s at e n z)

  after_more : (at k : ℕ) → at ≤ length s → k ≤ length (cut (drop at s)).lines → after_lines (s ++ more) at k ≡ after_lines s at k
  after_more at zero h some = after_none (s ++ more) at ∙ sym (after_none s at)
  after_more at (suc k) h some = go (λ n h some. after_more n k h some) (line_at s at) refl
    where
      go : ((n : ℕ) → n ≤ length s → k ≤ length (cut (drop n s)).lines → after_lines (s ++ more) n k ≡ after_lines s n k) → (l : LineAt) → line_at s at ≡ l →
          after_lines (s ++ more) at (suc k) ≡ after_lines s at (suc k)
      go r (LineAt.Line e n) q =
          let w = line_within s at e n q in
          let fewer : k ≤ length (cut (drop n s)).lines = omega (arith, ap (λ (c : Cut). length c.lines) (line_cut s at e n q)) in
          after_next (s ++ more) at e n k (line_more at e n h q) ∙ r n w.2 fewer ∙ sym (after_next s at e n k q)
      go r LineAt.Unfinished q = absurd (omega (arith, ap (λ (c : Cut). length c.lines) (line_rest s at q)))

-- ---- One record, with more lines after these

abbrev pub Keeps : One → List Line → One → Type 0
Keeps (One.whole x k rest) ms o = o ≡ One.whole x k (rest ++ ms)
Keeps (One.refused e k column) ms o = o ≡ One.refused e k column
Keeps (One.short k) ms o = Unit {0}

one_keeps : (p : Place) (i : ℕ) (ls ms : List Line) → Keeps (one_from limit p i ls) ms (one_from limit p i (ls ++ ms))
unfolding one_from
one_keeps p i [] ms = tt
one_keeps p i (l ∷ ls) ms = go (λ q. one_keeps q (suc i) ls ms) (turn_of sdfile limit p l) refl
  where
    go : ((q : Place) → Keeps (one_from limit q (suc i) ls) ms (one_from limit q (suc i) (ls ++ ms))) → (g : Got Turn) → turn_of sdfile limit p l ≡ g →
        Keeps (one_from limit p i (l ∷ ls)) ms (one_from limit p i (l ∷ (ls ++ ms)))
    go r (got (next q)) e = rw (one_next limit p q i l ls e, one_next limit p q i l (ls ++ ms) e) (r q)
    go r (got (done x)) e = rw (one_done limit p x i l ls e) (one_done limit p x i l (ls ++ ms) e)
    go r (bad n c) e = rw (one_stop limit p i l ls n c e) (one_stop limit p i l (ls ++ ms) n c e)

-- ---- What the record at the front says of the lines

module _ (t : Bytes) where
  pub whole_one : (n k : ℕ) → piece_of t ≡ Piece.Whole n k → (x : Raw) × (rest : List Line) × (one_record limit (cut t).lines ≡ One.whole x k rest) × (n ≡ after_lines t 0 k)
  unfolding piece_of
  whole_one n k h = go (one_record limit (cut t).lines) refl h
    where
      go : (o : One) → one_record limit (cut t).lines ≡ o → piece_by t o ≡ Piece.Whole n k →
          (x : Raw) × (rest : List Line) × (one_record limit (cut t).lines ≡ One.whole x k rest) × (n ≡ after_lines t 0 k)
      go (One.whole x j rest) e q =
          let jk : j ≡ k = cc in
          let size : n ≡ after_lines t 0 j = cc in
          (x, rest, e ∙ ap (λ (u : ℕ). One.whole x u rest) jk, size ∙ ap (after_lines t 0) jk)
      go (One.refused n k c) e q = absurd (let z : ◌≡◌ {A = ℕ} 0 1 = cc in omega arith)
      go (One.short k) e q = absurd (let z : ◌≡◌ {A = ℕ} 0 1 = cc in omega arith)

  pub refused_one : (e k column : ℕ) → piece_of t ≡ Piece.Refused e k column → one_record limit (cut t).lines ≡ One.refused e k column
  unfolding piece_of
  refused_one e k column h = go (one_record limit (cut t).lines) refl h
    where
      go : (o : One) → one_record limit (cut t).lines ≡ o → piece_by t o ≡ Piece.Refused e k column → one_record limit (cut t).lines ≡ One.refused e k column
      go (One.whole x j rest) o q = absurd (let z : ◌≡◌ {A = ℕ} 0 1 = cc in omega arith)
      go (One.refused n j c) o q =
          let same : One.refused n j c ≡ One.refused e k column = cc in
          o ∙ same
      go (One.short j) o q = absurd (let z : ◌≡◌ {A = ℕ} 0 1 = cc in omega arith)

  pub short_one : (k : ℕ) → piece_of t ≡ Piece.Short k → one_record limit (cut t).lines ≡ One.short k
  unfolding piece_of
  short_one k h = go (one_record limit (cut t).lines) refl h
    where
      go : (o : One) → one_record limit (cut t).lines ≡ o → piece_by t o ≡ Piece.Short k → one_record limit (cut t).lines ≡ One.short k
      go (One.whole x j rest) o q = absurd (let z : ◌≡◌ {A = ℕ} 0 1 = cc in omega arith)
      go (One.refused n j c) o q = absurd (let z : ◌≡◌ {A = ℕ} 0 1 = cc in omega arith)
      go (One.short j) o q =
          let same : One.short j ≡ One.short k = cc in
          o ∙ same

  pub one_piece : (o : One) → one_record limit (cut t).lines ≡ o → piece_of t ≡ piece_by t o
  unfolding piece_of
  one_piece o e = ap (piece_by t) e

-- ---- The record at the front of a longer text

module _ (s more : Bytes) where
  keeps : (o : One) → one_record limit (cut s).lines ≡ o → Keeps o (cut_more s more).0 (one_record limit (cut (s ++ more)).lines)
  unfolding one_record
  keeps o e =
      subst (λ (ls : List Line). Keeps o (cut_more s more).0 (one_from limit first 1 ls)) (sym (cut_more s more).1)
      (subst (λ (q : One). Keeps q (cut_more s more).0 (one_from limit first 1 ((cut s).lines ++ (cut_more s more).0))) e (one_keeps first 1 (cut s).lines (cut_more s more).0))

  pub whole_stays : (n k : ℕ) → piece_of s ≡ Piece.Whole n k → piece_of (s ++ more) ≡ Piece.Whole n k
  whole_stays n k h =
      let w = whole_one s n k h in
      let few : k ≤ length (cut s).lines = omega (arith, ((one_whole limit (cut s).lines w.0 k w.1).0 w.2).1) in
      one_piece (s ++ more) (One.whole w.0 k (w.1 ++ (cut_more s more).0)) (keeps (One.whole w.0 k w.1) w.2)
      ∙ ap (λ (u : ℕ). Piece.Whole u k) (after_more s more 0 k (omega arith) few ∙ sym w.3)

  pub refused_stays : (e k column : ℕ) → piece_of s ≡ Piece.Refused e k column → piece_of (s ++ more) ≡ Piece.Refused e k column
  refused_stays e k column h = one_piece (s ++ more) (One.refused e k column) (keeps (One.refused e k column) (refused_one s e k column h))
