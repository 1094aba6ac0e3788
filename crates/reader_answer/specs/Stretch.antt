-- Stretches of a text that are whole lines, and where they end.
use Prim.Native.Nat.{ℕ, zero, suc, ◌+◌, ◌-◌, ◌≤◌, ◌<◌}
use native.Mathlib.Omega.{arith}
use Rattle.std.proofs.Math.Path.{◌≡◌, refl, ap, subst}
use Rattle.std.proofs.Common.{sym, ◌∙◌, length-append, take-append-drop, drop-drop, take-add, length-take-le}
use mathlib.Core.List.{List, [], ◌∷◌, ◌++◌, append_assoc}
use Rattle.std.proofs.Math.ListN.{length, take, length-drop}
use Rattle.std.specs.Prelude.{Option, Some, None, drop}
use Rattle.std.proofs.Math.Seq.{take-suc, take-append_seam}
use Rattle.std.proofs.lemmas.List.{take-append-le, drop-append-le}
use borrow.Author.Tests.{eqb-true, eqb-false}
use Rattle.text.specs.Text.{Bytes, Line, LF, Each, Lines}
use Rattle.text.specs.First.{each_as, first_within, first_passes, first_before}
use Rattle.text.specs.Find.{first_from, is_lf, line_to, line_at}
use Rattle.text.specs.Cut.{Cut, cut, cut_is, lines_cut, lines_same, ended, ended_is, line_within, line_cut, line_rest}
use Rattle.text.specs.declared.LineAt.{LineAt}
use Rattle.judge_file.specs.WalkText.{after_lines, after_next}

-- the bytes from place a to before place e are these lines, and nothing unfinished
pub record Stretch (s : Bytes) (a e : ℕ) (ls : List Line) : Type 0 where
  pub from : a ≤ e
  pub inside : e ≤ length s
  pub lines : Lines (take (e - a) (drop a s)) ls []

-- ---- One after the other

pub lines_join : {t u : Bytes} {ls ms : List Line} {q r : Bytes} → Lines t ls q → q ≡ [] → Lines u ms r → Lines (t ++ u) (ls ++ ms) r
lines_join {u = u} {ms = ms} {r = r} (Lines.unfinished f) e h = subst (λ (x : Bytes). Lines (x ++ u) ms r) (sym e) h
lines_join {u = u} (Lines.line {bs = bs} {more = more} e f g p) z h =
    Lines.line (ap (λ (x : Bytes). x ++ u) e ∙ append_assoc bs (LF ∷ more) u) f g (lines_join p z h)

none_left : {t : Bytes} {ls : List Line} {r : Bytes} → Lines t ls r → length ls ≡ 0 → length r ≡ 0 → length t ≡ 0
none_left (Lines.unfinished f) e h = h
none_left (Lines.line e f g p) z h = absurd (omega arith)

module _ (s : Bytes) where
  two_parts : (a e f : ℕ) → a ≤ e → e ≤ f → take (f - a) (drop a s) ≡ take (e - a) (drop a s) ++ take (f - e) (drop e s)
  two_parts a e f h k =
      let n : f - a ≡ (e - a) + (f - e) = omega arith in
      let m : a + (e - a) ≡ e = omega arith in
      ap (λ (i : ℕ). take i (drop a s)) n
      ∙ take-add (e - a) (f - e) (drop a s)
      ∙ ap (λ (x : Bytes). take (e - a) (drop a s) ++ take (f - e) x) (drop-drop (e - a) a s ∙ ap (λ (i : ℕ). drop i s) m)

  pub stretch_join : {a e f : ℕ} {ls ms : List Line} → Stretch s a e ls → Stretch s e f ms → Stretch s a f (ls ++ ms)
  stretch_join {a = a} {e = e} {f = f} {ls = ls} {ms = ms} p q =
      record {
        from = omega (arith, p.from, q.from);
        inside = q.inside;
        lines = subst (λ (t : Bytes). Lines t (ls ++ ms) []) (sym (two_parts a e f p.from q.from)) (lines_join p.lines refl q.lines);
      }

  -- a stretch and what follows it
  pub stretch_cut : {a e : ℕ} {ls : List Line} → Stretch s a e ls → cut (drop a s) ≡ record { lines = ls ++ (cut (drop e s)).lines; rest = (cut (drop e s)).rest }
  stretch_cut {a = a} {e = e} p =
      let m : a + (e - a) ≡ e = omega (arith, p.from) in
      let w : drop a s ≡ take (e - a) (drop a s) ++ drop e s =
      sym (take-append-drop (e - a) (drop a s)) ∙ ap (λ (x : Bytes). take (e - a) (drop a s) ++ x) (drop-drop (e - a) a s ∙ ap (λ (i : ℕ). drop i s) m) in
      ap cut w ∙ lines_cut (lines_join p.lines refl (cut_is (drop e s)))

  -- ---- Lines are found so

  pub stretch_none : (a : ℕ) → a ≤ length s → Stretch s a a []
  unfolding Each
  stretch_none a h =
      let z : 0 ≡ a - a = omega arith in
      record { from = omega arith; inside = h; lines = subst (λ (i : ℕ). Lines (take i (drop a s)) [] []) z (Lines.unfinished tt) }

  lf_stretch : (a k : ℕ) → first_from is_lf a (drop a s) ≡ Some k → (l : Line) × Stretch s a (k + 1) (l ∷ [])
  unfolding Each
  lf_stretch a k h =
      let w = first_within is_lf a k (drop a s) h in
      let size = length-drop a s in
      let bs = take (k - a) (drop a s) in
      let in' : k - a < length (drop a s) = omega (arith, w.0, w.1) in
      let n : k + 1 - a ≡ suc (k - a) = omega (arith, w.0) in
      let t : take (k + 1 - a) (drop a s) ≡ bs ++ (LF ∷ []) =
      ap (λ (i : ℕ). take i (drop a s)) n ∙ take-suc (drop a s) (k - a) 0 in' ∙ ap (λ (b : ℕ). bs ++ (b ∷ [])) (eqb-true _ LF (first_passes is_lf a k (drop a s) h)) in (
        ended bs,
        record {
          from = omega (arith, w.0);
          inside = omega (arith, w.0, w.1, size);
          lines = Lines.line t (each_as bs (λ b. eqb-false b LF) (first_before is_lf a k (drop a s) h)) (ended_is bs) (Lines.unfinished tt);
        },
      )

  line_stretch : (a e n : ℕ) → line_at s a ≡ LineAt.Line e n → (l : Line) × Stretch s a n (l ∷ [])
  unfolding line_at line_to
  line_stretch a e n h = go (first_from is_lf a (drop a s)) refl h
    where
      go : (f : Option ℕ) → first_from is_lf a (drop a s) ≡ f → line_to s a f ≡ LineAt.Line e n → (l : Line) × Stretch s a n (l ∷ [])
      go (Some k) q g =
          let x = lf_stretch a k q in
          let kn : k + 1 ≡ n = cc in
          (x.0, subst (λ (i : ℕ). Stretch s a i (x.0 ∷ [])) kn x.1)
      go None q g = absurd (let z : ◌≡◌ {A = ℕ} 0 1 = cc in omega arith)

  -- the first k lines from a place on
  pub stretch_after : (a k : ℕ) → a ≤ length s → k ≤ length (cut (drop a s)).lines → Stretch s a (after_lines s a k) (take k (cut (drop a s)).lines)
  unfolding after_lines
  stretch_after a zero h some = stretch_none a h
  stretch_after a (suc k) h some = go (λ n h some. stretch_after n k h some) (line_at s a) refl
    where
      go : ((n : ℕ) → n ≤ length s → k ≤ length (cut (drop n s)).lines → Stretch s n (after_lines s n k) (take k (cut (drop n s)).lines)) → (l : LineAt) →
          line_at s a ≡ l → Stretch s a (after_lines s a (suc k)) (take (suc k) (cut (drop a s)).lines)
      go r (LineAt.Line e n) q =
          let x = line_stretch a e n q in
          let c : (cut (drop a s)).lines ≡ x.0 ∷ (cut (drop n s)).lines = ap (λ (c : Cut). c.lines) (stretch_cut x.1) in
          let y = stretch_join x.1 (r n x.1.inside (omega (arith, ap length c))) in
          subst (λ (i : ℕ). Stretch s a i (take (suc k) (cut (drop a s)).lines)) (sym (after_next s a e n k q))
          (subst (λ (ls : List Line). Stretch s a (after_lines s n k) (take (suc k) ls)) (sym c) y)
      go r LineAt.Unfinished q = absurd (omega (arith, ap (λ (c : Cut). length c.lines) (line_rest s a q)))

  -- ---- Its lines tell where a stretch ends

  longer : {a e f : ℕ} {ls : List Line} → Stretch s a e ls → Stretch s a f ls → ¬ (e < f)
  longer {a = a} {e = e} {f = f} {ls = ls} p q h =
      let w = take (f - e) (drop e s) in
      let size : length w ≡ f - e = length-take-le (f - e) (drop e s) (omega (arith, length-drop e s, q.inside)) in
      let j = lines_join p.lines refl (cut_is w) in
      let same = lines_same q.lines (subst (λ (t : Bytes). Lines t (ls ++ (cut w).lines) (cut w).rest) (sym (two_parts a e f p.from (omega arith))) j) in
      let none : length (cut w).lines ≡ 0 = omega (arith, ap length same.0, length-append ls (cut w).lines) in
      omega (arith, size, none_left (cut_is w) none (sym (ap length same.1)))

  pub stretch_one : {a e f : ℕ} {ls : List Line} → Stretch s a e ls → Stretch s a f ls → e ≡ f
  stretch_one {e = e} {f = f} p q = let x = longer p q in let y = longer q p in omega (arith, x, y)

  pub stretch_at : {a e : ℕ} {ls : List Line} → Stretch s a e ls → e ≡ after_lines s a (length ls)
  stretch_at {a = a} {e = e} {ls = ls} p =
      let c = ap (λ (c : Cut). c.lines) (stretch_cut p) in
      let n = length-append ls (cut (drop e s)).lines in
      let q = stretch_after a (length ls) (omega (arith, p.from, p.inside)) (omega (arith, ap length c, n)) in
      stretch_one p (subst (Stretch s a (after_lines s a (length ls))) (ap (take (length ls)) c ∙ take-append_seam ls (cut (drop e s)).lines) q)

  -- ---- What stands behind a stretch does not matter

  module _ (n : ℕ) (h : n ≤ length s) (u : Bytes) where
    in_front : (a e : ℕ) → a ≤ e → e ≤ n → (v : Bytes) → take (e - a) (drop a (take n s ++ v)) ≡ take (e - a) (drop a (take n s))
    in_front a e p q v =
        let size = length-take-le n s h in
        ap (take (e - a)) (drop-append-le a (take n s) v (omega arith)) ∙ take-append-le (e - a) (drop a (take n s)) v (omega (arith, length-drop a (take n s)))

    pub stretch_front : {a e : ℕ} {ls : List Line} → Stretch s a e ls → e ≤ n → Stretch (take n s ++ u) a e ls
    stretch_front {a = a} {e = e} {ls = ls} p q =
        let size = length-take-le n s h in
        let same : take (e - a) (drop a s) ≡ take (e - a) (drop a (take n s ++ u)) =
        ap (λ (t : Bytes). take (e - a) (drop a t)) (sym (take-append-drop n s)) ∙ in_front a e p.from q (drop n s) ∙ sym (in_front a e p.from q u) in
        record {
          from = p.from;
          inside = omega (arith, length-append (take n s) u);
          lines = subst (λ (t : Bytes). Lines t ls []) same p.lines;
        }

-- more lines end later
pub after_order : (s : Bytes) (a j k : ℕ) → a ≤ length s → j ≤ k → k ≤ length (cut (drop a s)).lines → after_lines s a j ≤ after_lines s a k
unfolding after_lines
after_order s a zero k h le some = (stretch_after s a k h some).from
after_order s a (suc j) zero h le some = absurd (omega arith)
after_order s a (suc j) (suc k) h le some = go (λ n h some. after_order s n j k h (omega arith) some) (line_at s a) refl
  where
    go : ((n : ℕ) → n ≤ length s → k ≤ length (cut (drop n s)).lines → after_lines s n j ≤ after_lines s n k) → (l : LineAt) → line_at s a ≡ l →
        after_lines s a (suc j) ≤ after_lines s a (suc k)
    go r (LineAt.Line e n) q =
        let w = line_within s a e n q in
        let c = ap (λ (c : Cut). length c.lines) (line_cut s a e n q) in
        let m = r n w.2 (omega arith) in
        omega (arith, m, after_next s a e n j q, after_next s a e n k q)
    go r LineAt.Unfinished q = absurd (omega (arith, ap (λ (c : Cut). length c.lines) (line_rest s a q)))
