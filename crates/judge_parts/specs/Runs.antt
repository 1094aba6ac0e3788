-- A run over the lines of a part, for any places and turns: line by line, in two stretches, to where it stops, and beside a run over other places.
use Prim.Native.Nat.{ℕ, suc, ◌+◌}
use Rattle.std.proofs.Math.Path.{◌≡◌, refl, sym, ap, ap₂}
use Rattle.std.proofs.Common.{◌∙◌}
use mathlib.Core.List.{List, [], ◌∷◌, ◌++◌}
use Rattle.std.proofs.Math.ListN.{length}
use native.Mathlib.Omega.{arith}
use Rattle.text.specs.Text.{Bytes, Line}
use Rattle.text.specs.Cut.{Cut, cut}
use Rattle.judge_line.specs.Got.{Got, got, bad}
use Rattle.judge_file.specs.Verdict.{Verdict, refused}
use Rattle.judge_parts.specs.Part.{Run, at, stopped, run, finish, conclude, verdict_from}

pub at_stopped : {P X : Type 0} {p : P} {e i c : ℕ} → ◌≡◌ {A = Run P} (at p) (stopped e i c) → X
at_stopped h = let z : ◌≡◌ {A = ℕ} 0 1 = cc in absurd (omega arith)

pub at_place : {P : Type 0} {p q : P} → ◌≡◌ {A = Run P} (at p) (at q) → p ≡ q
at_place h = cc

module _ {P : Type 0} (turn : P → Line → Got P) where
  -- ---- Line by line

  pub run_next : (p q : P) (i : ℕ) (l : Line) (t : List Line) → turn p l ≡ got q → run turn p i (l ∷ t) ≡ run turn q (suc i) t
  unfolding run
  run_next p q i l t e = rw (e, run)

  pub run_stop : (p : P) (i : ℕ) (l : Line) (t : List Line) (e c : ℕ) → turn p l ≡ bad e c → run turn p i (l ∷ t) ≡ stopped e i c
  unfolding run
  run_stop p i l t e c h = rw (h, run)

  -- ---- In two stretches

  pub run_append : (p : P) (i : ℕ) (s : List Line) (q : P) → run turn p i s ≡ at q → (t : List Line) → run turn p i (s ++ t) ≡ run turn q (i + length s) t
  unfolding run
  run_append p i [] q h t = let e : i + 0 ≡ i = omega arith in rw (e, at_place h)
  run_append p i (l ∷ s) q h t = go (λ p' h'. run_append p' (suc i) s q h' t) (turn p l) refl
    where
      go : ((p' : P) → run turn p' (suc i) s ≡ at q → run turn p' (suc i) (s ++ t) ≡ run turn q (suc i + length s) t) →
          (x : Got P) → turn p l ≡ x → run turn p i (l ∷ (s ++ t)) ≡ run turn q (i + suc (length s)) t
      go r (got p') e =
          let n : i + suc (length s) ≡ suc i + length s = omega arith in
          rw n (run_next p p' i l (s ++ t) e ∙ r p' (sym (run_next p p' i l s e) ∙ h))
      go r (bad n c) e = at_stopped (sym h ∙ run_stop p i l s n c e)

  -- ---- To where it stops

  pub record Stop (p : P) (i : ℕ) (t : List Line) (e k c : ℕ) : Type 0 where
    pub before : List Line
    pub l : Line
    pub after : List Line
    pub q : P
    pub whole : t ≡ before ++ (l ∷ after)
    pub line : k ≡ i + length before
    pub reached : run turn p i before ≡ at q
    pub refused : turn q l ≡ bad e c

  pub stop : (p : P) (i : ℕ) (t : List Line) (e k c : ℕ) → run turn p i t ≡ stopped e k c → Stop p i t e k c
  unfolding run
  stop p i [] e k c h = at_stopped h
  stop p i (l ∷ t) e k c h = go (λ q g. stop q (suc i) t e k c g) (turn p l) refl
    where
      go : ((q : P) → run turn q (suc i) t ≡ stopped e k c → Stop q (suc i) t e k c) → (x : Got P) → turn p l ≡ x → Stop p i (l ∷ t) e k c
      go r (got q) m =
          let a = r q (sym (run_next p q i l t m) ∙ h) in
          record {
            before = l ∷ a.before;
            l = a.l;
            after = a.after;
            q = a.q;
            whole = ap (λ (x : List Line). l ∷ x) a.whole;
            line = a.line ∙ omega arith;
            reached = run_next p q i l a.before m ∙ a.reached;
            refused = a.refused;
          }
      go r (bad n d) m =
          let g : ◌≡◌ {A = Run P} (stopped n i d) (stopped e k c) = sym (run_stop p i l t n d m) ∙ h in
          let ne : n ≡ e = cc in
          let ik : i ≡ k = cc in
          let dc : d ≡ c = cc in
          record { before = []; l = l; after = t; q = p; whole = refl; line = omega arith; reached = refl; refused = m ∙ ap₂ bad ne dc }

  -- ---- The verdict from a place on, at line i

  module _ {A : Type 0} (end : P → ℕ → Verdict A) where
    unfoldable pub from_cut : P → ℕ → Cut → Verdict A
    from_cut p i c = conclude end (run turn p i c.lines) c.rest (i + length c.lines)

    pub from_start : (p : P) (s : Bytes) → verdict_from turn end p s ≡ from_cut p 1 (cut s)
    unfolding verdict_from from_cut
    from_start p s =
        let n : suc (length (cut s).lines) ≡ 1 + length (cut s).lines = omega arith in
        ap (conclude end (run turn p 1 (cut s).lines) (cut s).rest) n

    pub from_next : (p q : P) (i : ℕ) (l : Line) (c : Cut) → turn p l ≡ got q →
        from_cut p i (record { lines = l ∷ c.lines; rest = c.rest }) ≡ from_cut q (suc i) c
    unfolding from_cut
    from_next p q i l c e =
        let n : i + suc (length c.lines) ≡ suc i + length c.lines = omega arith in
        ap₂ (λ r j. conclude end r c.rest j) (run_next p q i l c.lines e) n

    pub from_stop : (p : P) (i : ℕ) (l : Line) (c : Cut) (e column : ℕ) → turn p l ≡ bad e column →
        from_cut p i (record { lines = l ∷ c.lines; rest = c.rest }) ≡ refused e i column
    unfolding from_cut
    from_stop p i l c e column h = ap (λ r. conclude end r c.rest (i + suc (length c.lines))) (run_stop p i l c.lines e column h)

    pub from_end : (p : P) (i : ℕ) (rest : Bytes) → from_cut p i (record { lines = []; rest = rest }) ≡ finish end p rest i
    unfolding from_cut run
    from_end p i rest = let n : i + 0 ≡ i = omega arith in rw n
