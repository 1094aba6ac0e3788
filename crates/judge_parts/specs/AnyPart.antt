-- A part judged line by line, beside a language of lines, for any places and turns: where the turns fit what may follow each place, the judge accepts the
-- texts of the language, and names the first line after which no further lines finish one.
use Rattle.std.specs.Prelude.{ℕ, suc, ◌+◌, ◌≤◌, ◌↔◌, length}
use Rattle.std.proofs.Common.{arith, sym, ap, ap₂, ◌∙◌}
use Rattle.std.proofs.Math.Path.{◌≡◌, refl, subst}
use mathlib.Core.List.{List, [], ◌∷◌, ◌++◌, append_assoc, append-nil}
use Rattle.text.specs.Text.{Bytes, Line, Lines}
use Rattle.text.specs.Cut.{cut, cut_is, lines_cut, lines_same}
use Rattle.rules.specs.Viable.{Viable, Dead, FirstDead, first_dead}
use Rattle.judge_line.specs.Got.{Got, got, bad}
use Rattle.judge_file.specs.Marked.{Marked, marked_bad}
use Rattle.judge_file.specs.Verdict.{Verdict, accepted, refused}
use Rattle.judge_file.specs.SameVerdict.{accepted_refused, same_numbers}
use Rattle.judge_parts.specs.Part.{Run, run, conclude, verdict_from}
use Rattle.judge_parts.specs.Runs.{at_place, at_stopped, run_next, run_stop, run_append, stop}

-- a part may end at the place and then stands for a value, or it is cut short there
pub data Ends {P A : Type 0} (end : P → ℕ → Verdict A) (p : P) : Type 0 where
  whole : (a : A) → ((i : ℕ) → end p i ≡ accepted a) → Ends end p
  short : ((i : ℕ) → end p i ≡ refused 19 i 1) → Ends end p

-- `From p t a`: the lines t may follow the place, and the part then stands for a
pub record Fitting {P A : Type 0} (turn : P → Line → Got P) (end : P → ℕ → Verdict A) (From : P → List Line → A → Type 0) : Type 0 where
  pub onward : (p : P) (l : Line) (t : List Line) (a : A) → From p (l ∷ t) a → (q : P) × (turn p l ≡ got q) × From q t a
  pub backward : (p : P) (l : Line) (q : P) → turn p l ≡ got q → (t : List Line) (a : A) → From q t a → From p (l ∷ t) a
  pub at_end_lem : (p : P) (a : A) → From p [] a → (i : ℕ) → end p i ≡ accepted a
  pub from_end : (p : P) (a : A) (i : ℕ) → end p i ≡ accepted a → From p [] a
  pub ends : (p : P) → Ends end p
  pub ahead : (p : P) → (t : List Line) × (a : A) × From p t a
  pub marked : (p : P) (l : Line) → Marked (turn p l)

-- the text's lines are of the language, and nothing unfinished follows them
abbrev pub Good : (List Line → Type 0) → Bytes → Type 0
Good L s = (ls : List Line) × Lines s ls [] × L ls

-- Number 19 names the line after the complete ones: these can be finished, and the text is not good. Every other number names the first line after
-- which no further lines finish a part, and `Why` says why.
pub data PartRefusal (L : List Line → Type 0) (Why : List Line → ℕ → ℕ → ℕ → Type 0) (s : Bytes) : ℕ → ℕ → ℕ → Type 0 where
  line : {ls : List Line} {rest : Bytes} {e i column : ℕ} → Lines s ls rest → (3 ≤ e) × (e ≤ 18) → 1 ≤ column → FirstDead L ls i → Why ls e i column →
      PartRefusal L Why s e i column
  cut_short : {ls : List Line} {rest : Bytes} → Lines s ls rest → Viable L ls → ¬ Good L s → PartRefusal L Why s 19 (suc (length ls)) 1

module _ {P A : Type 0} (turn : P → Line → Got P) (end : P → ℕ → Verdict A) (From : P → List Line → A → Type 0) (fit : Fitting turn end From) where
  -- ---- Runs

  record Complete (p : P) (i : ℕ) (t : List Line) (a : A) : Type 0 where
    q : P
    is : run turn p i t ≡ Run.at q
    ended : (j : ℕ) → end q j ≡ accepted a

  complete : (p : P) (i : ℕ) (t : List Line) (a : A) → From p t a → Complete p i t a
  unfolding run
  complete p i [] a f = record { q = p; is = refl; ended = fit.at_end_lem p a f }
  complete p i (l ∷ t) a f =
      let o = fit.onward p l t a f in
      let c = complete o.0 (suc i) t a o.2 in
      record { q = c.q; is = run_next turn p o.0 i l t o.1 ∙ c.is; ended = c.ended }

  rewind : (p : P) (i : ℕ) (s : List Line) (q : P) → run turn p i s ≡ Run.at q → (t : List Line) (a : A) → From q t a → From p (s ++ t) a
  unfolding run
  rewind p i [] q h t a f = subst (λ (x : P). From x t a) (sym (at_place h)) f
  rewind p i (l ∷ s) q h t a f = go (λ p' h'. rewind p' (suc i) s q h' t a f) (turn p l) refl
    where
      go : ((p' : P) → run turn p' (suc i) s ≡ Run.at q → From p' (s ++ t) a) → (x : Got P) → turn p l ≡ x → From p (l ∷ (s ++ t)) a
      go r (got p') e = fit.backward p l p' e (s ++ t) a (r p' (sym (run_next turn p p' i l s e) ∙ h))
      go r (bad n c) e = at_stopped (sym h ∙ run_stop turn p i l s n c e)

  module _ (start : P) (R : List Line → A → Type 0) (is : (ls : List Line) (a : A) → From start ls a ↔ R ls a) (s : Bytes) where
    abbrev L : List Line → Type 0
    L ls = (a : A) × R ls a

    -- ---- Good texts

    pub good_part : (a : A) → (verdict_from turn end start s ≡ accepted a) ↔ ((ls : List Line) × Lines s ls [] × R ls a)
    unfolding verdict_from
    good_part a = (λ h. to (run turn start 1 (cut s).lines) refl (cut s).rest (cut_is s) h, back)
      where
        to : (r : Run P) → run turn start 1 (cut s).lines ≡ r → (rest : Bytes) → Lines s (cut s).lines rest →
            conclude end r rest (suc (length (cut s).lines)) ≡ accepted a → (ls : List Line) × Lines s ls [] × R ls a
        to (Run.at q) e [] c h =
            let f = rewind start 1 (cut s).lines q e [] a (fit.from_end q a (suc (length (cut s).lines)) h) in
            ((cut s).lines, c, (is (cut s).lines a).0 (subst (λ (t : List Line). From start t a) (append-nil (cut s).lines) f))
        to (Run.at q) e (b ∷ rest) c h = accepted_refused (sym h)
        to (Run.stopped m i d) e rest c h = accepted_refused (sym h)

        back : ((ls : List Line) × Lines s ls [] × R ls a) → conclude end (run turn start 1 (cut s).lines) (cut s).rest (suc (length (cut s).lines)) ≡ accepted a
        back g =
            let c = complete start 1 g.0 a ((is g.0 a).1 g.2) in
            rw (lines_cut g.1, c.is) (c.ended (suc (length g.0)))

    -- ---- Refused texts

    viable : (ls : List Line) (q : P) → run turn start 1 ls ≡ Run.at q → Viable L ls
    viable ls q h = let a = fit.ahead q in (a.0, (a.1, (is (ls ++ a.0) a.1).0 (rewind start 1 ls q h a.0 a.1 a.2)))

    dead : (ls : List Line) (q : P) (l : Line) (e c : ℕ) → run turn start 1 ls ≡ Run.at q → turn q l ≡ bad e c → Dead L (ls ++ (l ∷ []))
    dead ls q l e c h refuses more f =
        let g = complete start 1 ((ls ++ (l ∷ [])) ++ more) f.0 ((is ((ls ++ (l ∷ [])) ++ more) f.0).1 f.1) in
        at_stopped
        (sym g.is
        ∙ ap (run turn start 1) (append_assoc ls (l ∷ []) more)
        ∙ run_append turn start 1 ls q h (l ∷ more)
        ∙ run_stop turn q (1 + length ls) l more e c refuses)

    -- the line at which the judge stops is the first that no further lines finish
    stopped_first : (ls : List Line) (e i c : ℕ) → run turn start 1 ls ≡ Run.stopped e i c → FirstDead L ls i
    stopped_first ls e i c h =
        let t = stop turn start 1 ls e i c h in
        record {
          before = t.before;
          l = t.l;
          after = t.after;
          whole = t.whole;
          line = t.line ∙ omega arith;
          open_before = viable t.before t.q t.reached;
          shut_here = dead t.before t.q t.l e c t.reached t.refused;
        }

    -- a good text ends where a part may end
    good_ends : (q : P) → run turn start 1 (cut s).lines ≡ Run.at q → Good L s → (a : A) × ((cut s).rest ≡ []) × ((j : ℕ) → end q j ≡ accepted a)
    good_ends q h g =
        let same = lines_same g.1 (cut_is s) in
        let c = complete start 1 g.0 g.2.0 ((is g.0 g.2.0).1 g.2.1) in
        let e : c.q ≡ q = at_place (sym c.is ∙ ap (run turn start 1) same.0 ∙ h) in
        (g.2.0, sym same.1, λ j. sym (ap (λ (x : P). end x j) e) ∙ c.ended j)

    -- where a part may end, the lines are one
    ends_good : (ls : List Line) (q : P) (a : A) → Lines s ls [] → run turn start 1 ls ≡ Run.at q → ((j : ℕ) → end q j ≡ accepted a) → Good L s
    ends_good ls q a h r w =
        (ls, h, (a, (is ls a).0 (subst (λ (t : List Line). From start t a) (append-nil ls) (rewind start 1 ls q r [] a (fit.from_end q a 0 (w 0))))))

    -- `why` says that the judge stops exactly where there is a reason
    module _ (Why : List Line → ℕ → ℕ → ℕ → Type 0) (why : (ls : List Line) (e i c : ℕ) → (run turn start 1 ls ≡ Run.stopped e i c) ↔ Why ls e i c) where
      stopped_refusal : (e i c : ℕ) → run turn start 1 (cut s).lines ≡ Run.stopped e i c → PartRefusal L Why s e i c
      stopped_refusal e i c h =
          let t = stop turn start 1 (cut s).lines e i c h in
          let m = marked_bad (subst Marked t.refused (fit.marked t.q t.l)) in
          PartRefusal.line (cut_is s) m.0 m.1 (stopped_first (cut s).lines e i c h) ((why (cut s).lines e i c).0 h)

      to : (e i c : ℕ) → verdict_from turn end start s ≡ refused e i c → PartRefusal L Why s e i c
      unfolding verdict_from
      to e i c h = go (run turn start 1 (cut s).lines) refl (cut s).rest refl h
        where
          cut_short : (q : P) → run turn start 1 (cut s).lines ≡ Run.at q → ¬ Good L s →
              ◌≡◌ {A = Verdict A} (refused 19 (suc (length (cut s).lines)) 1) (refused e i c) → PartRefusal L Why s e i c
          cut_short q r w k =
              let z = same_numbers {A = A} k in
              subst (λ (x : ℕ). PartRefusal L Why s x i c) z.0
              (subst (λ (x : ℕ). PartRefusal L Why s 19 x c) z.1
              (subst (λ (x : ℕ). PartRefusal L Why s 19 (suc (length (cut s).lines)) x) z.2 (PartRefusal.cut_short (cut_is s) (viable (cut s).lines q r) w)))

          at_end_lem : (q : P) → Ends end q → run turn start 1 (cut s).lines ≡ Run.at q → end q (suc (length (cut s).lines)) ≡ refused e i c → PartRefusal L Why s e i c
          at_end_lem q (Ends.whole a w) r k = accepted_refused (sym (w (suc (length (cut s).lines))) ∙ k)
          at_end_lem q (Ends.short w) r k =
              cut_short q r (λ g. let x = good_ends q r g in accepted_refused (sym (x.2 0) ∙ w 0)) (sym (w (suc (length (cut s).lines))) ∙ k)

          go : (r : Run P) → run turn start 1 (cut s).lines ≡ r → (rest : Bytes) → (cut s).rest ≡ rest →
              conclude end r rest (suc (length (cut s).lines)) ≡ refused e i c → PartRefusal L Why s e i c
          go (Run.at q) r [] m k = at_end_lem q (fit.ends q) r k
          go (Run.at q) r (b ∷ rest) m k =
              cut_short q r (λ g. let x = good_ends q r g in let z : b ∷ rest ≡ [] = sym m ∙ x.1 in omega (arith, ap length z)) k
          go (Run.stopped f j d) r rest m k =
              let z = same_numbers {A = A} k in
              stopped_refusal e i c (r ∙ ap₂ (λ (x y : ℕ). Run.stopped x y d) z.0 z.1 ∙ ap (Run.stopped e i) z.2)

      -- lines that can be finished, and are no part, or are not all of the text
      short_end : (ls : List Line) (rest : Bytes) → Lines s ls rest → Viable L ls → ¬ Good L s → (r : Run P) → run turn start 1 ls ≡ r →
          conclude end r rest (suc (length ls)) ≡ refused 19 (suc (length ls)) 1
      short_end ls rest h v w (Run.stopped f j d) e = absurd (first_dead L ls j (stopped_first ls f j d e) v.0 v.1)
      short_end ls (b ∷ rest) h v w (Run.at q) e = refl
      short_end ls [] h v w (Run.at q) e = go (fit.ends q)
        where
          go : Ends end q → end q (suc (length ls)) ≡ refused 19 (suc (length ls)) 1
          go (Ends.whole a k) = absurd (w (ends_good ls q a h e k))
          go (Ends.short k) = k (suc (length ls))

      back : {e i c : ℕ} → PartRefusal L Why s e i c → verdict_from turn end start s ≡ refused e i c
      unfolding verdict_from
      back (PartRefusal.line {ls = ls} {e = e} {i = i} {column = c} h m k d w) = rw (lines_cut h, (why ls e i c).1 w)
      back (PartRefusal.cut_short {ls = ls} {rest = rest} h v w) = rw (lines_cut h) (short_end ls rest h v w (run turn start 1 ls) refl)

      pub refusal : (e i c : ℕ) → (verdict_from turn end start s ≡ refused e i c) ↔ PartRefusal L Why s e i c
      refusal e i c = (to e i c, back)

      -- there is one refusal at most
      pub refusal_one : {e i c e' i' c' : ℕ} → PartRefusal L Why s e i c → PartRefusal L Why s e' i' c' → (e ≡ e') × (i ≡ i') × (c ≡ c')
      refusal_one p q = same_numbers {A = A} (sym (back p) ∙ back q)
