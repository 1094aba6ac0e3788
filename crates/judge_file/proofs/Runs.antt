-- The judge's run over lines: what the rules let follow a place it takes to the end, and what it took may stand before what may follow then.
use Prim.Native.Nat.{ℕ, suc, ◌+◌}
use Rattle.std.specs.Prelude.{◌≡◌}
use Rattle.std.proofs.Math.Path.{refl, sym, ap, ap₂, subst}
use Rattle.std.proofs.Common.{◌∙◌}
use mathlib.Core.List.{List, [], ◌∷◌, ◌++◌, append-nil}
use Rattle.std.proofs.Math.ListN.{length}
use native.Mathlib.Omega.{arith}
use Rattle.text.specs.Text.{Line}
use Rattle.rules.specs.Record.{Raw}
use Rattle.judge_line.specs.Got.{Got, got, bad}
use Rattle.judge_file.specs.Place.{FileKind, turn_of}
use Rattle.judge_file.specs.Place.{Place, first, Turn, next, done}
use Rattle.judge_file.specs.Verdict.{at, stopped, run}
use Rattle.judge_file.proofs.Takes.{takes_turn, turn_takes}
use Rattle.judge_file.specs.Sound.{Sound, sound_takes}
use Rattle.judge_file.specs.From.{From, Left}
use Rattle.judge_file.specs.Owed.{snoc}
use Rattle.judge_file.specs.Onward.{onward}
use Rattle.judge_file.specs.Backward.{backward}
use Rattle.judge_file.specs.Runs.{at_end_lem, at_stopped, at_place, at_records, run_next, run_stop, Complete, Rewound, Stop}

-- ---- A run, line by line

module _ (kind : FileKind) (limit : ℕ) where
  pub run_done : (p : Place) (x : Raw) (xs : List Raw) (i : ℕ) (l : Line) (t : List Line) →
      turn_of kind limit p l ≡ got (done x) → run kind limit p xs i (l ∷ t) ≡ run kind limit first (xs ++ (x ∷ [])) (suc i) t
  unfolding run
  run_done p x xs i l t e = rw (e, run)

  -- ---- What the rules let follow, the run takes to the end

  pub complete : (p : Place) (xs : List Raw) (i : ℕ) (t : List Line) (rs : List Raw) → From kind limit p t rs → Complete kind limit p xs i t rs
  unfolding run
  complete p xs i [] rs f = record { q = p; ys = []; zs = rs; is = rw (append-nil xs); ends = at_end_lem kind limit p rs f; all = refl }
  complete p xs i (l ∷ t) rs f =
      let o = onward kind limit p l t rs f in
      go (λ q ys zs g. complete q ys (suc i) t zs g) o.turn (takes_turn kind limit o.takes) o.left
    where
      go : ((q : Place) (ys zs : List Raw) → From kind limit q t zs → Complete kind limit q ys (suc i) t zs) → (turn : Turn) → turn_of kind limit p l ≡ got turn →
          Left kind limit turn t rs → Complete kind limit p xs i (l ∷ t) rs
      go r (next q) e f =
          let c = r q xs rs f in
          record { q = c.q; ys = c.ys; zs = c.zs; is = run_next kind limit p q xs i l t e ∙ c.is; ends = c.ends; all = c.all }
      go r (done x) e f =
          let c = r first (xs ++ (x ∷ [])) f.0 f.1 in
          record {
            q = c.q;
            ys = x ∷ c.ys;
            zs = c.zs;
            is = run_done p x xs i l t e ∙ c.is ∙ ap (at c.q) (sym (snoc xs x c.ys));
            ends = c.ends;
            all = f.2 ∙ ap (λ (y : List Raw). x ∷ y) c.all;
          }

  -- ---- And back

  -- a run from a sound place ends at one
  pub sound_run : (p : Place) (xs : List Raw) (i : ℕ) (s : List Line) (q : Place) (ys : List Raw) → Sound kind limit p → run kind limit p xs i s ≡ at q ys →
      Sound kind limit q
  unfolding run
  sound_run p xs i [] q ys sound h = subst (Sound kind limit) (at_place h) sound
  sound_run p xs i (l ∷ s) q ys sound h = go (λ p' xs' w h'. sound_run p' xs' (suc i) s q ys w h') (turn_of kind limit p l) refl
    where
      go : ((p' : Place) (xs' : List Raw) → Sound kind limit p' → run kind limit p' xs' (suc i) s ≡ at q ys → Sound kind limit q) → (x : Got Turn) →
          turn_of kind limit p l ≡ x → Sound kind limit q
      go r (got (next p')) e = r p' xs (sound_takes kind limit sound (turn_takes kind limit p l (next p') e)) (sym (run_next kind limit p p' xs i l s e) ∙ h)
      go r (got (done x)) e = r first (xs ++ (x ∷ [])) tt (sym (run_done p x xs i l s e) ∙ h)
      go r (bad n c) e = at_stopped (sym h ∙ run_stop kind limit p xs i l s n c e)

  pub rewind : (p : Place) (xs : List Raw) (i : ℕ) (s : List Line) (q : Place) (ys : List Raw) → Sound kind limit p → run kind limit p xs i s ≡ at q ys →
      (t : List Line) (rs : List Raw) → From kind limit q t rs → Rewound kind limit p xs s ys t rs
  unfolding run
  rewind p xs i [] q ys sound h t rs f =
      record { zs = rs; all = ap (λ (x : List Raw). x ++ rs) (at_records h); from = subst (λ (x : Place). From kind limit x t rs) (sym (at_place h)) f }
  rewind p xs i (l ∷ s) q ys sound h t rs f =
      go (λ p' xs' w h'. rewind p' xs' (suc i) s q ys w h' t rs f) (turn_of kind limit p l) refl
    where
      go : ((p' : Place) (xs' : List Raw) → Sound kind limit p' → run kind limit p' xs' (suc i) s ≡ at q ys → Rewound kind limit p' xs' s ys t rs) → (x : Got Turn) →
          turn_of kind limit p l ≡ x → Rewound kind limit p xs (l ∷ s) ys t rs
      go r (got (next p')) e =
          let k = turn_takes kind limit p l (next p') e in
          let a = r p' xs (sound_takes kind limit sound k) (sym (run_next kind limit p p' xs i l s e) ∙ h) in
          record { zs = a.zs; all = a.all; from = backward kind limit (s ++ t) a.zs sound k a.from }
      go r (got (done x)) e =
          let k = turn_takes kind limit p l (done x) e in
          let a = r first (xs ++ (x ∷ [])) tt (sym (run_done p x xs i l s e) ∙ h) in
          record { zs = x ∷ a.zs; all = snoc xs x a.zs ∙ a.all; from = backward kind limit (s ++ t) (x ∷ a.zs) sound k (a.zs, a.from, refl) }
      go r (bad n c) e = at_stopped (sym h ∙ run_stop kind limit p xs i l s n c e)

  -- ---- Runs in a row, and where a run stops

  pub run_append : (p : Place) (xs : List Raw) (i : ℕ) (s : List Line) (q : Place) (ys : List Raw) → run kind limit p xs i s ≡ at q ys →
      (t : List Line) → run kind limit p xs i (s ++ t) ≡ run kind limit q ys (i + length s) t
  unfolding run
  run_append p xs i [] q ys h t = let e : i + 0 ≡ i = omega arith in rw (e, at_place h, at_records h)
  run_append p xs i (l ∷ s) q ys h t =
      go (λ p' xs' h'. run_append p' xs' (suc i) s q ys h' t) (turn_of kind limit p l) refl
    where
      go : ((p' : Place) (xs' : List Raw) → run kind limit p' xs' (suc i) s ≡ at q ys → run kind limit p' xs' (suc i) (s ++ t) ≡ run kind limit q ys (suc i + length s) t) →
          (x : Got Turn) → turn_of kind limit p l ≡ x → run kind limit p xs i (l ∷ (s ++ t)) ≡ run kind limit q ys (i + suc (length s)) t
      go r (got (next p')) e =
          let n : i + suc (length s) ≡ suc i + length s = omega arith in
          rw n (run_next kind limit p p' xs i l (s ++ t) e ∙ r p' xs (sym (run_next kind limit p p' xs i l s e) ∙ h))
      go r (got (done x)) e =
          let n : i + suc (length s) ≡ suc i + length s = omega arith in
          rw n (run_done p x xs i l (s ++ t) e ∙ r first (xs ++ (x ∷ [])) (sym (run_done p x xs i l s e) ∙ h))
      go r (bad n c) e = at_stopped (sym h ∙ run_stop kind limit p xs i l s n c e)

  -- a line before the stop
  later : (p q : Place) (xs ys : List Raw) (i : ℕ) (l : Line) (t : List Line) (e k c : ℕ) →
      ((s : List Line) → run kind limit p xs i (l ∷ s) ≡ run kind limit q ys (suc i) s) → Stop kind limit q ys (suc i) t e k c → Stop kind limit p xs i (l ∷ t) e k c
  later p q xs ys i l t e k c r a =
      record {
        before = l ∷ a.before;
        l = a.l;
        after = a.after;
        q = a.q;
        ys = a.ys;
        whole = ap (λ (x : List Line). l ∷ x) a.whole;
        line = a.line ∙ omega arith;
        reached = r a.before ∙ a.reached;
        refused = a.refused;
      }

  pub stop : (p : Place) (xs : List Raw) (i : ℕ) (t : List Line) (e k c : ℕ) → run kind limit p xs i t ≡ stopped e k c → Stop kind limit p xs i t e k c
  unfolding run
  stop p xs i [] e k c h = at_stopped h
  stop p xs i (l ∷ t) e k c h =
      go (λ q ys g. stop q ys (suc i) t e k c g) (turn_of kind limit p l) refl
    where
      go : ((q : Place) (ys : List Raw) → run kind limit q ys (suc i) t ≡ stopped e k c → Stop kind limit q ys (suc i) t e k c) → (x : Got Turn) →
          turn_of kind limit p l ≡ x → Stop kind limit p xs i (l ∷ t) e k c
      go r (got (next q)) m =
          later p q xs xs i l t e k c (λ s. run_next kind limit p q xs i l s m) (r q xs (sym (run_next kind limit p q xs i l t m) ∙ h))
      go r (got (done x)) m =
          later p first xs (xs ++ (x ∷ [])) i l t e k c (λ s. run_done p x xs i l s m) (r first (xs ++ (x ∷ [])) (sym (run_done p x xs i l t m) ∙ h))
      go r (bad n d) m =
          let g : stopped n i d ≡ stopped e k c = sym (run_stop kind limit p xs i l t n d m) ∙ h in
          let ne : n ≡ e = cc in
          let ik : i ≡ k = cc in
          let dc : d ≡ c = cc in
          record { before = []; l = l; after = t; q = p; ys = xs; whole = refl; line = omega arith; reached = refl; refused = m ∙ ap₂ bad ne dc }
