-- Reading one record is the run of an SDfile up to the end of its first record.
use Prim.Native.Nat.{ℕ, zero, suc, ◌≤◌, ◌<◌}
use Rattle.std.specs.Prelude.{◌≡◌, false}
use Rattle.std.proofs.Math.Path.{refl, ap, subst}
use Rattle.std.proofs.Common.{sym, ◌∙◌}
use mathlib.Core.List.{List, [], ◌∷◌, ◌++◌}
use Rattle.std.proofs.Math.ListN.{length, length-append}
use native.Mathlib.Omega.{arith}
use Rattle.text.specs.Text.{Line}
use Rattle.text.specs.Laws.{true_false}
use Rattle.rules.specs.Forms.{Counts, Atom, Bond}
use Rattle.rules.specs.Record.{Headers, Raw}
use Rattle.judge_line.specs.Got.{Got, got, bad}
use Rattle.judge_file.specs.Place.{Place, first, sdfile, to_bonds, to_atoms, Turn, next, done, turn_of}
use Rattle.judge_file.specs.Takes.{Takes}
use Rattle.judge_file.proofs.Takes.{turn_takes}
use Rattle.judge_file.specs.Ending.{is_first}
use Rattle.judge_file.specs.Verdict.{at, run}
use Rattle.judge_file.specs.Runs.{at_stopped, at_place, at_records, run_next, run_stop}
use Rattle.judge_file.proofs.Runs.{run_done}
use Rattle.judge_file.specs.One.{One, whole, refused, short, one_from}
use Rattle.judge_file.specs.OneRun.{one_next, one_stop, Same, Follows}

module _ (limit : ℕ) where
  pub one_done : (p : Place) (x : Raw) (i : ℕ) (l : Line) (t : List Line) → turn_of sdfile limit p l ≡ got (done x) → one_from limit p i (l ∷ t) ≡ whole x i t
  unfolding one_from
  one_done p x i l t e = rw (e, one_from)

  -- a line in front
  same_next : (p q : Place) (xs : List Raw) (i j : ℕ) (l : Line) (t : List Line) (o : One) → turn_of sdfile limit p l ≡ got (next q) →
      Same limit q xs (suc i) (suc j) t o → Same limit p xs i j (l ∷ t) o
  same_next p q xs i j l t (whole x k rest) e s =
      (l ∷ s.0, ap (λ (y : List Line). l ∷ y) s.1, omega (arith, s.2), run_next sdfile limit p q xs i l s.0 e ∙ s.3)
  same_next p q xs i j l t (refused n k c) e s =
      (l ∷ s.0, s.1, s.2, s.3, ap (λ (y : List Line). l ∷ y) s.4, omega (arith, s.5), run_next sdfile limit p q xs i l s.0 e ∙ s.6, s.7)
  same_next p q xs i j l t (short k) e s = (s.0, omega (arith, s.1), run_next sdfile limit p q xs i l t e ∙ s.2)

  pub same : (p : Place) (xs : List Raw) (i j : ℕ) (ls : List Line) → Same limit p xs i j ls (one_from limit p j ls)
  unfolding one_from run
  same p xs i j [] = (p, omega arith, refl)
  same p xs i j (l ∷ t) = go (λ (q : Place). same q xs (suc i) (suc j) t) (turn_of sdfile limit p l) refl
    where
      go : ((q : Place) → Same limit q xs (suc i) (suc j) t (one_from limit q (suc j) t)) → (g : Got Turn) → turn_of sdfile limit p l ≡ g →
          Same limit p xs i j (l ∷ t) (one_from limit p j (l ∷ t))
      go r (got (next q)) e =
          subst (Same limit p xs i j (l ∷ t)) (sym (one_next limit p q j l t e)) (same_next p q xs i j l t (one_from limit q (suc j) t) e (r q))
      go r (got (done x)) e = subst (Same limit p xs i j (l ∷ t)) (sym (one_done p x j l t e)) (l ∷ [], refl, omega arith, run_done sdfile limit p x xs i l [] e)
      go r (bad n c) e = subst (Same limit p xs i j (l ∷ t)) (sym (one_stop limit p j l t n c e)) ([], l, t, p, refl, omega arith, refl, e)

  -- ---- A run within a record finishes none, and one from record to record finishes some

  inner_bonds : (hs : Headers) (c : Counts) (xs : List Atom) (k : ℕ) (bs : List Bond) → is_first (to_bonds hs c xs k bs) ≡ false
  unfolding to_bonds
  inner_bonds hs c xs zero bs = refl
  inner_bonds hs c xs (suc k) bs = refl

  inner_atoms : (hs : Headers) (c : Counts) (k : ℕ) (xs : List Atom) → is_first (to_atoms hs c k xs) ≡ false
  unfolding to_atoms
  inner_atoms hs c zero xs = inner_bonds hs c xs c.bonds []
  inner_atoms hs c (suc k) xs = refl

  inner : {p : Place} {l : Line} {q : Place} → Takes sdfile limit p l (next q) → is_first q ≡ false
  inner h = go h
    where
      Inner : Turn → Type 0
      Inner (next q) = is_first q ≡ false
      Inner (done x) = Unit {0}

      go : {p : Place} {l : Line} {t : Turn} → Takes sdfile limit p l t → Inner t
      go (Takes.first_header h) = refl
      go (Takes.second_header h) = refl
      go (Takes.third_header h) = refl
      go (Takes.counts_line {hs = hs} {c = c} h) = inner_atoms hs c c.atoms []
      go (Takes.atom_line_lem {hs = hs} {c = c} {k = k} {xs = xs} {a = a} h) = inner_atoms hs c k (xs ++ (a ∷ []))
      go (Takes.bond_line_lem {hs = hs} {c = c} {xs = xs} {k = k} {bs = bs} {b = b} h new) = inner_bonds hs c xs k (bs ++ (b ∷ []))
      go (Takes.property_line h new) = refl
      go (Takes.end_line h) = refl
      go (Takes.data_header h) = refl
      go (Takes.record_end h) = tt
      go (Takes.value_line h) = refl
      go (Takes.blank_line h) = refl

  pub grows : (p : Place) (xs : List Raw) (i : ℕ) (s : List Line) (q : Place) (ys : List Raw) → run sdfile limit p xs i s ≡ at q ys → length xs ≤ length ys
  unfolding run
  grows p xs i [] q ys h = omega (arith, ap length (at_records h))
  grows p xs i (l ∷ s) q ys h = go (λ p' xs' h'. grows p' xs' (suc i) s q ys h') (turn_of sdfile limit p l) refl
    where
      go : ((p' : Place) (xs' : List Raw) → run sdfile limit p' xs' (suc i) s ≡ at q ys → length xs' ≤ length ys) → (g : Got Turn) →
          turn_of sdfile limit p l ≡ g → length xs ≤ length ys
      go r (got (next p')) e = r p' xs (sym (run_next sdfile limit p p' xs i l s e) ∙ h)
      go r (got (done x)) e =
          let m = r first (xs ++ (x ∷ [])) (sym (run_done sdfile limit p x xs i l s e) ∙ h) in
          omega (arith, length-append xs (x ∷ []))
      go r (bad n c) e = at_stopped (sym h ∙ run_stop sdfile limit p xs i l s n c e)

  -- the same, where the next line goes on within a record or ends it
  on : (p : Place) (xs : List Raw) (i : ℕ) (l : Line) (s : List Line) (ys : List Raw) →
      ((q : Place) → is_first q ≡ false → run sdfile limit q xs (suc i) s ≡ at first ys → length xs < length ys) →
      run sdfile limit p xs i (l ∷ s) ≡ at first ys → length xs < length ys
  on p xs i l s ys r h = go (turn_of sdfile limit p l) refl
    where
      go : (g : Got Turn) → turn_of sdfile limit p l ≡ g → length xs < length ys
      go (got (next q)) e = r q (inner (turn_takes sdfile limit p l (next q) e)) (sym (run_next sdfile limit p q xs i l s e) ∙ h)
      go (got (done x)) e =
          let m = grows first (xs ++ (x ∷ [])) (suc i) s first ys (sym (run_done sdfile limit p x xs i l s e) ∙ h) in
          omega (arith, length-append xs (x ∷ []))
      go (bad n c) e = at_stopped (sym h ∙ run_stop sdfile limit p xs i l s n c e)

  grows_inside : (p : Place) (xs : List Raw) (i : ℕ) (s : List Line) (ys : List Raw) → is_first p ≡ false → run sdfile limit p xs i s ≡ at first ys →
      length xs < length ys
  unfolding run
  grows_inside p xs i [] ys inside h = true_false (sym (ap is_first (at_place h)) ∙ inside)
  grows_inside p xs i (l ∷ s) ys inside h =
      on p xs i l s ys (λ q f g. grows_inside q xs (suc i) s ys f g) h

  pub grows_more : (p : Place) (xs : List Raw) (i : ℕ) (l : Line) (s : List Line) (ys : List Raw) → run sdfile limit p xs i (l ∷ s) ≡ at first ys →
      length xs < length ys
  grows_more p xs i l s ys h = on p xs i l s ys (λ q f g. grows_inside q xs (suc i) s ys f g) h

  -- ---- A run that ends with one record more, read as one record whatever follows

  last_same : (xs : List Raw) (x y : Raw) → xs ++ (x ∷ []) ≡ xs ++ (y ∷ []) → x ≡ y
  last_same [] x y e = cc
  last_same (z ∷ xs) x y e = last_same xs x y (cc)

  pub follow : (p : Place) (xs : List Raw) (i j : ℕ) (before rest : List Line) (x : Raw) → run sdfile limit p xs i before ≡ at first (xs ++ (x ∷ [])) →
      Follows limit p j before rest x
  unfolding run
  follow p xs i j [] rest x h = absurd (omega (arith, ap length (at_records h), length-append xs (x ∷ [])))
  follow p xs i j (l ∷ s) rest x h = go (λ q g. follow q xs (suc i) (suc j) s rest x g) (turn_of sdfile limit p l) refl
    where
      over : (y : Raw) (s : List Line) → turn_of sdfile limit p l ≡ got (done y) →
          run sdfile limit first (xs ++ (y ∷ [])) (suc i) s ≡ at first (xs ++ (x ∷ [])) → Follows limit p j (l ∷ s) rest x
      over y [] e g =
          record { k = j; lines = omega arith; is = one_done p y j l rest e ∙ ap (λ (z : Raw). whole z j rest) (last_same xs y x (at_records g)) }
      over y (m ∷ s) e g =
          absurd (omega (arith, grows_more first (xs ++ (y ∷ [])) (suc i) m s (xs ++ (x ∷ [])) g, length-append xs (y ∷ []), length-append xs (x ∷ [])))

      go : ((q : Place) → run sdfile limit q xs (suc i) s ≡ at first (xs ++ (x ∷ [])) → Follows limit q (suc j) s rest x) → (g : Got Turn) →
          turn_of sdfile limit p l ≡ g → Follows limit p j (l ∷ s) rest x
      go r (got (next q)) e =
          let f = r q (sym (run_next sdfile limit p q xs i l s e) ∙ h) in
          record { k = f.k; lines = omega (arith, f.lines); is = one_next limit p q j l (s ++ rest) e ∙ f.is }
      go r (got (done y)) e = over y s e (sym (run_done sdfile limit p y xs i l s e) ∙ h)
      go r (bad n c) e = at_stopped (sym h ∙ run_stop sdfile limit p xs i l s n c e)
