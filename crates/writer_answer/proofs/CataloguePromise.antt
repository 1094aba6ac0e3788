-- What a catalogue writer promises, in the words of the rules: when it writes, what then stands in the room, what that text stands for, and what each
-- refusal means.
use Rattle.std.specs.Prelude.{ℕ, ◌*◌, ◌≤◌, ◌<◌, ◌≡◌, ◌↔◌, Bool, ℤ}
use Rattle.std.proofs.Common.{arith, sym, ◌∙◌, leb-true, leb-false, le-leb}
use Rattle.std.proofs.Math.Path.{refl, ap}
use Rattle.std.proofs.Math.Bool.{true, false, cond}
use Rattle.std.proofs.lemmas.Bool.{false≢true, lt-leb}
use mathlib.Core.List.{List, [], map}
use Rattle.std.proofs.Math.Dec.{leb}
use Rattle.std.proofs.Math.ListN.{length}
use Rattle.text.specs.Text.{Bytes}
use Rattle.text.specs.Written.{text}
use Rattle.rules.specs.Record.{Raw, GoodSDfile, limit, atom_places, bond_places}
use Rattle.rules.specs.Meaning.{Reading, meaning}
use Rattle.rules.specs.Canon.{canon_file}
use Rattle.rules.proofs.CanonGood.{canon_only}
use Rattle.rules.proofs.Rewritten.{sdfile_good}
use Rattle.judge_file.specs.Place.{sdfile}
use Rattle.judge_file.specs.Verdict.{Verdict, accepted, refused, verdict}
use Rattle.judge_file.specs.SameVerdict.{accepted_refused, same_accepted, same_reason}
use Rattle.judge_file.proofs.Promise.{accepted_sd}
use Rattle.reader_walk.specs.Promise.{refused_at_lem, at_refused}
use Rattle.reader_answer.specs.Read.{rows_in}
use Rattle.reader_answer.specs.Promise.{Roomy}
use Rattle.writer_record.specs.Write.{demand, roomy}
use Rattle.writer_answer.specs.declared.Catalogue.{Catalogue}
use Rattle.writer_answer.specs.Catalogue.{catalogue_text, fitting, file_for, catalogue_for, answer_by, room_by, catalogue_of, room_after, atoms_after, bonds_after}
use Rattle.writer_answer.specs.CataloguePromise.{Size, written, numbers_of, Refusal, Promise, both}

-- ---- What is written stands for the records of the file, and for no others

module _ (s : Bytes) (xs : List Raw) (f : GoodSDfile s xs) where
  pub text_only : (rs : List Raw) → GoodSDfile (catalogue_text xs) rs → map meaning rs ≡ map meaning xs
  unfolding catalogue_text
  text_only rs g = canon_only (map meaning xs) rs (sdfile_good f.2) g

  -- and is written as itself
  pub text_again : (rs : List Raw) → GoodSDfile (catalogue_text xs) rs → catalogue_text rs ≡ catalogue_text xs
  unfolding catalogue_text
  text_again rs g = ap (λ (ys : List Reading). text (canon_file ys)) (text_only rs g)

-- ---- The tests

roomy_agrees : (ta tb : List ℤ) → (roomy ta tb ≡ true) ↔ Roomy ta tb
unfolding roomy
roomy_agrees ta tb =
    let e = both (leb (16 * limit) (length ta)) (leb (6 * limit) (length tb)) (leb-true (16 * limit) (length ta)) (leb-true (6 * limit) (length tb)) (le-leb (16 * limit) (length ta)) (le-leb (6 * limit) (length tb)) in
    ((λ h. record { atoms = (e.0 h).0; bonds = (e.0 h).1 }), (λ r. e.1 (r.atoms, r.bonds)))

roomy_false : (ta tb : List ℤ) → ¬ Roomy ta tb → roomy ta tb ≡ false
roomy_false ta tb h = go (roomy ta tb) refl
  where
    go : (b : Bool) → roomy ta tb ≡ b → roomy ta tb ≡ false
    go true e = absurd (h ((roomy_agrees ta tb).0 e))
    go false e = e

-- ---- The definitions keep the promise

module _ (s : Bytes) (ta tb : List ℤ) (k : ℕ) where
  -- what was found, with its reason
  data Found : Verdict (List Raw) → Type 0 where
    tables : ¬ Roomy ta tb → Found (refused 2 0 0)
    file : {e i c : ℕ} → Roomy ta tb → verdict sdfile limit s ≡ refused e i c → Found (refused e i c)
    room : {xs : List Raw} → Roomy ta tb → verdict sdfile limit s ≡ accepted xs → k < length (catalogue_text xs) → Found (refused 20 0 0)
    fine : {xs : List Raw} → Roomy ta tb → verdict sdfile limit s ≡ accepted xs → length (catalogue_text xs) ≤ k → Found (accepted xs)

  found : Found (catalogue_for ta tb s k)
  unfolding catalogue_for file_for
  found = go (roomy ta tb) refl (verdict sdfile limit s) refl
    where
      fit : (xs : List Raw) → Roomy ta tb → verdict sdfile limit s ≡ accepted xs → (t : Bool) → leb (length (catalogue_text xs)) k ≡ t → Found (demand t 20 (accepted xs))
      fit xs r e true t = Found.fine r e (leb-true (length (catalogue_text xs)) k t)
      fit xs r e false t = Found.room r e (leb-false (length (catalogue_text xs)) k t)

      go : (b : Bool) → roomy ta tb ≡ b → (v : Verdict (List Raw)) → verdict sdfile limit s ≡ v → Found (demand b 2 (fitting k v))
      go false a v e = Found.tables (λ r. false≢true (sym a ∙ (roomy_agrees ta tb).1 r))
      go true a (accepted xs) e = fit xs ((roomy_agrees ta tb).0 a) e (leb (length (catalogue_text xs)) k) refl
      go true a (refused n i c) e = Found.file ((roomy_agrees ta tb).0 a) e

  by_tables : ¬ Roomy ta tb → catalogue_for ta tb s k ≡ refused 2 0 0
  unfolding catalogue_for
  by_tables h = rw (roomy_false ta tb h)

  module _ (r : Roomy ta tb) where
    by_file : (v : Verdict (List Raw)) → verdict sdfile limit s ≡ v → catalogue_for ta tb s k ≡ fitting k v
    unfolding catalogue_for file_for
    by_file v e = rw ((roomy_agrees ta tb).1 r, e)

    by_room_lem : (xs : List Raw) → GoodSDfile s xs → k < length (catalogue_text xs) → catalogue_for ta tb s k ≡ refused 20 0 0
    by_room_lem xs g h = by_file (accepted xs) ((accepted_sd limit s xs).1 g) ∙ rw (lt-leb (length (catalogue_text xs)) k h)

    by_good : (xs : List Raw) → GoodSDfile s xs → length (catalogue_text xs) ≤ k → catalogue_for ta tb s k ≡ accepted xs
    by_good xs g h = by_file (accepted xs) ((accepted_sd limit s xs).1 g) ∙ rw (le-leb (length (catalogue_text xs)) k h)

  done_by : (l c : ℕ) {v : Verdict (List Raw)} → Found v → numbers_of (answer_by v) ≡ written l c →
      (xs : List Raw) × Roomy ta tb × GoodSDfile s xs × (l ≡ length (catalogue_text xs)) × (c ≡ length xs) × (l ≤ k)
  done_by l c (Found.tables h) q = accepted_refused (sym q)
  done_by l c (Found.file r e) q = accepted_refused (sym q)
  done_by l c (Found.room r e h) q = accepted_refused (sym q)
  done_by l c (Found.fine {xs = xs} r e h) q =
      let n : l ≡ length (catalogue_text xs) = sym (ap (λ (z : Size). z.text) (same_accepted q)) in
      (xs, r, (accepted_sd limit s xs).0 e, n, sym (ap (λ (z : Size). z.records) (same_accepted q)), omega (arith, h))

  refused_by : (n j d : ℕ) {v : Verdict (List Raw)} → Found v → numbers_of (answer_by v) ≡ refused n j d → Refusal s ta tb k n j d
  refused_by n j d (Found.tables h) q = same_reason (Refusal s ta tb k) q (Refusal.tables h)
  refused_by n j d (Found.file {e = e} {i = i} {c = c} r v) q = same_reason (Refusal s ta tb k) q (Refusal.file r (refused_at_lem s e i c v))
  refused_by n j d (Found.room {xs = xs} r e h) q = same_reason (Refusal s ta tb k) q (Refusal.room r ((accepted_sd limit s xs).0 e) h)
  refused_by n j d (Found.fine r e h) q = accepted_refused q

  by_refusal : {n j d : ℕ} → Refusal s ta tb k n j d → catalogue_for ta tb s k ≡ refused n j d
  by_refusal (Refusal.tables h) = by_tables h
  by_refusal (Refusal.file {e = e} {line = i} {column = c} r f) = by_file r (refused e i c) (at_refused s e i c f)
  by_refusal (Refusal.room {xs = xs} r g h) = by_room_lem r xs g h

room_by_lem : (r : Bytes) (n j d : ℕ) (v : Verdict (List Raw)) → numbers_of (answer_by v) ≡ refused n j d → room_by r v ≡ r
room_by_lem r n j d (accepted xs) q = accepted_refused q
room_by_lem r n j d (refused e i c) q = refl

module _ (s : Bytes) (ta₀ tb₀ : List ℤ) (r₀ : Bytes) where
  promise : (a : Catalogue) (ta tb : List ℤ) (r : Bytes) → a ≡ catalogue_of ta₀ tb₀ s (length r₀) → r ≡ room_after ta₀ tb₀ s r₀ → ta ≡ atoms_after ta₀ tb₀ → tb ≡ bonds_after ta₀ tb₀ →
      Promise s ta₀ tb₀ r₀ a ta tb r
  unfolding catalogue_of room_after atoms_after bonds_after
  promise a ta tb r e f ga gb =
      let k = length r₀ in
      record {
        answer = e;
        room = f;
        atoms = ga;
        bonds = gb;
        accepted = λ l c. (
          (λ h. done_by s ta₀ tb₀ k l c (found s ta₀ tb₀ k) (sym (ap numbers_of e) ∙ h)),
          (λ x.
              ap numbers_of (e ∙ ap answer_by (by_good s ta₀ tb₀ k x.1 x.0 x.2 (omega (arith, x.3, x.5))))
              ∙ ap (λ (n : ℕ). written n (length x.0)) (sym x.3)
              ∙ ap (written l) (sym x.4)),
        );
        written = λ xs y g h. f ∙ ap (room_by r₀) (by_good s ta₀ tb₀ k y xs g h);
        refused = λ n j d. (
          (λ h. refused_by s ta₀ tb₀ k n j d (found s ta₀ tb₀ k) (sym (ap numbers_of e) ∙ h)),
          (λ h. ap numbers_of (e ∙ ap answer_by (by_refusal s ta₀ tb₀ k h))),
        );
        untouched = λ n j d h. f ∙ room_by_lem r₀ n j d (catalogue_for ta₀ tb₀ s k) (sym (ap numbers_of e) ∙ h);
        emptied = λ y.
            let t = (roomy_agrees ta₀ tb₀).1 y in
            (ga ∙ ap (λ (b : Bool). cond b (rows_in atom_places ta₀ []) ta₀) t, gb ∙ ap (λ (b : Bool). cond b (rows_in bond_places tb₀ []) tb₀) t);
        kept = λ h.
            let t = roomy_false ta₀ tb₀ h in
            (ga ∙ ap (λ (b : Bool). cond b (rows_in atom_places ta₀ []) ta₀) t, gb ∙ ap (λ (b : Bool). cond b (rows_in bond_places tb₀ []) tb₀) t);
      }

  -- as the code comes to its three ends
  short : ¬ Roomy ta₀ tb₀ → Promise s ta₀ tb₀ r₀ (Catalogue.Refused 2 0 0) ta₀ tb₀ r₀
  unfolding catalogue_of room_after atoms_after bonds_after
  short h =
      let t = roomy_false ta₀ tb₀ h in
      let v = by_tables s ta₀ tb₀ (length r₀) h in
      promise (Catalogue.Refused 2 0 0) ta₀ tb₀ r₀ (sym (ap answer_by v)) (sym (ap (room_by r₀) v)) (sym (ap (λ (b : Bool). cond b (rows_in atom_places ta₀ []) ta₀) t)) (sym (ap (λ (b : Bool). cond b (rows_in bond_places tb₀ []) tb₀) t))

  pub short_atoms : length ta₀ < atom_places → Promise s ta₀ tb₀ r₀ (Catalogue.Refused 2 0 0) ta₀ tb₀ r₀
  short_atoms h = short (λ r. let a = r.atoms in omega arith)

  pub short_bonds : length tb₀ < bond_places → Promise s ta₀ tb₀ r₀ (Catalogue.Refused 2 0 0) ta₀ tb₀ r₀
  short_bonds h = short (λ r. let b = r.bonds in omega arith)

  pub long_enough : (a : Catalogue) (ta tb : List ℤ) (r : Bytes) → atom_places ≤ length ta₀ → bond_places ≤ length tb₀ → a ≡ answer_by (file_for s (length r₀)) → r ≡ room_by r₀ (file_for s (length r₀)) →
      ta ≡ rows_in atom_places ta₀ [] → tb ≡ rows_in bond_places tb₀ [] → Promise s ta₀ tb₀ r₀ a ta tb r
  unfolding catalogue_of room_after atoms_after bonds_after catalogue_for
  long_enough a ta tb r ha hb e f ga gb =
      let t = (roomy_agrees ta₀ tb₀).1 (record { atoms = ha; bonds = hb }) in
      promise a ta tb r (rw t e) (rw t f) (rw t ga) (rw t gb)

pub ruleset promise_laws = (short_atoms, short_bonds, long_enough)
