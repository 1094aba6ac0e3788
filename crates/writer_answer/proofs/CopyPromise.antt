-- What copying a record promises, in the words of the rules: when it writes, what then stands in the room and in the tables, and what each refusal means.
use Rattle.std.specs.Prelude.{ℕ, ◌≤◌, ◌≡◌, Bool, true, false, cond, leb, ℤ}
use Rattle.std.proofs.Common.{arith, ◌∙◌, subst, leb-true, leb-false, le-leb}
use Rattle.std.proofs.Math.Path.{refl, sym, ap}
use mathlib.Core.List.{List, [], ◌++◌}
use Rattle.std.proofs.Math.ListN.{length, drop}
use Rattle.text.specs.Text.{Bytes}
use Rattle.rules.specs.Record.{Raw}
use Rattle.judge_file.specs.Place.{FileKind}
use Rattle.judge_file.specs.WalkText.{after_lines}
use Rattle.reader_walk.specs.Outcome.{Outcome, whole, refused, outcome_of}
use Rattle.reader_answer.specs.declared.RecordRead.{RecordRead}
use Rattle.reader_answer.specs.Read.{read_of, atoms_after, bonds_after}
use Rattle.reader_answer.specs.Promise.{Reply, Roomy, kind_number}
use Rattle.reader_answer.proofs.Promised as P
use Rattle.reader_answer.specs.Told.{lines_of, reply_of, told_reply, begins_told, begins_outcome, whole_lines, outcome_begins, outcome_refused}
use Rattle.judge_file.specs.Verdict.{accepted}
use Rattle.writer_answer.specs.declared.Copied.{Copied}
use Rattle.writer_answer.specs.Copy.{text_of, fitting, copy_for, answer_by, room_by, copy_of, room_after}
use Rattle.writer_answer.specs.CopyPromise.{Copies, Refusal, numbers_of, Promise, Seen, seen, seen_walked, same_copied, tables, room, tables}

-- ---- The definitions keep the promise

refused_done : {X : Type 0} {e i c t j l : ℕ} → Copied.Refused e i c ≡ Copied.Done t j l → X
refused_done h = absurd (let z : ◌≡◌ {A = ℕ} 0 1 = cc in omega arith)

module _ (kind : ℕ) (s : Bytes) (ta tb : List ℤ) (k : ℕ) where
  -- the same refusal
  said_as : {n j d e i c : ℕ} → Copied.Refused n j d ≡ Copied.Refused e i c → Refusal kind s ta tb k n j d → Refusal kind s ta tb k e i c
  said_as {n} {j} {d} {e} {i} {c} q r =
      let en : n ≡ e = cc in
      let ij : j ≡ i = cc in
      let cd : d ≡ c = cc in
      subst (λ (z : ℕ). Refusal kind s ta tb k e i z) cd (subst (λ (z : ℕ). Refusal kind s ta tb k e z d) ij (subst (λ (z : ℕ). Refusal kind s ta tb k z j d) en r))

  module _ (f : FileKind) (e : kind ≡ kind_number f) (y : Roomy ta tb) where
    fits_by : (x : Raw) (n : ℕ) → outcome_of f s ≡ whole x n → (t j l : ℕ) (b : Bool) → leb (length (text_of x)) k ≡ b →
        answer_by s (cond b (whole x n) (refused 20 0 0)) ≡ Copied.Done t j l → Copies kind s ta tb k t j l
    fits_by x n o t j l false h q = refused_done q
    fits_by x n o t j l true h q =
        let g = outcome_begins f s x n o in
        let nl : n ≡ lines_of f x = whole_lines (sym o ∙ begins_outcome f s x g) in
        let et : after_lines s 0 n ≡ t = cc in
        let ej : n ≡ j = cc in
        let el : length (text_of x) ≡ l = cc in
        record {
          f = f;
          kind_is_lem = e;
          roomy = y;
          x = x;
          begins = g;
          told = (reply_of f s x, begins_told f s x g, sym et ∙ ap (after_lines s 0) nl, sym ej ∙ nl);
          size = sym el;
          fits = omega (arith, el, leb-true (length (text_of x)) k h);
        }

    done_walked : (t j l : ℕ) (o : Outcome) → outcome_of f s ≡ o → answer_by s (fitting k o) ≡ Copied.Done t j l → Copies kind s ta tb k t j l
    done_walked t j l (whole x n) h q = fits_by x n h t j l (leb (length (text_of x)) k) refl q
    done_walked t j l (refused n i c) h q = refused_done q

    over_by : (x : Raw) (n : ℕ) → outcome_of f s ≡ whole x n → (i j c : ℕ) (b : Bool) → leb (length (text_of x)) k ≡ b →
        answer_by s (cond b (whole x n) (refused 20 0 0)) ≡ Copied.Refused i j c → Refusal kind s ta tb k i j c
    over_by x n o i j c true h q = refused_done (sym q)
    over_by x n o i j c false h q = said_as q (Refusal.room x f e y (outcome_begins f s x n o) (leb-false (length (text_of x)) k h))

    refused_walked : (n j c : ℕ) (o : Outcome) → outcome_of f s ≡ o → answer_by s (fitting k o) ≡ Copied.Refused n j c → Refusal kind s ta tb k n j c
    refused_walked n j c (whole x m) h q = over_by x m h n j c (leb (length (text_of x)) k) refl q
    refused_walked n j c (refused i m d) h q = said_as q (Refusal.unread f e y (outcome_refused f s i m d h))

  done_by : (t j l : ℕ) {r : RecordRead} {o : Outcome} → Seen kind s ta tb k r o → answer_by s o ≡ Copied.Done t j l → Copies kind s ta tb k t j l
  done_by t j l (Seen.other_kind h) q = refused_done q
  done_by t j l (Seen.tables h y) q = refused_done q
  done_by t j l (Seen.walked f e y) q = done_walked f e y t j l (outcome_of f s) refl q

  refused_by : (n j c : ℕ) {r : RecordRead} {o : Outcome} → Seen kind s ta tb k r o → answer_by s o ≡ Copied.Refused n j c → Refusal kind s ta tb k n j c
  refused_by n j c (Seen.other_kind h) q = said_as q (Refusal.other_kind h)
  refused_by n j c (Seen.tables h y) q = said_as q (Refusal.tables h y)
  refused_by n j c (Seen.walked f e y) q = refused_walked f e y n j c (outcome_of f s) refl q

  by_copies : {t j l : ℕ} (c : Copies kind s ta tb k t j l) → (copy_for kind (length ta) (length tb) s k ≡ whole c.x j) × (t ≡ after_lines s 0 j)
  by_copies {t} {j} {l} c =
      let w = c.told in
      let e = told_reply c.f s c.x w.0 w.1 in
      let nl : j ≡ lines_of c.f c.x = w.3 ∙ ap (λ (v : Reply). v.lines) e in
      let o : outcome_of c.f s ≡ whole c.x j = begins_outcome c.f s c.x c.begins ∙ ap (whole c.x) (sym nl) in
      let few : length (text_of c.x) ≤ k = omega (arith, c.size, c.fits) in (
        seen_walked kind s ta tb k c.f c.kind_is_lem c.roomy ∙ ap (fitting k) o ∙ rw (le-leb (length (text_of c.x)) k few),
        w.2 ∙ ap (λ (v : Reply). v.bytes) e ∙ ap (after_lines s 0) (sym nl),
      )

room_by_lem : (r s : Bytes) (e i c : ℕ) (o : Outcome) → answer_by s o ≡ Copied.Refused e i c → room_by r o ≡ r
room_by_lem r s e i c (whole x j) q = refused_done (sym q)
room_by_lem r s e i c (refused n j d) q = refl

module _ (kind : ℕ) (s : Bytes) (ta₀ tb₀ : List ℤ) (r₀ : Bytes) where
  pub promise : (a : Copied) (ta tb : List ℤ) (r : Bytes) → a ≡ copy_of kind (length ta₀) (length tb₀) s (length r₀) → r ≡ room_after kind (length ta₀) (length tb₀) s r₀ →
      ta ≡ atoms_after kind (length tb₀) s ta₀ → tb ≡ bonds_after kind (length ta₀) s tb₀ → Promise kind s ta₀ tb₀ r₀ a ta tb r
  unfolding copy_of room_after
  promise a ta tb r e f ga gb =
      let k = length r₀ in
      let o = seen kind s ta₀ tb₀ k in
      record {
        answer = e;
        room = f;
        atoms = ga;
        bonds = gb;
        tables = P.promise s ta₀ tb₀ kind (read_of kind (length ta₀) (length tb₀) s) ta tb refl ga gb;
        accepted = λ t j l. (
          (λ h. done_by kind s ta₀ tb₀ k t j l o (sym e ∙ same_copied a (Copied.Done t j l) h)),
          (λ c.
              let b = by_copies kind s ta₀ tb₀ k c in
              ap numbers_of (e ∙ ap (answer_by s) b.0 ∙ ap (λ (z : ℕ). Copied.Done z j (length (text_of c.x))) (sym b.1) ∙ ap (Copied.Done t j) (sym c.size))),
        );
        written = λ t j l c. f ∙ ap (room_by r₀) (by_copies kind s ta₀ tb₀ k c).0 ∙ ap (λ (z : ℕ). text_of c.x ++ drop z r₀) (sym c.size);
        refused = λ n j c h.
            let q = sym e ∙ same_copied a (Copied.Refused n j c) h in (
              f ∙ room_by_lem r₀ s n j c (copy_for kind (length ta₀) (length tb₀) s k) q,
              refused_by kind s ta₀ tb₀ k n j c o q,
            );
      }
