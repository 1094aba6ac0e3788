-- A file judged and measured record by record: laws for the code.
use Rattle.std.specs.Prelude.{ℕ, ◌+◌, ◌-◌, ◌*◌, ◌≤◌, ◌<◌, ◌^◌, ◌≡◌, refl, List, [], ◌∷◌, ◌++◌, Bool, true, false, cond, leb, ltb, length, take, drop, ℤ}
use Rattle.std.proofs.Common.{arith, ◌∙◌, subst, length-append, leb-true, leb-false, lt-ltb, le-ltb}
use Rattle.std.proofs.Math.Path.{sym, ap, ap₂}
use Rattle.text.specs.Text.{Bytes}
use Rattle.text.specs.Laws.{tail_is}
use Rattle.rules.specs.Record.{Raw, atom_places, bond_places}
use Rattle.rules.specs.Meaning.{meaning}
use Rattle.judge_file.specs.Place.{sdfile}
use Rattle.judge_file.specs.Verdict.{Verdict, accepted}
use Rattle.judge_file.specs.WalkText.{after_lines}
use Rattle.reader_walk.specs.Outcome.{Outcome, whole, refused, outcome_of}
use Rattle.reader_walk.specs.Walked.{Beside, beside_same, beside_join}
use Rattle.reader_cursor.specs.declared.Cursor.{Cursor}
use Rattle.reader_cursor.specs.Walk.{fresh, past, Countable}
use Rattle.reader_cursor.specs.After.{After, after_start, after_good, after_next, after_less, after_fits, after_line, after_verdict}
use Rattle.writer_record.specs.Write.{canon_text, demand}
use Rattle.writer_answer.specs.declared.Catalogue.{Catalogue}
use Rattle.writer_catalogue.specs.declared.Measured.{Measured}
use Rattle.writer_answer.specs.Catalogue.{catalogue_text, fitting, file_for, answer_by, up_to}
use Rattle.writer_catalogue.specs.Sizes.{up_in, up_over, up_more, text_none, text_last, measured_by}

-- ---- The end of a good file

unfoldable pub conclude_by : ℕ → ℕ → ℕ → Catalogue
conclude_by needed c k = cond (ltb k needed) (Catalogue.Refused 20 0 0) (Catalogue.Done needed c)

pub conclude_over : (needed c k : ℕ) → k < needed → Catalogue.Refused 20 0 0 ≡ conclude_by needed c k
unfolding conclude_by
conclude_over needed c k h = rw (lt-ltb k needed h)

pub conclude_in : (needed c k : ℕ) → needed ≤ k → Catalogue.Done needed c ≡ conclude_by needed c k
unfolding conclude_by
conclude_in needed c k h = rw (le-ltb k needed h)

pub ruleset conclude_laws = (conclude_over, conclude_in)

concluded : (xs : List Raw) (k : ℕ) → conclude_by (up_to k (length (catalogue_text xs))) (length xs) k ≡ answer_by (fitting k (accepted xs))
concluded xs k = go (leb (length (catalogue_text xs)) k) refl
  where
    go : (b : Bool) → leb (length (catalogue_text xs)) k ≡ b → conclude_by (up_to k (length (catalogue_text xs))) (length xs) k ≡ answer_by (demand b 20 (accepted xs))
    go true e =
        let h = leb-true (length (catalogue_text xs)) k e in
        ap (λ (n : ℕ). conclude_by n (length xs) k) (up_in k (length (catalogue_text xs)) h) ∙ sym (conclude_in (length (catalogue_text xs)) (length xs) k h)
    go false e =
        let h = leb-false (length (catalogue_text xs)) k e in
        ap (λ (n : ℕ). conclude_by n (length xs) k) (up_over k (length (catalogue_text xs)) h) ∙ sym (conclude_over (k + 1) (length xs) k (omega arith))

-- ---- Record by record

-- between two records: the cursor stands after those read, whose text is so long
pub record Measuring (s : Bytes) (ta₀ tb₀ ta tb : List ℤ) (k : ℕ) (c : Cursor) (needed : ℕ) : Type 0 where
  pub xs : List Raw
  pub after : After s xs c
  pub size : needed ≡ up_to k (length (catalogue_text xs))
  pub bytes : length s * 1 < 2 ^ 63
  pub room : k * 1 < 2 ^ 63
  pub atoms : Beside atom_places ta₀ ta
  pub bonds : Beside bond_places tb₀ tb

pub measuring_start : (s : Bytes) (ta tb : List ℤ) (k : ℕ) (c : Cursor) → atom_places ≤ length ta → bond_places ≤ length tb → length s * 1 < 2 ^ 63 → k * 1 < 2 ^ 63 → c ≡ fresh →
    Measuring s ta tb ta tb k c 0
measuring_start s ta tb k c ra rb bs bk e =
    record {
      xs = [];
      after = rw e (after_start s);
      size = sym (ap (λ (z : Bytes). up_to k (length z)) text_none ∙ up_in k 0 (omega arith));
      bytes = bs;
      room = bk;
      atoms = beside_same atom_places ta ra;
      bonds = beside_same bond_places tb rb;
    }

module _ (s : Bytes) (ta₀ tb₀ ta tb : List ℤ) (k : ℕ) (c : Cursor) (needed : ℕ) (g : Measuring s ta₀ tb₀ ta tb k c needed) where
  pub measuring_atoms : Beside atom_places ta₀ ta
  measuring_atoms = g.atoms

  pub measuring_bonds : Beside bond_places tb₀ tb
  measuring_bonds = g.bonds

  pub measuring_room : (atom_places ≤ length ta) × (bond_places ≤ length tb) × (k * 1 < 2 ^ 63)
  measuring_room = (omega (arith, g.atoms.room, g.atoms.size), omega (arith, g.bonds.room, g.bonds.size), g.room)

  pub measuring_end : (r : Catalogue) → length s ≤ c.at → r ≡ conclude_by needed c.records k → r ≡ answer_by (file_for s k)
  unfolding file_for
  measuring_end r h e =
      e ∙ ap₂ (λ (n d : ℕ). conclude_by n d k) g.size g.after.count
      ∙ concluded g.xs k
      ∙ sym (ap (λ (z : Verdict (List Raw)). answer_by (fitting k z)) (after_good s g.xs c g.after h))

  module _ (some : c.at < length s) (x : Measured)
      (ex : x ≡ measured_by (take (length s - c.at) (drop c.at s)) needed k (outcome_of sdfile (take (length s - c.at) (drop c.at s)))) where
    here : x ≡ measured_by (drop c.at s) needed k (outcome_of sdfile (drop c.at s))
    here = ex ∙ ap (λ (t : Bytes). measured_by t needed k (outcome_of sdfile t)) (tail_is s c.at)

    -- ---- A whole record

    module _ (len j more : ℕ) (q : x ≡ Measured.Record len j more) where
      record Found : Type 0 where
        y : Raw
        is : outcome_of sdfile (drop c.at s) ≡ whole y j
        len_is : len ≡ after_lines (drop c.at s) 0 j
        more_is : more ≡ up_to k (needed + length (canon_text (meaning y)))

      found : Found
      found = go (outcome_of sdfile (drop c.at s)) refl (sym here ∙ q)
        where
          go : (o : Outcome) → outcome_of sdfile (drop c.at s) ≡ o → measured_by (drop c.at s) needed k o ≡ Measured.Record len j more → Found
          go (whole y l) e z =
              let lj : l ≡ j = cc in
              let el : after_lines (drop c.at s) 0 l ≡ len = cc in
              let em : up_to k (needed + length (canon_text (meaning y))) ≡ more = cc in
              record { y = y; is = e ∙ ap (whole y) lj; len_is = sym el ∙ ap (after_lines (drop c.at s) 0) lj; more_is = sym em }
          go (refused e l d) o z = absurd (let z : ◌≡◌ {A = ℕ} 0 1 = cc in omega arith)

      pub measuring_fits : Countable c len j
      measuring_fits =
          let n = found in
          subst (λ (l : ℕ). Countable c l j) (sym n.len_is) (after_fits s g.xs c g.after some n.y j n.is g.bytes)

      module _ (d : Cursor) (ed : d ≡ past c len j) where
        moved : d ≡ past c (after_lines (drop c.at s) 0 j) j
        moved = ed ∙ ap (λ (l : ℕ). past c l j) found.len_is

        pub measuring_less : length s - d.at < length s - c.at
        measuring_less =
            let n = found in
            subst (λ (e : Cursor). length s - e.at < length s - c.at) (sym moved) (after_less s g.xs c g.after some n.y j n.is)

        pub measuring_next : (ta' tb' : List ℤ) → Beside atom_places ta ta' → Beside bond_places tb tb' → Measuring s ta₀ tb₀ ta' tb' k d more
        measuring_next ta' tb' ba bb =
            let n = found in
            record {
              xs = g.xs ++ (n.y ∷ []);
              after = subst (After s (g.xs ++ (n.y ∷ []))) (sym moved) (after_next s g.xs c g.after some n.y j n.is);
              size =
                  n.more_is
                  ∙ ap (λ (u : ℕ). up_to k (u + length (canon_text (meaning n.y)))) g.size
                  ∙ up_more k (length (catalogue_text g.xs)) (length (canon_text (meaning n.y)))
                  ∙ ap (up_to k) (sym (ap length (text_last g.xs n.y) ∙ length-append (catalogue_text g.xs) (canon_text (meaning n.y))));
              bytes = g.bytes;
              room = g.room;
              atoms = beside_join g.atoms ba;
              bonds = beside_join g.bonds bb;
            }

    -- ---- A refusal

    module _ (e j d : ℕ) (q : x ≡ Measured.Refused e j d) where
      is_refused : outcome_of sdfile (drop c.at s) ≡ refused e j d
      is_refused = go (outcome_of sdfile (drop c.at s)) refl (sym here ∙ q)
        where
          go : (o : Outcome) → outcome_of sdfile (drop c.at s) ≡ o → measured_by (drop c.at s) needed k o ≡ Measured.Refused e j d → outcome_of sdfile (drop c.at s) ≡ refused e j d
          go (whole y l) o z = absurd (let z : ◌≡◌ {A = ℕ} 0 1 = cc in omega arith)
          go (refused n l u) o z =
              let r : refused n l u ≡ refused e j d = cc in
              o ∙ r

      pub measuring_line : c.lines + j < 2 ^ 64
      measuring_line = after_line s g.xs c g.after some e j d is_refused g.bytes

      pub measuring_refused : (i : ℕ) → i ≡ c.lines + j → Catalogue.Refused e i d ≡ answer_by (file_for s k)
      unfolding file_for
      measuring_refused i h =
          ap (λ (l : ℕ). Catalogue.Refused e l d) h ∙ sym (ap (λ (z : Verdict (List Raw)). answer_by (fitting k z)) (after_verdict s g.xs c g.after some e j d is_refused))

    pub measured_atoms : (ta' : List ℤ) → Beside atom_places ta ta' → Beside atom_places ta₀ ta'
    measured_atoms ta' b = beside_join g.atoms b

    pub measured_bonds : (tb' : List ℤ) → Beside bond_places tb tb' → Beside bond_places tb₀ tb'
    measured_bonds tb' b = beside_join g.bonds b

pub ruleset measuring_laws = (
  measuring_start,
  measuring_atoms,
  measuring_bonds,
  measuring_room,
  measuring_end,
  measuring_fits,
  measuring_less,
  measuring_next,
  measuring_line,
  measuring_refused,
  measured_atoms,
  measured_bonds,
)
