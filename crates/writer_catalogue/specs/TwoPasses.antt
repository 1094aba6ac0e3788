-- A good file written record by record, and the two passes together: laws for the code.
use Rattle.std.specs.Prelude.{ℕ, ◌+◌, ◌-◌, ◌*◌, ◌≤◌, ◌<◌, ◌^◌, Bool, length, take, drop, ℤ}
use Rattle.std.proofs.Common.{arith, sym, ap, ap₂, ◌∙◌, subst, length-append}
use Rattle.std.proofs.Math.Path.{◌≡◌, refl}
use mathlib.Core.List.{List, [], ◌∷◌, ◌++◌}
use Rattle.std.proofs.Math.Bool.{true, false}
use Rattle.std.proofs.Math.Dec.{leb}
use Rattle.std.proofs.lemmas.List.Edits.{sets-eq}
use borrow.Author.Tests.{leb-true, le-leb}
use Rattle.text.specs.Text.{Bytes}
use Rattle.text.specs.Laws.{tail_is}
use Rattle.rules.specs.Record.{Raw, limit, atom_places, bond_places}
use Rattle.rules.specs.Meaning.{meaning}
use Rattle.judge_file.specs.Place.{sdfile}
use Rattle.judge_file.specs.Verdict.{Verdict, accepted, refused, verdict}
use Rattle.judge_file.specs.WalkText.{after_lines}
use Rattle.reader_walk.specs.Outcome.{whole, outcome_of}
use Rattle.reader_walk.specs.Walked.{Beside, beside_same, beside_join}
use Rattle.reader_cursor.specs.declared.Cursor.{Cursor}
use Rattle.reader_cursor.specs.Walk.{fresh, past, Countable}
use Rattle.reader_cursor.specs.After.{After, after_start, after_good, after_next, after_less, after_fits, good_more, good_whole}
use Rattle.writer_lines.specs.Laid.{Laid, laid_none, laid_join}
use Rattle.writer_record.specs.Write.{canon_text, demand}
use Rattle.writer_answer.specs.declared.Catalogue.{Catalogue}
use Rattle.writer_catalogue.specs.declared.Wrote.{Wrote}
use Rattle.writer_answer.specs.Catalogue.{catalogue_text, fitting, file_for, answer_by, room_by}
use Rattle.writer_catalogue.specs.Sizes.{text_none, text_join, text_last}
use Rattle.writer_catalogue.specs.Writing.{Next, WroteNext}

-- ---- The file

-- the file is good, and room r holds its text
pub record FileFits (s : Bytes) (ta tb : List ℤ) (r : Bytes) : Type 0 where
  pub atoms : atom_places ≤ length ta
  pub bonds : bond_places ≤ length tb
  pub xs : List Raw
  pub is : verdict sdfile limit s ≡ accepted xs
  pub enough : length (catalogue_text xs) ≤ length r

abbrev pub text_in : Verdict (List Raw) → Bytes
text_in (accepted xs) = catalogue_text xs
text_in (refused e i c) = []

file_good : (s : Bytes) (k : ℕ) (xs : List Raw) → verdict sdfile limit s ≡ accepted xs → length (catalogue_text xs) ≤ k → file_for s k ≡ accepted xs
unfolding file_for
file_good s k xs e h = rw (e, le-leb (length (catalogue_text xs)) k h)

-- between two records: the cursor stands after those read, and their text is laid from the front of the room up to place `to`
pub record Filling (s : Bytes) (ta₀ tb₀ : List ℤ) (r₀ : Bytes) (ta tb : List ℤ) (r : Bytes) (c : Cursor) (to : ℕ) : Type 0 where
  pub zs : List Raw
  pub is : verdict sdfile limit s ≡ accepted zs
  pub enough : length (catalogue_text zs) ≤ length r₀
  pub xs : List Raw
  pub after : After s xs c
  pub laid : Laid r₀ r 0 (catalogue_text xs) to
  pub bytes : length s * 1 < 2 ^ 63
  pub atoms : Beside atom_places ta₀ ta
  pub bonds : Beside bond_places tb₀ tb

pub filling_start : (s : Bytes) (ta tb : List ℤ) (r : Bytes) (c : Cursor) → FileFits s ta tb r → length s * 1 < 2 ^ 63 → c ≡ fresh → Filling s ta tb r ta tb r c 0
filling_start s ta tb r c f b e =
    record {
      zs = f.xs;
      is = f.is;
      enough = f.enough;
      xs = [];
      after = rw e (after_start s);
      laid = subst (λ (t : Bytes). Laid r r 0 t 0) (sym text_none) (laid_none r 0 (omega arith));
      bytes = b;
      atoms = beside_same atom_places ta f.atoms;
      bonds = beside_same bond_places tb f.bonds;
    }

module _ (s : Bytes) (ta₀ tb₀ : List ℤ) (r₀ : Bytes) (ta tb : List ℤ) (r : Bytes) (c : Cursor) (to : ℕ) (g : Filling s ta₀ tb₀ r₀ ta tb r c to) where
  pub filling_atoms : Beside atom_places ta₀ ta
  filling_atoms = g.atoms

  pub filling_bonds : Beside bond_places tb₀ tb
  filling_bonds = g.bonds

  pub filling_size : length r ≡ length r₀
  filling_size = g.laid.size

  pub filling_end : length s ≤ c.at → Laid r₀ r 0 (text_in (file_for s (length r₀))) to
  filling_end h =
      let few : length (catalogue_text g.xs) ≤ length r₀ = omega (arith, g.laid.next, g.laid.fits) in
      let all = file_good s (length r₀) g.xs (after_good s g.xs c g.after h) few in
      subst (λ (v : Verdict (List Raw)). Laid r₀ r 0 (text_in v) to) (sym all) g.laid

  module _ (some : c.at < length s) where
    -- the next record of the file
    record Ahead : Type 0 where
      y : Raw
      k : ℕ
      is : outcome_of sdfile (drop c.at s) ≡ whole y k
      enough : to + length (canon_text (meaning y)) ≤ length r₀

    ahead : Ahead
    ahead =
        let w = good_whole s g.xs c g.after g.zs g.is some in
        let next = after_next s g.xs c g.after some w.0 w.1 w.2 in
        let m = good_more s (g.xs ++ (w.0 ∷ [])) _ next g.zs g.is in
        let all : length (catalogue_text g.zs) ≡ length (catalogue_text (g.xs ++ (w.0 ∷ []))) + length (catalogue_text m.0) =
        ap (λ (zs : List Raw). length (catalogue_text zs)) m.1
        ∙ ap length (text_join (g.xs ++ (w.0 ∷ [])) m.0)
        ∙ length-append (catalogue_text (g.xs ++ (w.0 ∷ []))) (catalogue_text m.0)
        in
        let last = ap length (text_last g.xs w.0) ∙ length-append (catalogue_text g.xs) (canon_text (meaning w.0)) in
        record { y = w.0; k = w.1; is = w.2; enough = omega (arith, all, last, g.laid.next, g.enough) }

    lent : outcome_of sdfile (take (length s - c.at) (drop c.at s)) ≡ whole ahead.y ahead.k
    lent = ap (outcome_of sdfile) (tail_is s c.at) ∙ ahead.is

    pub filling_ready : Next (take (length s - c.at) (drop c.at s)) ta tb r to
    filling_ready =
        let a = ahead in
        record {
          atoms = omega (arith, g.atoms.room, g.atoms.size);
          bonds = omega (arith, g.bonds.room, g.bonds.size);
          x = a.y;
          k = a.k;
          is = lent;
          enough = omega (arith, a.enough, g.laid.size);
        }

    module _ (w : Wrote) (r' : Bytes) (p : WroteNext (take (length s - c.at) (drop c.at s)) r r' to w) where
      length_is : w.length ≡ after_lines (drop c.at s) 0 ahead.k
      length_is = p.bytes ahead.y ahead.k lent ∙ ap (λ (t : Bytes). after_lines t 0 ahead.k) (tail_is s c.at)

      lines_is : w.lines ≡ ahead.k
      lines_is = p.lines ahead.y ahead.k lent

      pub filling_fits : Countable c w.length w.lines
      filling_fits =
          let a = ahead in
          subst (λ (l : ℕ). Countable c l w.lines) (sym length_is)
          (subst (Countable c (after_lines (drop c.at s) 0 a.k)) (sym lines_is) (after_fits s g.xs c g.after some a.y a.k a.is g.bytes))

      module _ (d : Cursor) (ed : d ≡ past c w.length w.lines) where
        moved : d ≡ past c (after_lines (drop c.at s) 0 ahead.k) ahead.k
        moved = ed ∙ ap₂ (past c) length_is lines_is

        pub filling_less : length s - d.at < length s - c.at
        filling_less =
            let a = ahead in
            subst (λ (e : Cursor). length s - e.at < length s - c.at) (sym moved) (after_less s g.xs c g.after some a.y a.k a.is)

        pub filling_next : (ta' tb' : List ℤ) → Beside atom_places ta ta' → Beside bond_places tb tb' → Filling s ta₀ tb₀ r₀ ta' tb' r' d w.to
        filling_next ta' tb' ba bb =
            let a = ahead in
            record {
              zs = g.zs;
              is = g.is;
              enough = g.enough;
              xs = g.xs ++ (a.y ∷ []);
              after = subst (After s (g.xs ++ (a.y ∷ []))) (sym moved) (after_next s g.xs c g.after some a.y a.k a.is);
              laid = subst (λ (t : Bytes). Laid r₀ r' 0 t w.to) (sym (text_last g.xs a.y)) (laid_join g.laid (p.laid a.y a.k lent));
              bytes = g.bytes;
              atoms = beside_join g.atoms ba;
              bonds = beside_join g.bonds bb;
            }

pub ruleset filling_laws = (
  filling_start,
  filling_atoms,
  filling_bonds,
  filling_size,
  filling_end,
  filling_ready,
  filling_fits,
  filling_less,
  filling_next,
)

-- ---- Both passes

module _ (s r : Bytes) (j : Catalogue) (ej : j ≡ answer_by (file_for s (length r))) where
  record Passed (l c : ℕ) : Type 0 where
    xs : List Raw
    is : verdict sdfile limit s ≡ accepted xs
    enough : length (catalogue_text xs) ≤ length r
    count : c ≡ length xs

  module _ (l c : ℕ) (q : j ≡ Catalogue.Done l c) where
    passed : Passed l c
    unfolding file_for
    passed = go (verdict sdfile limit s) refl (sym ej ∙ q)
      where
        fit : (xs : List Raw) → verdict sdfile limit s ≡ accepted xs → (b : Bool) → leb (length (catalogue_text xs)) (length r) ≡ b →
            answer_by (demand b 20 (accepted xs)) ≡ Catalogue.Done l c → Passed l c
        fit xs e true o z = record { xs = xs; is = e; enough = leb-true (length (catalogue_text xs)) (length r) o; count = cc }
        fit xs e false o z = absurd (let z : ◌≡◌ {A = ℕ} 0 1 = cc in omega arith)

        go : (v : Verdict (List Raw)) → verdict sdfile limit s ≡ v → answer_by (fitting (length r) v) ≡ Catalogue.Done l c → Passed l c
        go (accepted xs) e z = fit xs e (leb (length (catalogue_text xs)) (length r)) refl z
        go (refused n i d) e z = absurd (let z : ◌≡◌ {A = ℕ} 0 1 = cc in omega arith)

    pub passed_fits : (ta₀ tb₀ ta tb : List ℤ) → Beside atom_places ta₀ ta → Beside bond_places tb₀ tb → FileFits s ta tb r
    passed_fits ta₀ tb₀ ta tb a b =
        record {
          atoms = omega (arith, a.room, a.size);
          bonds = omega (arith, b.room, b.size);
          xs = passed.xs;
          is = passed.is;
          enough = passed.enough;
        }

    file_is : file_for s (length r) ≡ accepted passed.xs
    file_is = file_good s (length r) passed.xs passed.is passed.enough

    module _ (r' : Bytes) (e : ℕ) (p : Laid r r' 0 (text_in (file_for s (length r))) e) where
      laid : Laid r r' 0 (catalogue_text passed.xs) e
      laid = subst (λ (v : Verdict (List Raw)). Laid r r' 0 (text_in v) e) file_is p

      pub passed_answer : Catalogue.Done e c ≡ answer_by (file_for s (length r))
      passed_answer =
          let n : e ≡ length (catalogue_text passed.xs) = omega (arith, laid.next) in
          ap₂ Catalogue.Done n passed.count ∙ sym (ap answer_by file_is)

      pub passed_room : r' ≡ room_by r (file_for s (length r))
      passed_room =
          let t = catalogue_text passed.xs in
          let n : 0 + length t ≡ length t = omega arith in
          laid.same ∙ sets-eq t r 0 (omega (arith, passed.enough)) ∙ ap (λ (i : ℕ). t ++ drop i r) n ∙ sym (ap (room_by r) file_is)

  module _ (e i c : ℕ) (q : j ≡ Catalogue.Refused e i c) where
    pub stopped_answer : Catalogue.Refused e i c ≡ answer_by (file_for s (length r))
    stopped_answer = sym q ∙ ej

    pub stopped_room : r ≡ room_by r (file_for s (length r))
    stopped_room = go (file_for s (length r)) (sym ej ∙ q)
      where
        go : (v : Verdict (List Raw)) → answer_by v ≡ Catalogue.Refused e i c → r ≡ room_by r v
        go (accepted xs) z = absurd (let z : ◌≡◌ {A = ℕ} 0 1 = cc in omega arith)
        go (refused n k d) z = refl
