-- A record measured, as far as the room goes: laws for the code.
use Rattle.std.specs.Prelude.{Result, Ok, Err, ℕ, ◌+◌, ◌-◌, ◌*◌, ◌≤◌, ◌<◌, ◌^◌, List, [], ◌∷◌, ◌++◌, map, Bool, take, drop, ℤ}
use Rattle.std.proofs.Common.{arith, ap₂, ◌∙◌, append-nil, append_assoc, Fits}
use Rattle.std.proofs.Math.Path.{◌≡◌, refl, sym, ap}
use Rattle.std.proofs.Math.Bool.{true, false, cond}
use Rattle.std.proofs.Math.Dec.{leb}
use Rattle.std.proofs.Math.ListN.{length}
use Rattle.std.specs.Int.{w64}
use borrow.Author.Tests.{leb-true, leb-false, le-leb, lt-leb}
use Rattle.text.specs.Text.{Bytes}
use Rattle.text.specs.Written.{text, text_append}
use Rattle.rules.specs.Record.{Raw, limit, atom_places, bond_places}
use Rattle.rules.specs.Meaning.{Reading, meaning}
use Rattle.rules.specs.Write.{file_lines}
use Rattle.rules.specs.Canon.{canon_lines, canon_file}
use Rattle.judge_file.specs.Place.{sdfile}
use Rattle.judge_file.specs.WalkText.{after_lines}
use Rattle.reader_walk.specs.Outcome.{Outcome, whole, refused, outcome_of}
use Rattle.reader_answer.specs.declared.RecordRead.{RecordRead}
use Rattle.reader_answer.specs.Read.{read_as}
use Rattle.reader_answer.specs.Rows.{RowsPromise}
use Rattle.judge_file.specs.declared.TextRefusal.{TextRefusal}
use Rattle.writer_record.specs.Write.{Given, canon_text}
use Rattle.writer_record.specs.Measure.{sized, parts_size, GoodParts, text_length}
use Rattle.writer_copy.specs.Bridge.{given_of, Front}
use Rattle.writer_copy.specs.NeverRefused.{headers_are, items_are, front_parts}
use Rattle.writer_catalogue.specs.declared.Measured.{Measured}
use Rattle.writer_answer.specs.Catalogue.{catalogue_text, up_to}
use Rattle.writer_copy.specs.WorkTables.{front, read_refused}

-- ---- Lengths as far as the room goes

pub up_in : (k n : ℕ) → n ≤ k → up_to k n ≡ n
unfolding up_to
up_in k n h = rw (le-leb n k h)

pub up_over : (k n : ℕ) → k < n → up_to k n ≡ k + 1
unfolding up_to
up_over k n h = rw (lt-leb n k h)

-- what is over stays over
pub up_more : (k n m : ℕ) → up_to k (up_to k n + m) ≡ up_to k (n + m)
unfolding up_to
up_more k n m = go (leb n k) refl
  where
    go : (b : Bool) → leb n k ≡ b → up_to k (cond b n (k + 1) + m) ≡ up_to k (n + m)
    go true e = refl
    go false e = let h = leb-false n k e in up_over k (k + 1 + m) (omega arith) ∙ sym (up_over k (n + m) (omega arith))

-- ---- The text of records

pub text_none : catalogue_text [] ≡ []
unfolding catalogue_text file_lines text
text_none = refl

text_more : (x : Raw) (xs : List Raw) → catalogue_text (x ∷ xs) ≡ canon_text (meaning x) ++ catalogue_text xs
unfolding catalogue_text file_lines
text_more x xs = text_append (canon_lines (meaning x)) (canon_file (map meaning xs))

pub text_join : (xs ys : List Raw) → catalogue_text (xs ++ ys) ≡ catalogue_text xs ++ catalogue_text ys
text_join [] ys = sym (ap (λ (z : Bytes). z ++ catalogue_text ys) text_none)
text_join (x ∷ xs) ys =
    text_more x (xs ++ ys)
    ∙ ap (λ (z : Bytes). canon_text (meaning x) ++ z) (text_join xs ys)
    ∙ sym (append_assoc (canon_text (meaning x)) (catalogue_text xs) (catalogue_text ys))
    ∙ ap (λ (z : Bytes). z ++ catalogue_text ys) (sym (text_more x xs))

pub text_last : (xs : List Raw) (x : Raw) → catalogue_text (xs ++ (x ∷ [])) ≡ catalogue_text xs ++ canon_text (meaning x)
text_last xs x =
    text_join xs (x ∷ [])
    ∙ ap (λ (z : Bytes). catalogue_text xs ++ z) (text_more x [] ∙ ap (λ (z : Bytes). canon_text (meaning x) ++ z) text_none ∙ append-nil (canon_text (meaning x)))

-- ---- One record

-- all that is asked of a record that is measured
pub record Measurable (n m : ℕ) (atoms : List ℤ) (headers items : Bytes) (k : ℕ) : Type 0 where
  pub few : k * 1 < 2 ^ 63
  pub few_atoms : n ≤ limit
  pub few_bonds : m ≤ limit
  pub rows : 16 * n ≤ length atoms
  pub parts : GoodParts headers items

module _ (n m : ℕ) (atoms : List ℤ) (headers items : Bytes) (k : ℕ) (g : Measurable n m atoms headers items k) where
  abbrev size : ℕ
  size = parts_size n m atoms headers items

  pub over_already : (needed : ℕ) → k < needed → k + 1 ≡ up_to k (needed + size)
  over_already needed h = sym (up_over k (needed + size) (omega arith))

  pub over_fits : Fits w64 (k + 1)
  over_fits = record { fits = omega (arith, g.few) }

  module _ (needed : ℕ) (h : needed ≤ k) (w : Result ℕ TextRefusal) (is : w ≡ sized size (k - needed)) where
    module _ (l : ℕ) (q : w ≡ Ok l) where
      done : (l ≡ size) × (size ≤ k - needed)
      unfolding sized
      done = go (leb size (k - needed)) refl (sym is ∙ q)
        where
          go : (b : Bool) → leb size (k - needed) ≡ b → cond {A = Result ℕ TextRefusal} b (Ok size) (Err (record { no = 20; line = 0; column = 0 })) ≡ Ok l → (l ≡ size) × (size ≤ k - needed)
          go true e z = (cc, leb-true size (k - needed) e)
          go false e z = absurd (let z : ◌≡◌ {A = ℕ} 0 1 = cc in omega arith)

      pub within_fits : Fits w64 (needed + l)
      within_fits = let d = done in record { fits = omega (arith, g.few) }

      pub within_is : needed + l ≡ up_to k (needed + size)
      within_is = let d = done in ap (λ (z : ℕ). needed + z) d.0 ∙ sym (up_in k (needed + size) (omega arith))

    pub over_is : (r : TextRefusal) → w ≡ Err r → k + 1 ≡ up_to k (needed + size)
    unfolding sized
    over_is r q = go (leb size (k - needed)) refl (sym is ∙ q)
      where
        go : (b : Bool) → leb size (k - needed) ≡ b → cond {A = Result ℕ TextRefusal} b (Ok size) (Err (record { no = 20; line = 0; column = 0 })) ≡ Err r → k + 1 ≡ up_to k (needed + size)
        go true o z = absurd (let z : ◌≡◌ {A = ℕ} 0 1 = cc in omega arith)
        go false o z = sym (up_over k (needed + size) (omega (arith, leb-false size (k - needed) o)))

pub ruleset size_laws = (over_already, over_fits, within_fits, within_is, over_is)

-- ---- The record at the front of a text

abbrev pub measured_by : Bytes → ℕ → ℕ → Outcome → Measured
measured_by t needed k (whole x j) = Measured.Record (after_lines t 0 j) j (up_to k (needed + length (canon_text (meaning x))))
measured_by t needed k (refused e i c) = Measured.Refused e i c

module _ (t : Bytes) (ta tb : List ℤ) (n m chiral len j h a b : ℕ) (f : Front sdfile t ta tb n m chiral len j h a b) where
  abbrev given : Given
  given = given_of t ta tb n m chiral h a b

  n_is : n ≡ (meaning f.x).n
  n_is = sym (ap (λ (y : Reading). y.n) f.accepted.tables)

  m_is : m ≡ (meaning f.x).m
  m_is = sym (ap (λ (y : Reading). y.m) f.accepted.tables)

  front_measurable : (k : ℕ) → k * 1 < 2 ^ 63 → Measurable n m ta (take (h - 0) (drop 0 t)) (take (b - a) (drop a t)) k
  front_measurable k few =
      let w = f.accepted.writable in
      record {
        few = few;
        few_atoms = omega (arith, w.n, n_is);
        few_bonds = omega (arith, w.m, m_is);
        rows = omega (arith, w.n, n_is, f.accepted.roomy.atoms);
        parts = front_parts sdfile t ta tb n m chiral len j h a b f;
      }

  front_size : parts_size n m ta (take (h - 0) (drop 0 t)) (take (b - a) (drop a t)) ≡ length (canon_text (meaning f.x))
  unfolding parts_size
  front_size =
      rw (headers_are given (meaning f.x) f.accepted, items_are given (meaning f.x) f.accepted)
      (text_length given (meaning f.x).headers (meaning f.x).items ∙ ap (λ (y : Reading). length (canon_text y)) (sym f.accepted.tables))

module _ (t : Bytes) (ta tb ta' tb' : List ℤ) (ra : atom_places ≤ length ta) (rb : bond_places ≤ length tb) (p : RowsPromise sdfile t ta tb ta' tb')
    (r : RecordRead) (er : r ≡ read_as sdfile (length ta) (length tb) t) where
  module _ (n m chiral len j h a b : ℕ) (q : r ≡ RecordRead.Read n m chiral len j h a b) where
    it : Front sdfile t ta' tb' n m chiral len j h a b
    it = front t ta tb ta' tb' ra rb p r er n m chiral len j h a b q

    pub next_headers : h ≤ length t
    next_headers = it.headers_end_lem

    pub next_items : a ≤ b
    next_items = it.items_start_lem

    pub next_items_end : b ≤ length t
    next_items_end = it.items_end_lem

    pub next_measurable : (k : ℕ) → k * 1 < 2 ^ 63 → Measurable n m ta' (take (h - 0) (drop 0 t)) (take (b - a) (drop a t)) k
    next_measurable k few = front_measurable t ta' tb' n m chiral len j h a b it k few

    pub next_whole : (needed k v : ℕ) → v ≡ up_to k (needed + parts_size n m ta' (take (h - 0) (drop 0 t)) (take (b - a) (drop a t))) →
        Measured.Record len j v ≡ measured_by t needed k (outcome_of sdfile t)
    next_whole needed k v e =
        let f = it in
        let z : v ≡ up_to k (needed + length (canon_text (meaning f.x))) = e ∙ ap (λ (i : ℕ). up_to k (needed + i)) (front_size t ta' tb' n m chiral len j h a b f) in
        ap₂ (λ (y w : ℕ). Measured.Record y j w) f.size z ∙ sym (ap (measured_by t needed k) f.is)

  pub next_refused : (e i c needed k : ℕ) → r ≡ RecordRead.Refused e i c → Measured.Refused e i c ≡ measured_by t needed k (outcome_of sdfile t)
  next_refused e i c needed k q = rw (read_refused t ta tb ta' tb' ra rb p r er e i c q)
