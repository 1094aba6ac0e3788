-- The text of a record in the order in which its parts are laid, how long it is, and when all tests hold.
use Rattle.std.specs.Prelude.{Result, Ok, Err, ℕ, zero, suc, ◌+◌, ◌*◌, ◌≤◌, ◌<◌, ◌≡◌, ◌↔◌, Bool, cond, leb, length, take, drop, set, ℤ}
use Rattle.std.proofs.Common.{arith, ◌∙◌, length-append}
use Rattle.std.proofs.Math.Path.{refl, sym, ap, ap₂}
use Rattle.std.proofs.Math.Bool.{true, false}
use mathlib.Core.List.{List, [], ◌∷◌, ◌++◌, append_assoc}
use Rattle.std.proofs.lemmas.List.Edits.{sets-eq}
use borrow.Author.Tests.{leb-true, le-leb, lt-leb}
use Rattle.text.specs.Text.{Bytes, LF}
use Rattle.text.specs.Written.{text, text_append}
use Rattle.rules.specs.Record.{Headers, Item, limit}
use Rattle.rules.specs.Write.{close_text, items_lines, molecule_lines, record_lines}
use Rattle.rules.specs.Canon.{canon, Writable}
use Rattle.writer_lines.specs.Laid.{Laid, laid_sets, laid_join}
use Rattle.writer_lines.specs.Lines.{WritableAtoms}
use Rattle.writer_molecule.specs.Body.{body_lines, molecule_lines_lem, body_text, body_any, body_size}
use Rattle.writer_molecule.specs.Sizes.{body_length}
use Rattle.judge_file.specs.Verdict.{Verdict, accepted, refused, mapped}
use Rattle.judge_parts.specs.Part.{headers_verdict, items_verdict}
use Rattle.judge_parts.specs.Written.{headers_text, item_lines, items_text, text_of, written_headers, written_items}
use Rattle.writer_parts.specs.Step.{judged}
use Rattle.judge_file.specs.declared.TextRefusal.{TextRefusal}
use Rattle.writer_parts_put.specs.Put.{Room}
use Rattle.writer_tables.specs.Tables.{writable_tables}
use Rattle.writer_tables.specs.Agree.{writable_agrees}
use Rattle.writer_row.specs.AgreeNumber.{and_agrees, up_agrees}
use Rattle.writer_record.specs.Write.{Given, Roomy, handed, canon_text, demand, and_then, roomy, record_for, text_for, answer, room, write_of, room_after}

-- ---- What the code computes: sizes instead of texts

-- so many bytes, asked of room of k bytes
unfoldable pub sized : ℕ → ℕ → Result ℕ TextRefusal
sized size k = cond (leb size k) (Ok size) (Err (record { no = 20; line = 0; column = 0 }))

-- header lines and molecule are so long
abbrev pub after_items : ℕ → ℕ → ℕ → Verdict Bytes → Result ℕ TextRefusal
after_items headers molecule k (accepted bs) = sized (headers + molecule + length bs + 5) k
after_items headers molecule k (refused e line column) = Err (record { no = e; line = line; column = column })

abbrev pub after_headers : ℕ → ℕ → Verdict Bytes → Verdict Bytes → Result ℕ TextRefusal
after_headers molecule k items (accepted bs) = after_items (length bs) molecule k items
after_headers molecule k items (refused e line column) = Err (record { no = e; line = line; column = column })

-- header lines, molecule, items and the line that ends the record
unfoldable pub parts_size : ℕ → ℕ → List ℤ → Bytes → Bytes → ℕ
parts_size n m atoms headers items = length (text_of (written_headers headers)) + body_size n m atoms + length (text_of (written_items items)) + 5

-- header lines and items that were judged good
pub record GoodParts (hs is : Bytes) : Type 0 where
  pub headers : written_headers hs ≡ accepted (text_of (written_headers hs))
  pub items : written_items is ≡ accepted (text_of (written_items is))

-- of these none is refused: what is left is the room
pub never_refused : (n m : ℕ) (atoms : List ℤ) (hs is : Bytes) (k : ℕ) → GoodParts hs is →
    after_headers (body_size n m atoms) k (written_items is) (written_headers hs) ≡ sized (parts_size n m atoms hs is) k
unfolding parts_size
never_refused n m atoms hs is k g = ap₂ (after_headers (body_size n m atoms) k) g.items g.headers

pub measured_parts : (n m : ℕ) (atoms : List ℤ) (hs is : Bytes) (k a b c : ℕ) (r : Result ℕ TextRefusal) → a ≡ length (text_of (written_headers hs)) → b ≡ body_size n m atoms → c ≡ length (text_of (written_items is)) →
    r ≡ sized (a + b + c + 5) k → r ≡ sized (parts_size n m atoms hs is) k
unfolding parts_size
measured_parts n m atoms hs is k a b c r ea eb ec e =
    let z : a + b + c + 5 ≡ length (text_of (written_headers hs)) + body_size n m atoms + length (text_of (written_items is)) + 5 = omega (arith, ea, eb, ec) in
    e ∙ ap (λ (i : ℕ). sized i k) z

-- ---- The parts of the text

abbrev pub close_line : Bytes
close_line = close_text ++ (LF ∷ [])

unfoldable pub record_text : Given → Bytes
record_text g =
    text_of (written_headers g.headers)
    ++ (body_text g.n g.m g.chiral g.atoms g.bonds ++ (text_of (written_items g.items) ++ close_line))

items_lines_lem : (is : List Item) → items_lines is ≡ item_lines is ++ (close_text ∷ [])
unfolding items_lines item_lines
items_lines_lem [] = refl
items_lines_lem (i ∷ is) = rw (items_lines_lem is, append_assoc i.values ([] ∷ item_lines is) (close_text ∷ []))

module _ (g : Given) (h : Headers) (is : List Item) where
  abbrev body : Bytes
  body = body_text g.n g.m g.chiral g.atoms g.bonds

  text_parts : headers_text h ++ (body ++ (items_text is ++ close_line)) ≡ canon_text (handed g h is)
  unfolding headers_text items_text record_lines canon text
  text_parts =
      let m = (canon (handed g h is)).molecule in
      sym
      (text_append (molecule_lines m) (items_lines is)
      ∙ ap₂ ◌++◌
      (ap text (molecule_lines_lem m) ∙ text_append (h.first ∷ h.second ∷ h.third ∷ []) (body_lines m) ∙ ap (λ (b : Bytes). headers_text h ++ b) (body_any h is g.n g.m g.chiral g.atoms g.bonds))
      (ap text (items_lines_lem is) ∙ text_append (item_lines is) (close_text ∷ []))
      ∙ append_assoc (headers_text h) body (items_text is ++ close_line))

  pub text_length : length (headers_text h) + body_size g.n g.m g.atoms + length (items_text is) + 5 ≡ length (canon_text (handed g h is))
  text_length =
      sym
      (ap length (sym text_parts)
      ∙ length-append (headers_text h) (body ++ (items_text is ++ close_line))
      ∙ omega (
        arith,
        length-append body (items_text is ++ close_line),
        length-append (items_text is) close_line,
        body_length g.n g.m g.chiral g.atoms g.bonds,
      ))

-- ---- The tests

pub roomy_agrees : (g : Given) → (roomy g.atoms g.bonds ≡ true) ↔ Roomy g
unfolding roomy
roomy_agrees g =
    let e = and_agrees (up_agrees (16 * limit) (length g.atoms)) (up_agrees (6 * limit) (length g.bonds)) in
    ((λ h. record { atoms = (e.0 h).0; bonds = (e.0 h).1 }), (λ r. e.1 (r.atoms, r.bonds)))

-- header lines and items have no part in it
pub tables_agree : (g : Given) (h : Headers) (is : List Item) → Roomy g →
    (writable_tables g.n g.m g.chiral g.atoms g.bonds ≡ true) ↔ Writable limit (handed g h is)
tables_agree g h is r = writable_agrees (handed g h is) g.atoms g.bonds refl refl r.atoms r.bonds

-- all that the parts need to be laid
pub record Ready (g : Given) (k : ℕ) : Type 0 where
  pub n : g.n ≤ limit
  pub m : g.m ≤ limit
  pub atoms : 16 * g.n ≤ length g.atoms
  pub bonds : 6 * g.m ≤ length g.bonds
  pub writable : WritableAtoms g.n g.atoms
  pub headers : written_headers g.headers ≡ accepted (text_of (written_headers g.headers))
  pub items : written_items g.items ≡ accepted (text_of (written_items g.items))
  pub enough : length (text_of (written_headers g.headers)) + body_size g.n g.m g.atoms + length (text_of (written_items g.items)) + 5 ≤ k
  pub text : text_for g k ≡ accepted (record_text g)

pub refused_done : {X : Type 0} {e line column l : ℕ} → ◌≡◌ {A = Result ℕ TextRefusal} (Err (record { no = e; line = line; column = column })) (Ok l) → X
refused_done h = absurd (let z : ◌≡◌ {A = ℕ} 0 1 = cc in omega arith)

module _ (g : Given) (k : ℕ) (h : Headers) (is : List Item) (a : roomy g.atoms g.bonds ≡ true) (b : writable_tables g.n g.m g.chiral g.atoms g.bonds ≡ true) (p : headers_verdict g.headers ≡ accepted h) (q : items_verdict g.items ≡ accepted is) (t : leb (length (canon_text (handed g h is))) k ≡ true) where
  text_is : record_text g ≡ canon_text (handed g h is)
  unfolding record_text written_headers written_items
  text_is = rw (p, q) (text_parts g h is)

  passed : Ready g k
  unfolding written_headers written_items WritableAtoms text_for record_for
  passed =
      let r = (roomy_agrees g).0 a in
      let w = (tables_agree g h is r).0 b in
      record {
        n = w.n;
        m = w.m;
        atoms = omega (arith, w.n, r.atoms);
        bonds = omega (arith, w.m, r.bonds);
        writable = w.atoms;
        headers = rw p;
        items = rw q;
        enough = rw (p, q) (omega (arith, text_length g h is, leb-true (length (canon_text (handed g h is))) k t));
        text = rw (a, b, p, q, t) (ap accepted (sym text_is));
      }

pub ready : (g : Given) (k l : ℕ) → write_of g k ≡ Ok l → Ready g k
unfolding write_of text_for record_for
ready g k l h = go (roomy g.atoms g.bonds) refl (writable_tables g.n g.m g.chiral g.atoms g.bonds) refl (headers_verdict g.headers) refl (items_verdict g.items) refl h
  where
    fit : (hs : Headers) (is : List Item) → roomy g.atoms g.bonds ≡ true → writable_tables g.n g.m g.chiral g.atoms g.bonds ≡ true →
        headers_verdict g.headers ≡ accepted hs → items_verdict g.items ≡ accepted is → (t : Bool) → leb (length (canon_text (handed g hs is))) k ≡ t →
        answer (demand t 20 (accepted (canon_text (handed g hs is)))) ≡ Ok l → Ready g k
    fit hs is a b p q true t e = passed g k hs is a b p q t
    fit hs is a b p q false t e = refused_done e

    go : (x : Bool) → roomy g.atoms g.bonds ≡ x → (y : Bool) → writable_tables g.n g.m g.chiral g.atoms g.bonds ≡ y →
        (v : Verdict Headers) → headers_verdict g.headers ≡ v → (w : Verdict (List Item)) → items_verdict g.items ≡ w →
        answer (and_then (demand x 2 (demand y 21 (and_then v λ hs. and_then w λ is. accepted (handed g hs is)))) λ z. demand (leb (length (canon_text z)) k) 20 (accepted (canon_text z))) ≡ Ok l → Ready g k
    go false a y b v p w q e = refused_done e
    go true a false b v p w q e = refused_done e
    go true a true b (refused n line column) p w q e = refused_done e
    go true a true b (accepted hs) p (refused n line column) q e = refused_done e
    go true a true b (accepted hs) p (accepted is) q e = fit hs is a b p q (leb (length (canon_text (handed g hs is))) k) refl e

pub ready_by : (g : Given) (k l : ℕ) (j : Result ℕ TextRefusal) → j ≡ write_of g k → j ≡ Ok l → Ready g k
ready_by g k l j q h = ready g k l (sym q ∙ h)

-- ---- What the code finds, step by step

pub sized_fits : (size k : ℕ) → size ≤ k → Ok size ≡ sized size k
unfolding sized
sized_fits size k h = rw (le-leb size k h)

pub sized_over : (size k : ℕ) → k < size → Err (record { no = 20; line = 0; column = 0 }) ≡ sized size k
unfolding sized
sized_over size k h = rw (lt-leb size k h)

sized_is : (bs : Bytes) (size k : ℕ) → size ≡ length bs → sized size k ≡ answer (demand (leb (length bs) k) 20 (accepted bs))
unfolding sized
sized_is bs size k e = rw e (go (leb (length bs) k))
  where
    go : (t : Bool) → cond t (Ok (length bs)) (Err (record { no = 20; line = 0; column = 0 })) ≡ answer (demand t 20 (accepted bs))
    go true = refl
    go false = refl

-- a part that is good and so long, or refused, as the code has it
module _ (v : Verdict Bytes) (x : Result ℕ TextRefusal) (j : x ≡ judged v) where
  long_by : (size : ℕ) (w : Verdict Bytes) → w ≡ v → Ok size ≡ judged w → (A : ℕ → Result ℕ TextRefusal) (B : Verdict Bytes → Result ℕ TextRefusal) →
      ((bs : Bytes) → B (accepted bs) ≡ A (length bs)) → A size ≡ B v
  long_by size (accepted bs) e h A B f = let n : size ≡ length bs = cc in ap A n ∙ sym (f bs) ∙ ap B e
  long_by size (refused e line column) q h A B f = absurd (let z : ◌≡◌ {A = ℕ} 0 1 = cc in omega arith)

  stop_by_lem : (r : TextRefusal) (w : Verdict Bytes) → w ≡ v → Err r ≡ judged w → (B : Verdict Bytes → Result ℕ TextRefusal) →
      ((n i c : ℕ) → B (refused n i c) ≡ Err (record { no = n; line = i; column = c })) → Err r ≡ B v
  stop_by_lem r (accepted bs) q h B f = absurd (let z : ◌≡◌ {A = ℕ} 0 1 = cc in omega arith)
  stop_by_lem r (refused n i c) q h B f = h ∙ sym (f n i c) ∙ ap B q

  pub items_good : (headers molecule k size s : ℕ) (r : Result ℕ TextRefusal) → x ≡ Ok size → s ≡ molecule → r ≡ sized (headers + s + size + 5) k →
      r ≡ after_items headers molecule k v
  items_good headers molecule k size s r h e q =
      q ∙ ap (λ (t : ℕ). sized (headers + t + size + 5) k) e
      ∙ long_by size v refl (sym h ∙ j) (λ t. sized (headers + molecule + t + 5) k) (after_items headers molecule k) (λ bs. refl)

  pub items_bad : (headers molecule k : ℕ) (r : TextRefusal) → x ≡ Err r → Err r ≡ after_items headers molecule k v
  items_bad headers molecule k r h = stop_by_lem r v refl (sym h ∙ j) (after_items headers molecule k) (λ n i c. refl)

  pub headers_good : (molecule k size : ℕ) (items : Verdict Bytes) (r : Result ℕ TextRefusal) → x ≡ Ok size → r ≡ after_items size molecule k items →
      r ≡ after_headers molecule k items v
  headers_good molecule k size items r h q = q ∙ long_by size v refl (sym h ∙ j) (λ t. after_items t molecule k items) (after_headers molecule k items) (λ bs. refl)

  pub headers_bad : (molecule k : ℕ) (items : Verdict Bytes) (r : TextRefusal) → x ≡ Err r → Err r ≡ after_headers molecule k items v
  headers_bad molecule k items r h = stop_by_lem r v refl (sym h ∙ j) (after_headers molecule k items) (λ n i c. refl)

pub ruleset part_laws = (items_good, items_bad, headers_good, headers_bad)

-- tables whose parts are judged
pub small : (n m chiral : ℕ) (atoms bonds : List ℤ) (t : Bool) → 16 * limit ≤ length atoms → 6 * limit ≤ length bonds →
    t ≡ writable_tables n m chiral atoms bonds → t ≡ true → (16 * n ≤ length atoms) × ((n ≤ limit) × (m ≤ limit))
small n m chiral atoms bonds t a b e h =
    let w = (tables_agree (record { atoms = atoms; bonds = bonds; n = n; m = m; chiral = chiral; headers = []; items = [] }) (record { first = []; second = []; third = [] }) [] (record { atoms = a; bonds = b })).0 (sym e ∙ h) in
    (omega (arith, w.n), (w.n, w.m))

module _ (g : Given) (k : ℕ) where
  pub refused_tables : ¬ Roomy g → Err (record { no = 2; line = 0; column = 0 }) ≡ write_of g k
  unfolding write_of text_for record_for
  refused_tables h = rw (shut (roomy g.atoms g.bonds) refl)
    where
      shut : (t : Bool) → roomy g.atoms g.bonds ≡ t → roomy g.atoms g.bonds ≡ false
      shut true e = absurd (h ((roomy_agrees g).0 e))
      shut false e = e

  module _ (t : Bool) (a : 16 * limit ≤ length g.atoms) (b : 6 * limit ≤ length g.bonds) (w : t ≡ writable_tables g.n g.m g.chiral g.atoms g.bonds) where
    pub refused_writable : t ≡ false → Err (record { no = 21; line = 0; column = 0 }) ≡ write_of g k
    unfolding write_of text_for record_for
    refused_writable h = rw ((roomy_agrees g).1 (record { atoms = a; bonds = b }), ← w, h)

    judged_by_lem : t ≡ true → after_headers (body_size g.n g.m g.atoms) k (written_items g.items) (written_headers g.headers) ≡ write_of g k
    unfolding write_of text_for record_for written_items written_headers
    judged_by_lem h = rw ((roomy_agrees g).1 (record { atoms = a; bonds = b }), ← w, h) (go (headers_verdict g.headers) (items_verdict g.items))
      where
        go : (v : Verdict Headers) (w : Verdict (List Item)) →
            after_headers (body_size g.n g.m g.atoms) k (mapped items_text w) (mapped headers_text v)
            ≡ answer (and_then (and_then v λ h. and_then w λ is. accepted (handed g h is)) λ x. demand (leb (length (canon_text x)) k) 20 (accepted (canon_text x)))
        go (refused e line column) w = refl
        go (accepted h) (refused e line column) = refl
        go (accepted h) (accepted is) = sized_is (canon_text (handed g h is)) _ k (text_length g h is)

    pub judged_parts : t ≡ true → (r : Result ℕ TextRefusal) → r ≡ after_headers (body_size g.n g.m g.atoms) k (written_items g.items) (written_headers g.headers) → r ≡ write_of g k
    judged_parts h r e = e ∙ judged_by_lem h

-- ---- The room

-- the line that ends the record, byte by byte
pub close_laid : (r : Bytes) (at : ℕ) → at + 5 ≤ length r →
    Laid r (set (set (set (set (set r at 36) (at + 1) 36) (at + 2) 36) (at + 3) 36) (at + 4) 10) at close_line (at + 5)
close_laid r at h =
    let a : at + 1 ≡ suc at = omega arith in
    let b : at + 2 ≡ suc (suc at) = omega arith in
    let c : at + 3 ≡ suc (suc (suc at)) = omega arith in
    let d : at + 4 ≡ suc (suc (suc (suc at))) = omega arith in
    laid_sets r _ at close_line (at + 5) refl h (rw (a, b, c, d))

-- one part after the other has its room
module _ (g : Given) (r₀ : Bytes) (y : Ready g (length r₀)) {r₁ : Bytes} {a : ℕ} (p : Laid r₀ r₁ 0 (text_of (written_headers g.headers)) a) where
  pub room_molecule : a + body_size g.n g.m g.atoms ≤ length r₁
  room_molecule = omega (arith, p.next, p.size, y.enough)

  module _ {r₂ : Bytes} {b : ℕ} (q : Laid r₁ r₂ a (body_text g.n g.m g.chiral g.atoms g.bonds) b) where
    b_is : b ≡ length (text_of (written_headers g.headers)) + body_size g.n g.m g.atoms
    b_is = omega (arith, p.next, q.next, body_length g.n g.m g.chiral g.atoms g.bonds)

    pub room_items : Room (written_items g.items) b (length r₂)
    room_items = record { whole = y.items; enough = omega (arith, b_is, p.size, q.size, y.enough) }

    module _ {r₃ : Bytes} {c : ℕ} (s : Laid r₂ r₃ b (text_of (written_items g.items)) c) where
      pub room_close : c + 5 ≤ length r₃
      room_close = omega (arith, b_is, p.size, q.size, s.size, s.next, y.enough)

      pub record_laid : {r₄ : Bytes} {e : ℕ} → Laid r₃ r₄ c close_line e → Laid r₀ r₄ 0 (record_text g) e
      unfolding record_text
      record_laid t = laid_join p (laid_join q (laid_join s t))

pub done_answer : (g : Given) (r₀ r : Bytes) (e : ℕ) → Ready g (length r₀) → Laid r₀ r 0 (record_text g) e → Ok e ≡ write_of g (length r₀)
unfolding write_of
done_answer g r₀ r e y l = let n : e ≡ length (record_text g) = omega (arith, l.next) in rw y.text (ap Ok n)

pub done_room : (g : Given) (r₀ r : Bytes) (e : ℕ) → Ready g (length r₀) → Laid r₀ r 0 (record_text g) e → r ≡ room_after g r₀
unfolding room_after
done_room g r₀ r e y l =
    let n : 0 + length (record_text g) ≡ length (record_text g) = omega arith in
    rw y.text (l.same ∙ sets-eq (record_text g) r₀ 0 (omega (arith, l.next, l.fits)) ∙ ap (λ (i : ℕ). record_text g ++ drop i r₀) n)

pub refused_room : (g : Given) (r : Bytes) (f : TextRefusal) → write_of g (length r) ≡ Err f → r ≡ room_after g r
unfolding write_of room_after
refused_room g r f h = go (text_for g (length r)) h
  where
    go : (v : Verdict Bytes) → answer v ≡ Err f → r ≡ room r v
    go (accepted bs) q = refused_done (sym q)
    go (refused n i c) q = refl
