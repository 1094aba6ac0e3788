-- A record read and written into what remains of the room: laws for the code.
use Rattle.std.specs.Prelude.{Ok, ℕ, ◌+◌, ◌-◌, ◌*◌, ◌≤◌, ◌<◌, ◌^◌, ◌≡◌, refl, List, ◌++◌, length, take, drop, ℤ}
use Rattle.std.proofs.Common.{arith, sym, ap, ◌∙◌, subst, append_assoc, append-nil, length-append, length-take, length-drop, take_all, drop-drop, Fits}
use Rattle.std.proofs.lemmas.List.Edits.{sets, sets-eq}
use Rattle.std.proofs.Math.Seq.{drop-length}
use borrow.Rule.Slice.PartMut.{put_mid}
use Rattle.std.specs.Int.{w64}
use Rattle.text.specs.Text.{Bytes}
use Rattle.rules.specs.Record.{Raw, atom_places, bond_places}
use Rattle.rules.specs.Meaning.{Reading, meaning}
use Rattle.judge_file.specs.Place.{sdfile}
use Rattle.judge_file.specs.WalkText.{after_lines}
use Rattle.reader_walk.specs.Outcome.{whole, refused, outcome_of}
use Rattle.reader_walk.specs.Walked.{Beside}
use Rattle.writer_lines.specs.Laid.{Laid}
use Rattle.reader_answer.specs.declared.RecordRead.{RecordRead}
use Rattle.reader_answer.specs.Read.{read_as}
use Rattle.reader_answer.specs.Rows.{RowsPromise}
use Rattle.reader_answer.specs.Told.{whole_raw, whole_lines}
use Rattle.judge_file.specs.declared.TextRefusal.{TextRefusal}
use Rattle.writer_record.specs.Write.{Given, canon_text}
use Rattle.writer_record.specs.Measure.{record_text, Ready}
use Rattle.writer_record.specs.Promise.{Accepted, Promise, accepted_one, accepted_ready, accepted_laid}
use Rattle.writer_catalogue.specs.declared.Wrote.{Wrote}
use Rattle.writer_catalogue.specs.declared.Again.{Again}
use Rattle.writer_copy.specs.Bridge.{given_of, Front}
use Rattle.writer_copy.specs.WorkTables.{front, read_atoms, read_bonds, read_refused}

-- ---- What remains of the room

-- a text at the front of the tail that was lent
laid_tail : (r r' ys : Bytes) (at : ℕ) → at + length ys ≤ length r → r' ≡ take at r ++ (ys ++ drop (length ys) (drop at r)) → Laid r r' at ys (at + length ys)
laid_tail r r' ys at h e =
    let s : r' ≡ sets r at ys =
    e ∙ ap (λ (d : Bytes). take at r ++ (ys ++ d)) (drop-drop (length ys) at r) ∙ sym (append_assoc (take at r) ys (drop (at + length ys) r)) ∙ sym (sets-eq ys r at h) in
    record {
      size =
          ap length e
          ∙ length-append (take at r) (ys ++ drop (length ys) (drop at r))
          ∙ omega (arith, length-take at r, length-append ys (drop (length ys) (drop at r)), length-drop (length ys) (drop at r), length-drop at r);
      next = refl;
      fits = h;
      same = s;
    }

-- the room once its tail came back
put_tail : (r : Bytes) (at : ℕ) (tail : Bytes) → at ≤ length r → put_mid at (length r - at) r tail ≡ take at r ++ tail
put_tail r at tail h =
    let k : at + (length r - at) ≡ length r = omega arith in
    ap (λ (d : Bytes). take at r ++ (tail ++ d)) (drop-drop (length r - at) at r)
    ∙ ap (λ (j : ℕ). take at r ++ (tail ++ drop j r)) k
    ∙ ap (λ (d : Bytes). take at r ++ (tail ++ d)) (drop-length r)
    ∙ ap (λ (d : Bytes). take at r ++ d) (append-nil tail)

-- what is handed in is this reading, and room r has room for its text from place `to` on
pub record Handed (g : Given) (r : Bytes) (to : ℕ) : Type 0 where
  pub x : Reading
  pub accepted : Accepted g x
  pub enough : to + length (canon_text x) ≤ length r

-- it was laid there
pub record Put (g : Given) (r₀ r : Bytes) (to e : ℕ) : Type 0 where
  pub laid : (x : Reading) → Accepted g x → Laid r₀ r to (canon_text x) e

module _ (g : Given) (r : Bytes) (to : ℕ) (h : Handed g r to) where
  put_to : to ≤ length r
  put_to = omega (arith, h.enough)

  abbrev txt : Bytes
  txt = canon_text h.x

  lent : take (length r - to) (drop to r) ≡ drop to r
  lent = take_all (length r - to) (drop to r) (omega (arith, length-drop to r))

  few : length txt ≤ length (take (length r - to) (drop to r))
  few = omega (arith, h.enough, ap length lent, length-drop to r)

  pub put_ready : Ready g (length (take (length r - to) (drop to r)))
  put_ready = accepted_ready g h.x h.accepted (length (take (length r - to) (drop to r))) few

  module _ (tail : Bytes) (v : ℕ) (l : Laid (take (length r - to) (drop to r)) tail 0 (record_text g) v) where
    written : Promise g (take (length r - to) (drop to r)) (Ok v) tail
    written = accepted_laid g h.x h.accepted (take (length r - to) (drop to r)) tail v few l

    said : v ≡ length txt
    said = let w = (written.accepted (length txt)).1 (h.x, h.accepted, refl, few) in cc

    did : tail ≡ txt ++ drop (length txt) (drop to r)
    did = written.written h.x h.accepted few ∙ ap (λ (z : Bytes). txt ++ drop (length txt) z) lent

    pub put_fits : length r * 1 < 2 ^ 63 → Fits w64 (to + v)
    put_fits s = record { fits = omega (arith, said, h.enough) }

    pub put_laid : Put g r (put_mid to (length r - to) r tail) to (to + v)
    put_laid =
        let f : to + length txt ≡ to + v = ap (λ (z : ℕ). to + z) (sym said) in
        let d = laid_tail r (put_mid to (length r - to) r tail) txt to h.enough (put_tail r to tail put_to ∙ ap (λ (z : Bytes). take to r ++ z) did) in
        record {
          laid = λ x a.
              subst (λ (z : ℕ). Laid r (put_mid to (length r - to) r tail) to (canon_text x) z) f
              (subst (λ (z : Reading). Laid r (put_mid to (length r - to) r tail) to (canon_text z) (to + length txt)) (accepted_one g h.x x h.accepted a) d);
        }

-- ---- One record

-- the text begins with a record
pub record Known (t : Bytes) (ta tb : List ℤ) : Type 0 where
  pub atoms : atom_places ≤ length ta
  pub bonds : bond_places ≤ length tb
  pub x : Raw
  pub k : ℕ
  pub is : outcome_of sdfile t ≡ whole x k

-- it was read, and its rows stand in the tables
pub record ReadAgain (t : Bytes) (ta tb ta' tb' : List ℤ) (w : Again) : Type 0 where
  pub atoms_beside : Beside atom_places ta ta'
  pub bonds_beside : Beside bond_places tb tb'
  pub front : Front sdfile t ta' tb' w.n w.m w.chiral w.length w.lines w.header_end w.items_start w.items_end

-- the text begins with a record whose canonical text has room
pub record Next (t : Bytes) (ta tb : List ℤ) (r : Bytes) (to : ℕ) : Type 0 where
  pub atoms : atom_places ≤ length ta
  pub bonds : bond_places ≤ length tb
  pub x : Raw
  pub k : ℕ
  pub is : outcome_of sdfile t ≡ whole x k
  pub enough : to + length (canon_text (meaning x)) ≤ length r

-- that record's canonical text was laid, and so many bytes and lines are its own
pub record WroteNext (t r₀ r : Bytes) (to : ℕ) (w : Wrote) : Type 0 where
  pub laid : (x : Raw) (k : ℕ) → outcome_of sdfile t ≡ whole x k → Laid r₀ r to (canon_text (meaning x)) w.to
  pub bytes : (x : Raw) (k : ℕ) → outcome_of sdfile t ≡ whole x k → w.length ≡ after_lines t 0 k
  pub lines : (x : Raw) (k : ℕ) → outcome_of sdfile t ≡ whole x k → w.lines ≡ k

module _ (t : Bytes) (ta tb ta' tb' : List ℤ) (g : Known t ta tb) (rows : RowsPromise sdfile t ta tb ta' tb')
    (a : RecordRead) (er : a ≡ read_as sdfile (length ta) (length tb) t) where
  pub second_reads : (n m chiral len k h i j : ℕ) → a ≡ RecordRead.Read n m chiral len k h i j →
      ReadAgain t ta tb ta' tb' (record { n = n; m = m; chiral = chiral; length = len; lines = k; header_end = h; items_start = i; items_end = j })
  second_reads n m chiral len k h i j q =
      record {
        atoms_beside = read_atoms t ta tb ta' tb' g.atoms g.bonds rows;
        bonds_beside = read_bonds t ta tb ta' tb' g.atoms g.bonds rows;
        front = front t ta tb ta' tb' g.atoms g.bonds rows a er n m chiral len k h i j q;
      }

  -- a record that begins the text is read
  pub second_never : {X : Type 0} (e i c : ℕ) → a ≡ RecordRead.Refused e i c → X
  second_never e i c q =
      let o = read_refused t ta tb ta' tb' g.atoms g.bonds rows a er e i c q in
      let z : whole g.x g.k ≡ refused e i c = sym g.is ∙ o in
      absurd (let z : ◌≡◌ {A = ℕ} 0 1 = cc in omega arith)

  pub second_other : (e i c : ℕ) (w : Again) → a ≡ RecordRead.Refused e i c → ReadAgain t ta tb ta' tb' w
  second_other e i c w q = second_never e i c q

pub ruleset again_laws = (second_reads, second_other)

pub next_known : (t : Bytes) (ta tb : List ℤ) (r : Bytes) (to : ℕ) → Next t ta tb r to → Known t ta tb
next_known t ta tb r to g = record { atoms = g.atoms; bonds = g.bonds; x = g.x; k = g.k; is = g.is }

module _ (t : Bytes) (ta tb ta' tb' : List ℤ) (w : Again) (b : ReadAgain t ta tb ta' tb' w) where
  pub wrote_atoms : Beside atom_places ta ta'
  wrote_atoms = b.atoms_beside

  pub wrote_bonds : Beside bond_places tb tb'
  wrote_bonds = b.bonds_beside

  pub wrote_headers : w.header_end ≤ length t
  wrote_headers = b.front.headers_end_lem

  pub wrote_items : w.items_start ≤ w.items_end
  wrote_items = b.front.items_start_lem

  pub wrote_items_end : w.items_end ≤ length t
  wrote_items_end = b.front.items_end_lem

  module _ (r : Bytes) (to : ℕ) where
    pub wrote_handed : Next t ta tb r to → Handed (given_of t ta' tb' w.n w.m w.chiral w.header_end w.items_start w.items_end) r to
    wrote_handed g =
        let it = b.front in
        let e = ap (λ (y : Raw). length (canon_text (meaning y))) (whole_raw (sym it.is ∙ g.is)) in
        record { x = meaning it.x; accepted = it.accepted; enough = omega (arith, g.enough) }

    pub wrote_next : (r' : Bytes) (e : ℕ) → Put (given_of t ta' tb' w.n w.m w.chiral w.header_end w.items_start w.items_end) r r' to e →
        WroteNext t r r' to (record { length = w.length; lines = w.lines; to = e })
    wrote_next r' e p =
        let it = b.front in
        record {
          laid = λ x u o. subst (λ (z : Raw). Laid r r' to (canon_text (meaning z)) e) (whole_raw (sym it.is ∙ o)) (p.laid (meaning it.x) it.accepted);
          bytes = λ x u o. it.size ∙ ap (after_lines t 0) (whole_lines (sym it.is ∙ o));
          lines = λ x u o. whole_lines (sym it.is ∙ o);
        }

pub ruleset wrote_laws = (next_known, wrote_atoms, wrote_bonds, wrote_headers, wrote_items, wrote_items_end, wrote_handed, wrote_next)
