-- The text of the record writer, read by the record reader, is the record that was handed in.
use Rattle.std.specs.Prelude.{ℕ, ◌≤◌, ◌≡◌, refl, List, [], ◌∷◌, ◌++◌, map, length, take, ℤ}
use Rattle.std.proofs.Common.{arith, sym, ap, ◌∙◌, subst}
use Rattle.std.proofs.Math.Seq.{take-length}
use Rattle.text.specs.Text.{Bytes, Line}
use Rattle.rules.specs.Record.{Raw, SDfile, GoodSDfile, limit, atom_places, bond_places}
use Rattle.rules.specs.Meaning.{Reading, meaning}
use Rattle.reader_tables.specs.Row.{flat}
use Rattle.judge_file.specs.Place.{sdfile}
use Rattle.reader_answer.specs.Read.{rows_in, read_of, atoms_after, bonds_after}
use Rattle.reader_answer.specs.Promise.{Reply, numbers_of, Begins, Told, Roomy, Reads}
use Rattle.reader_answer.specs.Promised.{read_back, same_read}
use Rattle.reader_answer.proofs.Promised.{promise}
use Rattle.reader_answer.specs.Told.{reply_of, told_reply, begins_told}
use Rattle.reader_answer.specs.Follows.{Alike}
use Rattle.reader_answer.proofs.Follows.{after_record}
use Rattle.writer_record.specs.Write.{Given, canon_text}
use Rattle.writer_record.specs.Promise.{Accepted, text_stands}
use Rattle.reader_cursor.specs.declared.Cursor.{Cursor}
use Rattle.reader_cursor.specs.Walk.{fresh}
use Rattle.reader_file.specs.Promise.{end}
use Rattle.reader_file.specs.Visits.{Visits}
use Rattle.reader_file.specs.Visiting.{visits_good}

-- a text is read to its last byte, with tables of any content that have room, as one record that means x: its rows stand in the tables; n, m, chiral,
-- header lines and items are told of it
pub record ReadAs (s : Bytes) (x : Reading) (ta tb : List ℤ) : Type 0 where
  pub raw : Raw
  pub same : meaning raw ≡ x
  pub reply : Reply
  pub told : Told sdfile s raw reply
  pub whole : reply.bytes ≡ length s
  pub answer : read_of 1 (length ta) (length tb) s ≡ read_back reply
  pub atoms : atoms_after 1 (length tb) s ta ≡ rows_in atom_places ta (flat x.atoms)
  pub bonds : bonds_after 1 (length ta) s tb ≡ rows_in bond_places tb (flat x.bonds)

-- a text that begins with a record, which takes all of it
module _ (s : Bytes) (raw : Raw) (b : Begins sdfile s raw) (all : (reply_of sdfile s raw).bytes ≡ length s) (ta tb : List ℤ) (room : Roomy ta tb) where
  abbrev w : Reply
  w = reply_of sdfile s raw

  reads : Reads sdfile s ta tb (numbers_of (read_of 1 (length ta) (length tb) s)) (atoms_after 1 (length tb) s ta) (bonds_after 1 (length ta) s tb)
  reads = (promise s ta tb 1 (read_of 1 (length ta) (length tb) s) (atoms_after 1 (length tb) s ta) (bonds_after 1 (length ta) s tb) refl refl refl).reads sdfile refl room

  pub read_as : ReadAs s (meaning raw) ta tb
  read_as =
      let told = begins_told sdfile s raw b in
      let rows = reads.rows raw b in
      record {
        raw = raw;
        same = refl;
        reply = w;
        told = told;
        whole = all;
        answer = same_read (read_of 1 (length ta) (length tb) s) (read_back w) ((reads.accepts w).1 (raw, b, told));
        atoms = rows.0;
        bonds = rows.1;
      }

-- ---- A file of one record

-- it begins with that record
first_of : {s : Bytes} {raw : Raw} {rs : List Raw} → GoodSDfile s (raw ∷ rs) → Begins sdfile s raw
first_of (ls, lines, SDfile.more {u = more} r f) = (ls, [], more, lines, r)

-- whose bytes are all of its bytes
module _ (s : Bytes) (raw : Raw) (la lb : ℕ) where
  once : {d : Cursor} → Visits la lb s fresh (raw ∷ []) d end → d.at ≡ length s → (reply_of sdfile s raw).bytes ≡ length s
  once (Visits.more v (Visits.stop h l)) e =
      let same = told_reply sdfile s raw v.reply v.told in
      let moved = ap (λ (c : Cursor). c.at) v.moved in
      let bytes = ap (λ (w : Reply). w.bytes) same in
      omega (arith, e, moved, bytes)

  all_of : atom_places ≤ la → bond_places ≤ lb → GoodSDfile s (raw ∷ []) → (reply_of sdfile s raw).bytes ≡ length s
  all_of ra rb f = let v = visits_good la lb ra rb s (raw ∷ []) f in once v.1 v.4

-- ---- The theorems

-- what was handed to the writer, and accepted, is what its text is read as
pub record_back : (g : Given) (x : Reading) → Accepted g x → (ta tb : List ℤ) → Roomy ta tb → ReadAs (canon_text x) x ta tb
record_back g x a ta tb room = let t = text_stands g x a in go t.0 t.1 t.2
  where
    go : (rs : List Raw) → GoodSDfile (canon_text x) rs → map meaning rs ≡ x ∷ [] → ReadAs (canon_text x) x ta tb
    go [] f e = absurd (let n : 0 ≡ 1 = ap length e in omega (arith, n))
    go (raw ∷ []) f e =
        let same : meaning raw ≡ x = cc in
        let all = all_of (canon_text x) raw (length ta) (length tb) room.atoms room.bonds f in
        subst (λ (y : Reading). ReadAs (canon_text x) y ta tb) same (read_as (canon_text x) raw (first_of f) all ta tb room)
    go (raw ∷ other ∷ rs) f e = absurd (let n = ap length e in omega (arith, n))

-- and it is read so from the writer's room, whatever follows it there
pub room_back : (g : Given) (x : Reading) → Accepted g x → (after : Bytes) → Alike (canon_text x) (canon_text x ++ after)
room_back g x a after = let t = text_stands g x a in go t.0 t.1 t.2
  where
    go : (rs : List Raw) → GoodSDfile (canon_text x) rs → map meaning rs ≡ x ∷ [] → Alike (canon_text x) (canon_text x ++ after)
    go [] f e = absurd (let n : 0 ≡ 1 = ap length e in omega (arith, n))
    go (raw ∷ []) f e =
        let s = canon_text x in
        let b = first_of f in
        let whole : take (reply_of sdfile s raw).bytes s ≡ s = ap (λ (k : ℕ). take k s) (all_of s raw atom_places bond_places (omega arith) (omega arith) f) ∙ take-length s in
        subst (λ (z : Bytes). Alike s (z ++ after)) whole (after_record s raw (reply_of sdfile s raw) b (begins_told sdfile s raw b) after)
    go (raw ∷ other ∷ rs) f e = absurd (let n = ap length e in omega (arith, n))
