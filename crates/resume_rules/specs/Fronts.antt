-- The record at the front of a text, in the rules' words and by the judge.
use Rattle.std.specs.Prelude.{ℕ, suc, ◌+◌, ◌-◌, ◌≤◌, ◌<◌, ◌≡◌, List, [], ◌∷◌, ◌++◌, length, take}
use Rattle.std.proofs.Common.{arith, sym, ap, ◌∙◌, subst}
use Rattle.std.proofs.Math.Seq.{take-append-add}
use Rattle.text.specs.Text.{Bytes, Line}
use Rattle.text.specs.Cut.{Cut, cut, cut_is, lines_cut}
use Rattle.rules.specs.Record.{Raw, GoodSDfile, limit}
use Rattle.rules.specs.PartLaws.{file_record}
use Rattle.judge_file.specs.One.{One, one_record}
use Rattle.judge_file.proofs.OneAgree.{one_refused, one_short}
use Rattle.judge_refusals.proofs.Because.{one_because}
use Rattle.judge_refusals.specs.NoRecord.{NoRecord}
use Rattle.reader_feed.specs.Fed.{Piece, piece_of}
use Rattle.reader_feed.specs.Pieces.{piece_room}
use Rattle.reader_feed.specs.Stays.{refused_one, short_one, one_piece, whole_stays}
use Rattle.reader_feed.specs.TooLong.{record_piece, open_short}

-- ---- No record

pub data NotWhole (s : Bytes) : ℕ → ℕ → ℕ → Type 0 where
  dead : {e k column : ℕ} → e ≤ 18 → piece_of s ≡ Piece.Refused e k column → NotWhole s e k column
  open_yet : {k : ℕ} → piece_of s ≡ Piece.Short k → NotWhole s 19 k 1

pub not_whole_lem : {s : Bytes} {e k column : ℕ} → NoRecord s e k column → NotWhole s e k column
not_whole_lem {s = s} (NoRecord.line {ls = ls} {e = e} {i = i} {column = column} h m c d why) =
    let is : (cut s).lines ≡ ls = ap (λ (x : Cut). x.lines) (lines_cut h) in
    NotWhole.dead m.1 (one_piece s (One.refused e i column) (ap (one_record limit) is ∙ (one_because limit ls e i column).1 why))
not_whole_lem {s = s} (NoRecord.cut_short {ls = ls} {rest = rest} h v w) =
    let o = open_short s (ls, rest, h, v, w) in
    let is : (cut s).lines ≡ ls = ap (λ (x : Cut). x.lines) (lines_cut h) in
    let k : o.0 ≡ suc (length ls) = (one_short limit (omega arith) (cut s).lines o.0 (short_one s o.0 o.1)).0 ∙ ap (λ (x : List Line). suc (length x)) is in
    NotWhole.open_yet (o.1 ∙ ap Piece.Short k)

pub no_dead : (s : Bytes) (e k column : ℕ) → piece_of s ≡ Piece.Refused e k column → NoRecord s e k column
no_dead s e k column h =
    let w = refused_one s e k column h in
    let f = one_refused limit (omega arith) (cut s).lines e k column w in
    NoRecord.line (cut_is s) f.0 f.1 f.2 ((one_because limit (cut s).lines e k column).0 w)

pub no_open : (s : Bytes) (k : ℕ) → piece_of s ≡ Piece.Short k → NoRecord s 19 k 1
no_open s k h =
    let f = one_short limit (omega arith) (cut s).lines k (short_one s k h) in
    subst (λ (j : ℕ). NoRecord s 19 j 1) (sym f.0) (NoRecord.cut_short (cut_is s) f.1 f.2)

-- a refusal names a line: there is one before it or none
pub dead_line : (s : Bytes) (e k column : ℕ) → piece_of s ≡ Piece.Refused e k column → k ≡ suc (k - 1)
dead_line s e k column h = let f = (one_refused limit (omega arith) (cut s).lines e k column (refused_one s e k column h)).2 in omega (arith, f.line)

pub dead_number : (s : Bytes) (e k column : ℕ) → piece_of s ≡ Piece.Refused e k column → e ≤ 18
dead_number s e k column h = (one_refused limit (omega arith) (cut s).lines e k column (refused_one s e k column h)).0.1

pub open_line : (s : Bytes) (k : ℕ) → piece_of s ≡ Piece.Short k → k ≡ suc (k - 1)
open_line s k h = let f = (one_short limit (omega arith) (cut s).lines k (short_one s k h)).0 in omega (arith, f)

-- ---- A record

module _ (room : ℕ) (t own rest : Bytes) (x : Raw) (e : t ≡ own ++ rest) (g : GoodSDfile own (x ∷ [])) (fits : length own ≤ room) where
  pub good_front : (piece_of (take room t) ≡ Piece.Whole (length own) (length (cut own).lines)) × (0 < length own)
  good_front =
      let p : piece_of own ≡ Piece.Whole (length own) (length g.0) = record_piece g.1 (file_record g.2) in
      let w = piece_room own (length own) (length g.0) p in
      let is : length g.0 ≡ length (cut own).lines = sym (ap (λ (c : Cut). length c.lines) (lines_cut g.1)) in
      let size : room ≡ length own + (room - length own) = omega (arith, fits) in
      let front : take room t ≡ own ++ take (room - length own) rest =
      ap (take room) e ∙ ap (λ (j : ℕ). take j (own ++ rest)) size ∙ take-append-add own rest (room - length own) in (
        ap piece_of front ∙ whole_stays own (take (room - length own) rest) (length own) (length g.0) p ∙ ap (Piece.Whole (length own)) is,
        omega (arith, w.0, w.1),
      )
