-- Sums that stop at the greatest count, and the record at the front of some bytes.
use Rattle.std.specs.Prelude.{ℕ, ◌+◌, ◌-◌, ◌≤◌, ◌<◌, ◌^◌, ◌≡◌, refl, [], length}
use Rattle.std.proofs.Common.{arith, ap, lt-ltb, le-ltb}
use Rattle.text.specs.Text.{Bytes}
use Rattle.text.specs.Cut.{cut, split}
use Rattle.rules.specs.Record.{limit}
use Rattle.judge_file.specs.One.{One, one_from, one_record}
use Rattle.judge_file.specs.WalkText.{after_lines}
use Rattle.reader_cursor.specs.After.{whole_size}
use Rattle.reader_feed.specs.Fed.{Piece, piece_by, piece_of, most, plus_of}

-- ---- Sums

pub plus_most : (a b : ℕ) → 2 ^ 64 - 1 - a < b → 2 ^ 64 - 1 ≡ plus_of a b
unfolding plus_of most
plus_most a b h = rw (lt-ltb (2 ^ 64 - 1 - a) b h)

pub plus_sum : (a b : ℕ) → b ≤ 2 ^ 64 - 1 - a → a + b ≡ plus_of a b
unfolding plus_of most
plus_sum a b h = rw (le-ltb (2 ^ 64 - 1 - a) b h)

pub ruleset plus_laws = (plus_most, plus_sum)

-- ---- The record at the front

pub piece_none : piece_of [] ≡ Piece.Short 1
unfolding piece_of one_record one_from cut split
piece_none = refl

-- a whole record has a line, no more lines than bytes, and lies within its text
pub piece_room : (t : Bytes) (n k : ℕ) → piece_of t ≡ Piece.Whole n k → (1 ≤ k) × (k ≤ n) × (n ≤ length t)
unfolding piece_of
piece_room t n k h = go (one_record limit (cut t).lines) refl h
  where
    go : (o : One) → one_record limit (cut t).lines ≡ o → piece_by t o ≡ Piece.Whole n k → (1 ≤ k) × (k ≤ n) × (n ≤ length t)
    go (One.whole x j rest) e q =
        let jk : j ≡ k = cc in
        let size : after_lines t 0 j ≡ n = cc in
        let w = whole_size t x j rest e in
        (omega (arith, w.0), omega (arith, w.1), omega (arith, w.2))
    go (One.refused e k c) h q = absurd (let z : ◌≡◌ {A = ℕ} 0 1 = cc in omega arith)
    go (One.short k) h q = absurd (let z : ◌≡◌ {A = ℕ} 0 1 = cc in omega arith)
