-- Every text has one list of stretches; they make up the text; and the first refusal among them is the one that judging alone gives.
use Rattle.std.specs.Prelude.{ℕ, zero, suc, ◌-◌, List, [], ◌∷◌, cond, ltb, length, take, drop}
use Rattle.text.specs.Text.{Bytes}
use Rattle.reader_feed.specs.Fed.{Piece, piece_of}
use Rattle.resume_rules.specs.Resume.{Part, good, bad, long}
use Rattle.resume_rules.specs.Passed.{passed}

-- ---- The stretches, computed

-- behind a refused record whose line k is refused
abbrev pub after : ℕ → Bytes → ℕ
after k t = passed (k - 1) 0 t

abbrev pub open_part : ℕ → ℕ → Bytes → Part
open_part room k t = cond (ltb room (length t)) (long (take (after k t) t)) (bad (take (after k t) t) 19 k 1)

-- by the record at the front of the text
abbrev pub part_of : ℕ → Bytes → Piece → Part
part_of room t (Piece.Whole n k) = good (take n t)
part_of room t (Piece.Refused e k column) = bad (take (after k t) t) e k column
part_of room t (Piece.Short k) = open_part room k t

abbrev pub size_of : Bytes → Piece → ℕ
size_of t (Piece.Whole n k) = n
size_of t (Piece.Refused e k column) = after k t
size_of t (Piece.Short k) = after k t

-- with fuel for so many stretches
unfoldable pub dealt_of : ℕ → ℕ → Bytes → List Part
dealt_of room zero t = []
dealt_of room (suc m) [] = []
dealt_of room (suc m) (b ∷ t) =
    part_of room (b ∷ t) (piece_of (take room (b ∷ t))) ∷ dealt_of room m (drop (size_of (b ∷ t) (piece_of (take room (b ∷ t)))) (b ∷ t))
