-- What the counter is to write for a whole input, without parts and buffers; and that it is what the check of the input says, unless a record is too long.
use Prim.Native.Nat.{ℕ, zero, suc, ◌+◌, ◌-◌, ◌≤◌, ◌<◌}
use Rattle.std.proofs.Common.{arith, ◌∙◌, subst, length-drop, drop_of_length-le, take-append-drop, take_all, drop-drop, lt-ltb, le-ltb, ltb-true, ltb-false}
use Rattle.std.proofs.Math.Path.{◌≡◌, refl, sym, ap}
use mathlib.Core.List.{List, [], ◌∷◌, ◌++◌}
use Rattle.std.specs.Prelude.{Bool, true, false, ltb, take, drop}
use Rattle.std.proofs.Math.Bool.{cond}
use Rattle.std.proofs.Math.ListN.{length}
use Rattle.text.specs.Text.{Bytes}
use Rattle.rules.specs.Record.{Raw}
use Rattle.judge_file.specs.Place.{sdfile}
use Rattle.judge_file.specs.Verdict.{Verdict}
use Rattle.judge_file.specs.WalkText.{after_lines}
use Rattle.reader_walk.specs.Outcome.{Outcome, of_one, outcome_of}
use Rattle.reader_walk.specs.Promise.{said_by}
use Rattle.reader_walk.specs.Checking.{said_of}
use Rattle.reader_cursor.specs.declared.Cursor.{Cursor}
use Rattle.reader_cursor.specs.Walk.{fresh, past}
use Rattle.reader_cursor.specs.After.{After, after_start, after_good, after_verdict, after_all}
use Rattle.reader_feed.specs.Fed.{Piece, piece_of}
use Rattle.reader_feed.specs.Pieces.{piece_room}
use Rattle.reader_feed.specs.Stays.{whole_one, refused_one, short_one, whole_stays, refused_stays}

pub data Told : Type 0 where
  accepted : ℕ → Told  -- so many records
  refused : ℕ → ℕ → ℕ → Told  -- number, line, column
  too_long : ℕ → Told  -- that record does not end within the room

-- A record is looked for in the first `room` bytes from its start. Where they hold neither its end nor a refused line, it is too long if more follows, and else cut short.
-- So many records and lines stand before; `skip` bytes are passed by before the next record begins.
unfoldable pub says_from : ℕ → ℕ → ℕ → ℕ → Bytes → Told
says_from room c i skip [] = accepted c
says_from room c i (suc skip) (b ∷ t) = says_from room c i skip t
says_from room c i zero (b ∷ t) = elim (piece_of (take room (b ∷ t))) [
  | Piece.Whole n k ↦ says_from room (c + 1) (i + k) (n - 1) t
  | Piece.Refused e k column ↦ refused e (i + k) column
  | Piece.Short k ↦ cond (ltb room (length (b ∷ t))) (too_long (c + 1)) (refused 19 (i + k) 1)
]

unfoldable pub counter_says : ℕ → Bytes → Told
counter_says room t = says_from room 0 0 0 t

-- ---- Its steps

module _ (room c i : ℕ) where
  says_skip : (skip : ℕ) (t : Bytes) → says_from room c i skip t ≡ says_from room c i 0 (drop skip t)
  unfolding says_from
  says_skip zero t = refl
  says_skip (suc skip) [] = refl
  says_skip (suc skip) (b ∷ t) = says_skip skip t

  pub says_end : says_from room c i 0 [] ≡ accepted c
  unfolding says_from
  says_end = refl

module _ (room c i : ℕ) (t : Bytes) (some : 0 < length t) where
  pub says_whole : (n k : ℕ) → piece_of (take room t) ≡ Piece.Whole n k → says_from room c i 0 t ≡ says_from room (c + 1) (i + k) 0 (drop n t)
  unfolding says_from
  says_whole n k h = go t refl (piece_room (take room t) n k h)
    where
      go : (u : Bytes) → u ≡ t → (1 ≤ k) × (k ≤ n) × (n ≤ length (take room t)) → says_from room c i 0 u ≡ says_from room (c + 1) (i + k) 0 (drop n u)
      go [] e r = absurd (omega (arith, ap length e))
      go (b ∷ u) e r =
          let p : piece_of (take room (b ∷ u)) ≡ Piece.Whole n k = ap (λ (x : Bytes). piece_of (take room x)) e ∙ h in
          let m : n ≡ suc (n - 1) = omega (arith, r.0, r.1) in
          let one : says_from room c i 0 (b ∷ u) ≡ says_from room (c + 1) (i + k) (n - 1) u = rw (p, says_from) in
          one ∙ says_skip room (c + 1) (i + k) (n - 1) u ∙ ap (λ (j : ℕ). says_from room (c + 1) (i + k) 0 (drop j (b ∷ u))) (sym m)

  pub says_refused : (e k column : ℕ) → piece_of (take room t) ≡ Piece.Refused e k column → says_from room c i 0 t ≡ refused e (i + k) column
  unfolding says_from
  says_refused e k column h = go t refl
    where
      go : (u : Bytes) → u ≡ t → says_from room c i 0 u ≡ refused e (i + k) column
      go [] q = absurd (omega (arith, ap length q))
      go (b ∷ u) q = let p : piece_of (take room (b ∷ u)) ≡ Piece.Refused e k column = ap (λ (x : Bytes). piece_of (take room x)) q ∙ h in rw (p, says_from)

  says_open : (k : ℕ) → piece_of (take room t) ≡ Piece.Short k → says_from room c i 0 t ≡ cond (ltb room (length t)) (too_long (c + 1)) (refused 19 (i + k) 1)
  unfolding says_from
  says_open k h = go t refl
    where
      go : (u : Bytes) → u ≡ t → says_from room c i 0 u ≡ cond (ltb room (length u)) (too_long (c + 1)) (refused 19 (i + k) 1)
      go [] q = absurd (omega (arith, ap length q))
      go (b ∷ u) q = let p : piece_of (take room (b ∷ u)) ≡ Piece.Short k = ap (λ (x : Bytes). piece_of (take room x)) q ∙ h in rw (p, says_from)

  pub says_short : (k : ℕ) → length t ≤ room → piece_of (take room t) ≡ Piece.Short k → says_from room c i 0 t ≡ refused 19 (i + k) 1
  says_short k few h = says_open k h ∙ rw (le-ltb room (length t) few)

  pub says_long : (k : ℕ) → room < length t → piece_of (take room t) ≡ Piece.Short k → says_from room c i 0 t ≡ too_long (c + 1)
  says_long k many h = says_open k h ∙ rw (lt-ltb room (length t) many)

-- ---- The check of the whole input

-- what is written is what the check says; a record that is too long is another matter
abbrev pub AsChecked : Told → Verdict ℕ → Type 0
AsChecked (accepted n) s = s ≡ Verdict.accepted n
AsChecked (refused e i column) s = s ≡ Verdict.refused e i column
AsChecked (too_long k) s = Unit {0}

-- what is found in the first bytes is found in the text
module _ (room : ℕ) (t : Bytes) where
  pub whole_there : (n k : ℕ) → piece_of (take room t) ≡ Piece.Whole n k → piece_of t ≡ Piece.Whole n k
  whole_there n k h = ap piece_of (sym (take-append-drop room t)) ∙ whole_stays (take room t) (drop room t) n k h

  refused_there : (e k column : ℕ) → piece_of (take room t) ≡ Piece.Refused e k column → piece_of t ≡ Piece.Refused e k column
  refused_there e k column h = ap piece_of (sym (take-append-drop room t)) ∙ refused_stays (take room t) (drop room t) e k column h

-- from every cursor of the walk over the input, what is written is what the check says of it
module _ (room : ℕ) (s : Bytes) where
  abbrev Checks : List Raw → Cursor → Type 0
  Checks xs d = AsChecked (says_from room d.records d.lines 0 (drop d.at s)) (said_of sdfile s)

  as_told : {a b : Told} → a ≡ b → AsChecked b (said_of sdfile s) → AsChecked a (said_of sdfile s)
  as_told e h = subst (λ (x : Told). AsChecked x (said_of sdfile s)) (sym e) h

  ends : (xs : List Raw) (d : Cursor) → After s xs d → length s ≤ d.at → Checks xs d
  ends xs d g h =
      as_told (ap (says_from room d.records d.lines 0) (drop_of_length-le s h) ∙ says_end room d.records d.lines)
      (ap said_by (after_good s xs d g h) ∙ ap Verdict.accepted (sym g.count))

  module _ (xs : List Raw) (d : Cursor) (g : After s xs d) (more : d.at < length s) where
    abbrev u : Bytes
    u = drop d.at s

    left : 0 < length u
    left = omega (arith, length-drop d.at s)

    -- no end of the record within the room: too long, or as in all of the bytes
    open_yet : (k : ℕ) → piece_of (take room u) ≡ Piece.Short k → (length u ≤ room → piece_of u ≡ Piece.Short k → Checks xs d) → Checks xs d
    open_yet k p r = go (ltb room (length u)) refl
      where
        go : (many : Bool) → ltb room (length u) ≡ many → Checks xs d
        go true e = as_told (says_long room d.records d.lines u left k (ltb-true room (length u) e) p) tt
        go false e = let few = ltb-false room (length u) e in r few (ap piece_of (sym (take_all room u few)) ∙ p)

    stops : (e k column : ℕ) → outcome_of sdfile (drop d.at s) ≡ Outcome.refused e k column → Checks xs d
    unfolding outcome_of
    stops e k column h = go (piece_of (take room u)) refl
      where
        said : said_of sdfile s ≡ Verdict.refused e (d.lines + k) column
        said = ap said_by (after_verdict s xs d g more e k column h)

        same : {n j c : ℕ} → Outcome.refused e k column ≡ Outcome.refused n j c → said_of sdfile s ≡ Verdict.refused n (d.lines + j) c
        same {n} {j} {c} q =
            let r : ◌≡◌ {A = Verdict ℕ} (Verdict.refused e (d.lines + k) column) (Verdict.refused n (d.lines + j) c) = cc in
            said ∙ r

        go : (q : Piece) → piece_of (take room u) ≡ q → Checks xs d
        go (Piece.Whole n j) p =
            let o = whole_one u n j (whole_there room u n j p) in
            let q : Outcome.whole o.0 j ≡ Outcome.refused e k column = sym (ap of_one o.2) ∙ h in
            absurd (let z : ◌≡◌ {A = ℕ} 0 1 = cc in omega arith)
        go (Piece.Refused n j c) p =
            as_told (says_refused room d.records d.lines u left n j c p) (same (sym h ∙ ap of_one (refused_one u n j c (refused_there room u n j c p))))
        go (Piece.Short j) p =
            open_yet j p λ few w. as_told (says_short room d.records d.lines u left j few p) (same (sym h ∙ ap of_one (short_one u j w)))

    goes : (x : Raw) (k : ℕ) → outcome_of sdfile (drop d.at s) ≡ Outcome.whole x k → Checks (xs ++ (x ∷ [])) (past d (after_lines (drop d.at s) 0 k) k) → Checks xs d
    unfolding outcome_of
    goes x k h v = go (piece_of (take room u)) refl
      where
        go : (q : Piece) → piece_of (take room u) ≡ q → Checks xs d
        go (Piece.Whole n j) p =
            let o = whole_one u n j (whole_there room u n j p) in
            let q : Outcome.whole o.0 j ≡ Outcome.whole x k = sym (ap of_one o.2) ∙ h in
            let jk : j ≡ k = cc in
            let next : says_from room d.records d.lines 0 u ≡ says_from room (d.records + 1) (d.lines + k) 0 (drop (d.at + after_lines u 0 k) s) =
            says_whole room d.records d.lines u left n j p
            ∙ ap (λ (i : ℕ). says_from room (d.records + 1) (d.lines + i) 0 (drop n u)) jk
            ∙ ap (λ (i : ℕ). says_from room (d.records + 1) (d.lines + k) 0 (drop i u)) (o.3 ∙ ap (after_lines u 0) jk)
            ∙ ap (says_from room (d.records + 1) (d.lines + k) 0) (drop-drop (after_lines u 0 k) d.at s)
            in
            as_told next v
        go (Piece.Refused n j c) p =
            let q : Outcome.refused n j c ≡ Outcome.whole x k = sym (ap of_one (refused_one u n j c (refused_there room u n j c p))) ∙ h in
            absurd (let z : ◌≡◌ {A = ℕ} 0 1 = cc in omega arith)
        go (Piece.Short j) p =
            open_yet j p λ few w.
            let q : Outcome.refused 19 j 1 ≡ Outcome.whole x k = sym (ap of_one (short_one u j w)) ∙ h in
            absurd (let z : ◌≡◌ {A = ℕ} 0 1 = cc in omega arith)

-- the same count, or the same number, line and column, unless a record is too long
pub as_checked : (room : ℕ) (t : Bytes) → AsChecked (counter_says room t) (said_of sdfile t)
unfolding counter_says
as_checked room t = after_all t (Checks room t) (ends room t) (stops room t) (goes room t) [] fresh (after_start t)
