-- A call against what is left of the input: it says what the counter is to write, or the rest of the input says it.
use Rattle.std.specs.Prelude.{ℕ, ◌+◌, ◌-◌, ◌≤◌, ◌<◌, ◌^◌, ◌≡◌, refl, List, [], ◌∷◌, ◌++◌, Bool, true, false, ltb, length, take, drop}
use Rattle.std.proofs.Common.{arith, sym, ap, ap₂, ◌∙◌, subst, append-nil, length-drop, length-append, drop_of_length-le, take_all, drop-drop, ltb-true, ltb-false}
use Rattle.std.proofs.Math.Seq.{take-append-add, take-append_seam}
use Rattle.std.proofs.lemmas.List.{drop-append-le}
use Rattle.text.specs.Text.{Bytes}
use Rattle.text.specs.Cut.{cut}
use Rattle.rules.specs.Record.{Raw, limit}
use Rattle.judge_file.specs.Place.{sdfile}
use Rattle.judge_file.specs.One.{One, one_record}
use Rattle.judge_file.specs.WalkText.{after_lines}
use Rattle.reader_walk.specs.Outcome.{whole, refused, outcome_of}
use Rattle.reader_cursor.specs.declared.Cursor.{Cursor}
use Rattle.reader_cursor.specs.Walk.{Walk, fresh, past, file_walk}
use Rattle.reader_cursor.specs.After.{Not, outcome_one, outcome_not, After, after_start, after_over, after_size, stop_by, after_stop, after_all, refused_size, short_size}
use Rattle.reader_feed.specs.declared.Counter.{Counter}
use Rattle.reader_feed.specs.declared.Fed.{Fed}
use Rattle.reader_feed.specs.Fed.{Piece, piece_of, plus_of, counted, wait_of, short_of, end_of, fed_by, fed_of}
use Rattle.reader_feed.specs.Pieces.{plus_sum, piece_none}
use Rattle.reader_feed.specs.Feeding.{wait_used, wait_room, wait_none, short_ended, short_waits, end_ended, end_waits}
use Rattle.reader_feed.specs.Stays.{one_piece, whole_stays, refused_stays}
use Rattle.reader_feed.specs.Says.{Told, accepted, too_long, says_from, says_end, says_whole, says_refused, says_short, says_long}
use Rattle.reader_feed.specs.Calls.{fed_as, Handed}

-- the counts do not stop short
pub record Small (c : Counter) (t : Bytes) : Type 0 where
  pub records : c.records + length t + 1 < 2 ^ 64
  pub lines : c.lines + length t + 1 < 2 ^ 64

plus_small : (a b : ℕ) → a + b < 2 ^ 64 → plus_of a b ≡ a + b
plus_small a b h = sym (plus_sum a b (omega (arith, h)))

abbrev pub says : ℕ → Counter → Bytes → Told
says room c t = says_from room c.records c.lines 0 t

-- after n records and i lines, a call says it, or the rest of the input says it
pub data Goes (room n i used : ℕ) (v : Bytes) (r : Fed) : Type 0 where
  tells : (told : Told) → r ≡ fed_as told → told ≡ says_from room n i 0 v → Goes room n i used v r
  waits : (c : Counter) (d : ℕ) → r ≡ Fed.More c (used + d) → Small c (drop d v) → says_from room n i 0 v ≡ says room c (drop d v) → Goes room n i used v r

module _ (room : ℕ) (c : Counter) (part rest : Bytes) (ended : Bool) (at_end_lem : ended ≡ true → rest ≡ []) (full : ended ≡ false → length part ≡ room → 0 < length rest)
    (fits : length part ≤ room) (small : Small c (part ++ rest)) where
  sum : length (part ++ rest) ≡ length part + length rest
  sum = length-append part rest

  -- at a cursor of the part
  abbrev GoesAt : Cursor → Fed → Type 0
  GoesAt d r = Goes room (c.records + d.records) (c.lines + d.lines) d.at (drop d.at part ++ rest) r

  module _ (xs : List Raw) (d : Cursor) (g : After part xs d) where
    abbrev u : Bytes
    u = drop d.at part

    size : (d.at + length u ≡ length part) × (length (u ++ rest) ≡ length u + length rest)
    size = (omega (arith, length-drop d.at part, g.inside), length-append u rest)

    records_are : (counted c d).records ≡ c.records + d.records
    unfolding counted
    records_are = plus_small c.records d.records (omega (arith, small.records, sum, g.records, g.lines, g.inside))

    lines_are : (counted c d).lines ≡ c.lines + d.lines
    unfolding counted
    lines_are = plus_small c.lines d.lines (omega (arith, small.lines, sum, g.lines, g.inside))

    still : Small (counted c d) (u ++ rest)
    still =
        record {
          records = omega (arith, records_are, size.0, size.1, sum, small.records, g.records, g.lines);
          lines = omega (arith, lines_are, size.0, size.1, sum, small.lines, g.lines);
        }

    -- the front of what is left, as far as the room goes
    front : take room (u ++ rest) ≡ u ++ take (room - length u) rest
    front =
        let e : room ≡ length u + (room - length u) = omega (arith, size.0, fits) in
        ap (λ (k : ℕ). take k (u ++ rest)) e ∙ take-append-add u rest (room - length u)

    -- the record at the front is cut short, and more is to follow
    waiting : (k : ℕ) → ended ≡ false → piece_of u ≡ Piece.Short k → GoesAt d (wait_of (counted c d) d.at (length part) room)
    waiting k off p = go (ltb 0 d.at) refl (ltb (length part) room) refl
      where
        keep : wait_of (counted c d) d.at (length part) room ≡ Fed.More (counted c d) d.at → GoesAt d (wait_of (counted c d) d.at (length part) room)
        keep h =
            let e : d.at ≡ d.at + 0 = omega arith in
            Goes.waits (counted c d) 0 (h ∙ ap (Fed.More (counted c d)) e) still
            (ap₂ (λ (i j : ℕ). says_from room i j 0 (u ++ rest)) (sym records_are) (sym lines_are))

        go : (a : Bool) → ltb 0 d.at ≡ a → (b : Bool) → ltb (length part) room ≡ b → GoesAt d (wait_of (counted c d) d.at (length part) room)
        go true ea b eb = keep (sym (wait_used (counted c d) d.at (length part) room (ltb-true 0 d.at ea)))
        go false ea true eb = keep (sym (wait_room (counted c d) d.at (length part) room (ltb-false 0 d.at ea) (ltb-true (length part) room eb)))
        go false ea false eb =
            let z = ltb-false 0 d.at ea in
            let w = ltb-false (length part) room eb in
            let all : length part ≡ room = omega (arith, w, fits) in
            let some = full off all in
            let own : room ≡ length u = omega (arith, all, size.0, z) in
            let here : take room (u ++ rest) ≡ u = ap (λ (j : ℕ). take j (u ++ rest)) own ∙ take-append_seam u rest in
            let one : plus_of (counted c d).records 1 ≡ c.records + d.records + 1 =
            plus_small (counted c d).records 1 (omega (arith, still.records, size.1, some)) ∙ omega (arith, records_are) in
            Goes.tells (too_long (c.records + d.records + 1))
            (sym (wait_none (counted c d) d.at (length part) room (c.records + d.records + 1) z w (sym one)))
            (sym
            (says_long room (c.records + d.records) (c.lines + d.lines) (u ++ rest) (omega (arith, size.1, some)) k (omega (arith, size.1, some, own))
            (ap piece_of here ∙ p)))

    goes_end : length part ≤ d.at → GoesAt d (end_of ended room (length part) (counted c d) d.at)
    goes_end h = go ended refl
      where
        none : drop d.at part ≡ []
        none = drop_of_length-le part h

        go : (b : Bool) → ended ≡ b → GoesAt d (end_of ended room (length part) (counted c d) d.at)
        go true e =
            Goes.tells (accepted (counted c d).records) (sym (end_ended ended (counted c d) d.at (length part) room e))
            (ap accepted records_are
            ∙ sym
            (ap (says_from room (c.records + d.records) (c.lines + d.lines) 0) (ap (λ (x : Bytes). x ++ rest) none ∙ at_end_lem e)
            ∙ says_end room (c.records + d.records) (c.lines + d.lines)))
        go false e =
            subst (GoesAt d) (end_waits ended (counted c d) d.at (length part) room (wait_of (counted c d) d.at (length part) room) e refl)
            (waiting 1 e (ap piece_of none ∙ piece_none))

    module _ (some : d.at < length part) where
      left : 0 < length u
      left = omega (arith, length-drop d.at part)

      goes_refused : (e k column : ℕ) → one_record limit (cut u).lines ≡ One.refused e k column → GoesAt d (Fed.Refused e (plus_of c.lines (d.lines + k)) column)
      goes_refused e k column o =
          let line : plus_of c.lines (d.lines + k) ≡ c.lines + d.lines + k =
          plus_small c.lines (d.lines + k) (omega (arith, small.lines, sum, (refused_size u e k column o).1, size.0, g.lines)) ∙ omega arith in
          Goes.tells (Told.refused e (c.lines + d.lines + k) column) (ap (λ (j : ℕ). Fed.Refused e j column) line)
          (sym
          (says_refused room (c.records + d.records) (c.lines + d.lines) (u ++ rest) (omega (arith, size.1, left)) e k column
          (ap piece_of front ∙ refused_stays u (take (room - length u) rest) e k column (one_piece u (One.refused e k column) o))))

      goes_short : (k : ℕ) → one_record limit (cut u).lines ≡ One.short k → GoesAt d (short_of ended room (length part) c d (d.lines + k))
      goes_short k o = go ended refl
        where
          p : piece_of u ≡ Piece.Short k
          p = one_piece u (One.short k) o

          go : (b : Bool) → ended ≡ b → GoesAt d (short_of ended room (length part) c d (d.lines + k))
          go true e =
              let none = at_end_lem e in
              let same : u ++ rest ≡ u = ap (λ (x : Bytes). u ++ x) none ∙ append-nil u in
              let few : length (u ++ rest) ≤ room = omega (arith, ap length same, size.0, fits) in
              let line : plus_of c.lines (d.lines + k) ≡ c.lines + d.lines + k =
              plus_small c.lines (d.lines + k) (omega (arith, small.lines, sum, (short_size u k o).1, size.0, g.lines)) ∙ omega arith in
              Goes.tells (Told.refused 19 (c.lines + d.lines + k) 1)
              (sym (short_ended ended c d (length part) room (d.lines + k) (c.lines + d.lines + k) e (sym line)))
              (sym
              (says_short room (c.records + d.records) (c.lines + d.lines) (u ++ rest) (omega (arith, size.1, left)) k few
              (ap piece_of (take_all room (u ++ rest) few ∙ same) ∙ p)))
          go false e =
              subst (GoesAt d) (short_waits ended c d (length part) room (d.lines + k) (counted c d) (wait_of (counted c d) d.at (length part) room) e refl refl)
              (waiting k e p)

  -- what the whole part is answered with
  abbrev answer : Fed
  answer = fed_by ended room (length part) c (file_walk part)

  ends : (xs : List Raw) (d : Cursor) → After part xs d → length part ≤ d.at → GoesAt d answer
  ends xs d g h = subst (λ (w : Walk). GoesAt d (fed_by ended room (length part) c w)) (sym (after_over part xs d g h)) (goes_end xs d g h)

  stops : (xs : List Raw) (d : Cursor) → After part xs d → d.at < length part → (e k column : ℕ) → outcome_of sdfile (drop d.at part) ≡ refused e k column → GoesAt d answer
  stops xs d g some e k column h = go (outcome_not (drop d.at part) e k column h)
    where
      by : {e k column : ℕ} (n : Not (drop d.at part) e k column) → GoesAt d (fed_by ended room (length part) c (stop_by xs d n)) → GoesAt d answer
      by n v = subst (λ (w : Walk). GoesAt d (fed_by ended room (length part) c w)) (sym (after_stop part xs d g some n)) v

      go : {e k column : ℕ} → Not (drop d.at part) e k column → GoesAt d answer
      go {e} {k} {column} (Not.dead o) = by (Not.dead o) (goes_refused xs d g some e k column o)
      go {e} {k} (Not.cut_short o) = by (Not.cut_short o) (goes_short xs d g some k o)

  -- a whole record, and what is left after it
  module _ (xs : List Raw) (d : Cursor) (g : After part xs d) (some : d.at < length part) (x : Raw) (k : ℕ) (h : outcome_of sdfile (drop d.at part) ≡ whole x k) where
    abbrev n : ℕ
    n = after_lines (drop d.at part) 0 k

    abbrev v : Bytes
    v = drop d.at part ++ rest

    w : (1 ≤ k) × (k ≤ n) × (d.at + n ≤ length part)
    w = after_size part xs d g some x k h

    left_of : drop (d.at + n) part ++ rest ≡ drop n v
    left_of =
        ap (λ (y : Bytes). y ++ rest) (sym (drop-drop n d.at part))
        ∙ sym (drop-append-le n (drop d.at part) rest (omega (arith, w.2, length-drop d.at part)))

    piece : piece_of (take room v) ≡ Piece.Whole n k
    piece =
        let o = outcome_one (drop d.at part) x k h in
        ap piece_of (front xs d g)
        ∙ whole_stays (drop d.at part) (take (room - length (drop d.at part)) rest) n k (one_piece (drop d.at part) (One.whole x k o.0) o.1)

    next : says_from room (c.records + d.records) (c.lines + d.lines) 0 v
        ≡ says_from room (c.records + (d.records + 1)) (c.lines + (d.lines + k)) 0 (drop (d.at + n) part ++ rest)
    next =
        let a : c.records + d.records + 1 ≡ c.records + (d.records + 1) = omega arith in
        let b : c.lines + d.lines + k ≡ c.lines + (d.lines + k) = omega arith in
        says_whole room (c.records + d.records) (c.lines + d.lines) v (omega (arith, length-append (drop d.at part) rest, length-drop d.at part)) n k piece
        ∙ ap₂ (λ (i j : ℕ). says_from room i j 0 (drop n v)) a b
        ∙ ap (says_from room (c.records + (d.records + 1)) (c.lines + (d.lines + k)) 0) (sym left_of)

    onward : GoesAt (past d n k) answer → GoesAt d answer
    onward (Goes.tells told e q) = Goes.tells told e (q ∙ sym next)
    onward (Goes.waits b i e s q) =
        let at : d.at + n + i ≡ d.at + (n + i) = omega arith in
        let on : drop i (drop (d.at + n) part ++ rest) ≡ drop (n + i) v = ap (drop i) left_of ∙ drop-drop i n v in
        Goes.waits b (n + i) (e ∙ ap (Fed.More b) at) (subst (Small b) on s) (next ∙ q ∙ ap (says room b) on)

  goes : Goes room c.records c.lines 0 (part ++ rest) answer
  goes =
      let a : c.records + 0 ≡ c.records = omega arith in
      let b : c.lines + 0 ≡ c.lines = omega arith in
      subst (λ (n : ℕ). Goes room n c.lines 0 (part ++ rest) answer) a
      (subst (λ (i : ℕ). Goes room (c.records + 0) i 0 (part ++ rest) answer) b
      (after_all part (λ (xs : List Raw) (d : Cursor). GoesAt d answer) ends stops onward [] fresh (after_start part)))

pub call_goes : (room : ℕ) (c : Counter) (t part : Bytes) (ended : Bool) → Handed room t part ended → Small c t → Goes room c.records c.lines 0 t (fed_of c part ended room)
unfolding fed_of
call_goes room c t part ended h small =
    subst (λ (v : Bytes). Goes room c.records c.lines 0 v (fed_by ended room (length part) c (file_walk part))) (sym h.whole)
    (goes room c part h.rest ended h.at_end_lem h.full h.fits (subst (Small c) h.whole small))
