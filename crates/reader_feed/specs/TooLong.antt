-- A record that is too long, in the words of the rules, and that the counter is to say so exactly there.
use Rattle.std.specs.Prelude.{ℕ, zero, suc, ◌+◌, ◌-◌, ◌≤◌, ◌<◌, ◌≡◌, refl, ◌↔◌, List, [], ◌∷◌, ◌++◌, Bool, true, false, ltb, length, take, drop}
use Rattle.std.proofs.Common.{arith, sym, ap, ◌∙◌, subst, append_assoc, append-nil, length-take, length-drop, length-append, take-append-drop, length-take-le, ltb-true, ltb-false}
use Rattle.std.proofs.Math.Seq.{take-append-add, take-append_seam, drop-append_seam, drop-length}
use Rattle.text.specs.Text.{Bytes, Line, LF, Each, Ended, Lines}
use Rattle.text.specs.Cut.{Cut, cut, cut_is, lines_cut, lines_same}
use Rattle.rules.specs.Record.{Raw, Record, SDfile, GoodSDfile, limit}
use Rattle.rules.specs.Viable.{Viable, ARecord, first_dead}
use Rattle.rules.specs.PartLaws.{file_record}
use Rattle.judge_file.specs.One.{One, one_record}
use Rattle.judge_file.proofs.OneAgree.{one_whole, one_refused, one_short}
use Rattle.judge_file.specs.Front.{record_front}
use Rattle.judge_file.specs.WalkText.{after_lines, after_within, after_cut}
use Rattle.reader_feed.specs.Fed.{Piece, piece_of}
use Rattle.reader_feed.specs.Pieces.{piece_room}
use Rattle.reader_feed.specs.Stays.{whole_one, refused_one, short_one, one_piece, whole_stays}
use Rattle.reader_feed.specs.Says.{accepted, refused, too_long, says_from, counter_says, says_end, says_whole, says_refused, says_short, says_long, whole_there}

-- these bytes hold neither the end of a record nor a refused line
abbrev pub Open : Bytes → Type 0
Open s = (ls : List Line) × (rest : Bytes) × Lines s ls rest × Viable (ARecord limit) ls × ¬ ((x : Raw) × (more : List Line) × Record limit ls x more)

-- `TooLong room t k`: record k of the input is open at the end of the room, and more input follows; those before it end within the room
pub data TooLong (room : ℕ) : Bytes → ℕ → Type 0 where
  here : {t : Bytes} → room < length t → Open (take room t) → TooLong room t 1
  after : {t own rest : Bytes} {x : Raw} {k : ℕ} → t ≡ own ++ rest → GoodSDfile own (x ∷ []) → length own ≤ room → TooLong room rest k → TooLong room t (suc k)

-- ---- Bytes that are one record

-- the bytes of some lines, apart
lines_apart : {s : Bytes} {ls : List Line} {rest : Bytes} → Lines s ls rest → (front back : List Line) → ls ≡ front ++ back →
    (own : Bytes) × (after : Bytes) × (s ≡ own ++ after) × Lines own front []
unfolding Each
lines_apart {s = s} p [] back e = ([], s, refl, Lines.unfinished tt)
lines_apart (Lines.unfinished f) (a ∷ front) back e = absurd (let z : ◌≡◌ {A = ℕ} 0 1 = cc in omega arith)
lines_apart (Lines.line {bs = bs} {l = l} {ls = ls} q f h p) (a ∷ front) back e =
    let la : l ≡ a = cc in
    let tail : ls ≡ front ++ back = cc in
    let r = lines_apart p front back tail in (
      bs ++ (LF ∷ r.0),
      r.1,
      q ∙ ap (λ (x : Bytes). bs ++ (LF ∷ x)) r.2 ∙ sym (append_assoc bs (LF ∷ r.0) r.1),
      Lines.line refl f (subst (Ended bs) la h) r.3,
    )

none_left : {u : Bytes} → Lines u [] [] → u ≡ []
none_left (Lines.unfinished f) = refl

-- complete lines end where their text does
lines_all : {s : Bytes} {ls : List Line} → Lines s ls [] → after_lines s 0 (length ls) ≡ length s
lines_all {s = s} {ls = ls} p =
    let c = lines_cut p in
    let is : (cut s).lines ≡ ls = ap (λ (x : Cut). x.lines) c in
    let some : length ls ≤ length (cut s).lines = omega (arith, ap length is) in
    let w = after_within s 0 (length ls) (omega arith) some in
    let u = drop (after_lines s 0 (length ls)) s in
    let a = after_cut s 0 (length ls) some in
    let lines : (cut u).lines ≡ [] = ap (λ (x : Cut). x.lines) a ∙ ap (drop (length ls)) is ∙ drop-length ls in
    let rest : (cut u).rest ≡ [] = ap (λ (x : Cut). x.rest) a ∙ ap (λ (x : Cut). x.rest) c in
    let none = none_left (subst (λ (r : Bytes). Lines u [] r) rest (subst (λ (x : List Line). Lines u x (cut u).rest) lines (cut_is u))) in
    omega (arith, ap length none, length-drop (after_lines s 0 (length ls)) s, w.1)

-- by the judge
pub record_piece : {s : Bytes} {ls : List Line} {x : Raw} → Lines s ls [] → Record limit ls x [] → piece_of s ≡ Piece.Whole (length s) (length ls)
record_piece {s = s} {ls = ls} {x = x} p r =
    let is : (cut s).lines ≡ ls = ap (λ (c : Cut). c.lines) (lines_cut p) in
    let one : one_record limit (cut s).lines ≡ One.whole x (length ls) [] = ap (one_record limit) is ∙ (one_whole limit ls x (length ls) []).1 (r, omega arith) in
    one_piece s (One.whole x (length ls) []) one ∙ ap (λ (n : ℕ). Piece.Whole n (length ls)) (lines_all p)

good_piece : (s : Bytes) (x : Raw) → GoodSDfile s (x ∷ []) → (k : ℕ) × (piece_of s ≡ Piece.Whole (length s) k)
good_piece s x g = (length g.0, record_piece g.1 (file_record g.2))

-- a whole record, with its own bytes and the rest
pub piece_good : (t : Bytes) (n k : ℕ) → piece_of t ≡ Piece.Whole n k → (x : Raw) × GoodSDfile (take n t) (x ∷ [])
piece_good t n k h =
    let w = whole_one t n k h in
    let f = record_front ((one_whole limit (cut t).lines w.0 k w.1).0 w.2).0 in
    let own : Record limit f.before w.0 [] = subst (λ (ls : List Line). Record limit ls w.0 []) (append-nil f.before) (f.any []) in
    let a = lines_apart (cut_is t) f.before w.1 f.parts in
    let there : piece_of t ≡ Piece.Whole (length a.0) (length f.before) = ap piece_of a.2 ∙ whole_stays a.0 a.1 (length a.0) (length f.before) (record_piece a.3 own) in
    let both : Piece.Whole n k ≡ Piece.Whole (length a.0) (length f.before) = sym h ∙ there in
    let size : n ≡ length a.0 = cc in
    let front : take n t ≡ a.0 = ap (take n) a.2 ∙ ap (λ (j : ℕ). take j (a.0 ++ a.1)) size ∙ take-append_seam a.0 a.1 in
    (w.0, subst (λ (s : Bytes). GoodSDfile s (w.0 ∷ [])) (sym front) (f.before, a.3, SDfile.more own SDfile.none))

-- ---- Open bytes

pub short_open : (s : Bytes) (k : ℕ) → piece_of s ≡ Piece.Short k → Open s
short_open s k h =
    let o = one_short limit (omega arith) (cut s).lines k (short_one s k h) in
    ((cut s).lines, (cut s).rest, cut_is s, o.1, o.2)

pub open_short : (s : Bytes) → Open s → (k : ℕ) × (piece_of s ≡ Piece.Short k)
open_short s o = go (piece_of s) refl
  where
    same : o.0 ≡ (cut s).lines
    same = (lines_same o.2 (cut_is s)).0

    go : (q : Piece) → piece_of s ≡ q → (k : ℕ) × (piece_of s ≡ Piece.Short k)
    go (Piece.Whole n k) p =
        let w = whole_one s n k p in
        let r = ((one_whole limit (cut s).lines w.0 k w.1).0 w.2).0 in
        absurd (o.4 (w.0, w.1, subst (λ (ls : List Line). Record limit ls w.0 w.1) (sym same) r))
    go (Piece.Refused e k column) p =
        let f = (one_refused limit (omega arith) (cut s).lines e k column (refused_one s e k column p)).2 in
        let v = subst (Viable (ARecord limit)) same o.3 in
        absurd (first_dead (ARecord limit) (cut s).lines k f v.0 v.1)
    go (Piece.Short k) p = (k, p)

-- ---- The counter says so exactly there

front_within : (room n : ℕ) (t : Bytes) → n ≤ length (take room t) → (n ≤ room) × (n ≤ length t)
front_within room n t h = omega (arith, h, length-take room t)

long_says : {room : ℕ} {t : Bytes} {k : ℕ} → TooLong room t k → (c i : ℕ) → says_from room c i 0 t ≡ too_long (c + k)
long_says {room = room} {t = t} (TooLong.here many o) c i =
    let s = open_short (take room t) o in
    says_long room c i t (omega (arith, many)) s.0 many s.1
long_says {room = room} {t = t} (TooLong.after {own = own} {rest = rest} {x = x} {k = k} e g fits more) c i =
    let p = good_piece own x g in
    let w = piece_room own (length own) p.0 p.1 in
    let size : room ≡ length own + (room - length own) = omega (arith, fits) in
    let front : take room t ≡ own ++ take (room - length own) rest =
    ap (take room) e ∙ ap (λ (j : ℕ). take j (own ++ rest)) size ∙ take-append-add own rest (room - length own) in
    let some : 0 < length t = omega (arith, ap length e, length-append own rest, w.0, w.1) in
    let next : drop (length own) t ≡ rest = ap (drop (length own)) e ∙ drop-append_seam own rest in
    let count : c + 1 + k ≡ c + suc k = omega arith in
    says_whole room c i t some (length own) p.0 (ap piece_of front ∙ whole_stays own (take (room - length own) rest) (length own) p.0 p.1)
    ∙ ap (says_from room (c + 1) (i + p.0) 0) next
    ∙ long_says more (c + 1) (i + p.0)
    ∙ ap too_long count

abbrev Finds : ℕ → Bytes → Type 0
Finds room t = (c i j : ℕ) → says_from room c i 0 t ≡ too_long j → (k : ℕ) × (j ≡ c + k) × TooLong room t k

finds_end : (room : ℕ) → Finds room []
finds_end room c i j h =
    let e : accepted c ≡ too_long j = sym (says_end room c i) ∙ h in
    absurd (let z : ◌≡◌ {A = ℕ} 0 1 = cc in omega arith)

finds_next : (room m : ℕ) (t : Bytes) → 0 < length t → length t ≤ suc m → ((u : Bytes) → length u ≤ m → Finds room u) → Finds room t
finds_next room m t some few r c i j h = go (piece_of (take room t)) refl
  where
    short : (k : ℕ) → piece_of (take room t) ≡ Piece.Short k → (many : Bool) → ltb room (length t) ≡ many → (k : ℕ) × (j ≡ c + k) × TooLong room t k
    short k p true e =
        let many = ltb-true room (length t) e in
        let q : too_long (c + 1) ≡ too_long j = sym (says_long room c i t some k many p) ∙ h in
        let is : j ≡ c + 1 = cc in
        (1, is, TooLong.here many (short_open (take room t) k p))
    short k p false e =
        let q : refused 19 (i + k) 1 ≡ too_long j = sym (says_short room c i t some k (ltb-false room (length t) e) p) ∙ h in
        absurd (let z : ◌≡◌ {A = ℕ} 0 1 = cc in omega arith)

    go : (q : Piece) → piece_of (take room t) ≡ q → (k : ℕ) × (j ≡ c + k) × TooLong room t k
    go (Piece.Whole n k) p =
        let w = piece_room (take room t) n k p in
        let within : (n ≤ room) × (n ≤ length t) = front_within room n t w.2 in
        let f = r (drop n t) (omega (arith, few, w.0, w.1, length-drop n t)) (c + 1) (i + k) j (sym (says_whole room c i t some n k p) ∙ h) in
        let g = piece_good t n k (whole_there room t n k p) in
        let size : length (take n t) ≤ room = omega (arith, length-take-le n t within.1, within.0) in
        (suc f.0, omega (arith, f.1), TooLong.after (sym (take-append-drop n t)) g.1 size f.2)
    go (Piece.Refused e k column) p =
        let q : refused e (i + k) column ≡ too_long j = sym (says_refused room c i t some e k column p) ∙ h in
        absurd (let z : ◌≡◌ {A = ℕ} 0 1 = cc in omega arith)
    go (Piece.Short k) p = short k p (ltb room (length t)) refl

finds : (room m : ℕ) (t : Bytes) → length t ≤ m → Finds room t
finds room zero t h = none t h
  where
    none : (t : Bytes) → length t ≤ 0 → Finds room t
    none [] h = finds_end room
    none (b ∷ t) h = absurd (omega (arith, h))
finds room (suc m) t h = by (λ u f. finds room m u f) t h
  where
    by : ((u : Bytes) → length u ≤ m → Finds room u) → (t : Bytes) → length t ≤ suc m → Finds room t
    by r [] h = finds_end room
    by r (b ∷ t) h = finds_next room m (b ∷ t) (omega arith) h r

pub says_too_long : (room : ℕ) (t : Bytes) (k : ℕ) → (counter_says room t ≡ too_long k) ↔ TooLong room t k
unfolding counter_says
says_too_long room t k = (to, back)
  where
    to : says_from room 0 0 0 t ≡ too_long k → TooLong room t k
    to h =
        let f = finds room (length t) t (omega arith) 0 0 k h in
        let e : f.0 ≡ k = omega (arith, f.1) in
        subst (TooLong room t) e f.2

    back : TooLong room t k → says_from room 0 0 0 t ≡ too_long k
    back l =
        let e : 0 + k ≡ k = omega arith in
        long_says l 0 0 ∙ ap too_long e
