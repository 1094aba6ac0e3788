-- Laws of the loop over a part's lines: the text grows by no more than the lines passed.
use Rattle.std.specs.Prelude.{Result, Ok, Err}
use Prim.Native.Nat.{ℕ, ◌+◌, ◌-◌, ◌*◌, ◌≤◌, ◌<◌, ◌^◌}
use native.Mathlib.Omega.{arith}
use mathlib.Core.Path.{◌≡◌, refl, sym, ap, ap₂, ◌∙◌, subst}
use mathlib.Core.List.{[], ◌∷◌, ◌++◌}
use lib.ListN.{length, take, drop, length-append, length-take, length-drop, length-replicate}
use mir.Syntax.{w64}
use mir.Val.{Fits}
use Rattle.text.specs.Text.{Bytes, Line, LF, bytes}
use Rattle.text.specs.Columns.{Within, spaces}
use Rattle.text.specs.Find.{line_at}
use Rattle.text.specs.Cut.{line_within}
use Rattle.text.specs.declared.LineAt.{LineAt}
use Rattle.rules.specs.Forms.{DataHeader}
use Rattle.judge_line.specs.Got.{Got, got, bad, then}
use Rattle.judge_line.specs.GotLaws.{got_inj, bad_got, then_got}
use Rattle.judge_line.specs.Judge.{first_header_of, item_of, ItemOrEnd, title, close, value_of, ValueOrBlank, value, blank}
use Rattle.judge_line.specs.Agree.{within_got}
use Rattle.judge_line.proofs.Agree.{header_agrees, title_agrees}
use Rattle.writer_parts.specs.Lengths.{title_length}
use Rattle.writer_parts.specs.Step.{ended, Taken, taken, item_taken, value_taken, line_as, longest, turn_as, turned, Next, ends_at, judged, ends_as, written_from}
use Rattle.writer_parts.specs.Here.{from_here, here_start, here_next, here_stop, here_cut, here_end}
use Rattle.writer_parts.specs.declared.Place.{Place}
use Rattle.writer_parts.specs.declared.Turn.{Turn}
use Rattle.judge_file.specs.declared.TextRefusal.{TextRefusal}

-- ---- a line's canonical text is longer by two bytes at most: its LF, and a second space in a data header

title_shorter : (l : Line) (name : Bytes) → DataHeader l name → length name + 4 ≤ length l
title_shorter l name h =
    let a = spaces h.after in
    let s = spaces h.between in
    omega (
      arith,
      h.some,
      ap length h.parts,
      length-append (bytes ">") (s ++ (bytes "<" ++ (name ++ (bytes ">" ++ a)))),
      length-append s (bytes "<" ++ (name ++ (bytes ">" ++ a))),
      length-append (bytes "<") (name ++ (bytes ">" ++ a)),
      length-append name (bytes ">" ++ a),
      length-append (bytes ">") a,
      length-replicate {A = ℕ} h.between 32,
    )

abbrev Grown : Line → Taken → Type 0
Grown l t = length t.text ≤ length l + 2

-- the text that was found
grown_is : (l : Line) {t u : Taken} → ◌≡◌ {A = Got Taken} (got u) (got t) → Grown l u → Grown l t
grown_is l e h = subst (Grown l) (got_inj e) h

grown_line : (l m : Line) → m ≡ l → length (ended m) ≤ length l + 2
grown_line l m e = omega (arith, length-append m (LF ∷ []), ap length e)

line_grown : (p : Place) (l : Line) (t : Taken) → Within (longest p) l → line_as p l ≡ got t → Grown l t
unfolding line_as
line_grown Place.First l t w e =
    let r = then_got (first_header_of l) _ t e in
    grown_is l r.2 (grown_line l r.0 ((header_agrees l r.0 w).0 r.1).1)
line_grown Place.Second l t w e = grown_is l e (grown_line l l refl)
line_grown Place.Third l t w e = grown_is l e (grown_line l l refl)
line_grown Place.Full l t w e = bad_got e
line_grown Place.Items l t w e = let r = then_got (item_of l) item_taken t e in go r.0 r.1 r.2
  where
    go : (i : ItemOrEnd) → item_of l ≡ got i → item_taken i ≡ got t → Grown l t
    go (title name) h e = grown_is l e (omega (arith, title_length name, title_shorter l name ((title_agrees l name w).0 h)))
    go close h e = bad_got e
line_grown Place.Values l t w e = let r = then_got (value_of l) (value_taken l) t e in go r.0 r.2
  where
    go : (v : ValueOrBlank) → value_taken l v ≡ got t → Grown l t
    go value e = grown_is l e (grown_line l l refl)
    go blank e = grown_is l e (omega arith)

pub turn_grown : (p : Place) (l : Line) (t : Taken) → turn_as p l ≡ got t → Grown l t
unfolding turn_as
turn_grown p l t e = let r = within_got (longest p) l (line_as p l) t e in line_grown p l t r.0 r.1

-- ---- what the code's answer says of the turn

pub turn_next : (p : Place) (l : Line) (x : Turn) (q : Place) (n : ℕ) → x ≡ turned (turn_as p l) → x ≡ Turn.Next q n → Next p l q n
turn_next p l x q n e h = go (turn_as p l) refl
  where
    go : (y : Got Taken) → turn_as p l ≡ y → Next p l q n
    go (got t) k =
        let z : Turn.Next t.place (length t.text) ≡ Turn.Next q n = sym (ap turned k) ∙ sym e ∙ h in
        let place : t.place ≡ q = cc in
        record { text = t.text; turn = k ∙ ap (λ (p : Place). taken p t.text) place; size = cc }
    go (bad b column) k = absurd (let s : Turn.Bad b column ≡ Turn.Next q n = sym (ap turned k) ∙ sym e ∙ h in let z : ◌≡◌ {A = ℕ} 0 1 = cc in omega arith)

turn_bad : (p : Place) (l : Line) (x : Turn) (a column : ℕ) → x ≡ turned (turn_as p l) → x ≡ Turn.Bad a column → turn_as p l ≡ bad a column
turn_bad p l x a column e h = go (turn_as p l) refl
  where
    go : (y : Got Taken) → turn_as p l ≡ y → turn_as p l ≡ bad a column
    go (got t) k = absurd (let s : Turn.Next t.place (length t.text) ≡ Turn.Bad a column = sym (ap turned k) ∙ sym e ∙ h in let z : ◌≡◌ {A = ℕ} 0 1 = cc in omega arith)
    go (bad b d) k =
        let s : Turn.Bad b d ≡ Turn.Bad a column = sym (ap turned k) ∙ sym e ∙ h in
        let ba : b ≡ a = cc in
        let dc : d ≡ column = cc in
        k ∙ ap₂ bad ba dc

-- ---- judging a part

-- at a place, line and position, with a text of this size before it
pub record Judging (start : Place) (s : Bytes) (p : Place) (at i size : ℕ) : Type 0 where
  pub out : Bytes
  pub inside : at ≤ length s
  pub lines : i ≤ at + 1
  pub small : size ≤ 2 * at
  pub measured : size ≡ length out
  pub same : written_from start s ≡ from_here p out i s at

pub judging_start : (p : Place) (s : Bytes) → Judging p s p 0 1 0
judging_start p s = record { out = []; inside = omega arith; lines = omega arith; small = omega arith; measured = refl; same = here_start p s }

module _ (start : Place) (s : Bytes) (p : Place) (at i size : ℕ) (g : Judging start s p at i size) where
  ends_length : (q : Place) (bs : Bytes) → size ≡ length bs → judged (ends_at q bs i) ≡ ends_as q size i
  ends_length Place.First bs e = refl
  ends_length Place.Second bs e = refl
  ends_length Place.Third bs e = refl
  ends_length Place.Full bs e = ap Ok (sym e)
  ends_length Place.Items bs e = ap Ok (sym e)
  ends_length Place.Values bs e = refl

  pub judging_end : (r : Result ℕ TextRefusal) → length s ≤ at → r ≡ ends_as p size i → r ≡ judged (written_from start s)
  judging_end r h k = k ∙ sym (ap judged (g.same ∙ here_end p g.out i s at h) ∙ ends_length p g.out g.measured)

  pub judging_cut : (r : Result ℕ TextRefusal) (x : LineAt) → at < length s → x ≡ line_at s at → x ≡ LineAt.Unfinished → r ≡ Err (record { no = 19; line = i; column = 1 }) → r ≡ judged (written_from start s)
  judging_cut r x some e h k = k ∙ sym (ap judged (g.same ∙ here_cut p g.out i s at some (sym e ∙ h)))

  module _ (x : LineAt) (e n : ℕ) (k : x ≡ line_at s at) (h : x ≡ LineAt.Line e n) where
    line_is : line_at s at ≡ LineAt.Line e n
    line_is = sym k ∙ h

    pub line_low : at ≤ e
    line_low = (line_within s at e n line_is).0

    pub line_high : e ≤ length s
    line_high = let w = line_within s at e n line_is in omega (arith, w.1, w.2)

    pub line_less : at < length s → length s - n < length s - at
    line_less some = let w = line_within s at e n line_is in omega (arith, w.0, w.1, w.2)

    pub judging_refused : (y : Turn) (a column : ℕ) → y ≡ turned (turn_as p (take (e - at) (drop at s))) → y ≡ Turn.Bad a column →
        Err (record { no = a; line = i; column = column }) ≡ judged (written_from start s)
    judging_refused y a column u v =
        sym (ap judged (g.same ∙ here_stop p g.out i s at e n line_is a column (turn_bad p (take (e - at) (drop at s)) y a column u v)))

    module _ (y : Turn) (q : Place) (m : ℕ) (u : y ≡ turned (turn_as p (take (e - at) (drop at s)))) (v : y ≡ Turn.Next q m) where
      step : Next p (take (e - at) (drop at s)) q m
      step = turn_next p (take (e - at) (drop at s)) y q m u v

      growth : size + m ≤ 2 * n
      growth =
          let w = line_within s at e n line_is in
          let l = take (e - at) (drop at s) in
          omega (
            arith,
            w.0,
            w.1,
            w.2,
            g.small,
            step.size,
            length-take (e - at) (drop at s),
            length-drop at s,
            turn_grown p l (record { place = q; text = step.text }) step.turn,
          )

      pub size_fits : length s * 1 < 2 ^ 63 → Fits w64 (size + m)
      size_fits h = let w = line_within s at e n line_is in record { fits = omega (arith, growth, w.2) }

      pub judging_next : Judging start s q n (i + 1) (size + m)
      judging_next =
          let w = line_within s at e n line_is in
          record {
            out = g.out ++ step.text;
            inside = w.2;
            lines = omega (arith, w.0, w.1, g.lines);
            small = growth;
            measured = omega (arith, g.measured, step.size, length-append g.out step.text);
            same = g.same ∙ here_next p g.out i s at e n line_is q step.text step.turn;
          }

pub ruleset judging_laws = (judging_start, judging_end, judging_cut, line_low, line_high, line_less, judging_refused, size_fits, judging_next)
