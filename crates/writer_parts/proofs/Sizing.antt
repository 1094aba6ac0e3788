-- Laws of measuring a good part: the text so far has this length, and the part is good from here on.
use Prim.Native.Nat.{ℕ, ◌+◌, ◌-◌, ◌*◌, ◌≤◌, ◌<◌, ◌^◌}
use native.Mathlib.Omega.{arith}
use mathlib.Core.Path.{◌≡◌, refl, sym, ap, ◌∙◌, subst}
use mathlib.Core.Bool.{Bool, true, false}
use mathlib.Core.List.{[], ◌++◌}
use lib.ListN.{length, take, drop, length-append, length-take, length-drop}
use mir.Syntax.{w64}
use mir.Val.{Fits}
use Rattle.text.specs.Text.{Bytes, Line}
use Rattle.text.specs.Find.{line_at, is_blank}
use Rattle.text.specs.Cut.{line_within}
use Rattle.text.specs.declared.LineAt.{LineAt}
use Rattle.line_judged.specs.Known.{Standing, Header, Named}
use Rattle.judge_file.specs.Verdict.{Verdict, accepted}
use Rattle.judge_parts.specs.Written.{text_of, written_headers, written_items}
use Rattle.writer_parts.specs.Lengths.{line_length, title_length, name_length}
use Rattle.writer_parts.specs.Step.{ended, turn_as, taken, Next, place_of, written_from}
use Rattle.writer_parts.specs.Here.{from_here, here_start, here_end}
use Rattle.writer_parts.specs.Beside.{headers_written, items_written}
use Rattle.writer_parts.specs.NeverRefused.{ends_good, Taking, stands, taking, onward, Heads, header_taken, never_closed, title_taken, value_taken_lem, blank_taken}
use Rattle.writer_parts.specs.declared.Place.{Place}
use Rattle.writer_parts.specs.declared.Sized.{Sized}
use Rattle.writer_parts.proofs.Judging.{turn_grown}

-- ---- One line of items

pub item_header : (l : Line) → Taking Place.Items l → Header l
item_header l g = never_closed l g

pub item_low : (l : Line) (from to : ℕ) → Named l from to → from ≤ to
item_low l from to d = d.order

pub item_fits : (l : Line) (from to : ℕ) → Named l from to → length l * 1 < 2 ^ 63 → Fits w64 (to - from + 6)
item_fits l from to d h = record { fits = omega (arith, d.inside) }

pub item_sized : (l : Line) → Taking Place.Items l → (from to : ℕ) → Named l from to → Next Place.Items l Place.Values (to - from + 6)
item_sized l g from to d =
    record {
      text = _;
      turn = title_taken l g from to d;
      size = omega (arith, title_length (take (to - from) (drop from l)), name_length l from to d.order d.inside);
    }

pub value_sized : (l : Line) → Taking Place.Values l → (b : Bool) → b ≡ is_blank l → b ≡ false → Next Place.Values l Place.Values (length l + 1)
value_sized l g b e h = record { text = ended l; turn = value_taken_lem l g (sym e ∙ h); size = line_length l }

pub blank_sized : (l : Line) → Taking Place.Values l → (b : Bool) → b ≡ is_blank l → b ≡ true → Next Place.Values l Place.Items 1
blank_sized l g b e h = record { text = ended []; turn = blank_taken l g (sym e ∙ h); size = refl }

pub ruleset sized_laws = (item_header, item_low, item_fits, item_sized, value_sized, blank_sized)

-- by the place
module _ (b : Bool) (l : Line) where
  pub in_values : b ≡ true → Taking (place_of b) l → Taking Place.Values l
  in_values e g = subst (λ (z : Bool). Taking (place_of z) l) e g

  pub in_items_lem : b ≡ false → Taking (place_of b) l → Taking Place.Items l
  in_items_lem e g = subst (λ (z : Bool). Taking (place_of z) l) e g

  pub from_values : (r : Sized) → b ≡ true → Next Place.Values l (place_of r.inside) r.size → Next (place_of b) l (place_of r.inside) r.size
  from_values r e g = subst (λ (z : Bool). Next (place_of z) l (place_of r.inside) r.size) (sym e) g

  pub from_items : (r : Sized) → b ≡ false → Next Place.Items l (place_of r.inside) r.size → Next (place_of b) l (place_of r.inside) r.size
  from_items r e g = subst (λ (z : Bool). Next (place_of z) l (place_of r.inside) r.size) (sym e) g

pub ruleset place_laws = (in_values, in_items_lem, from_values, from_items)

-- ---- A part

pub record Sizing (start : Place) (s : Bytes) (p : Place) (at size : ℕ) : Type 0 where
  pub out : Bytes
  pub line : ℕ
  pub inside : at ≤ length s
  pub small : size ≤ 2 * at
  pub measured : size ≡ length out
  pub whole : from_here p out line s at ≡ accepted (text_of (written_from start s))

sizing_start : (p : Place) (s : Bytes) → written_from p s ≡ accepted (text_of (written_from p s)) → Sizing p s p 0 0
sizing_start p s h = record { out = []; line = 1; inside = omega arith; small = omega arith; measured = refl; whole = sym (here_start p s) ∙ h }

module _ (start : Place) (s : Bytes) (p : Place) (at size : ℕ) (g : Sizing start s p at size) where
  sizing_end : length s ≤ at → size ≡ length (text_of (written_from start s))
  sizing_end h =
      g.measured
      ∙ ap length (sym (ends_good p g.out (text_of (written_from start s)) g.line (sym (here_end p g.out g.line s at h) ∙ g.whole)))

  pub sizing_line : at < length s → Standing s at
  sizing_line some = stands p g.out g.line s at (text_of (written_from start s)) g.whole some

  module _ (e n : ℕ) (line : line_at s at ≡ LineAt.Line e n) where
    pub sizing_low : at ≤ e
    sizing_low = (line_within s at e n line).0

    pub sizing_high : e ≤ length s
    sizing_high = let w = line_within s at e n line in omega (arith, w.1, w.2)

    pub sizing_less : at < length s → length s - n < length s - at
    sizing_less some = let w = line_within s at e n line in omega (arith, w.0, w.1, w.2)

    pub sizing_taken : Taking p (take (e - at) (drop at s))
    sizing_taken = taking p g.out g.line s at (text_of (written_from start s)) g.whole e n line

    module _ (q : Place) (m : ℕ) (step : Next p (take (e - at) (drop at s)) q m) where
      growth : size + m ≤ 2 * n
      growth =
          let w = line_within s at e n line in
          omega (
            arith,
            w.0,
            w.1,
            w.2,
            g.small,
            step.size,
            length-take (e - at) (drop at s),
            length-drop at s,
            turn_grown p (take (e - at) (drop at s)) (record { place = q; text = step.text }) step.turn,
          )

      pub sizing_fits : length s * 1 < 2 ^ 63 → Fits w64 (size + m)
      sizing_fits h = let w = line_within s at e n line in record { fits = omega (arith, growth, w.2) }

      pub sizing_next : Sizing start s q n (size + m)
      sizing_next =
          record {
            out = g.out ++ step.text;
            line = g.line + 1;
            inside = (line_within s at e n line).2;
            small = growth;
            measured = omega (arith, g.measured, step.size, length-append g.out step.text);
            whole = onward p g.out g.line s at (text_of (written_from start s)) g.whole e n line q step.text step.turn;
          }

-- ---- Items

pub items_start_lem : (s : Bytes) → written_items s ≡ accepted (text_of (written_items s)) → Sizing Place.Items s (place_of false) 0 0
items_start_lem s h = sizing_start Place.Items s (subst (λ (v : Verdict Bytes). v ≡ accepted (text_of v)) (sym (items_written s)) h)

pub items_end_lem : (s : Bytes) (p : Place) (at size : ℕ) → Sizing Place.Items s p at size → length s ≤ at → size ≡ length (text_of (written_items s))
items_end_lem s p at size g h = sizing_end Place.Items s p at size g h ∙ ap (λ (v : Verdict Bytes). length (text_of v)) (items_written s)

pub ruleset items_laws = (items_start_lem, items_end_lem, sizing_line, sizing_low, sizing_high, sizing_less, sizing_taken, sizing_fits, sizing_next)

-- ---- Header lines

pub record Heading (s : Bytes) (at size : ℕ) : Type 0 where
  pub p : Place
  pub head : Heads p
  pub sizing : Sizing Place.First s p at size

pub headers_start : (s : Bytes) → written_headers s ≡ accepted (text_of (written_headers s)) → Heading s 0 0
headers_start s h =
    record { p = Place.First; head = Heads.first; sizing = sizing_start Place.First s (subst (λ (v : Verdict Bytes). v ≡ accepted (text_of v)) (sym (headers_written s)) h) }

module _ (s : Bytes) (at size : ℕ) (g : Heading s at size) where
  pub headers_end_lem : length s ≤ at → size ≡ length (text_of (written_headers s))
  headers_end_lem h = sizing_end Place.First s g.p at size g.sizing h ∙ ap (λ (v : Verdict Bytes). length (text_of v)) (headers_written s)

  pub heading_line : at < length s → Standing s at
  heading_line some = sizing_line Place.First s g.p at size g.sizing some

  module _ (e n : ℕ) (line : line_at s at ≡ LineAt.Line e n) where
    pub heading_low : at ≤ e
    heading_low = (line_within s at e n line).0

    pub heading_less : at < length s → length s - n < length s - at
    heading_less some = let w = line_within s at e n line in omega (arith, w.0, w.1, w.2)

    t : Taking g.p (take (e - at) (drop at s))
    t = sizing_taken Place.First s g.p at size g.sizing e n line

    step : Next g.p (take (e - at) (drop at s)) t.q (e - at + 1)
    step =
        let w = line_within s at e n line in
        let h = header_taken g.head (take (e - at) (drop at s)) t.q t.text t.turn in
        record {
          text = t.text;
          turn = t.turn;
          size = omega (arith, w.0, w.1, w.2, length-take (e - at) (drop at s), length-drop at s, ap length h.kept, line_length (take (e - at) (drop at s)));
        }

    pub heading_one : length s * 1 < 2 ^ 63 → Fits w64 (e - at + 1)
    heading_one h = let w = line_within s at e n line in record { fits = omega (arith, w.1, w.2) }

    pub heading_fits : length s * 1 < 2 ^ 63 → Fits w64 (size + (e - at + 1))
    heading_fits h = sizing_fits Place.First s g.p at size g.sizing e n line t.q (e - at + 1) step h

    pub heading_next : Heading s n (size + (e - at + 1))
    heading_next =
        record {
          p = t.q;
          head = (header_taken g.head (take (e - at) (drop at s)) t.q t.text t.turn).place;
          sizing = sizing_next Place.First s g.p at size g.sizing e n line t.q (e - at + 1) step;
        }

pub ruleset headers_laws = (headers_start, headers_end_lem, heading_line, heading_low, heading_less, heading_one, heading_fits, heading_next)
