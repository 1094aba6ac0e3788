-- Laws of the loops that write a good part: at each line the room holds the canonical text of the lines before it, and there is room for the rest.
use Prim.Native.Nat.{ℕ, ◌+◌, ◌-◌, ◌≤◌, ◌<◌}
use native.Mathlib.Omega.{arith}
use mathlib.Core.Path.{◌≡◌, refl, sym, ap, ◌∙◌, subst}
use mathlib.Core.Bool.{false}
use mathlib.Core.List.{[], ◌∷◌, ◌++◌}
use lib.ListN.{length, take, drop, length-append}
use Rattle.text.specs.Text.{Bytes, LF}
use Rattle.text.specs.Find.{line_at}
use Rattle.text.specs.Cut.{line_within}
use Rattle.text.specs.declared.LineAt.{LineAt}
use Rattle.line_judged.specs.Known.{Standing}
use Rattle.judge_file.specs.Verdict.{Verdict, accepted}
use Rattle.judge_parts.specs.Written.{text_of, written_headers, written_items}
use Rattle.writer_parts.specs.Step.{ended, turn_as, taken, place_of, written_from}
use Rattle.writer_parts.specs.Here.{from_here, here_start, here_end}
use Rattle.writer_parts.specs.Beside.{headers_written, items_written}
use Rattle.writer_parts.specs.NeverRefused.{here_grows, ends_good, Taking, stands, taking, onward, Heads, HeaderTaken, header_taken}
use Rattle.writer_parts.specs.declared.Place.{Place}
use Rattle.writer_lines.specs.Laid.{Laid, laid_none, laid_join}
use Rattle.writer_parts_put.specs.Put.{Room, Fitting, PutTo}

-- ---- A part

pub record Putting (start : Place) (s r₀ r : Bytes) (at : ℕ) (p : Place) (i e : ℕ) : Type 0 where
  pub out : Bytes
  pub line : ℕ
  pub inside : i ≤ length s
  pub enough : at + length (text_of (written_from start s)) ≤ length r₀
  pub size : length r ≡ length r₀
  pub laid : Laid r₀ r at out e
  pub whole : from_here p out line s i ≡ accepted (text_of (written_from start s))

putting_start : (p : Place) (s r : Bytes) (at : ℕ) → Room (written_from p s) at (length r) → Putting p s r r at p 0 at
putting_start p s r at h =
    record {
      out = [];
      line = 1;
      inside = omega arith;
      enough = h.enough;
      size = refl;
      laid = laid_none r at (omega (arith, h.enough));
      whole = sym (here_start p s) ∙ h.whole;
    }

module _ (start : Place) (s r₀ r : Bytes) (at : ℕ) (p : Place) (i e : ℕ) (g : Putting start s r₀ r at p i e) where
  pub putting_size : length r ≡ length r₀
  putting_size = g.size

  putting_end : length s ≤ i → Laid r₀ r at (text_of (written_from start s)) e
  putting_end h =
      subst (λ (x : Bytes). Laid r₀ r at x e)
      (sym (ends_good p g.out (text_of (written_from start s)) g.line (sym (here_end p g.out g.line s i h) ∙ g.whole))) g.laid

  pub putting_line : i < length s → Standing s i
  putting_line some = stands p g.out g.line s i (text_of (written_from start s)) g.whole some

  module _ (f n : ℕ) (line : line_at s i ≡ LineAt.Line f n) where
    pub put_low : i ≤ f
    put_low = (line_within s i f n line).0

    pub put_high : f ≤ length s
    put_high = let w = line_within s i f n line in omega (arith, w.1, w.2)

    pub put_less : i < length s → length s - n < length s - i
    put_less some = let w = line_within s i f n line in omega (arith, w.0, w.1, w.2)

    t : Taking p (take (f - i) (drop i s))
    t = taking p g.out g.line s i (text_of (written_from start s)) g.whole f n line

    text_room : e + length t.text ≤ length r
    text_room =
        let m = here_grows t.q (g.out ++ t.text) (g.line + 1) s n (text_of (written_from start s)) (onward p g.out g.line s i (text_of (written_from start s)) g.whole f n line t.q t.text t.turn) in
        omega (arith, g.size, g.laid.next, g.enough, ap length m.1, length-append (g.out ++ t.text) m.0, length-append g.out t.text)

    pub putting_room : Fitting p (take (f - i) (drop i s)) e (length r)
    putting_room = record { taking = t; enough = text_room }

    pub putting_next : (r' : Bytes) (q : Place) (m : ℕ) → PutTo p (take (f - i) (drop i s)) r r' e q m → Putting start s r₀ r' at q n m
    putting_next r' q m w =
        record {
          out = g.out ++ w.text;
          line = g.line + 1;
          inside = (line_within s i f n line).2;
          enough = g.enough;
          size = w.laid.size ∙ g.size;
          laid = laid_join g.laid w.laid;
          whole = onward p g.out g.line s i (text_of (written_from start s)) g.whole f n line q w.text w.turn;
        }

-- ---- Items

pub items_start_lem : (s r : Bytes) (at : ℕ) → Room (written_items s) at (length r) → Putting Place.Items s r r at (place_of false) 0 at
items_start_lem s r at h = putting_start Place.Items s r at (subst (λ (v : Verdict Bytes). Room v at (length r)) (sym (items_written s)) h)

pub items_end_lem : (s r₀ r : Bytes) (at : ℕ) (p : Place) (i e : ℕ) → Putting Place.Items s r₀ r at p i e → length s ≤ i → Laid r₀ r at (text_of (written_items s)) e
items_end_lem s r₀ r at p i e g h = subst (λ (v : Verdict Bytes). Laid r₀ r at (text_of v) e) (items_written s) (putting_end Place.Items s r₀ r at p i e g h)

pub ruleset items_laws = (items_start_lem, items_end_lem, putting_size, putting_line, put_low, put_high, put_less, putting_room, putting_next)

-- ---- Header lines

pub record Heading (s r₀ r : Bytes) (at i e : ℕ) : Type 0 where
  pub p : Place
  pub head : Heads p
  pub putting : Putting Place.First s r₀ r at p i e

pub headers_start : (s r : Bytes) (at : ℕ) → Room (written_headers s) at (length r) → Heading s r r at 0 at
headers_start s r at h =
    record {
      p = Place.First;
      head = Heads.first;
      putting = putting_start Place.First s r at (subst (λ (v : Verdict Bytes). Room v at (length r)) (sym (headers_written s)) h);
    }

module _ (s r₀ r : Bytes) (at i e : ℕ) (g : Heading s r₀ r at i e) where
  pub headers_end_lem : length s ≤ i → Laid r₀ r at (text_of (written_headers s)) e
  headers_end_lem h =
      subst (λ (v : Verdict Bytes). Laid r₀ r at (text_of v) e) (headers_written s) (putting_end Place.First s r₀ r at g.p i e g.putting h)

  pub heading_size : length r ≡ length r₀
  heading_size = g.putting.size

  pub heading_line : i < length s → Standing s i
  heading_line some = putting_line Place.First s r₀ r at g.p i e g.putting some

  module _ (f n : ℕ) (line : line_at s i ≡ LineAt.Line f n) where
    pub head_low : i ≤ f
    head_low = (line_within s i f n line).0

    pub head_high : f ≤ length s
    head_high = let w = line_within s i f n line in omega (arith, w.1, w.2)

    pub head_less : i < length s → length s - n < length s - i
    head_less some = let w = line_within s i f n line in omega (arith, w.0, w.1, w.2)

    fitting : Fitting g.p (take (f - i) (drop i s)) e (length r)
    fitting = putting_room Place.First s r₀ r at g.p i e g.putting f n line

    kept : (t : Taking g.p (take (f - i) (drop i s))) → HeaderTaken (take (f - i) (drop i s)) t.q t.text
    kept t = header_taken g.head (take (f - i) (drop i s)) t.q t.text t.turn

    head_by : Fitting g.p (take (f - i) (drop i s)) e (length r) → e + (length (take (f - i) (drop i s)) + 1) ≤ length r
    head_by h = omega (arith, h.enough, ap length (kept h.taking).kept, length-append (take (f - i) (drop i s)) (LF ∷ []))

    pub head_room : e + (length (take (f - i) (drop i s)) + 1) ≤ length r
    head_room = head_by fitting

    next_by_lem : Fitting g.p (take (f - i) (drop i s)) e (length r) → (r' : Bytes) (m : ℕ) → Laid r r' e (ended (take (f - i) (drop i s))) m → Heading s r₀ r' at n m
    next_by_lem h r' m w =
        let t = h.taking in
        let k = kept t in
        record {
          p = t.q;
          head = k.place;
          putting =
              putting_next Place.First s r₀ r at g.p i e g.putting f n line r' t.q m
              (record { text = t.text; turn = t.turn; laid = subst (λ (x : Bytes). Laid r r' e x m) (sym k.kept) w });
        }

    pub heading_next : (r' : Bytes) (m : ℕ) → Laid r r' e (ended (take (f - i) (drop i s))) m → Heading s r₀ r' at n m
    heading_next r' m w = next_by_lem fitting r' m w

pub ruleset headers_laws = (headers_start, headers_end_lem, heading_size, heading_line, head_low, head_high, head_less, head_room, heading_next)
