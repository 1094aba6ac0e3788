-- Laws for the code.
use Rattle.std.specs.Prelude.{ℕ, zero, suc, ◌+◌, ◌-◌, ◌*◌, ◌≤◌, ◌<◌, ◌≡◌, refl, List, [], ◌∷◌, Bool, true, false, cond, ◌&&◌, eqb, ltb, length, drop, get_or, ℤ}
use Rattle.std.proofs.Common.{arith, add-one, ◌∙◌, drop_of_length-le, drop-cons}
use Rattle.std.proofs.Math.Path.{sym, ap}
use borrow.Author.Tests.{eq-eqb, ne_eqb, lt-ltb, le-ltb}
use Rattle.text.specs.Text.{Bytes, LF}
use Rattle.line_counts_bonds.specs.declared.Counts.{Counts}
use Rattle.reader_end.specs.declared.Walked.{Walked}
use Rattle.reader_walk.specs.Stands.{kind_of}
use Rattle.reader_walk.specs.Walked.{walk_of, Left}
use Rattle.reader_walk.specs.Outcome.{Outcome}
use Rattle.reader_walk.specs.Checking.{left_length, left_length_2}
use Rattle.line_property.specs.Listed.{places}
use Rattle.reader_feed.specs.declared.Counter.{Counter}
use Rattle.reader_feed.specs.Fed.{plus_of}
use Rattle.resume_rules.specs.Passed.{marked}
use Rattle.reader_resume.specs.declared.Asked.{Asked}
use Rattle.reader_resume.specs.declared.Passing.{Passing}
use Rattle.reader_resume.specs.declared.Heard.{Heard}
use Rattle.reader_resume.specs.declared.Passed.{Passed}
use Rattle.reader_resume.specs.declared.Mark.{Mark}
use Rattle.reader_resume.specs.Heard.{lined, line_end, byte_of, pass_from, pass_of, refused_at, open_at, not_whole, heard_by, heard_of}

-- ---- A byte

pub mark_over : (seen b : ℕ) → 4 ≤ seen → seen ≡ marked seen b
unfolding marked
mark_over seen b h = rw (le-ltb seen 4 h)

pub mark_dollar : (seen b : ℕ) → seen < 4 → b ≡ 36 → seen + 1 ≡ marked seen b
unfolding marked
mark_dollar seen b h e = rw (lt-ltb seen 4 h, eq-eqb b 36 e)

pub mark_other : (seen b : ℕ) → seen < 4 → (b ≡ 36 → ⊥) → 5 ≡ marked seen b
unfolding marked
mark_other seen b h e = rw (lt-ltb seen 4 h, ne_eqb b 36 e)

pub ruleset mark_laws = (mark_over, mark_dollar, mark_other)

module _ (p : Passing) where
  pub end_passed : (n : ℕ) → n ≡ plus_of p.counter.lines 1 → 1 < p.left →
      Mark.On (record { counter = record { records = p.counter.records; lines = n }; left = p.left - 1; seen = 0 }) ≡ line_end p
  unfolding line_end
  end_passed n e h = rw (ne_eqb (p.left - 1) 0 (λ z. omega (arith, z, h)), e)

  pub end_found : (n : ℕ) → n ≡ plus_of p.counter.lines 1 → p.left ≤ 1 → p.seen ≡ 4 → Mark.End (record { records = p.counter.records; lines = n }) ≡ line_end p
  unfolding line_end
  end_found n e h f = let z : p.left - 1 ≡ 0 = omega (arith, h) in rw (eq-eqb (p.left - 1) 0 z, eq-eqb p.seen 4 f, e)

  pub end_other : (n : ℕ) → n ≡ plus_of p.counter.lines 1 → p.left ≤ 1 → (p.seen ≡ 4 → ⊥) →
      Mark.On (record { counter = record { records = p.counter.records; lines = n }; left = 0; seen = 0 }) ≡ line_end p
  unfolding line_end
  end_other n e h f = let z : p.left - 1 ≡ 0 = omega (arith, h) in rw (ne_eqb p.seen 4 f, e, z)

  pub byte_line : (b : ℕ) (r : Mark) → b ≡ 10 → r ≡ line_end p → r ≡ byte_of p b
  unfolding byte_of
  byte_line b r e h = rw (eq-eqb b LF e) h

  pub byte_other : (b n : ℕ) → (b ≡ 10 → ⊥) → n ≡ marked p.seen b → Mark.On (record { counter = p.counter; left = p.left; seen = n }) ≡ byte_of p b
  unfolding byte_of
  byte_other b n e h = rw (ne_eqb b LF e, h)

pub ruleset byte_laws = (end_passed, end_found, end_other, byte_line, byte_other)

-- ---- The bytes of a part

-- what is left of the part says the same
pub record Reaches (p₀ p : Passing) (part : Bytes) (i : ℕ) : Type 0 where
  pub bound : i ≤ length part
  pub same : pass_from p i (drop i part) ≡ pass_of p₀ part

pub reach_start : (p : Passing) (part : Bytes) → Reaches p p part 0
unfolding pass_of
reach_start p part = record { bound = omega arith; same = refl }

module _ (p₀ p : Passing) (part : Bytes) (i : ℕ) (g : Reaches p₀ p part i) where
  pub reach_end : length part ≤ i → Passed.On p ≡ pass_of p₀ part
  unfolding pass_from
  reach_end h = ap (pass_from p i) (sym (drop_of_length-le part h)) ∙ g.same

  module _ (h : i < length part) where
    step : (m : Mark) → byte_of p (get_or part i 0) ≡ m → pass_of p₀ part ≡ elim m [ Mark.End c ↦ Passed.Behind c (i + 1) | Mark.On q ↦ pass_from q (i + 1) (drop (suc i) part) ]
    unfolding pass_from
    step m e = sym g.same ∙ ap (pass_from p i) (drop-cons part i 0 h) ∙ rw (e, pass_from)

    pub reach_found : (m : Mark) (c : Counter) → m ≡ byte_of p (get_or part i 0) → m ≡ Mark.End c → Passed.Behind c (i + 1) ≡ pass_of p₀ part
    reach_found m c e q = sym (step (Mark.End c) (sym e ∙ q))

    pub reach_on : (m : Mark) (q : Passing) → m ≡ byte_of p (get_or part i 0) → m ≡ Mark.On q → Reaches p₀ q part (i + 1)
    reach_on m q e f = record { bound = omega arith; same = ap (λ (j : ℕ). pass_from q (i + 1) (drop j part)) (add-one i) ∙ sym (step (Mark.On q) (sym e ∙ f)) }

pub ruleset reach_laws = (reach_start, reach_end, reach_found, reach_on)

-- ---- A record

module _ (a : Asked) (len e k column n l : ℕ) (en : n ≡ plus_of a.counter.records 1) (el : l ≡ plus_of a.counter.lines k) where
  abbrev at : Passing
  at = record { counter = record { records = n; lines = a.counter.lines }; left = k; seen = 0 }

  pub not_dead : (e ≡ 19 → ⊥) → Heard.Bad at e l column ≡ not_whole a len e k column
  unfolding not_whole
  not_dead h = rw (ne_eqb e 19 h, en, el)

  pub not_ended : e ≡ 19 → a.ended ≡ true → Heard.Bad at e l column ≡ not_whole a len e k column
  unfolding not_whole open_at
  not_ended h f = rw (eq-eqb e 19 h, f, en, el, h)

  pub not_more : e ≡ 19 → a.ended ≡ false → len < a.room → Heard.More ≡ not_whole a len e k column
  unfolding not_whole open_at
  not_more h f w = rw (eq-eqb e 19 h, f, lt-ltb len a.room w)

  pub not_long : e ≡ 19 → a.ended ≡ false → a.room ≤ len → Heard.TooLong at ≡ not_whole a len e k column
  unfolding not_whole open_at
  not_long h f w = rw (eq-eqb e 19 h, f, le-ltb len a.room w, en)

pub ruleset not_laws = (not_dead, not_ended, not_more, not_long)

module _ (a : Asked) (part : Bytes) (w : Walked) (ew : w ≡ walk_of (kind_of a.sd) part) where
  heard : heard_by a (length part) w ≡ heard_of a part
  unfolding heard_of
  heard = ap (heard_by a (length part)) ew

  pub next_whole : (cs : Counts) (len k h from to n l : ℕ) → w ≡ Walked.Whole cs len k h from to → n ≡ plus_of a.counter.records 1 → l ≡ plus_of a.counter.lines k →
      Heard.Good (record { records = n; lines = l }) len from to ≡ heard_of a part
  next_whole cs len k h from to n l q en el = rw (en, el) (ap (heard_by a (length part)) (sym q) ∙ heard)

  pub next_refused : (e k column : ℕ) (r : Heard) → w ≡ Walked.Refused e k column → r ≡ not_whole a (length part) e k column → r ≡ heard_of a part
  next_refused e k column r q h = h ∙ ap (heard_by a (length part)) (sym q) ∙ heard

pub ruleset next_laws = (next_whole, next_refused)

-- ---- The lengths that the walk leaves

pub left_listed : (ta₀ ta tb₀ tb : List ℤ) (t : List ℕ) (o : Outcome) → Left ta₀ ta tb₀ tb t o → length t ≡ 3 * places
left_listed ta₀ ta tb₀ tb t o l = l.size

pub ruleset left_laws = (left_length, left_length_2, left_listed)
