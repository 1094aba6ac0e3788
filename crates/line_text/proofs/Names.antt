-- Laws on the name of a data header: where it starts, goes on and ends.
use Prim.Native.Nat.{ℕ, suc, ◌+◌, ◌-◌, ◌≤◌, ◌<◌}
use native.Mathlib.Numerals.{add-one}
use native.Mathlib.Omega.{arith}
use mathlib.Core.Path.{◌≡◌, sym, ap, ◌∙◌}
use mathlib.Core.List.{[], ◌∷◌, ◌++◌}
use mathlib.Core.Bool.{Bool, true, false}
use lib.ListN.{length, get_or, take, drop, length-drop, drop_of_length-le}
use lib.Seq.{drop-cons, take-suc, get_or-drop, length-take-le}
use borrow.Author.Tests.{eq-eqb, ne_eqb, le-leb, lt-leb}
use Rattle.text.specs.Text.{Line}
use Rattle.text.specs.Find.{is_blank}
use Rattle.judge_line.specs.Judge.{HeaderRead, named, none, name_on, opened}
use Rattle.line_text.specs.HeaderParts.{name_ends}
use Rattle.line_text.specs.Answer.{name_in}
use Rattle.line_text.specs.declared.NameRead.{NameRead}

-- ---- how the name ends

module _ (l : Line) (from to : ℕ) where
  name_length : from ≤ to → to < length l → length (take (to - from) (drop from l)) ≡ to - from
  name_length h g = length-take-le (to - from) (drop from l) (omega (arith, length-drop from l))

  module _ (h : from ≤ to) (g : to < length l) where
    pub name_empty : to - from < 1 → none ≡ name_ends (take (to - from) (drop from l)) (drop (to + 1) l)
    unfolding name_ends
    name_empty k = sym (rw (name_length h g, lt-leb 1 (to - from) k))

    pub name_long : 1 ≤ to - from → 30 < to - from → none ≡ name_ends (take (to - from) (drop from l)) (drop (to + 1) l)
    unfolding name_ends
    name_long j k = sym (rw (name_length h g, le-leb 1 (to - from) j, lt-leb (to - from) 30 k))

    pub name_good : (r : Bool) → 1 ≤ to - from → to - from ≤ 30 → r ≡ is_blank (drop (to + 1) l) → r ≡ true →
        named (take (to - from) (drop from l)) ≡ name_ends (take (to - from) (drop from l)) (drop (to + 1) l)
    unfolding name_ends
    name_good r j k e t = sym (rw (name_length h g, le-leb 1 (to - from) j, le-leb (to - from) 30 k, sym e ∙ t))

    pub name_followed : (r : Bool) → 1 ≤ to - from → to - from ≤ 30 → r ≡ is_blank (drop (to + 1) l) → r ≡ false →
        none ≡ name_ends (take (to - from) (drop from l)) (drop (to + 1) l)
    unfolding name_ends
    name_followed r j k e t = sym (rw (name_length h g, le-leb 1 (to - from) j, le-leb (to - from) 30 k, sym e ∙ t))

pub named_in : (l : Line) (from to : ℕ) → from ≤ to → to < length l → name_in l (NameRead.Named from to)
unfolding name_in
named_in l from to h g = (h, omega arith)

pub unnamed_in : (l : Line) → name_in l NameRead.Unnamed
unfolding name_in
unnamed_in l = tt

pub ruleset name_end_laws = (name_empty, name_long, name_good, name_followed, named_in, unnamed_in)

-- ---- how it goes on: no `<` or `>` from `from` up to i

pub record Naming (l : Line) (from i : ℕ) : Type 0 where
  pub after : from ≤ i
  pub same : name_on [] (drop from l) ≡ name_on (take (i - from) (drop from l)) (drop i l)

pub naming_start : (l : Line) (from : ℕ) → Naming l from from
naming_start l from =
    let z : from - from ≡ 0 = omega arith in
    record { after = omega arith; same = rw z }

module _ (l : Line) (from i : ℕ) (n : Naming l from i) where
  pub naming_next : i < length l → (get_or l i 0 ≡ 60 → ⊥) → (get_or l i 0 ≡ 62 → ⊥) → Naming l from (i + 1)
  unfolding name_on
  naming_next h p q =
      let a = n.after in
      let e : i + 1 - from ≡ suc (i - from) = omega arith in
      let f : from + (i - from) ≡ i = omega arith in
      let k : i - from < length (drop from l) = omega (arith, length-drop from l) in
      let d : get_or (drop from l) (i - from) 0 ≡ get_or l i 0 = get_or-drop from l (i - from) 0 ∙ ap (λ (x : ℕ). get_or l x 0) f in
      let s : name_on (take (i - from) (drop from l)) (drop i l) ≡ name_on (take (i - from) (drop from l) ++ (get_or l i 0 ∷ [])) (drop (suc i) l) =
      rw (drop-cons l i 0 h, ne_eqb _ _ p, ne_eqb _ _ q) in
      record { after = omega arith; same = n.same ∙ (s ∙ rw (e, take-suc (drop from l) (i - from) 0 k, d, add-one i)) }

  pub naming_open : i < length l → get_or l i 0 ≡ 60 → none ≡ name_on [] (drop from l)
  unfolding name_on
  naming_open h p =
      let s : name_on (take (i - from) (drop from l)) (drop i l) ≡ none = rw (drop-cons l i 0 h, eq-eqb _ _ p) in
      sym (n.same ∙ s)

  pub naming_close : (x : HeaderRead) → i < length l → (get_or l i 0 ≡ 60 → ⊥) → get_or l i 0 ≡ 62 → x ≡ name_ends (take (i - from) (drop from l)) (drop (i + 1) l) → x ≡ name_on [] (drop from l)
  unfolding name_on name_ends
  naming_close x h p q e =
      let s : name_on (take (i - from) (drop from l)) (drop i l) ≡ name_ends (take (i - from) (drop from l)) (drop (i + 1) l) = rw (drop-cons l i 0 h, ne_eqb _ _ p, eq-eqb _ _ q, add-one i) in
      e ∙ sym (n.same ∙ s)

  pub naming_over : length l ≤ i → none ≡ name_on [] (drop from l)
  unfolding name_on
  naming_over h =
      let s : name_on (take (i - from) (drop from l)) (drop i l) ≡ none = rw (drop_of_length-le l h) in
      sym (n.same ∙ s)

pub ruleset naming_laws = (naming_start, naming_next, naming_open, naming_close, naming_over, unnamed_in)

-- ---- how it starts

module _ (l : Line) (at : ℕ) (h : at < length l) where
  pub opened_other : (get_or l at 0 ≡ 60 → ⊥) → none ≡ opened (drop at l)
  unfolding opened
  opened_other n = sym (rw (drop-cons l at 0 h, ne_eqb _ _ n))

  pub opened_name : (x : HeaderRead) → get_or l at 0 ≡ 60 → x ≡ name_on [] (drop (at + 1) l) → x ≡ opened (drop at l)
  unfolding opened
  opened_name x q f = f ∙ sym (rw (drop-cons l at 0 h, eq-eqb _ _ q, add-one at))

pub ruleset opened_laws = (opened_other, opened_name, unnamed_in)
