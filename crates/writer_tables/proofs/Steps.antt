-- One test of the counts or of a table after the other, as the code goes.
use Prim.Native.Nat.{ℕ, ◌≤◌, ◌<◌}
use mathlib.Core.Path.{◌≡◌, sym, ◌∙◌}
use mathlib.Core.Bool.{Bool, true, false, not, ◌&&◌, ◌||◌}
use lib.Dec.{leb}
use borrow.Author.Tests.{leb-true, lt-leb, le-leb, not-false}
use Rattle.rules.specs.Record.{limit}
use Rattle.writer_row.specs.AgreeNumber.{left_true, right_true}
use Rattle.writer_tables.specs.Tables.{is_nothing, counts_hold}
use Rattle.writer_tables.specs.declared.Repeat.{Repeat}
use Rattle.writer_tables.specs.declared.Repeat.TheVariants.{Pair, Nothing}

module _ (x : Bool) where
  pub up_next : (a b : ℕ) (r : Bool) → a ≤ b → r ≡ x → r ≡ (leb a b && x)
  up_next a b r h k = rw (le-leb a b h) k

  pub up_stop : (a b : ℕ) → b < a → false ≡ (leb a b && x)
  up_stop a b h = rw (lt-leb a b h)

pub ruleset counts = (up_next, up_stop)

pub no_isotope : (x y t : Bool) → t ≡ x → t ≡ true → true ≡ (x || y)
no_isotope x y t e h = rw (← e, h)

pub no_mass : (x y t r : Bool) → t ≡ x → t ≡ false → r ≡ y → r ≡ (x || y)
no_mass x y t r e h k = rw (← e, h) k

pub ruleset masses = (no_isotope, no_mass)

module _ (x : Bool) (found first : Repeat) (e : found ≡ first) where
  pub pair_stop : (i j : ℕ) → found ≡ Pair i j → false ≡ (is_nothing first && x)
  pair_stop i j h = rw (← e, h)

  pub pair_next : (r : Bool) → found ≡ Nothing → r ≡ x → r ≡ (is_nothing first && x)
  pair_next r h k = rw (← e, h) k

pub ruleset pair_steps = (pair_stop, pair_next)

module _ (n m chiral : ℕ) (t : Bool) (e : t ≡ counts_hold n m chiral) (h : not t ≡ false) where
  hold : counts_hold n m chiral ≡ true
  hold = sym e ∙ not-false t h

  pub n_small : n ≤ limit
  unfolding counts_hold
  n_small = leb-true n limit (left_true _ _ hold)

  pub m_small : m ≤ limit
  unfolding counts_hold
  m_small = leb-true m limit (left_true _ _ (right_true (leb n limit) _ hold))
