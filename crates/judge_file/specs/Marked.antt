-- A line's refusal carries a number from 3 to 18 and a column from 1 on; so none is taken for a text cut short.
use Rattle.std.specs.Prelude.{Option, Some, None, ℕ, suc, ◌≤◌, ◌≡◌, refl, Bool, cond, not, length, leb}
use Rattle.std.proofs.Common.{arith}
use Rattle.std.proofs.Math.Bool.{true, false}
use Rattle.text.specs.Text.{Line, bytes}
use Rattle.text.specs.Find.{bad_column, is_blank}
use Rattle.text.specs.Agree.{bad_within}
use Rattle.judge_line.specs.Got.{Got, got, bad, then, need}
use Rattle.judge_line.specs.Field.{none_found, within}
use Rattle.judge_line.specs.Judge.{reserved, first_header_of, HeaderRead, named, none}
use Rattle.judge_line.specs.Judge.{header_of, item_of, title_got, is_close, value_of, not_header, begins}

-- a value, or a refusal of such a number at such a column
pub data Marked {A : Type 0} : Got A → Type 0 where
  value : {a : A} → Marked (got a)
  refusal : (e c : ℕ) → (3 ≤ e) × (e ≤ 18) → 1 ≤ c → Marked (bad e c)

module _ {A : Type 0} where
  pub marked_bad : {e c : ℕ} → Marked {A = A} (bad e c) → ((3 ≤ e) × (e ≤ 18)) × (1 ≤ c)
  marked_bad (refusal e c r h) = (r, h)

  pub marked_then : {B : Type 0} {x : Got A} {f : A → Got B} → Marked x → ((a : A) → Marked (f a)) → Marked (then x f)
  unfolding then
  marked_then (value {a = a}) h = h a
  marked_then (refusal e c r k) h = refusal e c r k

  pub marked_need : (t : Bool) (e c : ℕ) {x : Got A} → (3 ≤ e) × (e ≤ 18) → 1 ≤ c → Marked x → Marked (need t e c x)
  unfolding need
  marked_need true e c r k h = h
  marked_need false e c r k h = refusal e c r k

  pub marked_cond : (t : Bool) {x y : Got A} → Marked x → Marked y → Marked (cond t x y)
  marked_cond true h k = h
  marked_cond false h k = k

-- ---- Fields

module _ {A : Type 0} (l : Line) {x : Got A} where
  pub marked_none : (e : ℕ) (f : Option ℕ) → (3 ≤ e) × (e ≤ 18) → ((c : ℕ) → f ≡ Some c → 1 ≤ c) → Marked x → Marked (none_found e f x)
  marked_none e (Some c) r h m = refusal e c r (h c refl)
  marked_none e None r h m = m

  pub marked_within : (k : ℕ) → Marked x → Marked (within k l x)
  unfolding within
  marked_within k m =
      marked_need (leb (length l) k) 3 (suc k) (omega arith) (omega arith)
      (marked_none 4 (bad_column l) (omega arith) (λ c e. (bad_within l c e).0) m)

-- ---- Lines

pub marked_header : (l : Line) → Marked (first_header_of l)
unfolding first_header_of
marked_header l = marked_need (not (reserved l)) 5 1 (omega arith) (omega arith) value

pub marked_item : (l : Line) → Marked (item_of l)
unfolding item_of
marked_item l = marked_cond (is_close l) value (go (header_of l))
  where
    go : (h : HeaderRead) → Marked (title_got h)
    go (named name) = value
    go none = refusal 16 1 (omega arith) (omega arith)

pub marked_value : (l : Line) → Marked (value_of l)
unfolding value_of
marked_value l = marked_cond (is_blank l) value (marked_cond (begins (bytes "$$$$") l) (refusal 17 1 (omega arith) (omega arith)) (go (header_of l)))
  where
    go : (h : HeaderRead) → Marked (not_header h)
    go (named name) = refusal 17 1 (omega arith) (omega arith)
    go none = value
