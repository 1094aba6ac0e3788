-- The reading of a formula, computed.
use Rattle.std.specs.Prelude.{ℕ, zero, suc, ◌+◌, ◌*◌, ◌-◌, List, Bool, true, false, cond, ◌&&◌, eqb, ltb, length}
use Rattle.formula_rules.specs.Formula.{byte_at, is_digit, Tree, Trees, atom}
use Rattle.formula_rules.specs.Formula as F
use Rattle.formula_rules.specs.Bytes.{is_capital, is_small}
use Rattle.formula_rules.specs.Element.{element_of}

pub data CountRead : Type 0 where
  count : ℕ → ℕ → CountRead
  no : CountRead

pub data UnitRead : Type 0 where
  unit : ℕ → Tree → UnitRead
  no : UnitRead

pub data UnitsRead : Type 0 where
  units : ℕ → Trees → UnitsRead
  no : UnitsRead

unfoldable pub count_at : List ℕ → ℕ → CountRead
count_at s a =
    cond (is_digit (byte_at s a))
    (cond (eqb (byte_at s a) 48) CountRead.no
    (cond (is_digit (byte_at s (a + 1)))
    (cond (is_digit (byte_at s (a + 2)))
    (cond (is_digit (byte_at s (a + 3))) CountRead.no (count (a + 3) (100 * (byte_at s a - 48) + 10 * (byte_at s (a + 1) - 48) + (byte_at s (a + 2) - 48))))
    (count (a + 2) (10 * (byte_at s a - 48) + (byte_at s (a + 1) - 48))))
    (cond (eqb (byte_at s a) 49) CountRead.no (count (a + 1) (byte_at s a - 48)))))
    (count a 1)

abbrev pub counted : (ℕ → Tree) → CountRead → UnitRead
counted t (count e c) = unit e (t c)
counted t CountRead.no = UnitRead.no

-- a small letter belongs to the symbol before it
unfoldable pub symbol_end : List ℕ → ℕ → ℕ
symbol_end s a = cond (is_small (byte_at s (a + 1))) (a + 2) (a + 1)

unfoldable pub element_at : List ℕ → ℕ → ℕ
element_at s a = cond (is_small (byte_at s (a + 1))) (element_of (byte_at s a) (byte_at s (a + 1))) (element_of (byte_at s a) 32)

abbrev pub element_unit : ℕ → CountRead → UnitRead
element_unit zero r = UnitRead.no
element_unit (suc k) r = counted (atom (suc k)) r

unfoldable pub symbol_at : List ℕ → ℕ → UnitRead
symbol_at s a = element_unit (element_at s a) (count_at s (symbol_end s a))

-- units from a to e are one or more, and a closing parenthesis and a count follow
abbrev pub closed : List ℕ → ℕ → UnitsRead → UnitRead
closed s a (units e ts) = cond (ltb a e && eqb (byte_at s e) 41) (counted (F.group ts) (count_at s (e + 1))) UnitRead.no
closed s a UnitsRead.no = UnitRead.no

abbrev pub onto : Tree → UnitsRead → UnitsRead
onto t (units e ts) = units e (F.more t ts)
onto t UnitsRead.no = UnitsRead.no

abbrev pub after : UnitRead → (ℕ → UnitsRead) → UnitsRead
after (unit n t) k = onto t (k n)
after UnitRead.no k = UnitsRead.no

abbrev pub chosen : Bool → Bool → UnitRead → UnitRead → ℕ → (ℕ → UnitsRead) → UnitsRead
chosen true q g y a k = after g k
chosen false true g y a k = after y k
chosen false false g y a k = units a F.none

-- `f` bounds how many calls go into each other
unfoldable mutual
  -- as many units as stand from a on, groups nested to d
  pub units_by : ℕ → List ℕ → ℕ → ℕ → UnitsRead
  units_by zero s d a = UnitsRead.no
  units_by (suc f) s d a =
      chosen (eqb (byte_at s a) 40) (is_capital (byte_at s a)) (group_by f s d (a + 1)) (symbol_at s a) a (λ n. units_by f s d n)

  -- a group from behind its opening parenthesis
  pub group_by : ℕ → List ℕ → ℕ → ℕ → UnitRead
  group_by zero s d a = UnitRead.no
  group_by (suc f) s zero a = UnitRead.no
  group_by (suc f) s (suc d) a = closed s a (units_by f s d a)

-- bytes left and depth left: one of them falls at every call
abbrev pub enough : List ℕ → ℕ → ℕ → ℕ
enough s d a = suc (length s - a + d)

unfoldable pub units_of : List ℕ → ℕ → ℕ → UnitsRead
units_of s d a = units_by (enough s d a) s d a

unfoldable pub group_of : List ℕ → ℕ → ℕ → UnitRead
group_of s d a = group_by (enough s d a) s d a

abbrev pub whole_of : List ℕ → UnitsRead → Bool
whole_of s (units e ts) = cond (eqb e 0) false (eqb e (length s))
whole_of s UnitsRead.no = false

unfoldable pub formula_of : List ℕ → ℕ → Bool
formula_of s d = whole_of s (units_of s d 0)
