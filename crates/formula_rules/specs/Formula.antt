-- The rules: which stretches of a text are symbols, counts, groups and units. Positions a to e: from a up to but not with e.
use Rattle.std.specs.Prelude.{ℕ, ◌+◌, ◌*◌, ◌-◌, ◌≤◌, ◌≡◌, [], ◌∷◌, Bool, true, ◌&&◌, leb, length, get_or}
use Rattle.text.specs.Text.{Bytes, bytes}
use Rattle.field_symbols.specs.Symbol.{name}

-- the byte at a position; 0 past the end
abbrev pub byte_at : Bytes → ℕ → ℕ
byte_at s i = get_or s i 0

unfoldable pub between : ℕ → ℕ → ℕ → Bool
between low high b = leb low b && leb b high

abbrev pub is_digit : ℕ → Bool
is_digit b = between 48 57 b

-- the elements are the first 118 of the names that an atom can have
abbrev pub elements : ℕ
elements = 118

pub record Element (k : ℕ) : Type 0 where
  pub low : 1 ≤ k
  pub high : k ≤ elements

-- what a formula stands for
mutual
  pub data Tree : Type 0 where
    atom : ℕ → ℕ → Tree  -- element, count
    group : Trees → ℕ → Tree

  pub data Trees : Type 0 where
    none : Trees
    more : Tree → Trees → Trees

-- no count is 1; else 2 to 999 without leading zeros
pub data Count (s : Bytes) : ℕ → ℕ → ℕ → Type 0 where
  none : {a : ℕ} → Count s a a 1
  one : {a : ℕ} → between 50 57 (byte_at s a) ≡ true → Count s a (a + 1) (byte_at s a - 48)
  two : {a : ℕ} → between 49 57 (byte_at s a) ≡ true → is_digit (byte_at s (a + 1)) ≡ true → Count s a (a + 2) (10 * (byte_at s a - 48) + (byte_at s (a + 1) - 48))
  three : {a : ℕ} → between 49 57 (byte_at s a) ≡ true → is_digit (byte_at s (a + 1)) ≡ true → is_digit (byte_at s (a + 2)) ≡ true →
      Count s a (a + 3) (100 * (byte_at s a - 48) + 10 * (byte_at s (a + 1) - 48) + (byte_at s (a + 2) - 48))

-- the name of an element, of one or two letters. Nothing says that the longer name is meant: no unit starts with a small letter.
pub data Symbol (s : Bytes) : ℕ → ℕ → ℕ → Type 0 where
  short : {a k : ℕ} → Element k → bytes (name k) ≡ byte_at s a ∷ [] → Symbol s a (a + 1) k
  long : {a k : ℕ} → Element k → bytes (name k) ≡ byte_at s a ∷ byte_at s (a + 1) ∷ [] → Symbol s a (a + 2) k

mutual
  pub data Unit (s : Bytes) : ℕ → ℕ → Tree → Type 0 where
    symbol : {a m e k c : ℕ} → Symbol s a m k → Count s m e c → Unit s a e (atom k c)
    grouped : {a m e c : ℕ} {ts : Trees} → byte_at s a ≡ 40 → Units s (a + 1) m ts → byte_at s m ≡ 41 → Count s (m + 1) e c → Unit s a e (group ts c)

  -- one or more
  pub data Units (s : Bytes) : ℕ → ℕ → Trees → Type 0 where
    last : {a e : ℕ} {t : Tree} → Unit s a e t → Units s a e (more t none)
    next : {a m e : ℕ} {t : Tree} {ts : Trees} → Unit s a m t → Units s m e ts → Units s a e (more t ts)

-- the whole text is one or more units
abbrev pub Formula : Bytes → Trees → Type 0
Formula s ts = Units s 0 (length s) ts
