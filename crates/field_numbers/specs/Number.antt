-- Integer fields: which columns stand for which number.
use Rattle.std.specs.Prelude.{ℕ, suc, ◌+◌, ◌*◌, ◌-◌, ◌≤◌, ◌≡◌, List, [], ◌∷◌, ◌++◌, Bool, true, false, length, ℤ, pos, negsuc, neg_ℤ}
use Rattle.text.specs.Text.{Bytes, Line, bytes, byte, Each}
use Rattle.text.specs.Columns.{columns, spaces}

abbrev pub Digit : ℕ → Type 0
Digit b = (byte "0" ≤ b) × (b ≤ byte "9")

-- the number whose digits are those of k and then these
unfoldable pub decimal_after : ℕ → Bytes → ℕ
decimal_after k [] = k
decimal_after k (d ∷ ds) = decimal_after (k * 10 + (d - byte "0")) ds

-- one digit or more, and the number they stand for
pub record Digits (ds : Bytes) (k : ℕ) : Type 0 where
  pub some : 1 ≤ length ds
  pub each : Each Digit ds
  pub number : k ≡ decimal_after 0 ds

-- All spaces stand for zero. Else spaces come first, then a `+` or a `-` or none, the signs only if the range has negatives, then digits, then spaces.
pub data Integer (negatives : Bool) : Bytes → ℤ → Type 0 where
  blank : {cs : Bytes} (i : ℕ) → cs ≡ spaces i → Integer negatives cs (pos 0)
  plain : {cs : Bytes} (i : ℕ) (ds : Bytes) (j k : ℕ) → cs ≡ spaces i ++ (ds ++ spaces j) → Digits ds k → Integer negatives cs (pos k)
  plus : {cs : Bytes} (i : ℕ) (ds : Bytes) (j k : ℕ) →
      negatives ≡ true → cs ≡ spaces i ++ (bytes "+" ++ (ds ++ spaces j)) → Digits ds k → Integer negatives cs (pos k)
  minus : {cs : Bytes} (i : ℕ) (ds : Bytes) (j k : ℕ) →
      negatives ≡ true → cs ≡ spaces i ++ (bytes "-" ++ (ds ++ spaces j)) → Digits ds k → Integer negatives cs (neg_ℤ (pos k))

-- columns i to j hold the number k, from `least` to `most`
pub record Number (l : Line) (i j : ℕ) (least most : ℕ) (k : ℕ) : Type 0 where
  pub field : Integer false (columns l i j) (pos k)
  pub low : least ≤ k
  pub high : k ≤ most

-- from minus `below` to `above`
abbrev pub Between : ℕ → ℕ → ℤ → Type 0
Between below above (pos k) = k ≤ above
Between below above (negsuc k) = suc k ≤ below

-- columns i to j hold the number z of a range with negatives, from minus `below` to `above`
pub record Signed (l : Line) (i j : ℕ) (below above : ℕ) (z : ℤ) : Type 0 where
  pub field : Integer true (columns l i j) z
  pub range : Between below above z

-- x is one of the list
pub data OneOf {A : Type 0} (x : A) : List A → Type 0 where
  this : {xs : List A} → OneOf x (x ∷ xs)
  later : {y : A} {xs : List A} → OneOf x xs → OneOf x (y ∷ xs)

-- columns i to j hold the number k, one of a list
pub record Listed (l : Line) (i j : ℕ) (list : List ℕ) (k : ℕ) : Type 0 where
  pub field : Integer false (columns l i j) (pos k)
  pub listed : OneOf k list

-- columns i to j hold the number z, one of a list that has negatives
pub record SignedListed (l : Line) (i j : ℕ) (list : List ℤ) (z : ℤ) : Type 0 where
  pub field : Integer true (columns l i j) z
  pub listed : OneOf z list
