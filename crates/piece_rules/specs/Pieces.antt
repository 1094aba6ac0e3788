-- The separate pieces of a record: two atoms are in one piece if a chain of bonds joins them, whatever the types of the bonds.
use Rattle.std.specs.Prelude.{ℕ, suc, ◌+◌, ◌≤◌, ◌<◌, ◌≡◌, List, [], ◌∷◌, get_or, take}
use Rattle.rules.specs.Forms.{Bond}

-- a bond of the list joins x and y, in either direction
pub data Bonded : List Bond → ℕ → ℕ → Type 0 where
  along : {b : Bond} {bs : List Bond} {x y : ℕ} → b.first ≡ x → b.second ≡ y → Bonded (b ∷ bs) x y
  against : {b : Bond} {bs : List Bond} {x y : ℕ} → b.first ≡ y → b.second ≡ x → Bonded (b ∷ bs) x y
  later : {b : Bond} {bs : List Bond} {x y : ℕ} → Bonded bs x y → Bonded (b ∷ bs) x y

-- a chain of bonds joins a and c
pub data Chain (bs : List Bond) : ℕ → ℕ → Type 0 where
  here : {a c : ℕ} → a ≡ c → Chain bs a c
  step : {a b c : ℕ} → Bonded bs a b → Chain bs b c → Chain bs a c

-- l is the lowest atom of the piece of a
pub record Lowest (bs : List Bond) (a l : ℕ) : Type 0 where
  pub chain : Chain bs a l
  pub least : (c : ℕ) → Chain bs a c → l ≤ c

-- exactly s of the atoms 1 to n are such
pub data Number (P : ℕ → Type 0) : ℕ → ℕ → Type 0 where
  none : Number P 0 0
  one : {n s : ℕ} → P (suc n) → Number P n s → Number P (suc n) (suc s)
  other : {n s : ℕ} → (P (suc n) → ⊥) → Number P n s → Number P (suc n) s

-- the pieces whose lowest atom is above i: their lowest atoms, rising, and their sizes
pub data PiecesAbove (bs : List Bond) (n : ℕ) : ℕ → List ℕ → List ℕ → Type 0 where
  done : {i : ℕ} → i ≡ n → PiecesAbove bs n i [] []
  piece : {i s : ℕ} {hs ss : List ℕ} → Lowest bs (suc i) (suc i) → Number (λ a. Lowest bs a (suc i)) n s → PiecesAbove bs n (suc i) hs ss →
      PiecesAbove bs n i (suc i ∷ hs) (s ∷ ss)
  inside : {i : ℕ} {hs ss : List ℕ} → (Lowest bs (suc i) (suc i) → ⊥) → PiecesAbove bs n (suc i) hs ss → PiecesAbove bs n i hs ss

-- all pieces of n atoms
abbrev pub Pieces : List Bond → ℕ → List ℕ → List ℕ → Type 0
Pieces bs n hs ss = PiecesAbove bs n 0 hs ss

unfoldable pub sum : List ℕ → ℕ
sum [] = 0
sum (x ∷ xs) = x + sum xs

-- the answer: each atom's lowest, the pieces with their sizes, and nothing behind
pub record Split (n : ℕ) (bs : List Bond) (labels heads sizes : List ℕ) (count : ℕ) : Type 0 where
  pub lowest : (i : ℕ) → i < n → Lowest bs (i + 1) (get_or labels i 0)
  pub no_label : (i : ℕ) → n ≤ i → get_or labels i 0 ≡ 0
  pub pieces : Pieces bs n (take count heads) (take count sizes)
  pub adds_up : sum (take count sizes) ≡ n
  pub no_head : (i : ℕ) → count ≤ i → get_or heads i 0 ≡ 0
  pub no_size : (i : ℕ) → count ≤ i → get_or sizes i 0 ≡ 0
  pub few : count ≤ n

-- the bonds join atoms 1 to n
unfoldable pub Inside : ℕ → List Bond → Type 0
Inside n [] = Unit {0}
Inside n (b ∷ bs) = ((1 ≤ b.first) × (b.first ≤ n) × (1 ≤ b.second) × (b.second ≤ n)) × Inside n bs
