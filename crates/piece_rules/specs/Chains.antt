-- Chains of bonds: turned round, put together, and with a bond more.
use Rattle.std.specs.Prelude.{ℕ, ◌+◌, ◌≤◌, ◌≡◌, refl, ◌⊎◌, List, [], ◌∷◌, ◌++◌}
use Rattle.std.proofs.Common.{le_antisymm, arith, sym, subst, inl, inr}
use Rattle.rules.specs.Forms.{Bond}
use Rattle.piece_rules.specs.Pieces.{Bonded, along, against, later, Chain, here, step, Lowest, Inside}

bonded_back : {bs : List Bond} {x y : ℕ} → Bonded bs x y → Bonded bs y x
bonded_back (along e f) = against e f
bonded_back (against e f) = along e f
bonded_back (later h) = later (bonded_back h)

-- ---- Chains

pub chain_on : {bs : List Bond} {a b c : ℕ} → Chain bs a b → Chain bs b c → Chain bs a c
chain_on {bs} {a} {b} {c} (here e) k = subst (λ (x : ℕ). Chain bs x c) (sym e) k
chain_on (step h r) k = step h (chain_on r k)

pub chain_back : {bs : List Bond} {a c : ℕ} → Chain bs a c → Chain bs c a
chain_back (here e) = here (sym e)
chain_back (step h r) = chain_on (chain_back r) (step (bonded_back h) (here refl))

pub chain_more : {bs cs : List Bond} {a c : ℕ} → ((x y : ℕ) → Bonded bs x y → Bonded cs x y) → Chain bs a c → Chain cs a c
chain_more f (here e) = here e
chain_more f (step {a = a} {b = b} h r) = step (f a b h) (chain_more f r)

-- ---- A bond more at the end

pub bonded_before : (bs cs : List Bond) {x y : ℕ} → Bonded bs x y → Bonded (bs ++ cs) x y
bonded_before [] cs h = elim h [ ]
bonded_before (b ∷ bs) cs (along e f) = along e f
bonded_before (b ∷ bs) cs (against e f) = against e f
bonded_before (b ∷ bs) cs (later h) = later (bonded_before bs cs h)

pub bonded_last : (bs cs : List Bond) {x y : ℕ} → Bonded cs x y → Bonded (bs ++ cs) x y
bonded_last [] cs h = h
bonded_last (b ∷ bs) cs h = later (bonded_last bs cs h)

pub bonded_either : (bs cs : List Bond) {x y : ℕ} → Bonded (bs ++ cs) x y → Bonded bs x y ⊎ Bonded cs x y
bonded_either [] cs h = inr h
bonded_either (b ∷ bs) cs (along e f) = inl (along e f)
bonded_either (b ∷ bs) cs (against e f) = inl (against e f)
bonded_either (b ∷ bs) cs {x = x} {y = y} (later h) = go (bonded_either bs cs h)
  where
    go : Bonded bs x y ⊎ Bonded cs x y → Bonded (b ∷ bs) x y ⊎ Bonded cs x y
    go (inl k) = inl (later k)
    go (inr k) = inr k

-- ---- Bonds of atoms 1 to n reach atoms 1 to n

pub inside_ends : (n : ℕ) (bs : List Bond) {x y : ℕ} → Inside n bs → Bonded bs x y → (1 ≤ x) × (x ≤ n) × (1 ≤ y) × (y ≤ n)
unfolding Inside
inside_ends n [] i h = elim h [ ]
inside_ends n (b ∷ bs) i (along e f) = (omega (arith, i.0), omega (arith, i.0), omega (arith, i.0), omega (arith, i.0))
inside_ends n (b ∷ bs) i (against e f) = (omega (arith, i.0), omega (arith, i.0), omega (arith, i.0), omega (arith, i.0))
inside_ends n (b ∷ bs) i (later h) = inside_ends n bs i.1 h

-- ---- One lowest

pub one_lowest : {bs : List Bond} {a l k : ℕ} → Lowest bs a l → Lowest bs a k → l ≡ k
one_lowest {bs} {a} {l} {k} h j = le_antisymm (h.least k j.chain) (j.least l h.chain)

-- atoms that a chain joins have the same lowest
pub lowest_along : {bs : List Bond} {a c l : ℕ} → Chain bs a c → Lowest bs c l → Lowest bs a l
lowest_along k h = record { chain = chain_on k h.chain; least = λ x q. h.least x (chain_on (chain_back k) q) }

-- in one piece exactly if a chain joins
pub same_lowest : {bs : List Bond} {a c l k : ℕ} → Lowest bs a l → Lowest bs c k → (l ≡ k → Chain bs a c) × (Chain bs a c → l ≡ k)
same_lowest {bs} {a} {c} {l} {k} h j = (
  λ e. chain_on h.chain (chain_back (subst (Chain bs c) (sym e) j.chain)),
  λ q. one_lowest h (lowest_along q j),
)
