-- One answer: two splits of the same atoms and bonds are the same, in all their numbers.
use Rattle.std.specs.Prelude.{ℕ, suc, ◌≤◌, ◌≡◌, refl, List, ◌∷◌, Bool, true, false, ltb, length, get_or, take}
use Rattle.std.proofs.Common.{arith, sym, ap, ap₂, ◌∙◌, subst, ext_get_or, get_or-take, length-take-le, ltb-true, ltb-false}
use Rattle.rules.specs.Forms.{Bond}
use Rattle.rules.specs.Record.{limit}
use Rattle.piece_rules.specs.Pieces.{Number, none, one, other, PiecesAbove, done, piece, inside, Split}
use Rattle.piece_rules.specs.Chains.{one_lowest}

one_number : {P : ℕ → Type 0} {n s t : ℕ} → Number P n s → Number P n t → s ≡ t
one_number none none = refl
one_number (one p h) (one q k) = ap suc (one_number h k)
one_number (one p h) (other q k) = absurd (q p)
one_number (other p h) (one q k) = absurd (p q)
one_number (other p h) (other q k) = one_number h k

above_within : {bs : List Bond} {n i : ℕ} {hs ss : List ℕ} → PiecesAbove bs n i hs ss → i ≤ n
above_within (done e) = omega arith
above_within (piece l s r) = omega (arith, above_within r)
above_within (inside l r) = omega (arith, above_within r)

pub one_pieces : {bs : List Bond} {n i : ℕ} {hs ks ss ts : List ℕ} → PiecesAbove bs n i hs ss → PiecesAbove bs n i ks ts → (hs ≡ ks) × (ss ≡ ts)
one_pieces (done e) (done f) = (refl, refl)
one_pieces (done e) (piece l s r) = absurd (omega (arith, above_within r))
one_pieces (done e) (inside l r) = absurd (omega (arith, above_within r))
one_pieces (piece l s r) (done f) = absurd (omega (arith, above_within r))
one_pieces {i = i} (piece l s r) (piece m t q) =
    let e = one_pieces r q in (ap (λ (xs : List ℕ). suc i ∷ xs) e.0, ap₂ (λ (x : ℕ) (xs : List ℕ). x ∷ xs) (one_number s t) e.1)
one_pieces (piece l s r) (inside m q) = absurd (m l)
one_pieces (inside l r) (done f) = absurd (omega (arith, above_within r))
one_pieces (inside l r) (piece m t q) = absurd (l m)
one_pieces (inside l r) (inside m q) = one_pieces r q

-- a row is its first numbers and zeros
one_row : (xs ys : List ℕ) (count : ℕ) → length xs ≡ length ys → take count xs ≡ take count ys → ((j : ℕ) → count ≤ j → get_or xs j 0 ≡ 0) →
    ((j : ℕ) → count ≤ j → get_or ys j 0 ≡ 0) → xs ≡ ys
one_row xs ys count l e p q = ext_get_or 0 xs ys l (λ i h. go i (ltb i count) refl)
  where
    go : (i : ℕ) (t : Bool) → ltb i count ≡ t → get_or xs i 0 ≡ get_or ys i 0
    go i true s =
        let b = ltb-true i count s in sym (get_or-take count xs i 0 b) ∙ ap (λ (zs : List ℕ). get_or zs i 0) e ∙ get_or-take count ys i 0 b
    go i false s = let b = ltb-false i count s in p i b ∙ sym (q i b)

module _ (n : ℕ) (bs : List Bond) (ls ms hs ks ss ts : List ℕ) (c d : ℕ) (small : n ≤ limit)
    (label_room : (length ls ≡ limit) × (length ms ≡ limit)) (head_room : (length hs ≡ limit) × (length ks ≡ limit))
    (size_room : (length ss ≡ limit) × (length ts ≡ limit)) (g : Split n bs ls hs ss c) (f : Split n bs ms ks ts d) where
  pub one_labels : ls ≡ ms
  one_labels = ext_get_or 0 ls ms (label_room.0 ∙ sym label_room.1) (λ i h. go i (ltb i n) refl)
    where
      go : (i : ℕ) (t : Bool) → ltb i n ≡ t → get_or ls i 0 ≡ get_or ms i 0
      go i true s = one_lowest (g.lowest i (ltb-true i n s)) (f.lowest i (ltb-true i n s))
      go i false s = g.no_label i (ltb-false i n s) ∙ sym (f.no_label i (ltb-false i n s))

  taken : (take c hs ≡ take d ks) × (take c ss ≡ take d ts)
  taken = one_pieces g.pieces f.pieces

  pub one_count : c ≡ d
  one_count =
      sym (length-take-le c hs (omega (arith, g.few, head_room.0))) ∙ ap length taken.0 ∙ length-take-le d ks (omega (arith, f.few, head_room.1))

  pub one_heads : hs ≡ ks
  one_heads =
      one_row hs ks c (head_room.0 ∙ sym head_room.1) (taken.0 ∙ ap (λ (x : ℕ). take x ks) (sym one_count)) g.no_head
      (subst (λ (x : ℕ). (j : ℕ) → x ≤ j → get_or ks j 0 ≡ 0) (sym one_count) f.no_head)

  pub one_sizes : ss ≡ ts
  one_sizes =
      one_row ss ts c (size_room.0 ∙ sym size_room.1) (taken.1 ∙ ap (λ (x : ℕ). take x ts) (sym one_count)) g.no_size
      (subst (λ (x : ℕ). (j : ℕ) → x ≤ j → get_or ts j 0 ≡ 0) (sym one_count) f.no_size)

-- no atoms, no pieces
pub no_atoms_lem : (bs : List Bond) (ls hs ss : List ℕ) (c : ℕ) → Split 0 bs ls hs ss c → c ≡ 0
no_atoms_lem bs ls hs ss c g = omega (arith, g.few)
