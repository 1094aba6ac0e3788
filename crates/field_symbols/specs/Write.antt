-- The three columns that are written for a symbol's number.
use Rattle.std.specs.Prelude.{Some, ℕ, ◌-◌, ◌≤◌, ◌≡◌, refl, [], ◌∷◌, Bool, true, false, ◌&&◌, leb, length}
use Prim.Native.String.{String}
use Rattle.std.proofs.Math.ListN.{get_or-eq_default}
use Rattle.std.proofs.Common.{leb-true, leb-false}
use Rattle.text.specs.Text.{Bytes, bytes, Each}
use Rattle.text.specs.Columns.{columns, columns_for, Allowed}
use Rattle.field_symbols.specs.Symbol.{names, name, symbols_all, Symbol}
use Rattle.field_symbols.specs.Read.{symbol_in}
use Rattle.text.specs.Laws.{and_true}
use Rattle.field_symbols.specs.Table.{passes, passes_at}
use Rattle.field_symbols.specs.Agree.{symbol_agrees}

unfoldable pub symbol_text : ℕ → Bytes
symbol_text k = columns (bytes (name k)) 1 3

-- ---- Written and read are each other's inverse

pub symbol_back : (k : ℕ) → 1 ≤ k → k ≤ symbols_all → Symbol (symbol_text k) k
unfolding symbol_text
symbol_back k lo hi = record { low = lo; high = hi; text = refl }

pub symbol_is : {cs : Bytes} {k : ℕ} → Symbol cs k → cs ≡ symbol_text k
unfolding symbol_text
symbol_is s = s.text

pub symbol_read : (k : ℕ) → 1 ≤ k → k ≤ symbols_all → symbol_in (symbol_text k) ≡ Some k
symbol_read k lo hi = (symbol_agrees (symbol_text k) k).1 (symbol_back k lo hi)

-- ---- What is written

pub symbol_length : (k : ℕ) → length (symbol_text k) ≡ 3
unfolding symbol_text columns_for
symbol_length k = refl

allowed? : Bytes → Bool
allowed? [] = true
allowed? (b ∷ bs) = (leb 32 b && leb b 126) && allowed? bs

each_allowed : (bs : Bytes) → allowed? bs ≡ true → Each Allowed bs
unfolding allowed? Each
each_allowed [] h = tt
each_allowed (b ∷ bs) h =
    let t = and_true (leb 32 b && leb b 126) (allowed? bs) h in
    let u = and_true (leb 32 b) (leb b 126) t.0 in
    ((leb-true 32 b u.0, leb-true b 126 u.1), each_allowed bs t.1)

writes_allowed : ℕ → String → Bool
writes_allowed i s = allowed? (columns (bytes s) 1 3)

all_allowed : passes writes_allowed 0 names ≡ true
unfolding passes writes_allowed allowed? columns_for
all_allowed = refl

pub symbol_allowed : (k : ℕ) → Each Allowed (symbol_text k)
unfolding symbol_text writes_allowed columns_for allowed?
symbol_allowed k = each_allowed (columns (bytes (name k)) 1 3) (go (leb symbols_all (k - 1)) refl)
  where
    go : (t : Bool) → leb symbols_all (k - 1) ≡ t → allowed? (columns (bytes (name k)) 1 3) ≡ true
    go true e = rw (get_or-eq_default names "" (leb-true symbols_all (k - 1) e))
    go false e = passes_at writes_allowed "" names 0 (k - 1) all_allowed (leb-false symbols_all (k - 1) e)
