-- How long the mended text and the list can get.
use Rattle.std.specs.Prelude.{ℕ, ◌+◌, ◌*◌, ◌≤◌, ◌≡◌, refl, List, [], ◌∷◌, ◌++◌, length}
use Rattle.std.proofs.Common.{arith, sym, ap, ◌∙◌, append-nil, append_assoc, length-append}
use Rattle.text.specs.Text.{Bytes, LF}
use Rattle.text.specs.Cut.{split}
use Rattle.mend_rules.specs.Mend.{Action, keep, put, lose, applied}
use Rattle.mend_rules.specs.Text.{tail_of, pieces, joined, actions, mended_pieces, mended_text, joined_split}

pub joined_append : (a b : List Bytes) → joined (a ++ b) ≡ joined a ++ joined b
unfolding joined
joined_append [] b = refl
joined_append (r ∷ a) b = rw (joined_append a b) (sym (append_assoc r (LF ∷ joined a) (joined b)))

-- each line has its LF
pub joined_many : (rs : List Bytes) → length rs ≤ length (joined rs)
unfolding joined
joined_many [] = omega arith
joined_many (r ∷ rs) = omega (arith, joined_many rs, length-append r (LF ∷ joined rs))

tail_size : (ls : List Bytes) (r : Bytes) → (length (joined (ls ++ tail_of r)) ≤ length (joined ls) + length r + 1) × (length (ls ++ tail_of r) ≤ length (joined ls) + length r)
unfolding joined
tail_size ls [] = rw (append-nil ls) (omega arith, omega (arith, joined_many ls))
tail_size ls (b ∷ r) = (
  omega (arith, ap length (joined_append ls ((b ∷ r) ∷ [])), length-append (joined ls) (joined ((b ∷ r) ∷ [])), length-append r (LF ∷ [])),
  omega (arith, joined_many ls, length-append ls ((b ∷ r) ∷ [])),
)

pub pieces_size : (s : Bytes) → (length (joined (pieces s)) ≤ length s + 1) × (length (pieces s) ≤ length s)
unfolding pieces
pieces_size s =
    let t = tail_size (split s).lines (split s).rest in
    let l : length (joined (split s).lines) + length (split s).rest ≡ length s =
    sym (length-append (joined (split s).lines) (split s).rest) ∙ ap length (joined_split s) in
    (omega (arith, t.0), omega (arith, t.1))

-- at most one line more for each line
applied_size : (t : List Action) (ls : List Bytes) → (length (joined (applied t ls)) ≤ length (joined ls) + length ls) × (length (applied t ls) ≤ 2 * length ls)
unfolding applied joined
applied_size [] ls = (omega arith, omega arith)
applied_size (a ∷ t) [] = (omega arith, omega arith)
applied_size (keep ∷ t) (l ∷ ls) =
    let r = applied_size t ls in
    (omega (arith, r.0, length-append l (LF ∷ joined (applied t ls)), length-append l (LF ∷ joined ls)), omega (arith, r.1))
applied_size (put ∷ t) (l ∷ ls) =
    let r = applied_size t ls in
    (omega (arith, r.0, length-append l (LF ∷ joined (applied t ls)), length-append l (LF ∷ joined ls)), omega (arith, r.1))
applied_size (lose ∷ t) (l ∷ ls) =
    let r = applied_size t ls in
    (omega (arith, r.0, length-append l (LF ∷ joined ls)), omega (arith, r.1))

pub text_size : (limit : ℕ) (s : Bytes) → (length (mended_text limit s) ≤ 2 * length s + 1) × (length (mended_pieces limit s) ≤ 2 * length s)
unfolding mended_text mended_pieces
text_size limit s =
    let a = applied_size (actions limit s) (pieces s) in
    let p = pieces_size s in
    (omega (arith, a.0, p.0, p.1), omega (arith, a.1, p.1))
