-- A text written from its lines, with an LF after each, reads as these lines.
use Rattle.std.specs.Prelude.{ℕ, ◌≤◌, ◌<◌, ◌≡◌, refl, ◌≢◌, List, [], ◌∷◌, ◌++◌, length}
use Rattle.std.proofs.Common.{arith, ap, append_assoc, length-append}
use Rattle.text.specs.Text.{Bytes, Line, LF, CR, Each, Without, Ended, Lines}
use Rattle.text.specs.Columns.{Allowed}
use Rattle.text.specs.First.{each_as}
use Rattle.text.specs.Cut.{cut, lines_cut}

unfoldable pub text : List Line → Bytes
text [] = []
text (l ∷ ls) = l ++ (LF ∷ text ls)

-- a line that can be written so: no LF in it and no CR at its end
pub record Plain (l : Line) : Type 0 where
  pub no_lf : Without LF l
  pub no_cr : (before : Bytes) → l ≢ before ++ (CR ∷ [])

unfoldable pub EachPlain : List Line → Type 0
EachPlain [] = Unit {0}
EachPlain (l ∷ ls) = Plain l × EachPlain ls

pub text_lines : (ls : List Line) → EachPlain ls → Lines (text ls) ls []
unfolding text EachPlain Each
text_lines [] h = Lines.unfinished tt
text_lines (l ∷ ls) h = Lines.line refl h.0.no_lf (Ended.lf h.0.no_cr) (text_lines ls h.1)

pub text_cut : (ls : List Line) → EachPlain ls → cut (text ls) ≡ record { lines = ls; rest = [] }
text_cut ls h = lines_cut (text_lines ls h)

pub text_append : (ls ms : List Line) → text (ls ++ ms) ≡ text ls ++ text ms
unfolding text
text_append [] ms = refl
text_append (l ∷ ls) ms = rw (text_append ls ms, append_assoc l (LF ∷ text ls) (text ms))

-- allowed bytes are neither LF nor CR
low_byte : (k : ℕ) → k < 32 → (b : ℕ) → Allowed b → b ≢ k
low_byte k h b a e = let low : 32 ≤ b = a.0 in omega arith

no_last : (l before : Bytes) → Without CR l → l ≢ before ++ (CR ∷ [])
unfolding Each
no_last [] before w e = omega (arith, length-append before (CR ∷ []), ap length e)
no_last (b ∷ l) [] w e = w.0 cc
no_last (b ∷ l) (x ∷ before) w e = no_last l before w.1 cc

pub allowed_plain : (l : Line) → Each Allowed l → Plain l
allowed_plain l a =
    record {
      no_lf = each_as l (low_byte LF (omega arith)) a;
      no_cr = λ before. no_last l before (each_as l (low_byte CR (omega arith)) a);
    }

unfoldable pub EachAllowed : List Line → Type 0
EachAllowed [] = Unit {0}
EachAllowed (l ∷ ls) = Each Allowed l × EachAllowed ls

pub all_plain : (ls : List Line) → EachAllowed ls → EachPlain ls
unfolding EachAllowed EachPlain
all_plain [] h = tt
all_plain (l ∷ ls) h = (allowed_plain l h.0, all_plain ls h.1)
