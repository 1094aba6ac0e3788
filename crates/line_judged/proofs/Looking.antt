-- Laws of the looks at a good line.
use Rattle.std.specs.Prelude.{Some}
use Prim.Native.Nat.{ℕ, ◌+◌, ◌-◌, ◌*◌, ◌<◌, ◌^◌}
use native.Mathlib.Omega.{arith}
use mathlib.Core.Path.{◌≡◌, refl, sym, ap, ◌∙◌}
use mathlib.Core.Bool.{true, false}
use lib.ListN.{length, get_or, drop, length-drop}
use mir.Syntax.{w64}
use mir.Val.{Fits}
use borrow.Author.Tests.{eq-eqb, ne_eqb}
use Rattle.text.specs.Text.{Bytes, Line}
use Rattle.text.specs.Find.{first_from}
use Rattle.text.specs.First.{first_hit, first_miss, first_within}
use Rattle.line_judged.specs.Known.{ends, whole_inside, whole_empty, whole_cr, whole_lf, Header, Stands, is_byte, opening, open_low, closing, named, end_told, header_told}

-- ---- A whole line

module _ (s : Bytes) (at k : ℕ) (e : first_from (is_byte 10) at (drop at s) ≡ Some k) where
  pub whole_fits : length s * 1 < 2 ^ 63 → Fits w64 (k + 1)
  whole_fits h = record { fits = omega (arith, whole_inside s at k e) }

  pub whole_before : at < k → k - 1 < length s
  whole_before h = omega (arith, whole_inside s at k e)

pub ruleset whole_laws = (ends, whole_fits, whole_before, whole_empty, whole_cr, whole_lf)

pub ruleset end_laws = (end_told, header_told)

-- ---- A byte that is known to stand

pub record Seeking (b : ℕ) (l : Line) (at i : ℕ) : Type 0 where
  pub place : ℕ
  pub is : first_from (is_byte b) i (drop i l) ≡ Some place
  pub same : first_from (is_byte b) at (drop at l) ≡ first_from (is_byte b) i (drop i l)

pub seeking_start : (b : ℕ) (l : Line) (at : ℕ) → Stands b l at → Seeking b l at at
seeking_start b l at g = record { place = g.place; is = g.is; same = refl }

module _ (b : ℕ) (l : Line) (at i : ℕ) (g : Seeking b l at i) where
  pub seeking_inside : i < length l
  seeking_inside = let w = first_within (is_byte b) i g.place (drop i l) g.is in omega (arith, w.0, w.1, length-drop i l)

  pub seeking_less : length l - (i + 1) < length l - i
  seeking_less = omega (arith, seeking_inside)

  pub seeking_fits : length l * 1 < 2 ^ 63 → Fits w64 (i + 1)
  seeking_fits h = record { fits = omega (arith, seeking_inside) }

  pub seeking_hit : get_or l i 0 ≡ b → first_from (is_byte b) at (drop at l) ≡ Some i
  seeking_hit h = g.same ∙ first_hit (is_byte b) l i i seeking_inside (eq-eqb (get_or l i 0) b h)

  pub seeking_next : (get_or l i 0 ≡ b → ⊥) → Seeking b l at (i + 1)
  seeking_next h =
      let m = first_miss (is_byte b) l i i seeking_inside (ne_eqb (get_or l i 0) b h) in
      record { place = g.place; is = sym m ∙ g.is; same = g.same ∙ m }

pub ruleset seeking_laws = (seeking_start, seeking_inside, seeking_less, seeking_fits, seeking_hit, seeking_next)

pub open_fits : (l : Line) → Header l → (o : ℕ) → first_from (is_byte 60) 1 (drop 1 l) ≡ Some o → length l * 1 < 2 ^ 63 → Fits w64 (o + 1)
open_fits l g o e h = record { fits = omega (arith, open_low l g o e) }

pub ruleset name_laws = (opening, open_fits, closing, named)
