-- Rows given their meaning, as the code does it.
use Prim.Native.Nat.{ℕ, suc, ◌+◌, ◌*◌, ◌-◌, ◌^◌, ◌≤◌, ◌<◌}
use native.Mathlib.Omega.{arith}
use native.Mathlib.Numerals.{add-one}
use mathlib.Core.Path.{◌≡◌, refl, sym, ap, ◌∙◌}
use mathlib.Core.List.{List, [], ◌∷◌}
use mathlib.Core.Bool.{Bool, true, false}
use lib.ListN.{length, get_or}
use lib.Seq.{sets, length-sets}
use lib.IntN.{ℤ, pos}
use lib.Signed.{mag}
use mir.Val.{SFits, to_z, of_z}
use mir.Syntax.{w32}
use Rattle.rules.specs.Forms.{CHG, RAD, ISO}
use Rattle.rules.specs.Record.{limit}
use Rattle.line_property.specs.Listed.{places}
use Rattle.line_fields.specs.Steps.{hop}
use Rattle.reader_tables.specs.Mean.{any_after, codes_in, superseded_in, Kept, number_kept, charge_by, radical_by, mass_by, code_in, meant_row, meant_from, meant}
use Rattle.reader_tables.specs.declared.Superseded.{Superseded}

-- ---- what is superseded

module _ (t : List ℕ) (n : ℕ) where
  pub by_charges : (a : Bool) → a ≡ any_after 0 t n → a ≡ true → true ≡ codes_in n t
  by_charges a e h = rw (← e, h)

  pub by_radicals : (a b : Bool) → a ≡ any_after 0 t n → a ≡ false → b ≡ any_after places t n → b ≡ codes_in n t
  by_radicals a b e h f = rw (← e, h) f

  pub superseded_made : (a b : Bool) → a ≡ codes_in n t → b ≡ any_after (2 * places) t n → ◌≡◌ {A = Superseded} (record { codes = a; masses = b }) (superseded_in n t)
  superseded_made a b e f = rw (e, f)

-- ---- one row

module _ (t : List ℕ) (i : ℕ) (g : Kept (i + 1) t) where
  pub charge_small : get_or t (i + 1) 0 ≤ 1015
  charge_small = let e : 0 + (i + 1) ≡ i + 1 = omega arith in rw e at (g.small CHG (i + 1) (omega arith))

  pub radical_small : get_or t (places + (i + 1)) 0 ≤ 1015
  radical_small = g.small RAD (i + 1) (omega arith)

  pub isotope_small : get_or t (2 * places + (i + 1)) 0 ≤ 1015
  isotope_small = g.small ISO (i + 1) (omega arith)

pub ruleset small_places = (charge_small, radical_small, isotope_small)

-- an element of a table, as a local holds it
local_is : (z : ℤ) → mag z < 2 ^ 31 → to_z w32 (of_z w32 z) ≡ z
local_is z h = hop z (record { sfits = h })

pub row_meant : (t u : List ℤ) (listed : List ℕ) (over : Superseded) (i : ℕ) (m c r s : ℤ) →
    mag (get_or t (16 * i + 4) (pos 0)) < 2 ^ 31 → mag (get_or t (16 * i + 5) (pos 0)) < 2 ^ 31 →
    SFits w32 m → SFits w32 c → SFits w32 r → SFits w32 s →
    m ≡ mass_by over (to_z w32 (of_z w32 (get_or t (16 * i + 4) (pos 0)))) →
    c ≡ charge_by over (code_in (to_z w32 (of_z w32 (get_or t (16 * i + 5) (pos 0))))) (number_kept (get_or listed (i + 1) 0)) →
    r ≡ radical_by over (code_in (to_z w32 (of_z w32 (get_or t (16 * i + 5) (pos 0))))) (number_kept (get_or listed (places + (i + 1)) 0)) →
    s ≡ number_kept (get_or listed (2 * places + (i + 1)) 0) →
    u ≡ sets t (16 * i + 4) (to_z w32 (of_z w32 m) ∷ to_z w32 (of_z w32 c) ∷ to_z w32 (of_z w32 r) ∷ to_z w32 (of_z w32 s) ∷ []) →
    u ≡ meant_row over listed i t
row_meant t u listed over i m c r s x y fm fc fr fs em ec er es e =
    let z : 0 + (i + 1) ≡ i + 1 = omega arith in
    e ∙ rw (hop m fm, hop c fc, hop r fr, hop s fs, em, ec, er, es, local_is _ x, local_is _ y, z)

-- ---- row after row

pub record Meaning (t₀ t : List ℤ) (listed : List ℕ) (over : Superseded) (n i : ℕ) : Type 0 where
  pub few : n ≤ limit
  pub room : 16 * n ≤ length t
  pub kept : Kept n listed
  pub within : i ≤ n
  pub size : length t ≡ length t₀
  pub over_is : over ≡ superseded_in n listed
  pub same : meant_from over listed 0 n t₀ ≡ meant_from over listed i (n - i) t

pub meaning_start : (t : List ℤ) (listed : List ℕ) (over : Superseded) (n : ℕ) → n ≤ limit → 16 * n ≤ length t → Kept n listed → over ≡ superseded_in n listed → Meaning t t listed over n 0
meaning_start t listed over n h k g e =
    let z : n - 0 ≡ n = omega arith in
    record { few = h; room = k; kept = g; within = omega arith; size = refl; over_is = e; same = rw z }

module _ (t₀ t : List ℤ) (listed : List ℕ) (over : Superseded) (n i : ℕ) (g : Meaning t₀ t listed over n i) where
  pub meaning_kept : i < n → Kept (i + 1) listed
  meaning_kept h = record { small = λ kind atom q. g.kept.small kind atom (omega arith) }

  pub meaning_next : (u : List ℤ) → i < n → u ≡ meant_row over listed i t → Meaning t₀ u listed over n (i + 1)
  unfolding meant_from
  meaning_next u h e =
      let z : n - i ≡ suc (n - (i + 1)) = omega arith in
      let l : length u ≡ length t = ap length e ∙ simp length-sets in
      record {
        few = g.few;
        room = omega (arith, g.room);
        kept = g.kept;
        within = omega arith;
        size = l ∙ g.size;
        over_is = g.over_is;
        same = g.same ∙ rw (z, add-one i, e);
      }

  pub meaning_end : n ≤ i → t ≡ meant n t₀ listed
  unfolding meant_from
  meaning_end h = let z : n - i ≡ 0 = omega arith in sym (ap (λ (k : Superseded). meant_from k listed 0 n t₀) (sym g.over_is) ∙ g.same ∙ rw z)

  pub meaning_size : length t ≡ length t₀
  meaning_size = g.size

pub ruleset meanings = (meaning_start, meaning_kept, meaning_next, meaning_end, meaning_size)
