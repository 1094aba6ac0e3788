-- The loop over the items of a record; what comes before it and after it.
use Rattle.std.specs.Prelude.{ℕ, ◌≤◌, [], length}
use Rattle.std.proofs.Common.{arith, subst}
use Rattle.std.proofs.Math.Path.{◌≡◌, sym}
use Rattle.text.specs.Text.{Bytes}
use Rattle.judge_file.specs.Place.{sdfile}
use Rattle.judge_file.specs.WalkText.{after_lines}
use Rattle.reader_walk.specs.Outcome.{Outcome, whole, outcome_of}
use Rattle.reader_walk.specs.Stands.{molecule_lines}
use Rattle.reader_item.specs.declared.Part.{Part}
use Rattle.reader_item.specs.Find.{from_of, to_of, Said, item, refused, Spot, after, nowhere, spot_of, said_by, found_by, found_of, stretch_of}
use Rattle.reader_item.specs.Promise.{Promised}
use Rattle.reader_item.specs.Position.{after_low}
use Rattle.reader_item.proofs.Position.{stretch_within}

-- ---- The part of the text

found_within : (s name : Bytes) (o : Outcome) (a b : ℕ) → found_by s name o ≡ item a b → (a ≤ b) × (b ≤ length s)
found_within s name (whole x k) a b h = go (spot_of name (molecule_lines x.molecule) x.items) h
  where
    go : (p : Spot) → said_by s p ≡ item a b → (a ≤ b) × (b ≤ length s)
    go (after j m) q =
        let at = after_lines s 0 j in
        let w = stretch_within s at m (after_low s 0 j (omega arith)).1 in
        let f : from_of at m ≡ a = cc in
        let t : to_of s at m ≡ b = cc in
        (omega (arith, w.0), omega (arith, w.1))
    go nowhere q = absurd (let z : ◌≡◌ {A = ℕ} 0 1 = cc in omega arith)
found_within s name (Outcome.refused e i c) a b h = absurd (let z : ◌≡◌ {A = ℕ} 0 1 = cc in omega arith)

part_within : (s name : Bytes) (x : Said) → found_of s name ≡ x → ((stretch_of x).from ≤ (stretch_of x).to) × ((stretch_of x).to ≤ length s)
unfolding found_of
part_within s name (item a b) e = found_within s name (outcome_of sdfile s) a b e
part_within s name (refused n i c) e = (omega arith, omega arith)

-- the stretch d of what was found, x
module _ (s name : Bytes) (x : Said) (d : Part) (h : Promised s name x) (e : d ≡ stretch_of x) where
  both : (d.from ≤ d.to) × (d.to ≤ length s)
  both = subst (λ (y : Part). (y.from ≤ y.to) × (y.to ≤ length s)) (sym e) (part_within s name x (sym h.judged))

  pub part_order : d.from ≤ d.to
  part_order = both.0

  pub part_inside : d.to ≤ length s
  part_inside = both.1

pub ruleset part_laws = (part_order, part_inside)
