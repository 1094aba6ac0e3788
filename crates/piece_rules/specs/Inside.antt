-- The bonds of a good record join its own atoms.
use Rattle.std.specs.Prelude.{ℕ, ◌≤◌, ◌≡◌, List, length}
use Rattle.text.specs.Text.{Line}
use Rattle.rules.specs.Forms.{Bond}
use Rattle.rules.specs.Record.{Molecule, Bonds, Parts1to5, limit}
use Rattle.rules.specs.PartLaws.{many_bonds}
use Rattle.piece_rules.specs.Pieces.{Inside}

inside_of : {n k : ℕ} {t r : List Line} {bs : List Bond} → Bonds n k t bs r → Inside n bs
unfolding Inside
inside_of Bonds.none = tt
inside_of (Bonds.more l h) = ((l.first.low, l.first.high, l.second.low, l.second.high), inside_of h)

-- what splitting asks of a molecule
pub record Joined (m : Molecule) : Type 0 where
  pub few : m.counts.atoms ≤ limit
  pub inside : Inside m.counts.atoms m.bonds
  pub bonds : length m.bonds ≡ m.counts.bonds

pub joined : {t r : List Line} {m : Molecule} → Parts1to5 limit t m r → Joined m
joined (Parts1to5.parts h₁ h₂ h₃ c a b p q o) = record { few = c.atoms.high; inside = inside_of b; bonds = many_bonds b }
