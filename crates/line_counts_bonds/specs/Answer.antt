-- What the code says of counts and bond lines, as the judge says it.
use Rattle.std.specs.Prelude.{Result, Ok, Err, ℕ, List, [], ◌∷◌, not, eqb}
use Rattle.text.specs.Text.{Line}
use Rattle.rules.specs.Forms as R
use Rattle.judge_line.specs.Got.{got_by, Got, got, bad, then, need}
use Rattle.judge_line.specs.Field.{number_at, signed_listed_at, spaces_from, has}
use Rattle.line_counts_bonds.specs.declared.Counts.{Counts}
use Rattle.judge_line.specs.declared.Refusal.{Refusal}
use Rattle.line_counts_bonds.specs.declared.Bond.{Bond}

-- ---- the counts line

abbrev pub counts_is : Counts → R.Counts
counts_is c = record { atoms = c.atoms; bonds = c.bonds; chiral = c.chiral }

abbrev pub counts_got : Result Counts Refusal → Got R.Counts
counts_got x = got_by counts_is x

-- from column 7 on
unfoldable pub after_counts : ℕ → ℕ → Line → Got R.Counts
after_counts n m l =
    then (number_at l 7 9 0 0) λ lists.
    then (number_at l 13 15 0 1) λ chiral.
    then (number_at l 16 18 0 0) λ stext.
    need (has l 34 39 " V2000") 6 34
    (spaces_from l 40
    (got (record { atoms = n; bonds = m; chiral = chiral })))

-- ---- bond lines

abbrev pub bond_is : Bond → R.Bond
bond_is b =
    record {
      first = b.first;
      second = b.second;
      type = b.order;
      stereo = b.stereo;
      topology = b.topology;
      centre = b.centre;
    }

-- the reacting centres, each one more than it is
abbrev pub next_centres : List ℕ
next_centres = 0 ∷ 1 ∷ 2 ∷ 3 ∷ 5 ∷ 6 ∷ 9 ∷ 10 ∷ 13 ∷ 14 ∷ []

abbrev pub bond_got : Result Bond Refusal → Got R.Bond
bond_got x = got_by bond_is x

-- from column 13 on
unfoldable pub bond_from : ℕ → ℕ → ℕ → ℕ → Line → Got R.Bond
bond_from first second type stereo l =
    then (number_at l 16 18 0 2) λ topology.
    then (signed_listed_at l 19 21 1 13 R.centres) λ centre.
    spaces_from l 22
    (need (not (eqb first second)) 10 1
    (got (record { first = first; second = second; type = type; stereo = stereo; topology = topology; centre = centre })))
