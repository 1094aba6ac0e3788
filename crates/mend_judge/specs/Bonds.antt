-- A bond line that is good but for its pair: what judging it asks and tells.
use Rattle.std.specs.Prelude.{Result, Ok, Err, ℕ, ◌+◌, ◌≤◌, ◌<◌, ◌≡◌, refl, List, Bool, true, false, length, get_or, take, set}
use Rattle.std.proofs.Common.{sym, ap, ◌∙◌}
use Rattle.rules.specs.Record.{limit}
use Rattle.judge_line.specs.Field.{elem}
use Rattle.line_counts_bonds.specs.declared.Bond.{Bond}
use Rattle.reader_state.specs.declared.Reader.{Reader}
use Rattle.reader_pairs.specs.Keys.{pair_key, Searching, searching_next, searching_found, searching_end}
use Rattle.mend_judge.specs.declared.Judge.{Judge}
use Rattle.judge_line.specs.declared.Refusal.{Refusal}

pub record Bonding (j : Judge) (r : Reader) (b : Bond) (keys : List ℕ) : Type 0 where
  pub first : b.first ≤ 999
  pub second : b.second ≤ 999
  pub few : j.bonds < limit
  pub key_room : length keys ≡ limit

-- the state after the bond
abbrev pub bonded : Judge → Reader → Judge
bonded j r = record { reader = r; bonds = j.bonds + 1; some = j.some }

-- the pair is taken, or the bond gets its key
pub data BondJudged (j : Judge) (r : Reader) (b : Bond) (keys : List ℕ) (x : Result Judge Refusal) (keys' : List ℕ) : Type 0 where
  twice : elem (pair_key b.first b.second) (take j.bonds keys) ≡ true → x ≡ Err (record { no = 11; column = 1 }) → keys' ≡ keys → BondJudged j r b keys x keys'
  once : elem (pair_key b.first b.second) (take j.bonds keys) ≡ false → x ≡ Ok (bonded j r) → keys' ≡ set keys j.bonds (pair_key b.first b.second) → BondJudged j r b keys x keys'

-- ---- The search for the key

module _ (keys : List ℕ) (key count j : ℕ) (g : Searching keys key count j) where
  pub repeat_found : j < count → get_or keys j 0 ≡ key → true ≡ elem key (take count keys)
  repeat_found h e = sym (searching_found keys key count j g h e)

  pub repeat_none : count ≤ j → false ≡ elem key (take count keys)
  repeat_none h = sym (searching_end keys key count j g h)

pub ruleset repeat_laws = (searching_next, repeat_found, repeat_none)

-- ---- The bond

module _ (j : Judge) (r : Reader) (b : Bond) (keys : List ℕ) (key : ℕ) (is : key ≡ pair_key b.first b.second) (t : Bool) (asked : t ≡ elem key (take j.bonds keys)) where
  pub bond_twice : t ≡ true → BondJudged j r b keys (Err (record { no = 11; column = 1 })) keys
  bond_twice h = BondJudged.twice (ap (λ (k : ℕ). elem k (take j.bonds keys)) (sym is) ∙ sym asked ∙ h) refl refl

  pub bond_once : t ≡ false → BondJudged j r b keys (Ok (bonded j r)) (set keys j.bonds key)
  bond_once h = BondJudged.once (ap (λ (k : ℕ). elem k (take j.bonds keys)) (sym is) ∙ sym asked ∙ h) refl (ap (set keys j.bonds) is)

pub ruleset bond_laws = (bond_twice, bond_once)
