use Rattle.std.proofs.Common.{◌≡◌, ◌*◌, length}
use Rattle.rules.specs.Record.{limit, atom_places, bond_places}
use Rattle.line_property.specs.Listed.{places}
use Rattle.program_delivery.proofs.judge_records.Given as goal

abbrev pub invariant-loop : goal.invariant-loop
invariant-loop l =
    (length l.atoms ≡ atom_places) × (length l.bonds ≡ bond_places) × (length l.listed ≡ 3 * places) × (length l.keys ≡ limit)
