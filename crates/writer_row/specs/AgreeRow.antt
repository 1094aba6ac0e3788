-- The tests of a row say what the rules say.
use Rattle.std.specs.Prelude.{ℕ, ◌≡◌, ◌↔◌, map, Bool, true, pos, nat_abs}
use Rattle.field_numbers.specs.Number.{OneOf}
use Rattle.rules.specs.Forms.{stereos, centres}
use Rattle.rules.specs.Canon.{AtomRow, BondRow, FromTo, WritableAtom, WritableBond}
use Rattle.judge_line.specs.Field.{elem_signed}
use Rattle.writer_row.specs.Row.{marks, place_holds, numbers_hold, codes_hold, changes_hold, atom_holds, kind_holds, bond_holds}
use Rattle.writer_row.specs.AgreeNumber.{and_agrees, from_to, between, differ_agrees, listed_agrees, marks_are}

pub atom_agrees : (n : ℕ) (a : AtomRow) → (atom_holds n a ≡ true) ↔ WritableAtom n a
unfolding atom_holds place_holds numbers_hold codes_hold changes_hold
atom_agrees n a =
    let place = and_agrees (between _ _ a.x) (and_agrees (between _ _ a.y) (and_agrees (between _ _ a.z) (and_agrees (from_to _ _ a.symbol) (between _ _ a.mass_difference)))) in
    let numbers = and_agrees (between _ _ a.charge) (and_agrees (from_to _ _ a.radical) (and_agrees (from_to _ _ a.isotope) (and_agrees (from_to _ _ a.parity) (from_to _ _ a.hydrogen_count)))) in
    let codes = and_agrees (from_to _ _ a.stereo_care) (and_agrees (from_to _ _ a.valence) (and_agrees (from_to _ _ a.H0) (from_to _ n a.atom_map))) in
    let changes = and_agrees (from_to _ _ a.inversion) (from_to _ _ a.exact_change) in
    let all = and_agrees place (and_agrees numbers (and_agrees codes changes)) in (
      (λ h.
          let p = (all.0 h).0 in
          let q = (all.0 h).1.0 in
          let c = (all.0 h).1.1.0 in
          let d = (all.0 h).1.1.1 in
          record {
            x = p.0;
            y = p.1.0;
            z = p.1.1.0;
            symbol = p.1.1.1.0;
            mass_difference = p.1.1.1.1;
            charge = q.0;
            radical = q.1.0;
            isotope = q.1.1.0;
            parity = q.1.1.1.0;
            hydrogen_count = q.1.1.1.1;
            stereo_care = c.0;
            valence = c.1.0;
            H0 = c.1.1.0;
            atom_map = c.1.1.1;
            inversion = d.0;
            exact_change = d.1;
          }),
      (λ w. all.1 (
        (w.x, (w.y, (w.z, (w.symbol, w.mass_difference)))),
        (
          (w.charge, (w.radical, (w.isotope, (w.parity, w.hydrogen_count)))),
          (
            (w.stereo_care, (w.valence, (w.H0, w.atom_map))),
            (w.inversion, w.exact_change),
          ),
        ),
      )),
    )

stereo_agrees : (b : BondRow) → FromTo 1 8 b.type → (elem_signed b.stereo (marks b.type) ≡ true) ↔ OneOf b.stereo (map pos (stereos (nat_abs b.type)))
stereo_agrees b h = rw (marks_are b.type h) (listed_agrees b.stereo (map pos (stereos (nat_abs b.type))))

pub bond_agrees : (n : ℕ) (b : BondRow) → (bond_holds n b ≡ true) ↔ WritableBond n b
unfolding bond_holds kind_holds
bond_agrees n b =
    let ends = from_to 1 n b.first in
    let other = from_to 1 n b.second in
    let rest = and_agrees (from_to 0 2 b.topology) (listed_agrees b.centre centres) in
    let differ = differ_agrees b.first b.second in
    let all = and_agrees ends (and_agrees other (and_agrees (and_agrees (from_to 1 8 b.type) (and_agrees (same (elem_signed b.stereo (marks b.type))) rest)) differ)) in (
      (λ h.
          let k = (all.0 h).1.1.0 in
          record {
            first = (all.0 h).0;
            second = (all.0 h).1.0;
            type = k.0;
            stereo = (stereo_agrees b k.0).0 k.1.0;
            topology = k.1.1.0;
            centre = k.1.1.1;
            ends_differ = (all.0 h).1.1.1;
          }),
      (λ w. all.1 (w.first, (w.second, ((w.type, ((stereo_agrees b w.type).1 w.stereo, (w.topology, w.centre))), w.ends_differ)))),
    )
  where
    same : (t : Bool) → (t ≡ true) ↔ (t ≡ true)
    same t = ((λ h. h), (λ h. h))
