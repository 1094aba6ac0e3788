use native.Mathlib.Omega.{arith}
use mathlib.Core.Path.{ap, ◌∙◌}
use lib.ListN.{length}
use Rattle.tally_flat.specs.Flat.{memory}
use Rattle.tally_flat.specs.Windows.{shifted_length}
use Rattle.tally_flat.specs.Steps.{insert_told}
use Rattle.tally_flat.proofs.insert.Goals as goal

pub put_name-requires : goal.put_name-requires
put_name-requires c = let st = c in
    let l = ap length c.move_names.ensures ∙ shifted_length _ _ _ st.args.names.now in
    let p = st.requires in
    (omega (arith, l, p.sized.names, p.place, p.room), l ∙ p.sized.names)

pub returns : goal.returns
returns c = let st = c in
    insert_told (memory st.args.names.now st.args.lengths.now st.args.counts.now) st.args.place st.args.used st.args.name.now _ _ _ _
    c.move_names.ensures c.put_name.ensures
    c.move_numbers.ensures c.move_numbers-2.ensures
