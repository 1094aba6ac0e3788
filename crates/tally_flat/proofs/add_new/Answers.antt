use Rattle.tally_flat.specs.Flat.{memory}
use Rattle.tally_flat.specs.Steps.{new_full, new_room}
use borrow.Author.Rules.{rules}
use Rattle.tally_flat.proofs.add_new.Goals as goal

pub returns-then-used-ge-SUPPLIERS : goal.returns-then-used-ge-SUPPLIERS
returns-then-used-ge-SUPPLIERS c = let st = c in
    new_full st.args.place st.args.used st.args.name.now (memory st.args.names.now st.args.lengths.now st.args.counts.now) (search rules)

pub returns : goal.returns
returns c = let st = c in
    new_room st.args.place st.args.used st.args.name.now (memory st.args.names.now st.args.lengths.now st.args.counts.now) _ (search rules) c.insert.ensures
