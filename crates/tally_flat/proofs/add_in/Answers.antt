use native.Mathlib.Omega.{arith}
use Rattle.tally_flat.specs.Flat.{memory}
use Rattle.tally_flat.specs.Adding.{here_inside, here_now, here_told, new_near, new_told}
use Rattle.tally_flat.proofs.add_in.Goals as goal

pub add_here-requires : goal.add_here-requires
add_here-requires c = let st = c in
    let m = memory st.args.names.now st.args.lengths.now st.args.counts.now in
    let h = here_inside m st.args.used st.args.name.now st.requires _ c.find_in.ensures _ c.in-Here.is in
    let g = st.requires in
    (omega (arith, h, g.few, g.sized.counts), g.sized.counts, g.small _ h)

pub add_new-requires : goal.add_new-requires
add_new-requires c = let st = c in
    let m = memory st.args.names.now st.args.lengths.now st.args.counts.now in
    new_near m st.args.used st.args.name.now st.requires _ c.find_in.ensures _ c.in-New.is

pub returns-in-Here : goal.returns-in-Here
returns-in-Here c =
    let st = c in
    let m = memory st.args.names.now st.args.lengths.now st.args.counts.now in
    record {
      value = here_now m st.args.used st.args.name.now st.requires _ c.find_in.ensures _ c.in-Here.is;
      added_to = here_told m st.args.used st.args.name.now st.requires _ c.find_in.ensures _ c.in-Here.is _ c.add_here.ensures;
    }

pub returns-in-New : goal.returns-in-New
returns-in-New c =
    let st = c in
    let m = memory st.args.names.now st.args.lengths.now st.args.counts.now in
    let p = new_told m st.args.used st.args.name.now st.requires _ c.find_in.ensures _ c.in-New.is _ _ c.add_new.ensures in
    record { value = p.0; added_to = p.1 }
