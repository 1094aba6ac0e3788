-- `tally_report::put_suppliers` meets its contract.
use borrow.Author.Rules.{rules}
use mathlib.Core.Path.{refl}
use Rattle.tally_flat.specs.Flat.{memory}
use Rattle.tally_report.specs.Steps.{putting_start, putting_end, putting_room, putting_next}
use Rattle.tally_report.proofs.put_suppliers.Goals as goal

pub loop-i-init : goal.loop-i-init
loop-i-init c = let st = c in
    putting_start (memory st.args.names.now st.args.lengths.now st.args.counts.now) st.args.used st.args.room.now st.requires

pub put_line-e-requires : goal.put_line-e-requires
put_line-e-requires c = putting_room _ _ _ _ _ _ c.loop-i.invariant (search rules) _ refl

pub loop-i-preserved : goal.loop-i-preserved
loop-i-preserved c = putting_next _ _ _ _ _ _ c.loop-i.invariant (search rules) _ refl _ _ c.put_line-e.ensures

pub returns : goal.returns
returns c = putting_end _ _ _ _ _ _ c.loop-i.invariant (search rules)
