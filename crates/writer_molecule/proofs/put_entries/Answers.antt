-- `writer_molecule::put_entries` meets its contract.
use Rattle.std.proofs.Common.{rules, arith, ◌≡◌, ◌+◌, ◌-◌}
use Rattle.writer_molecule.specs.Listing.{entering_next, entering_laws}
use Rattle.writer_molecule.proofs.put_entries.Goals as goal

pub loop-init : goal.loop-init
loop-init c = let e : c.args.count - 0 ≡ c.args.count = omega arith in rw e (search (rules, entering_laws))

pub loop-preserved : goal.loop-preserved
loop-preserved c =
    let e : c.args.count - (c.loop.counter + 1) ≡ c.args.count - c.loop.counter - 1 = omega arith in
    rw e (entering_next _ _ _ _ _ _ _ _ _ _ _ c.loop.invariant (omega arith) _ _ _ c.next_entry-a.ensures c.put_entry-e.ensures)
