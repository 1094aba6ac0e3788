use Rattle.tally_report.specs.Steps.{totals_told, totals_room}
use Rattle.tally_report.proofs.put_totals.Goals as goal

pub put_line-requires : goal.put_line-requires
put_line-requires c = let st = c in totals_room st.args.missing st.requires c.put_line-e.ensures

pub returns : goal.returns
returns c = let st = c in totals_told st.args.missing st.args.total c.put_line-e.ensures c.put_line.ensures
