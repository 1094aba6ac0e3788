use Rattle.tally_report.specs.Steps.{line_told}
use Rattle.tally_report.proofs.put_line.Goals as goal

pub returns : goal.returns
returns c = let st = c in
    line_told st.args.count st.requires c.put_number.ensures c.put_bytes-a.ensures c.put_bytes-e.ensures c.put_bytes.ensures
