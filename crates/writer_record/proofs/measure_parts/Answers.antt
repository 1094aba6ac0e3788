-- `writer_record::measure_parts` meets its contract.
use borrow.Author.Rules.{rules}
use Rattle.writer_record.specs.Measure.{measured_parts}
use Rattle.writer_record.proofs.measure_parts.Goals as goal

pub returns : goal.returns
returns c = search (rules, measured_parts)
