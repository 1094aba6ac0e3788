-- `line_property::list_line` meets its contract.
use Rattle.std.proofs.Common.{rules}
use Rattle.line_fields.specs.Steps.{field_most}
use Rattle.line_property.specs.Entering.{list_laws, kept_as}
use Rattle.line_property.proofs.list_line.Goals as goal

pub returns-in_err-count : goal.returns-in_err-count
returns-in_err-count c = kept_as _ _ _ _ _ c.from_residual.ensures.1 (search (rules, list_laws, c.in_err-count.was))

pub entries-requires : goal.entries-requires
entries-requires c = search (rules, field_most, c.in_ok-count.was)

pub returns-in_err-entries : goal.returns-in_err-entries
returns-in_err-entries c =
    kept_as _ _ _ _ _ c.from_residual-in_err-entries.ensures.1 (search (rules, list_laws, c.in_ok-count.was, c.in_err-entries.was))

pub returns : goal.returns
returns c = search (rules, list_laws, c.in_ok-count.was, c.in_ok-entries.was)
