-- `line_property::entry` meets its contract.
use Rattle.std.proofs.Common.{rules}
use Rattle.line_fields.specs.Steps.{steps}
use Rattle.line_property.specs.Entering.{place_below, entry_refused}
use Rattle.line_property.specs.Answer.{entered_at}
use Rattle.line_property.proofs.entry.Goals as goal

pub returns-in_err-place : goal.returns-in_err-place
unfolding entered_at
returns-in_err-place c = record {
  listed_after = entry_refused _ _ _ _ c.from_residual.ensures.1 (search (steps, c.in_err-place.was) depth 24 fits 20000);
  listed_len_unchanged = search rules;
}

pub returns-then-column-ne32 : goal.returns-then-column-ne32
unfolding entered_at
returns-then-column-ne32 c = record {
  listed_after = search (steps, c.in_ok-place.was) depth 24 fits 20000;
  listed_len_unchanged = search rules;
}

pub returns-in_err-number : goal.returns-in_err-number
unfolding entered_at
returns-in_err-number c = record {
  listed_after = entry_refused _ _ _ _ c.from_residual-in_err-number.ensures.1 (search (steps, c.in_ok-place.was, c.in_err-number.was) depth 24 fits 20000);
  listed_len_unchanged = search rules;
}

pub bounds-listed-place : goal.bounds-listed-place
bounds-listed-place c = search (rules, place_below, c.in_ok-place.was)

pub returns : goal.returns
unfolding entered_at
returns c = record {
  listed_after = search (steps, c.in_ok-place.was, c.in_ok-number.was) depth 24 fits 20000;
  listed_len_unchanged = search rules;
}
