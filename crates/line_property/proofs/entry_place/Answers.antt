-- `line_property::entry_place` meets its contract.
use Rattle.std.proofs.Common.{rules}
use Rattle.line_fields.specs.Steps.{steps}
use Rattle.line_property.specs.Entering.{free_places, small_places}
use Rattle.line_property.specs.Answer.{place_at}
use Rattle.line_property.proofs.entry_place.Goals as goal

pub returns-then-column-ne32 : goal.returns-then-column-ne32
unfolding place_at
returns-then-column-ne32 c = search (steps, free_places) depth 24 fits 20000

pub returns-in_err-atom : goal.returns-in_err-atom
unfolding place_at
returns-in_err-atom c = search (steps, free_places, c.in_err-atom.was) depth 24 fits 20000

pub overflow_add-place : goal.overflow_add-place
overflow_add-place c = search (rules, small_places, c.in_ok-atom.was)

pub offset_bounds-listed-place : goal.offset_bounds-listed-place
offset_bounds-listed-place c = search (rules, small_places, c.in_ok-atom.was)

pub bounds-listed-place : goal.bounds-listed-place
bounds-listed-place c = search (rules, small_places, c.in_ok-atom.was)

pub returns-then-listed-place-ne0 : goal.returns-then-listed-place-ne0
unfolding place_at
returns-then-listed-place-ne0 c = search (steps, free_places, c.in_ok-atom.was) depth 24 fits 20000

pub overflow_cast-result : goal.overflow_cast-result
overflow_cast-result c = search (rules, small_places, c.in_ok-atom.was)

pub returns : goal.returns
unfolding place_at
returns c = search (steps, free_places, c.in_ok-atom.was) depth 24 fits 20000
