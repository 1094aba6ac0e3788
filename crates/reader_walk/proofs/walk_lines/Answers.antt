-- `reader_walk::walk_lines` meets its contract.
use borrow.Author.Rules.{rules}
use Rattle.std.proofs.Common.{ap, Ok}
use mathlib.Core.Path.{sym, ◌∙◌}
use Rattle.reader_walk.specs.Walking.{line_laws, bonds_room, bonds_size, rows_size, fits_next, walking_less, bond_beside, took_size}
use Rattle.reader_walk.specs.Pairing.{pair_laws, first_small, second_small, pair_asks, pairing_start, pairing_keeps, pairing_fits, pairing_end, pairing_found, repeat_fits, found_asked, found_left, found_rows}
use Rattle.reader_walk.specs.AtEnd.{end_asked, at_end_laws}
use Rattle.reader_walk.proofs.walk_lines.Goals as goal

pub walk-init : goal.walk-init
walk-init c = search (rules, line_laws)

pub line_at-requires : goal.line_at-requires
line_at-requires c = search (rules, line_laws)

pub overflow_sub-s : goal.overflow_sub-s
overflow_sub-s c = search (rules, line_laws)

pub ended-requires : goal.ended-requires
ended-requires c = search (rules, line_laws)

pub shape_of-atoms-in_default : goal.shape_of-atoms-in_default
shape_of-atoms-in_default c = search (rules, line_laws, at_end_laws)

pub shape_of-bonds-in_default : goal.shape_of-bonds-in_default
shape_of-bonds-in_default c = search (rules, line_laws, at_end_laws)

pub shape_of-rows-in_default : goal.shape_of-rows-in_default
shape_of-rows-in_default c = search (rules, line_laws, at_end_laws)

pub returns-in_default : goal.returns-in_default
returns-in_default c = record {
  walked_value = search (rules, line_laws, at_end_laws);
  asked_value = end_asked _ _ _ _ _ _ _ _ _ _ _ _ _ _ c.walk.invariant (sym c.line_at.ensures ∙ c.in_default.is) _ c.ended.ensures.asked_value;
  left = search (rules, line_laws, at_end_laws);
  keys_len = search (rules, line_laws);
  rows_marked = search (rules, line_laws, at_end_laws);
}

pub slice_bounds-take_line-count : goal.slice_bounds-take_line-count
slice_bounds-take_line-count c = search (rules, line_laws)

pub slice_bounds-take_line-start : goal.slice_bounds-take_line-start
slice_bounds-take_line-start c = search (rules, line_laws)

pub slice_bounds-take_line-end : goal.slice_bounds-take_line-end
slice_bounds-take_line-end c = search (rules, line_laws)

pub take_line-requires : goal.take_line-requires
take_line-requires c = search (rules, line_laws)

pub overflow_add-line : goal.overflow_add-line
overflow_add-line c = search (rules, line_laws)

pub walk-smaller-in-Ok-Next : goal.walk-smaller-in-Ok-Next
walk-smaller-in-Ok-Next c = walking_less _ _ _ _ _ c.line_at.ensures c.in-Line.is

pub walk-preserved-in-Ok-Next : goal.walk-preserved-in-Ok-Next
walk-preserved-in-Ok-Next c = search (rules, line_laws, c.in-Ok-Next.is ∙ ap Ok c.in-Ok-Next.field-0-is)

pub pair_key-key-requires : goal.pair_key-key-requires
pair_key-key-requires c = (
  first_small _ _ _ _ _ _ _ _ _ _ _ _ _ _ c.walk.invariant _ _ _ c.line_at.ensures c.in-Line.is _ _ _ _ _ c.take_line.ensures (c.in-Ok-Bond.is ∙ ap Ok c.in-Ok-Bond.field-0-is),
  second_small _ _ _ _ _ _ _ _ _ _ _ _ _ _ c.walk.invariant _ _ _ c.line_at.ensures c.in-Line.is _ _ _ _ _ c.take_line.ensures (c.in-Ok-Bond.is ∙ ap Ok c.in-Ok-Bond.field-0-is),
)

pub first_key-j-requires : goal.first_key-j-requires
first_key-j-requires c = pair_asks _ _ _ _ _ _ _ _ _ _ _ _ _ _ c.walk.invariant _ _ _ c.line_at.ensures c.in-Line.is _ _ _ _ _ c.take_line.ensures (c.in-Ok-Bond.is ∙ ap Ok c.in-Ok-Bond.field-0-is) _ c.pair_key-key.ensures

pub loop-j-init : goal.loop-j-init
loop-j-init c = pairing_start _ _ _ _ _ _ _ _ _ _ _ _ _ _ c.walk.invariant _ _ _ c.line_at.ensures c.in-Line.is _ _ _ _ _
    c.take_line.ensures (c.in-Ok-Bond.is ∙ ap Ok c.in-Ok-Bond.field-0-is) _ _ c.pair_key-key.ensures c.first_key-j.ensures

pub offset_bounds-keys-j : goal.offset_bounds-keys-j
offset_bounds-keys-j c = search (rules, pair_laws)

pub bounds-keys-j : goal.bounds-keys-j
bounds-keys-j c = search (rules, pair_laws)

pub overflow_add-repeat : goal.overflow_add-repeat
overflow_add-repeat c = search (rules, pair_laws)

pub overflow_add-repeat-then-keys-j : goal.overflow_add-repeat-then-keys-j
overflow_add-repeat-then-keys-j c = search (rules, pair_laws)

pub loop-j-preserved : goal.loop-j-preserved
loop-j-preserved c = search (rules, pair_laws)

pub keep_bond-notes-requires : goal.keep_bond-notes-requires
keep_bond-notes-requires c = pairing_keeps _ _ _ _ _ _ _ _ _ _ _ _ _ _ _ c.loop-j.invariant (bonds_room _ _ _ _ _ _ _ _ _ _ _ _ _ _ c.walk.invariant)

pub mark-requires : goal.mark-requires
mark-requires c = pairing_fits _ _ _ _ _ _ _ _ _ _ _ _ _ _ _ c.loop-j.invariant

pub overflow_add-line-in-Ok-Bond : goal.overflow_add-line-in-Ok-Bond
overflow_add-line-in-Ok-Bond c = fits_next _ _ _ _ _ _ _ _ _ _ _ _ _ _ c.walk.invariant

pub walk-smaller : goal.walk-smaller
walk-smaller c = walking_less _ _ _ _ _ c.line_at.ensures c.in-Line.is

pub walk-preserved : goal.walk-preserved
walk-preserved c = pairing_end _ _ _ _ _ _ _ _ _ _ _ _ _ _ _ c.loop-j.invariant c.loop-j-test.false _ _ _ c.walk.invariant.rowed
    (bond_beside _ _ _ _ _ _ _ _ _ _ _ _ _ _ c.walk.invariant _ _ _ c.line_at.ensures c.in-Line.is _ _ _ _ _ c.take_line.ensures (c.in-Ok-Bond.is ∙ ap Ok c.in-Ok-Bond.field-0-is))
    c.walk.invariant.bonds_beside _ _ _ _ c.keep_bond-notes.ensures.value c.keep_bond-notes.ensures.keys_after c.keep_bond-notes.ensures.bonds_after c.mark.ensures

pub shape_of-atoms-in-Ok-Done : goal.shape_of-atoms-in-Ok-Done
shape_of-atoms-in-Ok-Done c = search (rules, line_laws)

pub shape_of-bonds-in-Ok-Done : goal.shape_of-bonds-in-Ok-Done
shape_of-bonds-in-Ok-Done c = search (rules, line_laws)

pub shape_of-rows-in-Ok-Done : goal.shape_of-rows-in-Ok-Done
shape_of-rows-in-Ok-Done c = search (rules, line_laws)

pub returns-in-Ok-Done : goal.returns-in-Ok-Done
returns-in-Ok-Done c = record {
  walked_value = search (rules, line_laws, c.in-Ok-Done.is ∙ ap Ok c.in-Ok-Done.field-0-is);
  asked_value = search (rules, line_laws, c.in-Ok-Done.is ∙ ap Ok c.in-Ok-Done.field-0-is);
  left = search (rules, line_laws, c.in-Ok-Done.is ∙ ap Ok c.in-Ok-Done.field-0-is);
  keys_len = search (rules, line_laws);
  rows_marked = search (rules, line_laws, c.in-Ok-Done.is ∙ ap Ok c.in-Ok-Done.field-0-is);
}

pub shape_of-atoms-in-Err : goal.shape_of-atoms-in-Err
shape_of-atoms-in-Err c = search (rules, line_laws)

pub shape_of-bonds-in-Err : goal.shape_of-bonds-in-Err
shape_of-bonds-in-Err c = search (rules, line_laws)

pub shape_of-rows-in-Err : goal.shape_of-rows-in-Err
shape_of-rows-in-Err c = search (rules, line_laws)

pub returns-in-Err : goal.returns-in-Err
returns-in-Err c = record {
  walked_value = search (rules, line_laws);
  asked_value = search (rules, line_laws);
  left = search (rules, line_laws);
  keys_len = search (rules, line_laws);
  rows_marked = search (rules, line_laws);
}

pub repeated-requires : goal.repeated-requires
repeated-requires c = repeat_fits _ _ _ _ _ _ _ _ _ _ _ _ _ _ _ c.loop-j.invariant c.loop-j-test.true c.if-keys-j.true

pub shape_of-atoms : goal.shape_of-atoms
shape_of-atoms c = took_size _ _ _ _ _ _ _ _ _ _ _ _ _ _ c.walk.invariant _ _ _ _ _ c.take_line.ensures

pub shape_of-bonds : goal.shape_of-bonds
shape_of-bonds c = bonds_size _ _ _ _ _ _ _ _ _ _ _ _ _ _ c.walk.invariant

pub shape_of-rows : goal.shape_of-rows
shape_of-rows c = rows_size _ _ _ _ _ _ _ _ _ _ _ _ _ _ c.walk.invariant

pub returns : goal.returns
returns c = record {
  walked_value = pairing_found _ _ _ _ _ _ _ _ _ _ _ _ _ _ _ c.loop-j.invariant c.loop-j-test.true c.if-keys-j.true _ c.repeated.ensures.walked_value;
  asked_value = found_asked _ _ _ _ _ _ _ _ _ _ _ _ _ _ _ c.loop-j.invariant c.loop-j-test.true c.if-keys-j.true _ c.repeated.ensures.asked_value;
  left =
      found_left _ _ _ _ _ _ _ _ _ _ _ _ _ _ _ c.loop-j.invariant c.loop-j-test.true c.if-keys-j.true _ _
      (bond_beside _ _ _ _ _ _ _ _ _ _ _ _ _ _ c.walk.invariant _ _ _ c.line_at.ensures c.in-Line.is _ _ _ _ _ c.take_line.ensures (c.in-Ok-Bond.is ∙ ap Ok c.in-Ok-Bond.field-0-is))
      c.walk.invariant.bonds_beside;
  keys_len = c.walk.invariant.key_room;
  rows_marked = found_rows _ _ _ _ _ _ _ _ _ _ _ _ _ _ _ c.loop-j.invariant c.loop-j-test.true c.if-keys-j.true _ c.walk.invariant.rowed;
}
