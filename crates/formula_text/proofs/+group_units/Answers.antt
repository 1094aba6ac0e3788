use Rattle.std.specs.Prelude.{Some}
use Prim.Native.Nat.{◌+◌}
use borrow.Author.Rules.{rules}
use native.Mathlib.Omega.{arith}
use Rattle.formula_text.specs.Steps.{group_laws, units_laws, group_ends, symbol_ends, open_within, capital_within}
use Rattle.formula_text.proofs.+group_units.Goals as goal

pub group-returns-then-depth-eq0 : goal.group-returns-then-depth-eq0
group-returns-then-depth-eq0 t c = search (rules, group_laws)

pub group-units-u-requires : goal.group-units-u-requires
group-units-u-requires t c = search (rules, group_laws)

pub group-returns-in_default : goal.group-returns-in_default
group-returns-in_default t c = search (rules, group_laws)

pub group-returns-then-e-at : goal.group-returns-then-e-at
group-returns-then-e-at t c = search (rules, group_laws)

pub group-returns-then-byte_at-ne41 : goal.group-returns-then-byte_at-ne41
group-returns-then-byte_at-ne41 t c = search (rules, group_laws)

pub group-returns : goal.group-returns
group-returns t c = search (rules, group_laws)

pub units-group-g-requires : goal.units-group-g-requires
units-group-g-requires t c =
    let h = open_within c.args.s.now c.args.depth c.args.at c.requires c.byte_at-b.ensures c.if-b-eq40.true in
    (omega (arith, c.decreases), omega arith)

pub units-returns-in_default : goal.units-returns-in_default
units-returns-in_default t c = search (rules, units_laws)

pub units-units-requires : goal.units-units-requires
units-units-requires t c =
    let h = open_within c.args.s.now c.args.depth c.args.at c.requires c.byte_at-b.ensures c.if-b-eq40.true in
    let e = group_ends c.args.s.now c.args.depth (c.args.at + 1) c.in-Some.n (omega arith) c.group-g.ensures c.in-Some.is in
    (omega (arith, c.decreases), e.1)

pub units-returns-then-b-eq40 : goal.units-returns-then-b-eq40
units-returns-then-b-eq40 t c = search (rules, units_laws)

pub units-symbol_at-y-requires : goal.units-symbol_at-y-requires
units-symbol_at-y-requires t c = search (rules, units_laws)

pub units-returns-in_default-y : goal.units-returns-in_default-y
units-returns-in_default-y t c = search (rules, units_laws)

pub units-units-requires-then-in_range : goal.units-units-requires-then-in_range
units-units-requires-then-in_range t c =
    let h = capital_within c.args.s.now c.args.depth c.args.at c.requires c.byte_at-b.ensures c.if-b-eq40.false c.in_range.ensures c.if-in_range.true in
    let e = symbol_ends c.args.s.now c.args.at c.in-Some-y.n h c.symbol_at-y.ensures c.in-Some-y.is in
    (omega (arith, c.decreases), e.1)

pub units-returns-then-in_range : goal.units-returns-then-in_range
units-returns-then-in_range t c = search (rules, units_laws)

pub units-returns : goal.units-returns
units-returns t c = search (rules, units_laws)
