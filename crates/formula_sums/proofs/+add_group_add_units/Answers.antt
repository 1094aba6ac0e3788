use Rattle.std.specs.Prelude.{Some}
use Prim.Native.Nat.{ℕ, ◌+◌, ◌*◌}
use mathlib.Core.Path.{ap, ◌∙◌}
use borrow.Author.Rules.{rules}
use native.Mathlib.Omega.{arith}
use Rattle.formula_rules.specs.Parse.{group_of}
use Rattle.formula_rules.specs.Sums.{sat}
use Rattle.formula_text.specs.Steps.{group_ends, symbol_ends, open_within, capital_within}
use Rattle.formula_sums.specs.Adds.{sums, group_read, open_never, open_more, symbol_never, symbol_more, symbol_added, flat_never, inner_read, inner_never, inner_within, group_added, symbol_set, value_le, symbol_le, place_small}
use Rattle.formula_rules.specs.Capped.{below_at, below_here, sat_le}
use Rattle.formula_rules.proofs.Capped.{below_unit}
use Rattle.formula_sums.proofs.+add_group_add_units.Goals as goal

pub add_group-returns-then-depth-eq0 : goal.add_group-returns-then-depth-eq0
add_group-returns-then-depth-eq0 t c =
    let s = c.args.s.now in
    let d = c.args.depth in
    let a = c.args.at in
    let r = c.requires.1 in
    flat_never s d a r c.if-depth-eq0.true

pub add_group-returns-in_default : goal.add_group-returns-in_default
add_group-returns-in_default t c =
    let s = c.args.s.now in
    let d = c.args.depth in
    let a = c.args.at in
    let w = c.requires.0 in
    let r = c.requires.1 in
    inner_never s d a w r c.if-depth-eq0.false c.units-u.ensures c.in_default.is

pub add_group-overflow_add-e : goal.add_group-overflow_add-e
add_group-overflow_add-e t c =
    let s = c.args.s.now in
    let d = c.args.depth in
    let a = c.args.at in
    let w = c.requires.0 in
    let r = c.requires.1 in
    let l = inner_within s d a w r c.if-depth-eq0.false c.units-u.ensures c.in-Some.e c.in-Some.is in
    search (rules, l)

pub add_group-count_value-c-requires : goal.add_group-count_value-c-requires
add_group-count_value-c-requires t c =
    let s = c.args.s.now in
    let d = c.args.depth in
    let a = c.args.at in
    let w = c.requires.0 in
    let r = c.requires.1 in
    inner_within s d a w r c.if-depth-eq0.false c.units-u.ensures c.in-Some.e c.in-Some.is

pub add_group-times_count-requires : goal.add_group-times_count-requires
add_group-times_count-requires t c =
    let l = value_le c.args.s.now (c.in-Some.e + 1) in
    (c.requires.2, omega (arith, c.count_value-c.ensures))

pub add_group-add_units-requires : goal.add_group-add_units-requires
add_group-add_units-requires t c =
    let s = c.args.s.now in
    let d = c.args.depth in
    let a = c.args.at in
    let w = c.requires.0 in
    let r = c.requires.1 in
    let f = c.if-depth-eq0.false in
    let l = sat_le (c.args.times * c.count_value-c.result) in
    (omega (arith, c.decreases), (w, inner_read s d a w r f, omega (arith, c.times_count.ensures), c.requires.3))

pub add_group-returns : goal.add_group-returns
add_group-returns t c =
    let s = c.args.s.now in
    let d = c.args.depth in
    let a = c.args.at in
    let w = c.requires.0 in
    let r = c.requires.1 in
    let m = c.args.times in
    let e = c.in-Some.e in
    group_added s d a w r c.if-depth-eq0.false c.units-u.ensures e c.in-Some.is m c.times_count.result (c.times_count.ensures ∙ ap (λ (x : ℕ). sat (m * x)) c.count_value-c.ensures) c.args.counts.now _ c.add_units.ensures

pub add_units-returns-in_default : goal.add_units-returns-in_default
add_units-returns-in_default t c =
    let s = c.args.s.now in
    let d = c.args.depth in
    let a = c.args.at in
    let w = c.requires.0 in
    let r = c.requires.1 in
    open_never s d a w r c.byte_at-b.ensures c.if-b-eq40.true c.group-g.ensures c.in_default.is

pub add_units-add_group-requires : goal.add_units-add_group-requires
add_units-add_group-requires t c =
    let s = c.args.s.now in
    let d = c.args.depth in
    let a = c.args.at in
    let w = c.requires.0 in
    let r = c.requires.1 in
    let l = open_within s d a w c.byte_at-b.ensures c.if-b-eq40.true in
    (omega (arith, c.decreases), (omega arith, group_read s d a w r c.byte_at-b.ensures c.if-b-eq40.true c.group-g.ensures, c.requires.2, c.requires.3))

pub add_units-add_units-requires : goal.add_units-add_units-requires
add_units-add_units-requires t c =
    let s = c.args.s.now in
    let d = c.args.depth in
    let a = c.args.at in
    let w = c.requires.0 in
    let r = c.requires.1 in
    let l = open_within s d a w c.byte_at-b.ensures c.if-b-eq40.true in
    let n = c.in-Some.n in
    let e = group_ends s d (a + 1) n (omega arith) c.group-g.ensures c.in-Some.is in (
      omega (arith, c.decreases),
      (
        e.1,
        open_more s d a w r c.byte_at-b.ensures c.if-b-eq40.true c.group-g.ensures n c.in-Some.is,
        c.requires.2,
        below_unit c.args.times (group_of s d (a + 1)) c.args.counts.now _ c.requires.3 c.add_group.ensures,
      ),
    )

pub add_units-returns-then-b-eq40 : goal.add_units-returns-then-b-eq40
add_units-returns-then-b-eq40 t c = search (rules, sums)

pub add_units-symbol_at-y-requires : goal.add_units-symbol_at-y-requires
add_units-symbol_at-y-requires t c =
    let s = c.args.s.now in
    let d = c.args.depth in
    let a = c.args.at in
    let w = c.requires.0 in
    capital_within s d a w c.byte_at-b.ensures c.if-b-eq40.false c.in_range.ensures c.if-in_range.true

pub add_units-returns-in_default-y : goal.add_units-returns-in_default-y
add_units-returns-in_default-y t c =
    let s = c.args.s.now in
    let d = c.args.depth in
    let a = c.args.at in
    let w = c.requires.0 in
    let r = c.requires.1 in
    symbol_never s d a w r c.byte_at-b.ensures c.if-b-eq40.false c.in_range.ensures c.if-in_range.true c.symbol_at-y.ensures c.in_default-y.is

pub add_units-symbol_count-c-requires : goal.add_units-symbol_count-c-requires
add_units-symbol_count-c-requires t c =
    let s = c.args.s.now in
    let d = c.args.depth in
    let a = c.args.at in
    let w = c.requires.0 in
    capital_within s d a w c.byte_at-b.ensures c.if-b-eq40.false c.in_range.ensures c.if-in_range.true

pub add_units-place-requires : goal.add_units-place-requires
add_units-place-requires t c =
    let s = c.args.s.now in
    let d = c.args.depth in
    let a = c.args.at in
    let w = c.requires.0 in
    capital_within s d a w c.byte_at-b.ensures c.if-b-eq40.false c.in_range.ensures c.if-in_range.true

pub add_units-times_count-requires : goal.add_units-times_count-requires
add_units-times_count-requires t c =
    let l = symbol_le c.args.s.now c.args.at in
    (c.requires.2, omega (arith, c.symbol_count-c.ensures))

pub add_units-add_at-requires : goal.add_units-add_at-requires
add_units-add_at-requires t c =
    let b = place_small c.args.s.now c.args.at in
    let l = sat_le (c.args.times * c.symbol_count-c.result) in
    (omega (arith, c.place.ensures), omega (arith, c.times_count.ensures), below_here c.args.counts.now c.place.result c.requires.3)

pub add_units-add_units-requires-then-in_range : goal.add_units-add_units-requires-then-in_range
add_units-add_units-requires-then-in_range t c =
    let s = c.args.s.now in
    let d = c.args.depth in
    let a = c.args.at in
    let w = c.requires.0 in
    let r = c.requires.1 in
    let l = capital_within s d a w c.byte_at-b.ensures c.if-b-eq40.false c.in_range.ensures c.if-in_range.true in
    let n = c.in-Some-y.n in
    let e = symbol_ends s a n l c.symbol_at-y.ensures c.in-Some-y.is in (
      omega (arith, c.decreases),
      (
        e.1,
        symbol_more s d a w r c.byte_at-b.ensures c.if-b-eq40.false c.in_range.ensures c.if-in_range.true c.symbol_at-y.ensures n c.in-Some-y.is,
        c.requires.2,
        below_at c.args.counts.now _ c.place.result c.times_count.result c.requires.3 c.add_at.ensures,
      ),
    )

pub add_units-returns-then-in_range : goal.add_units-returns-then-in_range
add_units-returns-then-in_range t c =
    let s = c.args.s.now in
    let d = c.args.depth in
    let a = c.args.at in
    let w = c.requires.0 in
    let r = c.requires.1 in
    let n = c.in-Some-y.n in
    let m = c.args.times in
    symbol_added s d a w r c.byte_at-b.ensures c.if-b-eq40.false c.in_range.ensures c.if-in_range.true c.symbol_at-y.ensures n c.in-Some-y.is m c.args.counts.now _ _
    (symbol_set s a c.args.counts.now _ m c.place.result c.times_count.result c.symbol_count-c.result c.add_at.ensures c.place.ensures c.times_count.ensures c.symbol_count-c.ensures)
    c.add_units-then-in_range.ensures

pub add_units-returns : goal.add_units-returns
add_units-returns t c = search (rules, sums)
