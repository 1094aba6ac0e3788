use native.Mathlib.Omega.{arith}
use Rattle.formula_rules.specs.Judged.{empty_below}
use Rattle.formula_drawn.specs.Drawn.{symbols_from}
use Rattle.formula_drawn.specs.Tallying.{symbols_length}
use Rattle.formula_record.specs.Steps.{line_refused, line_other, line_differs}
use Rattle.formula_record.proofs.compare_line.Goals as goal

pub returns-then-no-ne0 : goal.returns-then-no-ne0
returns-then-no-ne0 c =
    let t = c.args.atoms.now in
    let n = c.args.n in
    let ks = symbols_from t 0 n in
    let k = line_refused c.args.line.now ks c.count_formula-no.ensures.value c.if-no-ne0.true c.args.found.now c.requires.2 in
    record { value = k.0; found_after = k.1 }

pub count_drawn-requires : goal.count_drawn-requires
count_drawn-requires c =
    (c.requires.0, empty_below)

pub returns-then-count_drawn : goal.returns-then-count_drawn
returns-then-count_drawn c =
    let t = c.args.atoms.now in
    let n = c.args.n in
    let ks = symbols_from t 0 n in
    let few = symbols_length t 0 n in
    let k = line_differs c.args.line.now ks c.count_formula-no.ensures.value c.if-no-ne0.false (omega (arith, c.requires.1)) c.count_drawn.ensures.value c.if-count_drawn.true
    _ _ c.count_formula-no.ensures.counts_after c.count_drawn.ensures.drawn_after _ c.list_differences-count.ensures.value c.args.found.now _ c.requires.2 c.list_differences-count.ensures.found_after in
    record { value = k.0; found_after = k.1 }

pub returns : goal.returns
returns c =
    let t = c.args.atoms.now in
    let n = c.args.n in
    let ks = symbols_from t 0 n in
    let k = line_other c.args.line.now ks c.count_formula-no.ensures.value c.if-no-ne0.false c.count_drawn.ensures.value c.if-count_drawn.false c.args.found.now c.requires.2 in
    record { value = k.0; found_after = k.1 }
