use mathlib.Core.Path.{refl}
use Rattle.formula_record.specs.Steps.{kept_two, emptied}
use Rattle.formula_record.proofs.refuse.Goals as goal

pub returns-then-no-eq2 : goal.returns-then-no-eq2
returns-then-no-eq2 c =
    record {
      value = refl;
      found_after = kept_two c.args.no c.args.found.now c.if-no-eq2.true;
    }

pub returns : goal.returns
returns c =
    record {
      value = refl;
      found_after = emptied c.args.no c.args.found.now c.if-no-eq2.false;
    }
