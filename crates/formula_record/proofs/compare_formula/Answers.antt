use Rattle.formula_record.specs.Steps.{record_ready, record_kept, refused_kept}
use borrow.Author.Rules.{rules}
use Rattle.formula_record.proofs.compare_formula.Goals as goal

pub compare_read-requires : goal.compare_read-requires
compare_read-requires c =
    record_ready c.args.s.now c.args.atoms.now c.args.bonds.now c.args.found.now _ _ _ c.read_plain.ensures.read_promise _ _ _ _ _ _ _ _ c.in-Read.is

pub returns-in-Read : goal.returns-in-Read
returns-in-Read c =
    let g = c.read_plain.ensures in
    let k = record_kept c.args.s.now c.args.atoms.now c.args.bonds.now c.args.found.now _ _ _ g.read_promise _ _ _ _ _ _ _ _ c.in-Read.is _ _ c.compare_read.ensures.value c.compare_read.ensures.found_after in
    record {
      value = k.0;
      found_after = k.1;
      atoms_after = g.atoms_after;
      bonds_after = g.bonds_after;
      compare_promise = k.2;
    }

pub returns-in-Refused : goal.returns-in-Refused
returns-in-Refused c =
    let g = c.read_plain.ensures in
    let k = refused_kept c.args.s.now c.args.atoms.now c.args.bonds.now c.args.found.now _ _ _ g.read_promise _ _ _ c.in-Refused.is _ _ c.refuse.ensures.value c.refuse.ensures.found_after in
    record {
      value = k.0;
      found_after = k.1;
      atoms_after = g.atoms_after;
      bonds_after = g.bonds_after;
      compare_promise = k.2;
    }
