-- `writer_record::judge_record` meets its contract.
use native.Mathlib.Omega.{arith}
use Rattle.writer_record.specs.Measure.{refused_tables, refused_writable, judged_parts, small}
use borrow.Author.Rules.{rules}
use Rattle.writer_record.proofs.judge_record.Goals as goal

pub returns-then-atoms-lt-ATOMS : goal.returns-then-atoms-lt-ATOMS
returns-then-atoms-lt-ATOMS c = refused_tables _ _ (λ r. omega (arith, r.atoms))

pub returns-then-bonds-lt-BONDS : goal.returns-then-bonds-lt-BONDS
returns-then-bonds-lt-BONDS c = refused_tables _ _ (λ r. omega (arith, r.bonds))

pub judge_parts-requires : goal.judge_parts-requires
judge_parts-requires c = small _ _ _ _ _ _ (search rules) (search rules) c.writable.ensures (search rules)

pub returns-then-writable : goal.returns-then-writable
returns-then-writable c = search (rules, judged_parts)

pub returns : goal.returns
returns c = search (rules, refused_writable)
