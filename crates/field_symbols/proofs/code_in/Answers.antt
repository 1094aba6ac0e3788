-- `field_symbols::code_in` meets its contract.
use borrow.Author.Rules.{rules}
use Rattle.field_symbols.proofs.Codes.{code_found}
use Rattle.field_symbols.proofs.code_in.Goals as goal

pub returns-then-i-line : goal.returns-then-i-line
returns-then-i-line c = let a = c.args in
    let x = c.inner_column-a in
    let y = c.inner_column-b in
    let z = c.inner_column-c in
    code_found a.line.now a.i x.result y.result z.result c.joined.result x.ensures y.ensures z.ensures (search rules) (search rules) (search rules) c.joined.ensures

pub returns : goal.returns
returns c = let a = c.args in
    let x = c.column-a in
    let y = c.column-b in
    let z = c.column-c in
    code_found a.line.now a.i x.result y.result z.result c.joined-2.result x.ensures y.ensures z.ensures (search rules) (search rules) (search rules) c.joined-2.ensures
