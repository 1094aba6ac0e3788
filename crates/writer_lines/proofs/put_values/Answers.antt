-- `writer_lines::put_values` meets its contract.
use borrow.Author.Rules.{rules}
use Rattle.writer_lines.specs.LineParts.{values_parts}
use Rattle.writer_lines.proofs.put_values.Goals as goal

pub returns : goal.returns
returns c = let p₆ = c in
    let p₅ = p₆ in
    let p₄ = p₅ in
    let p₃ = p₄ in
    let p₂ = p₃ in
    let p₁ = p₂ in
    values_parts _ p₁.put_signed-a.ensures p₂.put_code-b.ensures p₃.put_columns-c.ensures p₄.put_bytes-d.ensures p₅.put_columns-e.ensures p₆.put_bytes.ensures
