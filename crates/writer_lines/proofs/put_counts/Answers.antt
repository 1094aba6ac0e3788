-- `writer_lines::put_counts` meets its contract.
use borrow.Author.Rules.{rules}
use Rattle.writer_lines.specs.LineParts.{counts_parts}
use Rattle.writer_lines.proofs.put_counts.Goals as goal

pub returns : goal.returns
returns c = let p₅ = c in
    let p₄ = p₅ in
    let p₃ = p₄ in
    let p₂ = p₃ in
    let p₁ = p₂ in
    counts_parts _ _ _ p₁.put_number-a.ensures p₂.put_number-b.ensures p₃.put_bytes-c.ensures p₄.put_number-d.ensures p₅.put_bytes.ensures
