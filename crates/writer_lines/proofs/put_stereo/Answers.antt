-- `writer_lines::put_stereo` meets its contract.
use borrow.Author.Rules.{rules}
use Rattle.writer_lines.specs.LineParts.{stereo_parts}
use Rattle.writer_lines.proofs.put_stereo.Goals as goal

pub returns : goal.returns
returns c = let p₅ = c in
    let p₄ = p₅ in
    let p₃ = p₄ in
    let p₂ = p₃ in
    let p₁ = p₂ in
    stereo_parts _ p₁.put_columns-a.ensures p₂.put_bytes-b.ensures p₃.put_columns-c.ensures p₄.put_signed-d.ensures p₅.put_bytes.ensures
