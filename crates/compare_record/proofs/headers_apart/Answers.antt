use native.Mathlib.Omega.{arith}
use borrow.Author.Rules.{rules}
use Rattle.compare_record.specs.Heads.{headers_noted}
use Rattle.compare_record.proofs.headers_apart.Goals as goal

pub line_apart-requires : goal.line_apart-requires
line_apart-requires c = let x = c.head_at-s.ensures in
    let y = c.head_at-t.ensures in
    (c.requires, omega arith, x.start, x.inside, y.start, y.inside)

pub returns : goal.returns
returns c = let v = c in
    let s = v.args in
    headers_noted s.position s.a.now s.b.now _ _ _ _ _ _ _ _ _ _
    v.head_at-x.ensures v.head_at-u.ensures v.head_at-s.ensures
    v.head_at-y.ensures v.head_at-v.ensures v.head_at-t.ensures
    v.line_apart-c.ensures v.line_apart-d.ensures c.line_apart.ensures
