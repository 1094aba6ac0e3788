-- The lines of a record are judged as the demands on them say.
use Rattle.std.specs.Prelude.{ℕ, ◌*◌, ◌-◌, leb}
use Rattle.std.proofs.Common.{arith}
use borrow.Author.Tests.{leb-true, leb-false}
use Rattle.text.specs.Text.{Line}
use Rattle.text.specs.Columns.{Within}
use Rattle.field_numbers.specs.Agree.{one_number}
use Rattle.judge_line.specs.Judge.{counts_of}
use Rattle.judge_line.specs.AgreeField.{number_got_lem}
use Rattle.judge_refusals.specs.Refusals.{counts_demands}
use Rattle.judge_refusals.specs.Tells.{Tells, then_tells, need_tells}
use Rattle.judge_refusals.specs.Fields.{number_tells, has_tells, spaces_last}

-- ---- 2. The counts line

pub counts_tells : (limit : ℕ) (l : Line) → Within 80 l → Tells (counts_demands limit l) (counts_of limit l)
unfolding counts_of
counts_tells limit l w =
    then_tells (number_tells l 1 3 0 limit) λ n h₁.
    then_tells (number_tells l 4 6 0 limit) λ m h₂.
    let n_is = number_got_lem l 1 3 0 limit n h₁ in
    let m_is = number_got_lem l 4 6 0 limit m h₂ in
    need_tells (leb (2 * m) (n * (n - 1))) (λ t. (n, (m, (n_is, m_is, leb-true (2 * m) (n * (n - 1)) t))))
    (λ t d.
    let p = d.1.1.2 in
    let q = leb-false (2 * m) (n * (n - 1)) t in
    absurd (omega (arith, rw (one_number d.1.1.0 n_is, one_number d.1.1.1 m_is) at p))) λ t.
    then_tells (number_tells l 7 9 0 0) λ lists h₃.
    then_tells (number_tells l 13 15 0 1) λ chiral h₄.
    then_tells (number_tells l 16 18 0 0) λ stext h₅.
    has_tells l 34 39 " V2000"
    (spaces_last l _ 40 (omega arith) w.short)
