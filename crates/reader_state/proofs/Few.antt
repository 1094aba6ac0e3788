-- A counts line that is taken counts no more atoms than the limit.
use Prim.Native.Nat.{◌≤◌}
use mathlib.Core.Path.{◌≡◌, subst}
use Rattle.text.specs.Text.{Line}
use Rattle.rules.specs.Forms.{Counts}
use Rattle.rules.specs.Record.{limit}
use Rattle.judge_line.specs.Got.{got}
use Rattle.judge_line.specs.GotLaws.{got_inj}
use Rattle.judge_line.specs.AgreeField.{on, after, number_got_lem, spaces_got}
use Rattle.judge_line.specs.Judge.{counts_of}

pub atoms_few : (l : Line) (c : Counts) → counts_of limit l ≡ got c → c.atoms ≤ limit
unfolding counts_of
atoms_few l c h =
    on _ _ c h (number_got_lem l _ _ _ _) λ n n_is h.
    on _ _ c h (number_got_lem l _ _ _ _) λ m m_is h.
    after _ _ _ _ c h λ pairs h.
    on _ _ c h (number_got_lem l _ _ _ _) λ lists lists-is h.
    on _ _ c h (number_got_lem l _ _ _ _) λ chiral chiral-is h.
    on _ _ c h (number_got_lem l _ _ _ _) λ stext stext-is h.
    after _ _ _ _ c h λ version h.
    spaces_got l _ _ c h λ rest h.
    subst (λ (d : Counts). d.atoms ≤ limit) (got_inj h) n_is.high
