-- `mend_judge::judge_line` meets its contract.
use Rattle.std.proofs.Common.{rules, ap, ◌∙◌, Ok}
use Rattle.mend_judge.specs.Judging.{judging_laws, judges_next, judges_headed, judges_atom, judges_ended, judges_title, judges_value, judges_blank, judges_done, judges_bond, judges_back}
use Rattle.mend_judge.proofs.judge_line.Goals as goal

pub step-requires : goal.step-requires
step-requires c = search (rules, judging_laws)

pub returns-in_err-r : goal.returns-in_err-r
returns-in_err-r c = search (rules, judges_back, c.in_err-r.was)

pub judge_bond-requires : goal.judge_bond-requires
judge_bond-requires c = search (rules, judging_laws, c.in_ok-r.was)

pub returns-in-Next : goal.returns-in-Next
returns-in-Next c = judges_next _ _ _ _ _ _ c.step.ensures.result_value c.step.ensures.kept c.step.ensures.listed_len_2 c.requires _ _ (c.in_ok-r.was ∙ ap Ok c.in-Next.is) c.read.ensures

pub returns-in-Headed : goal.returns-in-Headed
returns-in-Headed c = judges_headed _ _ _ _ _ _ c.step.ensures.result_value c.step.ensures.kept c.step.ensures.listed_len_2 c.requires _ _ (c.in_ok-r.was ∙ ap Ok c.in-Headed.is) c.read-in-Headed.ensures

pub returns-in-Atom : goal.returns-in-Atom
returns-in-Atom c = judges_atom _ _ _ _ _ _ c.step.ensures.result_value c.step.ensures.kept c.step.ensures.listed_len_2 c.requires _ _ _ (c.in_ok-r.was ∙ ap Ok c.in-Atom.is) c.read-in-Atom.ensures

pub returns-in-Bond : goal.returns-in-Bond
returns-in-Bond c = search (rules, judges_bond, c.in_ok-r.was)

pub returns-in-Ended : goal.returns-in-Ended
returns-in-Ended c = judges_ended _ _ _ _ _ _ c.step.ensures.result_value c.step.ensures.kept c.step.ensures.listed_len_2 c.requires _ _ (c.in_ok-r.was ∙ ap Ok c.in-Ended.is) c.read-in-Ended.ensures

pub returns-in-Title : goal.returns-in-Title
returns-in-Title c = judges_title _ _ _ _ _ _ c.step.ensures.result_value c.step.ensures.kept c.step.ensures.listed_len_2 c.requires _ _ _ _ (c.in_ok-r.was ∙ ap Ok c.in-Title.is) c.read-in-Title.ensures

pub returns-in-Value : goal.returns-in-Value
returns-in-Value c = judges_value _ _ _ _ _ _ c.step.ensures.result_value c.step.ensures.kept c.step.ensures.listed_len_2 c.requires _ _ (c.in_ok-r.was ∙ ap Ok c.in-Value.is) c.read-in-Value.ensures

pub returns-in-Blank : goal.returns-in-Blank
returns-in-Blank c = judges_blank _ _ _ _ _ _ c.step.ensures.result_value c.step.ensures.kept c.step.ensures.listed_len_2 c.requires _ _ (c.in_ok-r.was ∙ ap Ok c.in-Blank.is) c.read-in-Blank.ensures

pub returns-in-Done : goal.returns-in-Done
returns-in-Done c = search (rules, judges_done, c.in_ok-r.was)
