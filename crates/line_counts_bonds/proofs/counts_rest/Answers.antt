-- `line_counts_bonds::counts_rest` meets its contract.
use Rattle.line_fields.specs.Steps.{steps}
use Rattle.text.specs.Find.{has_text}
use Rattle.line_counts_bonds.specs.Answer.{after_counts}
use Rattle.line_counts_bonds.proofs.counts_rest.Goals as goal

pub returns-in_err-_lists : goal.returns-in_err-_lists
unfolding after_counts has_text
returns-in_err-_lists c = search (steps, c.in_err-_lists.was) depth 24 fits 20000

pub returns-in_err-chiral : goal.returns-in_err-chiral
unfolding after_counts has_text
returns-in_err-chiral c = search (steps, c.in_ok-_lists.was, c.in_err-chiral.was) depth 24 fits 20000

pub returns-in_err-_stext : goal.returns-in_err-_stext
unfolding after_counts has_text
returns-in_err-_stext c = search (steps, c.in_ok-_lists.was, c.in_ok-chiral.was, c.in_err-_stext.was) depth 24 fits 20000

pub returns-in-None : goal.returns-in-None
unfolding after_counts has_text
returns-in-None c = search (steps, c.in_ok-_lists.was, c.in_ok-chiral.was, c.in_ok-_stext.was) depth 24 fits 20000

pub returns-in-Some : goal.returns-in-Some
unfolding after_counts has_text
returns-in-Some c = search (steps, c.in_ok-_lists.was, c.in_ok-chiral.was, c.in_ok-_stext.was) depth 24 fits 20000

pub returns-else-has_text : goal.returns-else-has_text
unfolding after_counts has_text
returns-else-has_text c = search (steps, c.in_ok-_lists.was, c.in_ok-chiral.was, c.in_ok-_stext.was) depth 24 fits 20000
