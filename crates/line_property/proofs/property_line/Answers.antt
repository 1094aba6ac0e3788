-- `line_property::property_line` meets its contract.
use Rattle.text.specs.Find.{has_text}
use Rattle.judge_line.specs.Judge.{property_of}
use Rattle.line_fields.specs.Steps.{flag_true, flag_false}
use Rattle.line_property.specs.Entering.{tag_laws, line_kept}
use borrow.Author.Rules.{rules}
use Rattle.line_property.proofs.property_line.Goals as goal

pub returns-then-has_text : goal.returns-then-has_text
unfolding property_of has_text
returns-then-has_text c =
    let both = line_kept _ _ _ _ _ (search (tag_laws, flag_true, flag_false) depth 24 fits 20000) in
    record { value = both.0; kept = both.1 }

pub returns-then-has_text-2 : goal.returns-then-has_text-2
unfolding property_of has_text
returns-then-has_text-2 c =
    let both = line_kept _ _ _ _ _ (search (tag_laws, flag_true, flag_false) depth 24 fits 20000) in
    record { value = both.0; kept = both.1 }

pub returns-then-has_text-3 : goal.returns-then-has_text-3
unfolding property_of has_text
returns-then-has_text-3 c =
    let both = line_kept _ _ _ _ _ (search (tag_laws, flag_true, flag_false) depth 24 fits 20000) in
    record { value = both.0; kept = both.1 }

pub returns-then-has_text-4 : goal.returns-then-has_text-4
unfolding property_of has_text
returns-then-has_text-4 c =
    let both = line_kept _ _ _ _ _ (search (tag_laws, flag_true, flag_false) depth 24 fits 20000) in
    record { value = both.0; kept = both.1 }

pub returns : goal.returns
unfolding property_of has_text
returns c =
    let both = line_kept _ _ _ _ _ (search (tag_laws, flag_true, flag_false) depth 24 fits 20000) in
    record { value = both.0; kept = both.1 }
