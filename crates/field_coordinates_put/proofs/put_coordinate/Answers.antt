-- `field_coordinates::put_coordinate` meets its contract.
use Rattle.field_coordinates_put.proofs.Texts.{sign_laws}
use borrow.Author.Rules.{rules}
use Rattle.field_coordinates_put.proofs.put_coordinate.Goals as goal

pub overflow_sub-v : goal.overflow_sub-v
overflow_sub-v c = search (rules, sign_laws)

pub overflow_cast-v : goal.overflow_cast-v
overflow_cast-v c = search (rules, sign_laws)

pub overflow_add-v : goal.overflow_add-v
overflow_add-v c = search (rules, sign_laws)

pub overflow_cast-v-else-v-lt0 : goal.overflow_cast-v-else-v-lt0
overflow_cast-v-else-v-lt0 c = search (rules, sign_laws)

pub returns-then-v-lt0 : goal.returns-then-v-lt0
returns-then-v-lt0 c = search (rules, sign_laws)

pub returns-else-v-lt0 : goal.returns-else-v-lt0
returns-else-v-lt0 c = search (rules, sign_laws)
