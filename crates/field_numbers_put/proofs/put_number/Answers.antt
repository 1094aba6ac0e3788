-- `field_numbers::put_number` meets its contract.
use borrow.Author.Rules.{rules}
use Rattle.field_numbers_put.proofs.Texts.{three_columns}
use Rattle.field_numbers_put.proofs.put_number.Goals as goal

pub returns-then-k-le9 : goal.returns-then-k-le9
returns-then-k-le9 c = search (rules, three_columns)

pub returns-then-k-le999 : goal.returns-then-k-le999
returns-then-k-le999 c = search (rules, three_columns)
