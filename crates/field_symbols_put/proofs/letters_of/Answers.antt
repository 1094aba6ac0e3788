-- `field_symbols::letters_of` meets its contract.
use borrow.Author.Rules.{rules}
use Rattle.field_symbols.proofs.Codes.{letters_told}
use Rattle.field_symbols_put.proofs.letters_of.Goals as goal

pub returns : goal.returns
returns c = letters_told c.args.k c.word_at-word.result (search rules) (search rules) c.word_at-word.ensures
