-- `field_symbols::word_at` meets its contract: each arm by computing, what is left by one law.
use Rattle.text.specs.Columns.{columns_for}
use Rattle.field_symbols.specs.Codes.{codes}
use Rattle.field_symbols.specs.Places.{pick, words, words_from, word_of}
use Rattle.field_symbols.proofs.Codes.{Others, pick_none}
use Rattle.field_symbols_put.proofs.word_at.Goals as goal

pub returns-in_default : goal.returns-in_default
unfolding Others words words_from
returns-in_default c = pick_none 0 c.args.j Unit words c.in_default.in_default-own.rest
