use Rattle.stock_join.specs.Steps.{fate_laws}
use borrow.Author.Rules.{rules}
use Rattle.stock_join.proofs.fate_of.Goals as goal

pub returns-in-Key : goal.returns-in-Key
returns-in-Key c = search (rules, fate_laws)

pub returns-in-NoSupplier : goal.returns-in-NoSupplier
returns-in-NoSupplier c = search (rules, fate_laws)

pub returns-in-NoLot : goal.returns-in-NoLot
returns-in-NoLot c = search (rules, fate_laws)

pub returns-in-Refused : goal.returns-in-Refused
returns-in-Refused c = search (rules, fate_laws)
