-- `line_property::entry_number` meets its contract.
use Rattle.line_property.specs.Entering.{numbers_noted}
use borrow.Author.Rules.{rules}
use Rattle.line_property.proofs.entry_number.Goals as goal

pub returns-in-Charge : goal.returns-in-Charge
returns-in-Charge c = search (rules, numbers_noted)

pub returns-in-Radical : goal.returns-in-Radical
returns-in-Radical c = search (rules, numbers_noted)

pub returns-in-Isotope : goal.returns-in-Isotope
returns-in-Isotope c = search (rules, numbers_noted)
