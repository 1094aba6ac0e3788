use Rattle.formula_drawn.specs.Listing.{entry, Listing}
use Rattle.formula_drawn.proofs.list_differences.Given as goal

abbrev pub invariant-loop-k : goal.invariant-loop-k
invariant-loop-k l = Listing (entry l.written) (entry l.drawn) l.initial.found l.found l.count l.k
