-- The table of refusals by place: all that is demanded of a line that stands there, in its order. Every line is first asked for its length and its bytes; it
-- may have 80 columns, and 200 where a value line or the blank line after the values may stand. A place holds what the lines before it stand for: bond lines
-- are held against the bonds before them, property lines against the entries before them, both against the number of atoms.
-- A line is refused with number e at column c exactly if `Refused (demands limit place line) e c`, and good exactly if `All (demands limit place line)`.
use Rattle.std.specs.Prelude.{ℕ, List}
use Rattle.text.specs.Text.{Line}
use Rattle.judge_file.specs.Place.{Place, first, second, third, counts, atoms, bonds, properties, over, items, values}
use Rattle.judge_refusals.specs.Demand.{Demand, ◌and_then◌}
use Rattle.judge_refusals.specs.Refusals.{fitting, no_reserved_tag, counts_demands, atom_demands, bond_demands, new_pair, property_demands, header_or_end, value_or_blank, no_line}

unfoldable pub demands : ℕ → Place → Line → List Demand
demands limit first l = fitting 80 l and_then no_reserved_tag l
demands limit (second h₁) l = fitting 80 l
demands limit (third h₁ h₂) l = fitting 80 l
demands limit (counts hs) l = fitting 80 l and_then counts_demands limit l
demands limit (atoms hs c k xs) l = fitting 80 l and_then atom_demands c.atoms l
demands limit (bonds hs c xs k bs) l = fitting 80 l and_then bond_demands c.atoms l and_then new_pair c.atoms bs l
demands limit (properties hs c xs bs ps) l = fitting 80 l and_then property_demands c.atoms ps l
demands limit (over m) l = fitting 80 l and_then no_line
demands limit (items m is) l = fitting 80 l and_then header_or_end l
demands limit (values m is name vs) l = fitting 200 l and_then value_or_blank l
