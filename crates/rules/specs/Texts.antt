-- The lines of a file hold allowed bytes only, so the text that they make reads as these lines.
use Rattle.std.specs.Prelude.{ℕ, List, []}
use Rattle.text.specs.Text.{Line, Lines}
use Rattle.text.specs.Written.{text, EachAllowed, all_plain, text_lines}
use Rattle.rules.specs.Forms.{Atom, Bond, Property}
use Rattle.rules.specs.Record.{Molecule, Item, Raw, Atoms, Bonds, Properties, Values, Items, Parts1to5, Molfile, Record, SDfile}

atoms_allowed : {n k : ℕ} {t r : List Line} {xs : List Atom} → Atoms n k t xs r → EachAllowed r → EachAllowed t
unfolding EachAllowed
atoms_allowed Atoms.none e = e
atoms_allowed (Atoms.more h p) e = (h.line.allowed, atoms_allowed p e)

bonds_allowed : {n k : ℕ} {t r : List Line} {xs : List Bond} → Bonds n k t xs r → EachAllowed r → EachAllowed t
unfolding EachAllowed
bonds_allowed Bonds.none e = e
bonds_allowed (Bonds.more h p) e = (h.line.allowed, bonds_allowed p e)

properties_allowed : {n : ℕ} {t r : List Line} {ps : List Property} → Properties n t ps r → EachAllowed r → EachAllowed t
unfolding EachAllowed
properties_allowed (Properties.end h) e = (h.line.allowed, e)
properties_allowed (Properties.more h p) e = (h.line.allowed, properties_allowed p e)

values_allowed : {t vs r : List Line} → Values t vs r → EachAllowed r → EachAllowed t
unfolding EachAllowed
values_allowed (Values.end h) e = (h.line.allowed, e)
values_allowed (Values.more h p) e = (h.line.allowed, values_allowed p e)

items_allowed : {t r : List Line} {is : List Item} → Items t is r → EachAllowed r → EachAllowed t
unfolding EachAllowed
items_allowed (Items.end h) e = (h.line.allowed, e)
items_allowed (Items.more h v p) e = (h.line.allowed, values_allowed v (items_allowed p e))

parts_allowed : {limit : ℕ} {t r : List Line} {m : Molecule} → Parts1to5 limit t m r → EachAllowed r → EachAllowed t
unfolding EachAllowed
parts_allowed (Parts1to5.parts f g h c a b w p o) e =
    (f.line.allowed, (g.allowed, (h.allowed, (c.line.allowed, atoms_allowed a (bonds_allowed b (properties_allowed p e))))))

record_allowed : {limit : ℕ} {t r : List Line} {x : Raw} → Record limit t x r → EachAllowed r → EachAllowed t
record_allowed (Record.record_of p i) e = parts_allowed p (items_allowed i e)

pub molfile_allowed : {limit : ℕ} {t : List Line} {x : Raw} → Molfile limit t x → EachAllowed t
unfolding EachAllowed
molfile_allowed (Molfile.molfile p) = parts_allowed p tt

pub sdfile_allowed : {limit : ℕ} {t : List Line} {xs : List Raw} → SDfile limit t xs → EachAllowed t
unfolding EachAllowed
sdfile_allowed SDfile.none = tt
sdfile_allowed (SDfile.more p ps) = record_allowed p (sdfile_allowed ps)

pub molfile_text : {limit : ℕ} {t : List Line} {x : Raw} → Molfile limit t x → Lines (text t) t []
molfile_text {t = t} p = text_lines t (all_plain t (molfile_allowed p))

pub sdfile_text : {limit : ℕ} {t : List Line} {xs : List Raw} → SDfile limit t xs → Lines (text t) t []
sdfile_text {t = t} p = text_lines t (all_plain t (sdfile_allowed p))
