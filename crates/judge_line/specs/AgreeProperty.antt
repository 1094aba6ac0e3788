-- Property lines and `M  END` are judged as their rules say.
use Rattle.std.specs.Prelude.{ℕ, ◌≡◌, List, [], ◌∷◌, false}
use Rattle.text.specs.Text.{Line}
use Rattle.text.specs.Columns.{Has}
use Rattle.text.specs.Find.{same_bytes}
use Rattle.rules.specs.Forms.{Kind, CHG, RAD, ISO, tag, Entry, Property, PropertyLine, EndLine}
use Rattle.judge_line.specs.Got.{got}
use Rattle.judge_line.specs.Field.{elem}
use Rattle.judge_line.specs.Judge.{last, list_of, property_of}
use Rattle.judge_line.specs.AgreeField.{spaces_is}

-- no atom of the entries was seen before, nor stands twice among them
unfoldable pub NewEntries : List ℕ → List Entry → Type 0
NewEntries seen [] = Unit {0}
NewEntries seen (e ∷ es) = (elem e.atom seen ≡ false) × NewEntries (e.atom ∷ seen) es

-- ---- a line of one kind

-- a property line of this kind, whose entries are new
abbrev pub Listing : ℕ → (Kind → List ℕ) → Line → Property → Type 0
Listing n seen l p = PropertyLine n l p × NewEntries (seen p.kind) p.entries

-- ---- any property line, or the end

pub tagged_is : (n : ℕ) (seen : Kind → List ℕ) (l : Line) (kind : Kind) → Has l 1 6 (tag kind) → property_of n seen l ≡ list_of n kind (seen kind) l
unfolding property_of same_bytes
tagged_is n seen l CHG e = rw e
tagged_is n seen l RAD e = rw e
tagged_is n seen l ISO e = rw e

pub end_is : (n : ℕ) (seen : Kind → List ℕ) (l : Line) → EndLine l → property_of n seen l ≡ got last
unfolding property_of same_bytes
end_is n seen l h = rw h.tagged (spaces_is l 7 (got last) h.rest)
