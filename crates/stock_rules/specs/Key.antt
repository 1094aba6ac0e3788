-- The key of a record: its supplier's text and its lot's, each from the left and filled with a pad byte.
use Rattle.std.specs.Prelude.{ℕ, ◌-◌, List, [], ◌∷◌, ◌++◌, Bool, cond, ◌&&◌, eqb, ltb, length, get_or, replicate}
use Rattle.text.specs.Text.{Bytes, Line}
use Rattle.text.specs.Find.{same_bytes}
use Rattle.rules.specs.Record.{Item}

-- why a text makes no part of a key: there is none, it is longer than its field, or its last byte is the pad byte
pub data Fault : Type 0 where
  missing : Fault
  too_long : Fault
  padded : Fault

pub data Part : Type 0 where
  part : Bytes → Part
  no_part : Fault → Part

unfoldable pub ends_in : ℕ → Bytes → Bool
ends_in pad t = ltb 0 (length t) && eqb (get_or t (length t - 1) 0) pad

-- nothing is trimmed, and no zero is dropped
unfoldable pub filled : ℕ → ℕ → Bytes → Bytes
filled width pad t = t ++ replicate (width - length t) pad

unfoldable pub key_of : ℕ → ℕ → Bytes → Part
key_of width pad t =
    cond (ltb width (length t)) (Part.no_part Fault.too_long)
    (cond (ends_in pad t) (Part.no_part Fault.padded)
    (Part.part (filled width pad t)))

-- ---- Of a record

-- the first value line of the first item of a name
abbrev pub line_of : ℕ → ℕ → List Line → Part
line_of width pad [] = Part.no_part Fault.missing
line_of width pad (l ∷ ls) = key_of width pad l

unfoldable pub part_of : ℕ → ℕ → Bytes → List Item → Part
part_of width pad name [] = Part.no_part Fault.missing
part_of width pad name (i ∷ is) = cond (same_bytes i.name name) (line_of width pad i.values) (part_of width pad name is)

-- which of the two texts is at fault
pub data Which : Type 0 where
  supplier : Which
  lot : Which

pub data Keyed : Type 0 where
  key : Bytes → Keyed
  no_key : Which → Fault → Keyed

-- where both are, the supplier's is named
abbrev pub key_by : Part → Part → Keyed
key_by (Part.no_part f) p = Keyed.no_key Which.supplier f
key_by (Part.part a) (Part.no_part f) = Keyed.no_key Which.lot f
key_by (Part.part a) (Part.part b) = Keyed.key (a ++ b)

-- the names of the two items, and the pad byte
pub record Terms : Type 0 where
  pub supplier : Bytes
  pub lot : Bytes
  pub pad : ℕ

-- four bytes and eight
unfoldable pub record_key : Terms → List Item → Keyed
record_key t is = key_by (part_of 4 t.pad t.supplier is) (part_of 8 t.pad t.lot is)
