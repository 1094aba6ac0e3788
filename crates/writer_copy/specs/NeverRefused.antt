-- A record that was read can be written: neither its header lines nor its items are refused when they are looked at again. Of single lines
-- `writer_parts/specs/NeverRefused` says the same, of the room `never_refused` (`writer_record/specs/Measure`).
use Rattle.std.specs.Prelude.{ℕ, ◌-◌, ◌≡◌, List, take, drop, ℤ}
use Rattle.std.proofs.Common.{arith, sym, ◌∙◌}
use Rattle.text.specs.Text.{Bytes}
use Rattle.rules.specs.Meaning.{Reading, meaning}
use Rattle.judge_file.specs.Place.{FileKind}
use Rattle.judge_file.specs.Verdict.{accepted, refused}
use Rattle.judge_file.specs.SameVerdict.{accepted_refused}
use Rattle.judge_parts.specs.Written.{headers_text, items_text, written_headers, written_items}
use Rattle.judge_parts.specs.PartAgree.{good_headers}
use Rattle.judge_parts.proofs.PartAgree.{good_items}
use Rattle.writer_record.specs.Write.{Given}
use Rattle.writer_record.specs.Measure.{GoodParts}
use Rattle.writer_record.specs.Promise.{Accepted}
use Rattle.writer_copy.specs.Bridge.{given_of, Front}

module _ (g : Given) (x : Reading) (a : Accepted g x) where
  pub headers_are : written_headers g.headers ≡ accepted (headers_text x.headers)
  unfolding written_headers
  headers_are = rw ((good_headers g.headers x.headers).1 a.headers)

  pub items_are : written_items g.items ≡ accepted (items_text x.items)
  unfolding written_items
  items_are = rw ((good_items g.items x.items).1 a.items)

  pub good_parts : GoodParts g.headers g.items
  good_parts = record { headers = rw headers_are; items = rw items_are }

  -- the arms for a refused header line or item
  pub headers_never : {X : Type 0} (e i c : ℕ) → written_headers g.headers ≡ refused e i c → X
  headers_never e i c h = accepted_refused (sym headers_are ∙ h)

  pub items_never : {X : Type 0} (e i c : ℕ) → written_items g.items ≡ refused e i c → X
  items_never e i c h = accepted_refused (sym items_are ∙ h)

-- so it is for the record at the front of a text
pub front_parts : (f : FileKind) (t : Bytes) (ta tb : List ℤ) (n m chiral len k h a b : ℕ) → Front f t ta tb n m chiral len k h a b →
    GoodParts (take (h - 0) (drop 0 t)) (take (b - a) (drop a t))
front_parts f t ta tb n m chiral len k h a b w = good_parts (given_of t ta tb n m chiral h a b) (meaning w.x) w.accepted
