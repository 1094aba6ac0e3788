-- Small texts and their keys, and a small join: checked by computation.
use Rattle.std.specs.Prelude.{ℕ, ◌≡◌, refl, List, [], ◌∷◌, ◌++◌, map, pos}
use Rattle.text.specs.Text.{Bytes, bytes}
use Rattle.text.specs.Find as F
use Rattle.rules.specs.Record.{Item}
use Rattle.store_log.specs.Log.{Kind, letter}
use Rattle.store_log.specs.Store.{same_bytes, known, paper_of, place_of, with_paper, receipt, issue, count, event_on}
use Rattle.store_log.specs.Replay.{replay_from}
use Rattle.store_log.specs.Read.{body_of, read_body, read_of, read_from, read_all, replay_log}
use Rattle.stock_rules.specs.Key.{Fault, Part, ends_in, filled, key_of, part_of, Which, Keyed, Terms, record_key}
use Rattle.stock_rules.specs.Join.{Entry, Count, picked, last_count, lot_lines, join_of}

-- ---- Texts of a lot

record Sample : Type 0 where
  pub pad : ℕ
  pub text : Bytes
  pub is : Part

abbrev samples : List Sample
samples =
    record { pad = 32; text = bytes "00417"; is = Part.part (bytes "00417   ") } ∷
    record { pad = 32; text = bytes "417"; is = Part.part (bytes "417     ") } ∷
    record { pad = 32; text = bytes "  417"; is = Part.part (bytes "  417   ") } ∷
    record { pad = 32; text = bytes "12345678"; is = Part.part (bytes "12345678") } ∷
    record { pad = 32; text = bytes "123456789"; is = Part.no_part Fault.too_long } ∷
    record { pad = 32; text = bytes "417 "; is = Part.no_part Fault.padded } ∷
    record { pad = 0; text = bytes "417 "; is = Part.part (bytes "417 " ++ (0 ∷ 0 ∷ 0 ∷ 0 ∷ [])) } ∷
    record { pad = 48; text = bytes "12345678 0"; is = Part.no_part Fault.too_long } ∷
    []

pub samples_are : map (λ s. key_of 8 s.pad s.text) samples ≡ map (λ s. s.is) samples
unfolding ends_in filled key_of
samples_are = refl

-- ---- Items of a record

abbrev usual : Terms
usual = record { supplier = bytes "SUPPLIER"; lot = bytes "LOT"; pad = 32 }

abbrev item : Bytes → List Bytes → Item
item name values = record { name = name; values = values }

-- the first item of a name counts, and its first line
pub keys_are :
    record_key usual (item (bytes "LOT") (bytes "417" ∷ bytes "9" ∷ []) ∷ item (bytes "SUPPLIER") (bytes "AB" ∷ []) ∷ item (bytes "LOT") (bytes "9" ∷ []) ∷ []) ∷
    record_key usual (item (bytes "LOT") [] ∷ item (bytes "SUPPLIER") (bytes "AB" ∷ []) ∷ item (bytes "LOT") (bytes "9" ∷ []) ∷ []) ∷
    record_key usual (item (bytes "LOT") (bytes "123456789" ∷ []) ∷ []) ∷ [] ≡
    Keyed.key (bytes "AB  417     ") ∷ Keyed.no_key Which.lot Fault.missing ∷ Keyed.no_key Which.supplier Fault.missing ∷ []
unfolding F.same_bytes ends_in filled key_of part_of record_key
keys_are = refl

-- ---- A store and four records

abbrev scan : Kind → Bytes → ℕ → Bytes
scan k key q = letter k ∷ (key ++ (q ∷ 0 ∷ []))

-- counted before it is received, and again; the other lot is not counted
abbrev log : Bytes
log =
    scan Kind.counted (bytes "ABCD00417   ") 3 ++ scan Kind.received (bytes "ABCD00417   ") 10 ++ scan Kind.counted (bytes "ABCD00417   ") 8 ++
    scan Kind.received (bytes "WXYZ417     ") 5 ++ scan Kind.counted (bytes "ABCD417     ") 1

abbrev entry : ℕ → ℕ → Keyed → Entry
entry file number k = record { place = record { file = file; number = number }; keyed = k }

abbrev entries : List Entry
entries =
    entry 1 1 (Keyed.key (bytes "ABCD417     ")) ∷ entry 1 2 (Keyed.key (bytes "ABCD00417   ")) ∷
    entry 2 1 (Keyed.key (bytes "ABCD00417   ")) ∷ entry 2 2 (Keyed.no_key Which.lot Fault.padded) ∷ []

pub join_is : join_of log entries ≡ record {
  lots =
      record {
        lot = record { key = bytes "ABCD00417   "; paper = 10 };
        count = Count.counted 8 (pos 2);
        records = 2;
        first = record { file = 1; number = 2 };
      } ∷
      record { lot = record { key = bytes "WXYZ417     "; paper = 5 }; count = Count.none; records = 0; first = record { file = 0; number = 0 } } ∷
      [];
  never = entry 1 1 (Keyed.key (bytes "ABCD417     ")) ∷ [];
  keyless = entry 2 2 (Keyed.no_key Which.lot Fault.padded) ∷ [];
}
unfolding same_bytes known paper_of place_of with_paper receipt issue count event_on replay_from body_of read_body read_of read_from read_all replay_log picked last_count lot_lines join_of
join_is = refl
