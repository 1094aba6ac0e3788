-- The promise of a key, in the words of the rules.
use Rattle.std.specs.Prelude.{ℕ, ◌≡◌, List}
use Rattle.text.specs.Text.{Bytes, Line, Lines}
use Rattle.rules.specs.Record.{Raw, Record, limit}
use Rattle.judge_refusals.specs.NoRecord.{NoRecord}
use Rattle.store_event.specs.Scan.{key_at}
use Rattle.stock_rules.specs.Key.{Which, Keyed, Terms, record_key}
use Rattle.stock_rules.specs.Key as K
use Rattle.stock_key.specs.declared.Fault.{Fault}
use Rattle.stock_key.specs.declared.KeyRead.{KeyRead}
use Rattle.stock_key.specs.Read.{key_read_of}

abbrev pub fault_of : K.Fault → Fault
fault_of K.Fault.missing = Fault.Missing
fault_of K.Fault.too_long = Fault.TooLong
fault_of K.Fault.padded = Fault.Padded

-- the answer that says this of a record: a key by its three words
abbrev pub read_of : Keyed → KeyRead
read_of (Keyed.key k) = KeyRead.Key (key_at k 0)
read_of (Keyed.no_key Which.supplier f) = KeyRead.NoSupplier (fault_of f)
read_of (Keyed.no_key Which.lot f) = KeyRead.NoLot (fault_of f)

-- the record that the text begins with, and its key; or why it begins with none
pub data KeyAt (s : Bytes) (t : Terms) : KeyRead → Type 0 where
  a_record_lem : {ls more : List Line} {rest : Bytes} {x : Raw} → Lines s ls rest → Record limit ls x more → KeyAt s t (read_of (record_key t x.items))
  no_record : {e i column : ℕ} → NoRecord s e i column → KeyAt s t (KeyRead.Refused e i column)

pub record KeyPromise (s supplier lot : Bytes) (pad : ℕ) (r : KeyRead) : Type 0 where
  pub judged : r ≡ key_read_of s supplier lot pad
  pub key : KeyAt s (record { supplier = supplier; lot = lot; pad = pad }) r
