-- The key of a record by places in its bytes, as the code has it.
use Rattle.std.specs.Prelude.{ℕ, ◌+◌, ◌-◌, ◌*◌, cond, ◌&&◌, eqb, ltb, get_or}
use Rattle.text.specs.Text.{Bytes}
use Rattle.store_event.specs.declared.Key.{Key}
use Rattle.reader_first_line.specs.declared.FirstLine.{FirstLine}
use Rattle.reader_first_line.specs.First.{first_of}
use Rattle.stock_key.specs.declared.Fault.{Fault}
use Rattle.stock_key.specs.declared.TextAt.{TextAt}
use Rattle.stock_key.specs.declared.KeyRead.{KeyRead}

-- ---- Bytes of a text that is filled

unfoldable pub byte_of : Bytes → ℕ → ℕ → ℕ → ℕ
byte_of s at to pad = cond (ltb at to) (get_or s at 0) pad

unfoldable pub word_of : Bytes → ℕ → ℕ → ℕ → ℕ
word_of s at to pad = byte_of s at to pad + 256 * (byte_of s (at + 1) to pad + 256 * (byte_of s (at + 2) to pad + 256 * byte_of s (at + 3) to pad))

-- ---- A text

unfoldable pub text_in : Bytes → ℕ → ℕ → ℕ → ℕ → TextAt
text_in s from to width pad =
    cond (ltb width (to - from)) (TextAt.Wrong Fault.TooLong)
    (cond (ltb from to && eqb (get_or s (to - 1) 0) pad) (TextAt.Wrong Fault.Padded)
    (TextAt.Good from to))

unfoldable pub absent_by : ℕ → ℕ → ℕ → TextAt
absent_by e i column = cond (eqb e 22) (TextAt.Wrong Fault.Missing) (TextAt.Refused e i column)

abbrev pub text_by : Bytes → ℕ → ℕ → FirstLine → TextAt
text_by s width pad (FirstLine.Line from to) = text_in s from to width pad
text_by s width pad FirstLine.Empty = TextAt.Wrong Fault.Missing
text_by s width pad (FirstLine.Refused e i column) = absent_by e i column

unfoldable pub text_of : Bytes → Bytes → ℕ → ℕ → TextAt
text_of s name width pad = text_by s width pad (first_of s name)

-- ---- The key

abbrev pub lot_by : Bytes → ℕ → ℕ → TextAt → KeyRead
lot_by s supplier pad (TextAt.Good from to) = KeyRead.Key (record { supplier = supplier; first = word_of s from to pad; second = word_of s (from + 4) to pad })
lot_by s supplier pad (TextAt.Wrong why) = KeyRead.NoLot why
lot_by s supplier pad (TextAt.Refused e i column) = KeyRead.Refused e i column

unfoldable pub lot_of : Bytes → ℕ → Bytes → ℕ → KeyRead
lot_of s supplier lot pad = lot_by s supplier pad (text_of s lot 8 pad)

abbrev pub key_by : Bytes → Bytes → ℕ → TextAt → KeyRead
key_by s lot pad (TextAt.Good from to) = lot_of s (word_of s from to pad) lot pad
key_by s lot pad (TextAt.Wrong why) = KeyRead.NoSupplier why
key_by s lot pad (TextAt.Refused e i column) = KeyRead.Refused e i column

unfoldable pub key_read_of : Bytes → Bytes → Bytes → ℕ → KeyRead
key_read_of s supplier lot pad = key_by s lot pad (text_of s supplier 4 pad)
