-- A look for an item, by lines and by steps over the items. There is one answer for every text and name: `Looking` shows it.
use Rattle.std.specs.Prelude.{ℕ, ◌+◌, ◌-◌, ◌≡◌, Bool, true, false, cond, ◌&&◌, ◌||◌, eqb, leb, take, drop}
use Rattle.text.specs.Text.{Bytes, Line, byte}
use Rattle.text.specs.Columns.{column}
use Rattle.text.specs.Find.{line_at, same_bytes}
use Rattle.text.specs.declared.LineAt.{LineAt}
use Rattle.reader_items.specs.Step.{step_of}
use Rattle.reader_items.specs.declared.ItemAt.{ItemAt}
use Rattle.reader_look.specs.declared.Looked.{Looked}
use Rattle.reader_look.specs.declared.Reached.{Reached}
use Rattle.reader_look.specs.declared.Sought.{Sought}

-- ---- Up to the items

-- from the fourth line on: the first byte is `>` or `$`
unfoldable pub begins_item : Line → ℕ → Bool
begins_item l lines = leb 3 lines && (eqb (column l 1) (byte ">") || eqb (column l 1) (byte "$"))

-- from a position on, before which there are so many lines
pub data Reaches (s : Bytes) : ℕ → ℕ → Reached → Type 0 where
  here : {at lines e n : ℕ} → line_at s at ≡ LineAt.Line e n → begins_item (take (e - at) (drop at s)) lines ≡ true → Reaches s at lines (Reached.At at lines)
  on : {at lines e n : ℕ} {r : Reached} → line_at s at ≡ LineAt.Line e n → begins_item (take (e - at) (drop at s)) lines ≡ false →
      Reaches s n (lines + 1) r → Reaches s at lines r
  beyond : {at lines : ℕ} → line_at s at ≡ LineAt.Unfinished → Reaches s at lines Reached.Beyond

-- ---- Over the items

unfoldable pub keep_first : Sought → ℕ → ℕ → Sought
keep_first (Sought.At a b) from to = Sought.At a b
keep_first Sought.Nowhere from to = Sought.At from to

-- an item, of the name or not, with its values
unfoldable pub keep : Sought → Bool → ℕ → ℕ → Sought
keep sought named from to = cond named (keep_first sought from to) sought

-- at the end of the record
unfoldable pub looked_by : Sought → ℕ → ℕ → Looked
looked_by (Sought.At from to) n k = Looked.Item from to n k
looked_by Sought.Nowhere n k = Looked.Missing n k

unfoldable pub unlooked : ℕ → Looked
unlooked e = cond (eqb e 19) Looked.Beyond Looked.Other

-- from a position on, before which there are so many lines, with what was found so far
pub data Looks (s name : Bytes) : ℕ → ℕ → Sought → Looked → Type 0 where
  end : {at lines n : ℕ} {sought : Sought} → step_of s at ≡ ItemAt.End n → Looks s name at lines sought (looked_by sought n (lines + 1))
  stop : {at lines e i c : ℕ} {sought : Sought} → step_of s at ≡ ItemAt.Refused e i c → Looks s name at lines sought (unlooked e)
  on : {at lines a b from to n k : ℕ} {sought : Sought} {r : Looked} → step_of s at ≡ ItemAt.Item a b from to n k →
      Looks s name n (lines + k) (keep sought (same_bytes (take (b - a) (drop a s)) name) from to) r → Looks s name at lines sought r

-- ---- The look

pub data LookOf (s name : Bytes) : Looked → Type 0 where
  near : {at lines : ℕ} {r : Looked} → Reaches s 0 0 (Reached.At at lines) → Looks s name at lines Sought.Nowhere r → LookOf s name r
  far : Reaches s 0 0 Reached.Beyond → LookOf s name Looked.Beyond
