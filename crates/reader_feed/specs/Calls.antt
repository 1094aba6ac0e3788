-- Calls of the counter, one after the other, over an input.
use Rattle.std.specs.Prelude.{ℕ, ◌≤◌, ◌<◌, ◌≡◌, refl, [], ◌++◌, Bool, true, false, length, drop}
use Rattle.text.specs.Text.{Bytes}
use Rattle.reader_feed.specs.declared.Counter.{Counter}
use Rattle.reader_feed.specs.declared.Fed.{Fed}
use Rattle.reader_feed.specs.Fed.{fed_of}
use Rattle.reader_feed.specs.Says.{Told, accepted, refused, too_long}

-- what an answer says: more is asked for, after these counts and with so many bytes used; or what ends the calls
pub data Said : Type 0 where
  asks : Counter → ℕ → Said
  tells : Told → Said

abbrev pub numbers_of : Fed → Said
numbers_of (Fed.More c used) = asks c used
numbers_of (Fed.Accepted n) = tells (accepted n)
numbers_of (Fed.Refused e i column) = tells (refused e i column)
numbers_of (Fed.TooLong k) = tells (too_long k)

-- the answer that ends a sequence of calls
abbrev pub fed_as : Told → Fed
fed_as (accepted n) = Fed.Accepted n
fed_as (refused e i column) = Fed.Refused e i column
fed_as (too_long k) = Fed.TooLong k

pub as_told : (told : Told) → numbers_of (fed_as told) ≡ tells told
as_told (accepted n) = refl
as_told (refused e i column) = refl
as_told (too_long k) = refl

-- A part of what is left of the input, from its front and no longer than the room. `ended` is said only where nothing follows the part;
-- where the part fills the room, it has been looked whether something follows.
pub record Handed (room : ℕ) (t part : Bytes) (ended : Bool) : Type 0 where
  pub rest : Bytes
  pub whole : t ≡ part ++ rest
  pub fits : length part ≤ room
  pub at_end_lem : ended ≡ true → rest ≡ []
  pub full : ended ≡ false → length part ≡ room → 0 < length rest

-- calls over what is left of the input, each from where the one before left off, up to an answer other than `More`
pub data Feeds (room : ℕ) : Counter → Bytes → Told → Type 0 where
  last : {c : Counter} {t : Bytes} {told : Told} (part : Bytes) (ended : Bool) → Handed room t part ended → numbers_of (fed_of c part ended room) ≡ tells told → Feeds room c t told
  more : {c : Counter} {t : Bytes} {told : Told} (part : Bytes) (ended : Bool) (c' : Counter) (used : ℕ) → Handed room t part ended →
      numbers_of (fed_of c part ended room) ≡ asks c' used → Feeds room c' (drop used t) told → Feeds room c t told
