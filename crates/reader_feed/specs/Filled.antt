-- Calls on a full buffer, or with all that is left of the input, come to an end.
use Rattle.std.specs.Prelude.{ℕ, zero, suc, ◌≤◌, ◌<◌, ◌≡◌, refl, [], Bool, true, false, ltb, length, take, drop}
use Rattle.std.proofs.Common.{arith, sym, ap, append-nil, length-drop, take-append-drop, length-take-le, ltb-true, ltb-false}
use Rattle.text.specs.Text.{Bytes}
use Rattle.reader_feed.specs.declared.Counter.{Counter}
use Rattle.reader_feed.specs.declared.Fed.{Fed}
use Rattle.reader_feed.specs.Fed.{fed_of}
use Rattle.reader_feed.specs.Says.{Told, accepted, refused, too_long}
use Rattle.reader_feed.specs.Calls.{Said, numbers_of, Handed, Feeds}
use Rattle.reader_feed.specs.Asks.{call_asks, call_moves}

full_part : (room : ℕ) (t : Bytes) → room < length t → Handed room t (take room t) false
full_part room t many =
    record {
      rest = drop room t;
      whole = sym (take-append-drop room t);
      fits = omega (arith, length-take-le room t (omega (arith, many)));
      at_end_lem = λ e. absurd (let z : ◌≡◌ {A = ℕ} 0 1 = cc in omega arith);
      full = λ e h. omega (arith, many, length-drop room t);
    }

last_part : (room : ℕ) (t : Bytes) → length t ≤ room → Handed room t t true
last_part room t few =
    record {
      rest = [];
      whole = sym (append-nil t);
      fits = few;
      at_end_lem = λ e. refl;
      full = λ e. absurd (let z : ◌≡◌ {A = ℕ} 0 1 = cc in omega arith);
    }

-- such calls: each part fills the room, or is all that is left
pub data Filled (room : ℕ) : Counter → Bytes → Told → Type 0 where
  last : {c : Counter} {t : Bytes} {told : Told} → numbers_of (fed_of c t true room) ≡ Said.tells told → length t ≤ room → Filled room c t told
  stop : {c : Counter} {t : Bytes} {told : Told} → numbers_of (fed_of c (take room t) false room) ≡ Said.tells told → room < length t → Filled room c t told
  more : {c : Counter} {t : Bytes} {told : Told} (c' : Counter) (used : ℕ) → numbers_of (fed_of c (take room t) false room) ≡ Said.asks c' used → room < length t →
      Filled room c' (drop used t) told → Filled room c t told

pub filled_feeds : {room : ℕ} {c : Counter} {t : Bytes} {told : Told} → Filled room c t told → Feeds room c t told
filled_feeds {room = room} {t = t} (Filled.last e few) = Feeds.last t true (last_part room t few) e
filled_feeds {room = room} {t = t} (Filled.stop e many) = Feeds.last (take room t) false (full_part room t many) e
filled_feeds {room = room} {t = t} (Filled.more c' used e many f) = Feeds.more (take room t) false c' used (full_part room t many) e (filled_feeds f)

-- an answer ends the calls or asks for more
data Kind (r : Fed) : Type 0 where
  ends : (told : Told) → numbers_of r ≡ Said.tells told → Kind r
  asks : (c : Counter) (used : ℕ) → r ≡ Fed.More c used → Kind r

kind : (r : Fed) → Kind r
kind (Fed.More c used) = Kind.asks c used refl
kind (Fed.Accepted n) = Kind.ends (accepted n) refl
kind (Fed.Refused e i column) = Kind.ends (refused e i column) refl
kind (Fed.TooLong k) = Kind.ends (too_long k) refl

abbrev Comes : ℕ → Bytes → Type 0
Comes room t = (c : Counter) → (told : Told) × Filled room c t told

comes_last : (room : ℕ) (t : Bytes) → length t ≤ room → Comes room t
comes_last room t few c = go (kind (fed_of c t true room))
  where
    go : Kind (fed_of c t true room) → (told : Told) × Filled room c t told
    go (Kind.ends told e) = (told, Filled.last e few)
    go (Kind.asks c' used e) =
        let q : true ≡ false = (call_asks room c t true c' used e).open_yet in
        absurd (let z : ◌≡◌ {A = ℕ} 0 1 = cc in omega arith)

comes_more : (room m : ℕ) (t : Bytes) → room < length t → length t ≤ suc m → ((u : Bytes) → length u ≤ m → Comes room u) → Comes room t
comes_more room m t many few r c = go (kind (fed_of c (take room t) false room))
  where
    size : length (take room t) ≡ room
    size = length-take-le room t (omega (arith, many))

    go : Kind (fed_of c (take room t) false room) → (told : Told) × Filled room c t told
    go (Kind.ends told e) = (told, Filled.stop e many)
    go (Kind.asks c' used e) =
        let some = call_moves room c (take room t) false c' used (omega (arith, size)) e in
        let f = r (drop used t) (omega (arith, few, many, some, length-drop used t)) c' in
        (f.0, Filled.more c' used (ap numbers_of e) many f.1)

comes : (room m : ℕ) (t : Bytes) → length t ≤ m → Comes room t
comes room zero t h = comes_last room t (omega (arith, h))
comes room (suc m) t h = by (λ u f. comes room m u f) (ltb room (length t)) refl
  where
    by : ((u : Bytes) → length u ≤ m → Comes room u) → (many : Bool) → ltb room (length t) ≡ many → Comes room t
    by r true e = comes_more room m t (ltb-true room (length t) e) h r
    by r false e = comes_last room t (ltb-false room (length t) e)

-- whatever the input and the counts before it
pub filled_ends : (room : ℕ) (t : Bytes) (c : Counter) → (told : Told) × Filled room c t told
filled_ends room t c = comes room (length t) t (omega arith) c
