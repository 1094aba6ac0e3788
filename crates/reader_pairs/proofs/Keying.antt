-- A pair's key, as the code makes it.
use Prim.Native.Nat.{ℕ, ◌+◌, ◌*◌, ◌≤◌, ◌<◌}
use mathlib.Core.Path.{◌≡◌}
use borrow.Author.Tests.{lt-ltb, le-ltb}
use Rattle.reader_pairs.specs.Keys.{pair_key}

pub key_low : (first second : ℕ) → first < second → 1024 * first + second ≡ pair_key first second
unfolding pair_key
key_low first second h = rw (lt-ltb first second h)

pub key_high : (first second : ℕ) → second ≤ first → 1024 * second + first ≡ pair_key first second
unfolding pair_key
key_high first second h = rw (le-ltb first second h)

pub ruleset key_laws = (key_low, key_high)
