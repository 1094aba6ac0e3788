-- A call that asks for more: how much of the part it has used.
use Rattle.std.specs.Prelude.{ℕ, zero, suc, ◌+◌, ◌≤◌, ◌<◌, ◌≡◌, refl, Bool, true, false, ltb, length}
use Rattle.std.proofs.Common.{arith, sym, ◌∙◌, ltb-true, ltb-false}
use Rattle.text.specs.Text.{Bytes}
use Rattle.reader_cursor.specs.declared.Cursor.{Cursor}
use Rattle.reader_cursor.specs.Walk.{Walk, over, short, stopped, cursor_of, file_walk}
use Rattle.reader_cursor.specs.After.{walk_after}
use Rattle.reader_feed.specs.declared.Counter.{Counter}
use Rattle.reader_feed.specs.declared.Fed.{Fed}
use Rattle.reader_feed.specs.Fed.{plus_of, counted, wait_of, short_of, end_of, fed_by, fed_of}
use Rattle.reader_feed.specs.Feeding.{wait_used, wait_room, wait_none, short_ended, short_waits, end_ended, end_waits}
use Rattle.reader_feed.specs.Says.{Told, accepted, refused, too_long}
use Rattle.reader_feed.specs.Calls.{fed_as}

pub not_more : {X : Type 0} (told : Told) (c : Counter) (used : ℕ) → fed_as told ≡ Fed.More c used → X
not_more (accepted n) c used h = absurd (let z : ◌≡◌ {A = ℕ} 0 1 = cc in omega arith)
not_more (refused e i column) c used h = absurd (let z : ◌≡◌ {A = ℕ} 0 1 = cc in omega arith)
not_more (too_long k) c used h = absurd (let z : ◌≡◌ {A = ℕ} 0 1 = cc in omega arith)

-- the bytes used lie within the part, more input is to follow, and none are used only where the part leaves room
pub record Asks (ended : Bool) (room len from used : ℕ) : Type 0 where
  pub open_yet : ended ≡ false
  pub later : from ≤ used
  pub within : used ≤ len
  pub idle : used ≡ 0 → len < room

module _ (room len : ℕ) (c' : Counter) (used' : ℕ) where
  same_used : {c : Counter} {used : ℕ} → Fed.More c used ≡ Fed.More c' used' → used ≡ used'
  same_used h = cc

  wait_asks : (ended : Bool) (c : Counter) (used : ℕ) → ended ≡ false → used ≤ len → wait_of c used len room ≡ Fed.More c' used' → Asks ended room len used used'
  wait_asks ended c used off fits h = go (ltb 0 used) refl (ltb len room) refl
    where
      go : (a : Bool) → ltb 0 used ≡ a → (b : Bool) → ltb len room ≡ b → Asks ended room len used used'
      go true ea b eb =
          let e = same_used (wait_used c used len room (ltb-true 0 used ea) ∙ h) in
          let some = ltb-true 0 used ea in
          record { open_yet = off; later = omega (arith, e); within = omega (arith, e, fits); idle = λ z. absurd (omega (arith, e, z, some)) }
      go false ea true eb =
          let e = same_used (wait_room c used len room (ltb-false 0 used ea) (ltb-true len room eb) ∙ h) in
          record { open_yet = off; later = omega (arith, e); within = omega (arith, e, fits); idle = λ z. ltb-true len room eb }
      go false ea false eb =
          not_more (too_long (plus_of c.records 1)) c' used' (wait_none c used len room (plus_of c.records 1) (ltb-false 0 used ea) (ltb-false len room eb) refl ∙ h)

  end_asks : (ended : Bool) (c : Counter) (used : ℕ) → used ≤ len → end_of ended room len c used ≡ Fed.More c' used' → Asks ended room len used used'
  end_asks true c used fits h = not_more (accepted c.records) c' used' (end_ended true c used len room refl ∙ h)
  end_asks false c used fits h = wait_asks false c used refl fits (end_waits false c used len room (wait_of c used len room) refl refl ∙ h)

  short_asks : (ended : Bool) (c : Counter) (d : Cursor) (i : ℕ) → d.at ≤ len → short_of ended room len c d i ≡ Fed.More c' used' → Asks ended room len d.at used'
  short_asks true c d i fits h =
      not_more (refused 19 (plus_of c.lines i) 1) c' used' (short_ended true c d len room i (plus_of c.lines i) refl refl ∙ h)
  short_asks false c d i fits h =
      wait_asks false (counted c d) d.at refl fits (short_waits false c d len room i (counted c d) (wait_of (counted c d) d.at len room) refl refl refl ∙ h)

pub call_asks : (room : ℕ) (c : Counter) (part : Bytes) (ended : Bool) (c' : Counter) (used : ℕ) → fed_of c part ended room ≡ Fed.More c' used → Asks ended room (length part) 0 used
unfolding fed_of
call_asks room c part ended c' used h = go (file_walk part) (walk_after part).inside h
  where
    from_start : {from : ℕ} → Asks ended room (length part) from used → Asks ended room (length part) 0 used
    from_start a = record { open_yet = a.open_yet; later = omega arith; within = a.within; idle = a.idle }

    go : (w : Walk) → (cursor_of w).at ≤ length part → fed_by ended room (length part) c w ≡ Fed.More c' used → Asks ended room (length part) 0 used
    go (over xs d) f q = from_start (end_asks room (length part) c' used ended (counted c d) d.at f q)
    go (short xs d i) f q = from_start (short_asks room (length part) c' used ended c d i f q)
    go (stopped xs d e i column) f q = not_more (refused e (plus_of c.lines i) column) c' used q

-- a call on a full buffer, or with the end of the input, does not ask for more and use nothing
pub call_moves : (room : ℕ) (c : Counter) (part : Bytes) (ended : Bool) (c' : Counter) (used : ℕ) → room ≤ length part → fed_of c part ended room ≡ Fed.More c' used → 0 < used
call_moves room c part ended c' used full h = go used (call_asks room c part ended c' used h)
  where
    go : (n : ℕ) → Asks ended room (length part) 0 n → 0 < n
    go zero a = absurd (omega (arith, full, a.idle refl))
    go (suc n) a = omega arith
