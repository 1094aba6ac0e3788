-- A log has exactly one reading: the events and the close that `read_all` gives.
use Rattle.std.specs.Prelude.{ℕ, zero, suc, ◌+◌, ◌*◌, ◌≤◌, ◌<◌, ◌≡◌, refl, ◌≢◌, List, [], ◌∷◌, ◌++◌, Bool, true, false, cond, eqb, ltb, length, take, drop, get_or}
use Rattle.std.proofs.Common.{arith, sym, ap, ◌∙◌, length-append, take-append-drop, take_at, drop_at, drop-cons, drop-drop, get_or-drop, length-take-le, ne_eqb, eqb-true, lt-ltb, le-ltb, ltb-true, ltb-false}
use Rattle.std.proofs.lemmas.Bool.{eqb-false}
use Rattle.store_log.specs.Log.{Bytes, Kind, Event, Begins, Events, Close, Closes, Logged, letter, day_letter, a_scan, a_day, none, more, no_byte, no_kind, cut_scan, cut_day}
use Rattle.store_log.specs.Read.{Body, Reading, Whole, body_of, read_body, read_of, before, read_by, read_from, read_all}

-- ---- Kinds

body_scan : (k : Kind) → body_of (letter k) ≡ Body.scan k
unfolding body_of
body_scan Kind.received = refl
body_scan Kind.issued = refl
body_scan Kind.counted = refl

body_day : body_of day_letter ≡ Body.day
unfolding body_of
body_day = refl

body_unknown : (x : ℕ) → ((k : Kind) → x ≢ letter k) → x ≢ day_letter → body_of x ≡ Body.unknown
unfolding body_of
body_unknown x h d = rw (ne_eqb x 82 (h Kind.received), ne_eqb x 73 (h Kind.issued), ne_eqb x 67 (h Kind.counted), ne_eqb x 68 d)

-- what a kind's byte is
unfoldable Is : ℕ → Body → Type 0
Is x (Body.scan k) = x ≡ letter k
Is x Body.day = x ≡ day_letter
Is x Body.unknown = ((k : Kind) → x ≢ letter k) × (x ≢ day_letter)

body_is : (x : ℕ) → Is x (body_of x)
unfolding body_of Is
body_is x = go (eqb x 82) refl (eqb x 73) refl (eqb x 67) refl (eqb x 68) refl
  where
    none_of : eqb x 82 ≡ false → eqb x 73 ≡ false → eqb x 67 ≡ false → (k : Kind) → x ≢ letter k
    none_of a b c Kind.received = eqb-false x 82 a
    none_of a b c Kind.issued = eqb-false x 73 b
    none_of a b c Kind.counted = eqb-false x 67 c

    go : (a : Bool) → eqb x 82 ≡ a → (b : Bool) → eqb x 73 ≡ b → (c : Bool) → eqb x 67 ≡ c → (d : Bool) → eqb x 68 ≡ d →
        Is x (cond a (Body.scan Kind.received) (cond b (Body.scan Kind.issued) (cond c (Body.scan Kind.counted) (cond d Body.day Body.unknown))))
    go true ha b hb c hc d hd = eqb-true x 82 ha
    go false ha true hb c hc d hd = eqb-true x 73 hb
    go false ha false hb true hc d hd = eqb-true x 67 hc
    go false ha false hb false hc true hd = eqb-true x 68 hd
    go false ha false hb false hc false hd = (none_of ha hb hc, eqb-false x 68 hd)

-- ---- One event

pub body_length : (key : Bytes) (low high : ℕ) (r : Bytes) → length key ≡ 12 → length (key ++ (low ∷ high ∷ r)) ≡ 14 + length r
body_length key low high r h = let e = length-append key (low ∷ high ∷ r) in omega (arith, e, h)

drop_14 : (key : Bytes) (low high : ℕ) (r : Bytes) → length key ≡ 12 → drop 12 (key ++ (low ∷ high ∷ r)) ≡ low ∷ high ∷ r
drop_14 key low high r h = drop_at key (low ∷ high ∷ r) 12 h

-- a scan's body is its key, the two bytes of the quantity, and the rest
pub at_12 : (t : Bytes) (low high : ℕ) (r : Bytes) → drop 12 t ≡ low ∷ high ∷ r → (get_or t 12 0 ≡ low) × (get_or t 13 0 ≡ high) × (drop 14 t ≡ r)
at_12 t low high r b = (
  sym (get_or-drop 12 t 0 0) ∙ ap (λ (u : Bytes). get_or u 0 0) b,
  sym (get_or-drop 12 t 1 0) ∙ ap (λ (u : Bytes). get_or u 1 0) b,
  sym (drop-drop 2 12 t) ∙ ap (drop 2) b,
)

pub begins_read : {s r : Bytes} {e : Event} → Begins s e r → read_of s ≡ Reading.event e r
unfolding read_of read_body
begins_read {s = s} (a_scan k key low high r h e) =
    let t = key ++ (low ∷ high ∷ r) in
    let l = body_length key low high r h in
    let p = at_12 t low high r (drop_at key (low ∷ high ∷ r) 12 h) in
    rw (e, body_scan k, le-ltb (length t) 14 (omega (arith, l)), take_at key (low ∷ high ∷ r) 12 h, p.0, p.1, p.2)
begins_read {s = s} (a_day date r h e) =
    let l = length-append date r in
    rw (e, body_day, le-ltb (length (date ++ r)) 4 (omega (arith, l, h)), take_at date r 4 h, drop_at date r 4 h)

body_whole : (t : Bytes) → 14 ≤ length t → t ≡ take 12 t ++ (get_or t 12 0 ∷ get_or t 13 0 ∷ drop 14 t)
body_whole t h =
    sym (take-append-drop 12 t) ∙
    ap (λ (u : Bytes). take 12 t ++ u) (drop-cons t 12 0 (omega arith) ∙ ap (λ (u : Bytes). get_or t 12 0 ∷ u) (drop-cons t 13 0 (omega arith)))

pub event_one : {e f : Event} {r q : Bytes} → Reading.event e r ≡ Reading.event f q → (e ≡ f) × (r ≡ q)
event_one h = (cc, cc)

pub close_one : {c d : Close} → Reading.close c ≡ Reading.close d → c ≡ d
close_one h = cc

pub apart : {X : Type 0} {e : Event} {r : Bytes} {c : Close} → Reading.close c ≡ Reading.event e r → X
apart h = absurd (let z : ◌≡◌ {A = ℕ} 0 1 = cc in omega arith)

-- what a reading says of its bytes
abbrev pub Reads : Bytes → Reading → Type 0
Reads s (Reading.event e r) = Begins s e r
Reads s (Reading.close c) = Closes s c

pub reads : (s : Bytes) → Reads s (read_of s)
unfolding read_of read_body Is
reads [] = no_byte refl
reads (x ∷ t) = go (body_of x) (body_is x)
  where
    scans : (k : Kind) → x ≡ letter k → (u : Bool) → ltb (length t) 14 ≡ u →
        Reads (x ∷ t) (cond u (Reading.close (Close.refused 27)) (Reading.event (Event.scan k (take 12 t) (get_or t 12 0 + 256 * get_or t 13 0)) (drop 14 t)))
    scans k e true h = cut_scan k t (ap (λ (y : ℕ). y ∷ t) e) (ltb-true (length t) 14 h)
    scans k e false h =
        let l = ltb-false (length t) 14 h in
        a_scan k (take 12 t) (get_or t 12 0) (get_or t 13 0) (drop 14 t) (length-take-le 12 t (omega arith))
        (ap (λ (y : ℕ). y ∷ t) e ∙ ap (λ (u : Bytes). letter k ∷ u) (body_whole t l))

    days : x ≡ day_letter → (u : Bool) → ltb (length t) 4 ≡ u →
        Reads (x ∷ t) (cond u (Reading.close (Close.refused 27)) (Reading.event (Event.day (take 4 t)) (drop 4 t)))
    days e true h = cut_day t (ap (λ (y : ℕ). y ∷ t) e) (ltb-true (length t) 4 h)
    days e false h =
        a_day (take 4 t) (drop 4 t) (length-take-le 4 t (ltb-false (length t) 4 h))
        (ap (λ (y : ℕ). y ∷ t) e ∙ ap (λ (u : Bytes). day_letter ∷ u) (sym (take-append-drop 4 t)))

    go : (b : Body) → Is x b → Reads (x ∷ t) (read_body b t)
    go (Body.scan k) e = scans k e (ltb (length t) 14) refl
    go Body.day e = days e (ltb (length t) 4) refl
    go Body.unknown e = no_kind x t refl e.0 e.1

pub closes_read : {s : Bytes} {c : Close} → Closes s c → read_of s ≡ Reading.close c
unfolding read_of read_body
closes_read (no_byte e) = rw e
closes_read (no_kind x t e h d) = rw (e, body_unknown x h d)
closes_read (cut_scan k t e h) = rw (e, body_scan k, lt-ltb (length t) 14 h)
closes_read (cut_day t e h) = rw (e, body_day, lt-ltb (length t) 4 h)

-- an event takes a byte or more
pub begins_less : {s r : Bytes} {e : Event} → Begins s e r → length r < length s
begins_less (a_scan k key low high r h e) =
    let l = body_length key low high r h in
    let q = ap length e in
    omega (arith, l, q)
begins_less (a_day date r h e) =
    let l = length-append date r in
    let q = ap length e in
    omega (arith, l, q, h)

-- ---- The whole log

-- the events and the close of a log are those that are read
logged_from : (fuel : ℕ) {s r : Bytes} {es : List Event} {c : Close} → Events s es r → Closes r c → length s < fuel →
    read_from fuel s ≡ record { events = es; close = c }
unfolding read_from
logged_from zero v k h = absurd (omega arith)
logged_from (suc fuel) (none {s = s}) k h = rw (closes_read k)
logged_from (suc fuel) (more {e = e} b v) k h =
    let l = begins_less b in
    rw (begins_read b) (ap (before e) (logged_from fuel v k (omega arith)))

pub logged_read : {s : Bytes} {es : List Event} {c : Close} → Logged s es c → read_all s ≡ record { events = es; close = c }
unfolding read_all
logged_read {s = s} g = logged_from (suc (length s)) g.events g.closes (omega arith)

abbrev one_more_lem : {s t : Bytes} {e : Event} {es : List Event} {c : Close} → Begins s e t → Logged t es c → Logged s (e ∷ es) c
one_more_lem b g = record { rest = g.rest; events = more b g.events; closes = g.closes }

read_from_lem : (fuel : ℕ) (s : Bytes) → length s < fuel → Logged s (read_from fuel s).events (read_from fuel s).close
unfolding read_from
read_from_lem zero s h = absurd (omega arith)
read_from_lem (suc fuel) s h = go (read_of s) (reads s) (λ t l. read_from_lem fuel t l)
  where
    go : (x : Reading) → Reads s x → ((t : Bytes) → length t < fuel → Logged t (read_from fuel t).events (read_from fuel t).close) →
        Logged s (read_by x (λ t. read_from fuel t)).events (read_by x (λ t. read_from fuel t)).close
    go (Reading.event e t) b again = let l = begins_less b in one_more_lem b (again t (omega arith))
    go (Reading.close c) k again = record { rest = s; events = none; closes = k }

-- any bytes are a log
pub read_logged : (s : Bytes) → Logged s (read_all s).events (read_all s).close
unfolding read_all
read_logged s = read_from_lem (suc (length s)) s (omega arith)

pub one_reading : {s : Bytes} {es fs : List Event} {c d : Close} → Logged s es c → Logged s fs d → (es ≡ fs) × (c ≡ d)
one_reading g k =
    let e = sym (logged_read g) ∙ logged_read k in
    (ap (λ (w : Whole). w.events) e, ap (λ (w : Whole). w.close) e)
