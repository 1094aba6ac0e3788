-- The promise of the counter: every sequence of calls over an input says one thing, which the rules fix.
use Rattle.std.specs.Prelude.{ℕ, ◌+◌, ◌<◌, ◌^◌, ◌≡◌, refl, length, drop}
use Rattle.std.proofs.Common.{arith, sym, ap, ap₂, ◌∙◌, subst}
use Rattle.text.specs.Text.{Bytes}
use Rattle.judge_file.specs.Place.{sdfile}
use Rattle.judge_file.specs.Verdict.{Verdict}
use Rattle.judge_file.specs.SameVerdict.{accepted_refused, same_reason}
use Rattle.reader_walk.specs.Promise.{Checked, checked_one, verdict_checked}
use Rattle.reader_walk.specs.Checking.{said_of}
use Rattle.reader_feed.specs.declared.Counter.{Counter}
use Rattle.reader_feed.specs.Fed.{begun, fed_of}
use Rattle.reader_feed.specs.Says.{Told, accepted, refused, too_long, counter_says, AsChecked, as_checked}
use Rattle.reader_feed.specs.TooLong.{TooLong, says_too_long}
use Rattle.reader_feed.specs.Calls as Calls
use Rattle.reader_feed.specs.Calls.{numbers_of, as_told, Feeds}
use Rattle.reader_feed.specs.OneCall.{Small, says, Goes, call_goes}

-- ---- What is to be written, in the words of the rules

-- what the check of the whole input promises, if every record ends within the room; else the number of the first that does not
abbrev pub Writes : ℕ → Bytes → Told → Type 0
Writes room t (accepted n) = Checked sdfile t (Verdict.accepted n) × ((k : ℕ) → ¬ TooLong room t k)
Writes room t (refused e i column) = Checked sdfile t (Verdict.refused e i column) × ((k : ℕ) → ¬ TooLong room t k)
Writes room t (too_long k) = TooLong room t k

-- ---- Any sequence of calls says that

same_told : {a b : Told} → Calls.Said.tells a ≡ Calls.Said.tells b → a ≡ b
same_told h = cc

apart : {X : Type 0} {c : Counter} {used : ℕ} {told : Told} → Calls.Said.asks c used ≡ Calls.Said.tells told → X
apart h = absurd (let z : ◌≡◌ {A = ℕ} 0 1 = cc in omega arith)

feeds_say : {room : ℕ} {c : Counter} {t : Bytes} {told : Told} → Feeds room c t told → Small c t → told ≡ says room c t
feeds_say {room = room} {c = c} {t = t} {told = told} (Feeds.last part ended h e) small = go (call_goes room c t part ended h small)
  where
    go : Goes room c.records c.lines 0 t (fed_of c part ended room) → told ≡ says room c t
    go (Goes.tells x q is) = same_told (sym e ∙ ap numbers_of q ∙ as_told x) ∙ is
    go (Goes.waits c' d q s is) = apart (sym (ap numbers_of q) ∙ e)
feeds_say {room = room} {c = c} {t = t} {told = told} (Feeds.more part ended c₁ used h e f) small =
    go (λ s. feeds_say f s) (call_goes room c t part ended h small)
  where
    go : (Small c₁ (drop used t) → told ≡ says room c₁ (drop used t)) → Goes room c.records c.lines 0 t (fed_of c part ended room) → told ≡ says room c t
    go r (Goes.tells x q is) = apart (sym e ∙ ap numbers_of q ∙ as_told x)
    go r (Goes.waits c' d q s is) =
        let both : Calls.Said.asks c₁ used ≡ Calls.Said.asks c' (0 + d) = sym e ∙ ap numbers_of q in
        let ec : c' ≡ c₁ = cc in
        let eu : used ≡ 0 + d = cc in
        let ed : d ≡ used = omega (arith, eu) in
        let moved : Small c₁ (drop used t) = subst (λ (x : Counter). Small x (drop used t)) ec (subst (λ (j : ℕ). Small c' (drop j t)) ed s) in
        r moved ∙ sym (is ∙ ap₂ (λ (x : Counter) (j : ℕ). says room x (drop j t)) ec ed)

-- whatever the parts, the last answer is what the counter is to write for the whole input
pub counter_says_lem : (room : ℕ) (t : Bytes) (told : Told) → length t + 1 < 2 ^ 64 → Feeds room begun t told → told ≡ counter_says room t
unfolding counter_says
counter_says_lem room t told few f = feeds_say f (record { records = omega (arith, few); lines = omega (arith, few) })

checked_said : (t : Bytes) (s : Verdict ℕ) → said_of sdfile t ≡ s → Checked sdfile t s
checked_said t s e = subst (Checked sdfile t) e (verdict_checked t sdfile)

says_writes : (room : ℕ) (t : Bytes) (told : Told) → counter_says room t ≡ told → Writes room t told
says_writes room t (accepted n) e = (
  checked_said t (Verdict.accepted n) (subst (λ (x : Told). AsChecked x (said_of sdfile t)) e (as_checked room t)),
  λ k l. absurd (let q : accepted n ≡ too_long k = sym e ∙ (says_too_long room t k).1 l in let z : ◌≡◌ {A = ℕ} 0 1 = cc in omega arith),
)
says_writes room t (refused n i column) e = (
  checked_said t (Verdict.refused n i column) (subst (λ (x : Told). AsChecked x (said_of sdfile t)) e (as_checked room t)),
  λ k l. absurd (let q : refused n i column ≡ too_long k = sym e ∙ (says_too_long room t k).1 l in let z : ◌≡◌ {A = ℕ} 0 1 = cc in omega arith),
)
says_writes room t (too_long k) e = (says_too_long room t k).0 e

pub counter_writes : (room : ℕ) (t : Bytes) (told : Told) → length t + 1 < 2 ^ 64 → Feeds room begun t told → Writes room t told
counter_writes room t told few f = says_writes room t told (sym (counter_says_lem room t told few f))

-- ---- For every input one line is to be written

pub writes_one : (room : ℕ) (t : Bytes) (a b : Told) → Writes room t a → Writes room t b → a ≡ b
writes_one room t (accepted n) (accepted m) v w =
    let e : Verdict.accepted n ≡ Verdict.accepted m = checked_one 1 t (Verdict.accepted n) (Verdict.accepted m) v.0 w.0 in
    let nm : n ≡ m = cc in
    ap accepted nm
writes_one room t (accepted n) (refused e i c) v w =
    accepted_refused (checked_one 1 t (Verdict.accepted n) (Verdict.refused e i c) v.0 w.0)
writes_one room t (accepted n) (too_long k) v w = absurd (v.1 k w)
writes_one room t (refused e i c) (accepted n) v w =
    accepted_refused (checked_one 1 t (Verdict.accepted n) (Verdict.refused e i c) w.0 v.0)
writes_one room t (refused e i c) (refused e' i' c') v w =
    same_reason (λ (n j d : ℕ). refused e i c ≡ refused n j d) (checked_one 1 t (Verdict.refused e i c) (Verdict.refused e' i' c') v.0 w.0) refl
writes_one room t (refused e i c) (too_long k) v w = absurd (v.1 k w)
writes_one room t (too_long k) (accepted n) v w = absurd (w.1 k v)
writes_one room t (too_long k) (refused e i c) v w = absurd (w.1 k v)
writes_one room t (too_long k) (too_long j) v w = sym ((says_too_long room t k).1 v) ∙ (says_too_long room t j).1 w
