-- The answer of the counter to a part: what the last array of a sequence of calls tells in the words of the rules.
use Rattle.std.specs.Prelude.{ℕ, zero, suc, ◌+◌, ◌<◌, ◌^◌, ◌≡◌, refl, ◌↔◌, ◌⊎◌, Bool, List, length}
use Rattle.std.proofs.Common.{arith, sym, ap, ◌∙◌, inl, inr}
use Rattle.text.specs.Text.{Bytes}
use Rattle.rules.specs.Record.{Raw, GoodSDfile}
use Rattle.judge_file.specs.SameVerdict.{accepted_refused}
use Rattle.reader_feed.specs.declared.Counter.{Counter}
use Rattle.reader_feed.specs.declared.Fed.{Fed}
use Rattle.reader_feed.specs.Fed.{begun, fed_of}
use Rattle.reader_feed.specs.Says.{Told, accepted, refused, too_long}
use Rattle.reader_feed.specs.TooLong.{TooLong}
use Rattle.reader_feed.specs.Calls.{fed_as, Feeds}
use Rattle.reader_feed.specs.Promise.{Writes, counter_writes}
use Rattle.capellanote_numbers.specs.Numbers.{truth, fed_numbers}
use Rattle.capellanote.specs.Answer.{number, by_first, first_refused, zero_exactly}
use Rattle.capellanote.specs.Check.{at_numbered}

-- what an array tells
abbrev pub good_told : ℕ → List ℕ → Fed
good_told zero a = Fed.More (record { records = number a 2; lines = number a 3 }) (number a 4)
good_told (suc zero) a = Fed.Accepted (number a 2)
good_told (suc (suc n)) a = Fed.TooLong (number a 2)

unfoldable pub fed_told : List ℕ → Fed
fed_told a = by_first (number a 0) (good_told (number a 1) a) (λ e. Fed.Refused e (number a 1) (number a 2))

-- by the rules the input is a good SDfile, or one of its records is too long
abbrev pub Good : ℕ → Bytes → Type 0
Good room t = ((xs : List Raw) × GoodSDfile t xs) ⊎ ((k : ℕ) × TooLong room t k)

-- where a call answers as the last of a sequence over an input, its array tells what is to be said of that input
pub record FeedPromise (c : Counter) (part : Bytes) (ended : Bool) (room : ℕ) (a : List ℕ) : Type 0 where
  pub last : (t : Bytes) (x : Told) → length t + 1 < 2 ^ 64 → Feeds room begun t x → fed_of c part ended room ≡ fed_as x → (fed_told a ≡ fed_as x) × Writes room t x

-- ---- The last array tells what is to be said, since no refusal has the number 0

tells : (room : ℕ) (t : Bytes) (told : Told) → Writes room t told → fed_told (fed_numbers (fed_as told)) ≡ fed_as told
unfolding fed_numbers fed_told
tells room t (accepted n) w = refl
tells room t (too_long k) w = refl
tells room t (refused e i c) w = first_refused e (good_told i (fed_numbers (Fed.Refused e i c))) (λ (n : ℕ). Fed.Refused n i c) (at_numbered (w.0.refuses e i c refl))

module _ (c : Counter) (part : Bytes) (t : Bool) (b room : ℕ) (x : Fed) (out : List ℕ) (e : out ≡ fed_numbers x) (h : x ≡ fed_of c part t room) (q : t ≡ truth b) where
  pub fed_held : out ≡ fed_numbers (fed_of c part (truth b) room)
  fed_held = e ∙ ap fed_numbers (h ∙ ap (λ (u : Bool). fed_of c part u room) q)

  pub fed_told_lem : FeedPromise c part (truth b) room out
  fed_told_lem =
      record {
        last = λ s y few f same.
            let w = counter_writes room s y few f in
            (ap fed_told (fed_held ∙ ap fed_numbers same) ∙ tells room s y w, w);
      }

pub ruleset fed_laws = (fed_held, fed_told_lem)

-- ---- Its first number is 0 exactly if the input is a good SDfile or has a record that is too long

apart_accepted : {X : Type 0} {e i c n : ℕ} → Fed.Refused e i c ≡ Fed.Accepted n → X
apart_accepted h = absurd (let z : ◌≡◌ {A = ℕ} 0 1 = cc in omega arith)

apart_long : {X : Type 0} {e i c n : ℕ} → Fed.Refused e i c ≡ Fed.TooLong n → X
apart_long h = absurd (let z : ◌≡◌ {A = ℕ} 0 1 = cc in omega arith)

good_kept : {X : Type 0} (n : ℕ) (a : List ℕ) (e i c : ℕ) → good_told n a ≡ Fed.Refused e i c → X
good_kept zero a e i c h = absurd (let z : ◌≡◌ {A = ℕ} 0 1 = cc in omega arith)
good_kept (suc zero) a e i c h = apart_accepted (sym h)
good_kept (suc (suc n)) a e i c h = apart_long (sym h)

module _ (a : List ℕ) (room : ℕ) (t : Bytes) where
  abbrev said : Fed
  said = good_told (number a 1) a

  told : (x : Told) → Writes room t x → fed_told a ≡ fed_as x → fed_told a ≡ said → Good room t
  told (accepted n) w h z = let g = (w.0.accepts n).0 refl in inl (g.0, g.1)
  told (too_long k) w h z = inr (k, w)
  told (refused e i c) w h z = good_kept (number a 1) a e i c (sym z ∙ h)

  kept : (x : Told) → Writes room t x → fed_told a ≡ fed_as x → Good room t → (n : ℕ) → fed_told a ≡ Fed.Refused n (number a 1) (number a 2) → ⊥
  kept (accepted n) w h g e f = apart_accepted (sym f ∙ h)
  kept (too_long k) w h g e f = apart_long (sym f ∙ h)
  kept (refused e i c) w h (inl g) n f =
      accepted_refused (sym ((w.0.accepts (length g.0)).1 (g.0, g.1, refl)))
  kept (refused e i c) w h (inr l) n f = absurd (w.1 l.0 l.1)

module _ (c : Counter) (part : Bytes) (ended : Bool) (room : ℕ) (a : List ℕ) (p : FeedPromise c part ended room a) where
  pub feed_good : (t : Bytes) (x : Told) → length t + 1 < 2 ^ 64 → Feeds room begun t x → fed_of c part ended room ≡ fed_as x → (number a 0 ≡ 0) ↔ Good room t
  unfolding fed_told
  feed_good t x few f same =
      let l = p.last t x few f same in
      zero_exactly (number a 0) (said a room t) (λ (e : ℕ). Fed.Refused e (number a 1) (number a 2)) (told a room t x l.1 l.0) (kept a room t x l.1 l.0)
