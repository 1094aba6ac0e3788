-- What mending a file promises, in the words of the rules: the mended text is judged, then the room, then the list. There is one answer and one memory.
use Rattle.std.specs.Prelude.{ℕ, ◌*◌, ◌≤◌, ◌<◌, ◌≡◌, refl, List, [], ◌++◌, length, drop}
use Rattle.std.proofs.Common.{arith, sym, ap, ◌∙◌, append-nil}
use Rattle.text.specs.Text.{Bytes}
use Rattle.rules.specs.Record.{Raw, GoodSDfile, limit}
use Rattle.judge_file.specs.Place.{sdfile}
use Rattle.judge_file.specs.Verdict.{Verdict, accepted, refused}
use Rattle.reader_walk.specs.Promise.{RefusedAt, same_refusal, refused_bad}
use Rattle.mend_rules.specs.Text.{mended_text, fixes}
use Rattle.mend_rules.specs.Listed.{numbers}
use Rattle.mend_file.specs.declared.Mended.{Mended}

-- ---- What an answer says

-- the length of the mended text, and the number of repairs
pub record Size : Type 0 where
  pub text : ℕ
  pub repairs : ℕ

abbrev pub mended : ℕ → ℕ → Verdict Size
mended length repairs = accepted (record { text = length; repairs = repairs })

abbrev pub numbers_of : Mended → Verdict Size
numbers_of (Mended.Done length repairs) = mended length repairs
numbers_of (Mended.Refused e line column) = refused e line column

-- room and list were lent, r is the answer, and they are then room' and list'
pub data Promise (s : Bytes) (room list : List ℕ) (r : Verdict Size) (room' list' : List ℕ) : Type 0 where
  -- the mended text is not good: as the check refuses it, its line counted there
  bad : {e line column : ℕ} → RefusedAt sdfile (mended_text limit s) e line column → r ≡ refused e line column → room' ≡ room → list' ≡ list → Promise s room list r room' list'
  no_room : {xs : List Raw} → GoodSDfile (mended_text limit s) xs → length room < length (mended_text limit s) → r ≡ refused 38 0 0 → room' ≡ room → list' ≡ list →
      Promise s room list r room' list'
  no_list : {xs : List Raw} → GoodSDfile (mended_text limit s) xs → length (mended_text limit s) ≤ length room → length list < 2 * length (fixes limit s) → r ≡ refused 39 0 0 →
      room' ≡ room → list' ≡ list → Promise s room list r room' list'
  done : {xs : List Raw} → GoodSDfile (mended_text limit s) xs → length (mended_text limit s) ≤ length room → 2 * length (fixes limit s) ≤ length list →
      r ≡ mended (length (mended_text limit s)) (length (fixes limit s)) → room' ≡ mended_text limit s ++ drop (length (mended_text limit s)) room →
      list' ≡ numbers (fixes limit s) ++ drop (2 * length (fixes limit s)) list → Promise s room list r room' list'

-- ---- One answer and one memory

good_refused : {X : Type 0} {t : Bytes} {xs : List Raw} {e line column : ℕ} → GoodSDfile t xs → RefusedAt sdfile t e line column → X
good_refused {xs = xs} g f = absurd (refused_bad f (g.0, g.1, (xs, g.2)))

module _ (s : Bytes) (room list : List ℕ) (r₁ r₂ : Verdict Size) (a₁ b₁ a₂ b₂ : List ℕ) where
  abbrev Same : Type 0
  Same = (r₁ ≡ r₂) × (a₁ ≡ a₂) × (b₁ ≡ b₂)

  pub one_promise : Promise s room list r₁ a₁ b₁ → Promise s room list r₂ a₂ b₂ → Same
  one_promise (Promise.bad f e a b) (Promise.bad f' e' a' b') =
      (e ∙ same_refusal sdfile (mended_text limit s) f f' ∙ sym e', a ∙ sym a', b ∙ sym b')
  one_promise (Promise.bad f e a b) (Promise.no_room g n e' a' b') = good_refused g f
  one_promise (Promise.bad f e a b) (Promise.no_list g n k e' a' b') = good_refused g f
  one_promise (Promise.bad f e a b) (Promise.done g n k e' a' b') = good_refused g f
  one_promise (Promise.no_room g n e a b) (Promise.bad f e' a' b') = good_refused g f
  one_promise (Promise.no_room g n e a b) (Promise.no_room g' n' e' a' b') = (e ∙ sym e', a ∙ sym a', b ∙ sym b')
  one_promise (Promise.no_room g n e a b) (Promise.no_list g' n' k' e' a' b') = absurd (omega arith)
  one_promise (Promise.no_room g n e a b) (Promise.done g' n' k' e' a' b') = absurd (omega arith)
  one_promise (Promise.no_list g n k e a b) (Promise.bad f e' a' b') = good_refused g f
  one_promise (Promise.no_list g n k e a b) (Promise.no_room g' n' e' a' b') = absurd (omega arith)
  one_promise (Promise.no_list g n k e a b) (Promise.no_list g' n' k' e' a' b') = (e ∙ sym e', a ∙ sym a', b ∙ sym b')
  one_promise (Promise.no_list g n k e a b) (Promise.done g' n' k' e' a' b') = absurd (omega arith)
  one_promise (Promise.done g n k e a b) (Promise.bad f e' a' b') = good_refused g f
  one_promise (Promise.done g n k e a b) (Promise.no_room g' n' e' a' b') = absurd (omega arith)
  one_promise (Promise.done g n k e a b) (Promise.no_list g' n' k' e' a' b') = absurd (omega arith)
  one_promise (Promise.done g n k e a b) (Promise.done g' n' k' e' a' b') = (e ∙ sym e', a ∙ sym a', b ∙ sym b')
