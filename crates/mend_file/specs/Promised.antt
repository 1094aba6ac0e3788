-- The promise of mending, from what the walk leaves.
use Rattle.std.specs.Prelude.{ℕ, ◌+◌, ◌*◌, ◌/◌, ◌≤◌, ◌<◌, ◌≡◌, refl, List, [], ◌∷◌, ◌++◌, length, take, drop}
use Rattle.std.proofs.Common.{arith, sym, ap, ap₂, ◌∙◌, subst}
use Rattle.std.proofs.lemmas.List.Edits.{sets, sets-eq}
use Rattle.text.specs.Text.{Bytes}
use Rattle.rules.specs.Record.{Raw, GoodSDfile, limit}
use Rattle.judge_file.specs.Place.{sdfile}
use Rattle.judge_file.specs.Verdict.{accepted, refused, verdict}
use Rattle.judge_file.specs.SameVerdict.{accepted_refused, same_reason}
use Rattle.judge_file.proofs.Promise.{accepted_sd}
use Rattle.reader_walk.specs.Promise.{RefusedAt, refused_at_lem}
use Rattle.mend_rules.specs.Text.{mended_text, fixes}
use Rattle.mend_rules.specs.Listed.{numbers, numbers_length}
use Rattle.mend_file.specs.declared.Mended.{Mended}
use Rattle.mend_file.specs.Promise.{mended, numbers_of, Promise}
use Rattle.mend_file.specs.Walked.{Walked}

-- the mended text is good, so long, and has so many repairs
pub record Measured (s : Bytes) (bytes repairs : ℕ) : Type 0 where
  pub xs : List Raw
  pub judged : verdict sdfile limit (mended_text limit s) ≡ accepted xs
  pub bytes_are : bytes ≡ length (mended_text limit s)
  pub repairs_are : repairs ≡ length (fixes limit s)

same_done : {a b a' b' : ℕ} → Mended.Done a b ≡ Mended.Done a' b' → (a ≡ a') × (b ≡ b')
same_done h = (cc, cc)

module _ (s : Bytes) (a b : List ℕ) (r : Mended) (a' b' : List ℕ) where
  pub measured : (bytes repairs : ℕ) → Walked s a b r a' b' → r ≡ Mended.Done bytes repairs → Measured s bytes repairs
  measured bytes repairs (Walked.good {xs = xs} v e f g) h =
      let n = same_done (sym h ∙ e) in
      record { xs = xs; judged = v; bytes_are = n.0; repairs_are = n.1 }
  measured bytes repairs (Walked.bad v e) h = accepted_refused (ap numbers_of (sym h ∙ e))

  pub promise_bad : (n line column : ℕ) → Walked s a b r a' b' → r ≡ Mended.Refused n line column → (room list : List ℕ) →
      Promise s room list (refused n line column) room list
  promise_bad n line column (Walked.good v e f g) h room list = accepted_refused (ap numbers_of (sym e ∙ h))
  promise_bad n line column (Walked.bad v e) h room list =
      Promise.bad (same_reason (RefusedAt sdfile (mended_text limit s)) (ap numbers_of (sym e ∙ h)) (refused_at_lem (mended_text limit s) _ _ _ v)) refl refl refl

module _ (s : Bytes) (bytes repairs : ℕ) (g : Measured s bytes repairs) (room list : List ℕ) where
  good : GoodSDfile (mended_text limit s) g.xs
  good = let x = (accepted_sd limit (mended_text limit s) g.xs).0 g.judged in (x.0, x.1, x.2)

  pub promise_room : length room < bytes → Promise s room list (refused 38 0 0) room list
  promise_room h = Promise.no_room good (omega (arith, g.bytes_are)) refl refl refl

  pub promise_list : bytes ≤ length room → length list / 2 < repairs → Promise s room list (refused 39 0 0) room list
  promise_list h k = Promise.no_list good (omega (arith, g.bytes_are)) (omega (arith, g.repairs_are)) refl refl refl

  pub promise_done : (r : Mended) (room' list' : List ℕ) → bytes ≤ length room → repairs ≤ length list / 2 → Walked s room list r room' list' →
      Promise s room list (numbers_of r) room' list'
  promise_done r room' list' h k (Walked.good v e a b) =
      let n : 0 + length (mended_text limit s) ≡ length (mended_text limit s) = omega arith in
      let i : 0 + length (numbers (fixes limit s)) ≡ 2 * length (fixes limit s) = omega (arith, numbers_length (fixes limit s)) in
      Promise.done good (omega (arith, g.bytes_are)) (omega (arith, g.repairs_are)) (ap numbers_of e)
      (a ∙ sets-eq (mended_text limit s) room 0 (omega (arith, g.bytes_are)) ∙ ap (λ (z : ℕ). mended_text limit s ++ drop z room) n)
      (b ∙ sets-eq (numbers (fixes limit s)) list 0 (omega (arith, g.repairs_are, numbers_length (fixes limit s))) ∙ ap (λ (z : ℕ). numbers (fixes limit s) ++ drop z list) i)
  promise_done r room' list' h k (Walked.bad v e) = accepted_refused (sym g.judged ∙ v)

pub ruleset promise_laws = (measured, promise_bad, promise_room, promise_list, promise_done)
