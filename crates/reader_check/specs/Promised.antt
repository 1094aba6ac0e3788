-- What the check promises: the judge's verdict, and so the promise in the words of the rules.
use Rattle.std.specs.Prelude.{Result, Ok, Err, ℕ, zero, suc, ◌≡◌, refl}
use Rattle.std.proofs.Common.{sym, ap, ◌∙◌, subst}
use Rattle.text.specs.Text.{Bytes}
use Rattle.judge_file.specs.Place.{molfile, sdfile}
use Rattle.judge_file.specs.Verdict.{Verdict, accepted, refused}
use Rattle.reader_walk.specs.Promise.{CheckedAs, verdict_checked}
use Rattle.reader_walk.specs.Checking.{said_of, check_of}
use Rattle.judge_file.specs.declared.TextRefusal.{TextRefusal}

abbrev pub numbers_of : Result ℕ TextRefusal → Verdict ℕ
numbers_of (Ok count) = accepted count
numbers_of (Err r) = refused r.no r.line r.column

pub record Promised (kind : ℕ) (s : Bytes) (r : Result ℕ TextRefusal) : Type 0 where
  pub judged : numbers_of r ≡ check_of kind s
  pub checked : CheckedAs kind s (numbers_of r)

pub promised : (kind : ℕ) (s : Bytes) (r : Result ℕ TextRefusal) → numbers_of r ≡ check_of kind s → Promised kind s r
promised kind s r e = record { judged = e; checked = subst (CheckedAs kind s) (sym e) (by kind) }
  where
    by : (kind : ℕ) → CheckedAs kind s (check_of kind s)
    by zero = verdict_checked s molfile
    by (suc zero) = verdict_checked s sdfile
    by (suc (suc kind)) = refl

pub promised_mol : (kind : ℕ) (s : Bytes) (r : Result ℕ TextRefusal) → kind ≡ 0 → numbers_of r ≡ said_of molfile s → Promised kind s r
promised_mol kind s r e h = promised kind s r (h ∙ ap (λ (k : ℕ). check_of k s) (sym e))

pub promised_sd : (kind : ℕ) (s : Bytes) (r : Result ℕ TextRefusal) → kind ≡ 1 → numbers_of r ≡ said_of sdfile s → Promised kind s r
promised_sd kind s r e h = promised kind s r (h ∙ ap (λ (k : ℕ). check_of k s) (sym e))

pub promised_none : (kind : ℕ) (s : Bytes) → (kind ≡ 0 → ⊥) → (kind ≡ 1 → ⊥) → Promised kind s (Err (record { no = 1; line = 0; column = 0 }))
promised_none kind s z o = promised kind s (Err (record { no = 1; line = 0; column = 0 })) (other kind z o)
  where
    other : (kind : ℕ) → (kind ≡ 0 → ⊥) → (kind ≡ 1 → ⊥) → refused 1 0 0 ≡ check_of kind s
    other zero z o = absurd (z refl)
    other (suc zero) z o = absurd (o refl)
    other (suc (suc k)) z o = refl

pub ruleset promise_laws = (promised_mol, promised_sd, promised_none)
