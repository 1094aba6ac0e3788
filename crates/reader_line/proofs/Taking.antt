-- Laws on taking a line: what the reader's step answered decides what is taken.
use Rattle.std.specs.Prelude.{IsErrAnd, Result, Ok, Err}
use Prim.Native.Nat.{ℕ, ◌+◌, ◌*◌, ◌≤◌, ◌<◌}
use native.Mathlib.Omega.{arith}
use mathlib.Core.Path.{◌≡◌, refl, sym, ap, ◌∙◌}
use mathlib.Core.List.{List}
use lib.ListN.{length}
use lib.Seq.{sets}
use lib.IntN.{ℤ}
use Rattle.text.specs.Text.{Line}
use Rattle.rules.specs.Record.{limit}
use Rattle.judge_line.specs.Got.{Got}
use Rattle.line_atom.specs.Answer.{atom_is}
use Rattle.line_atom.specs.declared.Atom.{Atom}
use Rattle.line_counts_bonds.specs.declared.Bond.{Bond}
use Rattle.line_property.specs.Listed.{places}
use Rattle.reader_tables.specs.Row.{raw_row, SmallAtom}
use Rattle.reader_state.specs.declared.Reader.{Reader}
use Rattle.judge_line.specs.declared.Refusal.{Refusal}
use Rattle.reader_state.specs.declared.Step.{Step}
use Rattle.reader_state.specs.LineRead.{Went, step_got, went_of, Kept}
use Rattle.reader_line.specs.declared.Notes.{Notes}
use Rattle.reader_line.specs.declared.Taken.{Taken}
use Rattle.reader_line.specs.LineTaken.{headed_at, ended_at, atom_more, taken_by, atoms_by, Ready, Took}

module _ (r : Reader) (m : Notes) (next : ℕ) (t : List ℕ) (ta : List ℤ) (l : Line) (x : Result Step Refusal) (t' : List ℕ) (e : step_got l x ≡ went_of r t l) (k : Kept r t l t')
    (z : length t' ≡ 3 * places) where
  by : (v : Result Step Refusal) (y : Result Taken Refusal) (ta' : List ℤ) → x ≡ v → y ≡ taken_by m next (step_got l v) → ta' ≡ atoms_by m (step_got l v) ta → Took r m next t ta l y t' ta'
  by v y ta' q h a =
      let w : step_got l v ≡ went_of r t l = ap (step_got l) (sym q) ∙ e in
      record { answer = h ∙ ap (taken_by m next) w; rows = a ∙ ap (λ (g : Got Went). atoms_by m g ta) w; kept = k; size = z }

  pub took_next : (r₂ : Reader) → x ≡ Ok (Step.Next r₂) → Took r m next t ta l (Ok (Taken.Next r₂ m)) t' ta
  took_next r₂ q = by (Ok (Step.Next r₂)) (Ok (Taken.Next r₂ m)) ta q refl refl

  pub took_headed : (r₂ : Reader) (m₂ : Notes) → x ≡ Ok (Step.Headed r₂) → m₂ ≡ headed_at m next → Took r m next t ta l (Ok (Taken.Next r₂ m₂)) t' ta
  took_headed r₂ m₂ q h = by (Ok (Step.Headed r₂)) (Ok (Taken.Next r₂ m₂)) ta q (ap (λ (n : Notes). Ok (Taken.Next r₂ n)) h) refl

  pub took_atom : (r₂ : Reader) (a : Atom) (m₂ : Notes) (ta₂ : List ℤ) → x ≡ Ok (Step.Atom r₂ a) → ta₂ ≡ sets ta (16 * m.atoms) (raw_row (atom_is a)) → m₂ ≡ atom_more m →
      Took r m next t ta l (Ok (Taken.Next r₂ m₂)) t' ta₂
  took_atom r₂ a m₂ ta₂ q h n = by (Ok (Step.Atom r₂ a)) (Ok (Taken.Next r₂ m₂)) ta₂ q (ap (λ (k : Notes). Ok (Taken.Next r₂ k)) n) h

  pub took_bond : (r₂ : Reader) (b : Bond) → x ≡ Ok (Step.Bond r₂ b) → Took r m next t ta l (Ok (Taken.Bond r₂ b)) t' ta
  took_bond r₂ b q = by (Ok (Step.Bond r₂ b)) (Ok (Taken.Bond r₂ b)) ta q refl refl

  pub took_ended : (r₂ : Reader) (m₂ : Notes) → x ≡ Ok (Step.Ended r₂) → m₂ ≡ ended_at m next → Took r m next t ta l (Ok (Taken.Next r₂ m₂)) t' ta
  took_ended r₂ m₂ q h = by (Ok (Step.Ended r₂)) (Ok (Taken.Next r₂ m₂)) ta q (ap (λ (n : Notes). Ok (Taken.Next r₂ n)) h) refl

  pub took_title : (r₂ : Reader) (i j : ℕ) → x ≡ Ok (Step.Title r₂ i j) → Took r m next t ta l (Ok (Taken.Next r₂ m)) t' ta
  took_title r₂ i j q = by (Ok (Step.Title r₂ i j)) (Ok (Taken.Next r₂ m)) ta q refl refl

  pub took_value : (r₂ : Reader) → x ≡ Ok (Step.Value r₂) → Took r m next t ta l (Ok (Taken.Next r₂ m)) t' ta
  took_value r₂ q = by (Ok (Step.Value r₂)) (Ok (Taken.Next r₂ m)) ta q refl refl

  pub took_blank : (r₂ : Reader) → x ≡ Ok (Step.Blank r₂) → Took r m next t ta l (Ok (Taken.Next r₂ m)) t' ta
  took_blank r₂ q = by (Ok (Step.Blank r₂)) (Ok (Taken.Next r₂ m)) ta q refl refl

  pub took_done : x ≡ Ok Step.Done → Took r m next t ta l (Ok Taken.Done) t' ta
  took_done q = by (Ok Step.Done) (Ok Taken.Done) ta q refl refl

  pub took_refused : (f : Refusal) → x ≡ Err f → Took r m next t ta l (Err f) t' ta
  took_refused f q = by (Err f) (Err f) ta q refl refl

  pub took_back : (f : Refusal) → x ≡ Err f → (y : Result Taken Refusal) → IsErrAnd y (λ g. g ≡ f) → Took r m next t ta l y t' ta
  took_back f q (Ok u) is = absurd is
  took_back f q (Err g) is = rw is (took_refused f q)

module _ (r : Reader) (m : Notes) (t : List ℕ) (ta : List ℤ) (l : Line) (x : Result Step Refusal) (r₂ : Reader) (a : Atom) (g : Ready r m t ta l) (e : step_got l x ≡ went_of r t l)
    (q : x ≡ Ok (Step.Atom r₂ a)) where
  pub atom_few : m.atoms < limit
  atom_few = (g.fits r₂ (atom_is a) (sym e ∙ ap (step_got l) q)).0

  pub atom_low : m.atoms ≤ 999
  atom_low = omega (arith, atom_few)

  pub atom_room : 16 * m.atoms + 16 ≤ length ta
  atom_room = omega (arith, atom_few, g.room)

  pub atom_small : SmallAtom (atom_is a)
  atom_small = (g.fits r₂ (atom_is a) (sym e ∙ ap (step_got l) q)).1

pub ruleset taking_laws = (took_next, took_headed, took_atom, took_bond, took_ended, took_title, took_value, took_blank, took_done, took_refused, took_back, atom_few, atom_low, atom_room, atom_small)
