-- What the walk over a file leaves: the mended text and its list, as far as the room goes; or the refusal of the mended text.
use Rattle.std.specs.Prelude.{ℕ, suc, ◌+◌, ◌*◌, ◌≤◌, ◌≡◌, refl, List, Bool, true, false, cond, eqb, length}
use Rattle.std.proofs.Common.{sym, ap, ◌∙◌}
use Rattle.std.proofs.lemmas.List.Edits.{sets}
use Rattle.text.specs.Text.{Bytes}
use Rattle.rules.specs.Record.{Raw, limit}
use Rattle.judge_file.specs.Place.{sdfile}
use Rattle.judge_file.specs.Verdict.{accepted, refused, verdict}
use Rattle.reader_places.specs.declared.Place.{Place}
use Rattle.reader_places.specs.declared.Place.TheVariants as P
use Rattle.mend_rules.specs.Text.{mended_text, fixes}
use Rattle.mend_rules.specs.Listed.{numbers}
use Rattle.mend_judge.specs.declared.Judge.{Judge}
use Rattle.mend_out.specs.declared.Mender.{Mender}
use Rattle.mend_file.specs.declared.Mended.{Mended}

pub data Walked (s : Bytes) (room list : List ℕ) (r : Mended) (room' list' : List ℕ) : Type 0 where
  good : {xs : List Raw} → verdict sdfile limit (mended_text limit s) ≡ accepted xs → r ≡ Mended.Done (length (mended_text limit s)) (length (fixes limit s)) →
      room' ≡ sets room 0 (mended_text limit s) → list' ≡ sets list 0 (numbers (fixes limit s)) → Walked s room list r room' list'
  bad : {e i column : ℕ} → verdict sdfile limit (mended_text limit s) ≡ refused e i column → r ≡ Mended.Refused e i column → Walked s room list r room' list'

-- a record may begin
unfoldable pub starts_at : Place → Bool
starts_at (P.Header owed) = eqb owed 3
starts_at P.Counts = false
starts_at (P.Atoms owed) = false
starts_at (P.Bonds owed) = false
starts_at P.Properties = false
starts_at P.Over = false
starts_at P.Items = false
starts_at P.Values = false

unfoldable pub end_of : Judge → Mender → Mended
end_of j m = cond (starts_at j.reader.place) (Mended.Done m.out m.repairs) (Mended.Refused 19 m.out_line 1)

-- ---- By the tests

module _ (p : Place) where
  pub starts_header : (owed : ℕ) (r : Bool) → p ≡ P.Header owed → r ≡ eqb owed 3 → r ≡ starts_at p
  unfolding starts_at
  starts_header owed r h e = e ∙ rw h

  pub starts_counts : p ≡ P.Counts → false ≡ starts_at p
  unfolding starts_at
  starts_counts h = rw h

  pub starts_atoms : (owed : ℕ) → p ≡ P.Atoms owed → false ≡ starts_at p
  unfolding starts_at
  starts_atoms owed h = rw h

  pub starts_bonds : (owed : ℕ) → p ≡ P.Bonds owed → false ≡ starts_at p
  unfolding starts_at
  starts_bonds owed h = rw h

  pub starts_properties : p ≡ P.Properties → false ≡ starts_at p
  unfolding starts_at
  starts_properties h = rw h

  pub starts_over : p ≡ P.Over → false ≡ starts_at p
  unfolding starts_at
  starts_over h = rw h

  pub starts_items : p ≡ P.Items → false ≡ starts_at p
  unfolding starts_at
  starts_items h = rw h

  pub starts_values : p ≡ P.Values → false ≡ starts_at p
  unfolding starts_at
  starts_values h = rw h

pub ruleset start_laws = (starts_header, starts_counts, starts_atoms, starts_bonds, starts_properties, starts_over, starts_items, starts_values)

module _ (j : Judge) (m : Mender) (t : Bool) (e : t ≡ starts_at j.reader.place) where
  pub end_done : t ≡ true → Mended.Done m.out m.repairs ≡ end_of j m
  unfolding end_of
  end_done h = rw (sym e ∙ h)

  pub end_short : t ≡ false → Mended.Refused 19 m.out_line 1 ≡ end_of j m
  unfolding end_of
  end_short h = rw (sym e ∙ h)

pub ruleset end_laws = (end_done, end_short)
