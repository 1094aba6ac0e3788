-- What the walk over a record's lines answers where the lines end, and laws for the code.
use Rattle.std.specs.Prelude.{ℕ, ◌-◌, ◌≡◌, cond, eqb}
use Rattle.std.proofs.Common.{sym, ap, ◌∙◌, eq-eqb, ne_eqb}
use Rattle.line_counts_bonds.specs.declared.Counts.{Counts}
use Rattle.reader_state.specs.declared.Reader.{Reader}
use Rattle.reader_places.specs.declared.Finish.{Finish}
use Rattle.reader_state.specs.StateParts.{finished}
use Rattle.reader_line.specs.declared.Notes.{Notes}
use Rattle.reader_end.specs.declared.Walked.{Walked}

-- before line i, at position `at`, with so many bytes left: after a molfile's `M  END`
unfoldable pub last_of : ℕ → Counts → Notes → ℕ → ℕ → Walked
last_of left c m at i = cond (eqb left 0) (Walked.Whole c at (i - 1) m.header_end m.items_start m.items_start) (Walked.Refused 19 i 1)

-- and anywhere, by what the state says of an end there
abbrev pub end_walked : ℕ → Reader → Notes → ℕ → ℕ → Finish → Walked
end_walked left r m at i Finish.MayEnd = last_of left r.counts m at i
end_walked left r m at i Finish.Owes = Walked.Refused 19 i 1

pub end_by : (left : ℕ) (r : Reader) (m : Notes) (at i : ℕ) (x : Finish) (y : Walked) (v : Finish) →
    x ≡ finished r → x ≡ v → y ≡ end_walked left r m at i v → y ≡ end_walked left r m at i (finished r)
end_by left r m at i x y v e q h = h ∙ ap (end_walked left r m at i) (sym q ∙ e)

module _ (left : ℕ) (c : Counts) (m : Notes) (at i : ℕ) where
  pub last_none : left ≡ 0 → Walked.Whole c at (i - 1) m.header_end m.items_start m.items_start ≡ last_of left c m at i
  unfolding last_of
  last_none z = rw (eq-eqb left 0 z)

  pub last_some : (left ≡ 0 → ⊥) → Walked.Refused 19 i 1 ≡ last_of left c m at i
  unfolding last_of
  last_some z = rw (ne_eqb left 0 z)

pub ruleset end_laws = (end_by, last_none, last_some)
