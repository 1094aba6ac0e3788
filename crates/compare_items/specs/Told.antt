-- Two texts held against each other.
use Rattle.std.specs.Prelude.{ℕ, ◌≡◌, refl, [], ◌∷◌, Bool, true, false, length, pos}
use Rattle.std.proofs.Common.{sym, ◌∙◌}
use Rattle.std.proofs.Math.Path.{ap}
use Rattle.text.specs.Text.{Bytes}
use Rattle.text.specs.Columns.{columns_for}
use Rattle.text.specs.Find.{same_bytes, has_text}
use Rattle.text.specs.Agree.{same_bytes_lem, columns_whole}
use Rattle.compare_rules.specs.declared.Place.{Place}
use Rattle.compare_rules.specs.Differences.{texts}
use Rattle.compare_rules.specs.Log.{Log, noted}

module _ (a b : Bytes) where
  pub same_short : (length a ≡ length b → ⊥) → false ≡ same_bytes a b
  same_short h = go (same_bytes a b) refl
    where
      go : (t : Bool) → same_bytes a b ≡ t → false ≡ t
      go true e = absurd (h (ap length ((same_bytes_lem a b).0 e)))
      go false e = refl

  pub same_long : (r : Bool) → length a ≡ length b → r ≡ has_text a 1 b → r ≡ same_bytes a b
  unfolding has_text
  same_long r h e = e ∙ ap (λ (k : ℕ). same_bytes (columns_for a 1 k) b) (sym h) ∙ ap (λ (x : Bytes). same_bytes x b) (columns_whole a)

  module _ (p : Place) (g : Log) (t : Bool) (e : t ≡ same_bytes a b) where
    pub texts_alike : t ≡ true → g ≡ noted g (texts p a b)
    unfolding texts noted
    texts_alike h = rw (← e, h)

    pub texts_apart : (g' : Log) → t ≡ false → g' ≡ noted g (record { at = p; side = 0; left = pos 0; right = pos 0 } ∷ []) → g' ≡ noted g (texts p a b)
    unfolding texts
    texts_apart g' h q = rw (← e, h) q

pub ruleset text_laws = (same_short, same_long, texts_alike, texts_apart)
