-- A text mended.
use Rattle.std.specs.Prelude.{ℕ, ◌≡◌, refl, Bool, true, false, eqb}
use Rattle.std.proofs.Common.{sym, ◌∙◌, eqb-true}
use Rattle.std.proofs.Math.Path.{ap}
use mathlib.Core.List.{List, [], ◌∷◌, ◌++◌, map}
use Rattle.text.specs.Text.{Bytes, LF}
use Rattle.text.specs.Cut.{ended, onto, on_byte, split}
use Rattle.judge_file.specs.Place.{first}
use Rattle.mend_rules.specs.Mend.{Action, actions_of, applied}
use Rattle.mend_rules.specs.Named.{Fix, fixes_from}

-- an unfinished line is a line too
abbrev pub tail_of : Bytes → List Bytes
tail_of [] = []
tail_of (b ∷ bs) = (b ∷ bs) ∷ []

-- what stands before each LF, CR included, and what is unfinished
unfoldable pub pieces : Bytes → List Bytes
pieces s = (split s).lines ++ tail_of (split s).rest

-- the lines as they came, each with its LF
unfoldable pub joined : List Bytes → Bytes
joined [] = []
joined (r ∷ rs) = r ++ (LF ∷ joined rs)

unfoldable pub actions : ℕ → Bytes → List Action
actions limit s = actions_of limit first [] (map ended (pieces s))

unfoldable pub mended_pieces : ℕ → Bytes → List Bytes
mended_pieces limit s = applied (actions limit s) (pieces s)

unfoldable pub mended_text : ℕ → Bytes → Bytes
mended_text limit s = joined (mended_pieces limit s)

abbrev pub unfinished : Bytes → Bool
unfinished [] = false
unfinished (b ∷ bs) = true

unfoldable pub fixes : ℕ → Bytes → List Fix
fixes limit s = fixes_from (unfinished (split s).rest) 1 (actions limit s)

-- ---- pieces hold no LF, and make the text

onto_joined : (b : ℕ) (ls : List Bytes) (r : Bytes) → joined (onto b ls r).lines ++ (onto b ls r).rest ≡ b ∷ (joined ls ++ r)
unfolding joined
onto_joined b [] r = refl
onto_joined b (l ∷ ls) r = refl

pub joined_split : (s : Bytes) → joined (split s).lines ++ (split s).rest ≡ s
unfolding split joined
joined_split [] = refl
joined_split (b ∷ s) = go (eqb b LF) refl (joined_split s)
  where
    go : (t : Bool) → eqb b LF ≡ t → joined (split s).lines ++ (split s).rest ≡ s → joined (on_byte t b (split s)).lines ++ (on_byte t b (split s)).rest ≡ b ∷ s
    go true e p = let q = sym (eqb-true b LF e) in λ i. q i ∷ p i
    go false e p = onto_joined b (split s).lines (split s).rest ∙ ap (λ (x : Bytes). b ∷ x) p
