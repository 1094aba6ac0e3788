-- Comparing the other way round gives the same list with sides exchanged.
use Rattle.std.specs.Prelude.{◌≡◌, refl, [], ◌∷◌, ℤ, pos, negsuc}
use Rattle.text.specs.Text.{Bytes}
use Rattle.text.specs.Find.{same_bytes}
use Rattle.text.specs.Laws.{eqb_turn}
use Rattle.compare_rules.specs.Differences.{same_figure}

-- ---- Tests do not mind the order

pub figure_turned : (x y : ℤ) → same_figure x y ≡ same_figure y x
figure_turned (pos j) (pos k) = eqb_turn j k
figure_turned (pos j) (negsuc k) = refl
figure_turned (negsuc j) (pos k) = refl
figure_turned (negsuc j) (negsuc k) = eqb_turn j k

pub bytes_turned : (a b : Bytes) → same_bytes a b ≡ same_bytes b a
unfolding same_bytes
bytes_turned [] [] = refl
bytes_turned [] (y ∷ b) = refl
bytes_turned (x ∷ a) [] = refl
bytes_turned (x ∷ a) (y ∷ b) = rw (eqb_turn x y, bytes_turned a b)
