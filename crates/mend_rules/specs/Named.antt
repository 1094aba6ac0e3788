-- The list of what was done. It says all: the mended lines are made of the lines as they came and the list, and a line that the list does not name comes out as it is.
use Rattle.std.specs.Prelude.{ℕ, suc, ◌+◌, ◌*◌, ◌≤◌, ◌≡◌, refl, List, [], ◌∷◌, ◌++◌, map, Bool, true, false, cond, ◌&&◌, eqb, length}
use Rattle.text.specs.Text.{Line}
use Rattle.mend_rules.specs.Mend.{Action, keep, put, lose, piece}

pub data Deed : Type 0 where
  line_put : Deed  -- an empty line before it
  blank_dropped : Deed
  lf_added : Deed

-- what was done, at which line of the file as it came
pub record Fix : Type 0 where
  pub line : ℕ
  pub deed : Deed

abbrev pub fix : ℕ → Deed → Fix
fix i d = record { line = i; deed = d }

-- the line end of line i, where it is missing
abbrev pub line_end : ℕ → Bool → List Fix
line_end i missing = cond missing (fix i lf_added ∷ []) []

-- what is listed of line i; a line that is dropped needs no line end
abbrev pub deeds : ℕ → Action → Bool → List Fix
deeds i keep missing = line_end i missing
deeds i put missing = fix i line_put ∷ line_end i missing
deeds i lose missing = fix i blank_dropped ∷ []

abbrev pub none : {A : Type 0} → List A → Bool
none [] = true
none (x ∷ xs) = false

-- from line i on; where the file is unfinished, the last line has no line end
unfoldable pub fixes_from : Bool → ℕ → List Action → List Fix
fixes_from unfinished i [] = []
fixes_from unfinished i (a ∷ t) = deeds i a (unfinished && none t) ++ fixes_from unfinished (suc i) t

-- ---- The lines, from the list alone

-- what a deed does with the line; the LF is no matter of lines
abbrev pub action_of : Deed → Action
action_of line_put = put
action_of blank_dropped = lose
action_of lf_added = keep

-- what the list says of a line
unfoldable pub named : ℕ → List Fix → Action
named i [] = keep
named i (f ∷ fs) = cond (eqb i f.line) (action_of f.deed) (named i fs)

-- the lines from line i on, mended by the list alone
unfoldable pub by_list : ℕ → List Fix → List Line → List Line
by_list i fs [] = []
by_list i fs (l ∷ ls) = piece (named i fs) l ++ by_list (suc i) fs ls

-- ---- in line order, and at one line the LF last

-- the LF after all else
abbrev pub later : Deed → ℕ
later line_put = 0
later blank_dropped = 0
later lf_added = 1

abbrev pub rank : Fix → ℕ
rank f = 2 * f.line + later f.deed

-- each has a higher rank than the one before
unfoldable pub Rising : ℕ → List Fix → Type 0
Rising k [] = Unit {0}
Rising k (f ∷ fs) = (k ≤ rank f) × Rising (suc (rank f)) fs

-- ---- the list says all

pub no_fixes : (i : ℕ) (ls : List Line) → fixes_from false i (map (λ t. keep) ls) ≡ []
unfolding fixes_from
no_fixes i [] = refl
no_fixes i (l ∷ ls) = no_fixes (suc i) ls
