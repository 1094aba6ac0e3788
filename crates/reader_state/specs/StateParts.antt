-- The state before the first line, whether the input may end at a state, and parts of a step for the functions inside.
use Rattle.std.specs.Prelude.{Result, Ok, Err, ℕ, ◌≤◌, ◌≡◌, List, Bool, length}
use Rattle.text.specs.Text.{Line}
use Rattle.judge_line.specs.Got.{got}
use Rattle.reader_places.specs.declared.Place.{Place}
use Rattle.reader_places.specs.declared.Place.TheVariants as P
use Rattle.reader_places.specs.declared.Finish.{Finish}
use Rattle.reader_places.specs.Places.{finished_at}
use Rattle.reader_state.specs.declared.Reader.{Reader}
use Rattle.judge_line.specs.declared.Refusal.{Refusal}
use Rattle.reader_state.specs.declared.Step.{Step}
use Rattle.reader_state.specs.LineRead.{Went, line_in, table_at}

-- the state before the first line
abbrev pub begun : Bool → Reader
begun sd = record { sd = sd; place = P.Header 3; counts = record { atoms = 0; bonds = 0; chiral = 0 } }

unfoldable pub finished : Reader → Finish
finished r = finished_at r.place

-- a title's name lies in the line
unfoldable pub title_in : Line → Result Step Refusal → Type 0
title_in l (Ok (Step.Next r)) = Unit {0}
title_in l (Ok (Step.Headed r)) = Unit {0}
title_in l (Ok (Step.Atom r a)) = Unit {0}
title_in l (Ok (Step.Bond r b)) = Unit {0}
title_in l (Ok (Step.Ended r)) = Unit {0}
title_in l (Ok (Step.Title r from to)) = (from ≤ to) × (to ≤ length l)
title_in l (Ok (Step.Value r)) = Unit {0}
title_in l (Ok (Step.Blank r)) = Unit {0}
title_in l (Ok Step.Done) = Unit {0}
title_in l (Err r) = Unit {0}

-- the table after a line of good length and bytes
pub record KeptAt (r : Reader) (p : Place) (t : List ℕ) (l : Line) (t' : List ℕ) : Type 0 where
  pub kept : (w : Went) → line_in r p t l ≡ got w → t' ≡ table_at r p t l
