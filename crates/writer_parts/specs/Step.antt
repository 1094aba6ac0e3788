-- The turns of the code, which holds no lines: at each place the next one, and the canonical text of the line.
use Rattle.std.specs.Prelude.{Result, Ok, Err, ℕ, ◌≡◌, Bool, true, false, [], ◌∷◌, ◌++◌, length}
use Rattle.text.specs.Text.{Bytes, Line, LF}
use Rattle.rules.specs.Write.{header_text}
use Rattle.judge_line.specs.Got.{Got, got, bad, then}
use Rattle.text.specs.Find.{bad_column}
use Rattle.judge_line.specs.Field.{none_found, within}
use Rattle.judge_line.specs.Judge.{first_header_of, item_of, ItemOrEnd, title, close, value_of, ValueOrBlank, value, blank}
use Rattle.judge_file.specs.Verdict.{Verdict, accepted, refused}
use Rattle.judge_parts.specs.Part.{verdict_from}
use Rattle.writer_parts.specs.declared.Place.{Place}
use Rattle.writer_parts.specs.declared.Turn.{Turn}
use Rattle.judge_file.specs.declared.TextRefusal.{TextRefusal}

-- a line with its end
abbrev pub ended : Line → Bytes
ended l = l ++ (LF ∷ [])

-- the place after a line, and the line's canonical text
pub record Taken : Type 0 where
  pub place : Place
  pub text : Bytes

abbrev pub taken : Place → Bytes → Got Taken
taken p bs = got (record { place = p; text = bs })

abbrev pub item_taken : ItemOrEnd → Got Taken
item_taken (title name) = taken Place.Values (ended (header_text name))
item_taken close = bad 16 1

abbrev pub value_taken : Line → ValueOrBlank → Got Taken
value_taken l value = taken Place.Values (ended l)
value_taken l blank = taken Place.Items (ended [])

-- a line of good length and bytes
unfoldable pub line_as : Place → Line → Got Taken
line_as Place.First l = then (first_header_of l) λ h. taken Place.Second (ended h)
line_as Place.Second l = taken Place.Third (ended l)
line_as Place.Third l = taken Place.Full (ended l)
line_as Place.Full l = bad 18 1
line_as Place.Items l = then (item_of l) item_taken
line_as Place.Values l = then (value_of l) (value_taken l)

abbrev pub longest : Place → ℕ
longest Place.First = 80
longest Place.Second = 80
longest Place.Third = 80
longest Place.Full = 80
longest Place.Items = 80
longest Place.Values = 200

-- a line of good length
unfoldable pub allowed_as : Place → Line → Got Taken
allowed_as p l = none_found 4 (bad_column l) (line_as p l)

unfoldable pub turn_as : Place → Line → Got Taken
turn_as p l = within (longest p) l (line_as p l)

-- the code's answer for a line: its text by the length
abbrev pub turned : Got Taken → Turn
turned (got t) = Turn.Next t.place (length t.text)
turned (bad e column) = Turn.Bad e column

-- the line is taken to this place, and its text has this length
pub record Next (p : Place) (l : Line) (q : Place) (n : ℕ) : Type 0 where
  pub text : Bytes
  pub turn : turn_as p l ≡ taken q text
  pub size : n ≡ length text

-- where the next line of items stands: among the values of one, or not
abbrev pub place_of : Bool → Place
place_of false = Place.Items
place_of true = Place.Values

-- ---- The part from a place, with the text before it

pub record Standing : Type 0 where
  pub place : Place
  pub out : Bytes

unfoldable pub standing_turn : Standing → Line → Got Standing
standing_turn p l = then (turn_as p.place l) λ t. got (record { place = t.place; out = p.out ++ t.text })

-- whether a part may end at the place
abbrev pub ends_at : Place → Bytes → ℕ → Verdict Bytes
ends_at Place.First bs i = refused 19 i 1
ends_at Place.Second bs i = refused 19 i 1
ends_at Place.Third bs i = refused 19 i 1
ends_at Place.Full bs i = accepted bs
ends_at Place.Items bs i = accepted bs
ends_at Place.Values bs i = refused 19 i 1

-- what the code answers: the length of the text, or the refusal
abbrev pub judged : Verdict Bytes → Result ℕ TextRefusal
judged (accepted bs) = Ok (length bs)
judged (refused e i column) = Err (record { no = e; line = i; column = column })

-- the same by the length of the text
abbrev pub ends_as : Place → ℕ → ℕ → Result ℕ TextRefusal
ends_as Place.First size i = Err (record { no = 19; line = i; column = 1 })
ends_as Place.Second size i = Err (record { no = 19; line = i; column = 1 })
ends_as Place.Third size i = Err (record { no = 19; line = i; column = 1 })
ends_as Place.Full size i = Ok size
ends_as Place.Items size i = Ok size
ends_as Place.Values size i = Err (record { no = 19; line = i; column = 1 })

abbrev pub standing_end : Standing → ℕ → Verdict Bytes
standing_end p i = ends_at p.place p.out i

unfoldable pub written_from : Place → Bytes → Verdict Bytes
written_from p s = verdict_from standing_turn standing_end (record { place = p; out = [] }) s
