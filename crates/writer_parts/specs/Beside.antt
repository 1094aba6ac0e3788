-- The code's turns, which keep the text and not the lines, beside the judge's: they find the canonical text of what the judge finds.
use Prim.Native.Nat.{ℕ, suc}
use Rattle.std.specs.Prelude.{Result, Option, Some, None, ◌≡◌, Bool, true, false, leb, length}
use Rattle.std.proofs.Math.Path.{refl, ap}
use Rattle.std.proofs.Common.{sym, ◌∙◌}
use mathlib.Core.List.{List, [], ◌∷◌, ◌++◌, append_assoc}
use Rattle.text.specs.Text.{Bytes, Line}
use Rattle.text.specs.Find.{bad_column}
use Rattle.text.specs.Cut.{cut}
use Rattle.text.specs.Written.{text, text_append}
use Rattle.rules.specs.Record.{Item}
use Rattle.rules.specs.Write.{header_text}
use Rattle.judge_line.specs.Got.{Got, got, bad, then, need}
use Rattle.judge_line.specs.Field.{none_found, within}
use Rattle.judge_line.specs.Judge.{first_header_of, item_of, ItemOrEnd, title, close, value_of, ValueOrBlank, value, blank}
use Rattle.judge_file.specs.Verdict.{Verdict, mapped}
use Rattle.judge_parts.specs.Part.{Run, at, stopped, run, conclude, verdict_from}
use Rattle.judge_parts.specs.Part.{HeaderPlace, first, second, third, full, header_line, header_turn, headers_end, headers_verdict}
use Rattle.judge_parts.specs.Part.{ItemPlace, items, values, after_item, after_value, item_turn, items_end, items_verdict}
use Rattle.judge_parts.specs.Written.{headers_text, item_lines, items_text, written_headers, written_items}
use Rattle.writer_parts.specs.Step.{ended, Taken, taken, item_taken, value_taken, line_as, turn_as, Standing, standing_turn, standing_end, judged, written_from}
use Rattle.judge_parts.specs.Runs.{run_next, run_stop}
use Rattle.writer_parts.specs.declared.Place.{Place}
use Rattle.judge_file.specs.declared.TextRefusal.{TextRefusal}

-- ---- Two runs side by side

abbrev map_got : {A B : Type 0} → (A → B) → Got A → Got B
map_got f x = then x λ a. got (f a)

abbrev map_run : {P Q : Type 0} → (P → Q) → Run P → Run Q
map_run f (at p) = at (f p)
map_run f (stopped e i c) = stopped e i c

module _ {P Q : Type 0} (turn : P → Line → Got P) (turn' : Q → Line → Got Q) (f : P → Q) (agrees : (p : P) (l : Line) → turn' (f p) l ≡ map_got f (turn p l)) where
  run_beside : (p : P) (i : ℕ) (ls : List Line) → run turn' (f p) i ls ≡ map_run f (run turn p i ls)
  unfolding run then
  run_beside p i [] = refl
  run_beside p i (l ∷ ls) = go (λ q. run_beside q (suc i) ls) (turn p l) refl
    where
      go : ((q : P) → run turn' (f q) (suc i) ls ≡ map_run f (run turn q (suc i) ls)) → (x : Got P) → turn p l ≡ x →
          run turn' (f p) i (l ∷ ls) ≡ map_run f (run turn p i (l ∷ ls))
      go r (got q) e = run_next turn' (f p) (f q) i l ls (agrees p l ∙ ap (map_got f) e) ∙ r q ∙ ap (map_run f) (sym (run_next turn p q i l ls e))
      go r (bad n c) e = run_stop turn' (f p) i l ls n c (agrees p l ∙ ap (map_got f) e) ∙ ap (map_run f) (sym (run_stop turn p i l ls n c e))

  module _ {A B : Type 0} (end : P → ℕ → Verdict A) (end' : Q → ℕ → Verdict B) (g : A → B) (ends : (p : P) (i : ℕ) → end' (f p) i ≡ mapped g (end p i)) where
    conclude_beside : (r : Run P) (rest : Bytes) (i : ℕ) → conclude end' (map_run f r) rest i ≡ mapped g (conclude end r rest i)
    conclude_beside (at p) [] i = ends p i
    conclude_beside (at p) (b ∷ rest) i = refl
    conclude_beside (stopped e k c) rest i = refl

    verdict_beside : (p : P) (s : Bytes) → verdict_from turn' end' (f p) s ≡ mapped g (verdict_from turn end p s)
    unfolding verdict_from
    verdict_beside p s =
        let n = suc (length (cut s).lines) in
        ap (λ r. conclude end' r (cut s).rest n) (run_beside p 1 (cut s).lines) ∙ conclude_beside (run turn p 1 (cut s).lines) (cut s).rest n

-- length and bytes are judged first in both
within_then : {A B : Type 0} (k : ℕ) (l : Line) (x : Got A) (f : A → Got B) → then (within k l x) f ≡ within k l (then x f)
unfolding within need then
within_then {A = A} {B = B} k l x f = go (leb (length l) k) (bad_column l)
  where
    go : (t : Bool) (found : Option ℕ) → then (need {A = A} t 3 (suc k) (none_found 4 found x)) f ≡ need {A = B} t 3 (suc k) (none_found 4 found (then x f))
    go true (Some i) = refl
    go true None = refl
    go false found = refl

module _ {P : Type 0} (f : P → Standing) (k : ℕ) where
  turn_beside : (bs : Bytes) (x : Got Taken) (y : Got P) (l : Line) → (then x λ t. got (record { place = t.place; out = bs ++ t.text })) ≡ map_got f y →
      (then (within k l x) λ t. got (record { place = t.place; out = bs ++ t.text })) ≡ map_got f (within k l y)
  turn_beside bs x y l e = within_then k l x _ ∙ ap (within k l) e ∙ sym (within_then k l y _)

-- one line more
joined : (ls : List Line) (l : Line) → text ls ++ ended l ≡ text (ls ++ (l ∷ []))
unfolding text
joined ls l = sym (text_append ls (l ∷ []))

-- ---- Header lines

headers_as : HeaderPlace → Standing
headers_as first = record { place = Place.First; out = [] }
headers_as (second h₁) = record { place = Place.Second; out = text (h₁ ∷ []) }
headers_as (third h₁ h₂) = record { place = Place.Third; out = text (h₁ ∷ h₂ ∷ []) }
headers_as (full hs) = record { place = Place.Full; out = headers_text hs }

headers_turn : (p : HeaderPlace) (l : Line) → standing_turn (headers_as p) l ≡ map_got headers_as (header_turn p l)
unfolding standing_turn turn_as line_as header_turn header_line headers_as headers_text then text
headers_turn first l = turn_beside headers_as 80 [] _ _ l (go (first_header_of l))
  where
    go : (x : Got Line) → (then (then x λ h. taken Place.Second (ended h)) λ t. got (record { place = t.place; out = [] ++ t.text })) ≡ map_got headers_as (then x λ h. got (second h))
    go (got h) = refl
    go (bad e c) = refl
headers_turn (second h₁) l =
    turn_beside headers_as 80 (text (h₁ ∷ [])) _ _ l (ap (λ bs. got (record { place = Place.Third; out = bs })) (joined (h₁ ∷ []) l))
headers_turn (third h₁ h₂) l =
    turn_beside headers_as 80 (text (h₁ ∷ h₂ ∷ [])) _ _ l (ap (λ bs. got (record { place = Place.Full; out = bs })) (joined (h₁ ∷ h₂ ∷ []) l))
headers_turn (full hs) l = turn_beside headers_as 80 (headers_text hs) (bad 18 1) (bad 18 1) l refl

headers_end_lem : (p : HeaderPlace) (i : ℕ) → standing_end (headers_as p) i ≡ mapped headers_text (headers_end p i)
unfolding headers_as
headers_end_lem first i = refl
headers_end_lem (second h₁) i = refl
headers_end_lem (third h₁ h₂) i = refl
headers_end_lem (full hs) i = refl

pub headers_written : (s : Bytes) → written_from Place.First s ≡ written_headers s
unfolding written_from written_headers headers_verdict headers_as
headers_written s = verdict_beside header_turn standing_turn headers_as headers_turn headers_end standing_end headers_text headers_end_lem first s

pub headers_judged : (s : Bytes) (r : Result ℕ TextRefusal) → r ≡ judged (written_from Place.First s) → r ≡ judged (written_headers s)
headers_judged s r e = e ∙ ap judged (headers_written s)

-- ---- Items

items_as : ItemPlace → Standing
items_as (items is) = record { place = Place.Items; out = items_text is }
items_as (values is name vs) = record { place = Place.Values; out = items_text is ++ text (header_text name ∷ vs) }

lines_more : (is js : List Item) → item_lines (is ++ js) ≡ item_lines is ++ item_lines js
unfolding item_lines
lines_more [] js = refl
lines_more (i ∷ is) js =
    ap (λ (x : List Line). header_text i.name ∷ x)
    (ap (λ (x : List Line). i.values ++ ([] ∷ x)) (lines_more is js) ∙ sym (append_assoc i.values ([] ∷ item_lines is) (item_lines js)))

value_more : (is : List Item) (name : Bytes) (vs : List Line) (l : Line) →
    (items_text is ++ text (header_text name ∷ vs)) ++ ended l ≡ items_text is ++ text (header_text name ∷ (vs ++ (l ∷ [])))
value_more is name vs l =
    append_assoc (items_text is) (text (header_text name ∷ vs)) (ended l) ∙ ap (λ (x : Bytes). items_text is ++ x) (joined (header_text name ∷ vs) l)

item_more : (is : List Item) (name : Bytes) (vs : List Line) →
    (items_text is ++ text (header_text name ∷ vs)) ++ ended [] ≡ items_text (is ++ (record { name = name; values = vs } ∷ []))
unfolding items_text item_lines
item_more is name vs =
    value_more is name vs []
    ∙ sym (text_append (item_lines is) (header_text name ∷ (vs ++ ([] ∷ []))))
    ∙ ap text (sym (lines_more is (record { name = name; values = vs } ∷ [])))

items_turn : (p : ItemPlace) (l : Line) → standing_turn (items_as p) l ≡ map_got items_as (item_turn p l)
unfolding standing_turn turn_as line_as item_turn items_as then text
items_turn (items is) l = turn_beside items_as 80 (items_text is) _ _ l (go (item_of l))
  where
    go : (x : Got ItemOrEnd) → (then (then x item_taken) λ t. got (record { place = t.place; out = items_text is ++ t.text })) ≡ map_got items_as (then x λ i. after_item is i)
    go (got (title name)) = refl
    go (got close) = refl
    go (bad e c) = refl
items_turn (values is name vs) l = turn_beside items_as 200 (items_text is ++ text (header_text name ∷ vs)) _ _ l (go (value_of l))
  where
    go : (x : Got ValueOrBlank) → (then (then x (value_taken l)) λ t. got (record { place = t.place; out = (items_text is ++ text (header_text name ∷ vs)) ++ t.text })) ≡ map_got items_as (then x λ v. got (after_value is name vs l v))
    go (got value) = ap (λ bs. got (record { place = Place.Values; out = bs })) (value_more is name vs l)
    go (got blank) = ap (λ bs. got (record { place = Place.Items; out = bs })) (item_more is name vs)
    go (bad e c) = refl

items_end_lem : (p : ItemPlace) (i : ℕ) → standing_end (items_as p) i ≡ mapped items_text (items_end p i)
unfolding items_as
items_end_lem (items is) i = refl
items_end_lem (values is name vs) i = refl

pub items_written : (s : Bytes) → written_from Place.Items s ≡ written_items s
unfolding written_from written_items items_verdict items_as items_text item_lines text
items_written s = verdict_beside item_turn standing_turn items_as items_turn items_end standing_end items_text items_end_lem (items []) s

pub items_judged : (s : Bytes) (r : Result ℕ TextRefusal) → r ≡ judged (written_from Place.Items s) → r ≡ judged (written_items s)
items_judged s r e = e ∙ ap judged (items_written s)
