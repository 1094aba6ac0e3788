-- The table of refusals for the two parts that a writer is handed, in the words of the rules: lines of the right forms lead to a place, and the next line does
-- not meet the first of these demands. The judge stops at a line with a number and a column exactly if this is so.
use Rattle.std.specs.Prelude.{ℕ, suc, ◌+◌, ◌≡◌, ◌↔◌, length}
use Rattle.std.proofs.Common.{arith, sym, ap, ◌∙◌, inl}
use Rattle.std.proofs.Math.Path.{refl, subst}
use mathlib.Core.List.{List, [], ◌∷◌, ◌++◌}
use Rattle.text.specs.Text.{Bytes, Line}
use Rattle.text.specs.Columns.{Within}
use Rattle.rules.specs.Forms.{FirstHeaderLine, HeaderLine, DataHeader, ValueLine, BlankLine}
use Rattle.rules.specs.Record.{Item}
use Rattle.judge_refusals.specs.Demand.{Demand, ◌else◌at_column◌, ◌and_then◌, All, Refused, Some}
use Rattle.judge_refusals.specs.Refusals.{fitting, no_reserved_tag, no_line, value_or_blank}
use Rattle.judge_line.specs.Got.{Got, got, bad}
use Rattle.judge_line.specs.GotLaws.{got_inj, bad_got, then_got, then_is}
use Rattle.judge_line.specs.Judge.{first_header_of}
use Rattle.judge_line.specs.Agree.{within_got, within_is}
use Rattle.judge_line.proofs.Agree.{header_agrees}
use Rattle.judge_refusals.specs.Tells as T
use Rattle.judge_refusals.specs.Tells.{Tells, then_last, tells_bad, tells_got}
use Rattle.judge_refusals.proofs.Fields.{within_tells, within_last}
use Rattle.judge_refusals.specs.Lines.{header_tells}
use Rattle.judge_parts.specs.Part.{at, stopped, run, HeaderPlace, first, second, third, full, header_line, header_turn}
use Rattle.judge_parts.specs.Part.{ItemPlace, items, values}
use Rattle.judge_parts.specs.Runs.{at_place, at_stopped, run_next, run_stop, run_append, stop}

-- ---- Any part

-- lines that may stand at the places, one after the other
pub data Leads {P : Type 0} (Takes : P → Line → P → Type 0) : P → List Line → P → Type 0 where
  none : {p : P} → Leads Takes p [] p
  on : {p q r : P} {l : Line} {ls : List Line} → Takes p l q → Leads Takes q ls r → Leads Takes p (l ∷ ls) r

-- line i of these is refused with number e at column c
pub record PartBecause {P : Type 0} (Takes : P → Line → P → Type 0) (demands : P → Line → List Demand) (start : P) (ls : List Line) (e i c : ℕ) : Type 0 where
  pub before : List Line
  pub l : Line
  pub after : List Line
  pub place : P
  pub whole : ls ≡ before ++ (l ∷ after)
  pub line : i ≡ suc (length before)
  pub stands : Leads Takes start before place
  pub refused : Refused (demands place l) e c

module _ {P : Type 0} (turn : P → Line → Got P) (Takes : P → Line → P → Type 0) (demands : P → Line → List Demand)
    (takes : (p : P) (l : Line) (q : P) → (turn p l ≡ got q) ↔ Takes p l q) (tells : (p : P) (l : Line) → Tells (demands p l) (turn p l)) where
  leads : (i : ℕ) (p q : P) (ls : List Line) → run turn p i ls ≡ at q → Leads Takes p ls q
  unfolding run
  leads i p q [] h = subst (Leads Takes p []) (at_place h) Leads.none
  leads i p q (l ∷ ls) h = go (λ p' h'. leads (suc i) p' q ls h') (turn p l) refl
    where
      go : ((p' : P) → run turn p' (suc i) ls ≡ at q → Leads Takes p' ls q) → (x : Got P) → turn p l ≡ x → Leads Takes p (l ∷ ls) q
      go r (got p') e = Leads.on ((takes p l p').0 e) (r p' (sym (run_next turn p p' i l ls e) ∙ h))
      go r (bad n c) e = at_stopped (sym h ∙ run_stop turn p i l ls n c e)

  led : (i : ℕ) {p q : P} {ls : List Line} → Leads Takes p ls q → run turn p i ls ≡ at q
  unfolding run
  led i Leads.none = refl
  led i {p = p} (Leads.on {q = q} {l = l} {ls = ls} t h) = run_next turn p q i l ls ((takes p l q).1 t) ∙ led (suc i) h

  pub because : (start : P) (ls : List Line) (e i c : ℕ) → (run turn start 1 ls ≡ stopped e i c) ↔ PartBecause Takes demands start ls e i c
  because start ls e i c = (to, back)
    where
      to : run turn start 1 ls ≡ stopped e i c → PartBecause Takes demands start ls e i c
      to h =
          let s = stop turn start 1 ls e i c h in
          record {
            before = s.before;
            l = s.l;
            after = s.after;
            place = s.q;
            whole = s.whole;
            line = s.line ∙ omega arith;
            stands = leads 1 start s.q s.before s.reached;
            refused = (tells_bad e c (tells s.q s.l)).0 s.refused;
          }

      back : PartBecause Takes demands start ls e i c → run turn start 1 ls ≡ stopped e i c
      back b =
          let n : 1 + length b.before ≡ i = omega (arith, b.line) in
          ap (run turn start 1) b.whole
          ∙ run_append turn start 1 b.before b.place (led 1 b.stands) (b.l ∷ b.after)
          ∙ run_stop turn b.place (1 + length b.before) b.l b.after e c ((tells_bad e c (tells b.place b.l)).1 b.refused)
          ∙ ap (λ (k : ℕ). stopped e k c) n

  -- a line may stand at a place exactly where all its demands hold
  pub taken : (p : P) (l : Line) → (Some λ q. Takes p l q) ↔ All (demands p l)
  taken p l =
      let g = tells_got (tells p l) in
      (λ t. g.0 (t.0, (takes p l t.0).1 t.1), λ a. let t = g.1 a in (t.0, (takes p l t.0).0 t.1))

-- ---- Header lines

-- the lines that may stand, and where the next one then stands
pub data HeaderTakes : HeaderPlace → Line → HeaderPlace → Type 0 where
  first_line : {l : Line} → FirstHeaderLine l → HeaderTakes first l (second l)
  second_line : {h₁ l : Line} → HeaderLine l → HeaderTakes (second h₁) l (third h₁ l)
  third_line : {h₁ h₂ l : Line} → HeaderLine l → HeaderTakes (third h₁ h₂) l (full (record { first = h₁; second = h₂; third = l }))

-- 18: after the third there is no line
abbrev pub header_demands : HeaderPlace → Line → List Demand
header_demands first l = fitting 80 l and_then no_reserved_tag l
header_demands (second h₁) l = fitting 80 l
header_demands (third h₁ h₂) l = fitting 80 l
header_demands (full hs) l = fitting 80 l and_then no_line

abbrev pub HeaderBecause : List Line → ℕ → ℕ → ℕ → Type 0
HeaderBecause ls e i c = PartBecause HeaderTakes header_demands first ls e i c

header_line_lem : (p : HeaderPlace) (l : Line) (q : HeaderPlace) → Within 80 l → header_line p l ≡ got q → HeaderTakes p l q
unfolding header_line
header_line_lem first l q w h =
    let r = then_got (first_header_of l) _ q h in
    let f = (header_agrees l r.0 w).0 r.1 in
    subst (HeaderTakes first l) (ap second (sym f.1) ∙ got_inj r.2) (HeaderTakes.first_line f.0)
header_line_lem (second h₁) l q w h = subst (HeaderTakes (second h₁) l) (got_inj h) (HeaderTakes.second_line w)
header_line_lem (third h₁ h₂) l q w h = subst (HeaderTakes (third h₁ h₂) l) (got_inj h) (HeaderTakes.third_line w)
header_line_lem (full hs) l q w h = bad_got h

header_taken : {p : HeaderPlace} {l : Line} {q : HeaderPlace} → HeaderTakes p l q → header_turn p l ≡ got q
unfolding header_turn header_line
header_taken (HeaderTakes.first_line {l = l} h) =
    within_is 80 l (header_line first l) h.line ∙ then_is (first_header_of l) _ l ((header_agrees l l h.line).1 (h, refl))
header_taken (HeaderTakes.second_line {h₁ = h₁} {l = l} h) = within_is 80 l (header_line (second h₁) l) h
header_taken (HeaderTakes.third_line {h₁ = h₁} {h₂ = h₂} {l = l} h) = within_is 80 l (header_line (third h₁ h₂) l) h

header_takes : (p : HeaderPlace) (l : Line) (q : HeaderPlace) → (header_turn p l ≡ got q) ↔ HeaderTakes p l q
unfolding header_turn
header_takes p l q = (λ h. let r = within_got 80 l (header_line p l) q h in header_line_lem p l q r.0 r.1, header_taken)

headers_tell : (p : HeaderPlace) (l : Line) → Tells (header_demands p l) (header_turn p l)
unfolding header_turn header_line
headers_tell first l = within_tells l 80 λ w. then_last _ (header_tells l w)
headers_tell (second h₁) l = within_last l _ 80
headers_tell (third h₁ h₂) l = within_last l _ 80
headers_tell (full hs) l = within_tells l 80 λ w. T.refusal (inl ((λ h. h), refl, refl))

pub header_because : (ls : List Line) (e i c : ℕ) → (run header_turn first 1 ls ≡ stopped e i c) ↔ HeaderBecause ls e i c
header_because ls e i c = because header_turn HeaderTakes header_demands header_takes headers_tell first ls e i c

pub header_taken_if : (p : HeaderPlace) (l : Line) → (Some λ q. HeaderTakes p l q) ↔ All (header_demands p l)
header_taken_if p l = taken header_turn HeaderTakes header_demands header_takes headers_tell p l

-- ---- Items

pub data ItemTakes : ItemPlace → Line → ItemPlace → Type 0 where
  data_header : {is : List Item} {l : Line} {name : Bytes} → DataHeader l name → ItemTakes (items is) l (values is name [])
  value_line : {is : List Item} {name : Bytes} {vs : List Line} {l : Line} → ValueLine l → ItemTakes (values is name vs) l (values is name (vs ++ (l ∷ [])))
  blank_line : {is : List Item} {name : Bytes} {vs : List Line} {l : Line} →
      BlankLine l → ItemTakes (values is name vs) l (items (is ++ (record { name = name; values = vs } ∷ [])))

-- 16: a data header and nothing else, so no `$$$$` line
abbrev pub header_alone : Line → List Demand
header_alone l = Some (DataHeader l) else 16 at_column 1 ∷ []

abbrev pub item_demands : ItemPlace → Line → List Demand
item_demands (items is) l = fitting 80 l and_then header_alone l
item_demands (values is name vs) l = fitting 200 l and_then value_or_blank l

abbrev pub ItemBecause : List Line → ℕ → ℕ → ℕ → Type 0
ItemBecause ls e i c = PartBecause ItemTakes item_demands (items []) ls e i c
