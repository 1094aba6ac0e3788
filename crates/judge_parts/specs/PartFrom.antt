-- What may follow each place of the two parts by the rules, and that the judge's turns fit it.
use Rattle.std.specs.Prelude.{ℕ, ◌≡◌, refl, List, [], ◌∷◌, ◌++◌, length}
use Rattle.std.proofs.Common.{arith, sym, ap, ◌∙◌, subst}
use Rattle.text.specs.Text.{Bytes, Line}
use Rattle.rules.specs.Forms.{FirstHeaderLine, HeaderLine}
use Rattle.rules.specs.Record.{Headers, Item, Values}
use Rattle.rules.specs.Canon.{HeaderPart, ItemPart}
use Rattle.judge_line.specs.Got.{got}
use Rattle.judge_line.specs.GotLaws.{got_inj, bad_got, then_got, then_is}
use Rattle.judge_line.specs.Judge.{first_header_of}
use Rattle.judge_line.specs.Judge.{value}
use Rattle.judge_line.specs.Agree.{within_got, within_is}
use Rattle.judge_line.proofs.Agree.{header_agrees}
use Rattle.judge_file.specs.Marked.{Marked, marked_then, marked_within, marked_header}
use Rattle.judge_file.specs.Witness.{empty_header}
use Rattle.judge_file.specs.Verdict.{accepted}
use Rattle.judge_file.specs.SameVerdict.{accepted_refused, same_accepted}
use Rattle.judge_parts.specs.Part.{HeaderPlace, first, second, third, full, header_line, header_turn, headers_end}
use Rattle.judge_parts.specs.Part.{ItemPlace, items, values}
use Rattle.judge_parts.specs.AnyPart.{Ends, Fitting}

-- ---- Header lines

abbrev FromFull : Headers → List Line → Headers → Type 0
FromFull hs t h = (t ≡ []) × (h ≡ hs)

abbrev FromThird : Line → Line → List Line → Headers → Type 0
FromThird h₁ h₂ [] h = ⊥
FromThird h₁ h₂ (l ∷ t) h = HeaderLine l × FromFull (record { first = h₁; second = h₂; third = l }) t h

abbrev FromSecond : Line → List Line → Headers → Type 0
FromSecond h₁ [] h = ⊥
FromSecond h₁ (l ∷ t) h = HeaderLine l × FromThird h₁ l t h

abbrev pub FromHeaders : HeaderPlace → List Line → Headers → Type 0
FromHeaders first t h = HeaderPart t h
FromHeaders (second h₁) t h = FromSecond h₁ t h
FromHeaders (third h₁ h₂) t h = FromThird h₁ h₂ t h
FromHeaders (full hs) t h = FromFull hs t h

header_turn_lem : (p q : HeaderPlace) (l : Line) → HeaderLine l → header_line p l ≡ got q → header_turn p l ≡ got q
unfolding header_turn
header_turn_lem p q l w e = within_is 80 l (header_line p l) w ∙ e

turn_header : (p q : HeaderPlace) (l : Line) → header_turn p l ≡ got q → HeaderLine l × (header_line p l ≡ got q)
unfolding header_turn
turn_header p q l e = within_got 80 l (header_line p l) q e

Onward : HeaderPlace → Line → List Line → Headers → Type 0
Onward p l t h = (q : HeaderPlace) × (header_turn p l ≡ got q) × FromHeaders q t h

onward_headers : (p : HeaderPlace) (l : Line) (t : List Line) (h : Headers) → FromHeaders p (l ∷ t) h → Onward p l t h
unfolding Onward header_line
onward_headers first l t h f = go f
  where
    go : {l : Line} {t : List Line} {h : Headers} → HeaderPart (l ∷ t) h → Onward first l t h
    go {l = l} (HeaderPart.three a b c) =
        (second l, header_turn_lem first (second l) l a.line (then_is (first_header_of l) _ l ((header_agrees l l a.line).1 (a, refl))), (b, (c, (refl, refl))))
onward_headers (second h₁) l t h f = (third h₁ l, header_turn_lem (second h₁) (third h₁ l) l f.0 refl, f.1)
onward_headers (third h₁ h₂) l t h f =
    let q = full (record { first = h₁; second = h₂; third = l }) in
    (q, header_turn_lem (third h₁ h₂) q l f.0 refl, f.1)
onward_headers (full hs) l t h f = absurd (omega (arith, ap length f.0))

three_lines : (l : Line) (t : List Line) (h : Headers) → FirstHeaderLine l → FromSecond l t h → HeaderPart (l ∷ t) h
three_lines l [] h a f = absurd f
three_lines l (l₂ ∷ []) h a f = absurd f.1
three_lines l (l₂ ∷ (l₃ ∷ t)) h a f =
    let e = f.1.1 in
    subst (HeaderPart (l ∷ (l₂ ∷ (l₃ ∷ t)))) (sym e.1)
    (subst (λ (u : List Line). HeaderPart (l ∷ (l₂ ∷ (l₃ ∷ u))) (record { first = l; second = l₂; third = l₃ })) (sym e.0)
    (HeaderPart.three a f.0 f.1.0))

backward_headers : (p : HeaderPlace) (l : Line) (q : HeaderPlace) → header_turn p l ≡ got q → (t : List Line) (h : Headers) → FromHeaders q t h → FromHeaders p (l ∷ t) h
unfolding header_line
backward_headers first l q e t h f =
    let r = turn_header first q l e in
    let s = then_got (first_header_of l) _ q r.1 in
    let k = (header_agrees l s.0 r.0).0 s.1 in
    let place : q ≡ second l = sym (got_inj s.2) ∙ ap second k.1 in
    three_lines l t h k.0 (subst (λ (p : HeaderPlace). FromHeaders p t h) place f)
backward_headers (second h₁) l q e t h f =
    let r = turn_header (second h₁) q l e in
    (r.0, subst (λ (p : HeaderPlace). FromHeaders p t h) (sym (got_inj r.1)) f)
backward_headers (third h₁ h₂) l q e t h f =
    let r = turn_header (third h₁ h₂) q l e in
    (r.0, subst (λ (p : HeaderPlace). FromHeaders p t h) (sym (got_inj r.1)) f)
backward_headers (full hs) l q e t h f = bad_got (turn_header (full hs) q l e).1

no_headers : {X : Type 0} {h : Headers} → HeaderPart [] h → X
no_headers f = elim f [ ]

headers_at_end : (p : HeaderPlace) (h : Headers) → FromHeaders p [] h → (i : ℕ) → headers_end p i ≡ accepted h
headers_at_end first h f i = no_headers f
headers_at_end (second h₁) h f i = absurd f
headers_at_end (third h₁ h₂) h f i = absurd f
headers_at_end (full hs) h f i = ap accepted (sym f.1)

headers_from_end : (p : HeaderPlace) (h : Headers) (i : ℕ) → headers_end p i ≡ accepted h → FromHeaders p [] h
headers_from_end first h i e = accepted_refused (sym e)
headers_from_end (second h₁) h i e = accepted_refused (sym e)
headers_from_end (third h₁ h₂) h i e = accepted_refused (sym e)
headers_from_end (full hs) h i e = (refl, sym (same_accepted e))

headers_ends : (p : HeaderPlace) → Ends headers_end p
headers_ends first = Ends.short (λ i. refl)
headers_ends (second h₁) = Ends.short (λ i. refl)
headers_ends (third h₁ h₂) = Ends.short (λ i. refl)
headers_ends (full hs) = Ends.whole hs (λ i. refl)

-- empty lines finish it
headers_ahead : (p : HeaderPlace) → (t : List Line) × (h : Headers) × FromHeaders p t h
headers_ahead first =
    let e = empty_header.line in
    ([] ∷ [] ∷ [] ∷ [], record { first = []; second = []; third = [] }, HeaderPart.three empty_header e e)
headers_ahead (second h₁) =
    let e = empty_header.line in
    ([] ∷ [] ∷ [], record { first = h₁; second = []; third = [] }, (e, (e, (refl, refl))))
headers_ahead (third h₁ h₂) = ([] ∷ [], record { first = h₁; second = h₂; third = [] }, (empty_header.line, (refl, refl)))
headers_ahead (full hs) = ([], hs, (refl, refl))

-- ---- A refusal carries a number from 3 to 18 and a column from 1 on

headers_marked : (p : HeaderPlace) (l : Line) → Marked (header_turn p l)
unfolding header_turn header_line
headers_marked first l = marked_within l 80 (marked_then (marked_header l) λ h. Marked.value)
headers_marked (second h₁) l = marked_within l 80 Marked.value
headers_marked (third h₁ h₂) l = marked_within l 80 Marked.value
headers_marked (full hs) l = marked_within l 80 (Marked.refusal 18 1 (omega arith) (omega arith))

pub fitting_headers : Fitting header_turn headers_end FromHeaders
unfolding Onward
fitting_headers =
    record {
      onward = onward_headers;
      backward = backward_headers;
      at_end_lem = headers_at_end;
      from_end = headers_from_end;
      ends = headers_ends;
      ahead = headers_ahead;
      marked = headers_marked;
    }

-- ---- Items

pub record FromItems (is : List Item) (t : List Line) (js : List Item) : Type 0 where
  pub ks : List Item
  pub part : ItemPart t ks
  pub all : js ≡ is ++ ks

pub record FromValues (is : List Item) (name : Bytes) (vs : List Line) (t : List Line) (js : List Item) : Type 0 where
  pub ws : List Line
  pub u : List Line
  pub ks : List Item
  pub values : Values t ws u
  pub part : ItemPart u ks
  pub all : js ≡ is ++ (record { name = name; values = vs ++ ws } ∷ ks)

abbrev pub FromItemPlace : ItemPlace → List Line → List Item → Type 0
FromItemPlace (items is) t js = FromItems is t js
FromItemPlace (values is name vs) t js = FromValues is name vs t js
