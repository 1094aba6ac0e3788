-- A good part, line by line: none of its lines is unfinished or refused. What its places take is told by one look at the line.
use Rattle.std.specs.Prelude.{ℕ, suc, ◌+◌, ◌-◌, ◌<◌, ◌≡◌, refl, Bool, true, false, List, [], ◌∷◌, ◌++◌, length, take, drop}
use Rattle.std.proofs.Common.{arith, sym, ap, ◌∙◌, subst, append_assoc, append-nil}
use Rattle.text.specs.Text.{Bytes, Line}
use Rattle.text.specs.Columns.{Within}
use Rattle.text.specs.Find.{line_at, is_blank}
use Rattle.text.specs.Cut.{cut}
use Rattle.text.specs.declared.LineAt.{LineAt}
use Rattle.rules.specs.Write.{header_text}
use Rattle.judge_line.specs.Got.{Got, got, bad}
use Rattle.judge_line.specs.GotLaws.{got_inj, bad_got, then_got}
use Rattle.judge_line.specs.Judge.{first_header_of, item_of, ItemOrEnd, title, close, value_of, ValueOrBlank, value, blank}
use Rattle.judge_line.specs.Agree.{within_got}
use Rattle.judge_line.proofs.Agree.{header_agrees, title_agrees, value_agrees, blank_agrees}
use Rattle.judge_line.specs.AgreeItem.{value_told, blank_told}
use Rattle.line_judged.specs.Known.{Standing, Header, Named}
use Rattle.rules.specs.Forms.{DataHeader}
use Rattle.rules.specs.OneForm.{one_header}
use Rattle.judge_file.specs.Verdict.{accepted}
use Rattle.judge_file.specs.SameVerdict.{accepted_refused}
use Rattle.judge_parts.specs.Part.{Run, run, conclude}
use Rattle.judge_parts.specs.Runs.{at_place, at_stopped, run_next, run_stop, from_cut}
use Rattle.writer_parts.specs.Step.{ended, Taken, taken, item_taken, value_taken, line_as, longest, turn_as, Standing as Stood, standing_turn, standing_end, ends_at}
use Rattle.writer_parts.specs.Here.{from_here, here_next, here_stop, here_cut}
use Rattle.writer_parts.specs.declared.Place.{Place}

-- ---- The text only grows

abbrev pub Grows : Bytes → Bytes → Type 0
Grows out all = (more : Bytes) × (all ≡ out ++ more)

run_grows : (p : Stood) (i : ℕ) (ls : List Line) (q : Stood) → run standing_turn p i ls ≡ Run.at q → Grows p.out q.out
unfolding run standing_turn
run_grows p i [] q h = ([], ap (λ (x : Stood). x.out) (sym (at_place h)) ∙ sym (append-nil p.out))
run_grows p i (l ∷ ls) q h = go (λ p' g. run_grows p' (suc i) ls q g) (standing_turn p l) refl
  where
    go : ((p' : Stood) → run standing_turn p' (suc i) ls ≡ Run.at q → Grows p'.out q.out) → (x : Got Stood) → standing_turn p l ≡ x → Grows p.out q.out
    go r (got p') e =
        let t = then_got (turn_as p.place l) _ p' e in
        let out : p'.out ≡ p.out ++ t.0.text = ap (λ (x : Stood). x.out) (sym (got_inj t.2)) in
        let g = r p' (sym (run_next standing_turn p p' i l ls e) ∙ h) in
        (t.0.text ++ g.0, g.1 ∙ ap (λ (x : Bytes). x ++ g.0) out ∙ append_assoc p.out t.0.text g.0)
    go r (bad n c) e = at_stopped (sym h ∙ run_stop standing_turn p i l ls n c e)

pub ends_good : (q : Place) (out bs : Bytes) (i : ℕ) → ends_at q out i ≡ accepted bs → bs ≡ out
ends_good Place.First out bs i h = accepted_refused (sym h)
ends_good Place.Second out bs i h = accepted_refused (sym h)
ends_good Place.Third out bs i h = accepted_refused (sym h)
ends_good Place.Full out bs i h = cc
ends_good Place.Items out bs i h = cc
ends_good Place.Values out bs i h = accepted_refused (sym h)

pub here_grows : (p : Place) (out : Bytes) (i : ℕ) (s : Bytes) (at : ℕ) (bs : Bytes) → from_here p out i s at ≡ accepted bs → Grows out bs
unfolding from_here from_cut
here_grows p out i s at bs h = go (run standing_turn (record { place = p; out = out }) i (cut (drop at s)).lines) refl (cut (drop at s)).rest h
  where
    go : (r : Run Stood) → run standing_turn (record { place = p; out = out }) i (cut (drop at s)).lines ≡ r → (rest : Bytes) →
        conclude standing_end r rest (i + length (cut (drop at s)).lines) ≡ accepted bs → Grows out bs
    go (Run.at q) e [] k =
        let g = run_grows (record { place = p; out = out }) i (cut (drop at s)).lines q e in
        (g.0, ends_good q.place q.out bs (i + length (cut (drop at s)).lines) k ∙ g.1)
    go (Run.at q) e (b ∷ rest) k = accepted_refused (sym k)
    go (Run.stopped a j c) e rest k = accepted_refused (sym k)

-- ---- A line that its place takes

pub record Taking (p : Place) (l : Line) : Type 0 where
  pub q : Place
  pub text : Bytes
  pub turn : turn_as p l ≡ taken q text

-- ---- From a place of a good part on

module _ (p : Place) (out : Bytes) (i : ℕ) (s : Bytes) (at : ℕ) (bs : Bytes) (whole : from_here p out i s at ≡ accepted bs) where
  -- no line is unfinished
  pub never_cut : {X : Type 0} → at < length s → line_at s at ≡ LineAt.Unfinished → X
  never_cut some h = accepted_refused (sym whole ∙ here_cut p out i s at some h)

  pub stands : at < length s → Standing s at
  stands some = go (line_at s at) refl
    where
      go : (x : LineAt) → line_at s at ≡ x → Standing s at
      go (LineAt.Line e n) h = record { end = e; next = n; is = h }
      go LineAt.Unfinished h = never_cut some h

  module _ (e n : ℕ) (line : line_at s at ≡ LineAt.Line e n) where
    -- no line is refused
    pub never_bad : {X : Type 0} (a column : ℕ) → turn_as p (take (e - at) (drop at s)) ≡ bad a column → X
    never_bad a column h = accepted_refused (sym whole ∙ here_stop p out i s at e n line a column h)

    pub taking : Taking p (take (e - at) (drop at s))
    taking = go (turn_as p (take (e - at) (drop at s))) refl
      where
        go : (y : Got Taken) → turn_as p (take (e - at) (drop at s)) ≡ y → Taking p (take (e - at) (drop at s))
        go (got t) h = record { q = t.place; text = t.text; turn = h }
        go (bad a c) h = never_bad a c h

    -- the part is good from its next line on
    pub onward : (q : Place) (text : Bytes) → turn_as p (take (e - at) (drop at s)) ≡ taken q text → from_here q (out ++ text) (i + 1) s n ≡ accepted bs
    onward q text h = sym (here_next p out i s at e n line q text h) ∙ whole

-- ---- Header lines keep their bytes

pub data Heads : Place → Type 0 where
  first : Heads Place.First
  second : Heads Place.Second
  third : Heads Place.Third
  full : Heads Place.Full

-- the place after a header line, and its text
pub record HeaderTaken (l : Line) (q : Place) (text : Bytes) : Type 0 where
  pub place : Heads q
  pub kept : text ≡ ended l

taken_as : {p q : Place} {bs cs : Bytes} → ◌≡◌ {A = Got Taken} (taken p bs) (taken q cs) → (p ≡ q) × (bs ≡ cs)
taken_as h = let e = got_inj h in (ap (λ (t : Taken). t.place) e, ap (λ (t : Taken). t.text) e)

header_kept : {l : Line} {p q : Place} {bs : Bytes} → Heads p → ◌≡◌ {A = Got Taken} (taken p (ended l)) (taken q bs) → HeaderTaken l q bs
header_kept h e = let t = taken_as e in record { place = subst Heads t.0 h; kept = sym t.1 }

pub header_taken : {p : Place} → Heads p → (l : Line) (q : Place) (text : Bytes) → turn_as p l ≡ taken q text → HeaderTaken l q text
unfolding turn_as line_as
header_taken Heads.first l q bs h =
    let w = within_got 80 l (line_as Place.First l) _ h in
    let r = then_got (first_header_of l) _ _ w.1 in
    let same : r.0 ≡ l = ((header_agrees l r.0 w.0).0 r.1).1 in
    let t = taken_as r.2 in
    record { place = subst Heads t.0 Heads.second; kept = sym t.1 ∙ ap ended same }
header_taken Heads.second l q bs h = header_kept Heads.third (within_got 80 l (line_as Place.Second l) _ h).1
header_taken Heads.third l q bs h = header_kept Heads.full (within_got 80 l (line_as Place.Third l) _ h).1
header_taken Heads.full l q bs h = bad_got (within_got 80 l (line_as Place.Full l) _ h).1

-- ---- Items: a data header, then value lines up to the blank

item_by : (l : Line) (q : Place) (bs : Bytes) → Within 80 l → (i : ItemOrEnd) → item_of l ≡ got i → item_taken i ≡ taken q bs → Header l
item_by l q bs w (title name) h e = record { name = name; is = (title_agrees l name w).0 h }
item_by l q bs w close h e = bad_got e

-- a data header stands where one must
pub never_closed : (l : Line) → Taking Place.Items l → Header l
unfolding turn_as line_as
never_closed l g =
    let w = within_got 80 l (line_as Place.Items l) _ g.turn in
    let r = then_got (item_of l) item_taken _ w.1 in
    item_by l g.q g.text w.0 r.0 r.1 r.2

-- it is written anew for the name that was found
pub title_taken : (l : Line) → Taking Place.Items l → (from to : ℕ) → Named l from to → turn_as Place.Items l ≡ taken Place.Values (ended (header_text (take (to - from) (drop from l))))
unfolding turn_as line_as
title_taken l g from to d =
    let w = within_got 80 l (line_as Place.Items l) _ g.turn in
    let r = then_got (item_of l) item_taken _ w.1 in
    go w.0 r.0 r.1 r.2
  where
    go : Within 80 l → (i : ItemOrEnd) → item_of l ≡ got i → item_taken i ≡ taken g.q g.text → turn_as Place.Items l ≡ taken Place.Values (ended (header_text (take (to - from) (drop from l))))
    go w (title name) h e =
        let same : name ≡ take (to - from) (drop from l) = one_header ((title_agrees l name w).0 h) d.is in
        let t = taken_as e in
        g.turn
        ∙ ap (λ (z : Place). taken z g.text) (sym t.0)
        ∙ ap (taken Place.Values) (sym t.1)
        ∙ ap (λ (z : Bytes). taken Place.Values (ended (header_text z))) same
    go w close h e = bad_got e

-- a value line keeps its bytes, and the blank line after the values is written empty
module _ (l : Line) (g : Taking Place.Values l) where
  by_value : (v : ValueOrBlank) → Within 200 l → value_of l ≡ got v → value_taken l v ≡ taken g.q g.text →
      (is_blank l ≡ false → turn_as Place.Values l ≡ taken Place.Values (ended l)) × (is_blank l ≡ true → turn_as Place.Values l ≡ taken Place.Items (ended []))
  by_value value w h e =
      let t = value_told l ((value_agrees l w).0 h) in (
        (λ b. g.turn ∙ sym e),
        (λ b. absurd (let z : true ≡ false = sym b ∙ t in let z : ◌≡◌ {A = ℕ} 0 1 = cc in omega arith)),
      )
  by_value blank w h e =
      let t = blank_told l ((blank_agrees l w).0 h) in (
        (λ b. absurd (let z : true ≡ false = sym t ∙ b in let z : ◌≡◌ {A = ℕ} 0 1 = cc in omega arith)),
        (λ b. g.turn ∙ sym e),
      )

  both : (is_blank l ≡ false → turn_as Place.Values l ≡ taken Place.Values (ended l)) × (is_blank l ≡ true → turn_as Place.Values l ≡ taken Place.Items (ended []))
  unfolding turn_as line_as
  both =
      let w = within_got 200 l (line_as Place.Values l) _ g.turn in
      let r = then_got (value_of l) (value_taken l) _ w.1 in
      by_value r.0 w.0 r.1 r.2

  pub value_taken_lem : is_blank l ≡ false → turn_as Place.Values l ≡ taken Place.Values (ended l)
  value_taken_lem = both.0

  pub blank_taken : is_blank l ≡ true → turn_as Place.Values l ≡ taken Place.Items (ended [])
  blank_taken = both.1
