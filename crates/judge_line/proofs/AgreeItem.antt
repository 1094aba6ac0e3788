-- Data headers, `$$$$` lines, value lines and blank lines are judged as their rules say.
use Rattle.std.specs.Prelude.{ℕ, zero, suc, ◌≤◌, ◌≡◌, refl, ◌≢◌, [], ◌∷◌, ◌++◌, Bool, true, false, cond, length, drop}
use Rattle.std.proofs.Common.{arith, sym, ap, ◌∙◌, subst, append-nil, append_assoc, eqb-true, eq-eqb, ne_eqb, leb-true, le-leb}
use Rattle.std.proofs.lemmas.Bool.{eqb-false}
use Rattle.text.specs.Text.{Bytes, Line, bytes, Each, Without}
use Rattle.text.specs.Columns.{columns, columns_for, spaces, Allowed, Within, Blank}
use Rattle.field_numbers.specs.Read.{after_spaces}
use Rattle.text.specs.Laws.{and_true, never_both}
use Rattle.text.specs.Find.{is_blank}
use Rattle.text.specs.Agree.{blank_is, spaces_blank}
use Rattle.field_numbers.specs.Agree.{led, pass_spaces}
use Rattle.rules.specs.Forms.{DataHeader, RecordEnd, ValueLine, BlankLine}
use Rattle.judge_line.specs.Got.{got}
use Rattle.judge_line.specs.GotLaws.{got_inj, bad_got, cond_by}
use Rattle.judge_line.specs.Judge.{HeaderRead, named, none, begins, name_on, opened, spaced, arrowed, header_of, ItemOrEnd, title, close, title_got, is_close, item_of, ValueOrBlank, value, blank, not_header, value_of}
use Rattle.judge_line.specs.AgreeText.{none_of, begins_got, begins_is, blank_spaces}
use Rattle.judge_line.specs.AgreeItem.{no_name, not_close, value_told}

-- ---- a header's name

-- a name was found: so far `name`, then `more`, then `>` and spaces
record Name (name bs r : Bytes) : Type 0 where
  more : Bytes
  after : ℕ
  parts : bs ≡ more ++ (62 ∷ spaces after)
  whole : r ≡ name ++ more
  low : 1 ≤ length r
  high : length r ≤ 30
  no_open : Without 60 more
  no_close : Without 62 more

-- a test must hold for a name to be found
cond_named : (t : Bool) (x : HeaderRead) (r : Bytes) → cond t x none ≡ named r → (t ≡ true) × (x ≡ named r)
cond_named t x r h = cond_by _ _ _ _ h (λ e h. (e, h)) λ e h. no_name h

named_inj : {m r : Bytes} → named m ≡ named r → m ≡ r
named_inj e = cc

-- the name's end
ended : (name bs : Bytes) (b : ℕ) → b ≡ 62 → 1 ≤ length name → length name ≤ 30 → Blank bs → Name name (b ∷ bs) name
unfolding Each
ended name bs b e low high after =
    let s = blank_spaces bs after in
    record {
      more = [];
      after = length bs;
      parts = λ i. e i ∷ s i;
      whole = sym (append-nil name);
      low = low;
      high = high;
      no_open = tt;
      no_close = tt;
    }

-- a byte of the name
longer : {name bs r : Bytes} {b : ℕ} → b ≢ 60 → b ≢ 62 → Name (name ++ (b ∷ [])) bs r → Name name (b ∷ bs) r
unfolding Each
longer {name} {b = b} p q m =
    record {
      more = b ∷ m.more;
      after = m.after;
      parts = ap (λ (x : Bytes). b ∷ x) m.parts;
      whole = m.whole ∙ append_assoc name (b ∷ []) m.more;
      low = m.low;
      high = m.high;
      no_open = (p, m.no_open);
      no_close = (q, m.no_close);
    }

name_got_lem : (name bs r : Bytes) → name_on name bs ≡ named r → Name name bs r
unfolding name_on
name_got_lem name [] r h = no_name h
name_got_lem name (b ∷ bs) r h =
    cond_by _ _ _ _ h (λ e h. no_name h) λ e h.
    cond_by _ _ _ _ h
    (λ f h.
    let t = cond_named _ _ r h in
    let u = and_true _ _ t.0 in
    let v = and_true _ _ u.1 in
    subst (Name name (b ∷ bs)) (named_inj t.1)
    (ended name bs b (eqb-true b 62 f) (leb-true 1 (length name) u.0) (leb-true (length name) 30 v.0) ((blank_is bs).0 v.1)))
    λ f h.
    longer (eqb-false b 60 e) (eqb-false b 62 f) (name_got_lem (name ++ (b ∷ [])) bs r h)

name_is : (name more : Bytes) (after : ℕ) → 1 ≤ length (name ++ more) → length (name ++ more) ≤ 30 → Without 60 more → Without 62 more →
    name_on name (more ++ (62 ∷ spaces after)) ≡ named (name ++ more)
unfolding name_on Each
name_is name [] after low high no_open no_close =
    let e = append-nil name in
    let a : 1 ≤ length name = subst (λ (x : Bytes). 1 ≤ length x) e low in
    let b : length name ≤ 30 = subst (λ (x : Bytes). length x ≤ 30) e high in
    rw (le-leb 1 (length name) a, le-leb (length name) 30 b, (blank_is (spaces after)).1 (spaces_blank after)) (ap named (sym e))
name_is name (b ∷ more) after low high no_open no_close =
    let e = append_assoc name (b ∷ []) more in
    let lo = subst (λ (x : Bytes). 1 ≤ length x) (sym e) low in
    let hi = subst (λ (x : Bytes). length x ≤ 30) (sym e) high in
    rw (ne_eqb b 60 no_open.0, ne_eqb b 62 no_close.0)
    (name_is (name ++ (b ∷ [])) more after lo hi no_open.1 no_close.1 ∙ ap named e)

-- ---- a data header

opened_got : (bs r : Bytes) → opened bs ≡ named r → (ds : Bytes) × (bs ≡ 60 ∷ ds) × (name_on [] ds ≡ named r)
unfolding opened
opened_got [] r h = no_name h
opened_got (b ∷ bs) r h =
    let t = cond_named _ _ r h in
    (bs, ap (λ (x : ℕ). x ∷ bs) (eqb-true b 60 t.0), t.1)

spaced_got : (bs r : Bytes) → spaced bs ≡ named r → (k : ℕ) × (ds : Bytes) × (bs ≡ spaces (suc k) ++ (60 ∷ ds)) × (name_on [] ds ≡ named r)
unfolding spaced
spaced_got [] r h = no_name h
spaced_got (b ∷ bs) r h =
    let t = cond_named _ _ r h in
    let o = opened_got (after_spaces bs) r t.1 in
    let s = led bs in
    let e : b ≡ 32 = eqb-true b 32 t.0 in
    let p : bs ≡ spaces s.count ++ (60 ∷ o.0) = s.parts ∙ ap (λ (x : Bytes). spaces s.count ++ x) o.1 in
    (s.count, o.0, (λ i. e i ∷ p i), o.2)

arrowed_got : (l r : Bytes) → arrowed l ≡ named r → (k : ℕ) × (ds : Bytes) × (l ≡ 62 ∷ (spaces (suc k) ++ (60 ∷ ds))) × (name_on [] ds ≡ named r)
unfolding arrowed
arrowed_got [] r h = no_name h
arrowed_got (b ∷ bs) r h =
    let t = cond_named _ _ r h in
    let s = spaced_got bs r t.1 in
    let e : b ≡ 62 = eqb-true b 62 t.0 in
    let p = s.2 in
    (s.0, s.1, (λ i. e i ∷ p i), s.3)

pub header_got_lem : (l name : Bytes) → Each Allowed l → header_of l ≡ named name → DataHeader l name
unfolding header_of
header_got_lem l name allowed h =
    let t = cond_named _ _ name h in
    let a = arrowed_got l name t.1 in
    let m = name_got_lem [] a.1 name a.3 in
    let e : m.more ≡ name = sym m.whole in
    let p : a.1 ≡ name ++ (62 ∷ spaces m.after) = m.parts ∙ ap (λ (x : Bytes). x ++ (62 ∷ spaces m.after)) e in
    record {
      line = record { short = leb-true (length l) 80 t.0; allowed = allowed };
      between = suc a.0;
      after = m.after;
      some = omega arith;
      parts = a.2 ∙ ap (λ (x : Bytes). 62 ∷ (spaces (suc a.0) ++ (60 ∷ x))) p;
      name_low = m.low;
      name_high = m.high;
      no_open = subst (Without 60) e m.no_open;
      no_close = subst (Without 62) e m.no_close;
    }

spaced_is : (k : ℕ) (ds : Bytes) → 1 ≤ k → spaced (spaces k ++ (60 ∷ ds)) ≡ name_on [] ds
unfolding spaced opened after_spaces
spaced_is zero ds h = absurd (omega arith)
spaced_is (suc k) ds h = rw (pass_spaces k (60 ∷ ds))

pub header_is : (l name : Bytes) → DataHeader l name → header_of l ≡ named name
unfolding header_of arrowed
header_is l name d =
    rw (le-leb (length l) 80 d.line.short, d.parts)
    (spaced_is d.between (name ++ (62 ∷ spaces d.after)) d.some ∙
    name_is [] name d.after d.name_low d.name_high d.no_open d.no_close)

-- ---- where a data header or `$$$$` must stand

four : (l : Line) → columns l 1 4 ≡ bytes "$$$$" → begins (bytes "$$$$") l ≡ true
unfolding columns_for begins
four [] h = absurd (let z : ◌≡◌ {A = ℕ} 32 36 = cc in omega arith)
four (a ∷ []) h = absurd (let z : ◌≡◌ {A = ℕ} 32 36 = cc in omega arith)
four (a ∷ b ∷ []) h = absurd (let z : ◌≡◌ {A = ℕ} 32 36 = cc in omega arith)
four (a ∷ b ∷ c ∷ []) h = absurd (let z : ◌≡◌ {A = ℕ} 32 36 = cc in omega arith)
four (a ∷ b ∷ c ∷ d ∷ l) h =
    let p : 36 ≡ a = cc in
    let q : 36 ≡ b = cc in
    let r : 36 ≡ c = cc in
    let s : 36 ≡ d = cc in
    rw (eq-eqb 36 a p, eq-eqb 36 b q, eq-eqb 36 c r, eq-eqb 36 d s)

pub close_got : (l : Line) → Within 80 l → is_close l ≡ true → RecordEnd l
unfolding columns_for
close_got l w h =
    let a = and_true _ _ h in
    let b = begins_got (bytes "$$$$") l a.0 in
    record { line = w; tagged = rw b.1 refl; rest = (blank_is (drop 4 l)).0 a.1 }

pub close_is : (l : Line) → RecordEnd l → is_close l ≡ true
close_is l r = rw (four l r.tagged, (blank_is (drop 4 l)).1 r.rest)

-- what is found of a line stands for it
abbrev MeansItem : Line → ItemOrEnd → Type 0
MeansItem l (title name) = DataHeader l name
MeansItem l close = RecordEnd l

title_means : (l : Line) (r : ItemOrEnd) → Within 80 l → (h : HeaderRead) → header_of l ≡ h → title_got h ≡ got r → MeansItem l r
title_means l r w (named name) e h = subst (MeansItem l) (got_inj h) (header_got_lem l name w.allowed e)
title_means l r w none e h = bad_got h

pub item_means : (l : Line) (r : ItemOrEnd) → Within 80 l → item_of l ≡ got r → MeansItem l r
unfolding item_of
item_means l r w h =
    cond_by _ _ _ _ h (λ e h. subst (MeansItem l) (got_inj h) (close_got l w e)) λ e h.
    title_means l r w (header_of l) refl h

pub title_is_lem : (l name : Bytes) → DataHeader l name → item_of l ≡ got (title name)
unfolding item_of
title_is_lem l name d = rw (not_close l name d, header_is l name d)

pub close_line_is : (l : Line) → RecordEnd l → item_of l ≡ got close
unfolding item_of
close_line_is l r = rw (close_is l r)

-- ---- where a value line or a blank line must stand

abbrev MeansValue : Line → ValueOrBlank → Type 0
MeansValue l value = ValueLine l
MeansValue l blank = BlankLine l

other_means : (l : Line) (r : ValueOrBlank) → Within 200 l → is_blank l ≡ false → begins (bytes "$$$$") l ≡ false →
    (h : HeaderRead) → header_of l ≡ h → not_header h ≡ got r → MeansValue l r
other_means l r w p q (named name) e h = bad_got h
other_means l r w p q none e h =
    subst (MeansValue l) (got_inj h)
    (record {
      line = w;
      not_blank = λ b. never_both (is_blank l) ((blank_is l).1 b) p;
      no_end = λ b. never_both (begins (bytes "$$$$") l) (rw b.1 (begins_is (bytes "$$$$") b.0)) q;
      no_header = λ name d. no_name (sym e ∙ header_is l name d);
    })

pub value_means : (l : Line) (r : ValueOrBlank) → Within 200 l → value_of l ≡ got r → MeansValue l r
unfolding value_of
value_means l r w h =
    cond_by _ _ _ _ h (λ e h. subst (MeansValue l) (got_inj h) (record { line = w; blank = (blank_is l).0 e })) λ p h.
    cond_by _ _ _ _ h (λ e h. bad_got h) λ q h.
    other_means l r w p q (header_of l) refl h

no_header : (l : Line) → Each Allowed l → ((name : Bytes) → ¬ DataHeader l name) → (h : HeaderRead) → header_of l ≡ h → not_header h ≡ got value
no_header l allowed n (named name) e = absurd (n name (header_got_lem l name allowed e))
no_header l allowed n none e = refl

pub value_is_lem : (l : Line) → ValueLine l → value_of l ≡ got value
unfolding value_of
value_is_lem l v =
    rw (value_told l v, none_of (begins (bytes "$$$$") l) (begins_got (bytes "$$$$") l) v.no_end)
    (no_header l v.line.allowed v.no_header (header_of l) refl)
