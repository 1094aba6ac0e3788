-- Laws on data headers, `$$$$` lines, value lines and blank lines.
use Rattle.std.specs.Prelude.{Ok, Err, Option, Some, None}
use Prim.Native.Nat.{ℕ, suc, ◌+◌, ◌-◌, ◌≤◌, ◌<◌}
use native.Mathlib.Omega.{arith}
use mathlib.Core.Path.{◌≡◌, refl, sym, ap, ◌∙◌, subst}
use lib.Seq.{drop-drop}
use mathlib.Core.List.{[], ◌∷◌}
use mathlib.Core.Bool.{Bool, true, false, cond}
use lib.Dec.{eqb, leb}
use lib.ListN.{length, take, drop, length-drop}
use borrow.Author.Tests.{eq-eqb, ne_eqb, le-leb, lt-leb}
use Rattle.text.specs.Text.{Bytes, Line, bytes}
use Rattle.text.specs.Columns.{column}
use Rattle.text.specs.Find.{first_from, is_ink, ink_column, is_blank}
use Rattle.text.specs.First.{first_within}
use Rattle.field_numbers.specs.Read.{after_spaces}
use Rattle.judge_line.specs.Got.{Got, got, bad}
use Rattle.judge_line.specs.Judge.{HeaderRead, none, begins, opened, spaced, arrowed, header_of, ItemOrEnd, title, close, title_got, is_close, item_of, ValueOrBlank, value, blank, not_header, value_of}
use Rattle.judge_line.specs.AgreeText.{begins_got}
use Rattle.line_text.specs.Answer.{name_got, name_in, item_in}
use Rattle.line_text.specs.declared.NameRead.{NameRead}
use Rattle.line_text.specs.declared.ItemLine.{ItemLine}
use Rattle.judge_line.specs.declared.Refusal.{Refusal}
use Rattle.line_text.proofs.Names.{unnamed_in}

-- ---- spaces before `<`

ink_at_by : (x i k : ℕ) (xs : Bytes) (t : Bool) → eqb x 32 ≡ t → (first_from is_ink (suc i) xs ≡ Some k → after_spaces xs ≡ drop (k - suc i) xs) →
    first_from is_ink i (x ∷ xs) ≡ Some k → after_spaces (x ∷ xs) ≡ drop (k - i) (x ∷ xs)
unfolding first_from after_spaces
ink_at_by x i k xs true e ih h =
    let g : first_from is_ink (suc i) xs ≡ Some k = rw e at h in
    let w = first_within is_ink (suc i) k xs g in
    let z : k - i ≡ suc (k - suc i) = omega arith in
    rw (e, z) (ih g)
ink_at_by x i k xs false e ih h =
    let g : Some i ≡ Some k = rw e at h in
    let same : i ≡ k = cc in
    let z : k - i ≡ 0 = omega arith in
    rw (e, z)

ink_at : (i k : ℕ) (xs : Bytes) → first_from is_ink i xs ≡ Some k → after_spaces xs ≡ drop (k - i) xs
ink_at i k [] h = absurd (let w = first_within is_ink i k [] h in omega arith)
ink_at i k (x ∷ xs) h = ink_at_by x i k xs (eqb x 32) refl (ink_at (suc i) k xs) h

ink_no_by : (x i : ℕ) (xs : Bytes) (t : Bool) → eqb x 32 ≡ t → (first_from is_ink (suc i) xs ≡ None → after_spaces xs ≡ []) →
    first_from is_ink i (x ∷ xs) ≡ None → after_spaces (x ∷ xs) ≡ []
unfolding first_from after_spaces
ink_no_by x i xs true e ih h = rw e (ih (rw e at h))
ink_no_by x i xs false e ih h =
    let g : Some i ≡ None = rw e at h in
    absurd (let z : ◌≡◌ {A = ℕ} 0 1 = cc in omega arith)

ink_no : (i : ℕ) (xs : Bytes) → first_from is_ink i xs ≡ None → after_spaces xs ≡ []
unfolding after_spaces
ink_no i [] h = refl
ink_no i (x ∷ xs) h = ink_no_by x i xs (eqb x 32) refl (ink_no (suc i) xs) h

module _ (l : Line) (v : Option ℕ) (e : v ≡ ink_column l 3) where
  pub ink_low : (k : ℕ) → v ≡ Some k → 1 ≤ k
  unfolding ink_column
  ink_low k f = let w = first_within is_ink 3 k (drop 2 l) (sym e ∙ f) in omega arith

  pub ink_high : (k : ℕ) → v ≡ Some k → k - 1 < length l
  unfolding ink_column
  ink_high k f = let w = first_within is_ink 3 k (drop 2 l) (sym e ∙ f) in omega (arith, length-drop 2 l)

  pub spaced_at : (k : ℕ) (x : HeaderRead) → v ≡ Some k → x ≡ opened (drop (k - 1) l) → x ≡ opened (after_spaces (drop 2 l))
  unfolding ink_column
  spaced_at k x f g = g ∙ ap opened (sym (ink_at 3 k (drop 2 l) (sym e ∙ f) ∙ there))
    where
      there : drop (k - 3) (drop 2 l) ≡ drop (k - 1) l
      there =
          let w = first_within is_ink 3 k (drop 2 l) (sym e ∙ f) in
          let z : 2 + (k - 3) ≡ k - 1 = omega arith in
          drop-drop (k - 3) 2 l ∙ ap (λ (n : ℕ). drop n l) z

  pub spaced_no : v ≡ None → none ≡ opened (after_spaces (drop 2 l))
  unfolding ink_column opened
  spaced_no f = sym (rw (ink_no 3 (drop 2 l) (sym e ∙ f)))

pub ruleset spaced_laws = (ink_low, ink_high, spaced_at, spaced_no, unnamed_in)

-- ---- a data header

cond_none : (t : Bool) → cond t none none ≡ none
cond_none true = refl
cond_none false = refl

-- a line that does not begin with `>` is none
no_arrow : (l : Line) → (column l 1 ≡ 62 → ⊥) → header_of l ≡ none
unfolding header_of arrowed
no_arrow [] n = refl
no_arrow (b ∷ l) n = rw (ne_eqb b 62 n) (cond_none (leb (suc (length l)) 80))

pub header_long : (l : Line) → 80 < length l → none ≡ header_of l
unfolding header_of
header_long l h = sym (rw (lt-leb (length l) 80 h))

pub header_other : (l : Line) (b : ℕ) → b ≡ column l 1 → (b ≡ 62 → ⊥) → none ≡ header_of l
header_other l b e n = sym (no_arrow l (λ q. n (e ∙ q)))

arrow_close : (l : Line) → column l 1 ≡ 62 → (column l 2 ≡ 32 → ⊥) → arrowed l ≡ none
unfolding arrowed spaced
arrow_close [] p n = refl
arrow_close (a ∷ []) p n = rw (eq-eqb a 62 p)
arrow_close (a ∷ b ∷ l) p n = rw (eq-eqb a 62 p, ne_eqb b 32 n)

arrow_spaced : (l : Line) → column l 1 ≡ 62 → column l 2 ≡ 32 → arrowed l ≡ opened (after_spaces (drop 2 l))
unfolding arrowed spaced opened after_spaces
arrow_spaced [] p q = refl
arrow_spaced (a ∷ []) p q = rw (eq-eqb a 62 p)
arrow_spaced (a ∷ b ∷ l) p q = rw (eq-eqb a 62 p, eq-eqb b 32 q)

module _ (l : Line) (a b : ℕ) (h : length l ≤ 80) (e : a ≡ column l 1) (f : b ≡ column l 2) where
  pub header_close : a ≡ 62 → (b ≡ 32 → ⊥) → none ≡ header_of l
  unfolding header_of
  header_close p n = sym (rw (le-leb (length l) 80 h) (arrow_close l (sym e ∙ p) (λ q. n (f ∙ q))))

  pub header_spaced : (x : HeaderRead) → a ≡ 62 → b ≡ 32 → x ≡ opened (after_spaces (drop 2 l)) → x ≡ header_of l
  unfolding header_of
  header_spaced x p q g = g ∙ sym (rw (le-leb (length l) 80 h) (arrow_spaced l (sym e ∙ p) (sym f ∙ q)))

pub ruleset header_laws = (header_long, header_other, header_close, header_spaced, unnamed_in)

-- ---- a `$$$$` line, or a title

begins_short : (l : Line) → begins (bytes "$$$$") l ≡ true → 4 ≤ length l
begins_short l h = let b = begins_got (bytes "$$$$") l h in rw b.1 (omega arith)

module _ (l : Line) (r : Bool) (e : r ≡ begins (bytes "$$$$") l) where
  pub close_within : r ≡ true → 4 ≤ length l
  close_within t = begins_short l (sym e ∙ t)

  pub close_rest : (s : Bool) → r ≡ true → s ≡ is_blank (drop 4 l) → s ≡ is_close l
  close_rest s t f = f ∙ sym (rw (sym e ∙ t))

  pub close_other : r ≡ false → false ≡ is_close l
  close_other t = sym (rw (sym e ∙ t))

pub ruleset close_laws = (close_within, close_rest, close_other)

module _ (l : Line) (v : NameRead) (e : name_got l v ≡ header_of l) where
  pub title_named : (from to : ℕ) → v ≡ NameRead.Named from to → got (title (take (to - from) (drop from l))) ≡ title_got (header_of l)
  title_named from to f = ap title_got (ap (name_got l) (sym f) ∙ e)

  pub title_none : v ≡ NameRead.Unnamed → bad 16 1 ≡ title_got (header_of l)
  title_none f = ap title_got (ap (name_got l) (sym f) ∙ e)

  pub value_named : (from to : ℕ) → v ≡ NameRead.Named from to → bad 17 1 ≡ not_header (header_of l)
  value_named from to f = ap not_header (ap (name_got l) (sym f) ∙ e)

  pub value_none : v ≡ NameRead.Unnamed → got value ≡ not_header (header_of l)
  value_none f = ap not_header (ap (name_got l) (sym f) ∙ e)

pub title_in_lem : (l : Line) (v : NameRead) (from to : ℕ) → name_in l v → v ≡ NameRead.Named from to → item_in l (Ok (ItemLine.Title from to))
unfolding name_in item_in
title_in_lem l v from to h e = subst (name_in l) e h

pub close_in : (l : Line) → item_in l (Ok ItemLine.Close)
unfolding item_in
close_in l = tt

pub bad_in : (l : Line) (r : Refusal) → item_in l (Err r)
unfolding item_in
bad_in l r = tt

pub item_close : (l : Line) (r : Bool) → r ≡ is_close l → r ≡ true → got close ≡ item_of l
unfolding item_of
item_close l r e t = sym (rw (sym e ∙ t))

pub item_other : (l : Line) (r : Bool) (x : Got ItemOrEnd) → r ≡ is_close l → r ≡ false → x ≡ title_got (header_of l) → x ≡ item_of l
unfolding item_of
item_other l r x e t f = f ∙ sym (rw (sym e ∙ t))

pub ruleset title_laws = (title_named, title_none, title_in_lem, bad_in)

pub ruleset arrow_laws = (value_named, value_none)

pub ruleset item_laws = (item_close, item_other, close_in)

-- ---- a value line, or a blank line

-- by the first byte
not_blank : (l : Line) → (column l 1 ≡ 32 → ⊥) → is_blank l ≡ false
unfolding is_blank
not_blank [] n = absurd (n refl)
not_blank (b ∷ l) n = rw (ne_eqb b 32 n)

not_dollar : (l : Line) → (column l 1 ≡ 36 → ⊥) → begins (bytes "$$$$") l ≡ false
unfolding begins
not_dollar [] n = refl
not_dollar (b ∷ l) n = rw (ne_eqb 36 b (λ q. n (sym q)))

module _ (l : Line) (b : ℕ) (e : b ≡ column l 1) where
  differs : (x y : ℕ) → b ≡ x → (x ≡ y → ⊥) → column l 1 ≡ y → ⊥
  differs x y p n q = n (sym p ∙ (e ∙ q))

  pub value_arrow : (x : Got ValueOrBlank) → b ≡ 62 → x ≡ not_header (header_of l) → x ≡ value_of l
  unfolding value_of
  value_arrow x p f =
      f ∙ sym (rw (not_blank l (differs 62 32 p (λ q. omega arith)), not_dollar l (differs 62 36 p (λ q. omega arith))))

  pub value_dollars : (r : Bool) → b ≡ 36 → r ≡ begins (bytes "$$$$") l → r ≡ true → bad 17 1 ≡ value_of l
  unfolding value_of
  value_dollars r p f t = sym (rw (not_blank l (differs 36 32 p (λ q. omega arith)), sym f ∙ t))

  pub value_dollar : (r : Bool) → b ≡ 36 → r ≡ begins (bytes "$$$$") l → r ≡ false → got value ≡ value_of l
  unfolding value_of
  value_dollar r p f t = sym (rw (not_blank l (differs 36 32 p (λ q. omega arith)), sym f ∙ t, no_arrow l (differs 36 62 p (λ q. omega arith))))

  pub value_blank : (r : Bool) → r ≡ is_blank l → r ≡ true → got blank ≡ value_of l
  unfolding value_of
  value_blank r f t = sym (rw (sym f ∙ t))

  pub value_space : (r : Bool) → b ≡ 32 → r ≡ is_blank l → r ≡ false → got value ≡ value_of l
  unfolding value_of
  value_space r p f t =
      sym (rw (sym f ∙ t, not_dollar l (differs 32 36 p (λ q. omega arith)), no_arrow l (differs 32 62 p (λ q. omega arith))))

  pub value_plain : (b ≡ 62 → ⊥) → (b ≡ 36 → ⊥) → (b ≡ 32 → ⊥) → got value ≡ value_of l
  unfolding value_of
  value_plain n m k =
      sym (rw (not_blank l (λ q. k (e ∙ q)), not_dollar l (λ q. m (e ∙ q)), no_arrow l (λ q. n (e ∙ q))))

pub ruleset value_laws = (value_arrow, value_dollars, value_dollar, value_blank, value_space, value_plain)
