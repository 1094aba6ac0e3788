-- Property lines and the lines of items are judged as the demands on them say.
use Prim.Native.Nat.{ℕ}
use Rattle.std.proofs.Common.{arith, sym, ◌∙◌, subst, inl, inr}
use Rattle.std.proofs.Math.Path.{◌≡◌, refl}
use Rattle.std.specs.Prelude.{◌≢◌, ◌↔◌, ◌⊎◌, List, [], ◌∷◌, ◌++◌, map, Bool}
use Rattle.std.proofs.Math.Bool.{true, false, cond}
use Rattle.std.proofs.Math.Dec.{eqb}
use borrow.Author.Tests.{eqb-false, ne_eqb}
use Rattle.text.specs.Text.{Bytes, Line, bytes, Each}
use Rattle.text.specs.Columns.{Allowed, Within, Blank}
use Rattle.text.specs.Find.{is_blank}
use Rattle.text.specs.Agree.{blank_is}
use Rattle.text.specs.Laws.{never_both}
use Rattle.rules.specs.Forms.{Begins, Kind, Entry, Property, DataHeader, RecordEnd}
use Rattle.rules.specs.Record.{listed, NotListed}
use Rattle.judge_line.specs.Field.{elem}
use Rattle.judge_line.specs.Judge.{HeaderRead, named, none, begins, header_of, title_got, is_close, item_of, value, not_header, value_of}
use Rattle.judge_line.specs.AgreeText.{begins_got, begins_is}
use Rattle.judge_line.specs.AgreeItem.{no_name}
use Rattle.judge_line.proofs.AgreeItem.{header_got_lem, header_is, close_got, close_is}
use Rattle.judge_refusals.specs.Demand.{Some}
use Rattle.judge_refusals.specs.Refusals.{header_or_end, value_or_blank}
use Rattle.judge_refusals.specs.Tells as T
use Rattle.judge_refusals.specs.Tells.{Tells, cond_tells}

-- ---- 5. Property lines

-- the atoms seen are those that are not new
abbrev pub Agrees : List ℕ → (ℕ → Type 0) → Type 0
Agrees seen New = (a : ℕ) → (elem a seen ≡ false) ↔ New a

-- the atoms listed, as the judge keeps them
pub seen_agrees : (es : List Entry) → Agrees (map (λ e. e.atom) es) (λ a. NotListed a es)
unfolding elem NotListed
seen_agrees [] a = (λ h. tt, λ h. refl)
seen_agrees (e ∷ es) a = (to (eqb a e.atom) refl (seen_agrees es a).0, λ h. rw (ne_eqb a e.atom h.0) ((seen_agrees es a).1 h.1))
  where
    to : (t : Bool) → eqb a e.atom ≡ t → (elem a (map (λ e. e.atom) es) ≡ false → NotListed a es) →
        cond t true (elem a (map (λ e. e.atom) es)) ≡ false → (a ≢ e.atom) × NotListed a es
    to true q r g = absurd (let z : ◌≡◌ {A = ℕ} 0 1 = cc in omega arith)
    to false q r g = (eqb-false a e.atom q, r g)

module _ (n : ℕ) (ps : List Property) (l : Line) (w : Within 80 l) where
  abbrev pub New : Kind → ℕ → Type 0
  New kind atom = NotListed atom (listed kind ps)

-- ---- 6. Data items

module _ (l : Line) (allowed : Each Allowed l) where
  a_header : {name : Bytes} → header_of l ≡ named name → Some (DataHeader l)
  a_header {name} e = (name, header_got_lem l name allowed e)

  no_header : header_of l ≡ none → ¬ Some (DataHeader l)
  no_header e d = no_name (sym e ∙ header_is l d.0 d.1)

pub item_tells : (l : Line) → Within 80 l → Tells (header_or_end l) (item_of l)
unfolding item_of
item_tells l w = cond_tells (is_close l) (λ t. T.value (inr (close_got l w t), tt)) (λ t. go t (header_of l) refl)
  where
    neither : is_close l ≡ false → header_of l ≡ none → Some (DataHeader l) ⊎ RecordEnd l → ⊥
    neither t e (inl d) = no_header l w.allowed e d
    neither t e (inr r) = never_both (is_close l) (close_is l r) t

    go : is_close l ≡ false → (h : HeaderRead) → header_of l ≡ h → Tells (header_or_end l) (title_got h)
    go t (named name) e = T.value (inl (a_header l w.allowed e), tt)
    go t none e = T.refusal (inl (neither t e, refl, refl))

-- a blank line is no such line
blank_begins : (l : Line) → Blank l → ¬ Begins l "$$$$"
unfolding Each
blank_begins l b h =
    let q : Blank (bytes "$$$$" ++ h.0) = subst Blank h.1 b in
    let z : ◌≡◌ {A = ℕ} 36 32 = q.0 in
    omega arith

blank_header : (l : Line) → Blank l → ¬ Some (DataHeader l)
unfolding Each
blank_header l b d =
    let e = d.1.parts in
    let q = subst Blank e b in
    let z : ◌≡◌ {A = ℕ} 62 32 = q.0 in
    omega arith

pub value_tells : (l : Line) → Within 200 l → Tells (value_or_blank l) (value_of l)
unfolding value_of
value_tells l w =
    cond_tells (is_blank l) (λ t. let b = (blank_is l).0 t in T.value ((blank_begins l b, blank_header l b), tt)) λ t.
    cond_tells (begins (bytes "$$$$") l) (λ u. T.refusal (inl ((λ h. h.0 (begins_got (bytes "$$$$") l u)), refl, refl))) λ u.
    go (λ h. never_both (begins (bytes "$$$$") l) (rw h.1 (begins_is (bytes "$$$$") h.0)) u) (header_of l) refl
  where
    go : ¬ Begins l "$$$$" → (h : HeaderRead) → header_of l ≡ h → Tells (value_or_blank l) (not_header h)
    go n (named name) e = T.refusal (inl ((λ h. h.1 (a_header l w.allowed e)), refl, refl))
    go n none e = T.value ((n, no_header l w.allowed e), tt)
