-- Laws on tags: a line that begins with one, and a line that contains one.
use Prim.Native.Nat.{ℕ, suc, ◌+◌, ◌-◌, ◌≤◌, ◌<◌}
use native.Mathlib.Numerals.{add-one}
use mathlib.Core.Path.{◌≡◌, refl, sym, ap, ◌∙◌}
use mathlib.Core.List.{[], ◌∷◌}
use mathlib.Core.Bool.{Bool, true, false, ◌&&◌, ◌||◌, not, or-true}
use lib.Dec.{eqb}
use lib.ListN.{length, get_or, take, drop, drop_of_length-le}
use lib.Seq.{drop-cons}
use borrow.Author.Tests.{ne_eqb, not-true}
use Rattle.text.specs.Text.{Bytes, Line, bytes}
use Rattle.text.specs.Columns.{columns_for}
use Rattle.text.specs.Find.{same_bytes, has_text, is_blank}
use Rattle.text.specs.Agree.{columns_after}
use Rattle.text.specs.Laws.{and_true, eqb_turn, tail_is, true_false, false_true}
use Rattle.judge_line.specs.Got.{got, bad, need}
use Rattle.judge_line.specs.Judge.{begins, contains, reserved, first_header_of}
use Rattle.line_text.specs.HeaderParts.{spaceless, tagged}

-- ---- the text at the start of a line

-- a text without spaces: columns past the end, which read as spaces, are none of it
pub has_begins : (t l : Bytes) → spaceless t ≡ true → has_text l 1 t ≡ begins t l
unfolding has_text same_bytes columns_for begins
has_begins [] l s = refl
has_begins (t ∷ ts) [] s =
    let p = and_true (not (eqb 32 t)) (spaceless ts) s in
    rw (not-true (eqb 32 t) p.0)
has_begins (t ∷ ts) (b ∷ l) s =
    let p = and_true (not (eqb 32 t)) (spaceless ts) s in
    rw (columns_after (b ∷ []) l 0 (length ts), eqb_turn b t) (ap (λ (x : Bool). eqb t b && x) (has_begins ts l p.1))

pub begins_got : (t l : Bytes) (r : Bool) → spaceless t ≡ true → r ≡ has_text l 1 t → r ≡ begins t l
begins_got t l r s e = e ∙ has_begins t l s

-- ---- the rest of a line, from a position on

pub blank_tail : (l : Line) (i : ℕ) (r : Bool) → r ≡ is_blank (take (length l - i) (drop i l)) → r ≡ is_blank (drop i l)
blank_tail l i r e = e ∙ ap is_blank (tail_is l i)

-- ---- one of the reserved tags at the start

module _ (l : Line) where
  pub tagged_first : (a : Bool) → a ≡ begins (bytes "$$$$") l → a ≡ true → true ≡ tagged l
  unfolding tagged
  tagged_first a e h = sym (rw (sym e ∙ h))

  pub tagged_second : (a b : Bool) → a ≡ begins (bytes "$$$$") l → a ≡ false → b ≡ begins (bytes "$MDL") l → b ≡ true → true ≡ tagged l
  unfolding tagged
  tagged_second a b e h f k = sym (rw (sym e ∙ h, sym f ∙ k))

  pub tagged_third : (a b c : Bool) → a ≡ begins (bytes "$$$$") l → a ≡ false → b ≡ begins (bytes "$MDL") l → b ≡ false →
      c ≡ begins (bytes "$RXN") l → c ≡ true → true ≡ tagged l
  unfolding tagged
  tagged_third a b c e h f k g m = sym (rw (sym e ∙ h, sym f ∙ k, sym g ∙ m))

  pub tagged_last : (a b c d : Bool) → a ≡ begins (bytes "$$$$") l → a ≡ false → b ≡ begins (bytes "$MDL") l → b ≡ false →
      c ≡ begins (bytes "$RXN") l → c ≡ false → d ≡ begins (bytes "$RDFILE") l → d ≡ tagged l
  unfolding tagged
  tagged_last a b c d e h f k g m n = n ∙ sym (rw (sym e ∙ h, sym f ∙ k, sym g ∙ m))

-- every tag starts with `$`
pub tag_other : (l : Line) (i : ℕ) → i < length l → (get_or l i 0 ≡ 36 → ⊥) → false ≡ tagged (drop i l)
unfolding tagged begins
tag_other l i h n = sym (rw (drop-cons l i 0 h, ne_eqb 36 (get_or l i 0) (λ e. n (sym e))))

pub tag_tail : (l : Line) (i : ℕ) (r : Bool) → r ≡ tagged (take (length l - i) (drop i l)) → r ≡ tagged (drop i l)
tag_tail l i r e = e ∙ ap tagged (tail_is l i)

pub ruleset tagged_laws = (tagged_first, tagged_second, tagged_third, tagged_last)

-- ---- a reserved tag anywhere

any_pass : (a b c d w x y z : Bool) → (a || (b || (c || d))) ≡ false → ((a || w) || ((b || x) || ((c || y) || (d || z)))) ≡ (w || (x || (y || z)))
any_pass true b c d w x y z h = true_false h
any_pass false true c d w x y z h = true_false h
any_pass false false true d w x y z h = true_false h
any_pass false false false true w x y z h = true_false h
any_pass false false false false w x y z h = refl

any_hit : (a b c d w x y z : Bool) → (a || (b || (c || d))) ≡ true → ((a || w) || ((b || x) || ((c || y) || (d || z)))) ≡ true
any_hit true b c d w x y z h = refl
any_hit false true c d w x y z h = or-true w
any_hit false false true d w x y z h = rw (or-true x) (or-true w)
any_hit false false false true w x y z h = rw (or-true y, or-true x) (or-true w)
any_hit false false false false w x y z h = false_true h

-- none of the tags starts before position i
unfoldable pub Untagged : Line → ℕ → Type 0
Untagged l i = reserved l ≡ reserved (drop i l)

pub untagged_start : (l : Line) → Untagged l 0
unfolding Untagged
untagged_start l = refl

module _ (b : ℕ) (l : Line) where
  reserved_pass : tagged (b ∷ l) ≡ false → reserved (b ∷ l) ≡ reserved l
  unfolding tagged contains
  reserved_pass h =
      any_pass (begins (bytes "$$$$") (b ∷ l)) (begins (bytes "$MDL") (b ∷ l)) (begins (bytes "$RXN") (b ∷ l)) (begins (bytes "$RDFILE") (b ∷ l))
      (contains (bytes "$$$$") l) (contains (bytes "$MDL") l) (contains (bytes "$RXN") l) (contains (bytes "$RDFILE") l) h

  reserved_hit : tagged (b ∷ l) ≡ true → reserved (b ∷ l) ≡ true
  unfolding tagged contains
  reserved_hit h =
      any_hit (begins (bytes "$$$$") (b ∷ l)) (begins (bytes "$MDL") (b ∷ l)) (begins (bytes "$RXN") (b ∷ l)) (begins (bytes "$RDFILE") (b ∷ l))
      (contains (bytes "$$$$") l) (contains (bytes "$MDL") l) (contains (bytes "$RXN") l) (contains (bytes "$RDFILE") l) h

module _ (l : Line) (i : ℕ) (r : Bool) where
  pub untagged_next : Untagged l i → i < length l → r ≡ tagged (drop i l) → r ≡ false → Untagged l (i + 1)
  unfolding Untagged
  untagged_next u h e f =
      let t : tagged (drop i l) ≡ false = sym e ∙ f in
      let d = drop-cons l i 0 h in
      rw (add-one i) (u ∙ rw d (reserved_pass (get_or l i 0) (drop (suc i) l) (rw d at t)))

  pub untagged_hit : Untagged l i → i < length l → r ≡ tagged (drop i l) → r ≡ true → bad 5 1 ≡ first_header_of l
  unfolding Untagged first_header_of need
  untagged_hit u h e f =
      let t : tagged (drop i l) ≡ true = sym e ∙ f in
      let d = drop-cons l i 0 h in
      let v : reserved l ≡ true = u ∙ rw d (reserved_hit (get_or l i 0) (drop (suc i) l) (rw d at t)) in
      sym (rw v)

pub untagged_end : (l : Line) (i : ℕ) → Untagged l i → length l ≤ i → got l ≡ first_header_of l
unfolding Untagged contains begins first_header_of need
untagged_end l i u h =
    let e : reserved l ≡ false = u ∙ rw (drop_of_length-le l h) in
    sym (rw e)

pub ruleset untagged_laws = (untagged_start, untagged_next, untagged_hit, untagged_end)
