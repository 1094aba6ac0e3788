-- What the code finds at a position, what it does there, and that this is the action of the definition.
use Rattle.std.specs.Prelude.{is_ok, Result, Ok, Err, Option, Some, None, ℕ, suc, ◌-◌, ◌≤◌, ◌<◌, ◌≡◌, List, ◌∷◌, map, Bool, cond, ◌&&◌, eqb, leb, length, get_or, take, drop}
use Rattle.std.proofs.Common.{arith, ap₂, ◌∙◌, eq-eqb, ne_eqb}
use Rattle.std.proofs.Math.Path.{refl, sym, ap, subst}
use Rattle.std.proofs.Math.Bool.{true, false}
use Rattle.text.specs.Text.{Bytes, Line, CR}
use Rattle.text.specs.Find.{line_at, is_blank}
use Rattle.text.specs.Cut.{ended}
use Rattle.text.specs.declared.LineAt.{LineAt}
use Rattle.rules.specs.Record.{Raw, Molecule, Item}
use Rattle.judge_line.specs.Got.{Got, got, bad, need}
use Rattle.text.specs.Find.{bad_column}
use Rattle.judge_line.specs.Field.{within, none_found}
use Rattle.judge_line.specs.Agree.{within_got, within_is}
use Rattle.judge_line.specs.Judge.{item_of}
use Rattle.line_text.specs.Answer.{item_got}
use Rattle.line_text.specs.declared.ItemLine.{ItemLine}
use Rattle.judge_file.specs.Place as J
use Rattle.judge_file.specs.Place.{first, second, third, counts, atoms, bonds, properties, over, items, values}
use Rattle.reader_places.specs.declared.Place.{Place}
use Rattle.reader_places.specs.declared.Place.TheVariants as P
use Rattle.judge_line.specs.declared.Refusal.{Refusal}
use Rattle.reader_places.specs.Places.{line_got}
use Rattle.reader_walk.specs.Stands.{place_of}
use Rattle.mend_rules.specs.Mend.{keep, put, lose, found, item_line, all_blank, some, action_at}
use Rattle.mend_rules.specs.Text.{pieces}
use Rattle.mend_rules.specs.Pieces.{PieceIs, ended_piece, open_cr, open_plain, no_piece}
use Rattle.mend_judge.specs.declared.Judge.{Judge}
use Rattle.mend_judge.specs.Standing.{Standing}
use Rattle.mend_lines.specs.declared.Piece.{Piece}
use Rattle.mend_lines.specs.declared.Deed.{Deed}
use Rattle.mend_lines.specs.declared.Deed.TheVariants as D

abbrev pub PieceAt : Bytes → ℕ → Piece → Type 0
PieceAt s at p = PieceIs s at p.end p.next p.missing

-- only blank lines from a position on
unfoldable pub blank_from : Bytes → ℕ → Bool
blank_from s at = all_blank (map ended (pieces (drop at s)))

-- ---- What is done

unfoldable pub at_header : ℕ → Bool → Bool → Deed
at_header owed some blank = cond (eqb owed 3) (cond (some && blank) D.Tail D.Keep) D.Keep

unfoldable pub at_items : Line → Deed
at_items l = cond (is_blank l) D.Drop D.Keep

unfoldable pub at_values : Line → Deed
at_values l = cond (item_line l) D.Put D.Keep

unfoldable pub deed_in : Place → Bool → Bool → Line → Deed
deed_in (P.Header owed) some blank l = at_header owed some blank
deed_in P.Counts some blank l = D.Keep
deed_in (P.Atoms owed) some blank l = D.Keep
deed_in (P.Bonds owed) some blank l = D.Keep
deed_in P.Properties some blank l = D.Keep
deed_in P.Over some blank l = D.Keep
deed_in P.Items some blank l = at_items l
deed_in P.Values some blank l = at_values l

unfoldable pub deed_at : Judge → Bool → Bool → Line → Deed
deed_at j tail blank l = cond tail D.Drop (deed_in j.reader.place j.some blank l)

-- ---- Laws for the code

pub piece_cr : (s : Bytes) (at : ℕ) → at < length s → line_at s at ≡ LineAt.Unfinished → get_or s (length s - 1) 0 ≡ CR →
    PieceAt s at (record { end = length s - 1; next = length s; missing = true })
piece_cr s at h l e = open_cr s at l h e

pub piece_plain : (s : Bytes) (at : ℕ) → at < length s → line_at s at ≡ LineAt.Unfinished → (get_or s (length s - 1) 0 ≡ CR → ⊥) →
    PieceAt s at (record { end = length s; next = length s; missing = true })
piece_plain s at h l e = open_plain s at l h e

pub piece_line : (s : Bytes) (at e n : ℕ) (x : LineAt) → x ≡ line_at s at → x ≡ LineAt.Line e n → PieceAt s at (record { end = e; next = n; missing = false })
piece_line s at e n x h q = ended_piece s at e n (sym h ∙ q)

pub piece_open : (s : Bytes) (at : ℕ) (x : LineAt) → x ≡ line_at s at → x ≡ LineAt.Unfinished → line_at s at ≡ LineAt.Unfinished
piece_open s at x h q = sym h ∙ q

module _ (s : Bytes) (at : ℕ) (p : Piece) (g : PieceAt s at p) where
  pub piece_end : p.end ≤ length s
  piece_end = omega (arith, g.end, g.within)

  pub piece_less : at < p.next
  piece_less = g.more

pub ruleset piece_laws = (piece_cr, piece_plain, piece_line, piece_open)

-- ---- The scan for blank lines

pub record Scanning (s : Bytes) (at i : ℕ) : Type 0 where
  pub same : blank_from s at ≡ blank_from s i

pub scan_start : (s : Bytes) (at : ℕ) → Scanning s at at
scan_start s at = record { same = refl }

module _ (s : Bytes) (at i : ℕ) (g : Scanning s at i) where
  pub scan_end : length s ≤ i → true ≡ blank_from s at
  unfolding blank_from all_blank
  scan_end h = sym (g.same ∙ rw (no_piece s i h))

  module _ (p : Piece) (q : PieceAt s i p) (b : Bool) (e : b ≡ is_blank (take (p.end - i) (drop i s))) where
    line_blank : is_blank (ended q.raw) ≡ b
    line_blank = rw q.line (sym e)

    one : blank_from s i ≡ (b && blank_from s p.next)
    unfolding blank_from all_blank
    one = rw (q.is, line_blank)

    pub scan_next : b ≡ true → Scanning s at p.next
    scan_next h = record { same = g.same ∙ one ∙ rw h }

    pub scan_stop : b ≡ false → false ≡ blank_from s at
    scan_stop h = sym (g.same ∙ one ∙ rw h)

pub scan_less : (s : Bytes) (i : ℕ) (p : Piece) → PieceAt s i p → i < length s → length s - p.next < length s - i
scan_less s i p q h = omega (arith, q.more, q.within)

pub ruleset scan_laws = (scan_start, scan_end, scan_next, scan_stop, scan_less, piece_end)

-- ---- A data header or a `$$$$` line

module _ (l : Line) (x : Result ItemLine Refusal) (e : item_got l x ≡ item_of l) where
  pub item_title : (from to : ℕ) → x ≡ Ok (ItemLine.Title from to) → true ≡ found (item_of l)
  item_title from to h = ap found (ap (item_got l) (sym h) ∙ e)

  pub item_close : x ≡ Ok ItemLine.Close → true ≡ found (item_of l)
  item_close h = ap found (ap (item_got l) (sym h) ∙ e)

  pub item_bad : (r : Refusal) → x ≡ Err r → false ≡ found (item_of l)
  item_bad r h = ap found (ap (item_got l) (sym h) ∙ e)

  pub item_ok : is_ok x ≡ found (item_of l)
  item_ok = go x refl
    where
      go : (y : Result ItemLine Refusal) → x ≡ y → is_ok y ≡ found (item_of l)
      go (Ok (ItemLine.Title from to)) h = item_title from to h
      go (Ok ItemLine.Close) h = item_close h
      go (Err r) h = item_bad r h

-- what is refused by its length or bytes is so whatever it would stand for
within_bad : {A B : Type 0} (longest : ℕ) (l : Line) (a : A) (y : Got B) (n c : ℕ) → within longest l (got a) ≡ bad n c → within longest l y ≡ bad n c
unfolding within need
within_bad {A} {B} longest l a y n c h = go (leb (length l) longest) (bad_column l) h
  where
    go : (t : Bool) (f : Option ℕ) → need t 3 (suc longest) (none_found 4 f (got a)) ≡ bad n c → need t 3 (suc longest) (none_found 4 f y) ≡ bad n c
    go true (Some k) h = cc
    go true None h = absurd (let z : ◌≡◌ {A = ℕ} 0 1 = cc in omega arith)
    go false f h = cc

module _ (l : Line) (x : Result (Unit {0}) Refusal) (e : line_got l x ≡ within 80 l (got l)) where
  pub line_good : (r : Bool) → x ≡ Ok tt → r ≡ found (item_of l) → r ≡ item_line l
  unfolding item_line
  line_good r h q = q ∙ ap found (sym (within_is 80 l (item_of l) (within_got 80 l (got l) l (sym e ∙ ap (line_got l) h)).0))

  pub line_bad : (r : Refusal) → x ≡ Err r → false ≡ item_line l
  unfolding item_line
  line_bad r h = sym (ap found (within_bad 80 l l (item_of l) r.no r.column (sym e ∙ ap (line_got l) h)))

pub ruleset line_laws = (line_good, line_bad)

-- ---- What is done, by the tests

module _ (owed : ℕ) (some blank : Bool) where
  pub header_other : (owed ≡ 3 → ⊥) → D.Keep ≡ at_header owed some blank
  unfolding at_header
  header_other h = rw (ne_eqb owed 3 h)

  pub header_tail : owed ≡ 3 → some ≡ true → (r : Bool) → r ≡ blank → r ≡ true → D.Tail ≡ at_header owed some blank
  unfolding at_header
  header_tail h s r e t = rw (eq-eqb owed 3 h, s, sym e ∙ t)

  pub header_inked : owed ≡ 3 → some ≡ true → (r : Bool) → r ≡ blank → r ≡ false → D.Keep ≡ at_header owed some blank
  unfolding at_header
  header_inked h s r e t = rw (eq-eqb owed 3 h, s, sym e ∙ t)

  pub header_first : owed ≡ 3 → some ≡ false → D.Keep ≡ at_header owed some blank
  unfolding at_header
  header_first h s = rw (eq-eqb owed 3 h, s)

module _ (l : Line) (r : Bool) where
  pub items_blank : r ≡ is_blank l → r ≡ true → D.Drop ≡ at_items l
  unfolding at_items
  items_blank e h = rw (sym e ∙ h)

  pub items_inked : r ≡ is_blank l → r ≡ false → D.Keep ≡ at_items l
  unfolding at_items
  items_inked e h = rw (sym e ∙ h)

  pub values_item : r ≡ item_line l → r ≡ true → D.Put ≡ at_values l
  unfolding at_values
  values_item e h = rw (sym e ∙ h)

  pub values_other : r ≡ item_line l → r ≡ false → D.Keep ≡ at_values l
  unfolding at_values
  values_other e h = rw (sym e ∙ h)

module _ (p : Place) (some blank : Bool) (l : Line) where
  pub in_header : (owed : ℕ) (r : Deed) → p ≡ P.Header owed → r ≡ at_header owed some blank → r ≡ deed_in p some blank l
  unfolding deed_in
  in_header owed r h e = e ∙ rw h

  pub in_counts : p ≡ P.Counts → D.Keep ≡ deed_in p some blank l
  unfolding deed_in
  in_counts h = rw h

  pub in_atoms : (owed : ℕ) → p ≡ P.Atoms owed → D.Keep ≡ deed_in p some blank l
  unfolding deed_in
  in_atoms owed h = rw h

  pub in_bonds : (owed : ℕ) → p ≡ P.Bonds owed → D.Keep ≡ deed_in p some blank l
  unfolding deed_in
  in_bonds owed h = rw h

  pub in_properties : p ≡ P.Properties → D.Keep ≡ deed_in p some blank l
  unfolding deed_in
  in_properties h = rw h

  pub in_over : p ≡ P.Over → D.Keep ≡ deed_in p some blank l
  unfolding deed_in
  in_over h = rw h

  pub in_items_lem : (r : Deed) → p ≡ P.Items → r ≡ at_items l → r ≡ deed_in p some blank l
  unfolding deed_in
  in_items_lem r h e = e ∙ rw h

  pub in_values : (r : Deed) → p ≡ P.Values → r ≡ at_values l → r ≡ deed_in p some blank l
  unfolding deed_in
  in_values r h e = e ∙ rw h

module _ (j : Judge) (tail blank : Bool) (l : Line) where
  pub at_tail : tail ≡ true → D.Drop ≡ deed_at j tail blank l
  unfolding deed_at
  at_tail h = rw h

  pub at_place : (r : Deed) → tail ≡ false → r ≡ deed_in j.reader.place j.some blank l → r ≡ deed_at j tail blank l
  unfolding deed_at
  at_place r h e = e ∙ rw h

pub ruleset deed_laws = (
  header_other,
  header_tail,
  header_inked,
  header_first,
  items_blank,
  items_inked,
  values_item,
  values_other,
  in_header,
  in_counts,
  in_atoms,
  in_bonds,
  in_properties,
  in_over,
  in_items_lem,
  in_values,
  at_tail,
  at_place,
)

-- ---- It is the action of the definition

-- in the tail of blank lines the judge is where a record may begin, after some
pub record Tailed (p : J.Place) (xs : List Raw) (blank : Bool) : Type 0 where
  pub start : p ≡ first
  pub before : some xs ≡ true
  pub blanks : blank ≡ true

-- what a deed says of the definition's action on the line and those after it
abbrev pub Means : J.Place → List Raw → Line → List Line → Bool → Deed → Type 0
Means p xs l ls blank D.Keep = action_at p xs l ls ≡ keep
Means p xs l ls blank D.Put = action_at p xs l ls ≡ put
Means p xs l ls blank D.Drop = action_at p xs l ls ≡ lose
Means p xs l ls blank D.Tail = Tailed p xs blank

module _ (xs : List Raw) (l : Line) (ls : List Line) where
  at_first : Means first xs l ls (all_blank (l ∷ ls)) (at_header 3 (some xs) (all_blank (l ∷ ls)))
  unfolding at_header action_at
  at_first = go (some xs) refl (all_blank (l ∷ ls)) refl
    where
      go : (a : Bool) → some xs ≡ a → (b : Bool) → all_blank (l ∷ ls) ≡ b → Means first xs l ls b (cond (a && b) D.Tail D.Keep)
      go true e true f = record { start = refl; before = e; blanks = refl }
      go true e false f = rw (e, f)
      go false e b f = rw e

  at_item : (m : Molecule) (is : List Item) → Means (items m is) xs l ls (all_blank (l ∷ ls)) (at_items l)
  unfolding at_items action_at
  at_item m is = go (is_blank l) refl
    where
      go : (a : Bool) → is_blank l ≡ a → Means (items m is) xs l ls (all_blank (l ∷ ls)) (cond a D.Drop D.Keep)
      go true e = rw e
      go false e = rw e

  at_value : (m : Molecule) (is : List Item) (name : Bytes) (vs : List Line) → Means (values m is name vs) xs l ls (all_blank (l ∷ ls)) (at_values l)
  unfolding at_values action_at
  at_value m is name vs = go (item_line l) refl
    where
      go : (a : Bool) → item_line l ≡ a → Means (values m is name vs) xs l ls (all_blank (l ∷ ls)) (cond a D.Put D.Keep)
      go true e = rw e
      go false e = rw e

  means_in : (p : J.Place) → Means p xs l ls (all_blank (l ∷ ls)) (deed_in (place_of p) (some xs) (all_blank (l ∷ ls)) l)
  unfolding deed_in action_at at_header
  means_in first = at_first
  means_in (second h₁) = refl
  means_in (third h₁ h₂) = refl
  means_in (counts hs) = refl
  means_in (atoms hs c k ys) = refl
  means_in (bonds hs c ys k bs) = refl
  means_in (properties hs c ys bs ps) = refl
  means_in (over m) = refl
  means_in (items m is) = at_item m is
  means_in (values m is name vs) = at_value m is name vs

  tail_drops : (p : J.Place) → Tailed p xs (all_blank (l ∷ ls)) → action_at p xs l ls ≡ lose
  unfolding action_at
  tail_drops p g = rw (g.start, g.before, g.blanks)

  pub means : (j : Judge) (t keys : List ℕ) (p : J.Place) → Standing j t keys p xs → (tail : Bool) → (tail ≡ true → Tailed p xs (all_blank (l ∷ ls))) →
      Means p xs l ls (all_blank (l ∷ ls)) (deed_at j tail (all_blank (l ∷ ls)) l)
  unfolding deed_at
  means j t keys p st true f = tail_drops p (f refl)
  means j t keys p st false f =
      subst (λ (x : Deed). Means p xs l ls (all_blank (l ∷ ls)) x)
      (sym (ap₂ (λ (q : Place) (b : Bool). deed_in q b (all_blank (l ∷ ls)) l) st.stands.place st.before))
      (means_in p)
