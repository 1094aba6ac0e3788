-- Which lines the judge takes at each place, said by the forms of lines, and that its turns are these.
use Rattle.std.specs.Prelude.{ℕ, ◌≡◌, []}
use Rattle.std.proofs.Math.Path.{refl}
use Rattle.std.proofs.Common.{ap, ◌∙◌, subst}
use Rattle.std.proofs.Math.Bool.{not}
use Rattle.std.proofs.lemmas.Bool.{not-true}
use Rattle.text.specs.Text.{Line}
use Rattle.text.specs.Columns.{Within}
use Rattle.judge_pairs.specs.Taken.{pair_taken}
use Rattle.judge_pairs.proofs.Agree.{taken_no}
use Rattle.judge_line.specs.Got.{Got, got}
use Rattle.judge_line.specs.Judge.{first_header_of, counts_of, atom_of, bond_of, property_of, item_of, value_of}
use Rattle.judge_line.specs.Judge.{PropertyOrEnd, property, last, ItemOrEnd, title, close, ValueOrBlank, value, blank}
use Rattle.judge_line.specs.GotLaws.{got_inj, bad_got, then_got, then_is, need_got, need_is}
use Rattle.judge_line.specs.Agree.{within_got, within_is}
use Rattle.judge_line.proofs.Agree.{header_agrees, counts_agrees, atom_agrees, bond_agrees, property_agrees, end_agrees, title_agrees, close_agrees, value_agrees}
use Rattle.judge_line.proofs.Agree.{blank_agrees}
use Rattle.judge_file.specs.Place.{FileKind, seen_in, after_property, after_item, after_value, line_of, longest, turn_of}
use Rattle.judge_file.specs.Place.{Place, first, second, third, counts, atoms, bonds, properties, over, items, values, Turn}
use Rattle.judge_file.specs.Takes.{Takes}

module _ (kind : FileKind) (limit : ℕ) where
  turn_is : (p : Place) (l : Line) (t : Turn) → Within (longest p) l → line_of kind limit p l ≡ got t → turn_of kind limit p l ≡ got t
  unfolding turn_of
  turn_is p l t w e = within_is (longest p) l (line_of kind limit p l) w ∙ e

  pub takes_turn : {p : Place} {l : Line} {t : Turn} → Takes kind limit p l t → turn_of kind limit p l ≡ got t
  unfolding line_of
  takes_turn {l = l} (Takes.first_header h) =
      turn_is first l _ h.line (then_is (first_header_of l) _ l ((header_agrees l l h.line).1 (h, refl)))
  takes_turn {l = l} (Takes.second_header {h₁ = h₁} h) = turn_is (second h₁) l _ h refl
  takes_turn {l = l} (Takes.third_header {h₁ = h₁} {h₂ = h₂} h) = turn_is (third h₁ h₂) l _ h refl
  takes_turn {l = l} (Takes.counts_line {hs = hs} {c = c} h) =
      turn_is (counts hs) l _ h.line (then_is (counts_of limit l) _ c ((counts_agrees limit l c h.line).1 h))
  takes_turn {l = l} (Takes.atom_line_lem {hs = hs} {c = c} {k = k} {xs = xs} {a = a} h) =
      turn_is (atoms hs c k xs) l _ h.line (then_is (atom_of c.atoms l) _ a ((atom_agrees c.atoms l a h.line).1 h))
  takes_turn {l = l} (Takes.bond_line_lem {hs = hs} {c = c} {xs = xs} {k = k} {bs = bs} {b = b} h new) =
      turn_is (bonds hs c xs k bs) l _ h.line
      (then_is (bond_of c.atoms l) _ b ((bond_agrees c.atoms l b h.line).1 h)
      ∙ need_is (not (pair_taken b bs)) 11 1 _ (ap not ((taken_no b bs).1 new)))
  takes_turn {l = l} (Takes.property_line {hs = hs} {c = c} {xs = xs} {bs = bs} {ps = ps} {p = p} h new) =
      turn_is (properties hs c xs bs ps) l _ h.line
      (then_is (property_of c.atoms (seen_in ps) l) _ (property p) ((property_agrees c.atoms (seen_in ps) l p h.line).1 (h, new)))
  takes_turn {l = l} (Takes.end_line {hs = hs} {c = c} {xs = xs} {bs = bs} {ps = ps} h) =
      turn_is (properties hs c xs bs ps) l _ h.line
      (then_is (property_of c.atoms (seen_in ps) l) _ last ((end_agrees c.atoms (seen_in ps) l h.line).1 h))
  takes_turn {l = l} (Takes.data_header {m = m} {is = is} {name = name} h) =
      turn_is (items m is) l _ h.line (then_is (item_of l) _ (title name) ((title_agrees l name h.line).1 h))
  takes_turn {l = l} (Takes.record_end {m = m} {is = is} h) =
      turn_is (items m is) l _ h.line (then_is (item_of l) _ close ((close_agrees l h.line).1 h))
  takes_turn {l = l} (Takes.value_line {m = m} {is = is} {name = name} {vs = vs} h) =
      turn_is (values m is name vs) l _ h.line (then_is (value_of l) _ value ((value_agrees l h.line).1 h))
  takes_turn {l = l} (Takes.blank_line {m = m} {is = is} {name = name} {vs = vs} h) =
      turn_is (values m is name vs) l _ h.line (then_is (value_of l) _ blank ((blank_agrees l h.line).1 h))

  -- the turn that was found
  found : (p : Place) (l : Line) {s t : Turn} → ◌≡◌ {A = Got Turn} (got s) (got t) → Takes kind limit p l s → Takes kind limit p l t
  found p l e h = subst (Takes kind limit p l) (got_inj e) h

  -- a line of good length and bytes
  takes_line : (p : Place) (l : Line) (t : Turn) → Within (longest p) l → line_of kind limit p l ≡ got t → Takes kind limit p l t
  unfolding line_of
  takes_line first l t w e =
      let r = then_got (first_header_of l) _ t e in
      let h = (header_agrees l r.0 w).0 r.1 in
      found first l (rw (← h.1) r.2) (Takes.first_header h.0)
  takes_line (second h₁) l t w e = found (second h₁) l e (Takes.second_header w)
  takes_line (third h₁ h₂) l t w e = found (third h₁ h₂) l e (Takes.third_header w)
  takes_line (counts hs) l t w e =
      let r = then_got (counts_of limit l) _ t e in
      found (counts hs) l r.2 (Takes.counts_line ((counts_agrees limit l r.0 w).0 r.1))
  takes_line (atoms hs c k xs) l t w e =
      let r = then_got (atom_of c.atoms l) _ t e in
      found (atoms hs c k xs) l r.2 (Takes.atom_line_lem ((atom_agrees c.atoms l r.0 w).0 r.1))
  takes_line (bonds hs c xs k bs) l t w e =
      let r = then_got (bond_of c.atoms l) _ t e in
      let n = need_got (not (pair_taken r.0 bs)) 11 1 _ t r.2 in
      found (bonds hs c xs k bs) l n.1
      (Takes.bond_line_lem ((bond_agrees c.atoms l r.0 w).0 r.1) ((taken_no r.0 bs).0 (not-true (pair_taken r.0 bs) n.0)))
  takes_line (properties hs c xs bs ps) l t w e =
      let r = then_got (property_of c.atoms (seen_in ps) l) _ t e in
      go r.0 r.1 r.2
    where
      go : (p : PropertyOrEnd) → property_of c.atoms (seen_in ps) l ≡ got p → got (after_property kind hs c xs bs ps p) ≡ got t →
          Takes kind limit (properties hs c xs bs ps) l t
      go (property p) h e =
          let q = (property_agrees c.atoms (seen_in ps) l p w).0 h in
          found (properties hs c xs bs ps) l e (Takes.property_line q.0 q.1)
      go last h e = found (properties hs c xs bs ps) l e (Takes.end_line ((end_agrees c.atoms (seen_in ps) l w).0 h))
  takes_line (over m) l t w e = bad_got e
  takes_line (items m is) l t w e =
      let r = then_got (item_of l) _ t e in
      go r.0 r.1 r.2
    where
      go : (i : ItemOrEnd) → item_of l ≡ got i → got (after_item m is i) ≡ got t → Takes kind limit (items m is) l t
      go (title name) h e = found (items m is) l e (Takes.data_header ((title_agrees l name w).0 h))
      go close h e = found (items m is) l e (Takes.record_end ((close_agrees l w).0 h))
  takes_line (values m is name vs) l t w e =
      let r = then_got (value_of l) _ t e in
      go r.0 r.1 r.2
    where
      go : (v : ValueOrBlank) → value_of l ≡ got v → got (after_value m is name vs l v) ≡ got t → Takes kind limit (values m is name vs) l t
      go value h e = found (values m is name vs) l e (Takes.value_line ((value_agrees l w).0 h))
      go blank h e = found (values m is name vs) l e (Takes.blank_line ((blank_agrees l w).0 h))

  pub turn_takes : (p : Place) (l : Line) (t : Turn) → turn_of kind limit p l ≡ got t → Takes kind limit p l t
  unfolding turn_of
  turn_takes p l t e = let r = within_got (longest p) l (line_of kind limit p l) t e in takes_line p l t r.0 r.1
