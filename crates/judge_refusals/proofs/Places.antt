-- At every place the judge refuses a line exactly as the table says, and takes it exactly where all demands hold.
use Rattle.std.specs.Prelude.{ℕ, ◌≡◌, ◌↔◌, List, [], ◌∷◌, map, not}
use Rattle.std.proofs.Math.Path.{refl}
use Rattle.std.proofs.Common.{sym, ◌∙◌, subst, inl, inr}
use Rattle.std.proofs.lemmas.Bool.{not-true, not-false}
use Rattle.text.specs.Text.{Line}
use Rattle.text.specs.Columns.{Within}
use Rattle.text.specs.Laws.{true_false}
use Rattle.rules.specs.Forms.{Bond, Entry}
use Rattle.rules.specs.Record.{NewPair, listed}
use Rattle.judge_pairs.specs.Taken.{pair_taken}
use Rattle.judge_pairs.proofs.Agree.{taken_no}
use Rattle.judge_line.specs.Got.{got, bad, need}
use Rattle.judge_line.specs.GotLaws.{got_inj}
use Rattle.judge_line.specs.Judge.{bond_of}
use Rattle.judge_line.specs.Agree.{NewEntries}
use Rattle.judge_line.proofs.Agree.{bond_agrees}
use Rattle.judge_file.specs.Place.{FileKind, sdfile, Place, first, second, third, counts, atoms, bonds, properties, over, items, values, Turn, line_of, turn_of}
use Rattle.judge_file.specs.Takes.{Takes}
use Rattle.judge_file.proofs.Takes.{takes_turn, turn_takes}
use Rattle.judge_refusals.specs.Demand.{All, Refused, Some}
use Rattle.judge_refusals.specs.Refusals.{new_pair}
use Rattle.judge_refusals.specs.Demands.{demands}
use Rattle.judge_refusals.specs.Tells as T
use Rattle.judge_refusals.specs.Tells.{Tells, then_tells, then_last, need_tells, tells_bad, tells_got, not_both}
use Rattle.judge_refusals.proofs.Fields.{within_tells, within_last}
use Rattle.judge_refusals.specs.Lines.{header_tells, atom_tells, bond_tells}
use Rattle.judge_refusals.proofs.Lines.{counts_tells}
use Rattle.judge_refusals.specs.Lists.{seen_agrees, item_tells, value_tells}
use Rattle.judge_refusals.proofs.Lists.{property_tells}
use Rattle.judge_refusals.specs.Places.{AllNew, Form}

-- the bond of the line, beside those before it
pair_tells : {A : Type 0} (n : ℕ) (bs : List Bond) (l : Line) (w : Within 80 l) (b : Bond) (a : A) → bond_of n l ≡ got b →
    Tells (new_pair n bs l) (need (not (pair_taken b bs)) 11 1 (got a))
pair_tells n bs l w b a e =
    need_tells (not (pair_taken b bs)) (λ t. (b, ((bond_agrees n l b w).0 e, (taken_no b bs).0 (not-true (pair_taken b bs) t))))
    (λ t d.
    let same : d.0 ≡ b = got_inj (sym ((bond_agrees n l d.0 w).1 d.1.0) ∙ e) in
    let new = subst (λ (x : Bond). NewPair x bs) same d.1.1 in
    true_false (sym (not-false (pair_taken b bs) t) ∙ (taken_no b bs).1 new)) λ t. T.value tt

module _ (kind : FileKind) (limit : ℕ) where
  pub turn_tells : (p : Place) (l : Line) → Tells (demands limit p l) (turn_of kind limit p l)
  unfolding turn_of line_of demands
  turn_tells first l = within_tells l 80 λ w. then_last _ (header_tells l w)
  turn_tells (second h₁) l = within_last l _ 80
  turn_tells (third h₁ h₂) l = within_last l _ 80
  turn_tells (counts hs) l = within_tells l 80 λ w. then_last _ (counts_tells limit l w)
  turn_tells (atoms hs c k xs) l = within_tells l 80 λ w. then_last _ (atom_tells c.atoms l w)
  turn_tells (bonds hs c xs k bs) l = within_tells l 80 λ w. then_tells (bond_tells c.atoms l w) λ b e. pair_tells c.atoms bs l w b _ e
  turn_tells (properties hs c xs bs ps) l = within_tells l 80 λ w. then_last _ (property_tells c.atoms ps l w)
  turn_tells (over m) l = within_tells l 80 λ w. T.refusal (inl ((λ h. h), refl, refl))
  turn_tells (items m is) l = within_tells l 80 λ w. then_last _ (item_tells l w)
  turn_tells (values m is name vs) l = within_tells l 200 λ w. then_last _ (value_tells l w)

  -- the refusals of the judge are those of the table
  pub refused_because : (p : Place) (l : Line) (e c : ℕ) → (turn_of kind limit p l ≡ bad e c) ↔ Refused (demands limit p l) e c
  refused_because p l e c = tells_bad e c (turn_tells p l)

  -- and a line is of a form that may stand at the place exactly where all demands of the table hold
  pub taken_if : (p : Place) (l : Line) → (Some λ t. Takes kind limit p l t) ↔ All (demands limit p l)
  taken_if p l =
      let g = tells_got (turn_tells p l) in
      (λ t. g.0 (t.0, takes_turn kind limit t.1), λ a. let t = g.1 a in (t.0, turn_takes kind limit p l t.0 t.1))

-- ---- The rules' own form of a line is that all its demands hold

-- the judge keeps the atoms alone
new_seen : (before es : List Entry) → AllNew before es → NewEntries (map (λ e. e.atom) before) es
unfolding AllNew NewEntries
new_seen before [] n = tt
new_seen before (e ∷ es) n = ((seen_agrees before e.atom).1 n.0, new_seen (e ∷ before) es n.1)

seen_new : (before es : List Entry) → NewEntries (map (λ e. e.atom) before) es → AllNew before es
unfolding AllNew NewEntries
seen_new before [] n = tt
seen_new before (e ∷ es) n = ((seen_agrees before e.atom).0 n.0, seen_new (e ∷ before) es n.1)

module _ (kind : FileKind) (limit : ℕ) where
  form_taken : (p : Place) (l : Line) → Form limit p l → Some λ t. Takes kind limit p l t
  form_taken first l f = (_, Takes.first_header f)
  form_taken (second h₁) l f = (_, Takes.second_header f)
  form_taken (third h₁ h₂) l f = (_, Takes.third_header f)
  form_taken (counts hs) l f = (_, Takes.counts_line f.1)
  form_taken (atoms hs c k xs) l f = (_, Takes.atom_line_lem f.1)
  form_taken (bonds hs c xs k bs) l f = (_, Takes.bond_line_lem f.1.0 f.1.1)
  form_taken (properties hs c xs bs ps) l (inl f) = (_, Takes.property_line f.1.0 (new_seen (listed f.0.kind ps) f.0.entries f.1.1))
  form_taken (properties hs c xs bs ps) l (inr f) = (_, Takes.end_line f)
  form_taken (over m) l f = absurd f
  form_taken (items m is) l (inl f) = (_, Takes.data_header f.1)
  form_taken (items m is) l (inr f) = (_, Takes.record_end f)
  form_taken (values m is name vs) l (inl f) = (_, Takes.value_line f)
  form_taken (values m is name vs) l (inr f) = (_, Takes.blank_line f)

  taken_form : {p : Place} {l : Line} {t : Turn} → Takes kind limit p l t → Form limit p l
  taken_form (Takes.first_header h) = h
  taken_form (Takes.second_header h) = h
  taken_form (Takes.third_header h) = h
  taken_form (Takes.counts_line {c = c} h) = (c, h)
  taken_form (Takes.atom_line_lem {a = a} h) = (a, h)
  taken_form (Takes.bond_line_lem {b = b} h new) = (b, (h, new))
  taken_form (Takes.property_line {ps = ps} {p = p} h new) = inl (p, (h, seen_new (listed p.kind ps) p.entries new))
  taken_form (Takes.end_line h) = inr h
  taken_form (Takes.data_header {name = name} h) = inl (name, h)
  taken_form (Takes.record_end h) = inr h
  taken_form (Takes.value_line h) = inl h
  taken_form (Takes.blank_line h) = inr h

  -- a line is good exactly if all its demands hold, and that is the rules' form of the line
  pub form_if : (p : Place) (l : Line) → Form limit p l ↔ All (demands limit p l)
  form_if p l = (λ f. (taken_if kind limit p l).0 (form_taken p l f), λ a. let t = (taken_if kind limit p l).1 a in taken_form t.1)

pub form_not_refused : (limit : ℕ) (p : Place) (l : Line) (e c : ℕ) → Form limit p l → ¬ Refused (demands limit p l) e c
form_not_refused limit p l e c f r = not_both (demands limit p l) e c ((form_if sdfile limit p l).0 f) r
