-- From step to step: from where a record's items start, steps visit these items in their order, and end behind the record.
use Rattle.std.specs.Prelude.{Option, Some, None, ℕ, suc, ◌+◌, ◌-◌, ◌≤◌, ◌≡◌, refl, List, [], Bool, true, false, cond, leb, length, drop}
use Rattle.std.proofs.Common.{arith, sym, ap, ◌∙◌, subst, length-take, length-drop}
use Rattle.text.specs.Text.{Bytes, Line, bytes}
use Rattle.text.specs.Find.{bad_column, is_blank}
use Rattle.text.specs.Cut.{cut, line_within, few_lines}
use Rattle.rules.specs.Record.{Item, Raw, Items, Record, limit}
use Rattle.judge_line.specs.Got.{Got, got, bad, then, need}
use Rattle.judge_line.specs.Field.{none_found, within}
use Rattle.judge_line.specs.Judge.{HeaderRead, named, none, begins, header_of, title_got, is_close, close, item_of, blank, not_header, value_of}
use Rattle.judge_refusals.specs.Tells.{tells_bad}
use Rattle.judge_file.specs.Place.{sdfile}
use Rattle.judge_file.specs.WalkText.{after_lines, after_none, after_next}
use Rattle.reader_walk.specs.Outcome.{whole, outcome_of}
use Rattle.reader_walk.specs.Stands.{molecule_lines}
use Rattle.reader_item.specs.Position.{after_join, Past, past_none, past_more, past_join, past_values, past_molecule}
use Rattle.reader_item.specs.Hunting.{items_at}
use Rattle.reader_items.specs.declared.ItemAt.{ItemAt}
use Rattle.reader_items.specs.Step.{step_of}
use Rattle.reader_items.specs.Promise.{Behind, NoValues, NoItem, StepAt, Steps}
use Rattle.reader_items.specs.Titles.{header_inside, title_tells, values_tell}
use Rattle.reader_items.specs.Agree.{lines, begun, is_cut, behind_one, step_end, item_values, item_behind}
use Rattle.reader_items.proofs.Agree.{step_item, step_told_lem}
use Rattle.reader_items.specs.Stepping.{name_here, Gone, item_rest, stood, ItemWithin}

-- ---- The items

module _ (s : Bytes) where
  pub gone : (at : ℕ) {ls more : List Line} {is : List Item} → lines s at ≡ ls → Items ls is more → Gone s at is more
  gone at q (Items.end {l = l} {t = t} h) =
      let g = begun s at l t q in
      record {
        n = g.n;
        k = 1;
        steps = Steps.end (step_end s at l t g h);
        place = after_next s at g.e g.n 0 g.line ∙ after_none s g.n;
        past = subst (λ (x : List Line). Past 1 x t) (sym q) (past_more 0 l t t (past_none t));
      }
  gone at q (Items.more {l = l} {name = name} {t = t} {u = u} {r = r} {vs = vs} {is = is} h v p) =
      let g = begun s at l t q in
      let k = suc (suc (length vs)) in
      let here : Past k (lines s at) u = subst (λ (x : List Line). Past k x u) (sym q) (past_more (suc (length vs)) l t u (past_values v)) in
      let place : after_lines s at k ≡ after_lines s g.n (suc (length vs)) = after_next s at g.e g.n (suc (length vs)) g.line in
      let rest : lines s (after_lines s g.n (suc (length vs))) ≡ u = ap (lines s) (sym place) ∙ item_rest s at k u here in
      let f = gone (after_lines s g.n (suc (length vs))) rest p in
      record {
        n = f.n;
        k = k + f.k;
        steps = Steps.more (step_item s at l t g name h v) (name_here s at l name t g h) (item_values s at l t g v).values f.steps;
        place = after_join s at k f.k ∙ ap (λ (x : ℕ). after_lines s x f.k) place ∙ f.place;
        past = past_join k f.k (lines s at) u r here (subst (λ (x : List Line). Past f.k x r) rest f.past);
      }

  -- Of a text that begins with a good record: from where its items start, up to where the record ends.
  pub record_steps : (x : Raw) (k : ℕ) → outcome_of sdfile s ≡ whole x k → Steps s (after_lines s 0 (molecule_lines x.molecule)) x.items (after_lines s 0 k)
  record_steps x k h = go refl (stood s x k h).good (stood s x k h).size
    where
      go : {ls more : List Line} {y : Raw} → (cut s).lines ≡ ls → Record limit ls y more → k + length more ≡ length ls →
          Steps s (after_lines s 0 (molecule_lines y.molecule)) y.items (after_lines s 0 k)
      go {ls = ls} {more = more} q (Record.record_of {u = u} {m = m} {is = is} p i) size =
          let past : Past (molecule_lines m) (cut s).lines u = subst (λ (t : List Line). Past (molecule_lines m) t u) (sym q) (past_molecule p) in
          let at = after_lines s 0 (molecule_lines m) in
          let f = gone at (items_at s (molecule_lines m) u past) i in
          let all = past_join (molecule_lines m) f.k (cut s).lines u more past (subst (λ (t : List Line). Past f.k t more) (items_at s (molecule_lines m) u past) f.past) in
          let same : molecule_lines m + f.k ≡ k = omega (arith, all.some, ap length all.rest, length-drop (molecule_lines m + f.k) (cut s).lines, ap length q, size) in
          subst (λ (n : ℕ). Steps s at is n) (sym f.place ∙ sym (after_join s 0 (molecule_lines m) f.k) ∙ ap (after_lines s 0) same) f.steps

-- ---- A step goes on, and stays in the text

behind_on : {s : Bytes} {at : ℕ} {ls u : List Line} {n k : ℕ} → Behind s at ls u n k → at + k ≤ n
behind_on {s = s} {at = at} {n = n} b = omega (arith, few_lines b.whole, b.many, b.low, length-take (n - at) (drop at s))

module _ (s : Bytes) (at : ℕ) where
  item_so : {x : ItemAt} (a b from to n k : ℕ) → StepAt s at x → x ≡ ItemAt.Item a b from to n k → ItemWithin s at a b n k
  item_so a b from to n k (StepAt.item {l = l} {name = name} {t = t} {from = f₀} {to = t₀} {n = m} {k = j} h d v p q) e =
      let g = begun s at l t (is_cut s at h) in
      let w = line_within s at g.e g.n g.line in
      let ea : at + (d.between + 2) ≡ a = cc in
      let eb : at + (d.between + 2 + length name) ≡ b = cc in
      let en : m ≡ n = cc in
      let ek : j ≡ k = cc in
      record {
        name_order = omega arith;
        name_inside = omega (arith, eb, header_inside l name d, ap length g.first, length-take (g.e - at) (drop at s), w.0, w.1, w.2);
        some = omega (arith, ek, (behind_one s at (item_behind s at l t g v) q).1);
        onward = omega (arith, en, ek, behind_on q);
        inside = omega (arith, en, q.inside);
      }
  item_so a b from to n k (StepAt.end h d q) e = absurd (let z : ◌≡◌ {A = ℕ} 0 1 = cc in omega arith)
  item_so a b from to n k (StepAt.refused h r) e = absurd (let z : ◌≡◌ {A = ℕ} 0 1 = cc in omega arith)

  pub item_within : (a b from to n k : ℕ) → step_of s at ≡ ItemAt.Item a b from to n k → ItemWithin s at a b n k
  item_within a b from to n k h = item_so a b from to n k ((step_told_lem s at (ItemAt.Item a b from to n k)).0 h) refl

  end_so : {x : ItemAt} (n : ℕ) → StepAt s at x → x ≡ ItemAt.End n → (at + 1 ≤ n) × (n ≤ length s)
  end_so n (StepAt.item h d v p q) e = absurd (let z : ◌≡◌ {A = ℕ} 0 1 = cc in omega arith)
  end_so n (StepAt.end {n = m} h d q) e = let en : m ≡ n = cc in (omega (arith, en, behind_on q), omega (arith, en, q.inside))
  end_so n (StepAt.refused h r) e = absurd (let z : ◌≡◌ {A = ℕ} 0 1 = cc in omega arith)

  pub end_within : (n : ℕ) → step_of s at ≡ ItemAt.End n → (at + 1 ≤ n) × (n ≤ length s)
  end_within n h = end_so n ((step_told_lem s at (ItemAt.End n)).0 h) refl

-- ---- The numbers of refusals

then_low : {A B : Type 0} (x : Got A) (f : A → Got B) (e c : ℕ) → ((n d : ℕ) → x ≡ bad n d → 3 ≤ n) → ((a : A) (n d : ℕ) → f a ≡ bad n d → 3 ≤ n) → then x f ≡ bad e c → 3 ≤ e
unfolding then
then_low (got a) f e c g h q = h a e c q
then_low (bad n d) f e c g h q = let same : n ≡ e = cc in omega (arith, same, g n d refl)

within_low : (k : ℕ) (l : Line) (e c : ℕ) → within k l (got l) ≡ bad e c → 3 ≤ e
unfolding within need
within_low k l e c h = go (leb (length l) k) (bad_column l) h
  where
    go : (t : Bool) (f : Option ℕ) → need t 3 (suc k) (none_found 4 f (got l)) ≡ bad e c → 3 ≤ e
    go true (Some i) h = let z : 4 ≡ e = cc in omega (arith, z)
    go true None h = absurd (let z : ◌≡◌ {A = ℕ} 0 1 = cc in omega arith)
    go false f h = let z : 3 ≡ e = cc in omega (arith, z)

item_low : (l : Line) (e c : ℕ) → item_of l ≡ bad e c → 3 ≤ e
unfolding item_of
item_low l e c h = go (is_close l) (header_of l) h
  where
    go : (t : Bool) (x : HeaderRead) → cond t (got close) (title_got x) ≡ bad e c → 3 ≤ e
    go true x h = absurd (let z : ◌≡◌ {A = ℕ} 0 1 = cc in omega arith)
    go false (named name) h = absurd (let z : ◌≡◌ {A = ℕ} 0 1 = cc in omega arith)
    go false none h = let z : 16 ≡ e = cc in omega (arith, z)

value_low : (l : Line) (e c : ℕ) → value_of l ≡ bad e c → 3 ≤ e
unfolding value_of
value_low l e c h = go (is_blank l) (begins (bytes "$$$$") l) (header_of l) h
  where
    go : (t u : Bool) (x : HeaderRead) → cond t (got blank) (cond u (bad 17 1) (not_header x)) ≡ bad e c → 3 ≤ e
    go true u x h = absurd (let z : ◌≡◌ {A = ℕ} 0 1 = cc in omega arith)
    go false true x h = let z : 17 ≡ e = cc in omega (arith, z)
    go false false (named name) h = let z : 17 ≡ e = cc in omega (arith, z)
    go false false none h = absurd (let z : ◌≡◌ {A = ℕ} 0 1 = cc in omega arith)

no_values_low : {i e j c : ℕ} {t : List Line} → NoValues i t e j c → 3 ≤ e
no_values_low NoValues.cut_short = omega arith
no_values_low (NoValues.bad_line {e = e} {c = c} {l = l} r) = then_low (within 200 l (got l)) value_of e c (within_low 200 l) value_low ((tells_bad e c (values_tell l)).1 r)
no_values_low (NoValues.later v p) = no_values_low p

no_item_low : {e i c : ℕ} {ls : List Line} → NoItem ls e i c → 3 ≤ e
no_item_low NoItem.no_line = omega arith
no_item_low (NoItem.bad_line {e = e} {c = c} {l = l} r) = then_low (within 80 l (got l)) item_of e c (within_low 80 l) item_low ((tells_bad e c (title_tells l)).1 r)
no_item_low (NoItem.bad_values d v) = no_values_low v

refused_low : {s : Bytes} {at : ℕ} {x : ItemAt} (e i c : ℕ) → StepAt s at x → x ≡ ItemAt.Refused e i c → 3 ≤ e
refused_low e i c (StepAt.item h d v p q) z = absurd (let z : ◌≡◌ {A = ℕ} 0 1 = cc in omega arith)
refused_low e i c (StepAt.end h d q) z = absurd (let z : ◌≡◌ {A = ℕ} 0 1 = cc in omega arith)
refused_low e i c (StepAt.refused {e = n} h r) z = let same : n ≡ e = cc in omega (arith, same, no_item_low r)

pub step_numbered : (s : Bytes) (at e i c : ℕ) → step_of s at ≡ ItemAt.Refused e i c → 3 ≤ e
step_numbered s at e i c h = refused_low e i c ((step_told_lem s at (ItemAt.Refused e i c)).0 h) refl
