-- From step to step: from where a record's items start, steps visit these items in their order, and end behind the record.
use Rattle.std.specs.Prelude.{ℕ, zero, suc, ◌+◌, ◌-◌, ◌≤◌, ◌≡◌, refl, List, [], ◌∷◌, length, take, drop}
use Rattle.std.proofs.Common.{arith, sym, ap, ◌∙◌, subst, length-take, drop-drop, take-take}
use Rattle.text.specs.Text.{Bytes, Line}
use Rattle.text.specs.Cut.{Cut, cut}
use Rattle.rules.specs.Forms.{DataHeader}
use Rattle.rules.specs.Record.{Item, Raw, Record, limit}
use Rattle.judge_file.specs.Place.{sdfile}
use Rattle.judge_file.specs.One.{One, one_record}
use Rattle.judge_file.proofs.OneAgree.{one_whole}
use Rattle.judge_file.specs.WalkText.{after_lines, after_cut}
use Rattle.reader_walk.specs.Outcome.{whole, outcome_of, of_one}
use Rattle.reader_item.specs.Position.{Past}
use Rattle.reader_items.specs.Promise.{Steps}
use Rattle.reader_items.specs.Titles.{header_name, header_inside}
use Rattle.reader_items.specs.Agree.{Begun, lines}

-- ---- A name in the text

middle : (w j m : ℕ) (xs : Bytes) → j + m ≤ w → take m (drop j (take w xs)) ≡ take m (drop j xs)
middle w zero m xs h = take-take m w xs (omega (arith, h))
middle zero (suc j) m xs h = absurd (omega (arith, h))
middle (suc w) (suc j) m [] h = refl
middle (suc w) (suc j) m (x ∷ xs) h = middle w j m xs (omega (arith, h))

pub name_here : (s : Bytes) (at : ℕ) (l name : Bytes) (t : List Line) (g : Begun s at l t) (d : DataHeader l name) →
    take (at + (d.between + 2 + length name) - (at + (d.between + 2))) (drop (at + (d.between + 2)) s) ≡ name
name_here s at l name t g d =
    let a = d.between + 2 in
    let z : at + (a + length name) - (at + a) ≡ length name = omega arith in
    let i : a + length name ≤ g.e - at = omega (arith, header_inside l name d, ap length g.first, length-take (g.e - at) (drop at s)) in
    rw z
    (ap (take (length name)) (sym (drop-drop a at s))
    ∙ sym (middle (g.e - at) a (length name) (drop at s) i) ∙ ap (λ (x : Line). take (length name) (drop a x)) g.first ∙ header_name l name d)

-- ---- The items

-- the steps over these items take k lines, up to position n
pub record Gone (s : Bytes) (at : ℕ) (is : List Item) (more : List Line) : Type 0 where
  pub n : ℕ
  pub k : ℕ
  pub steps : Steps s at is n
  pub place : after_lines s at k ≡ n
  pub past : Past k (lines s at) more

-- the lines behind an item
pub item_rest : (s : Bytes) (at k : ℕ) (u : List Line) → Past k (lines s at) u → lines s (after_lines s at k) ≡ u
item_rest s at k u p = ap (λ (c : Cut). c.lines) (after_cut s at k p.some) ∙ sym p.rest

-- a good record of k lines, as the rules have it
pub record Stood (s : Bytes) (x : Raw) (k : ℕ) : Type 0 where
  pub more : List Line
  pub good : Record limit (cut s).lines x more
  pub size : k + length more ≡ length (cut s).lines

pub stood : (s : Bytes) (x : Raw) (k : ℕ) → outcome_of sdfile s ≡ whole x k → Stood s x k
unfolding outcome_of
stood s x k h = go (one_record limit (cut s).lines) refl h
  where
    go : (o : One) → one_record limit (cut s).lines ≡ o → of_one o ≡ whole x k → Stood s x k
    go (One.whole y i more) e q =
        let xy : y ≡ x = cc in
        let ik : i ≡ k = cc in
        let w = (one_whole limit (cut s).lines y i more).0 e in
        record { more = more; good = subst (λ (z : Raw). Record limit (cut s).lines z more) xy w.0; size = subst (λ (j : ℕ). j + length more ≡ length (cut s).lines) ik w.1 }
    go (One.refused n i c) e q = absurd (let z : ◌≡◌ {A = ℕ} 0 1 = cc in omega arith)
    go (One.short i) e q = absurd (let z : ◌≡◌ {A = ℕ} 0 1 = cc in omega arith)

-- ---- A step goes on, and stays in the text

pub record ItemWithin (s : Bytes) (at a b n k : ℕ) : Type 0 where
  pub name_order : a ≤ b
  pub name_inside : b ≤ length s
  pub some : 1 ≤ k
  pub onward : at + k ≤ n
  pub inside : n ≤ length s
