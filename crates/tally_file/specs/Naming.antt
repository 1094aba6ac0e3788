-- The first value line that is found is the supplier of the rules.
use Rattle.std.specs.Prelude.{ℕ, suc, ◌+◌, ◌-◌, ◌≤◌, ◌≡◌, List, [], ◌∷◌, ◌++◌, Bool, true, false, cond, eqb, length, take, drop}
use Rattle.std.proofs.Common.{arith, sym, ap, ◌∙◌, subst}
use Rattle.std.proofs.Math.Path.{refl}
use Rattle.text.specs.Text.{Bytes, Line}
use Rattle.text.specs.Find.{same_bytes}
use Rattle.text.specs.Agree.{same_bytes_lem}
use Rattle.rules.specs.Record.{Item, Raw}
use Rattle.judge_file.specs.Place.{sdfile}
use Rattle.reader_walk.specs.Outcome as O
use Rattle.reader_walk.specs.Outcome.{outcome_of}
use Rattle.reader_walk.specs.Stands.{molecule_lines}
use Rattle.reader_item.specs.Find.{Spot, spot_of, said_by, found_by, found_of, line_end}
use Rattle.reader_item.specs.Promise.{NoneNamed}
use Rattle.reader_item.specs.Beyond.{FirstNamed}
use Rattle.reader_answer.specs.Promise.{Begins}
use Rattle.reader_answer.specs.Told.{begins_outcome}
use Rattle.reader_first_line.specs.declared.FirstLine.{FirstLine}
use Rattle.reader_first_line.specs.First.{line_from, first_by, first_of}
use Rattle.reader_first_line.specs.Promise.{FirstAt, FirstPromise}
use Rattle.tally_rules.specs.Tally.{supplier_name, missing, named, supplier_in, supplier_of}
use Rattle.tally_rules.specs.Tally as T
use Rattle.tally_file.specs.Count.{supplier_by, supplier_at}

good_supplier : (s : Bytes) (x : Raw) → Begins sdfile s x → supplier_at s ≡ supplier_of x
unfolding supplier_at
good_supplier s x g = ap supplier_by (begins_outcome sdfile s x g)

first_by_lem : (before after : List Item) (vs : List Line) → NoneNamed supplier_name before → supplier_in (before ++ (record { name = supplier_name; values = vs } ∷ after)) ≡ T.first_of vs
unfolding supplier_in NoneNamed
first_by_lem [] after vs h = rw ((same_bytes_lem supplier_name supplier_name).1 refl)
first_by_lem (i ∷ before) after vs h = go (same_bytes i.name supplier_name) refl (first_by_lem before after vs h.1)
  where
    go : (b : Bool) → same_bytes i.name supplier_name ≡ b → supplier_in (before ++ (record { name = supplier_name; values = vs } ∷ after)) ≡ T.first_of vs →
        cond b (T.first_of i.values) (supplier_in (before ++ (record { name = supplier_name; values = vs } ∷ after))) ≡ T.first_of vs
    go true e q = absurd (h.0 ((same_bytes_lem i.name supplier_name).0 e))
    go false e q = q

first_is : (is : List Item) (vs : List Line) → FirstNamed supplier_name is vs → supplier_in is ≡ T.first_of vs
first_is is vs f = ap supplier_in f.parts ∙ first_by_lem f.before f.after vs f.others

-- no item of that name
spot_missing : (j : ℕ) (is : List Item) → spot_of supplier_name j is ≡ Spot.nowhere → supplier_in is ≡ missing
unfolding spot_of supplier_in
spot_missing j [] h = refl
spot_missing j (i ∷ is) h = go (same_bytes i.name supplier_name) h (spot_missing (suc j + suc (length i.values)) is)
  where
    go : (b : Bool) → cond b (Spot.after (suc j) (length i.values)) (spot_of supplier_name (suc j + suc (length i.values)) is) ≡ Spot.nowhere →
        (spot_of supplier_name (suc j + suc (length i.values)) is ≡ Spot.nowhere → supplier_in is ≡ missing) → cond b (T.first_of i.values) (supplier_in is) ≡ missing
    go true q again = absurd (let z : ◌≡◌ {A = ℕ} 0 1 = cc in omega arith)
    go false q again = again q

-- a line is never a refusal
never_line : {X : Type 0} (s : Bytes) (from to e i c : ℕ) → line_from s from to ≡ FirstLine.Refused e i c → X
unfolding line_from
never_line {X} s from to e i c h = go (eqb to 0) h
  where
    go : (b : Bool) → cond b FirstLine.Empty (FirstLine.Line from (line_end s from)) ≡ FirstLine.Refused e i c → X
    go true q = absurd (let z : ◌≡◌ {A = ℕ} 0 1 = cc in omega arith)
    go false q = absurd (let z : ◌≡◌ {A = ℕ} 0 1 = cc in omega arith)

-- its first value line stands there
pub record Here (s : Bytes) (from to : ℕ) : Type 0 where
  pub order : from ≤ to
  pub inside : to ≤ length s
  pub is : supplier_at s ≡ named (take (to - from) (drop from s))

module _ (s : Bytes) (r : FirstLine) (p : FirstPromise s supplier_name r) where
  at_line : {r : FirstLine} → FirstAt s supplier_name r → (from to : ℕ) → r ≡ FirstLine.Line from to → Here s from to
  at_line (FirstAt.line {ls = ls} {more = more} {vs = vs} {rest = rest} {x = x} {l = l} {from = a} {to = b} lines rec n o i e) from to q =
      let y : a ≡ from = cc in
      let z : b ≡ to = cc in
      let line : take (to - from) (drop from s) ≡ l = subst (λ (k : ℕ). take (to - k) (drop k s) ≡ l) y (subst (λ (k : ℕ). take (k - a) (drop a s) ≡ l) z e) in
      record {
        order = omega arith;
        inside = omega arith;
        is = good_supplier s x (ls, rest, more, lines, rec) ∙ first_is x.items (l ∷ vs) n ∙ ap named (sym line);
      }
  at_line (FirstAt.empty lines rec n) from to q = absurd (let z : ◌≡◌ {A = ℕ} 0 1 = cc in omega arith)
  at_line (FirstAt.refused h) from to q = absurd (let z : ◌≡◌ {A = ℕ} 0 1 = cc in omega arith)

  at_empty : {r : FirstLine} → FirstAt s supplier_name r → r ≡ FirstLine.Empty → supplier_at s ≡ missing
  at_empty (FirstAt.line lines rec n o i e) q = absurd (let z : ◌≡◌ {A = ℕ} 0 1 = cc in omega arith)
  at_empty (FirstAt.empty {ls = ls} {more = more} {rest = rest} {x = x} lines rec n) q = good_supplier s x (ls, rest, more, lines, rec) ∙ first_is x.items [] n
  at_empty (FirstAt.refused h) q = absurd (let z : ◌≡◌ {A = ℕ} 0 1 = cc in omega arith)

  pub line_here : (from to : ℕ) → r ≡ FirstLine.Line from to → Here s from to
  line_here from to q = at_line p.first from to q

  pub line_empty : r ≡ FirstLine.Empty → supplier_at s ≡ missing
  line_empty q = at_empty p.first q

  pub line_none : (e i c : ℕ) → r ≡ FirstLine.Refused e i c → supplier_at s ≡ missing
  unfolding first_of found_of supplier_at
  line_none e i c q = go (outcome_of sdfile s) refl (sym p.judged ∙ q)
    where
      spot : (x : Raw) (o : Spot) → spot_of supplier_name (molecule_lines x.molecule) x.items ≡ o → first_by s (said_by s o) ≡ FirstLine.Refused e i c → supplier_of x ≡ missing
      spot x (Spot.after j k) h z = never_line s _ _ e i c z
      spot x Spot.nowhere h z = spot_missing (molecule_lines x.molecule) x.items h

      go : (o : O.Outcome) → outcome_of sdfile s ≡ o → first_by s (found_by s supplier_name o) ≡ FirstLine.Refused e i c → supplier_by o ≡ missing
      go (O.whole x k) h z = spot x (spot_of supplier_name (molecule_lines x.molecule) x.items) refl z
      go (O.refused a b d) h z = refl
