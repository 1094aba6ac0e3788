-- Laws on judging a line: what the reader's step answered decides what is told.
use Rattle.std.specs.Prelude.{IsErrAnd, Result, Ok, Err, ℕ, ◌*◌, ◌≡◌, List, [], ◌∷◌, ◌++◌, Bool, true, length, take}
use Rattle.std.proofs.Common.{arith, ◌∙◌}
use Rattle.std.proofs.Math.Path.{refl, sym, ap, subst}
use Rattle.std.proofs.Math.ListN.{length-set}
use Rattle.text.specs.Text.{Line}
use Rattle.rules.specs.Record.{Raw, limit}
use Rattle.judge_pairs.specs.Taken.{pair_taken}
use Rattle.judge_line.specs.Got.{Got, got, bad}
use Rattle.judge_line.specs.Field.{elem}
use Rattle.line_atom.specs.declared.Atom.{Atom}
use Rattle.line_counts_bonds.specs.Answer.{bond_is}
use Rattle.line_counts_bonds.specs.declared.Bond.{Bond}
use Rattle.line_property.specs.Listed.{places}
use Rattle.judge_file.specs.Place.{sdfile, turn_of}
use Rattle.judge_file.specs.Place as J
use Rattle.judge_file.specs.Place.{first}
use Rattle.reader_state.specs.declared.Reader.{Reader}
use Rattle.judge_line.specs.declared.Refusal.{Refusal}
use Rattle.reader_state.specs.declared.Step.{Step}
use Rattle.reader_state.specs.StateParts.{begun}
use Rattle.reader_state.specs.LineRead as W
use Rattle.reader_state.specs.LineRead.{Went, step_got, went_of, table_at, Kept, Sane}
use Rattle.reader_pairs.specs.Keys.{pair_key, key_of, AllSmall, taken_keys}
use Rattle.reader_walk.specs.Walking.{counted_sane}
use Rattle.mend_rules.specs.Mend.{some, left_by, left}
use Rattle.mend_judge.specs.declared.Judge.{Judge}
use Rattle.mend_judge.specs.Standing.{fresh, Stands, Standing, Placed, Tells, Judges}
use Rattle.mend_judge.specs.Follow.{Onto, Pending, Goes, follow}
use Rattle.mend_judge.specs.Bonds.{Bonding, BondJudged}

-- the start of a record
pub fresh_stands : (t keys : List ℕ) → Stands (fresh true).reader 0 t keys first
unfolding AllSmall
fresh_stands t keys =
    record {
      sd = refl;
      place = refl;
      few_atoms = omega arith;
      few_bonds = omega arith;
      counted = tt;
      bonds = record { count = refl; bond_keys_lem = refl; small = tt };
    }

pub fresh_is : (x : Reader) (b : Bool) → x ≡ begun true → record { reader = x; bonds = 0; some = b } ≡ fresh b
fresh_is x b e = ap (λ (y : Reader). record { reader = y; bonds = 0; some = b }) e

some_more : (xs : List Raw) (x : Raw) → true ≡ some (xs ++ (x ∷ []))
some_more [] x = refl
some_more (y ∷ xs) x = refl

-- the state is one that the reader can be in
pub placed_sane : (j : Judge) (t keys : List ℕ) → Placed j t keys → Sane j.reader
placed_sane j t keys g =
    let st = g.standing.stands in counted_sane j.reader t g.p st.place st.few_atoms st.few_bonds st.counted

abbrev reads : Judge → Reader → Judge
reads j r = record { reader = r; bonds = j.bonds; some = j.some }

module _ (j : Judge) (t keys : List ℕ) (l : Line) (x : Result Step Refusal) (t' : List ℕ) (e : step_got l x ≡ went_of j.reader t l) (k : Kept j.reader t l t')
    (z : length t' ≡ 3 * places) (g : Placed j t keys) where
  abbrev G : Got Went → J.Place → Type 0
  G w p = Goes j.bonds t' keys w (turn_of sdfile limit p l)

  goes : (v : Result Step Refusal) (w : Went) → x ≡ v → step_got l v ≡ got w → (p : J.Place) (xs : List Raw) → Standing j t keys p xs → G (got w) p
  goes v w q h p xs st =
      let a : went_of j.reader t l ≡ got w = sym e ∙ ap (step_got l) q ∙ h in
      subst (λ (u : Got Went). Goes j.bonds t' keys u (turn_of sdfile limit p l)) a
      (subst (λ (u : List ℕ). Goes j.bonds u keys (went_of j.reader t l) (turn_of sdfile limit p l)) (sym (k.kept w a))
      (follow j.bonds t keys l j.reader p st.stands st.key_room st.listed_size))

  tells_on : (r : Reader) (p : J.Place) (xs : List Raw) → Standing j t keys p xs → Onto r j.bonds t' keys (turn_of sdfile limit p l) → Tells p xs l (Ok (reads j r)) t' keys
  unfolding left
  tells_on r p xs st o =
      (o.0, xs, ap (left_by xs) o.1, record { stands = o.2; before = st.before; listed_size = z; key_room = st.key_room })

  on : (r : Reader) (j' : Judge) → j' ≡ reads j r → ((p : J.Place) (xs : List Raw) → Standing j t keys p xs → Onto r j.bonds t' keys (turn_of sdfile limit p l)) →
      Judges j t keys l (Ok j') t' keys
  on r j' q f =
      record {
        tells = λ p xs st. subst (λ (u : Judge). Tells p xs l (Ok u) t' keys) (sym q) (tells_on r p xs st (f p xs st));
        listed_size = z;
        key_room = g.standing.key_room;
      }

  pub judges_next : (r : Reader) (j' : Judge) → x ≡ Ok (Step.Next r) → j' ≡ reads j r → Judges j t keys l (Ok j') t' keys
  judges_next r j' q h = on r j' h (λ p xs st. goes (Ok (Step.Next r)) (W.on r) q refl p xs st)

  pub judges_headed : (r : Reader) (j' : Judge) → x ≡ Ok (Step.Headed r) → j' ≡ reads j r → Judges j t keys l (Ok j') t' keys
  judges_headed r j' q h = on r j' h (λ p xs st. goes (Ok (Step.Headed r)) (W.headed r) q refl p xs st)

  pub judges_atom : (r : Reader) (a : Atom) (j' : Judge) → x ≡ Ok (Step.Atom r a) → j' ≡ reads j r → Judges j t keys l (Ok j') t' keys
  judges_atom r a j' q h = on r j' h (λ p xs st. goes (Ok (Step.Atom r a)) _ q refl p xs st)

  pub judges_ended : (r : Reader) (j' : Judge) → x ≡ Ok (Step.Ended r) → j' ≡ reads j r → Judges j t keys l (Ok j') t' keys
  judges_ended r j' q h = on r j' h (λ p xs st. goes (Ok (Step.Ended r)) (W.ended r) q refl p xs st)

  pub judges_title : (r : Reader) (a b : ℕ) (j' : Judge) → x ≡ Ok (Step.Title r a b) → j' ≡ reads j r → Judges j t keys l (Ok j') t' keys
  judges_title r a b j' q h = on r j' h (λ p xs st. goes (Ok (Step.Title r a b)) _ q refl p xs st)

  pub judges_value : (r : Reader) (j' : Judge) → x ≡ Ok (Step.Value r) → j' ≡ reads j r → Judges j t keys l (Ok j') t' keys
  judges_value r j' q h = on r j' h (λ p xs st. goes (Ok (Step.Value r)) (W.value r) q refl p xs st)

  pub judges_blank : (r : Reader) (j' : Judge) → x ≡ Ok (Step.Blank r) → j' ≡ reads j r → Judges j t keys l (Ok j') t' keys
  judges_blank r j' q h = on r j' h (λ p xs st. goes (Ok (Step.Blank r)) (W.blank r) q refl p xs st)

  pub judges_done : (j' : Judge) → x ≡ Ok Step.Done → j' ≡ fresh true → Judges j t keys l (Ok j') t' keys
  unfolding left
  judges_done j' q h =
      record {
        tells = λ p xs st.
            let d = goes (Ok Step.Done) W.done q refl p xs st in
            subst (λ (u : Judge). Tells p xs l (Ok u) t' keys) (sym h) (
              first,
              xs ++ (d.0 ∷ []),
              ap (left_by xs) d.1,
              record { stands = fresh_stands t' keys; before = some_more xs d.0; listed_size = z; key_room = st.key_room },
            );
        listed_size = z;
        key_room = g.standing.key_room;
      }

  pub judges_refused : (r : Refusal) → x ≡ Err r → Judges j t keys l (Err r) t' keys
  unfolding left
  judges_refused r q =
      record {
        tells = λ p xs st.
            let a : went_of j.reader t l ≡ bad r.no r.column = sym e ∙ ap (step_got l) q in
            ap (left_by xs)
            (subst (λ (u : Got Went). Goes j.bonds (table_at j.reader j.reader.place t l) keys u (turn_of sdfile limit p l)) a
            (follow j.bonds t keys l j.reader p st.stands st.key_room st.listed_size));
        listed_size = z;
        key_room = g.standing.key_room;
      }

  pub judges_back : (r : Refusal) → x ≡ Err r → (y : Result Judge Refusal) → IsErrAnd y (λ f. f ≡ r) → Judges j t keys l y t' keys
  judges_back r q (Ok u) is = absurd is
  judges_back r q (Err f) is = rw is (judges_refused r q)

  -- ---- A bond line

  pends : (r : Reader) (b : Bond) → x ≡ Ok (Step.Bond r b) → (p : J.Place) (xs : List Raw) → Standing j t keys p xs → Pending r j.bonds t' keys (bond_is b) (turn_of sdfile limit p l)
  pends r b q p xs st = goes (Ok (Step.Bond r b)) (W.bond r (bond_is b)) q refl p xs st

  pub bonding : (r : Reader) (b : Bond) → x ≡ Ok (Step.Bond r b) → Bonding j r b keys
  bonding r b q =
      let o = pends r b q g.p g.xs g.standing in
      record { first = o.ends.first; second = o.ends.second; few = omega (arith, o.keyed.count, o.few); key_room = g.standing.key_room }

  module _ (r : Reader) (b : Bond) (q : x ≡ Ok (Step.Bond r b)) where
    asks : (p : J.Place) (xs : List Raw) (st : Standing j t keys p xs) →
        elem (pair_key b.first b.second) (take j.bonds keys) ≡ pair_taken (bond_is b) (pends r b q p xs st).bs
    asks p xs st =
        let o = pends r b q p xs st in
        ap (λ (i : ℕ). elem (key_of (bond_is b)) (take i keys)) o.keyed.count
        ∙ ap (elem (key_of (bond_is b))) o.keyed.bond_keys_lem
        ∙ taken_keys (bond_is b) o.bs o.ends o.keyed.small

    pub judges_bond : (y : Result Judge Refusal) (keys' : List ℕ) → BondJudged j r b keys y keys' → Judges j t keys l y t' keys'
    unfolding left
    judges_bond y keys' (BondJudged.twice h i w) =
        rw (i, w)
        (record {
          tells = λ p xs st. ap (left_by xs) ((pends r b q p xs st).taken (sym (asks p xs st) ∙ h));
          listed_size = z;
          key_room = g.standing.key_room;
        })
    judges_bond y keys' (BondJudged.once h i w) =
        rw (i, w)
        (record {
          tells = λ p xs st.
              let f = (pends r b q p xs st).free (sym (asks p xs st) ∙ h) in (
                f.0,
                xs,
                ap (left_by xs) f.1,
                record { stands = f.2; before = st.before; listed_size = z; key_room = length-set keys j.bonds (pair_key b.first b.second) ∙ st.key_room },
              );
          listed_size = z;
          key_room = length-set keys j.bonds (pair_key b.first b.second) ∙ g.standing.key_room;
        })

pub ruleset judging_laws = (
  placed_sane,
  judges_next,
  judges_headed,
  judges_atom,
  judges_ended,
  judges_title,
  judges_value,
  judges_blank,
  judges_done,
  judges_refused,
  judges_back,
  bonding,
  judges_bond,
)
