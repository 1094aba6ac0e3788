-- What holds between two turns of the walk over a file, and how each deed carries it on or ends the walk.
use Prim.Native.Nat.{ℕ, suc, ◌+◌, ◌-◌, ◌*◌, ◌^◌, ◌≤◌, ◌<◌}
use native.Mathlib.Omega.{arith}
use Rattle.std.proofs.Math.Path.{◌≡◌, refl, sym, ap, subst}
use Rattle.std.proofs.Common.{ap₂, ◌∙◌, length-append, length-take-le, length-drop}
use mathlib.Core.List.{List, [], ◌∷◌, ◌++◌, map, append-nil}
use Rattle.std.specs.Prelude.{Result, Ok, Err, Bool, true, false, cond, ◌&&◌, eqb, take, drop, set}
use Rattle.std.proofs.Math.Bool.{and-eq-true_iff}
use Rattle.std.proofs.Math.ListN.{length}
use Rattle.std.proofs.Math.Seq.{sets, length-sets}
use Rattle.text.specs.Text.{Bytes, Line, LF}
use Rattle.text.specs.Find.{is_blank}
use Rattle.text.specs.Cut.{ended, split}
use Rattle.text.specs.Laws.{false_true, sets_append}
use Rattle.rules.specs.Record.{Raw, limit}
use Rattle.line_property.specs.Listed.{places}
use Rattle.judge_file.specs.Place.{sdfile}
use Rattle.judge_file.specs.Place as J
use Rattle.judge_file.specs.Place.{first, second, third, counts, atoms, bonds, properties, over, items, values}
use Rattle.judge_file.specs.Verdict.{accepted, refused, end_sdfile, verdict}
use Rattle.reader_places.specs.declared.Place.{Place}
use Rattle.reader_places.specs.declared.Place.TheVariants as P
use Rattle.reader_state.specs.LineRead.{moved}
use Rattle.reader_walk.specs.Stands.{place_of}
use Rattle.mend_rules.specs.Mend.{Action, keep, put, lose, item_line, all_blank, some, action_at, emptied, went, fell, left}
use Rattle.mend_rules.specs.Named.{Fix, fix, line_put, blank_dropped, lf_added, line_end, none, fixes_from}
use Rattle.mend_rules.specs.Listed.{numbers, numbers_length, numbers_append}
use Rattle.mend_rules.specs.Text.{pieces, joined, unfinished, mended_pieces, mended_text, fixes}
use Rattle.mend_rules.specs.Still.{Still, still_start, over_pieces, over_fixes}
use Rattle.mend_rules.proofs.Still.{still_kept, still_lost, still_put, still_refused, over_verdict}
use Rattle.mend_rules.specs.Pieces.{PieceIs, Begins, begins_first, no_piece}
use Rattle.mend_rules.specs.Sizes.{joined_append, text_size}
use Rattle.mend_rules.proofs.Sizes.{list_size}
use Rattle.mend_judge.specs.declared.Judge.{Judge}
use Rattle.judge_line.specs.declared.Refusal.{Refusal}
use Rattle.mend_judge.specs.Standing.{fresh, after_blank, Stands, Standing, Placed, Tells, Judges}
use Rattle.mend_judge.specs.Judging.{fresh_stands}
use Rattle.mend_lines.specs.declared.Piece.{Piece}
use Rattle.mend_lines.specs.declared.Deed.{Deed}
use Rattle.mend_lines.specs.declared.Deed.TheVariants as D
use Rattle.mend_lines.specs.Deeds.{PieceAt, blank_from, deed_at, Tailed, Means, means}
use Rattle.mend_out.specs.declared.Mender.{Mender}
use Rattle.mend_out.specs.Out.{begun, dropped_by, put_by, kept_by, CanNote, CanPut, CanKeep, late, line_feed, Kept}
use Rattle.mend_file.specs.declared.Mended.{Mended}
use Rattle.mend_file.specs.Walked.{Walked, starts_at, end_of}

-- `out` has come out and `noted` is listed
pub record Mending (s : Bytes) (room₀ list₀ : List ℕ) (j : Judge) (m : Mender) (tail : Bool) (room list t keys : List ℕ) : Type 0 where
  pub p : J.Place
  pub xs : List Raw
  pub out : List Bytes
  pub noted : List Fix
  pub standing : Standing j t keys p xs
  pub still : Still limit s p xs out noted m.line (pieces (drop m.at s))
  pub begins : m.at < length s → Begins s m.at
  pub out_is : m.out ≡ length (joined out)
  pub line_is : m.out_line ≡ suc (length out)
  pub repairs_is : m.repairs ≡ length noted
  pub room_is : room ≡ sets room₀ 0 (joined out)
  pub list_is : list ≡ sets list₀ 0 (numbers noted)
  pub tail_is : tail ≡ true → Tailed p xs (blank_from s m.at)
  pub inside : m.at ≤ length s
  pub lines : m.line ≤ m.at + 1
  pub bytes : length s * 1 < 2 ^ 63

pub mending_start : (s : Bytes) (room list t keys : List ℕ) (j : Judge) (m : Mender) → length t ≡ 3 * places → length keys ≡ limit → length s * 1 < 2 ^ 63 →
    j ≡ fresh false → m ≡ begun → Mending s room list j m false room list t keys
unfolding joined numbers
mending_start s room list t keys j m rt rk few e f =
    rw (e, f)
    (record {
      p = first;
      xs = [];
      out = [];
      noted = [];
      standing =
          record {
            stands = fresh_stands t keys;
            before = refl;
            listed_size = rt;
            key_room = rk;
          };
      still = still_start limit s;
      begins = λ _. begins_first s;
      out_is = refl;
      line_is = refl;
      repairs_is = refl;
      room_is = refl;
      list_is = refl;
      tail_is = λ h. false_true h;
      inside = omega arith;
      lines = omega arith;
      bytes = few;
    })

-- ---- What has come out is a part of the whole

part_of : {A : Type 0} (whole front back : List A) → whole ≡ front ++ back → length front ≤ length whole
part_of whole front back e = omega (arith, ap length e, length-append front back)

joined_one : (out : List Bytes) (r : Bytes) → joined (out ++ (r ∷ [])) ≡ joined out ++ (r ++ (LF ∷ []))
unfolding joined
joined_one out r = joined_append out (r ∷ [])

module _ (s : Bytes) (p : J.Place) (xs : List Raw) (out : List Bytes) (noted : List Fix) (i : ℕ) (rest : List Bytes) (g : Still limit s p xs out noted i rest) where
  out_few : (length (joined out) ≤ 2 * length s + 1) × (length out ≤ 2 * length s)
  unfolding mended_text
  out_few =
      let t = text_size limit s in
      let e : mended_text limit s ≡ joined out ++ joined _ = ap joined g.acted ∙ joined_append out _ in
      (omega (arith, t.0, part_of (mended_text limit s) (joined out) _ e), omega (arith, t.1, part_of (mended_pieces limit s) out _ g.acted))

  noted_few : length noted ≤ length s + 1
  noted_few = omega (arith, list_size limit s, part_of (fixes limit s) noted _ g.listed)

-- what is stored after what was stored
stored : (t₀ a b t t' : List ℕ) (k : ℕ) → k ≡ length a → t ≡ sets t₀ 0 a → t' ≡ sets t k b → t' ≡ sets t₀ 0 (a ++ b)
stored t₀ a b t t' k e f h = let z : k ≡ 0 + length a = omega arith in h ∙ ap₂ (λ (x : List ℕ) (i : ℕ). sets x i b) f z ∙ sym (sets_append a b t₀ 0)

listed_at : (m : Mender) (noted : List Fix) → m.repairs ≡ length noted → 2 * m.repairs ≡ length (numbers noted)
listed_at m noted e = omega (arith, numbers_length noted)

one_fix : (noted : List Fix) (f : Fix) → length (noted ++ (f ∷ [])) ≡ length noted + 1
one_fix noted f = length-append noted (f ∷ [])

one_line : (out : List Bytes) (r : Bytes) → length (out ++ (r ∷ [])) ≡ length out + 1
one_line out r = length-append out (r ∷ [])

-- ---- One turn

module _ (s : Bytes) (room₀ list₀ : List ℕ) (j : Judge) (m : Mender) (tail : Bool) (room list t keys : List ℕ) (g : Mending s room₀ list₀ j m tail room list t keys)
    (here : m.at < length s) (p : Piece) (q : PieceAt s m.at p) where
  abbrev l : Line
  l = ended q.raw

  abbrev ls : List Line
  ls = map ended (pieces (drop p.next s))

  still : Still limit s g.p g.xs g.out g.noted m.line (q.raw ∷ pieces (drop p.next s))
  still = subst (Still limit s g.p g.xs g.out g.noted m.line) q.is g.still

  blank_is : blank_from s m.at ≡ all_blank (ended q.raw ∷ map ended (pieces (drop p.next s)))
  unfolding blank_from
  blank_is = ap (λ (rs : List Bytes). all_blank (map ended rs)) q.is

  module _ (d : Deed) (e : d ≡ deed_at j tail (blank_from s m.at) (take (p.end - m.at) (drop m.at s))) where
    told : Means g.p g.xs l ls (all_blank (ended q.raw ∷ map ended (pieces (drop p.next s)))) d
    told =
        subst (Means g.p g.xs l ls (all_blank (ended q.raw ∷ map ended (pieces (drop p.next s)))))
        (sym (e ∙ ap₂ (deed_at j tail) blank_is (sym q.line)))
        (means g.xs l ls j t keys g.p g.standing tail (λ h. subst (Tailed g.p g.xs) blank_is (g.tail_is h)))

    does : (k : Deed) → d ≡ k → Means g.p g.xs l ls (all_blank (ended q.raw ∷ map ended (pieces (drop p.next s)))) k
    does k h = subst (Means g.p g.xs l ls (all_blank (ended q.raw ∷ map ended (pieces (drop p.next s))))) h told

    -- in the tail all is dropped
    only_drops : tail ≡ true → d ≡ D.Drop
    unfolding deed_at
    only_drops h = e ∙ rw h

    -- ---- Dropped

    module _ (h : d ≡ D.Drop) where
      lost : Still limit s g.p g.xs g.out (g.noted ++ (fix m.line blank_dropped ∷ [])) (suc m.line) (pieces (drop p.next s))
      lost = still_lost limit s g.p g.xs g.out g.noted m.line q.raw (pieces (drop p.next s)) still (does D.Drop h)

      pub drop_notes : CanNote m
      drop_notes =
          record { repairs = omega (arith, noted_few s g.p g.xs g.out _ _ _ lost, one_fix g.noted (fix m.line blank_dropped), g.repairs_is, g.bytes) }

      pub drop_fits : m.line + 1 < 2 ^ 64
      drop_fits = omega (arith, g.lines, g.inside, g.bytes)

      still_tailed : tail ≡ true → Tailed g.p g.xs (blank_from s p.next)
      unfolding blank_from all_blank
      still_tailed f =
          let w = g.tail_is f in
          record { start = w.start; before = w.before; blanks = ((and-eq-true_iff (is_blank l) (all_blank ls)).0 (sym blank_is ∙ w.blanks)).1 }

      pub mending_dropped : (m' : Mender) (list' : List ℕ) → m' ≡ dropped_by m p.next → list' ≡ sets list (2 * m.repairs) (m.line ∷ (2 ∷ [])) →
          Mending s room₀ list₀ j m' tail room list' t keys
      unfolding numbers
      mending_dropped m' list' a b =
          let n : suc m.line ≡ m.line + 1 = omega arith in
          rw a
          (record {
            p = g.p;
            xs = g.xs;
            out = g.out;
            noted = g.noted ++ (fix m.line blank_dropped ∷ []);
            standing = g.standing;
            still = subst (λ (i : ℕ). Still limit s g.p g.xs g.out (g.noted ++ (fix m.line blank_dropped ∷ [])) i (pieces (drop p.next s))) n lost;
            begins = λ f. q.onward (g.begins here) f;
            out_is = g.out_is;
            line_is = g.line_is;
            repairs_is = ap (λ (k : ℕ). k + 1) g.repairs_is ∙ sym (one_fix g.noted (fix m.line blank_dropped));
            room_is = g.room_is;
            list_is =
                stored list₀ (numbers g.noted) (m.line ∷ (2 ∷ [])) list list' (2 * m.repairs) (listed_at m g.noted g.repairs_is) g.list_is b
                ∙ ap (sets list₀ 0) (sym (numbers_append g.noted (fix m.line blank_dropped ∷ [])));
            tail_is = still_tailed;
            inside = q.within;
            lines = omega (arith, g.lines, q.more);
            bytes = g.bytes;
          })

    -- ---- The tail begins

    pub mending_tail : d ≡ D.Tail → Mending s room₀ list₀ j m true room list t keys
    mending_tail h =
        record {
          p = g.p;
          xs = g.xs;
          out = g.out;
          noted = g.noted;
          standing = g.standing;
          still = g.still;
          begins = g.begins;
          out_is = g.out_is;
          line_is = g.line_is;
          repairs_is = g.repairs_is;
          room_is = g.room_is;
          list_is = g.list_is;
          tail_is = λ _. subst (Tailed g.p g.xs) (sym blank_is) (does D.Tail h);
          inside = g.inside;
          lines = g.lines;
          bytes = g.bytes;
        }

    -- ---- An empty line put

    module _ (h : d ≡ D.Put) where
      with_put : Still limit s (emptied g.p) g.xs (g.out ++ ([] ∷ [])) (g.noted ++ (fix m.line line_put ∷ [])) m.line (q.raw ∷ pieces (drop p.next s))
      with_put = still_put limit s g.p g.xs g.out g.noted m.line q.raw (pieces (drop p.next s)) still (does D.Put h)

      -- an empty line is put where a value may stand
      module _ where
        never : {X : Type 0} (b : Bool) (a : Action) → (a ≡ put → X) → cond b a keep ≡ put → X
        never true a f e = f e
        never false a f e = absurd (let z : ◌≡◌ {A = ℕ} 0 1 = cc in omega arith)

        at_values_lem : (o : J.Place) → action_at o g.xs l ls ≡ put → (place_of o ≡ P.Values) × (Stands j.reader j.bonds t keys o → Stands (moved j.reader P.Items) j.bonds t keys (emptied o))
        unfolding action_at emptied
        at_values_lem first a = never (some g.xs && all_blank (l ∷ ls)) lose (λ z. absurd (let z : ◌≡◌ {A = ℕ} 0 1 = cc in omega arith)) a
        at_values_lem (second h₁) a = absurd (let z : ◌≡◌ {A = ℕ} 0 1 = cc in omega arith)
        at_values_lem (third h₁ h₂) a = absurd (let z : ◌≡◌ {A = ℕ} 0 1 = cc in omega arith)
        at_values_lem (counts hs) a = absurd (let z : ◌≡◌ {A = ℕ} 0 1 = cc in omega arith)
        at_values_lem (atoms hs c k ys) a = absurd (let z : ◌≡◌ {A = ℕ} 0 1 = cc in omega arith)
        at_values_lem (bonds hs c ys k bs) a = absurd (let z : ◌≡◌ {A = ℕ} 0 1 = cc in omega arith)
        at_values_lem (properties hs c ys bs ps) a = absurd (let z : ◌≡◌ {A = ℕ} 0 1 = cc in omega arith)
        at_values_lem (over mol) a = absurd (let z : ◌≡◌ {A = ℕ} 0 1 = cc in omega arith)
        at_values_lem (items mol is) a = never (is_blank l) lose (λ z. absurd (let z : ◌≡◌ {A = ℕ} 0 1 = cc in omega arith)) a
        at_values_lem (values mol is name vs) a = (
          refl,
          λ st. record { sd = st.sd; place = refl; few_atoms = st.few_atoms; few_bonds = st.few_bonds; counted = st.counted; bonds = st.bonds },
        )

      pub put_values : j.reader.place ≡ P.Values
      put_values = g.standing.stands.place ∙ (at_values_lem g.p (does D.Put h)).0

      pub put_fits : CanPut m
      put_fits =
          let few = out_few s _ _ _ _ _ _ with_put in
          record {
            notes = record { repairs = omega (arith, noted_few s _ _ _ _ _ _ with_put, one_fix g.noted (fix m.line line_put), g.repairs_is, g.bytes) };
            out = omega (arith, few.0, ap length (joined_one g.out []), length-append (joined g.out) (LF ∷ []), g.out_is, g.bytes);
            line = omega (arith, few.1, one_line g.out [], g.line_is, g.bytes);
          }

      pub mending_put : (j' : Judge) (m' : Mender) (room' list' : List ℕ) → j' ≡ after_blank j → m' ≡ put_by m → room' ≡ set room m.out LF →
          list' ≡ sets list (2 * m.repairs) (m.line ∷ (1 ∷ [])) → Mending s room₀ list₀ j' m' tail room' list' t keys
      unfolding numbers
      mending_put j' m' room' list' ej em er el =
          rw (ej, em)
          (record {
            p = emptied g.p;
            xs = g.xs;
            out = g.out ++ ([] ∷ []);
            noted = g.noted ++ (fix m.line line_put ∷ []);
            standing =
                record {
                  stands = (at_values_lem g.p (does D.Put h)).1 g.standing.stands;
                  before = g.standing.before;
                  listed_size = g.standing.listed_size;
                  key_room = g.standing.key_room;
                };
            still = subst (Still limit s (emptied g.p) g.xs (g.out ++ ([] ∷ [])) (g.noted ++ (fix m.line line_put ∷ [])) m.line) (sym q.is) with_put;
            begins = g.begins;
            out_is = ap (λ (k : ℕ). k + 1) g.out_is ∙ sym (length-append (joined g.out) (LF ∷ [])) ∙ ap length (sym (joined_one g.out []));
            line_is = ap (λ (k : ℕ). k + 1) g.line_is ∙ omega (arith, one_line g.out []);
            repairs_is = ap (λ (k : ℕ). k + 1) g.repairs_is ∙ sym (one_fix g.noted (fix m.line line_put));
            room_is =
                stored room₀ (joined g.out) (LF ∷ []) room room' m.out g.out_is g.room_is er
                ∙ ap (sets room₀ 0) (sym (joined_one g.out []));
            list_is =
                stored list₀ (numbers g.noted) (m.line ∷ (1 ∷ [])) list list' (2 * m.repairs) (listed_at m g.noted g.repairs_is) g.list_is el
                ∙ ap (sets list₀ 0) (sym (numbers_append g.noted (fix m.line line_put ∷ [])));
            tail_is = λ f. absurd (let z : ◌≡◌ {A = ℕ} 0 1 = cc (sym (only_drops f) ∙ h) in omega arith);
            inside = g.inside;
            lines = g.lines;
            bytes = g.bytes;
          })

    -- ---- Kept

    module _ (h : d ≡ D.Keep) (x : Result Judge Refusal) (t' keys' : List ℕ) (v : Judges j t keys (take (p.end - m.at) (drop m.at s)) x t' keys') where
      tells : Tells g.p g.xs (take (p.end - m.at) (drop m.at s)) x t' keys'
      tells = v.tells g.p g.xs g.standing

      pub keep_refused : (r : Refusal) → x ≡ Err r → (room' list' : List ℕ) → Walked s room₀ list₀ (Mended.Refused r.no m.out_line r.column) room' list'
      keep_refused r f room' list' =
          let w : left limit g.p g.xs (take (p.end - m.at) (drop m.at s)) ≡ fell r.no r.column =
          subst (λ (y : Result Judge Refusal). Tells g.p g.xs (take (p.end - m.at) (drop m.at s)) y t' keys') f tells in
          Walked.bad
          (still_refused limit s g.p g.xs g.out g.noted m.line q.raw (pieces (drop p.next s)) still r.no r.column (does D.Keep h)
          (ap (left limit g.p g.xs) q.line ∙ w))
          (ap (λ (i : ℕ). Mended.Refused r.no i r.column) g.line_is)

      module _ (j' : Judge) (f : x ≡ Ok j') where
        onto : (o : J.Place) × (ys : List Raw) × (left limit g.p g.xs (take (p.end - m.at) (drop m.at s)) ≡ went o ys) × Standing j' t' keys' o ys
        onto = subst (λ (y : Result Judge Refusal). Tells g.p g.xs (take (p.end - m.at) (drop m.at s)) y t' keys') f tells

        -- the line end that is missing
        ends : line_end m.line (unfinished (split s).rest && none (pieces (drop p.next s))) ≡ line_end m.line p.missing
        ends = ap (line_end m.line) (sym (q.last (g.begins here)))

        kept : Still limit s onto.0 onto.1 (g.out ++ (q.raw ∷ [])) (g.noted ++ line_end m.line p.missing) (suc m.line) (pieces (drop p.next s))
        kept =
            subst (λ (fs : List Fix). Still limit s onto.0 onto.1 (g.out ++ (q.raw ∷ [])) (g.noted ++ fs) (suc m.line) (pieces (drop p.next s))) ends
            (still_kept limit s g.p g.xs g.out g.noted m.line q.raw (pieces (drop p.next s)) still onto.0 onto.1 (does D.Keep h)
            (ap (left limit g.p g.xs) q.line ∙ onto.2))

        -- the bytes of the line with its line end
        size : length (q.raw ++ (LF ∷ [])) ≡ (p.next - m.at) + late p.missing
        size =
            ap length q.text
            ∙ length-append (take (p.next - m.at) (drop m.at s)) (line_feed p.missing)
            ∙ ap₂ ◌+◌ (length-take-le (p.next - m.at) (drop m.at s) (omega (arith, q.within, length-drop m.at s))) (feed p.missing)
          where
            feed : (b : Bool) → length (line_feed b) ≡ late b
            feed true = refl
            feed false = refl

        out_size : length (joined (g.out ++ (q.raw ∷ []))) ≡ m.out + ((p.next - m.at) + late p.missing)
        out_size =
            ap length (joined_one g.out q.raw)
            ∙ length-append (joined g.out) (q.raw ++ (LF ∷ []))
            ∙ ap₂ ◌+◌ (sym g.out_is) size

        pub keep_fits : CanKeep m (p.next - m.at) (late p.missing)
        keep_fits =
            let few = out_few s _ _ _ _ _ _ kept in
            record {
              notes = λ z. record { repairs = repairs p.missing z (noted_few s _ _ _ _ _ _ kept) };
              out = omega (arith, few.0, out_size, g.bytes);
              line = omega (arith, few.1, one_line g.out q.raw, g.line_is, g.bytes);
              came = omega (arith, g.lines, g.inside, g.bytes);
            }
          where
            repairs : (b : Bool) → late b ≡ 1 → length (g.noted ++ line_end m.line b) ≤ length s + 1 → 2 * m.repairs + 1 < 2 ^ 64
            repairs true z n = omega (arith, one_fix g.noted (fix m.line lf_added), g.repairs_is, g.bytes)
            repairs false z n = absurd (omega arith)

        -- the walk after the line
        after : (b : Bool) → kept_by m (p.next - m.at) p.next b ≡
            record { at = p.next; line = m.line + 1; out = m.out + ((p.next - m.at) + late b); out_line = m.out_line + 1; repairs = m.repairs + late b }
        after true = refl
        after false =
            let a : m.out + (p.next - m.at) ≡ m.out + ((p.next - m.at) + 0) = omega arith in
            let b : m.repairs ≡ m.repairs + 0 = omega arith in
            λ i. record { at = p.next; line = m.line + 1; out = a i; out_line = m.out_line + 1; repairs = b i }

        fixed : (b : Bool) → m.repairs + late b ≡ length (g.noted ++ line_end m.line b)
        fixed true = ap (λ (k : ℕ). k + 1) g.repairs_is ∙ sym (one_fix g.noted (fix m.line lf_added))
        fixed false = omega (arith, g.repairs_is, ap length (append-nil g.noted))

        pub mending_kept : (m' : Mender) (room' list' : List ℕ) → Kept s m p room list m' room' list' → Mending s room₀ list₀ j' m' tail room' list' t' keys'
        mending_kept m' room' list' k =
            let n : suc m.line ≡ m.line + 1 = omega arith in
            rw (k.walk ∙ after p.missing)
            (record {
              p = onto.0;
              xs = onto.1;
              out = g.out ++ (q.raw ∷ []);
              noted = g.noted ++ line_end m.line p.missing;
              standing = onto.3;
              still = subst (λ (i : ℕ). Still limit s onto.0 onto.1 (g.out ++ (q.raw ∷ [])) (g.noted ++ line_end m.line p.missing) i (pieces (drop p.next s))) n kept;
              begins = λ z. q.onward (g.begins here) z;
              out_is = sym out_size;
              line_is = ap (λ (i : ℕ). i + 1) g.line_is ∙ omega (arith, one_line g.out q.raw);
              repairs_is = fixed p.missing;
              room_is =
                  stored room₀ (joined g.out) (q.raw ++ (LF ∷ [])) room room' m.out g.out_is g.room_is (k.text ∙ ap (sets room m.out) (sym q.text))
                  ∙ ap (sets room₀ 0) (sym (joined_one g.out q.raw));
              list_is =
                  stored list₀ (numbers g.noted) (numbers (line_end m.line p.missing)) list list' (2 * m.repairs) (listed_at m g.noted g.repairs_is) g.list_is k.listed
                  ∙ ap (sets list₀ 0) (sym (numbers_append g.noted (line_end m.line p.missing)));
              tail_is = λ z. absurd (let y : ◌≡◌ {A = ℕ} 0 1 = cc (sym (only_drops z) ∙ h) in omega arith);
              inside = q.within;
              lines = omega (arith, g.lines, q.more);
              bytes = g.bytes;
            })

-- ---- The end of the file

module _ (s : Bytes) (room₀ list₀ : List ℕ) (j : Judge) (m : Mender) (tail : Bool) (room list t keys : List ℕ) (g : Mending s room₀ list₀ j m tail room list t keys) where
  pub placed : Placed j t keys
  placed = record { p = g.p; xs = g.xs; standing = g.standing }

  pub room_same : length room ≡ length room₀
  room_same = ap length g.room_is ∙ length-sets room₀ 0 (joined g.out)

  pub list_same : length list ≡ length list₀
  list_same = ap length g.list_is ∙ length-sets list₀ 0 (numbers g.noted)

  module _ (h : length s ≤ m.at) where
    over_all : Still limit s g.p g.xs g.out g.noted m.line []
    over_all = subst (Still limit s g.p g.xs g.out g.noted m.line) (no_piece s m.at h) g.still

    pieces_out : mended_pieces limit s ≡ g.out
    pieces_out = over_pieces limit s g.p g.xs g.out g.noted m.line over_all

    text_out : mended_text limit s ≡ joined g.out
    unfolding mended_text
    text_out = ap joined pieces_out

    list_out : fixes limit s ≡ g.noted
    list_out = over_fixes limit s g.p g.xs g.out g.noted m.line over_all

    judged : verdict sdfile limit (mended_text limit s) ≡ end_sdfile g.p g.xs (suc (length g.out))
    judged = over_verdict limit s g.p g.xs g.out g.noted m.line over_all

    short : verdict sdfile limit (mended_text limit s) ≡ refused 19 (suc (length g.out)) 1 → (r : Mended) → r ≡ Mended.Refused 19 m.out_line 1 → Walked s room₀ list₀ r room list
    short v r e = Walked.bad v (e ∙ ap (λ (i : ℕ). Mended.Refused 19 i 1) g.line_is)

    pub mending_end : (r : Mended) → r ≡ end_of j m → Walked s room₀ list₀ r room list
    unfolding end_of starts_at
    mending_end r e = go g.p g.standing.stands.place judged
      where
        go : (p : J.Place) → j.reader.place ≡ place_of p → verdict sdfile limit (mended_text limit s) ≡ end_sdfile p g.xs (suc (length g.out)) → Walked s room₀ list₀ r room list
        go first h v =
            Walked.good v
            (e ∙ rw h (ap₂ Mended.Done (g.out_is ∙ ap length (sym text_out)) (g.repairs_is ∙ ap length (sym list_out))))
            (g.room_is ∙ ap (sets room₀ 0) (sym text_out))
            (g.list_is ∙ ap (λ (fs : List Fix). sets list₀ 0 (numbers fs)) (sym list_out))
        go (second h₁) h v = short v r (e ∙ rw h)
        go (third h₁ h₂) h v = short v r (e ∙ rw h)
        go (counts hs) h v = short v r (e ∙ rw h)
        go (atoms hs c k ys) h v = short v r (e ∙ rw h)
        go (bonds hs c ys k bs) h v = short v r (e ∙ rw h)
        go (properties hs c ys bs ps) h v = short v r (e ∙ rw h)
        go (over mol) h v = short v r (e ∙ rw h)
        go (items mol is) h v = short v r (e ∙ rw h)
        go (values mol is name vs) h v = short v r (e ∙ rw h)

-- ---- Each turn comes nearer to the end

-- a line is looked at once more after an empty line is put, and once more where the tail begins
unfoldable pub weight : Place → ℕ
weight (P.Header owed) = 0
weight P.Counts = 0
weight (P.Atoms owed) = 0
weight (P.Bonds owed) = 0
weight P.Properties = 0
weight P.Over = 0
weight P.Items = 0
weight P.Values = 2

abbrev pub turns : Bytes → Judge → Mender → Bool → ℕ
turns s j m tail = 4 * (length s - m.at) + (weight j.reader.place + cond tail 0 1)

weight_most : (p : Place) → weight p ≤ 2
unfolding weight
weight_most (P.Header owed) = omega arith
weight_most P.Counts = omega arith
weight_most (P.Atoms owed) = omega arith
weight_most (P.Bonds owed) = omega arith
weight_most P.Properties = omega arith
weight_most P.Over = omega arith
weight_most P.Items = omega arith
weight_most P.Values = omega arith

tail_most : (b : Bool) → cond b 0 1 ≤ 1
tail_most true = omega arith
tail_most false = omega arith

module _ (s : Bytes) (j : Judge) (m : Mender) (tail : Bool) (p : Piece) (q : PieceAt s m.at p) where
  passed_on : (j' : Judge) (m' : Mender) → m'.at ≡ p.next → turns s j' m' tail < turns s j m tail
  passed_on j' m' e = omega (arith, q.more, q.within, weight_most j'.reader.place, tail_most tail)

  pub less_dropped : (m' : Mender) → m' ≡ dropped_by m p.next → turns s j m' tail < turns s j m tail
  less_dropped m' e = passed_on j m' (ap (λ (x : Mender). x.at) e)

  pub less_kept : (j' : Judge) (m' : Mender) (room list room' list' : List ℕ) → Kept s m p room list m' room' list' → turns s j' m' tail < turns s j m tail
  less_kept j' m' room list room' list' k = passed_on j' m' (ap (λ (x : Mender). x.at) k.walk ∙ at p.missing)
    where
      at : (b : Bool) → (kept_by m (p.next - m.at) p.next b).at ≡ p.next
      at true = refl
      at false = refl

pub less_put : (s : Bytes) (j : Judge) (m : Mender) (tail : Bool) (j' : Judge) (m' : Mender) → j.reader.place ≡ P.Values → j' ≡ after_blank j → m' ≡ put_by m →
    turns s j' m' tail < turns s j m tail
unfolding weight
less_put s j m tail j' m' h ej em =
    let a : m'.at ≡ m.at = ap (λ (x : Mender). x.at) em in
    let b : weight j'.reader.place ≡ 0 = ap (λ (x : Judge). weight x.reader.place) ej in
    let c : weight j.reader.place ≡ 2 = ap weight h in
    omega arith

pub less_tail : (s : Bytes) (j : Judge) (m : Mender) (tail : Bool) → tail ≡ false → turns s j m true < turns s j m tail
less_tail s j m tail h = rw h (omega arith)

-- the tail begins once
pub tail_once : (j : Judge) (tail blank : Bool) (l : Line) (d : Deed) → d ≡ deed_at j tail blank l → d ≡ D.Tail → tail ≡ false
unfolding deed_at
tail_once j true blank l d e h = absurd (let z : ◌≡◌ {A = ℕ} 0 1 = cc (sym e ∙ h) in omega arith)
tail_once j false blank l d e h = refl

pub piece_low : (s : Bytes) (at : ℕ) (p : Piece) → PieceAt s at p → at ≤ p.end
piece_low s at p q = q.start

pub piece_high : (s : Bytes) (at : ℕ) (p : Piece) → PieceAt s at p → p.end ≤ length s
piece_high s at p q = omega (arith, q.end, q.within)

pub piece_next : (s : Bytes) (at : ℕ) (p : Piece) → PieceAt s at p → at ≤ p.next
piece_next s at p q = omega (arith, q.more)

pub piece_within : (s : Bytes) (at : ℕ) (p : Piece) → PieceAt s at p → p.next ≤ length s
piece_within s at p q = q.within

pub ruleset mending_laws = (
  mending_start,
  placed,
  room_same,
  list_same,
  mending_end,
  drop_notes,
  drop_fits,
  mending_dropped,
  mending_tail,
  put_fits,
  put_values,
  mending_put,
  keep_refused,
  keep_fits,
  mending_kept,
  less_dropped,
  less_kept,
  less_put,
  less_tail,
  tail_once,
  piece_low,
  piece_high,
  piece_next,
  piece_within,
)
