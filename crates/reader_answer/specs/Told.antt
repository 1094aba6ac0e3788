-- A record at the front of a text: what is told of it, and the judge's outcome.
use Rattle.std.specs.Prelude.{ℕ, suc, ◌+◌, ◌-◌, ◌≤◌, ◌≡◌, refl, List, [], ◌∷◌, ◌++◌, length, take, drop}
use Rattle.std.proofs.Common.{arith, sym, ap, ◌∙◌, subst, append-nil, length-drop, length-append, take_all, drop_at}
use Rattle.std.proofs.Math.Seq.{take-append_seam}
use Rattle.text.specs.Text.{Bytes, Line, Lines}
use Rattle.text.specs.Cut.{Cut, cut, cut_is, lines_cut}
use Rattle.rules.specs.Forms.{Atom, Bond, Property}
use Rattle.rules.specs.Record.{Molecule, Item, Raw, limit, Atoms, Bonds, Properties, Values, Items, Parts1to5, Molfile, Record}
use Rattle.rules.specs.Canon.{ItemPart}
use Rattle.rules.specs.Handed.{items_closed}
use Rattle.judge_file.specs.Place.{FileKind, molfile, sdfile}
use Rattle.judge_file.specs.Verdict.{Verdict, verdict}
use Rattle.judge_file.specs.Front.{parts_front, record_front, record_before}
use Rattle.judge_file.specs.One.{One, one_record}
use Rattle.judge_refusals.proofs.Because.{one_because}
use Rattle.judge_refusals.specs.NoRecord.{NoRecord}
use Rattle.judge_file.proofs.OneAgree.{one_whole, one_refused, one_short}
use Rattle.judge_file.specs.WalkText.{after_lines, after_cut}
use Rattle.judge_file.proofs.Promise.{accepted_mol}
use Rattle.reader_walk.specs.Outcome.{whole, refused, of_one, of_verdict, outcome_of}
use Rattle.reader_walk.specs.Stands.{molecule_lines}
use Rattle.reader_walk.specs.Asked.{apart}
use Rattle.reader_walk.specs.Promise.{RefusedAt, said_by, verdict_checked}
use Rattle.reader_answer.specs.Stretch.{Stretch, stretch_none, stretch_join, stretch_cut, stretch_after, stretch_at, after_order}
use Rattle.reader_answer.specs.Promise.{Reply, Begins, Own, Told, Refusal}

-- ---- How many lines a record has

many_atoms : {n k : ℕ} {t r : List Line} {xs : List Atom} → Atoms n k t xs r → length t ≡ length xs + length r
many_atoms Atoms.none = omega arith
many_atoms (Atoms.more h a) = omega (arith, many_atoms a)

many_bonds : {n k : ℕ} {t r : List Line} {bs : List Bond} → Bonds n k t bs r → length t ≡ length bs + length r
many_bonds Bonds.none = omega arith
many_bonds (Bonds.more h b) = omega (arith, many_bonds b)

many_properties : {n : ℕ} {t r : List Line} {ps : List Property} → Properties n t ps r → length t ≡ length ps + 1 + length r
many_properties (Properties.end h) = omega arith
many_properties (Properties.more h p) = omega (arith, many_properties p)

many_values : {t vs r : List Line} → Values t vs r → length t ≡ length vs + 1 + length r
many_values (Values.end h) = omega arith
many_values (Values.more h p) = omega (arith, many_values p)

many_parts : {t r : List Line} {m : Molecule} → Parts1to5 limit t m r → length t ≡ molecule_lines m + length r
many_parts (Parts1to5.parts h₁ h₂ h₃ c a b p q o) = omega (arith, many_atoms a, many_bonds b, many_properties q)

-- a header, its values and a blank line for each item
abbrev pub item_lines : List Item → ℕ
item_lines [] = 0
item_lines (i ∷ is) = 2 + length i.values + item_lines is

many_part : {t : List Line} {is : List Item} → ItemPart t is → length t ≡ item_lines is
many_part ItemPart.none = refl
many_part (ItemPart.more h v p) = omega (arith, many_values v, many_part p)

many_items : {t r : List Line} {is : List Item} → Items t is r → length t ≡ item_lines is + 1 + length r
many_items (Items.end h) = omega arith
many_items (Items.more h v p) = omega (arith, many_values v, many_items p)

abbrev pub lines_of : FileKind → Raw → ℕ
lines_of molfile x = molecule_lines x.molecule
lines_of sdfile x = molecule_lines x.molecule + item_lines x.items + 1

many_record : {t r : List Line} {x : Raw} → Record limit t x r → length t ≡ lines_of sdfile x + length r
many_record (Record.record_of p i) = omega (arith, many_parts p, many_items i)

many_own : (kind : FileKind) (t : List Line) (x : Raw) → Own kind t x → length t ≡ lines_of kind x
many_own molfile t x (Molfile.molfile p) = omega (arith, many_parts p)
many_own sdfile t x r = omega (arith, many_record r)

-- ---- The one reply for a record

abbrev pub items_end_of : FileKind → Raw → ℕ
items_end_of molfile x = molecule_lines x.molecule
items_end_of sdfile x = molecule_lines x.molecule + item_lines x.items

abbrev pub reply_of : FileKind → Bytes → Raw → Reply
reply_of kind s x =
    record {
      n = x.molecule.counts.atoms;
      m = x.molecule.counts.bonds;
      chiral = x.molecule.counts.chiral;
      bytes = after_lines s 0 (lines_of kind x);
      lines = lines_of kind x;
      header_end = after_lines s 0 3;
      items_start_lem = after_lines s 0 (molecule_lines x.molecule);
      items_end_lem = after_lines s 0 (items_end_of kind x);
    }

items_lines_lem : (kind : FileKind) (t ls ms : List Line) (x : Raw) → Own kind t x → length ls ≡ molecule_lines x.molecule → length ms ≡ item_lines x.items →
    length (ls ++ ms) ≡ items_end_of kind x
items_lines_lem molfile t ls ms x (Molfile.molfile p) e f = omega (arith, length-append ls ms)
items_lines_lem sdfile t ls ms x r e f = omega (arith, length-append ls ms)

pub told_reply : (kind : FileKind) (s : Bytes) (x : Raw) (w : Reply) → Told kind s x w → w ≡ reply_of kind s x
told_reply kind s x w t =
    let k = many_own kind t.own.0 x t.own.2 in
    let j = many_parts t.molecule.2 in
    let ml : length t.molecule.0 ≡ molecule_lines x.molecule = omega (arith, j) in
    let both = stretch_join s t.molecule.1 t.items.1 in
    let bytes = stretch_at s t.own.1 ∙ ap (after_lines s 0) k in
    let lines = t.own.3 ∙ k in
    let start = stretch_at s t.molecule.1 ∙ ap (after_lines s 0) ml in
    let last = stretch_at s both ∙ ap (after_lines s 0) (items_lines_lem kind t.own.0 t.molecule.0 t.items.0 x t.own.2 ml (many_part t.items.2)) in
    let head = stretch_at s t.headers in
    λ i.
    record { n = t.n i; m = t.m i; chiral = t.chiral i; bytes = bytes i; lines = lines i; header_end = head i; items_start_lem = start i; items_end_lem = last i }

-- ---- A record at the front of a text, told of

-- the first of the lines from a place on
first_lines : (s : Bytes) (a : ℕ) (ls more : List Line) → a ≤ length s → (cut (drop a s)).lines ≡ ls ++ more → Stretch s a (after_lines s a (length ls)) ls
first_lines s a ls more h e =
    let few : length ls ≤ length (cut (drop a s)).lines = omega (arith, ap length e, length-append ls more) in
    subst (Stretch s a (after_lines s a (length ls))) (ap (take (length ls)) e ∙ take-append_seam ls more) (stretch_after s a (length ls) h few)

-- three header lines, and the rest
headed : {t r : List Line} {m : Molecule} → Parts1to5 limit t m r →
    (more : List Line) × (t ≡ (m.headers.first ∷ m.headers.second ∷ m.headers.third ∷ []) ++ more)
headed (Parts1to5.parts {l = l} {t = t} h₁ h₂ h₃ c a b p q o) = (l ∷ t, refl)

module _ (s : Bytes) (m : Molecule) (r : List Line) (p : Parts1to5 limit (cut s).lines m r) where
  head_lines : Stretch s 0 (after_lines s 0 3) (m.headers.first ∷ m.headers.second ∷ m.headers.third ∷ [])
  head_lines = first_lines s 0 _ (headed p).0 (omega arith) (headed p).1

  record Middle : Type 0 where
    ls : List Line
    stretch : Stretch s 0 (after_lines s 0 (molecule_lines m)) ls
    parts : Parts1to5 limit ls m []
    after : (cut (drop (after_lines s 0 (molecule_lines m)) s)).lines ≡ r

  middle : Middle
  middle =
      let f = parts_front p in
      let own = subst (λ (t : List Line). Parts1to5 limit t m []) (append-nil f.before) (f.any []) in
      let n : length f.before ≡ molecule_lines m = omega (arith, many_parts own) in
      let st = subst (λ (k : ℕ). Stretch s 0 (after_lines s 0 k) f.before) n (first_lines s 0 f.before r (omega arith) f.parts) in
      let few : molecule_lines m ≤ length (cut (drop 0 s)).lines = omega (arith, ap length f.parts, length-append f.before r) in
      record {
        ls = f.before;
        stretch = st;
        parts = own;
        after = ap (λ (c : Cut). c.lines) (after_cut s 0 (molecule_lines m) few) ∙ ap (drop (molecule_lines m)) f.parts ∙ drop_at f.before r (molecule_lines m) n;
      }

mol_told : (s : Bytes) (x : Raw) → Molfile limit (cut s).lines x → (cut s).rest ≡ [] → Told molfile s x (reply_of molfile s x)
mol_told s x (Molfile.molfile {m = m} p) none =
    let g = middle s m [] p in
    let n : length (cut s).lines ≡ molecule_lines m = omega (arith, many_parts p) in
    record {
      n = refl;
      m = refl;
      chiral = refl;
      own = (
        (cut s).lines,
        subst (λ (k : ℕ). Stretch s 0 (after_lines s 0 k) (cut s).lines) n (first_lines s 0 (cut s).lines [] (omega arith) (sym (append-nil (cut s).lines))),
        Molfile.molfile p,
        sym n,
      );
      headers = head_lines s m [] p;
      molecule = (g.ls, g.stretch, g.parts);
      items = ([], stretch_none s (after_lines s 0 (molecule_lines m)) g.stretch.inside, ItemPart.none);
    }

sd_told : (s : Bytes) (x : Raw) (more : List Line) → Record limit (cut s).lines x more → Told sdfile s x (reply_of sdfile s x)
sd_told s x more (Record.record_of {u = u} {m = m} {is = is} p i) =
    let g = middle s m u p in
    let c = items_closed i in
    let a = after_lines s 0 (molecule_lines m) in
    let st = first_lines s a c.part (c.l ∷ more) g.stretch.inside (g.after ∙ c.lines) in
    let both = stretch_join s g.stretch st in
    let n : length (g.ls ++ c.part) ≡ molecule_lines m + item_lines is = omega (arith, length-append g.ls c.part, many_parts g.parts, many_part c.items) in
    let last = stretch_at s both ∙ ap (after_lines s 0) n in
    let f = record_front (Record.record_of p i) in
    let own = subst (λ (t : List Line). Record limit t (record { molecule = m; items = is }) []) (append-nil f.before) (f.any []) in
    let k = many_own sdfile f.before (record { molecule = m; items = is }) own in
    record {
      n = refl;
      m = refl;
      chiral = refl;
      own = (
        f.before,
        subst (λ (k : ℕ). Stretch s 0 (after_lines s 0 k) f.before) k (first_lines s 0 f.before more (omega arith) f.parts),
        own,
        sym k,
      );
      headers = head_lines s m u p;
      molecule = (g.ls, g.stretch, g.parts);
      items = (c.part, subst (λ (e : ℕ). Stretch s a e c.part) last st, c.items);
    }

pub begins_told : (kind : FileKind) (s : Bytes) (x : Raw) → Begins kind s x → Told kind s x (reply_of kind s x)
begins_told molfile s x g =
    let c = lines_cut g.1 in
    mol_told s x (subst (λ (t : List Line). Molfile limit t x) (sym (ap (λ (c : Cut). c.lines) c)) g.2) (ap (λ (c : Cut). c.rest) c)
begins_told sdfile s x g =
    sd_told s x g.2 (subst (λ (t : List Line). Record limit t x g.2) (sym (ap (λ (c : Cut). c.lines) (lines_cut g.3))) g.4)

-- ---- The judge's outcome

pub begins_outcome : (kind : FileKind) (s : Bytes) (x : Raw) → Begins kind s x → outcome_of kind s ≡ whole x (lines_of kind x)
unfolding outcome_of
begins_outcome molfile s x g =
    let n = many_own molfile g.0 x g.2 in
    ap (of_verdict (length (cut s).lines)) ((accepted_mol limit s (x ∷ [])).1 (x, refl, g.0, g.1, g.2))
    ∙ ap (whole x) (ap (λ (c : Cut). length c.lines) (lines_cut g.1) ∙ n)
begins_outcome sdfile s x g =
    let e = ap (λ (c : Cut). c.lines) (lines_cut g.3) in
    ap (λ (ls : List Line). of_one (one_record limit ls)) e
    ∙ ap of_one ((one_whole limit g.0 x (lines_of sdfile x) g.2).1 (g.4, sym (many_record g.4)))

pub whole_raw : {x y : Raw} {k j : ℕ} → whole x k ≡ whole y j → x ≡ y
whole_raw e = cc

pub whole_lines : {x y : Raw} {k j : ℕ} → whole x k ≡ whole y j → k ≡ j
whole_lines e = cc

pub outcome_begins : (kind : FileKind) (s : Bytes) (x : Raw) (k : ℕ) → outcome_of kind s ≡ whole x k → Begins kind s x
unfolding outcome_of
outcome_begins molfile s x k h = go (verdict molfile limit s) refl h
  where
    go : (v : Verdict (List Raw)) → verdict molfile limit s ≡ v → of_verdict (length (cut s).lines) v ≡ whole x k → Begins molfile s x
    go (Verdict.accepted []) e q = apart (sym q)
    go (Verdict.accepted (y ∷ ys)) e q =
        let g = (accepted_mol limit s (y ∷ ys)).0 e in
        let same : g.0 ≡ x = (let a = g.1 in let b = whole_raw q in cc) in
        subst (Begins molfile s) same (g.2, g.3, g.4)
    go (Verdict.refused e i c) h q = apart (sym q)
outcome_begins sdfile s x k h = go (one_record limit (cut s).lines) refl h
  where
    go : (o : One) → one_record limit (cut s).lines ≡ o → of_one o ≡ whole x k → Begins sdfile s x
    go (One.whole y j more) e q =
        subst (Begins sdfile s) (whole_raw q) ((cut s).lines, (cut s).rest, more, cut_is s, ((one_whole limit (cut s).lines y j more).0 e).0)
    go (One.refused e i c) h q = apart (sym q)
    go (One.short i) h q = apart (sym q)

-- a record's text has one record
pub begins_one : (kind : FileKind) (s : Bytes) (x y : Raw) → Begins kind s x → Begins kind s y → x ≡ y
begins_one kind s x y g h = whole_raw (sym (begins_outcome kind s x g) ∙ begins_outcome kind s y h)

same_numbers : {e i c e' i' c' : ℕ} → refused e i c ≡ refused e' i' c' → (e ≡ e') × (i ≡ i') × (c ≡ c')
same_numbers h = (cc, cc, cc)

pub outcome_refused : (kind : FileKind) (s : Bytes) (e i column : ℕ) → outcome_of kind s ≡ refused e i column → Refusal kind s e i column
unfolding outcome_of
outcome_refused molfile s e i column h = go (verdict molfile limit s) refl h
  where
    go : (v : Verdict (List Raw)) → verdict molfile limit s ≡ v → of_verdict (length (cut s).lines) v ≡ refused e i column → RefusedAt molfile s e i column
    go (Verdict.accepted []) w q = absurd (omega (arith, ap length ((accepted_mol limit s []).0 w).1))
    go (Verdict.accepted (y ∷ ys)) w q = apart q
    go (Verdict.refused n j d) w q =
        let v : said_by (Verdict.refused n j d) ≡ Verdict.refused e i column = (let a = same_numbers q in rw (a.0, a.1, a.2)) in
        (verdict_checked s molfile).refuses e i column (ap said_by w ∙ v)
outcome_refused sdfile s e i column h = go (one_record limit (cut s).lines) refl h
  where
    short_at : (j : ℕ) → j ≡ suc (length (cut s).lines) → NoRecord s 19 (suc (length (cut s).lines)) 1 → NoRecord s 19 j 1
    short_at j e n = subst (λ (k : ℕ). NoRecord s 19 k 1) (sym e) n

    told_as : {n j d : ℕ} → refused n j d ≡ refused e i column → NoRecord s n j d → NoRecord s e i column
    told_as {n = n} {j = j} {d = d} q r =
        let a = same_numbers q in
        subst (λ (z : ℕ). NoRecord s e i z) a.2 (subst (λ (z : ℕ). NoRecord s e z d) a.1 (subst (λ (z : ℕ). NoRecord s z j d) a.0 r))

    go : (o : One) → one_record limit (cut s).lines ≡ o → of_one o ≡ refused e i column → NoRecord s e i column
    go (One.whole y j more) w q = apart q
    go (One.refused n j d) w q =
        let f = one_refused limit (omega arith) (cut s).lines n j d w in
        told_as q (NoRecord.line (cut_is s) f.0 f.1 f.2 ((one_because limit (cut s).lines n j d).0 w))
    go (One.short j) w q =
        let f = one_short limit (omega arith) (cut s).lines j w in
        told_as q (short_at j f.0 (NoRecord.cut_short (cut_is s) f.1 f.2))

-- what is told of a record stands at the front of the text
pub told_begins : (s : Bytes) (x : Raw) (w : Reply) → Told sdfile s x w → Begins sdfile s x
told_begins s x w d =
    let more = (cut (drop w.bytes s)).lines in
    let c = ap (λ (c : Cut). c.lines) (stretch_cut s d.own.1) in
    ((cut s).lines, (cut s).rest, more, cut_is s, subst (λ (ls : List Line). Record limit ls x more) (sym c) (record_before d.own.2 more))

-- ---- The order of its places

ends_between : (kind : FileKind) (x : Raw) → (molecule_lines x.molecule ≤ items_end_of kind x) × (items_end_of kind x ≤ lines_of kind x)
ends_between molfile x = (omega arith, omega arith)
ends_between sdfile x = (omega arith, omega arith)

abbrev pub Ordered : Bytes → Reply → Type 0
Ordered s w = (w.header_end ≤ w.items_start_lem) × (w.items_start_lem ≤ w.items_end_lem) × (w.items_end_lem ≤ w.bytes) × (w.bytes ≤ length s)

pub told_order : (kind : FileKind) (s : Bytes) (x : Raw) (w : Reply) → Told kind s x w → Ordered s w
told_order kind s x w d =
    let e = told_reply kind s x w d in
    let n = many_own kind d.own.0 x d.own.2 in
    let b = ends_between kind x in
    let c = ap (λ (c : Cut). length c.lines) (stretch_cut s d.own.1) in
    let few : lines_of kind x ≤ length (cut (drop 0 s)).lines = omega (arith, n, c, length-append d.own.0 (cut (drop w.bytes s)).lines) in
    let after : (j k : ℕ) → j ≤ k → k ≤ lines_of kind x → after_lines s 0 j ≤ after_lines s 0 k = λ j k h i. after_order s 0 j k (omega arith) h (omega arith) in
    subst (Ordered s) (sym e) (
      after 3 (molecule_lines x.molecule) (omega arith) (omega arith),
      after (molecule_lines x.molecule) (items_end_of kind x) b.0 b.1,
      after (items_end_of kind x) (lines_of kind x) b.1 (omega arith),
      omega (arith, ap (λ (v : Reply). v.bytes) e, d.own.1.inside),
    )

-- a molfile takes all of the text
pub all_bytes : (s : Bytes) (x : Raw) (w : Reply) → Begins molfile s x → Told molfile s x w → w.bytes ≡ length s
all_bytes s x w g d =
    let t : take (length s - 0) (drop 0 s) ≡ s = take_all (length s - 0) (drop 0 s) (omega (arith, length-drop 0 s)) in
    let all : Stretch s 0 (length s) g.0 = record { from = omega arith; inside = omega arith; lines = subst (λ (u : Bytes). Lines u g.0 []) (sym t) g.1 } in
    stretch_at s d.own.1
    ∙ ap (after_lines s 0) (many_own molfile d.own.0 x d.own.2 ∙ sym (many_own molfile g.0 x g.2))
    ∙ sym (stretch_at s all)
