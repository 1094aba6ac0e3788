-- The table of bonds after a reading is one that can be split; the promise at both ends of the code; one answer and one memory.
use Rattle.std.specs.Prelude.{ℕ, zero, suc, ◌-◌, ◌*◌, ◌≤◌, ◌<◌, ◌≡◌, refl, List, [], ◌∷◌, ◌++◌, map, Bool, true, false, ltb, ℤ, pos, length, get_or, drop, replicate}
use Rattle.std.proofs.Common.{arith, sym, ap, ap₂, ◌∙◌, subst, ltb-true, ltb-false, le-leb}
use Rattle.std.proofs.lemmas.List.{get_or-replicate, length-replicate}
use Rattle.std.proofs.Math.ListN.{get_or-eq_default}
use Rattle.std.proofs.lemmas.Bool.{lt-leb}
use Rattle.text.specs.Text.{Bytes}
use Rattle.rules.specs.Forms.{Bond}
use Rattle.rules.specs.Record.{Raw, limit, Molfile, Record}
use Rattle.rules.specs.Meaning.{meaning, bond_numbers}
use Rattle.reader_tables.specs.Row.{flat}
use Rattle.judge_file.specs.Place.{FileKind, molfile, sdfile}
use Rattle.judge_file.specs.Verdict.{Verdict, accepted, refused}
use Rattle.judge_file.specs.SameVerdict.{accepted_refused, same_reason}
use Rattle.reader_answer.specs.declared.RecordRead.{RecordRead}
use Rattle.reader_answer.specs.Read.{rows_in}
use Rattle.reader_answer.specs.Promise.{Reply, Begins, Roomy, ReadPromise, kind_number}
use Rattle.reader_answer.specs.Promise as R
use Rattle.reader_answer.specs.Told.{begins_told, reply_of}
use Rattle.reader_answer.specs.Promised.{read_one}
use Rattle.piece_rules.specs.Inside.{Joined, joined}
use Rattle.piece_rules.specs.One.{one_labels, one_count, one_heads, one_sizes}
use Rattle.piece_labels.specs.Table.{BondTable, bonds_in}
use Rattle.piece_labels.specs.Rows.{rows_of, filled_table, filled_bonds}
use Rattle.piece_list.specs.Listing.{Blank}
use Rattle.piece_record.specs.declared.RecordSplit.{RecordSplit}
use Rattle.piece_record.specs.Promise.{Counts, numbers_of, Lists, lists_of, zeros, lists_after, SplitInto, SplitPromise}

-- ---- After a refusal

pub lists_kept : (e : ℕ) (was : Lists) → e ≤ 2 → was ≡ lists_after e was
unfolding lists_after
lists_kept e was h = rw (le-leb e 2 h)

pub lists_zero : (e : ℕ) (was : Lists) → 2 < e → lists_of zeros zeros zeros ≡ lists_after e was
unfolding lists_after
lists_zero e was h = rw (lt-leb e 2 h)

pub lists_zeros : (e : ℕ) (was : Lists) → 2 < e → lists_of (replicate limit 0) (replicate limit 0) (replicate limit 0) ≡ lists_after e was
unfolding zeros
lists_zeros e was h = lists_zero e was h

-- lists that are laid anew hold zeros
pub blank : Blank (replicate limit 0)
blank = record { room = length-replicate {A = ℕ} limit 0; zeros = λ j. go j (ltb j limit) refl }
  where
    go : (j : ℕ) (t : Bool) → ltb j limit ≡ t → ◌≡◌ {A = ℕ} (get_or (replicate limit 0) j 0) 0
    go j true e = get_or-replicate limit j 0 0 (ltb-true j limit e)
    go j false e =
        let past : length {A = ℕ} (replicate limit 0) ≤ j = omega (arith, ltb-false j limit e, length-replicate {A = ℕ} limit 0) in
        get_or-eq_default (replicate limit 0) 0 past

-- ---- The table of bonds after a reading

begins_joined : (k : FileKind) (s : Bytes) (x : Raw) → Begins k s x → Joined x.molecule
begins_joined molfile s x g = mol g.2
  where
    mol : {ls : List _} {y : Raw} → Molfile limit ls y → Joined y.molecule
    mol (Molfile.molfile p) = joined p
begins_joined sdfile s x g = sd g.4
  where
    sd : {ls more : List _} {y : Raw} → Record limit ls y more → Joined y.molecule
    sd (Record.record_of p i) = joined p

rows_flat : (bs : List Bond) → flat (map bond_numbers bs) ≡ rows_of bs
unfolding flat rows_of
rows_flat [] = refl
rows_flat (b ∷ bs) = ap (λ (t : List ℤ). bond_numbers b ++ t) (rows_flat bs)

-- a table of n atoms' m bonds, and these are the record's
pub record Holds (x : Raw) (n m : ℕ) (t : List ℤ) : Type 0 where
  pub atoms : n ≡ x.molecule.counts.atoms
  pub table : BondTable n m t
  pub bonds : bonds_in t m ≡ x.molecule.bonds

holds : (x : Raw) (rest : List ℤ) (n m : ℕ) (t : List ℤ) → Joined x.molecule → n ≡ x.molecule.counts.atoms → m ≡ x.molecule.counts.bonds →
    t ≡ flat (meaning x).bonds ++ rest → Holds x n m t
unfolding meaning
holds x rest n m t j en em e =
    let bs = x.molecule.bonds in
    let many : length bs ≡ m = j.bonds ∙ sym em in
    let is : t ≡ rows_of bs ++ rest = e ∙ ap (λ (vs : List ℤ). vs ++ rest) (rows_flat bs) in
    record {
      atoms = en;
      table =
          subst (λ (k : ℕ). BondTable n k t) many
          (subst (λ (u : List ℤ). BondTable n (length bs) u) (sym is)
          (subst (λ (k : ℕ). BondTable k (length bs) (rows_of bs ++ rest)) (sym en) (filled_table x.molecule.counts.atoms bs rest j.few j.inside)));
      bonds = ap (λ (k : ℕ). bonds_in t k) (sym many) ∙ ap (λ (u : List ℤ). bonds_in u (length bs)) is ∙ filled_bonds bs rest;
    }

-- what follows the rows of a reading
behind : ℕ → List ℤ → List ℤ → List ℤ
behind cap tb vs = replicate (cap - length vs) (pos 0) ++ drop cap tb

rows_in_lem : (cap : ℕ) (tb vs : List ℤ) → rows_in cap tb vs ≡ vs ++ behind cap tb vs
unfolding rows_in behind
rows_in_lem cap tb vs = refl

atoms_said : Verdict Reply → ℕ
atoms_said (accepted w) = w.n
atoms_said (refused e i column) = 0

bonds_said : Verdict Reply → ℕ
bonds_said (accepted w) = w.m
bonds_said (refused e i column) = 0

-- ---- An accepted reading

-- of a known kind, into tables with room, of a record at the front of the text
pub record Found (kind : ℕ) (s : Bytes) (ta tb : List ℤ) : Type 0 where
  pub k : FileKind
  pub is : kind ≡ kind_number k
  pub room : Roomy ta tb
  pub x : Raw
  pub begins : Begins k s x

module _ (kind : ℕ) (s : Bytes) (ta tb ta' tb' : List ℤ) (n m chiral len lines h a b : ℕ)
    (p : ReadPromise kind s ta tb (RecordRead.Read n m chiral len lines h a b) ta' tb') where
  reply : Reply
  reply = record { n = n; m = m; chiral = chiral; bytes = len; lines = lines; header_end = h; items_start_lem = a; items_end_lem = b }

  roomy : kind ≤ 1 → Roomy ta tb
  roomy few = go (ltb (length ta) (16 * limit)) refl (ltb (length tb) (6 * limit)) refl
    where
      none : {X : Type 0} → ¬ Roomy ta tb → X
      none no_room = accepted_refused (p.no_room few no_room).0

      go : (t : Bool) → ltb (length ta) (16 * limit) ≡ t → (u : Bool) → ltb (length tb) (6 * limit) ≡ u → Roomy ta tb
      go true e u f = none (λ y. omega (arith, ltb-true (length ta) (16 * limit) e, y.atoms))
      go false e true f = none (λ y. omega (arith, ltb-true (length tb) (6 * limit) f, y.bonds))
      go false e false f = record { atoms = ltb-false (length ta) (16 * limit) e; bonds = ltb-false (length tb) (6 * limit) f }

  at_kind : (k : FileKind) → kind ≡ kind_number k → kind ≤ 1 → Found kind s ta tb
  at_kind k e few =
      let x = ((p.reads k e (roomy few)).accepts _).0 refl in
      record { k = k; is = e; room = roomy few; x = x.0; begins = x.1 }

  pub found : Found kind s ta tb
  found = go kind refl
    where
      go : (i : ℕ) → kind ≡ i → Found kind s ta tb
      go zero e = at_kind molfile e (omega arith)
      go (suc zero) e = at_kind sdfile e (omega arith)
      go (suc (suc i)) e = accepted_refused (p.other_kind (omega arith)).0

  pub record_holds : (k : FileKind) → kind ≡ kind_number k → Roomy ta tb → (x : Raw) → Begins k s x → Holds x n m tb'
  unfolding atoms_said bonds_said
  record_holds k e room x g =
      let q = ((p.reads k e room).accepts (reply_of k s x)).1 (x, g, begins_told k s x g) in
      holds x _ n m tb' (begins_joined k s x g) (ap atoms_said q) (ap bonds_said q) (((p.reads k e room).rows x g).1 ∙ rows_in_lem _ tb (flat (meaning x).bonds))

  pub table_holds : BondTable n m tb'
  table_holds = (record_holds found.k found.is found.room found.x found.begins).table

-- ---- The promise, as the code comes to its two ends

pub read_table : (kind : ℕ) (s : Bytes) (ta tb : List ℤ) (q : RecordRead) (ta' tb' : List ℤ) (n m chiral len lines h a b : ℕ) →
    ReadPromise kind s ta tb q ta' tb' → q ≡ RecordRead.Read n m chiral len lines h a b → BondTable n m tb'
read_table kind s ta tb q ta' tb' n m chiral len lines h a b p e =
    table_holds kind s ta tb ta' tb' n m chiral len lines h a b (subst (λ (z : RecordRead). ReadPromise kind s ta tb z ta' tb') e p)

pub promise_split : (kind : ℕ) (s : Bytes) (ta tb : List ℤ) (was : Lists) (q : RecordRead) (ta' tb' : List ℤ) (n m chiral len lines h a b : ℕ) (r : RecordSplit) (after : Lists) →
    ReadPromise kind s ta tb q ta' tb' → q ≡ RecordRead.Read n m chiral len lines h a b → SplitInto n (bonds_in tb' m) r after →
    SplitPromise kind s ta tb was r ta' tb' after
promise_split kind s ta tb was q ta' tb' n m chiral len lines h a b r after p e i =
    record {
      reading = q;
      reads = p;
      splits = λ k f room x g.
          let d = record_holds kind s ta tb ta' tb' n m chiral len lines h a b (subst (λ (z : RecordRead). ReadPromise kind s ta tb z ta' tb') e p) k f room x g in
          subst (λ (bs : List Bond). SplitInto x.molecule.counts.atoms bs r after) d.bonds
          (subst (λ (j : ℕ). SplitInto j (bonds_in tb' m) r after) d.atoms i);
      refuses = λ e₀ line column f. accepted_refused (sym (ap R.numbers_of e) ∙ f);
    }

pub promise_refused : (kind : ℕ) (s : Bytes) (ta tb : List ℤ) (was : Lists) (q : RecordRead) (ta' tb' : List ℤ) (e₀ line column : ℕ) (r : RecordSplit) (after : Lists) →
    ReadPromise kind s ta tb q ta' tb' → q ≡ RecordRead.Refused e₀ line column → r ≡ RecordSplit.Refused e₀ line column → after ≡ lists_after e₀ was →
    SplitPromise kind s ta tb was r ta' tb' after
promise_refused kind s ta tb was q ta' tb' e₀ line column r after p e f g =
    record {
      reading = q;
      reads = p;
      splits = λ k i room x d. accepted_refused (sym (((p.reads k i room).accepts (reply_of k s x)).1 (x, d, begins_told k s x d)) ∙ ap R.numbers_of e);
      refuses = λ e₁ line' column' h.
          same_reason (λ (n j d : ℕ). (numbers_of r ≡ refused n j d) × (after ≡ lists_after n was)) (sym (ap R.numbers_of e) ∙ h) (ap numbers_of f, g);
    }

-- ---- One answer and one memory

back_of : Verdict Counts → RecordSplit
back_of (accepted c) = RecordSplit.Pieces c.atoms c.pieces
back_of (refused e line column) = RecordSplit.Refused e line column

same_split : (r r' : RecordSplit) → numbers_of r ≡ numbers_of r' → r ≡ r'
unfolding back_of
same_split r r' e = sym (back r) ∙ ap back_of e ∙ back r'
  where
    back : (r : RecordSplit) → back_of (numbers_of r) ≡ r
    back (RecordSplit.Pieces n c) = refl
    back (RecordSplit.Refused e line column) = refl

module _ (kind : ℕ) (s : Bytes) (ta tb : List ℤ) (was : Lists) (r r' : RecordSplit) (a b a' b' : List ℤ) (l l' : Lists)
    (p : SplitPromise kind s ta tb was r a b l) (q : SplitPromise kind s ta tb was r' a' b' l') where
  same_reading : (p.reading ≡ q.reading) × (a ≡ a') × (b ≡ b')
  same_reading = read_one s ta tb kind p.reading q.reading a b a' b' p.reads q.reads

  same_into : (n : ℕ) (bs : List Bond) → n ≤ limit → SplitInto n bs r l → SplitInto n bs r' l' → (r ≡ r') × (l ≡ l')
  same_into n bs few i j =
      let one_of_lem = one_count n bs l.labels l'.labels l.heads l'.heads l.sizes l'.sizes i.count j.count few (i.rooms.0, j.rooms.0) (i.rooms.1, j.rooms.1) (i.rooms.2, j.rooms.2) i.split j.split in
      let ls = one_labels n bs l.labels l'.labels l.heads l'.heads l.sizes l'.sizes i.count j.count few (i.rooms.0, j.rooms.0) (i.rooms.1, j.rooms.1) (i.rooms.2, j.rooms.2) i.split j.split in
      let hs = one_heads n bs l.labels l'.labels l.heads l'.heads l.sizes l'.sizes i.count j.count few (i.rooms.0, j.rooms.0) (i.rooms.1, j.rooms.1) (i.rooms.2, j.rooms.2) i.split j.split in
      let ss = one_sizes n bs l.labels l'.labels l.heads l'.heads l.sizes l'.sizes i.count j.count few (i.rooms.0, j.rooms.0) (i.rooms.1, j.rooms.1) (i.rooms.2, j.rooms.2) i.split j.split in
      (same_split r r' (i.answer ∙ ap (λ (c : ℕ). accepted (record { atoms = n; pieces = c })) one_of_lem ∙ sym j.answer), λ z. record { labels = ls z; heads = hs z; sizes = ss z })

  same_lists : (d : RecordRead) → p.reading ≡ d → (r ≡ r') × (l ≡ l')
  same_lists (RecordRead.Refused e i c) h =
      let x = p.refuses e i c (ap R.numbers_of h) in
      let y = q.refuses e i c (ap R.numbers_of (sym same_reading.0 ∙ h)) in
      (same_split r r' (x.0 ∙ sym y.0), x.1 ∙ sym y.1)
  same_lists (RecordRead.Read n m chiral len lines hd at to) h =
      let f = found kind s ta tb a b n m chiral len lines hd at to (subst (λ (z : RecordRead). ReadPromise kind s ta tb z a b) h p.reads) in
      let x = f.x in
      same_into x.molecule.counts.atoms x.molecule.bonds (begins_joined f.k s x f.begins).few (p.splits f.k f.is f.room x f.begins)
      (q.splits f.k f.is f.room x f.begins)

  pub split_one : (r ≡ r') × (a ≡ a') × (b ≡ b') × (l ≡ l')
  split_one = let x = same_lists p.reading refl in (x.0, same_reading.1, same_reading.2, x.1)
