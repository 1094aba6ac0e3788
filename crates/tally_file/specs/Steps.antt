-- One record, in the facts that the code has.
use Rattle.std.specs.Prelude.{ℕ, ◌+◌, ◌-◌, ◌≤◌, ◌<◌, List, ◌++◌, Bool, drop}
use Rattle.std.proofs.Common.{arith, sym, ap, ◌∙◌, subst, drop-drop}
use Rattle.std.proofs.Math.Path.{◌≡◌, refl}
use Rattle.std.proofs.Math.Bool.{true, false, cond}
use Rattle.std.proofs.Math.Dec.{ltb}
use Rattle.std.proofs.Math.ListN.{length}
use Rattle.std.proofs.Math.Seq.{drop-append-add}
use borrow.Author.Tests.{le-ltb, lt-ltb, le-leb, lt-leb, ltb-false}
use Rattle.text.specs.Text.{Bytes}
use Rattle.tally_rules.specs.declared.Tally.{Tally}
use Rattle.tally_rules.specs.declared.Totals.{Totals}
use Rattle.tally_rules.specs.Tally.{most_suppliers, longest, most_records, Supplier, missing, named}
use Rattle.tally_rules.specs.Tally as T
use Rattle.tally_rules.specs.Book.{Book, with_name, by_supplier, record_on}
use Rattle.tally_rules.specs.Book as B
use Rattle.tally_flat.specs.declared.Added.{Added}
use Rattle.tally_flat.specs.Flat.{Memory, tallies_from, tallies_in, AddReady, added_of, laid, AddedTo}
use Rattle.tally_flat.specs.Memory.{tallies_length, front_add, front_drop}
use Rattle.tally_good.specs.Judge.{book_of}
use Rattle.tally_good.specs.Agree.{short_one, small_one, few_entries}
use Rattle.tally_file.specs.declared.Step.{Step}
use Rattle.tally_file.specs.Count.{CountReady, ListReady, step_of, laid_step, Stepped, supplier_at}

-- ---- Tallies over the first of a list

-- what lies past them is as it was, also where fewer had been laid before
pub laid_twice : (ts us all : List Tally) → length ts ≤ length us → laid us (laid ts all) ≡ laid us all
laid_twice ts us all h =
    let e : length us ≡ length ts + (length us - length ts) = omega arith in
    ap (λ (xs : List Tally). us ++ xs)
    (ap (λ (k : ℕ). drop k (ts ++ drop (length ts) all)) e
    ∙ drop-append-add ts (drop (length ts) all) (length us - length ts)
    ∙ drop-drop (length us - length ts) (length ts) all
    ∙ ap (λ (k : ℕ). drop k all) (sym e))

pub laid_self : (m : Memory) (used : ℕ) → used ≤ most_suppliers → tallies_in m ≡ laid (tallies_from m 0 used) (tallies_in m)
laid_self m used h =
    let e : most_suppliers ≡ used + (most_suppliers - used) = omega arith in
    ap (tallies_from m 0) e ∙ front_add m used (most_suppliers - used)
    ∙ ap (λ (xs : List Tally). tallies_from m 0 used ++ xs) (sym (ap (λ (k : ℕ). drop k (tallies_in m)) (tallies_length m 0 used) ∙ front_drop m used most_suppliers h))

-- ---- A name

module _ (m : Memory) (t : Totals) (n : Bytes) (g : CountReady m t) where
  abbrev b : Book
  b = book_of m t

  abbrev Told : Step → Memory → Type 0
  Told r m' = (r ≡ step_of (with_name n b)) × Stepped (with_name n b) m m'

  pub name_long : longest < length n → Told (Step.Refused 23) m
  name_long h = let e = lt-ltb longest (length n) h in (rw e, record { sized = g.sized; tallies = rw e })

  module _ (h : length n ≤ longest) where
    pub name_ready : AddReady m t.entries n
    name_ready = record { sized = g.sized; few = few_entries m t g.good; name = h; short = short_one m t g.good; small = small_one m t g.good }

    module _ (r : Added) (er : r ≡ added_of m t.entries n) (m' : Memory) (a : AddedTo m t.entries n m') where
      abbrev us : List Tally
      us = T.added n (tallies_from m 0 t.entries)

      not_long : ltb longest (length n) ≡ false
      not_long = le-ltb longest (length n) h

      pub name_full : r ≡ Added.Full → Told (Step.Refused 24) m'
      unfolding added_of
      name_full q = go (ltb most_suppliers (length us)) refl (sym er ∙ q)
        where
          go : (c : Bool) → ltb most_suppliers (length us) ≡ c → cond c Added.Full (Added.Now (length us)) ≡ Added.Full → Told (Step.Refused 24) m'
          go true e z = (rw (not_long, e), record { sized = a.sized; tallies = a.tallies ∙ rw (not_long, e) })
          go false e z = absurd (let z : ◌≡◌ {A = ℕ} 0 1 = cc in omega arith)

      pub name_now : (used : ℕ) → r ≡ Added.Now used → Told (Step.Counted (record { entries = used; missing = t.missing; total = t.total + 1 })) m'
      unfolding added_of
      name_now used q = go (ltb most_suppliers (length us)) refl (sym er ∙ q)
        where
          go : (c : Bool) → ltb most_suppliers (length us) ≡ c → cond c Added.Full (Added.Now (length us)) ≡ Added.Now used →
              Told (Step.Counted (record { entries = used; missing = t.missing; total = t.total + 1 })) m'
          go true e z = absurd (let z : ◌≡◌ {A = ℕ} 0 1 = cc in omega arith)
          go false e z =
              let k : length us ≡ used = cc in
              (rw (not_long, e) (ap (λ (j : ℕ). Step.Counted (record { entries = j; missing = t.missing; total = t.total + 1 })) (sym k)), record { sized = a.sized; tallies = a.tallies ∙ rw (not_long, e) })

      pub name_small : (used : ℕ) → r ≡ Added.Now used → used ≤ most_suppliers
      unfolding added_of
      name_small used q = go (ltb most_suppliers (length us)) refl (sym er ∙ q)
        where
          go : (c : Bool) → ltb most_suppliers (length us) ≡ c → cond c Added.Full (Added.Now (length us)) ≡ Added.Now used → used ≤ most_suppliers
          go true e z = absurd (let z : ◌≡◌ {A = ℕ} 0 1 = cc in omega arith)
          go false e z =
              let k : length us ≡ used = cc in
              omega (arith, k, ltb-false most_suppliers (length us) e)

-- ---- A record

module _ (s : Bytes) (m : Memory) (t : Totals) (g : ListReady m t) where
  abbrev book : Book
  book = book_of m t

  abbrev Says : Step → Memory → Type 0
  Says r m' = (r ≡ step_of (record_on (supplier_at s) book)) × Stepped (record_on (supplier_at s) book) m m'

  pub record_top : most_records ≤ t.total → Says (Step.Refused 25) m
  unfolding record_on
  record_top h = let e = le-leb most_records t.total h in (rw e, record { sized = g.sized; tallies = rw e })

  module _ (h : t.total < most_records) where
    pub record_ready : CountReady m t
    record_ready = record { sized = g.sized; good = g.good; below = h }

    is_by : (q : Supplier) → supplier_at s ≡ q → record_on (supplier_at s) book ≡ by_supplier q book
    unfolding record_on
    is_by q e = rw (lt-leb most_records t.total h) (ap (λ (x : Supplier). by_supplier x book) e)

    pub record_named : (n : Bytes) → supplier_at s ≡ named n → (r : Step) (m' : Memory) → r ≡ step_of (with_name n book) → Stepped (with_name n book) m m' → Says r m'
    record_named n e r m' er st = let z = is_by (named n) e in (er ∙ sym (ap step_of z), subst (λ (p : B.Step). Stepped p m m') (sym z) st)

    pub record_missing : supplier_at s ≡ missing → (t' : Totals) → t' ≡ record { entries = t.entries; missing = t.missing + 1; total = t.total + 1 } → Says (Step.Counted t') m
    record_missing e t' et =
        let z = is_by missing e in
        let k = tallies_length m 0 t.entries in (
          ap Step.Counted (et ∙ ap (λ (j : ℕ). record { entries = j; missing = t.missing + 1; total = t.total + 1 }) (sym k)) ∙ sym (ap step_of z),
          record { sized = g.sized; tallies = laid_self m t.entries (few_entries m t g.good) ∙ sym (ap (λ (p : B.Step). laid_step p (tallies_in m)) z) },
        )
