-- A file's records added to a good list leave a good list, which has each of them once: under its supplier, or as missing.
use Rattle.std.specs.Prelude.{ℕ, ◌+◌, ◌≡◌, refl, List, [], ◌∷◌, Bool, true, false, cond, ltb, leb, length}
use Rattle.std.proofs.Common.{arith, sym, ◌∙◌, subst, ltb-false, leb-false}
use Rattle.text.specs.Text.{Bytes}
use Rattle.rules.specs.Record.{Raw}
use Rattle.tally_rules.specs.Tally.{most_suppliers, longest, most_records, added, Supplier, missing, named, supplier_of}
use Rattle.tally_rules.specs.Book.{Book, Step, counted, refused, by_supplier, record_on, whole, stopped, tally_from}
use Rattle.tally_rules.proofs.InOrder.{order_kept}
use Rattle.tally_rules.specs.Counts.{sum_added, length_added, short_added}
use Rattle.tally_rules.proofs.Counts.{count_added}
use Rattle.tally_rules.specs.Kept.{OneMore, sent_by, lacking_in, Counted, tally_next, tally_stop}

-- ---- One record

abbrev missed : Book → Book
missed b = record { tallies = b.tallies; missing = b.missing + 1; total = b.total + 1 }

abbrev sent : Bytes → Book → Book
sent n b = record { tallies = added n b.tallies; missing = b.missing; total = b.total + 1 }

missed_one : (b : Book) → leb most_records b.total ≡ false → OneMore missing b (missed b)
missed_one b h =
    let l = leb-false most_records b.total h in
    record {
      total = refl;
      lacking = refl;
      each = λ m. omega arith;
      grows = omega arith;
      good = λ g. record { few = g.few; short = g.short; rising = g.rising; adds = omega (arith, g.adds); most = omega (arith, l) };
    }

sent_one_lem : (n : Bytes) (b : Book) → leb most_records b.total ≡ false → ltb longest (length n) ≡ false → ltb most_suppliers (length (added n b.tallies)) ≡ false → OneMore (named n) b (sent n b)
sent_one_lem n b h k f =
    let l = leb-false most_records b.total h in
    let s = ltb-false longest (length n) k in
    let w = ltb-false most_suppliers (length (added n b.tallies)) f in
    record {
      total = refl;
      lacking = omega arith;
      each = λ m. count_added m n b.tallies;
      grows = (length_added n b.tallies).0;
      good = λ g.
          record {
            few = w;
            short = short_added n b.tallies s g.short;
            rising = order_kept n b.tallies g.rising;
            adds = omega (arith, g.adds, sum_added n b.tallies);
            most = omega (arith, l);
          };
    }

off : {X : Type 0} {e : ℕ} {d : Book} → refused e ≡ counted d → X
off h = absurd (let z : ◌≡◌ {A = ℕ} 0 1 = cc in omega arith)

pub record_more : (s : Supplier) (b d : Book) → record_on s b ≡ counted d → OneMore s b d
unfolding record_on
record_more s b d h = go (leb most_records b.total) refl s h
  where
    by : (s : Supplier) {c : Book} → OneMore s b c → counted c ≡ counted d → OneMore s b d
    by s {c} m e = let z : c ≡ d = cc in subst (OneMore s b) z m

    name : (n : Bytes) → leb most_records b.total ≡ false → (t : Bool) → ltb longest (length n) ≡ t → (u : Bool) → ltb most_suppliers (length (added n b.tallies)) ≡ u →
        cond t (refused 23) (cond u (refused 24) (counted (sent n b))) ≡ counted d → OneMore (named n) b d
    name n l true e u f q = off q
    name n l false e true f q = off q
    name n l false e false f q = by (named n) (sent_one_lem n b l e f) q

    go : (t : Bool) → leb most_records b.total ≡ t → (s : Supplier) → cond t (refused 25) (by_supplier s b) ≡ counted d → OneMore s b d
    go true e s q = off q
    go false e missing q = by missing (missed_one b e) q
    go false e (named n) q = name n e (ltb longest (length n)) refl (ltb most_suppliers (length (added n b.tallies))) refl q

-- ---- A file

none_counted : (b : Book) → Counted [] b b
unfolding sent_by lacking_in
none_counted b = record { total = omega arith; lacking = omega arith; each = λ m. omega arith; grows = omega arith; good = λ g. g }

join_counted : (x : Raw) (xs : List Raw) (b c d : Book) → OneMore (supplier_of x) b c → Counted xs c d → Counted (x ∷ xs) b d
unfolding sent_by lacking_in
join_counted x xs b c d o f =
    record {
      total = omega (arith, o.total, f.total);
      lacking = omega (arith, o.lacking, f.lacking);
      each = λ m. omega (arith, o.each m, f.each m);
      grows = omega (arith, o.grows, f.grows);
      good = λ g. f.good (o.good g);
    }

pub total_is : (k : ℕ) (b d : Book) (xs : List Raw) → tally_from k b xs ≡ whole d → Counted xs b d
unfolding tally_from
total_is k b d [] h = let z : b ≡ d = cc in subst (Counted [] b) z (none_counted b)
total_is k b d (x ∷ xs) h = go (record_on (supplier_of x) b) refl (λ c e. total_is (k + 1) c d xs e)
  where
    go : (s : Step) → record_on (supplier_of x) b ≡ s → ((c : Book) → tally_from (k + 1) c xs ≡ whole d → Counted xs c d) → Counted (x ∷ xs) b d
    go (counted c) e again = join_counted x xs b c d (record_more (supplier_of x) b c e) (again c (sym (tally_next k b c x xs e) ∙ h))
    go (refused n) e again = let q : stopped n (k + 1) ≡ whole d = sym (tally_stop k b n x xs e) ∙ h in absurd (let z : ◌≡◌ {A = ℕ} 0 1 = cc in omega arith)
