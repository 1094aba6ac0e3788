-- The report in the facts that the code has.
use Prim.Native.Nat.{ℕ, zero, suc, ◌+◌, ◌*◌, ◌-◌, ◌≤◌, ◌<◌}
use native.Mathlib.Omega.{arith}
use Rattle.std.specs.Prelude.{◌≡◌, refl, List, [], ◌∷◌, ◌++◌, Bool, true, false, length, get_or, take, drop}
use Rattle.std.proofs.Common.{sym, ap, ap₂, ◌∙◌, append_assoc, length-append, length-take, take-take, Fits}
use Rattle.std.proofs.Math.Path.{subst}
use Rattle.std.proofs.lemmas.Bool.{false≢true}
use Rattle.std.proofs.lemmas.List.Edits.{sets}
use Rattle.std.specs.Int.{w64}
use Rattle.text.specs.Text.{Bytes, LF, byte, bytes}
use Rattle.field_numbers.specs.Write.{number_text}
use Rattle.field_numbers.specs.Written.{number_length}
use Rattle.writer_lines.specs.Laid.{Laid, Field, laid_sets, laid_join, Owes, owes_start, owes_next, owes_end}
use Rattle.tally_rules.specs.declared.Tally.{Tally}
use Rattle.tally_rules.specs.declared.Totals.{Totals}
use Rattle.tally_rules.specs.Tally.{most_suppliers, longest, name_of}
use Rattle.tally_rules.specs.Book.{Good}
use Rattle.tally_rules.specs.Report.{report_line, supplier_lines, report_of}
use Rattle.tally_flat.specs.Flat.{Memory, memory, Sized, tally_at, tallies_from, name_at}
use Rattle.tally_flat.specs.Memory.{tallies_length}
use Rattle.tally_good.specs.Judge.{book_of, good_book}
use Rattle.tally_good.specs.Agree.{good_told_lem, told_good, short_one, few_entries}
use Rattle.tally_report.specs.Reported.{total_lines, Lines, ReportReady, Reported}

-- ---- One line

pub line_length : (k : ℕ) (n : Bytes) → length (report_line k n) ≡ 8 + length n
line_length k n =
    let a = length-append (number_text 6 k) (byte " " ∷ (n ++ (LF ∷ []))) in
    let b = length-append n (LF ∷ []) in
    omega (arith, a, b, number_length 6 k)

pub line_told : {r₀ r₁ r₂ r₃ r₄ n : Bytes} {at a e f : ℕ} (k : ℕ) → at + (8 + length n) ≤ length r₀ → r₁ ≡ sets r₀ at (number_text 6 k) →
    Field r₁ r₂ (at + 6) 1 (byte " " ∷ []) a → Field r₂ r₃ a (length n) n e → Field r₃ r₄ e 1 (LF ∷ []) f → Laid r₀ r₄ at (report_line k n) f
line_told {r₀ = r₀} {r₁ = r₁} {r₄ = r₄} {n = n} {at = at} {f = f} k room e₁ p q r =
    let one = laid_sets r₀ r₁ at (number_text 6 k) (at + 6) (omega (arith, number_length 6 k)) (omega arith) e₁ in
    let all = laid_join (laid_join (laid_join one p.laid) q.laid) r.laid in
    let same : ((number_text 6 k ++ (byte " " ∷ [])) ++ n) ++ (LF ∷ []) ≡ report_line k n =
    append_assoc (number_text 6 k ++ (byte " " ∷ [])) n (LF ∷ []) ∙ append_assoc (number_text 6 k) (byte " " ∷ []) (n ++ (LF ∷ [])) in
    subst (λ (t : Bytes). Laid r₀ r₄ at t f) same all

-- ---- The lines of the suppliers

name_is : (m : Memory) (i : ℕ) → get_or m.lengths i 0 ≤ longest → name_of (tally_at m i) ≡ name_at m.names m.lengths i
name_is m i h = take-take (get_or m.lengths i 0) longest (drop (longest * i) m.names) h

name_short : (m : Memory) (i : ℕ) → get_or m.lengths i 0 ≤ longest → length (name_of (tally_at m i)) ≤ longest
name_short m i h =
    let a = length-take (get_or m.lengths i 0) (take longest (drop (longest * i) m.names)) in
    omega (arith, a, h)

lines_length : (m : Memory) (i k : ℕ) → ((j : ℕ) → i ≤ j → j < i + k → get_or m.lengths j 0 ≤ longest) → length (supplier_lines (tallies_from m i k)) ≤ 32 * k
unfolding supplier_lines tallies_from
lines_length m i zero h = omega arith
lines_length m i (suc k) h =
    let a = length-append (report_line (get_or m.counts i 0) (name_of (tally_at m i))) (supplier_lines (tallies_from m (i + 1) k)) in
    let b = line_length (get_or m.counts i 0) (name_of (tally_at m i)) in
    let c = name_short m i (h i (omega arith) (omega arith)) in
    let d = lines_length m (i + 1) k (λ j l u. h j (omega arith) (omega arith)) in
    omega (arith, a, b, c, d)

-- the first i lines are put, and the others are still owed from place e on
pub record Putting (m : Memory) (used : ℕ) (r₀ r : Bytes) (e i : ℕ) : Type 0 where
  pub ready : Lines m used (length r₀)
  pub inside : i ≤ used
  pub owes : Owes r₀ r 0 e (supplier_lines (tallies_from m 0 used)) (supplier_lines (tallies_from m i (used - i)))

pub putting_start : (m : Memory) (used : ℕ) (r : Bytes) → Lines m used (length r) → Putting m used r r 0 0
putting_start m used r g =
    let z : used ≡ used - 0 = omega arith in
    let l = lines_length m 0 used (λ j a b. g.short j (omega arith)) in
    record {
      ready = g;
      inside = omega arith;
      owes = subst (λ (k : ℕ). Owes r r 0 0 (supplier_lines (tallies_from m 0 used)) (supplier_lines (tallies_from m 0 k))) z
          (owes_start r 0 (supplier_lines (tallies_from m 0 used)) (omega (arith, l, g.few, g.room)));
    }

module _ (m : Memory) (used : ℕ) (r₀ r : Bytes) (e i : ℕ) (g : Putting m used r₀ r e i) where
  pub putting_end : used ≤ i → Laid r₀ r 0 (supplier_lines (tallies_from m 0 used)) e
  unfolding supplier_lines tallies_from
  putting_end h =
      let z : used - i ≡ 0 = omega arith in
      owes_end (subst (λ (k : ℕ). Owes r₀ r 0 e (supplier_lines (tallies_from m 0 used)) (supplier_lines (tallies_from m i k))) z g.owes)

  pub putting_size : length r ≡ length r₀
  putting_size = g.owes.size

  module _ (h : i < used) where
    pub putting_lengths : i < length m.lengths
    putting_lengths = omega (arith, h, g.ready.few, g.ready.sized.lengths)

    pub putting_counts : i < length m.counts
    putting_counts = omega (arith, h, g.ready.few, g.ready.sized.counts)

    pub putting_short : get_or m.lengths i 0 ≤ longest
    putting_short = g.ready.short i h

    pub putting_cast : Fits w64 (get_or m.lengths i 0)
    putting_cast = record { fits = omega (arith, putting_short) }

    pub putting_bytes : longest * i + get_or m.lengths i 0 ≤ length m.names
    putting_bytes = omega (arith, putting_short, h, g.ready.few, g.ready.sized.names)

    pub putting_sum : Fits w64 (longest * i + get_or m.lengths i 0)
    putting_sum = record { fits = omega (arith, putting_bytes, g.ready.sized.names) }

    owed : Owes r₀ r 0 e (supplier_lines (tallies_from m 0 used)) (report_line (get_or m.counts i 0) (name_at m.names m.lengths i) ++ supplier_lines (tallies_from m (i + 1) (used - (i + 1))))
    unfolding supplier_lines tallies_from
    owed =
        let z : used - i ≡ suc (used - (i + 1)) = omega arith in
        let o = subst (λ (k : ℕ). Owes r₀ r 0 e (supplier_lines (tallies_from m 0 used)) (supplier_lines (tallies_from m i k))) z g.owes in
        subst (λ (n : Bytes). Owes r₀ r 0 e (supplier_lines (tallies_from m 0 used)) (report_line (get_or m.counts i 0) n ++ supplier_lines (tallies_from m (i + 1) (used - (i + 1))))) (name_is m i putting_short) o

    module _ (to : ℕ) (et : to ≡ longest * i + get_or m.lengths i 0) where
      part : take (to - longest * i) (drop (longest * i) m.names) ≡ name_at m.names m.lengths i
      part = let z : to - longest * i ≡ get_or m.lengths i 0 = omega (arith, et) in ap (λ (k : ℕ). take k (drop (longest * i) m.names)) z

      pub putting_room : e + (8 + length (take (to - longest * i) (drop (longest * i) m.names))) ≤ length r
      putting_room =
          let a = length-append (report_line (get_or m.counts i 0) (name_at m.names m.lengths i)) (supplier_lines (tallies_from m (i + 1) (used - (i + 1)))) in
          let b = line_length (get_or m.counts i 0) (name_at m.names m.lengths i) in
          let c = ap length part in
          omega (arith, a, b, c, owed.next, owed.fits, owed.size)

      pub putting_next : (r' : Bytes) (f : ℕ) → Laid r r' e (report_line (get_or m.counts i 0) (take (to - longest * i) (drop (longest * i) m.names))) f → Putting m used r₀ r' f (i + 1)
      putting_next r' f l =
          record {
            ready = g.ready;
            inside = omega arith;
            owes = owes_next owed (subst (λ (n : Bytes). Laid r r' e (report_line (get_or m.counts i 0) n) f) part l);
          }

-- ---- The whole

pub totals_told : {r₀ r₁ r₂ : Bytes} {at e f : ℕ} (missing total : ℕ) → Laid r₀ r₁ at (report_line missing (bytes "missing")) e → Laid r₁ r₂ e (report_line total (bytes "total")) f → Laid r₀ r₂ at (total_lines missing total) f
totals_told missing total p q = laid_join p q

pub totals_room : {r₀ r₁ : Bytes} {at e : ℕ} (missing : ℕ) → at + 28 ≤ length r₀ → Laid r₀ r₁ at (report_line missing (bytes "missing")) e → e + 13 ≤ length r₁
totals_room missing h p = omega (arith, h, p.next, p.size, line_length missing (bytes "missing"))

module _ (m : Memory) (t : Totals) where
  pub good_lines : (room : ℕ) → ReportReady m t room → Lines m t.entries room
  good_lines room g = record { sized = g.sized; few = few_entries m t g.good; short = short_one m t g.good; room = omega (arith, g.room) }

  pub good_room : (r₀ r₁ : Bytes) (e : ℕ) → ReportReady m t (length r₀) → Laid r₀ r₁ 0 (supplier_lines (tallies_from m 0 t.entries)) e → e + 28 ≤ length r₁
  good_room r₀ r₁ e g p =
      let l = lines_length m 0 t.entries (λ j a b. short_one m t g.good j (omega arith)) in
      omega (arith, l, p.next, p.size, g.room, few_entries m t g.good)

  pub good_report : (r₀ r₁ r₂ : Bytes) (e f : ℕ) → ReportReady m t (length r₀) → Laid r₀ r₁ 0 (supplier_lines (tallies_from m 0 t.entries)) e → Laid r₁ r₂ e (total_lines t.missing t.total) f →
      Reported m t r₀ f r₂
  unfolding report_of
  good_report r₀ r₁ r₂ e f g p q =
      let all = laid_join p q in
      record { text = λ _. (omega (arith, all.next), all.same); nothing = λ n. absurd (n g) }

  none : (r : Bytes) → ¬ ReportReady m t (length r) → Reported m t r 0 r
  none r n = record { text = λ g. absurd (n g); nothing = λ _. (refl, refl) }

  pub none_room : (r : Bytes) → length r < 2076 → Reported m t r 0 r
  none_room r h = none r (λ g. omega (arith, h, g.room))

  pub none_names : (r : Bytes) → (length m.names ≡ 1536 → ⊥) → Reported m t r 0 r
  none_names r h = none r (λ g. h g.sized.names)

  pub none_lengths : (r : Bytes) → (length m.lengths ≡ 64 → ⊥) → Reported m t r 0 r
  none_lengths r h = none r (λ g. h g.sized.lengths)

  pub none_counts : (r : Bytes) → (length m.counts ≡ 64 → ⊥) → Reported m t r 0 r
  none_counts r h = none r (λ g. h g.sized.counts)

  module _ {a : Bool} (ea : a ≡ good_book (book_of m t)) where
    pub none_good : (r : Bytes) → a ≡ false → Reported m t r 0 r
    none_good r h = none r (λ g. false≢true (sym h ∙ ea ∙ told_good (book_of m t) g.good))

    pub ready_good : (r : Bytes) → Sized m → 2076 ≤ length r → a ≡ true → ReportReady m t (length r)
    ready_good r z l h = record { sized = z; good = good_told_lem (book_of m t) (sym ea ∙ h); room = l }
