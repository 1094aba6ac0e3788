-- The marks after one record more.
use Rattle.std.specs.Prelude.{ℕ, suc, ◌+◌, ◌≤◌, ◌<◌, ◌≡◌, ◌≢◌, Bool, cond, eqb, get_or, set}
use Rattle.std.proofs.Common.{arith, add-zero, sym, ◌∙◌, subst, true≢false, get_or-set_same, get_or-set_other, ne_eqb, eqb-true}
use Rattle.std.proofs.Math.Path.{refl, ap}
use mathlib.Core.List.{List, [], ◌∷◌, ◌++◌}
use Rattle.std.proofs.Math.Bool.{true, false}
use Rattle.std.proofs.lemmas.Bool.{false≢true, eqb-false}
use Rattle.std.proofs.Math.ListN.{length, length-set, length-append}
use Rattle.store_log.specs.Log.{Bytes}
use Rattle.store_log.specs.Store.{Store, same_bytes, known, place_of}
use Rattle.store_log.proofs.Lots.{same_bytes_lem}
use Rattle.store_log.specs.Entries.{OneEach}
use Rattle.store_lots.specs.Memory.{Words}
use Rattle.stock_rules.specs.Key.{Fault, Which, Keyed}
use Rattle.stock_rules.specs.Lots.{place_below}
use Rattle.stock_rules.specs.Join.{Place, Entry, has_key, picked, records_of, first_place}
use Rattle.stock_join.specs.Step.{most, up_to, marked}
use Rattle.stock_join.specs.Stands.{MarkAt, MarksFrom}
use Rattle.stock_join.specs.More.{picked_less, picked_one, picked_same, first_new, first_kept}

pub up_one : (n : ℕ) → n < most → up_to n ≡ n + 1
unfolding up_to
up_one n h = rw (ne_eqb n most (λ e. omega (arith, e)))

-- ---- One lot's place

-- both memories say the same of the lot at place j
abbrev Same : Words → Words → ℕ → Type 0
Same marks ms j = (get_or ms j 0 ≡ get_or marks j 0) × (get_or ms (512 + j) 0 ≡ get_or marks (512 + j) 0) × (get_or ms (1024 + j) 0 ≡ get_or marks (1024 + j) 0)

module _ (marks : Words) (lot file number : ℕ) (low : lot < 512) where
  abbrev three_sets : Words
  three_sets = set (set (set marks (512 + lot) file) (1024 + lot) number) lot 1

  beside_one : (v i : ℕ) → i ≢ lot → get_or (set marks lot v) i 0 ≡ get_or marks i 0
  beside_one v i h = get_or-set_other marks lot i v 0 h

  beside_three : (i : ℕ) → i ≢ lot → i ≢ 512 + lot → i ≢ 1024 + lot → get_or three_sets i 0 ≡ get_or marks i 0
  beside_three i a b c =
      get_or-set_other (set (set marks (512 + lot) file) (1024 + lot) number) lot i 1 0 a ∙ get_or-set_other (set marks (512 + lot) file) (1024 + lot) i number 0 c ∙
      get_or-set_other marks (512 + lot) i file 0 b

  pub mark_beside : (j : ℕ) → j < 512 → j ≢ lot → Same marks (marked marks lot file number) j
  unfolding marked
  mark_beside j h n = go (eqb (get_or marks lot 0) 0)
    where
      go : (b : Bool) → Same marks (cond b three_sets (set marks lot (up_to (get_or marks lot 0)))) j
      go true = (
        beside_three j n (λ e. omega (arith, e)) (λ e. omega (arith, e)),
        beside_three (512 + j) (λ e. omega (arith, e)) (λ e. n (omega (arith, e))) (λ e. omega (arith, e)),
        beside_three (1024 + j) (λ e. omega (arith, e)) (λ e. omega (arith, e)) (λ e. n (omega (arith, e))),
      )
      go false = (
        beside_one (up_to (get_or marks lot 0)) j n,
        beside_one (up_to (get_or marks lot 0)) (512 + j) (λ e. omega (arith, e)),
        beside_one (up_to (get_or marks lot 0)) (1024 + j) (λ e. omega (arith, e)),
      )

  pub mark_length : length (marked marks lot file number) ≡ length marks
  unfolding marked
  mark_length = go (eqb (get_or marks lot 0) 0)
    where
      go : (b : Bool) → length (cond b three_sets (set marks lot (up_to (get_or marks lot 0)))) ≡ length marks
      go true =
          length-set (set (set marks (512 + lot) file) (1024 + lot) number) lot 1 ∙ length-set (set marks (512 + lot) file) (1024 + lot) number ∙
          length-set marks (512 + lot) file
      go false = length-set marks lot (up_to (get_or marks lot 0))

  module _ (room : length marks ≡ 1536) (rs : List Entry) (e : Entry) (at : e.place ≡ record { file = file; number = number }) (short : length rs < most) (m : MarkAt marks lot rs) where
    pub mark_there : MarkAt (marked marks lot file number) lot (rs ++ (e ∷ []))
    unfolding marked
    mark_there = go (eqb (get_or marks lot 0) 0) refl
      where
        more : length (rs ++ (e ∷ [])) ≡ length rs + 1
        more = length-append rs (e ∷ [])

        go : (b : Bool) → eqb (get_or marks lot 0) 0 ≡ b → MarkAt (cond b three_sets (set marks lot (up_to (get_or marks lot 0)))) lot (rs ++ (e ∷ []))
        go true q =
            let z : length rs ≡ 0 = sym m.count ∙ eqb-true (get_or marks lot 0) 0 q in
            let la = length-set marks (512 + lot) file in
            let lb = length-set (set marks (512 + lot) file) (1024 + lot) number in
            let p = first_new rs e z ∙ at in
            record {
              count = get_or-set_same (set (set marks (512 + lot) file) (1024 + lot) number) lot 1 0 (omega arith) ∙ omega (arith, more, z);
              file =
                  get_or-set_other (set (set marks (512 + lot) file) (1024 + lot) number) lot (512 + lot) 1 0 (λ h. omega (arith, h)) ∙
                  get_or-set_other (set marks (512 + lot) file) (1024 + lot) (512 + lot) number 0 (λ h. omega (arith, h)) ∙
                  get_or-set_same marks (512 + lot) file 0 (omega arith) ∙ sym (ap (λ (x : Place). x.file) p);
              number =
                  get_or-set_other (set (set marks (512 + lot) file) (1024 + lot) number) lot (1024 + lot) 1 0 (λ h. omega (arith, h)) ∙
                  get_or-set_same (set marks (512 + lot) file) (1024 + lot) number 0 (omega arith) ∙ sym (ap (λ (x : Place). x.number) p);
            }
        go false q =
            let n : (length rs ≡ 0 → ⊥) = λ z. eqb-false (get_or marks lot 0) 0 q (m.count ∙ z) in
            let p = first_kept rs e n in
            let u = up_one (length rs) short in
            record {
              count = get_or-set_same marks lot (up_to (get_or marks lot 0)) 0 (omega arith) ∙ ap up_to m.count ∙ u ∙ sym more;
              file = beside_one (up_to (get_or marks lot 0)) (512 + lot) (λ h. omega (arith, h)) ∙ m.file ∙ sym (ap (λ (x : Place). x.file) p);
              number = beside_one (up_to (get_or marks lot 0)) (1024 + lot) (λ h. omega (arith, h)) ∙ m.number ∙ sym (ap (λ (x : Place). x.number) p);
            }

mark_same : (marks ms : Words) (j : ℕ) (rs qs : List Entry) → Same marks ms j → qs ≡ rs → MarkAt marks j rs → MarkAt ms j qs
mark_same marks ms j rs qs s e m = record {
  count = s.0 ∙ m.count ∙ ap length (sym e);
  file = s.1 ∙ m.file ∙ ap (λ (x : List Entry). (first_place x).file) (sym e);
  number = s.2 ∙ m.number ∙ ap (λ (x : List Entry). (first_place x).number) (sym e);
}

-- ---- All lots

-- none of these lots has the record's key
unfoldable pub Strange : Keyed → Store → Type 0
Strange k [] = Unit {0}
Strange k (l ∷ ls) = (has_key l.key k ≡ false) × Strange k ls

pub never_strange : (j : Bytes) (ls : Store) → known j ls ≡ false → Strange (Keyed.key j) ls
unfolding known Strange
never_strange j [] h = tt
never_strange j (l ∷ ls) h = go (same_bytes j l.key) refl h (never_strange j ls)
  where
    go : (b : Bool) → same_bytes j l.key ≡ b → cond b true (known j ls) ≡ false → (known j ls ≡ false → Strange (Keyed.key j) ls) → (same_bytes j l.key ≡ false) × Strange (Keyed.key j) ls
    go true e q again = absurd (true≢false q)
    go false e q again = (e, again q)

pub no_key_strange : (w : Which) (f : Fault) (ls : Store) → Strange (Keyed.no_key w f) ls
unfolding Strange
no_key_strange w f [] = tt
no_key_strange w f (l ∷ ls) = (refl, no_key_strange w f ls)

few_picked : (f : Entry → Bool) (es : List Entry) → length es < most → length (picked f es) < most
few_picked f es h = let l = picked_less f es in omega (arith, l)

module _ (es : List Entry) (e : Entry) where
  pub marks_same : (marks ms : Words) (i : ℕ) (ls : Store) → ((j : ℕ) → i ≤ j → j < i + length ls → Same marks ms j) → Strange e.keyed ls →
      MarksFrom marks i ls es → MarksFrom ms i ls (es ++ (e ∷ []))
  unfolding MarksFrom Strange
  marks_same marks ms i [] a n g = tt
  marks_same marks ms i (l ∷ ls) a n g = (
    mark_same marks ms i (records_of l.key es) (records_of l.key (es ++ (e ∷ []))) (a i (omega arith) (omega arith)) (picked_same (λ d. has_key l.key d.keyed) es e n.0) g.0,
    marks_same marks ms (i + 1) ls (λ j low high. a j (omega arith) (omega arith)) n.1 g.1,
  )

  module _ (k : Bytes) (is : e.keyed ≡ Keyed.key k) (marks : Words) (room : length marks ≡ 1536) (short : length es < most) where
    abbrev file : ℕ
    file = e.place.file

    abbrev number : ℕ
    number = e.place.number

    pub marks_more : (i : ℕ) (ls : Store) → i + length ls ≤ 512 → OneEach ls → known k ls ≡ true → MarksFrom marks i ls es →
        MarksFrom (marked marks (i + place_of k ls) file number) i ls (es ++ (e ∷ []))
    unfolding MarksFrom OneEach known place_of
    marks_more i [] w o h g = absurd (false≢true h)
    marks_more i (l ∷ ls) w o h g = go (same_bytes k l.key) refl h (λ q. marks_more (i + 1) ls (omega arith) o.1 q g.1)
      where
        has : has_key l.key e.keyed ≡ same_bytes k l.key
        has = ap (has_key l.key) is

        go : (b : Bool) → same_bytes k l.key ≡ b → cond b true (known k ls) ≡ true →
            (known k ls ≡ true → MarksFrom (marked marks (i + 1 + place_of k ls) file number) (i + 1) ls (es ++ (e ∷ []))) →
            MarkAt (marked marks (i + cond b 0 (suc (place_of k ls))) file number) i (records_of l.key (es ++ (e ∷ []))) ×
            MarksFrom (marked marks (i + cond b 0 (suc (place_of k ls))) file number) (i + 1) ls (es ++ (e ∷ []))
        go true q r again =
            let z : known k ls ≡ false = ap (λ (x : Bytes). known x ls) (same_bytes_lem k l.key q) ∙ o.0 in
            let rs = records_of l.key es in
            rw (add-zero i) (
              subst (MarkAt (marked marks i file number) i) (sym (picked_one (λ d. has_key l.key d.keyed) es e (has ∙ q)))
                  (mark_there marks i file number (omega arith) room rs e refl (few_picked (λ d. has_key l.key d.keyed) es short) g.0),
              marks_same marks (marked marks i file number) (i + 1) ls (λ j low high. mark_beside marks i file number (omega arith) j (omega arith) (λ p. omega (arith, p)))
                  (subst (λ (x : Keyed). Strange x ls) (sym is) (never_strange k ls z)) g.1,
            )
        go false q r again =
            let p : i + suc (place_of k ls) ≡ i + 1 + place_of k ls = omega arith in
            let lot = i + 1 + place_of k ls in
            let low = place_below k ls r in
            rw p (
              mark_same marks (marked marks lot file number) i (records_of l.key es) (records_of l.key (es ++ (e ∷ [])))
                  (mark_beside marks lot file number (omega arith) i (omega arith) (λ x. omega (arith, x))) (picked_same (λ d. has_key l.key d.keyed) es e (has ∙ q)) g.0,
              again r,
            )
