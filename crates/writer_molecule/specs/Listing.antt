-- Laws of property lines: finding, counting and writing entries.
use Rattle.std.specs.Prelude.{ℕ, zero, suc, ◌+◌, ◌-◌, ◌*◌, ◌≤◌, ◌<◌, ◌^◌, ◌≡◌, Bool, true, false, cond, ltb, get_or, take, ℤ, pos}
use Rattle.std.proofs.Math.Numerals.{add-one}
use native.Mathlib.Omega.{arith}
use Rattle.std.proofs.Math.Path.{refl, sym, ap}
use Rattle.std.proofs.Common.{◌∙◌, subst, length-append, length-take, length-drop, drop_of_length-le, get_or-take, get_or-drop, take_all, ltb-true, lt-ltb, le-ltb, Fits, of_z}
use mathlib.Core.List.{List, [], ◌∷◌, ◌++◌, map, append_assoc, append-nil}
use Rattle.std.proofs.Math.ListN.{length, drop}
use Rattle.std.specs.Int.Signed.{mag}
use Rattle.std.specs.Int.{w32, w64}
use Rattle.text.specs.Text.{Bytes, bytes, LF}
use Rattle.text.specs.Written.{text}
use Rattle.field_numbers.specs.Write.{number_text, signed_text}
use Rattle.field_numbers.specs.Written.{number_length, signed_length}
use Rattle.rules.specs.Forms.{CHG, RAD, ISO, tag, Entry}
use Rattle.rules.specs.Write.{joined, entry_fields, property_text}
use Rattle.rules.specs.Canon.{atom_row, number_of, is_zero, entries_from, eights, lines_of}
use Rattle.rules.specs.Record.{limit}
use Rattle.writer_lines.specs.Laid.{Laid, Field, field_join, Owes, owes_start, owes_next, owes_end}
use Rattle.rules.specs.Rows.{rows_of, row_at, rows_length, rows_next}
use Rattle.writer_lines.specs.Signs.{zero_is, zero_not}
use Rattle.writer_molecule.specs.Properties.{kind_of, number_at, entry_at, entries_at, entries_text, lines_text, Next, Eight, Entered}

-- ---- Entries from atom i on

kind_number_lem : (kind : ℕ) (t : List ℤ) → kind ≤ 2 → number_of (kind_of kind) (atom_row t) ≡ get_or t (5 + kind) (pos 0)
kind_number_lem zero t h = refl
kind_number_lem (suc zero) t h = refl
kind_number_lem (suc (suc zero)) t h = refl
kind_number_lem (suc (suc (suc k))) t h = absurd (omega arith)

row_number : (kind : ℕ) (t : List ℤ) (i : ℕ) → kind ≤ 2 → number_of (kind_of kind) (atom_row (row_at 16 t i)) ≡ number_at kind t i
row_number kind t i h =
    let e : 16 * i + (5 + kind) ≡ 16 * i + 5 + kind = omega arith in
    kind_number_lem kind (row_at 16 t i) h
    ∙ get_or-take 16 (drop (16 * i) t) (5 + kind) (pos 0) (omega arith)
    ∙ get_or-drop (16 * i) t (5 + kind) (pos 0)
    ∙ ap (λ (j : ℕ). get_or t j (pos 0)) e

module _ (kind n : ℕ) (t : List ℤ) (i : ℕ) where
  entries_open : i < n → kind ≤ 2 → entries_at kind n t i ≡ cond (is_zero (number_at kind t i)) (entries_at kind n t (i + 1)) (entry_at kind t i ∷ entries_at kind n t (i + 1))
  unfolding entries_at entries_from
  entries_open h k = rw (rows_next 16 n t i h, row_number kind t i k, add-one i)

  pub entries_skip : i < n → kind ≤ 2 → is_zero (number_at kind t i) ≡ true → entries_at kind n t i ≡ entries_at kind n t (i + 1)
  entries_skip h k z = entries_open h k ∙ rw z

  pub entries_take : i < n → kind ≤ 2 → is_zero (number_at kind t i) ≡ false → entries_at kind n t i ≡ entry_at kind t i ∷ entries_at kind n t (i + 1)
  entries_take h k z = entries_open h k ∙ rw z

  pub entries_end : n ≤ i → entries_at kind n t i ≡ []
  unfolding entries_at entries_from
  entries_end h = rw (drop_of_length-le (rows_of 16 n t) {i = i} (omega (arith, rows_length 16 n t)))

-- ---- Whether an atom has an entry

pub zero_at : (z : ℤ) → mag z < 2 ^ 31 → of_z w32 z ≡ 0 → true ≡ is_zero z
zero_at z m e = sym (zero_is z (record { sfits = m }) e)

pub zero_not_at : (z : ℤ) → (of_z w32 z ≡ 0 → ⊥) → false ≡ is_zero z
zero_not_at z h = sym (zero_not z h)

pub one_none : (z : ℤ) (b : Bool) → b ≡ is_zero z → b ≡ true → ◌≡◌ {A = ℕ} 0 (cond (is_zero z) 0 1)
one_none z b e h = rw (sym e ∙ h)

pub one_some : (z : ℤ) (b : Bool) → b ≡ is_zero z → b ≡ false → ◌≡◌ {A = ℕ} 1 (cond (is_zero z) 0 1)
one_some z b e h = rw (sym e ∙ h)

pub ruleset zero_laws = (zero_at, zero_not_at, one_none, one_some)

-- ---- While entries are counted

pub record Counting (kind n : ℕ) (t : List ℤ) (k i : ℕ) : Type 0 where
  pub inside : 16 * n ≤ length t
  pub of_kind : kind ≤ 2
  pub within : i ≤ n
  pub small : k ≤ i
  pub same : k + length (entries_at kind n t i) ≡ length (entries_at kind n t 0)

pub counting_start : (kind n : ℕ) (t : List ℤ) → 16 * n ≤ length t → kind ≤ 2 → Counting kind n t 0 0
counting_start kind n t h l = record { inside = h; of_kind = l; within = omega arith; small = omega arith; same = omega arith }

count_open : (b : Bool) (e : Entry) (es : List Entry) → length (cond b es (e ∷ es)) ≡ cond b 0 1 + length es
count_open true e es = omega arith
count_open false e es = omega arith

one_most : (b : Bool) → cond b 0 1 ≤ 1
one_most true = omega arith
one_most false = omega arith

module _ (kind n : ℕ) (t : List ℤ) (k i : ℕ) (g : Counting kind n t k i) where
  pub counting_next : i < n → (x : ℕ) → x ≡ cond (is_zero (number_at kind t i)) 0 1 → Counting kind n t (k + x) (i + 1)
  counting_next h x e =
      let o : length (entries_at kind n t i) ≡ x + length (entries_at kind n t (i + 1)) =
      ap length (entries_open kind n t i h g.of_kind)
      ∙ count_open (is_zero (number_at kind t i)) (entry_at kind t i) (entries_at kind n t (i + 1))
      ∙ rw e
      in
      record {
        inside = g.inside;
        of_kind = g.of_kind;
        within = omega arith;
        small = omega (arith, one_most (is_zero (number_at kind t i)), g.small);
        same = omega (arith, g.same);
      }

  pub counting_fits : (x : ℕ) → x ≡ cond (is_zero (number_at kind t i)) 0 1 → i < n → Fits w64 n → Fits w64 (k + x)
  counting_fits x e h f = record { fits = omega (arith, one_most (is_zero (number_at kind t i)), g.small, f.fits) }

  pub counting_end : n ≤ i → k ≡ length (entries_at kind n t 0)
  counting_end h = let e : length (entries_at kind n t i) ≡ 0 = ap length (entries_end kind n t i h) in omega (arith, g.same)

pub ruleset counting_laws = (counting_start, counting_next, counting_fits, counting_end)

-- ---- While the next entry is looked for

pub record Seeking (kind n : ℕ) (t : List ℤ) (i j : ℕ) : Type 0 where
  pub inside : 16 * n ≤ length t
  pub of_kind : kind ≤ 2
  pub some : 1 ≤ length (entries_at kind n t i)
  pub same : entries_at kind n t i ≡ entries_at kind n t j

pub seeking_start : (kind n : ℕ) (t : List ℤ) (i : ℕ) → 16 * n ≤ length t → kind ≤ 2 → 1 ≤ length (entries_at kind n t i) → Seeking kind n t i i
seeking_start kind n t i h l s = record { inside = h; of_kind = l; some = s; same = refl }

module _ (kind n : ℕ) (t : List ℤ) (i j : ℕ) (g : Seeking kind n t i j) where
  pub seeking_next : j < n → (b : Bool) → b ≡ is_zero (number_at kind t j) → b ≡ true → Seeking kind n t i (j + 1)
  seeking_next h b e z =
      record { inside = g.inside; of_kind = g.of_kind; some = g.some; same = g.same ∙ entries_skip kind n t j h g.of_kind (sym e ∙ z) }

  pub seeking_found : j < n → (b : Bool) → b ≡ is_zero (number_at kind t j) → b ≡ false → Next kind n t i j
  seeking_found h b e z = record { high = h; same = g.same ∙ entries_take kind n t j h g.of_kind (sym e ∙ z) }

  pub seeking_none : n ≤ j → Next kind n t i n
  seeking_none h =
      let e : length (entries_at kind n t i) ≡ 0 = ap length (g.same ∙ entries_end kind n t j h) in
      absurd (omega (arith, g.some))

pub ruleset seeking_laws = (seeking_start, seeking_next, seeking_found, seeking_none)

-- ---- Entries in a line

pub entry_parts : (kind : ℕ) (t : List ℤ) (i : ℕ) {r₀ r₁ r₂ r₃ r₄ : Bytes} {at a b c d : ℕ} →
    Field r₀ r₁ at 1 (bytes " ") a → Field r₁ r₂ a 3 (number_text 3 (i + 1)) b → Field r₂ r₃ b 1 (bytes " ") c → Field r₃ r₄ c 3 (signed_text 3 (number_at kind t i)) d →
    Field r₀ r₄ at 8 (entries_text (entry_at kind t i ∷ [])) d
unfolding entries_text joined entry_fields
entry_parts kind t i p q s u = rw (append-nil (signed_text 3 (number_at kind t i))) (field_join p (field_join q (field_join s u)))

entries_cons : (e : Entry) (es : List Entry) → entries_text (e ∷ es) ≡ entries_text (e ∷ []) ++ entries_text es
unfolding entries_text joined entry_fields
entries_cons e es = simp (append_assoc, append-nil)

entries_length : (es : List Entry) → length (entries_text es) ≡ 8 * length es
unfolding entries_text joined entry_fields
entries_length [] = refl
entries_length (e ∷ es) =
    let l = length-append (number_text 3 e.atom) (32 ∷ (signed_text 3 e.number ++ joined (entry_fields es))) in
    let m = length-append (signed_text 3 e.number) (joined (entry_fields es)) in
    omega (arith, l, m, number_length 3 e.atom, signed_length 3 e.number, entries_length es)

pub record Entering (kind n : ℕ) (t : List ℤ) (i count : ℕ) (r₀ r : Bytes) (at j e left : ℕ) : Type 0 where
  pub inside : 16 * n ≤ length t
  pub of_kind : kind ≤ 2
  pub small : n ≤ limit
  pub enough : left ≤ length (entries_at kind n t j)
  pub room : at + 8 * count ≤ length r₀
  pub place : e + 8 * left ≡ at + 8 * count
  pub size : length r ≡ length r₀
  pub same : drop count (entries_at kind n t i) ≡ drop left (entries_at kind n t j)
  pub owes : Owes r₀ r at e (entries_text (take count (entries_at kind n t i))) (entries_text (take left (entries_at kind n t j)))

pub entering_start : (kind n : ℕ) (t : List ℤ) (i count : ℕ) (r : Bytes) (at : ℕ) → 16 * n ≤ length t → kind ≤ 2 → n ≤ limit →
    count ≤ length (entries_at kind n t i) → at + 8 * count ≤ length r → Entering kind n t i count r r at i at count
entering_start kind n t i count r at h l s c f =
    record {
      inside = h;
      of_kind = l;
      small = s;
      enough = c;
      room = f;
      place = refl;
      size = refl;
      same = refl;
      owes = owes_start r at (entries_text (take count (entries_at kind n t i)))
          (omega (arith, entries_length (take count (entries_at kind n t i)), length-take count (entries_at kind n t i)));
    }

taken : (left : ℕ) (e : Entry) (es : List Entry) → 0 < left → take left (e ∷ es) ≡ e ∷ take (left - 1) es
taken left e es h = let s : left ≡ suc (left - 1) = omega arith in ap (λ (k : ℕ). take k (e ∷ es)) s

dropped : (left : ℕ) (e : Entry) (es : List Entry) → 0 < left → drop left (e ∷ es) ≡ drop (left - 1) es
dropped left e es h = let s : left ≡ suc (left - 1) = omega arith in ap (λ (k : ℕ). drop k (e ∷ es)) s

module _ (kind n : ℕ) (t : List ℤ) (i count : ℕ) (r₀ r : Bytes) (at j e left : ℕ) (g : Entering kind n t i count r₀ r at j e left) where
  pub entering_next : 0 < left → (a : ℕ) (r' : Bytes) (f : ℕ) → Next kind n t j a → Field r r' e 8 (entries_text (entry_at kind t a ∷ [])) f →
      Entering kind n t i count r₀ r' at (a + 1) f (left - 1)
  entering_next h a r' f x l =
      let es = entries_at kind n t (a + 1) in
      let o : entries_text (take left (entries_at kind n t j)) ≡ entries_text (entry_at kind t a ∷ []) ++ entries_text (take (left - 1) es) =
      ap (λ (xs : List Entry). entries_text (take left xs)) x.same ∙ ap entries_text (taken left (entry_at kind t a) es h) ∙ entries_cons (entry_at kind t a) (take (left - 1) es)
      in
      record {
        inside = g.inside;
        of_kind = g.of_kind;
        small = g.small;
        enough = omega (arith, g.enough, ap length x.same);
        room = g.room;
        place = omega (arith, g.place, l.wide);
        size = l.laid.size ∙ g.size;
        same = g.same ∙ ap (λ (xs : List Entry). drop left xs) x.same ∙ dropped left (entry_at kind t a) es h;
        owes = owes_next (rw o at g.owes) l.laid;
      }

  pub entering_end : left ≤ 0 → Entered kind n t i count (8 * count) r₀ r at (entries_text (take count (entries_at kind n t i))) j e
  unfolding entries_text joined entry_fields
  entering_end h =
      let z : left ≡ 0 = omega arith in
      record {
        field = record { laid = owes_end (rw z at g.owes); wide = omega (arith, g.place) };
        rest = sym (g.same ∙ ap (λ (k : ℕ). drop k (entries_at kind n t j)) z);
      }

  pub entering_size : length r ≡ length r₀
  entering_size = g.size

pub ruleset entering_laws = (entering_start, entering_next, entering_end, entering_size)

-- ---- A line

module _ (kind : ℕ) {r₀ r : Bytes} {at e : ℕ} where
  pub tag_charge : kind ≡ 0 → Field r₀ r at 6 (bytes "M  CHG") e → Field r₀ r at 6 (bytes (tag (kind_of kind))) e
  tag_charge h l = rw h l

  pub tag_radical : kind ≡ 1 → Field r₀ r at 6 (bytes "M  RAD") e → Field r₀ r at 6 (bytes (tag (kind_of kind))) e
  tag_radical h l = rw h l

pub tag_isotope : (kind : ℕ) {r₀ r : Bytes} {at e : ℕ} → (kind ≡ 0 → ⊥) → (kind ≡ 1 → ⊥) → Field r₀ r at 6 (bytes "M  ISO") e → Field r₀ r at 6 (bytes (tag (kind_of kind))) e
tag_isotope zero h k l = absurd (h refl)
tag_isotope (suc zero) h k l = absurd (k refl)
tag_isotope (suc (suc j)) h k l = l

pub ruleset tag_laws = (tag_charge, tag_radical, tag_isotope)

property_is : (kind : ℕ) (es : List Entry) →
    bytes (tag (kind_of kind)) ++ (number_text 3 (length es) ++ (entries_text es ++ (LF ∷ []))) ≡ text (property_text (record { kind = kind_of kind; entries = es }) ∷ [])
unfolding text property_text joined entries_text
property_is kind es = simp append_assoc

pub property_parts : (kind n : ℕ) (t : List ℤ) (i count : ℕ) {r₀ r₁ r₂ r₃ r₄ : Bytes} {at a b c d j : ℕ} → count ≤ length (entries_at kind n t i) →
    Field r₀ r₁ at 6 (bytes (tag (kind_of kind))) a → Field r₁ r₂ a 3 (number_text 3 count) b → Entered kind n t i count (8 * count) r₂ r₃ b (entries_text (take count (entries_at kind n t i))) j c →
    Field r₃ r₄ c 1 (LF ∷ []) d →
    Entered kind n t i count (10 + 8 * count) r₀ r₄ at (text (property_text (record { kind = kind_of kind; entries = take count (entries_at kind n t i) }) ∷ [])) j d
property_parts kind n t i count {r₀} {r₁} {r₂} {r₃} {r₄} {at} {a} {b} {c} {d} {j} h p q s u =
    let es = take count (entries_at kind n t i) in
    let l : length es ≡ count = length-take count (entries_at kind n t i) ∙ omega arith in
    let q' : Field r₁ r₂ a 3 (number_text 3 (length es)) b = rw l q in
    let w : 6 + (3 + (8 * count + 1)) ≡ 10 + 8 * count = omega arith in
    let whole = field_join p (field_join q' (field_join s.field u)) in
    record {
      field = subst (λ (x : Bytes). Field r₀ r₄ at (10 + 8 * count) x d) (property_is kind es)
          (subst (λ (k : ℕ). Field r₀ r₄ at k (bytes (tag (kind_of kind)) ++ (number_text 3 (length es) ++ (entries_text es ++ (LF ∷ [])))) d) w whole);
      rest = s.rest;
    }

-- ---- Eight a line

eights_fuel : (m n : ℕ) (es : List Entry) → length es ≤ m → length es ≤ n → eights m es ≡ eights n es
unfolding eights
eights_fuel zero zero es h k = refl
eights_fuel zero (suc n) [] h k = refl
eights_fuel zero (suc n) (e ∷ es) h k = absurd (omega arith)
eights_fuel (suc m) zero [] h k = refl
eights_fuel (suc m) zero (e ∷ es) h k = absurd (omega arith)
eights_fuel (suc m) (suc n) [] h k = refl
eights_fuel (suc m) (suc n) (e ∷ es) h k =
    ap (λ (x : List (List Entry)). take 8 (e ∷ es) ∷ x)
    (eights_fuel m n (drop 8 (e ∷ es)) (omega (arith, length-drop 8 (e ∷ es))) (omega (arith, length-drop 8 (e ∷ es))))

eights_next : (es : List Entry) → 0 < length es → eights (length es) es ≡ take 8 es ∷ eights (length (drop 8 es)) (drop 8 es)
unfolding eights
eights_next [] h = absurd (omega arith)
eights_next (e ∷ es) h =
    ap (λ (x : List (List Entry)). take 8 (e ∷ es) ∷ x)
    (eights_fuel (length es) (length (drop 8 (e ∷ es))) (drop 8 (e ∷ es)) (omega (arith, length-drop 8 (e ∷ es))) (omega arith))

-- the entries of the next line are the first eight
pub eight_taken : (left k : ℕ) (es : List Entry) → left ≡ length es → Eight left k → take k es ≡ take 8 es
eight_taken left k es l x = go (ltb left 8) refl
  where
    go : (b : Bool) → ltb left 8 ≡ b → take k es ≡ take 8 es
    go true e =
        let s = ltb-true left 8 e in
        let k_is : k ≡ left = x.number ∙ rw e in
        take_all k es (omega arith) ∙ sym (take_all 8 es (omega arith))
    go false e = let k_is : k ≡ 8 = x.number ∙ rw e in rw k_is

pub eight_dropped : (left k : ℕ) (es : List Entry) → left ≡ length es → Eight left k → drop k es ≡ drop 8 es
eight_dropped left k es l x = go (ltb left 8) refl
  where
    go : (b : Bool) → ltb left 8 ≡ b → drop k es ≡ drop 8 es
    go true e =
        let s = ltb-true left 8 e in
        let k_is : k ≡ left = x.number ∙ rw e in
        drop_of_length-le es {i = k} (omega arith) ∙ sym (drop_of_length-le es {i = 8} (omega arith))
    go false e = let k_is : k ≡ 8 = x.number ∙ rw e in rw k_is

pub eight_few : (left : ℕ) → 0 < left → left < 8 → Eight left left
eight_few left h l = record { some = h; most = omega arith; number = rw (lt-ltb left 8 l) }

pub eight_full : (left : ℕ) → 8 ≤ left → Eight left 8
eight_full left l = record { some = omega arith; most = l; number = rw (le-ltb left 8 l) }

pub eight_small : (left k : ℕ) → Eight left k → k ≤ 8
eight_small left k x = go (ltb left 8) refl
  where
    go : (b : Bool) → ltb left 8 ≡ b → k ≤ 8
    go true e = let s = ltb-true left 8 e in omega (arith, x.most)
    go false e = let k_is : k ≡ 8 = x.number ∙ rw e in omega arith

-- ---- While the lines of a kind are written

pub lines_next : (kind : ℕ) (left k : ℕ) (es : List Entry) → left ≡ length es → 0 < left → Eight left k →
    lines_text kind es ≡ text (property_text (record { kind = kind_of kind; entries = take k es }) ∷ []) ++ lines_text kind (drop k es)
unfolding lines_text text
lines_next kind left k es l h x =
    rw (eights_next es (omega arith), eight_taken left k es l x, eight_dropped left k es l x)
    (sym (append_assoc (property_text (record { kind = kind_of kind; entries = take 8 es })) (LF ∷ []) (text (map property_text (lines_of (kind_of kind) (drop 8 es))))))

pub line_length : (kind : ℕ) (es : List Entry) → length (text (property_text (record { kind = kind_of kind; entries = es }) ∷ [])) ≡ 10 + 8 * length es
line_length kind es =
    ap length (sym (property_is kind es))
    ∙ length-append (bytes (tag (kind_of kind))) (number_text 3 (length es) ++ (entries_text es ++ (LF ∷ [])))
    ∙ omega (arith, tag_length kind, length-append (number_text 3 (length es)) (entries_text es ++ (LF ∷ [])), length-append (entries_text es) (LF ∷ []), number_length 3 (length es), entries_length es)
  where
    tag_length : (kind : ℕ) → length (bytes (tag (kind_of kind))) ≡ 6
    tag_length zero = refl
    tag_length (suc zero) = refl
    tag_length (suc (suc k)) = refl

pub record Listing (kind n : ℕ) (t : List ℤ) (r₀ r : Bytes) (at i e left : ℕ) : Type 0 where
  pub inside : 16 * n ≤ length t
  pub of_kind : kind ≤ 2
  pub small : n ≤ limit
  pub number : left ≡ length (entries_at kind n t i)
  pub size : length r ≡ length r₀
  pub owes : Owes r₀ r at e (lines_text kind (entries_at kind n t 0)) (lines_text kind (entries_at kind n t i))

pub listing_start : (kind n : ℕ) (t : List ℤ) (r : Bytes) (at left : ℕ) → 16 * n ≤ length t → kind ≤ 2 → n ≤ limit →
    at + length (lines_text kind (entries_at kind n t 0)) ≤ length r → left ≡ length (entries_at kind n t 0) → Listing kind n t r r at 0 at left
listing_start kind n t r at left h l s f e =
    record { inside = h; of_kind = l; small = s; number = e; size = refl; owes = owes_start r at (lines_text kind (entries_at kind n t 0)) f }

module _ (kind n : ℕ) (t : List ℤ) (r₀ r : Bytes) (at i e left : ℕ) (g : Listing kind n t r₀ r at i e left) (h : 0 < left) (k : ℕ) (x : Eight left k) where
  next : lines_text kind (entries_at kind n t i)
      ≡ text (property_text (record { kind = kind_of kind; entries = take k (entries_at kind n t i) }) ∷ []) ++ lines_text kind (drop k (entries_at kind n t i))
  next = lines_next kind left k (entries_at kind n t i) g.number h x

  pub listing_room : e + (10 + 8 * k) ≤ length r
  listing_room =
      let es = entries_at kind n t i in
      let l = ap length next ∙ length-append (text (property_text (record { kind = kind_of kind; entries = take k es }) ∷ [])) (lines_text kind (drop k es)) in
      omega (arith, l, line_length kind (take k es), length-take k es, g.number, x.most, g.size, g.owes.next, g.owes.fits)

  pub listing_enough : k ≤ length (entries_at kind n t i)
  listing_enough = omega (arith, g.number, x.most)

  pub listing_next : (r' : Bytes) (j f : ℕ) →
      Entered kind n t i k (10 + 8 * k) r r' e (text (property_text (record { kind = kind_of kind; entries = take k (entries_at kind n t i) }) ∷ [])) j f →
      Listing kind n t r₀ r' at j f (left - k)
  listing_next r' j f y =
      record {
        inside = g.inside;
        of_kind = g.of_kind;
        small = g.small;
        number = omega (arith, g.number, ap length y.rest, length-drop k (entries_at kind n t i));
        size = y.field.laid.size ∙ g.size;
        owes = subst (λ (es : List Entry). Owes r₀ r' at f (lines_text kind (entries_at kind n t 0)) (lines_text kind es)) (sym y.rest) (owes_next (rw next at g.owes) y.field.laid);
      }

module _ (kind n : ℕ) (t : List ℤ) (r₀ r : Bytes) (at i e left : ℕ) (g : Listing kind n t r₀ r at i e left) where
  pub listing_end : left ≤ 0 → Laid r₀ r at (lines_text kind (entries_at kind n t 0)) e
  unfolding lines_text text eights
  listing_end h = owes_end (subst (λ (es : List Entry). Owes r₀ r at e (lines_text kind (entries_at kind n t 0)) (lines_text kind es)) (none (entries_at kind n t i) (omega (arith, g.number))) g.owes)
    where
      none : (es : List Entry) → length es ≤ 0 → es ≡ []
      none [] h = refl
      none (e ∷ es) h = absurd (omega arith)

  pub listing_size : length r ≡ length r₀
  listing_size = g.size

pub ruleset eight_laws = (eight_few, eight_full)

pub ruleset listing_laws = (listing_start, listing_room, listing_enough, listing_next, listing_end, listing_size, eight_small)
