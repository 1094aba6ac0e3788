-- The bytes that are passed by behind a refused record, byte by byte: how many they are, and that they are those of `Behind`.
use Rattle.std.specs.Prelude.{ℕ, zero, suc, ◌+◌, ◌-◌, ◌<◌, ◌≡◌, refl, List, [], ◌∷◌, ◌++◌, Bool, true, false, cond, ◌&&◌, eqb, ltb, length}
use Rattle.std.proofs.Common.{arith, sym, ap, ◌∙◌, append-nil, append_assoc, length-append, ne_eqb, eq-eqb, eqb-true, ltb-true, lt-ltb}
use Rattle.std.proofs.lemmas.Bool.{eqb-false}
use Rattle.text.specs.Text.{Bytes, Line, LF, CR, bytes, Each, Without, Ended, Lines}
use Rattle.text.specs.Cut.{cut_is}
use Rattle.judge_line.specs.Judge.{begins}
use Rattle.judge_line.specs.AgreeText.{begins_got, begins_is, none_of}
use Rattle.resume_rules.specs.Resume.{Tagged, Behind}
use Rattle.resume_rules.specs.Passed.{marked, marks, passed}

-- ---- A line that begins `$$$$`

marks_five : (l : Bytes) → marks 5 l ≡ 5
unfolding marks marked
marks_five [] = refl
marks_five (b ∷ l) = marks_five l

marks_four : (l : Bytes) → marks 4 l ≡ 4
unfolding marks marked
marks_four [] = refl
marks_four (b ∷ l) = marks_four l

marks_next : (j : ℕ) (ds : Bytes) → j < 4 → ((l : Bytes) → eqb (marks (j + 1) l) 4 ≡ begins ds l) → (l : Bytes) → eqb (marks j l) 4 ≡ begins (36 ∷ ds) l
unfolding marks marked begins
marks_next j ds small r [] = ne_eqb j 4 (λ q. omega (arith, q, small))
marks_next j ds small r (b ∷ l) = rw (lt-ltb j 4 small) (go (eqb b 36) refl)
  where
    go : (t : Bool) → eqb b 36 ≡ t → eqb (marks (cond (eqb b 36) (j + 1) 5) l) 4 ≡ (eqb 36 b && begins ds l)
    go true e = rw (e, eq-eqb 36 b (sym (eqb-true b 36 e))) (r l)
    go false e = rw (e, ne_eqb 36 b (λ q. eqb-false b 36 e (sym q)), marks_five l)

marks_begins : (l : Bytes) → eqb (marks 0 l) 4 ≡ begins (bytes "$$$$") l
unfolding begins
marks_begins =
    marks_next 0 (36 ∷ 36 ∷ 36 ∷ []) (omega arith)
    (marks_next 1 (36 ∷ 36 ∷ []) (omega arith)
    (marks_next 2 (36 ∷ []) (omega arith) (marks_next 3 [] (omega arith) (λ l. rw (marks_four l)))))

marks_snoc : (seen : ℕ) (l : Bytes) (b : ℕ) → marks seen (l ++ (b ∷ [])) ≡ marked (marks seen l) b
unfolding marks
marks_snoc seen [] b = refl
marks_snoc seen (a ∷ l) b = marks_snoc (marked seen a) l b

marked_cr : (m : ℕ) → eqb (marked m CR) 4 ≡ eqb m 4
unfolding marked
marked_cr m = go (ltb m 4) refl
  where
    go : (t : Bool) → ltb m 4 ≡ t → eqb (cond (ltb m 4) (cond (eqb CR 36) (m + 1) 5) m) 4 ≡ eqb m 4
    go true e = rw e (sym (ne_eqb m 4 (λ q. omega (arith, q, ltb-true m 4 e))))
    go false e = rw e

-- the CR before an LF makes no difference
marks_ended : {bs : Bytes} {l : Line} → Ended bs l → eqb (marks 0 bs) 4 ≡ begins (bytes "$$$$") l
marks_ended (Ended.cr_lf {l = l} e) = rw (e, marks_snoc 0 l CR) (marked_cr (marks 0 l) ∙ marks_begins l)
marks_ended (Ended.lf {l = l} f) = marks_begins l

tagged_marks : {bs : Bytes} {l : Line} → Ended bs l → Tagged l → eqb (marks 0 bs) 4 ≡ true
tagged_marks {l = l} h g = marks_ended h ∙ ap (begins (bytes "$$$$")) g.1 ∙ begins_is (bytes "$$$$") g.0

other_marks : {bs : Bytes} {l : Line} → Ended bs l → ¬ Tagged l → eqb (marks 0 bs) 4 ≡ false
other_marks {l = l} h g = marks_ended h ∙ none_of (begins (bytes "$$$$") l) (begins_got (bytes "$$$$") l) g

-- ---- Line by line

passed_rest : (p seen : ℕ) (t : Bytes) → Without LF t → passed p seen t ≡ length t
unfolding passed Each
passed_rest p seen [] f = refl
passed_rest p seen (b ∷ t) f = rw (ne_eqb b LF f.0) (ap suc (passed_rest p (marked seen b) t f.1))

passed_line : (p seen : ℕ) (bs more : Bytes) → Without LF bs →
    passed p seen (bs ++ (LF ∷ more)) ≡ length bs + cond (eqb p 0 && eqb (marks seen bs) 4) 1 (suc (passed (p - 1) 0 more))
unfolding passed marks Each
passed_line p seen [] more f = let z : cond (eqb p 0 && eqb seen 4) 1 (suc (passed (p - 1) 0 more)) ≡ 0 + cond (eqb p 0 && eqb seen 4) 1 (suc (passed (p - 1) 0 more)) = omega arith in z
passed_line p seen (b ∷ bs) more f =
    let r = passed_line p (marked seen b) bs more f.1 in
    let n : suc (length bs + cond (eqb p 0 && eqb (marks (marked seen b) bs) 4) 1 (suc (passed (p - 1) 0 more)))
    ≡ suc (length bs) + cond (eqb p 0 && eqb (marks (marked seen b) bs) 4) 1 (suc (passed (p - 1) 0 more)) = omega arith
    in
    rw (ne_eqb b LF f.0) (ap suc r ∙ n)

-- ---- These bytes are the stretch

line_joined : (t bs more after own rest : Bytes) → t ≡ bs ++ (LF ∷ more) → more ≡ after ++ rest → own ≡ bs ++ (LF ∷ after) → t ≡ own ++ rest
line_joined t bs more after own rest e q o =
    e ∙ ap (λ (x : Bytes). bs ++ (LF ∷ x)) q ∙ sym (append_assoc bs (LF ∷ after) rest) ∙ ap (λ (x : Bytes). x ++ rest) (sym o)

line_length : (bs after own : Bytes) → own ≡ bs ++ (LF ∷ after) → length own ≡ length bs + suc (length after)
line_length bs after own o = ap length o ∙ length-append bs (LF ∷ after)

pub behind_passed : {p : ℕ} {t own rest : Bytes} → Behind p t own rest → (t ≡ own ++ rest) × (passed p 0 t ≡ length own)
behind_passed (Behind.none {p = p} {t = t} f) = (sym (append-nil t), passed_rest p 0 t f)
behind_passed (Behind.pass {p = p} {t = t} {bs = bs} {more = more} {after = after} {own = own} {rest = rest} e f h b o) =
    let r = behind_passed b in
    let q : suc p - 1 ≡ p = omega arith in
    let n : passed (suc p) 0 t ≡ length bs + suc (passed (suc p - 1) 0 more) = ap (passed (suc p) 0) e ∙ passed_line (suc p) 0 bs more f ∙ rw (ne_eqb (suc p) 0 (λ z. omega (arith, z))) in
    (line_joined t bs more after own rest e r.0 o, n ∙ rw (q, r.1) (sym (line_length bs after own o)))
behind_passed (Behind.other {t = t} {bs = bs} {more = more} {after = after} {own = own} {rest = rest} e f h g b o) =
    let r = behind_passed b in
    let n : passed 0 0 t ≡ length bs + suc (passed 0 0 more) = ap (passed 0 0) e ∙ passed_line 0 0 bs more f ∙ rw (other_marks h g) in
    (line_joined t bs more after own rest e r.0 o, n ∙ rw r.1 (sym (line_length bs after own o)))
behind_passed (Behind.found {t = t} {bs = bs} {more = more} {own = own} e f h g o) =
    let n : passed 0 0 t ≡ length bs + 1 = ap (passed 0 0) e ∙ passed_line 0 0 bs more f ∙ rw (tagged_marks h g) in
    (line_joined t bs more [] own more e refl o, n ∙ sym (line_length bs [] own o))

-- ---- There is one for every text

behind_lines : {t : Bytes} {ls : List Line} {r : Bytes} → Lines t ls r → (p : ℕ) → (own : Bytes) × (rest : Bytes) × Behind p t own rest
behind_lines {t = t} (Lines.unfinished f) p = (t, [], Behind.none f)
behind_lines (Lines.line {bs = bs} e f h q) (suc p) = let b = behind_lines q p in (bs ++ (LF ∷ b.0), b.1, Behind.pass e f h b.2 refl)
behind_lines {t = t} (Lines.line {bs = bs} {more = more} {l = l} e f h q) zero = go (begins (bytes "$$$$") l) refl (behind_lines q 0)
  where
    go : (x : Bool) → begins (bytes "$$$$") l ≡ x → ((own : Bytes) × (rest : Bytes) × Behind 0 more own rest) → (own : Bytes) × (rest : Bytes) × Behind 0 t own rest
    go true x b = (bs ++ (LF ∷ []), more, Behind.found e f h (begins_got (bytes "$$$$") l x) refl)
    go false x b = (bs ++ (LF ∷ b.0), b.1, Behind.other e f h not_tagged b.2 refl)
      where
        not_tagged : Tagged l → ⊥
        not_tagged g = let z : true ≡ false = sym (begins_is (bytes "$$$$") g.0) ∙ sym (ap (begins (bytes "$$$$")) g.1) ∙ x in let y : ◌≡◌ {A = ℕ} 0 1 = cc in omega arith

pub behind : (p : ℕ) (t : Bytes) → (own : Bytes) × (rest : Bytes) × Behind p t own rest
behind p t = behind_lines (cut_is t) p
