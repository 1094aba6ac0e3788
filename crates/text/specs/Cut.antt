-- A text cut into its lines: the reading that `Text` describes, computed, and the same by positions in the text.
use Rattle.std.specs.Prelude.{Option, Some, None, ℕ, suc, ◌+◌, ◌-◌, ◌≤◌, ◌<◌, ◌≡◌, refl, ◌≢◌, List, [], ◌∷◌, ◌++◌, map, Bool, true, false, cond, ◌&&◌, eqb, ltb, length, get_or, take, drop}
use Rattle.std.proofs.Common.{arith, sym, ap, ◌∙◌, length-drop, length-append, take-suc, get_or-drop, drop-drop, ne_eqb, eqb-true, ltb-true, ltb-false}
use Rattle.std.proofs.Math.Bool.{and-eq-true_iff}
use Rattle.std.proofs.Math.Seq.{split_at}
use Rattle.std.proofs.lemmas.Bool.{eqb-false}
use Rattle.text.specs.Text.{Bytes, Line, LF, CR, Each, Without, Ended, Lines}
use Rattle.text.specs.Find.{first_from, is_lf, line_to, line_at}
use Rattle.text.specs.First.{each_as, first_within, first_passes, first_before, first_nothing}
use Rattle.text.specs.declared.LineAt.{LineAt}

pub record Cut : Type 0 where
  pub lines : List Line
  pub rest : Bytes

-- ---- the definition

-- the line that ends at an LF: without a CR at its end
unfoldable pub ended : Bytes → Line
ended [] = []
ended (b ∷ []) = cond (eqb b CR) [] (b ∷ [])
ended (b ∷ (c ∷ bs)) = b ∷ ended (c ∷ bs)

-- a byte before the first LF
abbrev pub onto : ℕ → List Bytes → Bytes → Cut
onto b [] r = record { lines = []; rest = b ∷ r }
onto b (l ∷ ls) r = record { lines = (b ∷ l) ∷ ls; rest = r }

abbrev pub on_byte : Bool → ℕ → Cut → Cut
on_byte true b c = record { lines = [] ∷ c.lines; rest = c.rest }
on_byte false b c = onto b c.lines c.rest

-- the text between LFs, CR included
unfoldable pub split : Bytes → Cut
split [] = record { lines = []; rest = [] }
split (b ∷ s) = on_byte (eqb b LF) b (split s)

unfoldable pub cut : Bytes → Cut
cut s = record { lines = map ended (split s).lines; rest = (split s).rest }

-- ---- what stands before an LF is one line

ended_cr : (l : Bytes) → ended (l ++ (CR ∷ [])) ≡ l
unfolding ended
ended_cr [] = refl
ended_cr (b ∷ []) = refl
ended_cr (b ∷ (c ∷ l)) = ap (λ (x : Bytes). b ∷ x) (ended_cr (c ∷ l))

ended_lf : (l : Bytes) → ((before : Bytes) → l ≢ before ++ (CR ∷ [])) → ended l ≡ l
unfolding ended
ended_lf [] h = refl
ended_lf (b ∷ []) h = rw (ne_eqb b CR (λ e. h [] (ap (λ (x : ℕ). x ∷ []) e)))
ended_lf (b ∷ (c ∷ l)) h = ap (λ (x : Bytes). b ∷ x) (ended_lf (c ∷ l) (λ before e. h (b ∷ before) (ap (λ (x : Bytes). b ∷ x) e)))

ended_other : (l : Bytes) (b : ℕ) → b ≢ CR → ended (l ++ (b ∷ [])) ≡ l ++ (b ∷ [])
unfolding ended
ended_other [] b h = rw (ne_eqb b CR h)
ended_other (x ∷ []) b h = ap (λ (l : Bytes). x ∷ l) (ended_other [] b h)
ended_other (x ∷ (y ∷ l)) b h = ap (λ (l : Bytes). x ∷ l) (ended_other (y ∷ l) b h)

pub ended_one : {bs : Bytes} {l : Line} → Ended bs l → ended bs ≡ l
ended_one (Ended.cr_lf {l = l} e) = rw e (ended_cr l)
ended_one (Ended.lf {l = l} h) = ended_lf l h

one_byte : (b : ℕ) (t : Bool) → eqb b CR ≡ t → Ended (b ∷ []) (cond t [] (b ∷ []))
one_byte b true e = Ended.cr_lf (ap (λ (x : ℕ). x ∷ []) (eqb-true b CR e))
one_byte b false e = Ended.lf (λ before q. no_more before q)
  where
    no_more : (before : Bytes) → b ∷ [] ≡ before ++ (CR ∷ []) → ⊥
    no_more [] q = eqb-false b CR e (cc)
    no_more (x ∷ before) q = let z : 1 ≡ suc (length (before ++ (CR ∷ []))) = ap length q in omega (arith, length-append before (CR ∷ []))

not_last : (b : ℕ) (l : Bytes) → 0 < length l → ((before : Bytes) → l ≢ before ++ (CR ∷ [])) → (before : Bytes) → b ∷ l ≢ before ++ (CR ∷ [])
not_last b l some h [] q = let z : length (b ∷ l) ≡ 1 = ap length q in omega arith
not_last b l some h (x ∷ before) q = h before (cc)

ended_more : (b : ℕ) {bs : Bytes} {l : Line} → 0 < length bs → Ended bs l → Ended (b ∷ bs) (b ∷ l)
ended_more b some (Ended.cr_lf e) = Ended.cr_lf (ap (λ (x : Bytes). b ∷ x) e)
ended_more b some (Ended.lf {l = l} h) = Ended.lf (not_last b l some h)

pub ended_is : (bs : Bytes) → Ended bs (ended bs)
unfolding ended
ended_is [] = Ended.lf (λ before q. none before q)
  where
    none : (before : Bytes) → [] ≡ before ++ (CR ∷ []) → ⊥
    none before q = omega (arith, length-append before (CR ∷ []), ap length q)
ended_is (b ∷ []) = one_byte b (eqb b CR) refl
ended_is (b ∷ (c ∷ bs)) = ended_more b (omega arith) (ended_is (c ∷ bs))

-- ---- a text has one reading as lines: the computed one

pub split_rest : (r : Bytes) → Without LF r → split r ≡ record { lines = []; rest = r }
unfolding split Each
split_rest [] f = refl
split_rest (b ∷ r) f = rw (ne_eqb b LF f.0, split_rest r f.1)

pub split_line : (bs more : Bytes) → Without LF bs → split (bs ++ (LF ∷ more)) ≡ record { lines = bs ∷ (split more).lines; rest = (split more).rest }
unfolding split Each
split_line [] more f = refl
split_line (b ∷ bs) more f = rw (ne_eqb b LF f.0, split_line bs more f.1)

pub cut_rest : (r : Bytes) → Without LF r → cut r ≡ record { lines = []; rest = r }
unfolding cut
cut_rest r f = rw (split_rest r f)

pub cut_line : (bs more : Bytes) → Without LF bs → cut (bs ++ (LF ∷ more)) ≡ record { lines = ended bs ∷ (cut more).lines; rest = (cut more).rest }
unfolding cut
cut_line bs more f = rw (split_line bs more f)

pub lines_cut : {s : Bytes} {ls : List Line} {r : Bytes} → Lines s ls r → cut s ≡ record { lines = ls; rest = r }
lines_cut (Lines.unfinished {rest = r} f) = cut_rest r f
lines_cut (Lines.line {bs = bs} {more = more} e f h p) = rw (e, cut_line bs more f, ended_one h, lines_cut p)

-- every text has that reading
data Split : Bytes → List Bytes → Bytes → Type 0 where
  over : {r : Bytes} → Without LF r → Split r [] r
  next : {s bs more r : Bytes} {ls : List Bytes} → s ≡ bs ++ (LF ∷ more) → Without LF bs → Split more ls r → Split s (bs ∷ ls) r

push : {s : Bytes} {ls : List Bytes} {r : Bytes} (b : ℕ) → b ≢ LF → Split s ls r → Split (b ∷ s) (onto b ls r).lines (onto b ls r).rest
unfolding Each
push b h (over {r = r} f) = over {r = b ∷ r} (h, f)
push b h (next {bs = bs} e f p) = next {bs = b ∷ bs} (ap (λ (x : Bytes). b ∷ x) e) (h, f) p

split_is : (s : Bytes) → Split s (split s).lines (split s).rest
unfolding split Each
split_is [] = over {r = []} tt
split_is (b ∷ s) = go (eqb b LF) refl (split_is s)
  where
    go : (t : Bool) → eqb b LF ≡ t → Split s (split s).lines (split s).rest → Split (b ∷ s) (on_byte t b (split s)).lines (on_byte t b (split s)).rest
    go true e p = next {bs = []} (ap (λ (x : ℕ). x ∷ s) (eqb-true b LF e)) tt p
    go false e p = push b (eqb-false b LF e) p

split_lines : {s : Bytes} {ls : List Bytes} {r : Bytes} → Split s ls r → Lines s (map ended ls) r
split_lines (over f) = Lines.unfinished f
split_lines (next {bs = bs} e f p) = Lines.line e f (ended_is bs) (split_lines p)

pub cut_is : (s : Bytes) → Lines s (cut s).lines (cut s).rest
unfolding cut
cut_is s = split_lines (split_is s)

pub lines_same : {s : Bytes} {ls ms : List Line} {r q : Bytes} → Lines s ls r → Lines s ms q → (ls ≡ ms) × (r ≡ q)
lines_same p q = let e = sym (lines_cut p) ∙ lines_cut q in (ap (λ (c : Cut). c.lines) e, ap (λ (c : Cut). c.rest) e)

-- each line takes a byte or more
pub few_lines : {s : Bytes} {ls : List Line} {r : Bytes} → Lines s ls r → length ls ≤ length s
few_lines (Lines.unfinished f) = omega arith
few_lines (Lines.line {bs = bs} {more = more} e f h p) = omega (arith, ap length e, length-append bs (LF ∷ more), few_lines p)

-- ---- by positions

-- a line that starts at `at`, has its LF at k, ends before e, and is followed at n
record Ends (s : Bytes) (at k e n : ℕ) : Type 0 where
  found : first_from is_lf at (drop at s) ≡ Some k
  end : cond (ltb at k && eqb (get_or s (k - 1) 0) CR) (k - 1) k ≡ e
  next : k + 1 ≡ n

ends_by : (s : Bytes) (at e n : ℕ) (f : Option ℕ) → first_from is_lf at (drop at s) ≡ f → line_to s at f ≡ LineAt.Line e n → (k : ℕ) × Ends s at k e n
unfolding line_to
ends_by s at e n (Some k) found h = (k, record { found = found; end = cc; next = cc })
ends_by s at e n None found h = absurd (let z : ◌≡◌ {A = ℕ} 0 1 = cc in omega arith)

ends : (s : Bytes) (at e n : ℕ) → line_at s at ≡ LineAt.Line e n → (k : ℕ) × Ends s at k e n
unfolding line_at
ends s at e n h = ends_by s at e n (first_from is_lf at (drop at s)) refl h

-- the LF's position lies in the text
lf_within : {s : Bytes} {at k e n : ℕ} → Ends s at k e n → (at ≤ k) × (k < length s)
lf_within {s} {at} {k} h =
    let w = first_within is_lf at k (drop at s) h.found in
    omega (arith, length-drop at s)

end_by : (t : Bool) (at k e : ℕ) → (t ≡ true → at < k) → at ≤ k → cond t (k - 1) k ≡ e → (at ≤ e) × (e ≤ k)
end_by true at k e f h eq = omega (arith, f refl)
end_by false at k e f h eq = omega arith

pub line_within : (s : Bytes) (at e n : ℕ) → line_at s at ≡ LineAt.Line e n → (at ≤ e) × (e < n) × (n ≤ length s)
line_within s at e n line =
    let k = (ends s at e n line).0 in
    let h = (ends s at e n line).1 in
    let w = lf_within h in
    let b = end_by (ltb at k && eqb (get_or s (k - 1) 0) CR) at k e (λ t. ltb-true at k ((and-eq-true_iff (ltb at k) _).0 t).0) w.0 h.end in
    let same : k + 1 ≡ n = h.next in
    (b.0, omega arith, omega arith)

-- the bytes from `at` up to the LF at k, with the last one apart
module _ (s : Bytes) (at k : ℕ) (some : at < k) (within : k < length s) where
  last_apart : take (k - at) (drop at s) ≡ take (k - 1 - at) (drop at s) ++ (get_or s (k - 1) 0 ∷ [])
  last_apart =
      let size : k - at ≡ suc (k - 1 - at) = omega arith in
      let place : at + (k - 1 - at) ≡ k - 1 = omega arith in
      let in' : k - 1 - at < length (drop at s) = omega (arith, length-drop at s) in
      rw size (take-suc (drop at s) (k - 1 - at) 0 in' ∙ rw (get_or-drop at s (k - 1 - at) 0, place))

  with_cr : get_or s (k - 1) 0 ≡ CR → ended (take (k - at) (drop at s)) ≡ take (k - 1 - at) (drop at s)
  with_cr h = rw (last_apart, h) (ended_cr (take (k - 1 - at) (drop at s)))

  without_cr : get_or s (k - 1) 0 ≢ CR → ended (take (k - at) (drop at s)) ≡ take (k - at) (drop at s)
  without_cr h = rw last_apart (ended_other (take (k - 1 - at) (drop at s)) (get_or s (k - 1) 0) h)

empty_line : (s : Bytes) (at k : ℕ) → k ≤ at → ended (take (k - at) (drop at s)) ≡ take (k - at) (drop at s)
unfolding ended
empty_line s at k h = let z : k - at ≡ 0 = omega arith in rw z

ended_at : (s : Bytes) (at k e : ℕ) (before cr : Bool) → ltb at k ≡ before → eqb (get_or s (k - 1) 0) CR ≡ cr → k < length s →
    cond (before && cr) (k - 1) k ≡ e → ended (take (k - at) (drop at s)) ≡ take (e - at) (drop at s)
ended_at s at k e true true b c w h = rw (sym h) (with_cr s at k (ltb-true at k b) w (eqb-true _ CR c))
ended_at s at k e true false b c w h = rw (sym h) (without_cr s at k (ltb-true at k b) w (eqb-false _ CR c))
ended_at s at k e false cr b c w h = rw (sym h) (empty_line s at k (ltb-false at k b))

-- the text from `at` on is what stands before the LF, the LF, and the rest
apart : (s : Bytes) (at k : ℕ) → at ≤ k → k < length s → get_or s k 0 ≡ LF → drop at s ≡ take (k - at) (drop at s) ++ (LF ∷ drop (k + 1) s)
apart s at k from within h =
    let place : at + (k - at) ≡ k = omega arith in
    let after : at + suc (k - at) ≡ k + 1 = omega arith in
    let in' : k - at < length (drop at s) = omega (arith, length-drop at s) in
    split_at (drop at s) (k - at) 0 in' ∙ rw (get_or-drop at s (k - at) 0, place, h, drop-drop (suc (k - at)) at s, after)

lf_is : {s : Bytes} {at k e n : ℕ} → Ends s at k e n → get_or s k 0 ≡ LF
lf_is {s} {at} {k} h =
    let w = lf_within h in
    let place : at + (k - at) ≡ k = omega arith in
    let q : get_or s (at + (k - at)) 0 ≡ LF = rw (sym (get_or-drop at s (k - at) 0)) (eqb-true _ LF (first_passes is_lf at k (drop at s) h.found)) in
    rw place at q

no_lf : {s : Bytes} {at k e n : ℕ} → Ends s at k e n → Without LF (take (k - at) (drop at s))
no_lf {s} {at} {k} h = each_as (take (k - at) (drop at s)) (λ b. eqb-false b LF) (first_before is_lf at k (drop at s) h.found)

pub line_cut : (s : Bytes) (at e n : ℕ) → line_at s at ≡ LineAt.Line e n →
    cut (drop at s) ≡ record { lines = take (e - at) (drop at s) ∷ (cut (drop n s)).lines; rest = (cut (drop n s)).rest }
line_cut s at e n line =
    let k = (ends s at e n line).0 in
    let h = (ends s at e n line).1 in
    let w = lf_within h in
    let before = take (k - at) (drop at s) in
    let l : ended before ≡ take (e - at) (drop at s) = ended_at s at k e (ltb at k) (eqb (get_or s (k - 1) 0) CR) refl refl w.1 h.end in
    let c : cut (drop at s) ≡ record { lines = ended before ∷ (cut (drop (k + 1) s)).lines; rest = (cut (drop (k + 1) s)).rest } =
    ap cut (apart s at k w.0 w.1 (lf_is h)) ∙ cut_line before (drop (k + 1) s) (no_lf h) in
    c ∙ rw (l, h.next)

rest_by : (s : Bytes) (at : ℕ) (f : Option ℕ) → first_from is_lf at (drop at s) ≡ f → line_to s at f ≡ LineAt.Unfinished → Without LF (drop at s)
unfolding line_to
rest_by s at (Some k) found h = absurd (let z : ◌≡◌ {A = ℕ} 0 1 = cc in omega arith)
rest_by s at None found h = each_as (drop at s) (λ b. eqb-false b LF) (first_nothing is_lf at (drop at s) found)

pub rest_clean : (s : Bytes) (at : ℕ) → line_at s at ≡ LineAt.Unfinished → Without LF (drop at s)
unfolding line_at
rest_clean s at h = rest_by s at (first_from is_lf at (drop at s)) refl h

-- at the end of the text the rest is empty
pub line_rest : (s : Bytes) (at : ℕ) → line_at s at ≡ LineAt.Unfinished → cut (drop at s) ≡ record { lines = []; rest = drop at s }
line_rest s at h = cut_rest (drop at s) (rest_clean s at h)
