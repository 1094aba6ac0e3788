-- Lines as bytes: what stands before a position, what value lines look like in the text, and that both are so in one way.
use Rattle.std.specs.Prelude.{Option, Some, None, ℕ, zero, suc, ◌+◌, ◌-◌, ◌≤◌, ◌<◌, ◌≡◌, refl, List, [], ◌∷◌, ◌++◌, Bool, true, false, length, get_or, take, drop, leb}
use Rattle.std.proofs.Common.{arith, sym, ap, ap₂, ◌∙◌, subst, append_assoc, length-drop, length-append, drop-drop, take-add, length-take-le, eqb-true, leb-true, leb-false}
use Rattle.std.proofs.Math.Seq.{split_at, take-append-add}
use Rattle.std.proofs.lemmas.Bool.{eqb-false}
use Rattle.text.specs.Text.{Bytes, Line, LF, Each, Without, Ended, Lines}
use Rattle.text.specs.Find.{first_from, is_lf, line_to, line_at}
use Rattle.text.specs.First.{each_as, first_within, first_passes, first_before}
use Rattle.text.specs.Cut.{Cut, cut, ended_is, cut_is, cut_line, lines_same, line_within, line_cut, line_rest}
use Rattle.text.specs.declared.LineAt.{LineAt}
use Rattle.judge_file.specs.WalkText.{after_lines, after_none, after_next}
use Rattle.reader_item.specs.Find.{line_end}
use Rattle.reader_item.specs.Position.{after_low, end_is, end_within}
use Rattle.reader_item.specs.Promise.{Joined}

-- ---- The bytes of one line

record LineBytes (s : Bytes) (at e n : ℕ) : Type 0 where
  bs : Bytes
  parts : drop at s ≡ bs ++ (LF ∷ drop n s)
  size : at + length bs + 1 ≡ n
  no_lf : Without LF bs

bytes_by : (s : Bytes) (at e n : ℕ) (f : Option ℕ) → first_from is_lf at (drop at s) ≡ f → line_to s at f ≡ LineAt.Line e n → LineBytes s at e n
unfolding line_to
bytes_by s at e n None found h = absurd (let z : ◌≡◌ {A = ℕ} 0 1 = cc in omega arith)
bytes_by s at e n (Some k) found h =
    let w = first_within is_lf at k (drop at s) found in
    let n_is : k + 1 ≡ n = cc in
    let low : k - at < length (drop at s) = omega (arith, w.0, w.1) in
    let after : at + suc (k - at) ≡ n = omega (arith, w.0) in
    record {
      bs = take (k - at) (drop at s);
      parts = split_at (drop at s) (k - at) 0 low ∙ rw (eqb-true (get_or (drop at s) (k - at) 0) LF (first_passes is_lf at k (drop at s) found), drop-drop (suc (k - at)) at s, after);
      size = omega (arith, w.0, length-take-le (k - at) (drop at s) (omega arith));
      no_lf = each_as (take (k - at) (drop at s)) (λ b. eqb-false b LF) (first_before is_lf at k (drop at s) found);
    }

line_bytes : (s : Bytes) (at e n : ℕ) → line_at s at ≡ LineAt.Line e n → LineBytes s at e n
unfolding line_at
line_bytes s at e n h = bytes_by s at e n (first_from is_lf at (drop at s)) refl h

pub head_same : {l m : Line} {ls ms : List Line} → l ∷ ls ≡ m ∷ ms → l ≡ m
head_same e = cc

line_ended : (s : Bytes) (at e n : ℕ) (h : line_at s at ≡ LineAt.Line e n) → Ended (line_bytes s at e n h).bs (take (e - at) (drop at s))
line_ended s at e n h =
    let b = line_bytes s at e n h in
    let c = sym (cut_line b.bs (drop n s) b.no_lf) ∙ ap cut (sym b.parts) ∙ line_cut s at e n h in
    subst (Ended b.bs) (head_same (ap (λ (c : Cut). c.lines) c)) (ended_is b.bs)

-- the bytes from a line's start up to a position after it
up_to : (s : Bytes) (at e n q : ℕ) (b : LineBytes s at e n) → n ≤ q → take (q - at) (drop at s) ≡ b.bs ++ (LF ∷ take (q - n) (drop n s))
up_to s at e n q b h =
    let z : q - at ≡ length b.bs + suc (q - n) = omega (arith, b.size) in
    rw (z, b.parts) (take-append-add b.bs (LF ∷ drop n s) (suc (q - n)))

-- ---- Whole lines before a position

pub before_lines : (s : Bytes) (at k : ℕ) → at ≤ length s → k ≤ length (cut (drop at s)).lines →
    Lines (take (after_lines s at k - at) (drop at s)) (take k (cut (drop at s)).lines) []
unfolding Each
before_lines s at zero h some =
    let z : after_lines s at 0 - at ≡ 0 = omega (arith, after_none s at) in
    rw z (Lines.unfinished tt)
before_lines s at (suc k) h some = go (λ n. before_lines s n k) (line_at s at) refl
  where
    go : ((n : ℕ) → n ≤ length s → k ≤ length (cut (drop n s)).lines → Lines (take (after_lines s n k - n) (drop n s)) (take k (cut (drop n s)).lines) []) →
        (x : LineAt) → line_at s at ≡ x → Lines (take (after_lines s at (suc k) - at) (drop at s)) (take (suc k) (cut (drop at s)).lines) []
    go r (LineAt.Line e n) q =
        let w = line_within s at e n q in
        let b = line_bytes s at e n q in
        let c = line_cut s at e n q in
        let fewer : k ≤ length (cut (drop n s)).lines = omega (arith, ap (λ (c : Cut). length c.lines) c) in
        rw (after_next s at e n k q, c)
        (Lines.line (up_to s at e n (after_lines s n k) b (after_low s n k w.2).0) b.no_lf (line_ended s at e n q) (r n w.2 fewer))
    go r LineAt.Unfinished q = absurd (omega (arith, ap (λ (c : Cut). length c.lines) (line_rest s at q)))

-- ---- Lines joined

no_joined : {X : Type 0} {text : Bytes} → Joined [] text → X
no_joined = elim [ ]

join_more : {text bs rest : Bytes} {l : Line} (ls : List Line) → text ≡ bs ++ (LF ∷ rest) → Without LF bs → Ended bs l → Joined ls rest → Joined (l ∷ ls) text
join_more [] e w d j = no_joined j
join_more (m ∷ ls) e w d j = Joined.more e w d j

pub joined_lines : (s : Bytes) (at k : ℕ) → at ≤ length s → k < length (cut (drop at s)).lines →
    Joined (take (suc k) (cut (drop at s)).lines) (take (line_end s (after_lines s at k) - at) (drop at s))
joined_lines s at zero h some = go (line_at s at) refl
  where
    go : (x : LineAt) → line_at s at ≡ x → Joined (take 1 (cut (drop at s)).lines) (take (line_end s (after_lines s at 0) - at) (drop at s))
    go (LineAt.Line e n) q = rw (line_cut s at e n q, after_none s at, end_is s at e n q) Joined.last
    go LineAt.Unfinished q = absurd (omega (arith, ap (λ (c : Cut). length c.lines) (line_rest s at q)))
joined_lines s at (suc k) h some = go (λ n. joined_lines s n k) (line_at s at) refl
  where
    go : ((n : ℕ) → n ≤ length s → k < length (cut (drop n s)).lines →
        Joined (take (suc k) (cut (drop n s)).lines) (take (line_end s (after_lines s n k) - n) (drop n s))) →
        (x : LineAt) → line_at s at ≡ x → Joined (take (suc (suc k)) (cut (drop at s)).lines) (take (line_end s (after_lines s at (suc k)) - at) (drop at s))
    go r (LineAt.Line e n) q =
        let w = line_within s at e n q in
        let b = line_bytes s at e n q in
        let c = line_cut s at e n q in
        let fewer : k < length (cut (drop n s)).lines = omega (arith, ap (λ (c : Cut). length c.lines) c) in
        let a = after_low s n k w.2 in
        let z = end_within s (after_lines s n k) a.1 in
        let low : n ≤ line_end s (after_lines s n k) = omega (arith, a.0, z.0) in
        rw (after_next s at e n k q, c)
        (join_more (take (suc k) (cut (drop n s)).lines) (up_to s at e n (line_end s (after_lines s n k)) b low) b.no_lf (line_ended s at e n q) (r n w.2 fewer))
    go r LineAt.Unfinished q = absurd (omega (arith, ap (λ (c : Cut). length c.lines) (line_rest s at q)))

-- ---- In one way

pub lines_then : {a b r : Bytes} {ls ms : List Line} → Lines a ls [] → Lines b ms r → Lines (a ++ b) (ls ++ ms) r
lines_then (Lines.unfinished f) q = q
lines_then {b = b} (Lines.line {bs = bs} {more = more} e f h p) q = Lines.line (ap (λ (x : Bytes). x ++ b) e ∙ append_assoc bs (LF ∷ more) b) f h (lines_then p q)

no_bytes : {b : Bytes} → Lines b [] [] → length b ≡ 0
no_bytes (Lines.unfinished f) = refl

shorter : (s : Bytes) (p q : ℕ) (ls ms : List Line) → Lines (take p s) ls [] → Lines (take q s) ms [] → length ls ≡ length ms → q ≤ length s → p ≤ q → p ≡ q
shorter s p q ls ms a b n h k =
    let mid = take (q - p) (drop p s) in
    let z : p + (q - p) ≡ q = omega arith in
    let both = lines_then a (cut_is mid) in
    let e : take q s ≡ take p s ++ mid = ap (λ (i : ℕ). take i s) (sym z) ∙ take-add p (q - p) s in
    let same = lines_same b (subst (λ (x : Bytes). Lines x (ls ++ (cut mid).lines) (cut mid).rest) (sym e) both) in
    let none = empty (cut mid).lines (omega (arith, ap length same.0, length-append ls (cut mid).lines)) in
    let over = no_bytes (subst (λ (t : List Line). Lines mid t []) none (subst (λ (r : Bytes). Lines mid (cut mid).lines r) (sym same.1) (cut_is mid))) in
    omega (arith, over, length-take-le (q - p) (drop p s) (omega (arith, length-drop p s)))
  where
    empty : (t : List Line) → length t ≡ 0 → t ≡ []
    empty [] h = refl
    empty (l ∷ t) h = absurd (omega arith)

-- a number of lines ends at one position
pub start_one : (s : Bytes) (p q : ℕ) (ls ms : List Line) → Lines (take p s) ls [] → Lines (take q s) ms [] → length ls ≡ length ms → p ≤ length s → q ≤ length s → p ≡ q
start_one s p q ls ms a b n h k = go (leb p q) refl
  where
    go : (t : Bool) → leb p q ≡ t → p ≡ q
    go true e = shorter s p q ls ms a b n k (leb-true p q e)
    go false e = sym (shorter s q p ms ls b a (sym n) h (omega (arith, leb-false p q e)))

first_lf : (a b x y : Bytes) → Without LF a → Without LF b → a ++ (LF ∷ x) ≡ b ++ (LF ∷ y) → (a ≡ b) × (x ≡ y)
unfolding Each
first_lf [] [] x y f g e = (refl, cc)
first_lf [] (c ∷ b) x y f g e = absurd (g.0 (cc))
first_lf (c ∷ a) [] x y f g e = absurd (f.0 (cc))
first_lf (c ∷ a) (d ∷ b) x y f g e =
    let cd : c ≡ d = cc in
    let t : a ++ (LF ∷ x) ≡ b ++ (LF ∷ y) = cc in
    let r = first_lf a b x y f.1 g.1 t in
    (ap₂ (λ (v : ℕ) (vs : Bytes). v ∷ vs) cd r.0, r.1)

-- from one position on, lines are joined in one way
pub joined_one : {vs : List Line} {a b : Bytes} → Joined vs a → Joined vs b → (x y : Bytes) → a ++ x ≡ b ++ y → a ≡ b
joined_one Joined.last Joined.last x y e = refl
joined_one (Joined.more {bs = bs} {rest = r} p f h j) (Joined.more {bs = cs} {rest = q} p' f' h' j') x y e =
    let z : bs ++ (LF ∷ (r ++ x)) ≡ cs ++ (LF ∷ (q ++ y)) =
    sym (ap (λ (t : Bytes). t ++ x) p ∙ append_assoc bs (LF ∷ r) x) ∙ e ∙ ap (λ (t : Bytes). t ++ y) p' ∙ append_assoc cs (LF ∷ q) y in
    let w = first_lf bs cs (r ++ x) (q ++ y) f f' z in
    p ∙ ap₂ (λ (s t : Bytes). s ++ (LF ∷ t)) w.0 (joined_one j j' x y w.1) ∙ sym p'
