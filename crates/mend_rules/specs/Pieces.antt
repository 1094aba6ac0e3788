-- The lines of a text by positions, each as it came; what is unfinished is the last.
use Rattle.std.specs.Prelude.{Option, Some, None, ℕ, suc, ◌+◌, ◌-◌, ◌≤◌, ◌<◌, ◌≡◌, refl, Bool, true, false, cond, ◌&&◌, length, get_or, take}
use Rattle.std.proofs.Common.{arith, ◌∙◌, length-append, drop_of_length-le, get_or-drop, drop-drop, take_at, length-take-le, take-suc, take_all, eqb-true}
use Rattle.std.proofs.Math.Path.{sym, ap}
use mathlib.Core.List.{List, [], ◌∷◌, ◌++◌, append-nil, append_assoc}
use Rattle.std.proofs.Math.Bool.{and-false}
use Rattle.std.proofs.Math.ListN.{drop, length-drop}
use Rattle.std.proofs.Math.Seq.{split_at}
use Rattle.std.proofs.lemmas.List.{get_or_at}
use Rattle.std.proofs.lemmas.Bool.{eqb-false}
use Rattle.text.specs.Text.{Bytes, Line, LF, CR, Without, Ended}
use Rattle.text.specs.Find.{first_from, is_lf, line_to, line_at}
use Rattle.text.specs.First.{each_as, first_within, first_passes, first_before}
use Rattle.text.specs.Cut.{Cut, ended, ended_one, split, cut, cut_line, line_cut, line_within, split_rest, split_line, rest_clean}
use Rattle.text.specs.declared.LineAt.{LineAt}
use Rattle.mend_rules.specs.Named.{none}
use Rattle.mend_rules.specs.Text.{tail_of, pieces, unfinished}

-- the line that starts at `at` and is followed at n: its bytes up to the LF, which is the last before n
record Found-line (s : Bytes) (at n : ℕ) : Type 0 where
  raw : Bytes
  clean : Without LF raw
  is : drop at s ≡ raw ++ (LF ∷ drop n s)
  size : length raw + 1 ≡ n - at

found_by_lem : (s : Bytes) (at e n : ℕ) (f : Option ℕ) → first_from is_lf at (drop at s) ≡ f → line_to s at f ≡ LineAt.Line e n → Found-line s at n
unfolding line_to
found_by_lem s at e n None found h = absurd (let z : ◌≡◌ {A = ℕ} 0 1 = cc in omega arith)
found_by_lem s at e n (Some k) found h =
    let next : k + 1 ≡ n = cc in
    let w = first_within is_lf at k (drop at s) found in
    let inside : k < length s = omega (arith, length-drop at s) in
    let place : at + (k - at) ≡ k = omega arith in
    let after : at + suc (k - at) ≡ n = omega arith in
    let in' : k - at < length (drop at s) = omega (arith, length-drop at s) in
    let lf : get_or (drop at s) (k - at) 0 ≡ LF = eqb-true _ LF (first_passes is_lf at k (drop at s) found) in
    record {
      raw = take (k - at) (drop at s);
      clean = each_as (take (k - at) (drop at s)) (λ b. eqb-false b LF) (first_before is_lf at k (drop at s) found);
      is = split_at (drop at s) (k - at) 0 in' ∙ rw (lf, drop-drop (suc (k - at)) at s, after);
      size = omega (arith, length-take-le (k - at) (drop at s) (omega arith));
    }

found_line : (s : Bytes) (at e n : ℕ) → line_at s at ≡ LineAt.Line e n → Found-line s at n
unfolding line_at
found_line s at e n h = found_by_lem s at e n (first_from is_lf at (drop at s)) refl h

-- ---- What the code finds at a position: a line that ends before e and is followed at n, and whether its line end is missing

-- a line starts at `at`
abbrev pub Begins : Bytes → ℕ → Type 0
Begins s at = (split (drop at s)).rest ≡ (split s).rest

pub record PieceIs (s : Bytes) (at e n : ℕ) (missing : Bool) : Type 0 where
  pub raw : Bytes
  pub is : pieces (drop at s) ≡ raw ∷ pieces (drop n s)
  pub line : ended raw ≡ take (e - at) (drop at s)
  pub text : raw ++ (LF ∷ []) ≡ take (n - at) (drop at s) ++ cond missing (LF ∷ []) []
  pub start : at ≤ e
  pub end : e ≤ n
  pub more : at < n
  pub within : n ≤ length s
  pub last : Begins s at → missing ≡ (unfinished (split s).rest && none (pieces (drop n s)))
  pub onward : Begins s at → n < length s → Begins s n

-- ---- A line that ends

nothing_left : (s : Bytes) (t : Bool) → none (pieces s) ≡ t → (unfinished (split s).rest && t) ≡ false
unfolding pieces
nothing_left s false e = and-false (unfinished (split s).rest)
nothing_left s true e = by (split s).lines (split s).rest e
  where
    by : (ls : List Bytes) (r : Bytes) → none (ls ++ tail_of r) ≡ true → (unfinished r && true) ≡ false
    by [] [] e = refl
    by [] (b ∷ r) e = absurd (let z : ◌≡◌ {A = ℕ} 0 1 = cc in omega arith)
    by (l ∷ ls) r e = absurd (let z : ◌≡◌ {A = ℕ} 0 1 = cc in omega arith)

module _ (s : Bytes) (at e n : ℕ) (h : line_at s at ≡ LineAt.Line e n) where
  f : Found-line s at n
  f = found_line s at e n h

  parted : split (drop at s) ≡ record { lines = f.raw ∷ (split (drop n s)).lines; rest = (split (drop n s)).rest }
  parted = ap split f.is ∙ split_line f.raw (drop n s) f.clean

  first_line : ended f.raw ≡ take (e - at) (drop at s)
  first_line =
      let c = sym (cut_line f.raw (drop n s) f.clean) ∙ ap cut (sym f.is) ∙ line_cut s at e n h in
      head_same (ap (λ (x : Cut). x.lines) c)
    where
      head_same : {x y : Line} {xs ys : List Line} → x ∷ xs ≡ y ∷ ys → x ≡ y
      head_same h = cc

  ends_text : f.raw ++ (LF ∷ []) ≡ take (n - at) (drop at s)
  ends_text =
      let size : length (f.raw ++ (LF ∷ [])) ≡ n - at = length-append f.raw (LF ∷ []) ∙ f.size in
      sym (ap (take (n - at)) (f.is ∙ sym (append_assoc f.raw (LF ∷ []) (drop n s))) ∙ take_at (f.raw ++ (LF ∷ [])) (drop n s) (n - at) size)

  pub ended_piece : PieceIs s at e n false
  unfolding pieces
  ended_piece =
      let w = line_within s at e n h in
      let r : (split (drop at s)).rest ≡ (split (drop n s)).rest = ap (λ (c : Cut). c.rest) parted in
      record {
        raw = f.raw;
        is = ap (λ (c : Cut). c.lines ++ tail_of c.rest) parted;
        line = first_line;
        text = ends_text ∙ sym (append-nil (take (n - at) (drop at s)));
        start = w.0;
        end = omega (arith, w.1);
        more = omega (arith, w.0, w.1);
        within = w.2;
        last = λ b. sym (ap (λ (x : Bytes). unfinished x && none (pieces (drop n s))) (sym b ∙ r) ∙ nothing_left (drop n s) (none (pieces (drop n s))) refl);
        onward = λ b _. sym r ∙ b;
      }

-- ---- What is unfinished

tail_some : (r : Bytes) → 0 < length r → (tail_of r ≡ r ∷ []) × (unfinished r ≡ true)
tail_some [] h = absurd (omega arith)
tail_some (b ∷ r) h = (refl, refl)

no_pieces : pieces [] ≡ []
unfolding pieces split
no_pieces = refl

-- the last byte of some bytes, apart
last_of : (s : Bytes) (at : ℕ) → at < length s → drop at s ≡ take (length s - 1 - at) (drop at s) ++ (get_or s (length s - 1) 0 ∷ [])
last_of s at h =
    let size : length s - at ≡ suc (length s - 1 - at) = omega arith in
    let place : at + (length s - 1 - at) ≡ length s - 1 = omega arith in
    let in' : length s - 1 - at < length (drop at s) = omega (arith, length-drop at s) in
    sym (take_all (length s - at) (drop at s) (omega (arith, length-drop at s)))
    ∙ rw size (take-suc (drop at s) (length s - 1 - at) 0 in' ∙ rw (get_or-drop at s (length s - 1 - at) 0, place))

not_cr : (front before : Bytes) (b : ℕ) → (b ≡ CR → ⊥) → front ++ (b ∷ []) ≡ before ++ (CR ∷ []) → ⊥
not_cr front before b ne e =
    let n : length front ≡ length before = omega (arith, length-append front (b ∷ []), length-append before (CR ∷ []), ap length e) in
    ne (sym (get_or_at front b [] 0 (length before) n) ∙ ap (λ (x : Bytes). get_or x (length before) 0) e ∙ get_or_at before CR [] 0 (length before) refl)

module _ (s : Bytes) (at : ℕ) (h : line_at s at ≡ LineAt.Unfinished) (some : at < length s) where
  r : Bytes
  r = drop at s

  alone : split (drop at s) ≡ record { lines = []; rest = drop at s }
  alone = split_rest (drop at s) (rest_clean s at h)

  nothing : drop (length s) s ≡ []
  nothing = drop_of_length-le s {i = length s} (omega arith)

  open_piece : (e : ℕ) → at ≤ e → e ≤ length s → ended (drop at s) ≡ take (e - at) (drop at s) → PieceIs s at e (length s) true
  unfolding pieces
  open_piece e low high l =
      let w = tail_some (drop at s) (omega (arith, length-drop at s)) in
      record {
        raw = drop at s;
        is = ap (λ (c : Cut). c.lines ++ tail_of c.rest) alone ∙ w.0 ∙ sym (ap (λ (x : Bytes). drop at s ∷ pieces x) nothing ∙ ap (λ (x : List Bytes). drop at s ∷ x) no_pieces);
        line = l;
        text = ap (λ (x : Bytes). x ++ (LF ∷ [])) (sym (take_all (length s - at) (drop at s) (omega (arith, length-drop at s))));
        start = low;
        end = high;
        more = some;
        within = omega arith;
        last = λ b. sym (ap (λ (x : Bytes). unfinished x && none (pieces (drop (length s) s))) (sym b ∙ ap (λ (c : Cut). c.rest) alone) ∙ rw (w.1, nothing, no_pieces));
        onward = λ b z. absurd (omega arith);
      }

  pub open_cr : get_or s (length s - 1) 0 ≡ CR → PieceIs s at (length s - 1) (length s) true
  open_cr e =
      open_piece (length s - 1) (omega arith) (omega arith)
      (ended_one (Ended.cr_lf (last_of s at some ∙ ap (λ (b : ℕ). take (length s - 1 - at) (drop at s) ++ (b ∷ [])) e)))

  pub open_plain : (get_or s (length s - 1) 0 ≡ CR → ⊥) → PieceIs s at (length s) (length s) true
  open_plain ne =
      open_piece (length s) (omega arith) (omega arith)
      (ended_one (Ended.lf (λ before e. not_cr (take (length s - 1 - at) (drop at s)) before (get_or s (length s - 1) 0) ne (sym (last_of s at some) ∙ e)))
      ∙ sym (take_all (length s - at) (drop at s) (omega (arith, length-drop at s))))

-- ---- At the end there is none, and at the start a line begins

pub no_piece : (s : Bytes) (at : ℕ) → length s ≤ at → pieces (drop at s) ≡ []
no_piece s at h = rw (drop_of_length-le s {i = at} h) no_pieces

pub begins_first : (s : Bytes) → Begins s 0
begins_first s = refl
