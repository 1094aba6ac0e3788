-- A text mended.
use Rattle.std.specs.Prelude.{ℕ, suc, ◌≡◌, refl, ◌≢◌, Bool, true, false, eqb, length}
use Rattle.std.proofs.Common.{sym, ◌∙◌}
use Rattle.std.proofs.Math.Path.{ap}
use mathlib.Core.List.{List, [], ◌∷◌, ◌++◌, map, append-nil}
use Rattle.std.proofs.lemmas.List.{length-map}
use Rattle.std.proofs.lemmas.Bool.{eqb-false}
use Rattle.text.specs.Text.{Bytes, Line, LF, Each, Without}
use Rattle.text.specs.Cut.{Cut, ended, onto, on_byte, split, cut, cut_line, cut_rest, lines_cut}
use Rattle.rules.specs.Record.{Raw}
use Rattle.judge_file.specs.Place.{sdfile, first}
use Rattle.judge_file.specs.Verdict.{at, run, accepted, conclude, verdict}
use Rattle.judge_file.proofs.Agree.{accepts_sd}
use Rattle.judge_file.proofs.Promise.{accepted_sd}
use Rattle.mend_rules.specs.Mend.{Action, keep, put, lose, actions_of, applied, walk_from}
use Rattle.mend_rules.proofs.Judged.{judged_as}
use Rattle.mend_rules.specs.Unchanged.{applied_kept}
use Rattle.mend_rules.proofs.Unchanged.{good_unchanged}
use Rattle.mend_rules.specs.Named.{by_list, Rising, no_fixes}
use Rattle.mend_rules.proofs.Named.{in_order, actions_length, kept_lines}
use Rattle.mend_rules.specs.Text.{tail_of, pieces, joined, actions, mended_pieces, mended_text, unfinished, fixes, joined_split}

-- ---- pieces hold no LF, and make the text

unfoldable Clean : List Bytes → Type 0
Clean [] = Unit {0}
Clean (r ∷ rs) = Without LF r × Clean rs

onto_clean : (b : ℕ) → b ≢ LF → (ls : List Bytes) (r : Bytes) → Clean ls → Without LF r → Clean (onto b ls r).lines × Without LF (onto b ls r).rest
unfolding Clean Each
onto_clean b h [] r p q = (tt, (h, q))
onto_clean b h (l ∷ ls) r p q = (((h, p.0), p.1), q)

split_clean : (s : Bytes) → Clean (split s).lines × Without LF (split s).rest
unfolding split Clean Each
split_clean [] = (tt, tt)
split_clean (b ∷ s) = go (eqb b LF) refl (split_clean s)
  where
    go : (t : Bool) → eqb b LF ≡ t → Clean (split s).lines × Without LF (split s).rest → Clean (on_byte t b (split s)).lines × Without LF (on_byte t b (split s)).rest
    go true e p = ((tt, p.0), p.1)
    go false e p = onto_clean b (eqb-false b LF e) (split s).lines (split s).rest p.0 p.1

with_tail : (ls : List Bytes) (r : Bytes) → Clean ls → Without LF r → Clean (ls ++ tail_of r)
unfolding Clean
with_tail [] [] p q = tt
with_tail [] (b ∷ r) p q = (q, tt)
with_tail (l ∷ ls) r p q = (p.0, with_tail ls r p.1 q)

pieces_clean : (s : Bytes) → Clean (pieces s)
unfolding pieces
pieces_clean s = let c = split_clean s in with_tail (split s).lines (split s).rest c.0 c.1

applied_clean : (t : List Action) (ls : List Bytes) → Clean ls → Clean (applied t ls)
unfolding Clean applied Each
applied_clean [] ls p = tt
applied_clean (a ∷ t) [] p = tt
applied_clean (keep ∷ t) (l ∷ ls) p = (p.0, applied_clean t ls p.1)
applied_clean (put ∷ t) (l ∷ ls) p = (tt, (p.0, applied_clean t ls p.1))
applied_clean (lose ∷ t) (l ∷ ls) p = applied_clean t ls p.1

joined_cut : (rs : List Bytes) → Clean rs → cut (joined rs) ≡ record { lines = map ended rs; rest = [] }
unfolding joined Clean Each
joined_cut [] p = cut_rest [] tt
joined_cut (r ∷ rs) p = cut_line r (joined rs) p.0 ∙ rw (joined_cut rs p.1)

-- ---- the mended text is judged as the walk says

applied_ended : (t : List Action) (ls : List Bytes) → map ended (applied t ls) ≡ applied t (map ended ls)
unfolding applied ended
applied_ended [] ls = refl
applied_ended (a ∷ t) [] = refl
applied_ended (keep ∷ t) (l ∷ ls) = ap (λ (x : List Line). ended l ∷ x) (applied_ended t ls)
applied_ended (put ∷ t) (l ∷ ls) = ap (λ (x : List Line). [] ∷ (ended l ∷ x)) (applied_ended t ls)
applied_ended (lose ∷ t) (l ∷ ls) = applied_ended t ls

pub judged_text : (limit : ℕ) (s : Bytes) →
    verdict sdfile limit (mended_text limit s) ≡ conclude sdfile (walk_from limit first [] 1 (map ended (pieces s))) [] (suc (length (mended_pieces limit s)))
unfolding verdict mended_text mended_pieces actions
judged_text limit s =
    let t = actions_of limit first [] (map ended (pieces s)) in
    let c = joined_cut (applied t (pieces s)) (applied_clean t (pieces s) (pieces_clean s)) in
    rw (c, length-map (applied t (pieces s)) ended, applied_ended t (pieces s), judged_as limit first [] 1 (map ended (pieces s)))

pub actions_many : (limit : ℕ) (s : Bytes) → length (actions limit s) ≡ length (pieces s)
unfolding actions
actions_many limit s = actions_length limit first [] (map ended (pieces s)) ∙ length-map (pieces s) ended

-- ---- a good file comes back unchanged, with an empty list

module _ (limit : ℕ) (s : Bytes) where
  rest_of : (cut s).rest ≡ [] → (split s).rest ≡ []
  unfolding cut
  rest_of e = e

  lines_of : (ls : List Line) → (cut s).lines ≡ ls → map ended (split s).lines ≡ ls
  unfolding cut
  lines_of ls e = e

  pieces_of : (split s).rest ≡ [] → pieces s ≡ (split s).lines
  unfolding pieces
  pieces_of e = rw e (append-nil (split s).lines)

  whole : (split s).rest ≡ [] → joined (split s).lines ≡ s
  whole r = sym (append-nil (joined (split s).lines)) ∙ ap (λ (x : Bytes). joined (split s).lines ++ x) (sym r) ∙ joined_split s

  kept_all : (n : ℕ) (rs : List Bytes) → map (λ (t : Line). keep) (map ended rs) ≡ map (λ (t : Bytes). keep) rs
  kept_all n [] = refl
  kept_all n (r ∷ rs) = ap (λ (x : List Action). keep ∷ x) (kept_all n rs)

  acts : (ls : List Line) (xs : List Raw) → map ended (pieces s) ≡ ls → run sdfile limit first [] 1 ls ≡ at first xs → actions limit s ≡ map (λ t. keep) (pieces s)
  unfolding actions
  acts ls xs e h = good_unchanged limit first [] 1 (map ended (pieces s)) xs (rw e h) ∙ kept_all 0 (pieces s)

  pub good_text : (xs : List Raw) → verdict sdfile limit s ≡ accepted xs → (mended_text limit s ≡ s) × (fixes limit s ≡ [])
  unfolding mended_text mended_pieces fixes
  good_text xs h =
      let g = (accepted_sd limit s xs).0 h in
      let c = lines_cut g.1 in
      let r : (split s).rest ≡ [] = rest_of (ap (λ (x : Cut). x.rest) c) in
      let p : pieces s ≡ (split s).lines = pieces_of r in
      let l : map ended (pieces s) ≡ g.0 = ap (map ended) p ∙ lines_of g.0 (ap (λ (x : Cut). x.lines) c) in
      let a : actions limit s ≡ map (λ t. keep) (pieces s) = acts g.0 xs l ((accepts_sd limit g.0 xs).1 g.2) in
      (ap joined (ap (λ (x : List Action). applied x (pieces s)) a ∙ applied_kept (pieces s) ∙ p) ∙ whole r, rw (a, r) (no_fixes 1 (pieces s)))

  -- ---- the list says all that was done with the lines

  pub kept_text : mended_pieces limit s ≡ by_list 1 (fixes limit s) (pieces s)
  unfolding mended_pieces fixes
  kept_text = kept_lines (unfinished (split s).rest) 1 (actions limit s) (pieces s) (actions_many limit s)

  pub listed_in_order : Rising 2 (fixes limit s)
  unfolding fixes
  listed_in_order = in_order (unfinished (split s).rest) 1 (actions limit s)

-- what came out good is mended already
pub mend_done : (limit : ℕ) (s : Bytes) (xs : List Raw) → verdict sdfile limit (mended_text limit s) ≡ accepted xs → (mended_text limit (mended_text limit s) ≡ mended_text limit s) × (fixes limit (mended_text limit s) ≡ [])
mend_done limit s xs h = good_text limit (mended_text limit s) xs h
