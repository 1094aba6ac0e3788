-- Laws on positions of lines, and on what a part of a record takes from the front of some lines.
use Rattle.std.specs.Prelude.{ℕ, zero, suc, ◌+◌, ◌≤◌, ◌≡◌, refl, List, ◌∷◌, length, drop}
use Rattle.std.proofs.Common.{arith, sym, ap, ◌∙◌, subst, length-drop, drop-drop}
use Rattle.text.specs.Text.{Bytes, Line}
use Rattle.text.specs.Find.{line_at}
use Rattle.text.specs.Cut.{line_within}
use Rattle.text.specs.declared.LineAt.{LineAt}
use Rattle.rules.specs.Forms.{Atom, Bond, Property}
use Rattle.rules.specs.Record.{Molecule, Atoms, Bonds, Properties, Values, Parts1to5}
use Rattle.judge_file.specs.WalkText.{after_lines, after_none, after_next, after_last}
use Rattle.reader_walk.specs.Stands.{molecule_lines}
use Rattle.reader_item.specs.Find.{line_end}

-- ---- Positions

-- where no line is left
after_stay : (s : Bytes) (at k : ℕ) → line_at s at ≡ LineAt.Unfinished → after_lines s at k ≡ at
after_stay s at zero h = after_none s at
after_stay s at (suc k) h = after_last s at k h

pub after_join : (s : Bytes) (at j k : ℕ) → after_lines s at (j + k) ≡ after_lines s (after_lines s at j) k
after_join s at zero k = let z : 0 + k ≡ k = omega arith in rw (z, after_none s at)
after_join s at (suc j) k = go (λ n. after_join s n j k) (line_at s at) refl
  where
    go : ((n : ℕ) → after_lines s n (j + k) ≡ after_lines s (after_lines s n j) k) → (x : LineAt) → line_at s at ≡ x →
        after_lines s at (suc j + k) ≡ after_lines s (after_lines s at (suc j)) k
    go r (LineAt.Line e n) q =
        let z : suc j + k ≡ suc (j + k) = omega arith in
        rw (z, after_next s at e n (j + k) q, after_next s at e n j q) (r n)
    go r LineAt.Unfinished q = after_stay s at (suc j + k) q ∙ sym (after_stay s at k q) ∙ ap (λ (i : ℕ). after_lines s i k) (sym (after_stay s at (suc j) q))

pub after_low : (s : Bytes) (at k : ℕ) → at ≤ length s → (at ≤ after_lines s at k) × (after_lines s at k ≤ length s)
after_low s at zero h = let z = after_none s at in (omega arith, omega arith)
after_low s at (suc k) h = go (λ n. after_low s n k) (line_at s at) refl
  where
    go : ((n : ℕ) → n ≤ length s → (n ≤ after_lines s n k) × (after_lines s n k ≤ length s)) → (x : LineAt) → line_at s at ≡ x →
        (at ≤ after_lines s at (suc k)) × (after_lines s at (suc k) ≤ length s)
    go r (LineAt.Line e n) q =
        let w = line_within s at e n q in
        let m = r n w.2 in
        let z = after_next s at e n k q in
        (omega (arith, m.0, w.0, w.1), omega (arith, m.1))
    go r LineAt.Unfinished q = let z = after_last s at k q in (omega arith, omega arith)

pub end_is : (s : Bytes) (at e n : ℕ) → line_at s at ≡ LineAt.Line e n → line_end s at ≡ e
unfolding line_end
end_is s at e n h = rw (h, line_end)

pub end_within : (s : Bytes) (at : ℕ) → at ≤ length s → (at ≤ line_end s at) × (line_end s at ≤ length s)
unfolding line_end
end_within s at h = go (line_at s at) refl
  where
    go : (x : LineAt) → line_at s at ≡ x → (at ≤ line_end s at) × (line_end s at ≤ length s)
    go (LineAt.Line e n) q = let w = line_within s at e n q in let z = end_is s at e n q in (omega (arith, w.0), omega (arith, w.1, w.2))
    go LineAt.Unfinished q = let z : line_end s at ≡ at = rw (q, line_end) in (omega arith, omega arith)

-- ---- The lines of a part

-- the rest is what follows the first n lines
pub record Past (n : ℕ) (t r : List Line) : Type 0 where
  pub rest : r ≡ drop n t
  pub some : n ≤ length t

pub past_none : (t : List Line) → Past 0 t t
past_none t = record { rest = refl; some = omega arith }

pub past_more : (n : ℕ) (l : Line) (t r : List Line) → Past n t r → Past (suc n) (l ∷ t) r
past_more n l t r p = record { rest = p.rest; some = omega (arith, p.some) }

pub past_join : (m n : ℕ) (t u r : List Line) → Past m t u → Past n u r → Past (m + n) t r
past_join m n t u r p q =
    record {
      rest = q.rest ∙ ap (drop n) p.rest ∙ drop-drop n m t;
      some = omega (arith, p.some, q.some, ap length p.rest, length-drop m t);
    }

past_atoms : {n k : ℕ} {t r : List Line} {xs : List Atom} → Atoms n k t xs r → Past (length xs) t r
past_atoms (Atoms.none {t = t}) = past_none t
past_atoms (Atoms.more {l = l} {t = t} {r = r} {xs = xs} h p) = past_more (length xs) l t r (past_atoms p)

past_bonds : {n k : ℕ} {t r : List Line} {bs : List Bond} → Bonds n k t bs r → Past (length bs) t r
past_bonds (Bonds.none {t = t}) = past_none t
past_bonds (Bonds.more {l = l} {t = t} {r = r} {bs = bs} h p) = past_more (length bs) l t r (past_bonds p)

past_properties : {n : ℕ} {t r : List Line} {ps : List Property} → Properties n t ps r → Past (suc (length ps)) t r
past_properties (Properties.end {l = l} {t = t} h) = past_more 0 l t t (past_none t)
past_properties (Properties.more {l = l} {t = t} {r = r} {ps = ps} h p) = past_more (suc (length ps)) l t r (past_properties p)

pub past_values : {t vs r : List Line} → Values t vs r → Past (suc (length vs)) t r
past_values (Values.end {l = l} {t = t} h) = past_more 0 l t t (past_none t)
past_values (Values.more {l = l} {t = t} {vs = vs} {r = r} h p) = past_more (suc (length vs)) l t r (past_values p)

pub past_molecule : {limit : ℕ} {t r : List Line} {m : Molecule} → Parts1to5 limit t m r → Past (molecule_lines m) t r
past_molecule (Parts1to5.parts {h₁ = h₁} {h₂ = h₂} {h₃ = h₃} {l = l} {t = t} {u = u} {v = v} {r = r} {xs = xs} {bs = bs} {ps = ps} f g h c a b w p o) =
    let all = past_join (length xs) (length bs + suc (length ps)) t u r (past_atoms a) (past_join (length bs) (suc (length ps)) u v r (past_bonds b) (past_properties p)) in
    let n : suc (suc (suc (suc (length xs + (length bs + suc (length ps)))))) ≡ 5 + length xs + length bs + length ps = omega arith in
    subst (λ (k : ℕ). Past k (h₁ ∷ h₂ ∷ h₃ ∷ l ∷ t) r) n
    (past_more _ h₁ (h₂ ∷ h₃ ∷ l ∷ t) r (past_more _ h₂ (h₃ ∷ l ∷ t) r (past_more _ h₃ (l ∷ t) r (past_more _ l t r all))))
