-- Bytes laid into lent room from a place on: one piece after the other, and all else as it was.
use Rattle.std.specs.Prelude.{ℕ, ◌+◌, ◌≤◌, ◌≡◌, refl, [], ◌++◌, length}
use Rattle.std.proofs.Common.{arith, sym, ap, ap₂, ◌∙◌, length-append}
use Rattle.std.proofs.lemmas.List.Edits.{sets}
use Rattle.std.proofs.Math.Seq.{length-sets}
use Rattle.text.specs.Text.{Bytes}
use Rattle.text.specs.Laws.{sets_append}

-- room r₀ became r: bytes bs stand from place `at` on, and e is the place after them
pub record Laid (r₀ r : Bytes) (at : ℕ) (bs : Bytes) (e : ℕ) : Type 0 where
  pub size : length r ≡ length r₀
  pub next : e ≡ at + length bs
  pub fits : e ≤ length r₀
  pub same : r ≡ sets r₀ at bs

-- the same of bytes whose number is known
pub record Field (r₀ r : Bytes) (at width : ℕ) (bs : Bytes) (e : ℕ) : Type 0 where
  pub laid : Laid r₀ r at bs e
  pub wide : e ≡ at + width

pub laid_none : (r : Bytes) (at : ℕ) → at ≤ length r → Laid r r at [] at
laid_none r at h = record { size = refl; next = omega arith; fits = h; same = refl }

pub laid_sets : (r₀ r : Bytes) (at : ℕ) (bs : Bytes) (e : ℕ) → e ≡ at + length bs → e ≤ length r₀ → r ≡ sets r₀ at bs → Laid r₀ r at bs e
laid_sets r₀ r at bs e n f s = record { size = ap length s ∙ length-sets r₀ at bs; next = n; fits = f; same = s }

pub laid_join : {r₀ r₁ r₂ : Bytes} {at e f : ℕ} {xs ys : Bytes} → Laid r₀ r₁ at xs e → Laid r₁ r₂ e ys f → Laid r₀ r₂ at (xs ++ ys) f
laid_join {r₀} {r₁} {r₂} {at} {e} {f} {xs} {ys} p q =
    record {
      size = q.size ∙ p.size;
      next = omega (arith, p.next, q.next, length-append xs ys);
      fits = omega (arith, q.fits, p.size);
      same = q.same ∙ ap₂ (λ (r : Bytes) (i : ℕ). sets r i ys) p.same p.next ∙ sym (sets_append xs ys r₀ at);
    }

-- what a leaf has put, as a field
pub field_put : (r₀ r : Bytes) (at width : ℕ) (bs : Bytes) → length bs ≡ width → at + width ≤ length r₀ → r ≡ sets r₀ at bs → Field r₀ r at width bs (at + width)
field_put r₀ r at width bs l f s = record { laid = laid_sets r₀ r at bs (at + width) (omega arith) f s; wide = refl }

pub field_join : {r₀ r₁ r₂ : Bytes} {at v w e f : ℕ} {xs ys : Bytes} → Field r₀ r₁ at v xs e → Field r₁ r₂ e w ys f → Field r₀ r₂ at (v + w) (xs ++ ys) f
field_join p q = record { laid = laid_join p.laid q.laid; wide = omega (arith, p.wide, q.wide) }

-- ---- While pieces are laid one by one: of the whole, the rest is still owed from place e on

pub record Owes (r₀ r : Bytes) (at e : ℕ) (whole rest : Bytes) : Type 0 where
  pub size : length r ≡ length r₀
  pub next : e + length rest ≡ at + length whole
  pub fits : at + length whole ≤ length r₀
  pub same : sets r₀ at whole ≡ sets r e rest

pub owes_start : (r : Bytes) (at : ℕ) (whole : Bytes) → at + length whole ≤ length r → Owes r r at at whole whole
owes_start r at whole h = record { size = refl; next = refl; fits = h; same = refl }

pub owes_next : {r₀ r r' : Bytes} {at e f : ℕ} {whole xs ys : Bytes} → Owes r₀ r at e whole (xs ++ ys) → Laid r r' e xs f → Owes r₀ r' at f whole ys
owes_next {r₀} {r} {r'} {at} {e} {f} {whole} {xs} {ys} o l =
    record {
      size = l.size ∙ o.size;
      next = omega (arith, o.next, l.next, length-append xs ys);
      fits = o.fits;
      same = o.same ∙ sets_append xs ys r e ∙ ap₂ (λ (x : Bytes) (i : ℕ). sets x i ys) (sym l.same) (sym l.next);
    }

pub owes_end : {r₀ r : Bytes} {at e : ℕ} {whole : Bytes} → Owes r₀ r at e whole [] → Laid r₀ r at whole e
owes_end o = record { size = o.size; next = omega (arith, o.next); fits = omega (arith, o.next, o.fits); same = sym o.same }
