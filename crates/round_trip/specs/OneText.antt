-- One text for one catalogue: two good files have the same canonical text exactly if they have the same reading, and a canonical text is its own.
-- Then the same of the catalogue writer's answers.
use Rattle.std.specs.Prelude.{ℕ, suc, ◌≤◌, ◌≡◌, refl, ◌↔◌, List, [], ◌∷◌, ◌++◌, map, length, take, drop, ℤ}
use Rattle.std.proofs.Common.{arith, sym, ap, ◌∙◌, subst}
use Rattle.std.proofs.Math.Seq.{take-append_seam}
use Rattle.text.specs.Text.{Bytes}
use Rattle.text.specs.Written.{text}
use Rattle.rules.specs.Record.{Raw, GoodSDfile}
use Rattle.rules.specs.Meaning.{Reading, meaning}
use Rattle.rules.specs.Canon.{canon_file}
use Rattle.rules.proofs.Unique.{one_sdfile}
use Rattle.reader_answer.specs.Promise.{Roomy}
use Rattle.writer_answer.specs.declared.Catalogue.{Catalogue}
use Rattle.writer_answer.specs.Catalogue.{catalogue_text}
use Rattle.writer_answer.specs.CataloguePromise.{Promise, numbers_of, written, text_stands}
use Rattle.writer_answer.proofs.CataloguePromise.{text_only, text_again}

-- what a file's records mean, one after the other
abbrev pub reading_of : List Raw → List Reading
reading_of xs = map meaning xs

-- two good files
pub one_text : (s t : Bytes) (xs ys : List Raw) → GoodSDfile s xs → GoodSDfile t ys → (catalogue_text xs ≡ catalogue_text ys) ↔ (reading_of xs ≡ reading_of ys)
unfolding catalogue_text
one_text s t xs ys f g = (
  (λ h. let k = text_stands s xs f in sym k.2 ∙ text_only t ys g k.0 (subst (λ (b : Bytes). GoodSDfile b k.0) h k.1)),
  (λ h. ap (λ (zs : List Reading). text (canon_file zs)) h),
)

-- a canonical text is a good file, and made canonical again it stays as it is
pub again : (s : Bytes) (xs : List Raw) → GoodSDfile s xs → (rs : List Raw) × GoodSDfile (catalogue_text xs) rs × (catalogue_text rs ≡ catalogue_text xs)
again s xs f = let k = text_stands s xs f in (k.0, k.1, text_again s xs f k.0 k.1)

-- ---- The catalogue writer's answers

-- an accepted writing of a file with these records: its l bytes at the front of the room are their text
pub record Wrote (s : Bytes) (l c : ℕ) (r : Bytes) (xs : List Raw) : Type 0 where
  pub good : GoodSDfile s xs
  pub size : l ≡ length (catalogue_text xs)
  pub count : c ≡ length xs
  pub front : take l r ≡ catalogue_text xs

-- every accepted writing is one
pub wrote : {s : Bytes} {ta₀ tb₀ ta tb : List ℤ} {r₀ r : Bytes} {a : Catalogue} {l c : ℕ} →
    Promise s ta₀ tb₀ r₀ a ta tb r → numbers_of a ≡ written l c → (xs : List Raw) × Wrote s l c r xs
wrote {r₀ = r₀} {r = r} {l = l} {c = c} p w =
    let x = (p.accepted l c).0 w in
    let xs = x.0 in
    let t = catalogue_text xs in
    let room : r ≡ t ++ drop (length t) r₀ = p.written xs x.1 x.2 (omega (arith, x.3, x.5)) in (
      xs,
      record {
        good = x.2;
        size = x.3;
        count = x.4;
        front = ap (λ (k : ℕ). take k r) x.3 ∙ ap (take (length t)) room ∙ take-append_seam t (drop (length t) r₀);
      },
    )

-- a file has one list of records
same_records : {s : Bytes} {l c : ℕ} {r : Bytes} {xs ys : List Raw} → Wrote s l c r xs → GoodSDfile s ys → xs ≡ ys
same_records {s} {xs = xs} {ys = ys} w g = one_sdfile s xs ys w.good g

-- two accepted writings, each into room that sufficed
module _
    {s t : Bytes} {ta₀ tb₀ ta tb ua₀ ub₀ ua ub : List ℤ} {r₀ r q₀ q : Bytes} {a b : Catalogue} {l c k d : ℕ}
    (p : Promise s ta₀ tb₀ r₀ a ta tb r) (w : numbers_of a ≡ written l c)
    (p' : Promise t ua₀ ub₀ q₀ b ua ub q) (v : numbers_of b ≡ written k d)
    (xs ys : List Raw) (f : GoodSDfile s xs) (g : GoodSDfile t ys) where
  front_left : take l r ≡ catalogue_text xs
  front_left = let o = wrote p w in o.1.front ∙ ap catalogue_text (same_records o.1 f)

  front_right : take k q ≡ catalogue_text ys
  front_right = let o = wrote p' v in o.1.front ∙ ap catalogue_text (same_records o.1 g)

  size_left : l ≡ length (catalogue_text xs)
  size_left = let o = wrote p w in o.1.size ∙ ap (λ (zs : List Raw). length (catalogue_text zs)) (same_records o.1 f)

  size_right : k ≡ length (catalogue_text ys)
  size_right = let o = wrote p' v in o.1.size ∙ ap (λ (zs : List Raw). length (catalogue_text zs)) (same_records o.1 g)

  -- the same bytes, of the same length
  pub one_writing : ((l ≡ k) × (take l r ≡ take k q)) ↔ (reading_of xs ≡ reading_of ys)
  one_writing =
      let e = one_text s t xs ys f g in (
        (λ h. e.0 (sym front_left ∙ h.1 ∙ front_right)),
        (λ h. let same = e.1 h in (size_left ∙ ap length same ∙ sym size_right, front_left ∙ same ∙ sym front_right)),
      )

-- the text that was written, handed to the writer with tables and room that suffice: it is written again, byte for byte
pub written_again : {s : Bytes} {ta₀ tb₀ ta tb ua₀ ub₀ ua ub : List ℤ} {r₀ r q₀ q : Bytes} {a b : Catalogue} {l c : ℕ} →
    Promise s ta₀ tb₀ r₀ a ta tb r → numbers_of a ≡ written l c →
    Promise (take l r) ua₀ ub₀ q₀ b ua ub q → Roomy ua₀ ub₀ → l ≤ length q₀ →
    (numbers_of b ≡ written l c) × (take l q ≡ take l r)
written_again {s} {r₀ = r₀} {r = r} {q₀ = q₀} {q = q} {b = b} {l = l} {c = c} p w p' roomy enough = go (wrote p w)
  where
    map_length : (zs : List Raw) → length (map meaning zs) ≡ length zs
    map_length [] = refl
    map_length (z ∷ zs) = ap suc (map_length zs)

    go : (xs : List Raw) × Wrote s l c r xs → (numbers_of b ≡ written l c) × (take l q ≡ take l r)
    go (xs, o) =
        let t = text_stands s xs o.good in
        let rs = t.0 in
        let good : GoodSDfile (take l r) rs = subst (λ (z : Bytes). GoodSDfile z rs) (sym o.front) t.1 in
        let same : catalogue_text rs ≡ catalogue_text xs = text_again s xs o.good rs t.1 in
        let size : l ≡ length (catalogue_text rs) = o.size ∙ ap length (sym same) in
        let count : c ≡ length rs = o.count ∙ sym (map_length xs) ∙ ap length (sym t.2) ∙ map_length rs in
        let answer : numbers_of b ≡ written l c = (p'.accepted l c).1 (rs, roomy, good, size, count, enough) in
        let n = wrote p' answer in
        let again : n.0 ≡ rs = same_records n.1 good in
        (answer, n.1.front ∙ ap catalogue_text again ∙ same ∙ sym o.front)
