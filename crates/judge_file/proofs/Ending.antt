-- What the judge says at the end of the complete lines: good exactly where a file may end and nothing unfinished follows. And what its verdict rests on.
use Rattle.std.specs.Prelude.{ℕ, suc, ◌≡◌, refl, List, [], ◌∷◌, Bool, false, length, eqb}
use Rattle.std.proofs.Common.{sym, ap, ◌∙◌, subst, arith}
use Rattle.text.specs.Text.{Bytes, Line, Lines}
use Rattle.text.specs.Cut.{cut, cut_is}
use Rattle.text.specs.Laws.{true_false}
use Rattle.rules.specs.Record.{Raw}
use Rattle.judge_file.specs.Place.{FileKind, molfile, sdfile}
use Rattle.judge_file.specs.Place.{Place, first, second, third, counts, atoms, bonds, properties, over, items, values}
use Rattle.judge_file.specs.Verdict.{Run, at, stopped, run, Verdict, refused, end_sdfile, end_molfile, finish, conclude, verdict}
use Rattle.judge_file.specs.Ending.{Ending, place_number, is_first, Judged}

abbrev is_over : Place → Bool
is_over p = eqb (place_number p) 7

-- the place is another
short_sd : {p : Place} {xs : List Raw} {i : ℕ} → is_first p ≡ false → Ending sdfile p xs [] i (refused 19 i 1)
short_sd {p = p} h = Ending.short {kind = sdfile} {p = p} (λ w. true_false (sym (ap is_first w.1.0) ∙ h))

short_mol : {p : Place} {xs : List Raw} {i : ℕ} → is_over p ≡ false → Ending molfile p xs [] i (refused 19 i 1)
short_mol {p = p} h = Ending.short {kind = molfile} {p = p} (λ w. true_false (sym (ap is_over w.1.1) ∙ h))

unfinished : {kind : FileKind} {p : Place} {xs : List Raw} (b : ℕ) (bs : Bytes) {i : ℕ} → Ending kind p xs (b ∷ bs) i (refused 19 i 1)
unfinished {kind = kind} {p = p} b bs = Ending.short {kind = kind} {p = p} {rest = b ∷ bs} (λ w. omega (arith, ap length w.2))

ending_sd : (p : Place) (xs : List Raw) (i : ℕ) → Ending sdfile p xs [] i (end_sdfile p xs i)
ending_sd first xs i = Ending.good_sd
ending_sd (second h₁) xs i = short_sd refl
ending_sd (third h₁ h₂) xs i = short_sd refl
ending_sd (counts hs) xs i = short_sd refl
ending_sd (atoms hs c k ys) xs i = short_sd refl
ending_sd (bonds hs c ys k bs) xs i = short_sd refl
ending_sd (properties hs c ys bs ps) xs i = short_sd refl
ending_sd (over m) xs i = short_sd refl
ending_sd (items m is) xs i = short_sd refl
ending_sd (values m is name vs) xs i = short_sd refl

ending_mol : (p : Place) (xs : List Raw) (i : ℕ) → Ending molfile p xs [] i (end_molfile p i)
ending_mol first xs i = short_mol refl
ending_mol (second h₁) xs i = short_mol refl
ending_mol (third h₁ h₂) xs i = short_mol refl
ending_mol (counts hs) xs i = short_mol refl
ending_mol (atoms hs c k ys) xs i = short_mol refl
ending_mol (bonds hs c ys k bs) xs i = short_mol refl
ending_mol (properties hs c ys bs ps) xs i = short_mol refl
ending_mol (over m) xs i = Ending.good_mol
ending_mol (items m is) xs i = short_mol refl
ending_mol (values m is name vs) xs i = short_mol refl

pub ending : (kind : FileKind) (p : Place) (xs : List Raw) (rest : Bytes) (i : ℕ) → Ending kind p xs rest i (finish kind p xs rest i)
ending molfile p xs [] i = ending_mol p xs i
ending molfile p xs (b ∷ bs) i = unfinished b bs
ending sdfile p xs [] i = ending_sd p xs i
ending sdfile p xs (b ∷ bs) i = unfinished b bs

-- ---- The verdict on a text

at_the_end : (limit : ℕ) (s : Bytes) {kind : FileKind} {ls : List Line} {rest : Bytes} {p : Place} {xs : List Raw} {i : ℕ} {v : Verdict (List Raw)} →
    Lines s ls rest → run kind limit first [] 1 ls ≡ at p xs → i ≡ suc (length ls) → Ending kind p xs rest i v → Judged limit s kind v
at_the_end limit s h r e Ending.good_sd = Judged.good_sd h r
at_the_end limit s h r e Ending.good_mol = Judged.good_mol h r
at_the_end limit s {kind = kind} h r e (Ending.short w) =
    subst (λ (i : ℕ). Judged limit s kind (refused 19 i 1)) (sym e) (Judged.short h r w)

pub judged : (kind : FileKind) (limit : ℕ) (s : Bytes) → Judged limit s kind (verdict kind limit s)
unfolding verdict
judged kind limit s = go (run kind limit first [] 1 (cut s).lines) refl
  where
    go : (r : Run) → run kind limit first [] 1 (cut s).lines ≡ r → Judged limit s kind (conclude kind r (cut s).rest (suc (length (cut s).lines)))
    go (at p xs) e = at_the_end limit s (cut_is s) e refl (ending kind p xs (cut s).rest (suc (length (cut s).lines)))
    go (stopped n i c) e = Judged.stop (cut_is s) e
