-- How long a canonical text can be: room that surely suffices is not measured.
use Rattle.std.specs.Prelude.{ℕ, ◌+◌, ◌*◌, ◌≤◌, ◌<◌, ◌≡◌, refl, List, [], ◌∷◌, ◌++◌, Bool, true, false, leb, length}
use Rattle.std.proofs.Common.{arith, ap, ◌∙◌, length-append, leb-true, le-leb}
use Rattle.std.proofs.lemmas.Bool.{lt-leb}
use Rattle.text.specs.Text.{Bytes, Line, LF, CR, Ended, Lines, bytes}
use Rattle.text.specs.Columns.{spaces}
use Rattle.text.specs.Written.{text, text_append}
use Rattle.rules.specs.Forms.{DataHeader}
use Rattle.rules.specs.Record.{Headers, Item, Values, limit}
use Rattle.rules.specs.Meaning.{Reading}
use Rattle.rules.specs.Canon.{HeaderPart, ItemPart}
use Rattle.rules.specs.Write.{header_text}
use Rattle.writer_molecule.specs.Sizes.{size, kinds_most}
use Rattle.judge_parts.specs.Written.{headers_text, item_lines, items_text}
use Rattle.writer_record.specs.Write.{Given, canon_text}
use Rattle.writer_record.specs.Measure.{text_length}
use Rattle.writer_record.specs.Promise.{Accepted}

-- ---- Lines

text_none : length (text []) ≡ 0
unfolding text
text_none = refl

text_next : (l : Line) (ls : List Line) → length (text (l ∷ ls)) ≡ length l + 1 + length (text ls)
unfolding text
text_next l ls = length-append l (LF ∷ text ls) ∙ omega arith

line_most : {bs : Bytes} {l : Line} → Ended bs l → length l ≤ length bs
line_most (Ended.cr_lf {l = l} e) = omega (arith, ap length e, length-append l (CR ∷ []))
line_most (Ended.lf f) = omega arith

-- without CR, lines are no longer
lines_most : {s : Bytes} {ls : List Line} {rest : Bytes} → Lines s ls rest → length (text ls) ≤ length s
lines_most (Lines.unfinished f) = omega (arith, text_none)
lines_most (Lines.line {bs = bs} {more = more} {l = l} {ls = ls} e f g p) =
    omega (arith, ap length e, length-append bs (LF ∷ more), line_most g, text_next l ls, lines_most p)

-- ---- Header lines and items

header_most : {ls : List Line} {h : Headers} → HeaderPart ls h → headers_text h ≡ text ls
unfolding headers_text
header_most (HeaderPart.three f g h) = refl

values_most : {t vs u : List Line} → Values t vs u → length (text vs) + 1 + length (text u) ≤ length (text t)
values_most (Values.end {l = l} {t = t} b) = omega (arith, text_none, text_next l t)
values_most (Values.more {l = l} {t = t} {vs = vs} v p) = omega (arith, text_next l t, text_next l vs, values_most p)

title_most : {l : Line} {name : Bytes} → DataHeader l name → length (header_text name) ≤ length l + 2
unfolding header_text
title_most {l} {name} h =
    let tail = bytes ">" ++ spaces h.after in
    omega (
      arith,
      ap length h.parts,
      length-append (spaces h.between) (bytes "<" ++ (name ++ tail)),
      length-append name tail,
      length-append name (bytes ">"),
    )

-- a data header may be one byte longer than it was
items_most : {t : List Line} {is : List Item} → ItemPart t is → length (text (item_lines is)) ≤ 2 * length (text t)
unfolding item_lines
items_most ItemPart.none = omega (arith, text_none)
items_most (ItemPart.more {l = l} {name = name} {t = t} {u = u} {vs = vs} {is = is} h v p) =
    let after = [] ∷ item_lines is in
    omega (
      arith,
      text_next l t,
      text_next (header_text name) (vs ++ after),
      ap length (text_append vs after),
      length-append (text vs) (text after),
      text_next [] (item_lines is),
      title_most h,
      values_most v,
      items_most p,
    )

-- ---- A whole record

-- the longest molecule, with the line that ends the record: its counts line, atoms, bonds, entries of three kinds, `M  END`, `$$$$`
abbrev pub most : ℕ
most = 40 + 70 * limit + 22 * limit + 3 * size limit + 12

pub copy_most : (g : Given) (x : Reading) → Accepted g x → length (canon_text x) ≤ most + length g.headers + 2 * length g.items
unfolding items_text
copy_most g x a =
    let h = a.headers in
    let i = a.items in
    let en = ap (λ (y : Reading). y.n) a.tables in
    let em = ap (λ (y : Reading). y.m) a.tables in
    omega (
      arith,
      ap (λ (y : Reading). length (canon_text y)) a.tables,
      text_length g x.headers x.items,
      ap length (header_most h.2),
      lines_most h.1,
      items_most i.2,
      lines_most i.1,
      kinds_most g.n g.atoms (omega (arith, en, a.writable.n)),
      en,
      em,
      a.writable.n,
      a.writable.m,
    )

unfoldable pub surely : ℕ → ℕ → ℕ → Bool
surely headers items room = leb (most + headers + 2 * items) room

pub surely_not : (headers items room : ℕ) → room < most + headers + 2 * items → false ≡ surely headers items room
unfolding surely
surely_not headers items room h = rw (lt-leb (most + headers + 2 * items) room h)

pub surely_is : (headers items room : ℕ) → most + headers + 2 * items ≤ room → true ≡ surely headers items room
unfolding surely
surely_is headers items room h = rw (le-leb (most + headers + 2 * items) room h)

pub surely_enough : (headers items room : ℕ) → surely headers items room ≡ true → most + headers + 2 * items ≤ room
unfolding surely
surely_enough headers items room e = leb-true (most + headers + 2 * items) room e
