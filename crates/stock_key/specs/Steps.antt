-- Ends of the code: each gives the definition's answer.
use Rattle.std.specs.Prelude.{ℕ, ◌+◌, ◌-◌, ◌*◌, ◌≤◌, ◌<◌, ◌≡◌, refl, length, get_or}
use Rattle.std.proofs.Common.{arith, sym, ◌∙◌}
use Rattle.std.proofs.Math.Path.{ap}
use borrow.Author.Tests.{eq-eqb, ne_eqb, lt-ltb, le-ltb}
use Rattle.text.specs.Text.{Bytes}
use Rattle.reader_first_line.specs.declared.FirstLine.{FirstLine}
use Rattle.reader_first_line.specs.Promise.{FirstAt, FirstPromise}
use Rattle.store_event.specs.declared.Key.{Key}
use Rattle.stock_key.specs.declared.Fault.{Fault}
use Rattle.stock_key.specs.declared.TextAt.{TextAt}
use Rattle.stock_key.specs.declared.KeyRead.{KeyRead}
use Rattle.stock_key.specs.Read.{byte_of, word_of, text_in, absent_by, text_by, text_of, lot_by, lot_of, key_by, key_read_of}
use Rattle.stock_key.specs.Promise.{KeyPromise}
use Rattle.stock_key.specs.Agree.{text_found, key_promised}

-- ---- Bytes

module _ (s : Bytes) (at to pad : ℕ) where
  pub byte_there : (b : ℕ) → at < to → b ≡ get_or s at 0 → b ≡ byte_of s at to pad
  unfolding byte_of
  byte_there b h e = rw (lt-ltb at to h) e

  pub byte_past : (b : ℕ) → to ≤ at → b ≡ pad → b ≡ byte_of s at to pad
  unfolding byte_of
  byte_past b h e = rw (le-ltb at to h) e

  pub word_is : (a b c d : ℕ) → a ≡ byte_of s at to pad → b ≡ byte_of s (at + 1) to pad → c ≡ byte_of s (at + 2) to pad → d ≡ byte_of s (at + 3) to pad →
      a + 256 * (b + 256 * (c + 256 * d)) ≡ word_of s at to pad
  unfolding word_of
  word_is a b c d ha hb hc hd = rw (ha, hb, hc, hd)

pub ruleset byte_laws = (byte_there, byte_past, word_is)

-- ---- A text

module _ (s : Bytes) (from to width pad : ℕ) where
  pub text_long : width < to - from → TextAt.Wrong Fault.TooLong ≡ text_in s from to width pad
  unfolding text_in
  text_long h = rw (lt-ltb width (to - from) h)

  pub text_empty : to - from ≤ width → to ≤ from → TextAt.Good from to ≡ text_in s from to width pad
  unfolding text_in
  text_empty h l = rw (le-ltb width (to - from) h, le-ltb from to l)

  pub text_padded : to - from ≤ width → from < to → get_or s (to - 1) 0 ≡ pad → TextAt.Wrong Fault.Padded ≡ text_in s from to width pad
  unfolding text_in
  text_padded h l e = rw (le-ltb width (to - from) h, lt-ltb from to l, eq-eqb (get_or s (to - 1) 0) pad e)

  pub text_good : to - from ≤ width → from < to → (get_or s (to - 1) 0 ≡ pad → ⊥) → TextAt.Good from to ≡ text_in s from to width pad
  unfolding text_in
  text_good h l e = rw (le-ltb width (to - from) h, lt-ltb from to l, ne_eqb (get_or s (to - 1) 0) pad e)

pub ruleset text_laws = (text_long, text_empty, text_padded, text_good)

module _ (e i column : ℕ) where
  pub absent_item : e ≡ 22 → TextAt.Wrong Fault.Missing ≡ absent_by e i column
  unfolding absent_by
  absent_item h = rw (eq-eqb e 22 h)

  pub absent_record : (e ≡ 22 → ⊥) → TextAt.Refused e i column ≡ absent_by e i column
  unfolding absent_by
  absent_record h = rw (ne_eqb e 22 h)

pub ruleset absent_laws = (absent_item, absent_record)

-- ---- The first line of an item

first_inside : {s name : Bytes} {x : FirstLine} → FirstAt s name x → (from to : ℕ) → x ≡ FirstLine.Line from to → (from ≤ to) × (to ≤ length s)
first_inside (FirstAt.line {from = a} {to = b} lines rec named o i e) from to q =
    let p : a ≡ from = cc in
    let z : b ≡ to = cc in
    (omega arith, omega arith)
first_inside (FirstAt.empty lines rec named) from to q = absurd (let z : ◌≡◌ {A = ℕ} 0 1 = cc in omega arith)
first_inside (FirstAt.refused h) from to q = absurd (let z : ◌≡◌ {A = ℕ} 0 1 = cc in omega arith)

module _ {s name : Bytes} {x : FirstLine} (p : FirstPromise s name x) where
  pub line_inside : (from to : ℕ) → x ≡ FirstLine.Line from to → (from ≤ to) × (to ≤ length s)
  line_inside from to e = first_inside p.first from to e

  module _ (width pad : ℕ) where
    by_line : (y : FirstLine) → x ≡ y → text_by s width pad y ≡ text_of s name width pad
    unfolding text_of
    by_line y e = ap (text_by s width pad) (sym e ∙ p.judged)

    pub of_line : (from to : ℕ) → x ≡ FirstLine.Line from to → (r : TextAt) → r ≡ text_in s from to width pad → r ≡ text_of s name width pad
    of_line from to e r h = h ∙ by_line (FirstLine.Line from to) e

    pub of_empty : x ≡ FirstLine.Empty → TextAt.Wrong Fault.Missing ≡ text_of s name width pad
    of_empty e = by_line FirstLine.Empty e

    pub of_refused : (e i c : ℕ) → x ≡ FirstLine.Refused e i c → (r : TextAt) → r ≡ absent_by e i c → r ≡ text_of s name width pad
    of_refused e i c q r h = h ∙ by_line (FirstLine.Refused e i c) q

pub ruleset first_laws = (line_inside, of_line, of_empty, of_refused)

-- ---- The key

module _ (s name : Bytes) (width pad : ℕ) (x : TextAt) (is : x ≡ text_of s name width pad) where
  pub good_inside : (from to : ℕ) → x ≡ TextAt.Good from to → (to ≤ length s) × (from ≤ length s + 4)
  good_inside from to e = let g = text_found s name width pad from to (sym is ∙ e) in (g.1, omega (arith, g.0, g.1))

  pub good_behind : (from to : ℕ) → x ≡ TextAt.Good from to → (to ≤ length s) × (from + 4 ≤ length s + 4)
  good_behind from to e = let g = text_found s name width pad from to (sym is ∙ e) in (g.1, omega (arith, g.0, g.1))

module _ (s lot : Bytes) (supplier pad : ℕ) (x : TextAt) (is : x ≡ text_of s lot 8 pad) where
  by_text : (y : TextAt) → x ≡ y → lot_by s supplier pad y ≡ lot_of s supplier lot pad
  unfolding lot_of
  by_text y e = ap (lot_by s supplier pad) (sym e ∙ is)

  pub lot_good : (from to : ℕ) → x ≡ TextAt.Good from to → (a b : ℕ) → a ≡ word_of s from to pad → b ≡ word_of s (from + 4) to pad →
      KeyRead.Key (record { supplier = supplier; first = a; second = b }) ≡ lot_of s supplier lot pad
  lot_good from to e a b ha hb = rw (ha, hb) (by_text (TextAt.Good from to) e)

  pub lot_wrong : (f : Fault) → x ≡ TextAt.Wrong f → KeyRead.NoLot f ≡ lot_of s supplier lot pad
  lot_wrong f e = by_text (TextAt.Wrong f) e

  pub lot_refused : (n i c : ℕ) → x ≡ TextAt.Refused n i c → KeyRead.Refused n i c ≡ lot_of s supplier lot pad
  lot_refused n i c e = by_text (TextAt.Refused n i c) e

pub ruleset lot_laws = (good_inside, lot_good, lot_wrong, lot_refused)

module _ (s supplier lot : Bytes) (pad : ℕ) (x : TextAt) (is : x ≡ text_of s supplier 4 pad) where
  by_supplier_lem : (y : TextAt) → x ≡ y → (r : KeyRead) → r ≡ key_by s lot pad y → KeyPromise s supplier lot pad r
  unfolding key_read_of
  by_supplier_lem y e r h = key_promised s supplier lot pad r (h ∙ ap (key_by s lot pad) (sym e ∙ is))

  pub key_good : (from to : ℕ) → x ≡ TextAt.Good from to → (w : ℕ) → w ≡ word_of s from to pad → (r : KeyRead) → r ≡ lot_of s w lot pad → KeyPromise s supplier lot pad r
  key_good from to e w hw r h = by_supplier_lem (TextAt.Good from to) e r (h ∙ ap (λ (v : ℕ). lot_of s v lot pad) hw)

  pub key_wrong : (f : Fault) → x ≡ TextAt.Wrong f → KeyPromise s supplier lot pad (KeyRead.NoSupplier f)
  key_wrong f e = by_supplier_lem (TextAt.Wrong f) e (KeyRead.NoSupplier f) refl

  pub key_refused : (n i c : ℕ) → x ≡ TextAt.Refused n i c → KeyPromise s supplier lot pad (KeyRead.Refused n i c)
  key_refused n i c e = by_supplier_lem (TextAt.Refused n i c) e (KeyRead.Refused n i c) refl

pub ruleset key_laws = (good_inside, key_good, key_wrong, key_refused)
