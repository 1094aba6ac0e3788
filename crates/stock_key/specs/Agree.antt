-- The answer keeps the promise.
use Rattle.std.specs.Prelude.{ℕ, ◌+◌, ◌-◌, ◌≤◌, ◌≡◌, Bool, ◌&&◌, length, take, drop}
use native.Mathlib.Omega.{arith}
use Rattle.std.proofs.Common.{add-zero, sym, ◌∙◌}
use Rattle.std.proofs.Math.Path.{refl, ap, subst}
use mathlib.Core.List.{List, [], ◌∷◌, ◌++◌}
use Rattle.std.proofs.Math.Bool.{true, false, cond}
use Rattle.std.proofs.Math.Dec.{eqb, ltb}
use Rattle.std.proofs.Math.ListN.{get_or}
use Rattle.std.proofs.Math.Seq.{get_or-take, get_or-drop}
use borrow.Author.Tests.{ne_eqb, lt-ltb, le-ltb, ltb-true, ltb-false}
use Rattle.text.specs.Text.{Bytes, Line, Lines}
use Rattle.text.specs.Cut.{lines_same}
use Rattle.rules.specs.Record.{Raw, Record, limit}
use Rattle.rules.proofs.Unique.{record_one}
use Rattle.judge_refusals.specs.NoRecord.{NoRecord}
use Rattle.reader_item.specs.declared.Found.{Found}
use Rattle.reader_item.specs.Find.{Said, item, refused, found_of}
use Rattle.reader_item.specs.Promise.{RefusedAt}
use Rattle.reader_item.proofs.Agree.{promised}
use Rattle.reader_first_line.specs.declared.FirstLine.{FirstLine}
use Rattle.reader_first_line.specs.First.{line_from, first_of}
use Rattle.reader_first_line.specs.Promise.{FirstAt}
use Rattle.reader_first_line.specs.Agree.{first_found, first_refused}
use Rattle.store_event.specs.declared.Key.{Key}
use Rattle.store_event.specs.Scan.{word_at, key_at}
use Rattle.stock_rules.specs.Key.{Part, ends_in, filled, key_of, part_of, Which, Keyed, Terms, record_key}
use Rattle.stock_rules.specs.Key as K
use Rattle.stock_rules.proofs.OneKey.{filled_length}
use Rattle.stock_key.specs.declared.Fault.{Fault}
use Rattle.stock_key.specs.declared.TextAt.{TextAt}
use Rattle.stock_key.specs.declared.KeyRead.{KeyRead}
use Rattle.stock_key.specs.Read.{word_of, text_in, absent_by, text_by, text_of, lot_by, lot_of, key_by, key_read_of}
use Rattle.stock_key.specs.Promise.{fault_of, read_of, KeyAt, KeyPromise}
use Rattle.stock_key.specs.Items.{part_none, part_first}
use Rattle.stock_key.specs.Words.{text_length, word_filled, key_words}

-- what a first line promises, of the definition itself
first : (s name : Bytes) → FirstAt s name (first_of s name)
first s name = go (found_of s name) refl
  where
    go : (r : Said) → found_of s name ≡ r → FirstAt s name (first_of s name)
    go (item from to) q =
        let p = first_found s name {f = Found.Item from to} (promised s name (item from to) (sym q)) from to refl (line_from s from to) refl in
        subst (FirstAt s name) p.judged p.first
    go (refused e i c) q =
        let p = first_refused s name {f = Found.Refused e i c} (promised s name (refused e i c) (sym q)) e i c refl in
        subst (FirstAt s name) p.judged p.first

-- ---- One text

-- what a text says of the record that the bytes begin with
pub data TextSays (s name : Bytes) (width pad : ℕ) : TextAt → Type 0 where
  good : {ls more : List Line} {rest : Bytes} {x : Raw} {from to : ℕ} → Lines s ls rest → Record limit ls x more → from ≤ to → to ≤ length s → to - from ≤ width →
      part_of width pad name x.items ≡ Part.part (filled width pad (take (to - from) (drop from s))) → TextSays s name width pad (TextAt.Good from to)
  wrong : {ls more : List Line} {rest : Bytes} {x : Raw} {f : K.Fault} → Lines s ls rest → Record limit ls x more →
      part_of width pad name x.items ≡ Part.no_part f → TextSays s name width pad (TextAt.Wrong (fault_of f))
  none : {e i column : ℕ} → NoRecord s e i column → TextSays s name width pad (TextAt.Refused e i column)

record_number : {s : Bytes} {e i c : ℕ} → NoRecord s e i c → e ≤ 19
record_number (NoRecord.line h m k d o) = let b = m.1 in omega (arith, b)
record_number (NoRecord.cut_short h v w) = omega arith

module _ (s name : Bytes) (width pad : ℕ) where
  module _ (from to : ℕ) (order : from ≤ to) (inside : to ≤ length s) where
    abbrev text : Bytes
    text = take (to - from) (drop from s)

    -- the test of the last byte in the record is that of the text
    ends_there : (ltb from to && eqb (get_or s (to - 1) 0) pad) ≡ ends_in pad text
    unfolding ends_in
    ends_there = rw (text_length s from to (to - from) pad order inside (omega arith)) (go (ltb from to) refl)
      where
        go : (b : Bool) → ltb from to ≡ b → (b && eqb (get_or s (to - 1) 0) pad) ≡ (ltb 0 (to - from) && eqb (get_or text (to - from - 1) 0) pad)
        go true e =
            let l = ltb-true from to e in
            let q : from + (to - from - 1) ≡ to - 1 = omega arith in
            let last : get_or text (to - from - 1) 0 ≡ get_or s (to - 1) 0 =
            get_or-take (to - from) (drop from s) (to - from - 1) 0 (omega arith) ∙ get_or-drop from s (to - from - 1) 0 ∙ ap (λ (j : ℕ). get_or s j 0) q in
            rw (lt-ltb 0 (to - from) (omega arith), last)
        go false e = let l = ltb-false from to e in rw (le-ltb 0 (to - from) (omega arith))

    key_is : key_of width pad text ≡
        cond (ltb width (to - from)) (Part.no_part K.Fault.too_long) (cond (ends_in pad text) (Part.no_part K.Fault.padded) (Part.part (filled width pad text)))
    unfolding key_of
    key_is = rw (text_length s from to (to - from) pad order inside (omega arith))

    text_line : {ls more : List Line} {rest : Bytes} {x : Raw} {l : Line} → Lines s ls rest → Record limit ls x more → text ≡ l →
        part_of width pad name x.items ≡ key_of width pad l → TextSays s name width pad (text_in s from to width pad)
    unfolding text_in
    text_line {x = x} lines rec e p =
        rw ends_there (go (ltb width (to - from)) refl (ends_in pad text) (p ∙ ap (key_of width pad) (sym e) ∙ key_is))
      where
        go : (a : Bool) → ltb width (to - from) ≡ a → (b : Bool) →
            part_of width pad name x.items ≡ cond a (Part.no_part K.Fault.too_long) (cond b (Part.no_part K.Fault.padded) (Part.part (filled width pad text))) →
            TextSays s name width pad (cond a (TextAt.Wrong Fault.TooLong) (cond b (TextAt.Wrong Fault.Padded) (TextAt.Good from to)))
        go true h b q = TextSays.wrong {f = K.Fault.too_long} lines rec q
        go false h true q = TextSays.wrong {f = K.Fault.padded} lines rec q
        go false h false q = TextSays.good lines rec order inside (ltb-false width (to - from) h) q

  text_says : {r : FirstLine} → FirstAt s name r → TextSays s name width pad (text_by s width pad r)
  unfolding absent_by
  text_says (FirstAt.line {vs = vs} {x = x} {l = l} {from = from} {to = to} lines rec named o i e) = text_line from to o i lines rec e (part_first width pad name x.items (l ∷ vs) named)
  text_says (FirstAt.empty {x = x} lines rec named) = TextSays.wrong {f = K.Fault.missing} lines rec (part_first width pad name x.items [] named)
  text_says (FirstAt.refused (RefusedAt.no_record {e = e} n)) = rw (ne_eqb e 22 (λ q. omega (arith, record_number n, q))) (TextSays.none n)
  text_says (FirstAt.refused (RefusedAt.no_item {x = x} lines rec n)) = TextSays.wrong {f = K.Fault.missing} lines rec (part_none width pad name x.items n)

found_inside : {s name : Bytes} {width pad : ℕ} {x : TextAt} → TextSays s name width pad x → (from to : ℕ) → x ≡ TextAt.Good from to → (from ≤ to) × (to ≤ length s)
found_inside (TextSays.good {from = a} {to = b} h r o i w p) from to q =
    let y : a ≡ from = cc in
    let z : b ≡ to = cc in
    (omega arith, omega arith)
found_inside (TextSays.wrong h r p) from to q = absurd (let z : ◌≡◌ {A = ℕ} 0 1 = cc in omega arith)
found_inside (TextSays.none n) from to q = absurd (let z : ◌≡◌ {A = ℕ} 0 1 = cc in omega arith)

pub text_found : (s name : Bytes) (width pad from to : ℕ) → text_of s name width pad ≡ TextAt.Good from to → (from ≤ to) × (to ≤ length s)
unfolding text_of
text_found s name width pad from to e = found_inside (text_says s name width pad (first s name)) from to e

-- ---- Both texts

module _ (s supplier lot : Bytes) (pad : ℕ) where
  abbrev terms : Terms
  terms = record { supplier = supplier; lot = lot; pad = pad }

  same_record : {ls ms more most : List Line} {rest end : Bytes} {x y : Raw} → Lines s ls rest → Record limit ls x more → Lines s ms end → Record limit ms y most → y ≡ x
  same_record {ls = ls} {most = most} {y = y} h r k q = (record_one (subst (λ (zs : List Line). Record limit zs y most) (lines_same k h).0 q) r).0

  said : {ls more : List Line} {rest : Bytes} {x : Raw} → Lines s ls rest → Record limit ls x more → (k : Keyed) → record_key terms x.items ≡ k → KeyAt s terms (read_of k)
  said lines rec k e = subst (λ (j : Keyed). KeyAt s terms (read_of j)) e (KeyAt.a_record_lem lines rec)

  module _ {ls more : List Line} {rest : Bytes} {x : Raw} (lines : Lines s ls rest) (rec : Record limit ls x more) (from to : ℕ) (order : from ≤ to) (inside : to ≤ length s)
      (short : to - from ≤ 4) (is : part_of 4 pad supplier x.items ≡ Part.part (filled 4 pad (take (to - from) (drop from s)))) where
    abbrev four : Bytes
    four = filled 4 pad (take (to - from) (drop from s))

    four_long : length four ≡ 4
    four_long = filled_length 4 pad (take (to - from) (drop from s)) (omega (arith, text_length s from to 4 pad order inside short))

    lot_says : {b : TextAt} → TextSays s lot 8 pad b → KeyAt s terms (lot_by s (word_of s from to pad) pad b)
    unfolding record_key
    lot_says (TextSays.good {x = y} {from = a} {to = e} h r o i w p) =
        let same = same_record lines rec h r in
        let q : part_of 8 pad lot x.items ≡ Part.part (filled 8 pad (take (e - a) (drop a s))) = subst (λ (z : Raw). part_of 8 pad lot z.items ≡ Part.part (filled 8 pad (take (e - a) (drop a s)))) same p in
        let eight = filled 8 pad (take (e - a) (drop a s)) in
        let one : word_at four 0 ≡ word_of s from to pad = word_filled s from to 4 pad order inside short 0 (omega arith) ∙ ap (λ (j : ℕ). word_of s j to pad) (add-zero from) in
        let two : word_at eight 0 ≡ word_of s a e pad = word_filled s a e 8 pad o i w 0 (omega arith) ∙ ap (λ (j : ℕ). word_of s j e pad) (add-zero a) in
        let three : word_at eight 4 ≡ word_of s (a + 4) e pad = word_filled s a e 8 pad o i w 4 (omega arith) in
        let words : key_at (four ++ eight) 0 ≡ record { supplier = word_of s from to pad; first = word_of s a e pad; second = word_of s (a + 4) e pad } =
        key_words four eight four_long ∙ rw (one, two, three) in
        subst (λ (k : Key). KeyAt s terms (KeyRead.Key k)) words (said lines rec (Keyed.key (four ++ eight)) (rw (is, q)))
    lot_says (TextSays.wrong {x = y} {f = f} h r p) =
        let same = same_record lines rec h r in
        let q : part_of 8 pad lot x.items ≡ Part.no_part f = subst (λ (z : Raw). part_of 8 pad lot z.items ≡ Part.no_part f) same p in
        said lines rec (Keyed.no_key Which.lot f) (rw (is, q))
    lot_says (TextSays.none n) = KeyAt.no_record n

  key_says : {a : TextAt} → TextSays s supplier 4 pad a → KeyAt s terms (key_by s lot pad a)
  unfolding record_key lot_of text_of
  key_says (TextSays.good {from = from} {to = to} h r o i w p) = lot_says h r from to o i w p (text_says s lot 8 pad (first s lot))
  key_says (TextSays.wrong {f = f} h r p) = said h r (Keyed.no_key Which.supplier f) (rw p)
  key_says (TextSays.none n) = KeyAt.no_record n

  pub key_promised : (r : KeyRead) → r ≡ key_read_of s supplier lot pad → KeyPromise s supplier lot pad r
  unfolding key_read_of text_of
  key_promised r e = record { judged = e; key = subst (KeyAt s terms) (sym e) (key_says (text_says s supplier 4 pad (first s supplier))) }
