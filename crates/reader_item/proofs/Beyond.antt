-- Where the item stands in the record's list of items; and what follows a record does not matter to a fetch from it.
use Rattle.std.specs.Prelude.{ℕ, ◌-◌, ◌≡◌, refl, List, [], ◌++◌, take, drop}
use Rattle.std.proofs.Common.{arith, sym, ap, ◌∙◌, subst, append_assoc, length-drop, length-append}
use Rattle.std.proofs.lemmas.List.{take-append-le, drop-append-le}
use Rattle.text.specs.Text.{Bytes, Line, Lines}
use Rattle.text.specs.Cut.{cut, cut_is, lines_same}
use Rattle.rules.specs.Record.{Raw, Record, limit}
use Rattle.rules.specs.Unique.{parts_one}
use Rattle.rules.specs.After.{values_after, parts_after, record_after}
use Rattle.reader_item.specs.Find.{Said, item, refused, found_of}
use Rattle.judge_refusals.proofs.Because.{one_because}
use Rattle.judge_refusals.specs.NoRecord.{NoRecord}
use Rattle.reader_item.specs.Promise.{FirstItem, ItemIn, Joined, Stretch, FoundAt, RefusedAt}
use Rattle.reader_item.specs.Joined.{lines_then}
use Rattle.reader_item.specs.Agree.{the_record, not_refused}
use Rattle.reader_item.proofs.Agree.{found_is, is_found, refused_is, is_refused}

-- ---- With more lines after them

first_after : {name : Bytes} {u v vs : List Line} → FirstItem name u v vs → (ms : List Line) → FirstItem name (u ++ ms) (v ++ ms) vs
first_after (FirstItem.here h p) ms = FirstItem.here h (values_after p ms)
first_after (FirstItem.later h n p f) ms = FirstItem.later h n (values_after p ms) (first_after f ms)

item_after : {name : Bytes} {ls v vs : List Line} → ItemIn name ls v vs → (ms : List Line) → ItemIn name (ls ++ ms) (v ++ ms) vs
item_after {name = name} {ls = ls} {v = v} {vs = vs} it ms = go (record_after (the_record it) ms)
  where
    go : {y : Raw} {more : List Line} → Record limit (ls ++ ms) y more → ItemIn name (ls ++ ms) (v ++ ms) vs
    go (Record.record_of {u = u} {r = r} {m = m} {is = is} p i) =
        let same = (parts_one (parts_after it.molecule ms) p).1 in
        record {
          x = record { molecule = m; items = is };
          after_molecule = u;
          after_record = r;
          molecule = p;
          items = i;
          first = subst (λ (t : List Line). FirstItem name t (v ++ ms) vs) same (first_after it.first ms);
        }

stretch_after : {s : Bytes} {ls v vs : List Line} {a b : ℕ} → Stretch s ls v vs a b → (t : Bytes) (ms : List Line) → Stretch (s ++ t) (ls ++ ms) (v ++ ms) vs a b
stretch_after {s = s} {v = v} {vs = vs} {a = a} {b = b} p t ms =
    let front : take a (s ++ t) ≡ take a s = take-append-le a s t (omega (arith, p.order, p.inside)) in
    let back : take (b - a) (drop a (s ++ t)) ≡ take (b - a) (drop a s) =
    ap (take (b - a)) (drop-append-le a s t (omega (arith, p.order, p.inside)))
    ∙ take-append-le (b - a) (drop a s) t (omega (arith, p.inside, length-drop a s)) in
    record {
      before = p.before;
      lines = ap (λ (x : List Line). x ++ ms) p.lines ∙ append_assoc p.before v ms;
      whole = subst (λ (x : Bytes). Lines x p.before []) (sym front) p.whole;
      order = p.order;
      inside = omega (arith, p.inside, length-append s t);
      values = subst (Joined vs) (sym back) p.values;
    }

-- whole lines that are a record, and any bytes after them
module _ (s t name : Bytes) {ls : List Line} {x : Raw} (lines : Lines s ls []) (good : Record limit ls x []) where
  all_lines : {ms : List Line} {rest : Bytes} → Lines s ms rest → Lines (s ++ t) (ms ++ (cut t).lines) (cut t).rest
  all_lines {ms = ms} h = lines_then (subst (λ (r : Bytes). Lines s ms r) (lines_same h lines).1 h) (cut_is t)

  found_after : {a b : ℕ} → FoundAt s name a b → FoundAt (s ++ t) name a b
  found_after (FoundAt.some_values h it st) = FoundAt.some_values (all_lines h) (item_after it (cut t).lines) (stretch_after st t (cut t).lines)
  found_after (FoundAt.no_values h it) = FoundAt.no_values (all_lines h) (item_after it (cut t).lines)

  refused_after : {e i c : ℕ} → RefusedAt s name e i c → RefusedAt (s ++ t) name e i c
  refused_after (RefusedAt.no_record (NoRecord.line {ls = ms} {e = e} {i = i} {column = c} h m k d o)) =
      not_refused (subst (λ (z : List Line). Record limit z x []) (lines_same lines h).0 good) ((one_because limit ms e i c).1 o)
  refused_after (RefusedAt.no_record (NoRecord.cut_short h v w)) = absurd (w (x, [], subst (λ (z : List Line). Record limit z x []) (lines_same lines h).0 good))
  refused_after (RefusedAt.no_item h r n) = RefusedAt.no_item (all_lines h) (record_after r (cut t).lines) n

  pub beyond : found_of (s ++ t) name ≡ found_of s name
  beyond = go (found_of s name) refl
    where
      go : (r : Said) → found_of s name ≡ r → found_of (s ++ t) name ≡ found_of s name
      go (item a b) e = found_is (s ++ t) name (found_after (is_found s name a b e)) ∙ sym e
      go (refused n i c) e = refused_is (s ++ t) name (refused_after (is_refused s name n i c e)) ∙ sym e
