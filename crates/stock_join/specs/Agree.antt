-- Fate and step keep their promises.
use Rattle.std.specs.Prelude.{ℕ, ◌+◌, ◌≡◌, List, [], ◌∷◌, ◌++◌, Bool, cond, length}
use Rattle.std.proofs.Common.{arith, add-zero, ap₂, ◌∙◌, subst, lt-ltb, le-ltb}
use Rattle.std.proofs.Math.Nat.{zero-add}
use Rattle.std.proofs.Math.Path.{refl, sym, ap}
use Rattle.std.proofs.Math.Bool.{true, false, not}
use Rattle.store_log.specs.Log.{Bytes}
use Rattle.store_log.specs.Store.{Store, known, place_of, most_lots}
use Rattle.store_event.specs.Scan.{key_at}
use Rattle.store_event.specs.Twelve.{Twelve}
use Rattle.store_lots.specs.Memory.{Words}
use Rattle.store_lots.specs.Places.{place_is, known_is}
use Rattle.stock_rules.specs.Key.{Fault, Which, Keyed}
use Rattle.stock_rules.specs.Lots.{place_below}
use Rattle.stock_rules.specs.Join.{Entry, is_never, is_keyless, never_in, keyless_in}
use Rattle.stock_rules.specs.EachOnce.{any_record, under}
use Rattle.stock_key.specs.declared.KeyRead.{KeyRead}
use Rattle.stock_key.specs.Promise.{read_of}
use Rattle.stock_join.specs.declared.Fate.{Fate}
use Rattle.stock_join.specs.declared.Join.{Join}
use Rattle.stock_join.specs.Step.{place_in, fate_of, up_to, After, under_at, next_of}
use Rattle.stock_join.specs.Stands.{fate_in, MarksFrom, Stood, entry_at, Short, Moves}
use Rattle.stock_join.specs.Promise.{TwelveIn, Held, FatePromise, Promise}
use Rattle.stock_join.specs.More.{length_one, length_same, total, total_more}
use Rattle.stock_join.specs.Counting.{up_one, mark_length, Strange, never_strange, no_key_strange, marks_same, marks_more}

-- ---- The fate

module _ (keys : Words) (ls : Store) where
  key_fate : Held keys (length ls) ls → (k : Bytes) → Twelve k → place_in (key_at k 0) keys (length ls) ≡ fate_in ls (Keyed.key k)
  unfolding place_in
  key_fate h k w =
      let p = place_is keys h.papers k w ls h.holds in
      let n = known_is keys h.papers k w ls h.holds h.few h.room in
      rw (le-ltb most_lots (length ls) h.few, n, p)

  read_fate : Held keys (length ls) ls → (k : Keyed) → TwelveIn k → fate_of (read_of k) keys (length ls) ≡ fate_in ls k
  read_fate h (Keyed.key k) w = key_fate h k w
  read_fate h (Keyed.no_key Which.supplier f) w = refl
  read_fate h (Keyed.no_key Which.lot f) w = refl

pub fate_promised : (read : KeyRead) (keys : Words) (lots : ℕ) (r : Fate) → r ≡ fate_of read keys lots → FatePromise read keys lots r
fate_promised read keys lots r e = record {
  answer = e;
  fate = λ ls h k w q.
      let g = subst (λ (n : ℕ). Held keys n ls) h.lots_are h in
      e ∙ ap₂ (λ (x : KeyRead) (n : ℕ). fate_of x keys n) q h.lots_are ∙ read_fate keys ls g k w;
}

-- ---- The step

module _ (j : Join) (marks : Words) (ls : Store) (es : List Entry) (g : Stood j ls es marks) (s : Short j es) where
  all : under any_record ls es + length (never_in ls es) + length (keyless_in es) ≡ length es
  all = total ls g.each es

  -- no lot has the record's key
  apart : (k : Keyed) → Strange k ls → MarksFrom marks 0 ls (es ++ (entry_at j k ∷ []))
  apart k h = marks_same es (entry_at j k) marks marks 0 ls (λ i low high. (refl, refl, refl)) h g.lots

  known_more : (k : Bytes) → known k ls ≡ true → Moves j ls es (Keyed.key k) (under_at j (place_of k ls) marks)
  unfolding under_at
  known_more k h =
      let e = entry_at j (Keyed.key k) in
      let low = place_below k ls h in
      let few = g.few in
      let a = all in
      let is_never_lem : is_never ls (Keyed.key k) ≡ false = ap not h in
      let n = length_same (λ d. is_never ls d.keyed) es e is_never_lem in
      let f = length_same (λ d. is_keyless d.keyed) es e refl in
      let t = total_more ls g.each es e 0 0 (n ∙ sym (add-zero (length (never_in ls es)))) (f ∙ sym (add-zero (length (keyless_in es)))) in
      let m = marks_more es e k refl marks g.room s.records 0 ls (omega arith) g.each h g.lots in
      let r = g.received in
      let short = s.records in
      let u = up_one j.received (omega (arith, r, a, short)) in
      let v = up_one j.number s.number in
      rw (lt-ltb (place_of k ls) most_lots (omega arith)) (record {
        file = refl;
        number = v;
        stood = record {
          few = g.few;
          each = g.each;
          room = mark_length marks (place_of k ls) j.file (up_to j.number) (omega arith) ∙ g.room;
          lots = rw (v, ← zero-add (place_of k ls)) m;
          received = u ∙ omega (arith, t, r);
          never = g.never ∙ sym n;
          keyless = g.keyless ∙ sym f;
        };
      })

  never_more : (k : Bytes) → known k ls ≡ false → Moves j ls es (Keyed.key k) (next_of j Fate.Never marks)
  unfolding next_of
  never_more k h =
      let e = entry_at j (Keyed.key k) in
      let a = all in
      let is_never_lem : is_never ls (Keyed.key k) ≡ true = ap not h in
      let n = length_one (λ d. is_never ls d.keyed) es e is_never_lem in
      let f = length_same (λ d. is_keyless d.keyed) es e refl in
      let t = total_more ls g.each es e 1 0 n (f ∙ sym (add-zero (length (keyless_in es)))) in
      let r = g.never in
      let short = s.records in
      let u = up_one j.never (omega (arith, r, a, short)) in
      record {
        file = refl;
        number = up_one j.number s.number;
        stood = record {
          few = g.few;
          each = g.each;
          room = g.room;
          lots = apart (Keyed.key k) (never_strange k ls h);
          received = g.received ∙ omega (arith, t);
          never = u ∙ omega (arith, n, r);
          keyless = g.keyless ∙ sym f;
        };
      }

  keyless_more : (w : Which) (f : Fault) → Moves j ls es (Keyed.no_key w f) (next_of j Fate.Keyless marks)
  unfolding next_of
  keyless_more w f =
      let e = entry_at j (Keyed.no_key w f) in
      let a = all in
      let n = length_same (λ d. is_never ls d.keyed) es e refl in
      let k = length_one (λ d. is_keyless d.keyed) es e refl in
      let t = total_more ls g.each es e 0 1 (n ∙ sym (add-zero (length (never_in ls es)))) k in
      let r = g.keyless in
      let short = s.records in
      let u = up_one j.keyless (omega (arith, r, a, short)) in
      record {
        file = refl;
        number = up_one j.number s.number;
        stood = record {
          few = g.few;
          each = g.each;
          room = g.room;
          lots = apart (Keyed.no_key w f) (no_key_strange w f ls);
          received = g.received ∙ omega (arith, t);
          never = g.never ∙ sym n;
          keyless = u ∙ omega (arith, k, r);
        };
      }

  one_more_lem : (k : Keyed) → Moves j ls es k (next_of j (fate_in ls k) marks)
  unfolding next_of
  one_more_lem (Keyed.no_key w f) = keyless_more w f
  one_more_lem (Keyed.key k) = go (known k ls) refl
    where
      go : (b : Bool) → known k ls ≡ b →
          Moves j ls es (Keyed.key k) (next_of j (cond b (Fate.Under (place_of k ls)) Fate.Never) marks)
      go true h = known_more k h
      go false h = never_more k h

pub promised : (j : Join) (fate : Fate) (marks : Words) (a : After) → a ≡ next_of j fate marks → Promise j fate marks a
promised j fate marks a e = record {
  answer = e;
  more = λ ls es g s k q.
      let same : next_of j (fate_in ls k) marks ≡ a = ap (λ (x : Fate). next_of j x marks) (sym q) ∙ sym e in
      subst (Moves j ls es k) same (one_more_lem j marks ls es g s k);
}
