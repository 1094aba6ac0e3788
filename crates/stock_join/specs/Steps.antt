-- Ends of the code: each gives the definition's answer.
use Rattle.std.specs.Prelude.{ℕ, ◌+◌, ◌≤◌, ◌<◌, ◌≡◌, get_or, set}
use Rattle.std.proofs.Math.Path.{refl, sym}
use Rattle.std.proofs.Common.{ap, ◌∙◌}
use borrow.Author.Tests.{eq-eqb, ne_eqb, lt-ltb, le-ltb}
use Rattle.store_log.specs.Store.{most_lots}
use Rattle.store_event.specs.declared.Key.{Key}
use Rattle.store_lots.specs.Memory.{Words, place_from}
use Rattle.stock_key.specs.declared.Fault.{Fault}
use Rattle.stock_key.specs.declared.KeyRead.{KeyRead}
use Rattle.stock_join.specs.declared.Fate.{Fate}
use Rattle.stock_join.specs.declared.Join.{Join}
use Rattle.stock_join.specs.Step.{place_in, fate_of, most, up_to, next_file, marked, After, after, under_at, next_of}
use Rattle.stock_join.specs.Promise.{FatePromise, Promise}
use Rattle.stock_join.specs.Agree.{fate_promised, promised}

pub up_last : (n : ℕ) → n ≡ 18446744073709551615 → n ≡ up_to n
unfolding up_to
up_last n h = rw (eq-eqb n most h)

pub up_more : (n : ℕ) → (n ≡ 18446744073709551615 → ⊥) → n + 1 ≡ up_to n
unfolding up_to
up_more n h = rw (ne_eqb n most h)

pub ruleset up_laws = (up_last, up_more)

pub file_is : (j : Join) (f : ℕ) → f ≡ up_to j.file → record { file = f; number = 0; received = j.received; never = j.never; keyless = j.keyless } ≡ next_file j
file_is j f h = rw h

-- ---- The fate

module _ (k : Key) (keys : Words) (lots : ℕ) where
  pub place_none : most_lots < lots → Fate.Nowhere ≡ place_in k keys lots
  unfolding place_in
  place_none h = rw (lt-ltb most_lots lots h)

  module _ (few : lots ≤ most_lots) (lot : ℕ) (is : lot ≡ place_from keys k 0 lots) where
    pub place_under : lot < lots → Fate.Under lot ≡ place_in k keys lots
    unfolding place_in
    place_under h = rw (le-ltb most_lots lots few, sym is, lt-ltb lot lots h)

    pub place_never : lots ≤ lot → Fate.Never ≡ place_in k keys lots
    unfolding place_in
    place_never h = rw (le-ltb most_lots lots few, sym is, le-ltb lot lots h)

pub ruleset place_laws = (place_none, place_under, place_never)

module _ (read : KeyRead) (keys : Words) (lots : ℕ) where
  by_read : (v : KeyRead) → read ≡ v → (r : Fate) → r ≡ fate_of v keys lots → FatePromise read keys lots r
  by_read v e r h = fate_promised read keys lots r (h ∙ ap (λ (x : KeyRead). fate_of x keys lots) (sym e))

  pub fate_key : (k : Key) → read ≡ KeyRead.Key k → (r : Fate) → r ≡ place_in k keys lots → FatePromise read keys lots r
  fate_key k e r h = by_read (KeyRead.Key k) e r h

  pub fate_supplier : (f : Fault) → read ≡ KeyRead.NoSupplier f → FatePromise read keys lots Fate.Keyless
  fate_supplier f e = by_read (KeyRead.NoSupplier f) e Fate.Keyless refl

  pub fate_lot : (f : Fault) → read ≡ KeyRead.NoLot f → FatePromise read keys lots Fate.Keyless
  fate_lot f e = by_read (KeyRead.NoLot f) e Fate.Keyless refl

  pub fate_refused : (n i c : ℕ) → read ≡ KeyRead.Refused n i c → FatePromise read keys lots Fate.Nowhere
  fate_refused n i c e = by_read (KeyRead.Refused n i c) e Fate.Nowhere refl

pub ruleset fate_laws = (fate_key, fate_supplier, fate_lot, fate_refused)

-- ---- The marks

module _ (marks : Words) (lot file number : ℕ) where
  pub mark_first : (c : ℕ) → c ≡ get_or marks lot 0 → c ≡ 0 → set (set (set marks (512 + lot) file) (1024 + lot) number) lot 1 ≡ marked marks lot file number
  unfolding marked
  mark_first c h z = rw (eq-eqb (get_or marks lot 0) 0 (sym h ∙ z))

  pub mark_next : (c : ℕ) → c ≡ get_or marks lot 0 → (c ≡ 0 → ⊥) → (v : ℕ) → v ≡ up_to c → set marks lot v ≡ marked marks lot file number
  unfolding marked
  mark_next c h n v e = rw (ne_eqb (get_or marks lot 0) 0 (λ z. n (h ∙ z)), sym h, e)

pub ruleset mark_laws = (mark_first, mark_next)

-- ---- The step

module _ (j : Join) (lot : ℕ) (marks : Words) where
  pub under_far : 512 ≤ lot → after j marks ≡ under_at j lot marks
  unfolding under_at
  under_far h = rw (le-ltb lot most_lots h)

  pub under_near : lot < 512 → (n r : ℕ) (ms : Words) → n ≡ up_to j.number → ms ≡ marked marks lot j.file n → r ≡ up_to j.received →
      after (record { file = j.file; number = n; received = r; never = j.never; keyless = j.keyless }) ms ≡ under_at j lot marks
  unfolding under_at
  under_near h n r ms hn hm hr = rw (hm, hn, hr, lt-ltb lot most_lots h)

pub ruleset under_laws = (under_far, under_near)

module _ (j : Join) (fate : Fate) (marks : Words) where
  by_fate : (v : Fate) → fate ≡ v → (a : After) → a ≡ next_of j v marks → Promise j fate marks a
  by_fate v e a h = promised j fate marks a (h ∙ ap (λ (x : Fate). next_of j x marks) (sym e))

  pub next_under : (lot : ℕ) → fate ≡ Fate.Under lot → (a : After) → a ≡ under_at j lot marks → Promise j fate marks a
  unfolding next_of
  next_under lot e a h = by_fate (Fate.Under lot) e a h

  pub next_never : fate ≡ Fate.Never → (n v : ℕ) → n ≡ up_to j.number → v ≡ up_to j.never →
      Promise j fate marks (after (record { file = j.file; number = n; received = j.received; never = v; keyless = j.keyless }) marks)
  unfolding next_of
  next_never e n v hn hv = by_fate Fate.Never e _ (rw (hn, hv))

  pub next_keyless : fate ≡ Fate.Keyless → (n v : ℕ) → n ≡ up_to j.number → v ≡ up_to j.keyless →
      Promise j fate marks (after (record { file = j.file; number = n; received = j.received; never = j.never; keyless = v }) marks)
  unfolding next_of
  next_keyless e n v hn hv = by_fate Fate.Keyless e _ (rw (hn, hv))

  pub next_nowhere : fate ≡ Fate.Nowhere → Promise j fate marks (after j marks)
  unfolding next_of
  next_nowhere e = by_fate Fate.Nowhere e (after j marks) refl

pub ruleset next_laws = (next_under, next_never, next_keyless, next_nowhere)
