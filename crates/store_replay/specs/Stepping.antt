-- Steps of the code: each of its ends gives the definition's answer and memories.
use Rattle.std.specs.Prelude.{ℕ, zero, suc, ◌+◌, ◌-◌, ◌≤◌, ◌<◌, ◌^◌, ◌≡◌, Bool, true, false, cond, ltb, length, set, ℤ, pos, negsuc, ◌-ℤ◌}
use Rattle.std.proofs.Common.{arith, sym, ap₂, ◌∙◌, subst, Fits, SFits, to_z, of_z, to_z-of_z}
use Rattle.std.proofs.Math.Path.{ap}
use Rattle.std.specs.Int.Signed.{mag}
use Rattle.std.specs.Int.{w16, w32, w64}
use Rattle.std.proofs.Math.Facts.{to_z_pos}
use borrow.Author.Tests.{lt-ltb, le-ltb, le-leb, lt-leb}
use Rattle.store_log.specs.Log.{Bytes}
use Rattle.store_log.specs.Store.{most_lots, most_paper}
use Rattle.store_event.specs.declared.Key.{Key}
use Rattle.store_event.specs.declared.Scan.{Scan}
use Rattle.store_replay.specs.declared.Replay.{Replay}
use Rattle.store_replay.specs.declared.Step.{Step}
use Rattle.store_lots.specs.Memory.{Words, place_from, paper_at, put_key}
use Rattle.store_event.specs.Scan.{scan_at}
use Rattle.store_replay.specs.Next.{past, After, after, receipt_in, receipt_at, issue_in, issue_at, count_at, next_by, next_at, Stands, stands, next_of}

-- ---- Receipts, issues and counts, with the lot's place and its paper found

module _ (r : Replay) (k : Key) (q : ℕ) (keys papers : Words) (lot paper : ℕ) (hl : lot ≡ place_from keys k 0 r.lots) (hp : paper ≡ paper_at papers lot r.lots) where
  receipt_is : receipt_in r k q keys papers lot paper ≡ receipt_at r k q keys papers
  unfolding receipt_at
  receipt_is = rw (hp, hl)

  pub receipt_above : most_paper - q < paper → after (Step.Skipped 29 r.events r) keys papers ≡ receipt_at r k q keys papers
  receipt_above h = rw (lt-ltb most_paper (paper + q) (omega arith)) at receipt_is

  module _ (f : Fits w16 q) (room : paper ≤ most_paper - q) where
    below : ltb most_paper (paper + q) ≡ false
    below = let l = f.fits in le-ltb most_paper (paper + q) (omega (arith, l))

    pub receipt_known : lot < r.lots → after (Step.Received q r) keys (set papers lot (paper + q)) ≡ receipt_at r k q keys papers
    receipt_known h = rw (below, lt-ltb lot r.lots h) at receipt_is

    pub receipt_full : r.lots ≤ lot → most_lots ≤ r.lots → after (Step.Skipped 30 r.events r) keys papers ≡ receipt_at r k q keys papers
    receipt_full h l = rw (below, le-ltb lot r.lots h, le-ltb r.lots most_lots l) at receipt_is

    pub receipt_new : r.lots ≤ lot → r.lots < most_lots → (ks : Words) → ks ≡ put_key keys r.lots k →
        after (Step.Received q (record { at = r.at; events = r.events; lots = r.lots + 1 })) ks (set papers r.lots q) ≡ receipt_at r k q keys papers
    receipt_new h l ks e = rw e (rw (below, le-ltb lot r.lots h, lt-ltb r.lots most_lots l) at receipt_is)

  issue_is : issue_in r q keys papers lot paper ≡ issue_at r k q keys papers
  unfolding issue_at
  issue_is = rw (hp, hl)

  pub issue_above : paper < q → after (Step.Skipped 28 r.events r) keys papers ≡ issue_at r k q keys papers
  issue_above h = rw (lt-ltb paper q h) at issue_is

  pub issue_known : q ≤ paper → lot < r.lots → after (Step.Issued q r) keys (set papers lot (paper - q)) ≡ issue_at r k q keys papers
  issue_known h l = rw (le-ltb paper q h, lt-ltb lot r.lots l) at issue_is

  pub issue_never : q ≤ paper → r.lots ≤ lot → after (Step.Issued q r) keys papers ≡ issue_at r k q keys papers
  issue_never h l = rw (le-ltb paper q h, le-ltb lot r.lots l) at issue_is

  pub count_is : (d : ℤ) → d ≡ pos paper -ℤ pos q → Step.Counted r.events lot paper q d r ≡ count_at r k q keys papers
  unfolding count_at
  count_is d e = rw (e, hp, hl)

pub ruleset move_laws = (receipt_above, receipt_known, receipt_full, receipt_new, issue_above, issue_known, issue_never, count_is)

-- ---- Paper minus shelf fits

difference_small : (a b : ℕ) → a < 2 ^ 32 → b < 2 ^ 16 → mag (pos a -ℤ pos b) < 2 ^ 63
difference_small a zero h l = omega arith
difference_small a (suc b) h l = go (ltb a (suc b))
  where
    go : (t : Bool) → mag (cond t (negsuc (suc b - suc a)) (pos (a - suc b))) < 2 ^ 63
    go true = omega arith
    go false = omega arith

difference_there : (a b : ℕ) → Fits w32 a → Fits w16 b → to_z w64 a -ℤ to_z w64 b ≡ pos a -ℤ pos b
difference_there a b f g =
    let h = f.fits in
    let l = g.fits in
    ap₂ ◌-ℤ◌ (to_z_pos w64 {n = a} (omega (arith, h))) (to_z_pos w64 {n = b} (omega (arith, l)))

pub difference_fits : (a b : ℕ) → Fits w32 a → Fits w16 b → SFits w64 (to_z w64 a -ℤ to_z w64 b)
difference_fits a b f g = subst (SFits w64) (sym (difference_there a b f g)) (record { sfits = difference_small a b f.fits g.fits })

pub difference_is : (a b : ℕ) → Fits w32 a → Fits w16 b → to_z w64 (of_z w64 (to_z w64 a -ℤ to_z w64 b)) ≡ pos a -ℤ pos b
difference_is a b f g = to_z-of_z {w = w64} {z = to_z w64 a -ℤ to_z w64 b} (difference_fits a b f g) ∙ difference_there a b f g

-- ---- The event where the replay stands

module _ (r : Replay) (s : Bytes) (keys papers : Words) (x : Scan) (is : x ≡ scan_at s r.at) where
  at_scan : (v : Scan) → x ≡ v → next_by r v keys papers ≡ next_at r s keys papers
  unfolding next_at
  at_scan v e = ap (λ (z : Scan). next_by r z keys papers) (sym e ∙ is)

  module _ (n : Replay) (k : Key) (q : ℕ) (hn : n ≡ past r 15) where
    pub at_received : x ≡ Scan.Received k q → (a : After) → a ≡ receipt_at n k q keys papers → a ≡ next_at r s keys papers
    at_received e a h = h ∙ ap (λ (m : Replay). receipt_at m k q keys papers) hn ∙ at_scan (Scan.Received k q) e

    pub at_issued : x ≡ Scan.Issued k q → (a : After) → a ≡ issue_at n k q keys papers → a ≡ next_at r s keys papers
    at_issued e a h = h ∙ ap (λ (m : Replay). issue_at m k q keys papers) hn ∙ at_scan (Scan.Issued k q) e

    pub at_counted : x ≡ Scan.Counted k q → (t : Step) → t ≡ count_at n k q keys papers → after t keys papers ≡ next_at r s keys papers
    at_counted e t h =
        ap (λ (u : Step). after u keys papers) (h ∙ ap (λ (m : Replay). count_at m k q keys papers) hn) ∙ at_scan (Scan.Counted k q) e

  pub at_day : (n : Replay) → n ≡ past r 5 → x ≡ Scan.Day → after (Step.Day n) keys papers ≡ next_at r s keys papers
  at_day n hn e = ap (λ (m : Replay). after (Step.Day m) keys papers) hn ∙ at_scan Scan.Day e

  pub at_unknown : x ≡ Scan.Unknown → after (Step.Refused 26 (r.events + 1)) keys papers ≡ next_at r s keys papers
  at_unknown e = at_scan Scan.Unknown e

  pub at_cut : x ≡ Scan.Cut → after (Step.Refused 27 (r.events + 1)) keys papers ≡ next_at r s keys papers
  at_cut e = at_scan Scan.Cut e

pub past_lots : (r n : Replay) (b : ℕ) (s : Bytes) → Stands r s → n ≡ past r b → n.lots ≤ 512
past_lots r n b s g e = rw e g.lots

pub ruleset read_laws = (at_received, at_issued, at_counted, at_day, at_unknown, at_cut, past_lots)

-- ---- Any state

module _ (r : Replay) (s : Bytes) (keys papers : Words) where
  pub none_left : length s ≤ r.at → after Step.End keys papers ≡ next_of r s keys papers
  unfolding next_of stands
  none_left h = rw (le-ltb r.at (length s) h)

  pub many_lots : r.at < length s → most_lots < r.lots → after Step.End keys papers ≡ next_of r s keys papers
  unfolding next_of stands
  many_lots h l = rw (lt-ltb r.at (length s) h, lt-leb r.lots most_lots l)

  pub many_events : r.at < length s → r.lots ≤ most_lots → 9223372036854775808 ≤ r.events → after Step.End keys papers ≡ next_of r s keys papers
  unfolding next_of stands
  many_events h l e = rw (lt-ltb r.at (length s) h, le-leb r.lots most_lots l, le-ltb r.events (2 ^ 63) e)

  pub here : Stands r s → stands r s ≡ true
  unfolding stands
  here g = rw (lt-ltb r.at (length s) g.left, le-leb r.lots most_lots g.lots, lt-ltb r.events (2 ^ 63) g.events)

  pub stands_here : r.at < length s → r.lots ≤ 512 → r.events < 9223372036854775808 → Stands r s
  stands_here h l e = record { left = h; lots = l; events = e }

  pub read_here : (a : After) → Stands r s → a ≡ next_at r s keys papers → a ≡ next_of r s keys papers
  unfolding next_of
  read_here a g e = rw (here g) e

pub ruleset next_laws = (none_left, many_lots, many_events, stands_here, read_here)
