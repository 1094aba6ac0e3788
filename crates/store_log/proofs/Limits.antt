-- The limits of a store that a replay makes: at most 512 lots, each with at most 1,000,000 on paper; and lots keep their places.
use Rattle.std.specs.Prelude.{ℕ, ◌+◌, ◌-◌, ◌≤◌, ◌<◌, ◌≡◌, refl, List, [], ◌∷◌, ◌++◌, Bool, true, false, cond, ltb, length}
use Rattle.std.proofs.Common.{arith, sym, ap, ◌∙◌, append-nil, length-append, ltb-true, ltb-false}
use Rattle.store_log.specs.Log.{Bytes, Kind, Event}
use Rattle.store_log.specs.Store.{Lot, Store, same_bytes, known, paper_of, with_paper, most_lots, most_paper, receipt_by, receipt, issue_by, issue, count, event_on}
use Rattle.store_log.specs.Replay.{replay_from, replay}
use Rattle.store_log.specs.Limits.{keys_in, Within, with_keys, with_length, paper_within, Sound, Keeps, sound_empty}

-- ---- Keys keep their places

keys_more : (ls : Store) (l : Lot) → keys_in (ls ++ (l ∷ [])) ≡ keys_in ls ++ (l.key ∷ [])
keys_more [] l = refl
keys_more (m ∷ ls) l = ap (λ (ks : List Bytes). m.key ∷ ks) (keys_more ls l)

-- ---- Papers within the limit

within_with : (key : Bytes) (p : ℕ) (ls : Store) → p ≤ most_paper → Within ls → Within (with_paper key p ls)
unfolding Within with_paper
within_with key p [] h w = tt
within_with key p (l ∷ ls) h w = go (same_bytes key l.key) (within_with key p ls h w.1)
  where
    go : (t : Bool) → Within (with_paper key p ls) → Within (cond t (record { key = l.key; paper = p } ∷ ls) (l ∷ with_paper key p ls))
    go true again = (h, w.1)
    go false again = (w.0, again)

within_more : (ls : Store) (l : Lot) → l.paper ≤ most_paper → Within ls → Within (ls ++ (l ∷ []))
unfolding Within
within_more [] l h w = (h, tt)
within_more (m ∷ ls) l h w = (w.0, within_more ls l h w.1)

-- ---- One event, any log

same_keeps : (ls : Store) → Sound ls → Keeps ls ls
same_keeps ls g = record { sound = g; new = []; one = omega arith; keys = sym (append-nil (keys_in ls)) }

with_keeps : (key : Bytes) (p : ℕ) (ls : Store) → Sound ls → p ≤ most_paper → Keeps ls (with_paper key p ls)
with_keeps key p ls g h = record {
  sound = record { few = (let e = with_length key p ls in let f = g.few in omega (arith, e, f)); within = within_with key p ls h g.within };
  new = [];
  one = omega arith;
  keys = with_keys key p ls ∙ sym (append-nil (keys_in ls));
}

more_keeps : (key : Bytes) (q : ℕ) (ls : Store) → Sound ls → q ≤ most_paper → length ls < most_lots → Keeps ls (ls ++ (record { key = key; paper = q } ∷ []))
more_keeps key q ls g h f = record {
  sound = record { few = (let e = length-append ls (record { key = key; paper = q } ∷ []) in omega (arith, e, f)); within = within_more ls (record { key = key; paper = q }) h g.within };
  new = key ∷ [];
  one = omega arith;
  keys = keys_more ls (record { key = key; paper = q });
}

receipt_keeps : (key : Bytes) (q : ℕ) (ls : Store) → Sound ls → Keeps ls (receipt key q ls).store
unfolding receipt
receipt_keeps key q ls g = go (ltb most_paper (paper_of key ls + q)) refl (known key ls) (ltb (length ls) most_lots) refl
  where
    go : (t : Bool) → ltb most_paper (paper_of key ls + q) ≡ t → (u v : Bool) → ltb (length ls) most_lots ≡ v → Keeps ls (receipt_by t u v key q ls).store
    go true h u v k = same_keeps ls g
    go false h true v k = with_keeps key (paper_of key ls + q) ls g (ltb-false most_paper (paper_of key ls + q) h)
    go false h false true k = let l = ltb-false most_paper (paper_of key ls + q) h in more_keeps key q ls g (omega (arith, l)) (ltb-true (length ls) most_lots k)
    go false h false false k = same_keeps ls g

issue_keeps : (key : Bytes) (q : ℕ) (ls : Store) → Sound ls → Keeps ls (issue key q ls).store
unfolding issue
issue_keeps key q ls g = go (ltb (paper_of key ls) q)
  where
    go : (t : Bool) → Keeps ls (issue_by t key q ls).store
    go true = same_keeps ls g
    go false = let l = paper_within key ls g.within in with_keeps key (paper_of key ls - q) ls g (omega (arith, l))

pub event_keeps : (e : Event) (ls : Store) → Sound ls → Keeps ls (event_on e ls).store
unfolding event_on count
event_keeps (Event.scan Kind.received key q) ls g = receipt_keeps key q ls g
event_keeps (Event.scan Kind.issued key q) ls g = issue_keeps key q ls g
event_keeps (Event.scan Kind.counted key q) ls g = same_keeps ls g
event_keeps (Event.day date) ls g = same_keeps ls g

sound_from : (ls : Store) (es : List Event) → Sound ls → Sound (replay_from ls es).store
unfolding replay_from
sound_from ls [] g = g
sound_from ls (e ∷ es) g = sound_from (event_on e ls).store es (event_keeps e ls g).sound

pub sound : (es : List Event) → Sound (replay es).store
sound es = sound_from [] es sound_empty
