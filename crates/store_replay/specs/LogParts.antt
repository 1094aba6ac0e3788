-- A log that comes in parts, as through a buffer that is refilled where fewer than fifteen bytes are left: the steps tell what the replay of the whole log tells.
use Rattle.std.specs.Prelude.{ℕ, ◌+◌, ◌≡◌, refl, List, [], ◌∷◌, ◌++◌, length, drop}
use Rattle.std.proofs.Common.{arith, sym, ap, ap₂, ◌∙◌, subst}
use Rattle.store_log.specs.Log.{Bytes, Event, Begins, Events, Close, Closes, none, more}
use Rattle.store_log.specs.Store.{Store, Told, event_on}
use Rattle.store_log.specs.Replay.{replay_from}
use Rattle.store_log.specs.Read.{replay_log}
use Rattle.store_log.specs.OneReading.{read_logged}
use Rattle.store_log.specs.LogParts.{Enough, Begun, part_event, part_close}
use Rattle.store_lots.specs.Memory.{Words}
use Rattle.store_lots.specs.Holds.{HoldsFrom, Holds}
use Rattle.store_replay.specs.declared.Replay.{Replay}
use Rattle.store_replay.specs.Next.{After, next_of}
use Rattle.store_replay.specs.Says.{Said, closing, Says}
use Rattle.store_replay.specs.Promise.{Stood, Usual, Goes}
use Rattle.store_replay.specs.Follows.{next_promise}
use Rattle.store_replay.specs.Once.{closing_one, tells_one, apart}

abbrev pub at_place : ℕ → ℕ → ℕ → Replay
at_place i events lots = record { at = i; events = events; lots = lots }

-- u is what is left of the log. Each step is over a part b, from a place i of it on: what stands there is the front of u, m follows it, and it is enough.
pub data Feeds : Bytes → (events lots : ℕ) → Words → Words → List Told → Close → ℕ → Words → Words → Type 0 where
  stop : {u : Bytes} {e l : ℕ} {keys papers : Words} {c : Close} (i : ℕ) (b m : Bytes) →
      u ≡ drop i b ++ m → Enough (drop i b) m → Usual (at_place i e l) b →
      Says (next_of (at_place i e l) b keys papers) (closing c (e + 1)) keys papers → Feeds u e l keys papers [] c l keys papers
  step : {u : Bytes} {e l z : ℕ} {keys papers ks ps kz pz : Words} {t : Told} {ts : List Told} {c : Close} (i : ℕ) (b m : Bytes) (n : Replay) →
      u ≡ drop i b ++ m → Enough (drop i b) m → Usual (at_place i e l) b →
      Says (next_of (at_place i e l) b keys papers) (Said.tells (e + 1) t n) ks ps →
      Feeds (drop n.at b ++ m) n.events n.lots ks ps ts c z kz pz → Feeds u e l keys papers (t ∷ ts) c z kz pz

-- the steps tell these events and this close, and memory holds this store
pub record Fed (ts us : List Told) (c d : Close) (ls : Store) (z : ℕ) (keys papers : Words) : Type 0 where
  pub told : ts ≡ us
  pub close : c ≡ d
  pub lots : z ≡ length ls
  pub holds : Holds keys papers ls

one_more_lem : {ts us : List Told} {c d : Close} {ls : Store} {z : ℕ} {keys papers : Words} (t u : Told) → t ≡ u → Fed ts us c d ls z keys papers →
    Fed (t ∷ ts) (u ∷ us) c d ls z keys papers
one_more_lem t u h f = record { told = ap₂ (λ (x : Told) (xs : List Told). x ∷ xs) h f.told; close = f.close; lots = f.lots; holds = f.holds }

placed : {e l : ℕ} (i : ℕ) (ls : Store) (keys papers : Words) → Stood (at_place 0 e l) ls keys papers → Stood (at_place i e l) ls keys papers
placed i ls keys papers g = record { lots = g.lots; few = g.few; holds = g.holds; keys_room = g.keys_room; papers_room = g.papers_room }

-- a state's place does not matter to its store, and neither do equal states and memories
moved : (n k : Replay) (ls : Store) (ks ps ky py : Words) → n ≡ k → ky ≡ ks → py ≡ ps → Stood n ls ky py → Stood (at_place 0 k.events k.lots) ls ks ps
moved n k ls ks ps ky py h a b g =
    let s : Stood k ls ky py = subst (λ (x : Replay). Stood x ls ky py) h g in
    let t : Stood k ls ks py = subst (λ (x : Words). Stood k ls x py) a s in
    let w : Stood k ls ks ps = subst (λ (x : Words). Stood k ls ks x) b t in
    record { lots = w.lots; few = w.few; holds = w.holds; keys_room = w.keys_room; papers_room = w.papers_room }

-- the event that the log has there, told over the part
module _ (e l i : ℕ) (b m : Bytes) (keys papers : Words) (ls : Store) (enough : Enough (drop i b) m) (usual : Usual (at_place i e l) b) (g : Stood (at_place 0 e l) ls keys papers) where
  abbrev answer : After
  answer = next_of (at_place i e l) b keys papers

  part_goes : (v : Event) (t : Bytes) (k : Begun (drop i b) m v t) → Goes (at_place i e l) b k.rest (event_on v ls) answer
  part_goes v t k = (next_promise (at_place i e l) b keys papers).event ls (placed i ls keys papers g) usual v k.rest k.begins

  part_closes : (c : Close) → Closes (drop i b ++ m) c → Says answer (closing c (e + 1)) keys papers
  part_closes c k = (next_promise (at_place i e l) b keys papers).close ls (placed i ls keys papers g) usual c (part_close enough k)

feeds : {u rest : Bytes} {es : List Event} {e l z : ℕ} {keys papers kz pz : Words} {ts : List Told} {c d : Close} (ls : Store) →
    Feeds u e l keys papers ts c z kz pz → Events u es rest → Closes rest d → Stood (at_place 0 e l) ls keys papers →
    Fed ts (replay_from ls es).told c d (replay_from ls es).store z kz pz
unfolding replay_from
feeds {d = d} ls (stop {e = e} {l = l} {keys = keys} {papers = papers} {c = c} i b m w n a says) none k g =
    let p = part_closes e l i b m keys papers ls n a g d (subst (λ (x : Bytes). Closes x d) w k) in
    record { told = refl; close = closing_one c d (e + 1) (sym says.said ∙ p.said); lots = g.lots; holds = g.holds }
feeds ls (stop {e = e} {l = l} {keys = keys} {papers = papers} {c = c} i b m w n a says) (more {t = t} {e = v} j _) k g =
    let p = part_goes e l i b m keys papers ls n a g v t (part_event n (subst (λ (x : Bytes). Begins x v t) w j)) in
    apart c (e + 1) (sym says.said ∙ p.said)
feeds {d = d} ls (step {e = e} {l = l} {keys = keys} {papers = papers} i b m _ w n a says _) none k g =
    let p = part_closes e l i b m keys papers ls n a g d (subst (λ (x : Bytes). Closes x d) w k) in
    apart d (e + 1) (sym p.said ∙ says.said)
feeds {rest = rest} ls (step {e = e} {l = l} {keys = keys} {papers = papers} {ks = ks} {ps = ps} {t = told} i b m next w n a says f) (more {t = t} {e = v} {es = es} j vs) k g =
    let q = part_event n (subst (λ (x : Bytes). Begins x v t) w j) in
    let p = part_goes e l i b m keys papers ls n a g v t q in
    let o = tells_one (sym says.said ∙ p.said) in
    let r : t ≡ drop next.at b ++ m = q.whole ∙ ap (λ (x : Bytes). x ++ m) (sym p.rest ∙ ap (λ (x : Replay). drop x.at b) (sym o.1)) in
    let s = moved p.next next (event_on v ls).store ks ps _ _ (sym o.1) says.keys_then says.papers_then p.stood in
    one_more_lem told (event_on v ls).told o.0 (feeds (event_on v ls).store f (subst (λ (x : Bytes). Events x es rest) r vs) k s)

-- a log fed in parts from a fresh state is replayed as the whole log is
pub parts_replay : {s : Bytes} {z : ℕ} {keys papers kz pz : Words} {ts : List Told} {c : Close} → length keys ≡ 1536 → length papers ≡ 512 →
    Feeds s 0 0 keys papers ts c z kz pz → Fed ts (replay_log s).told c (replay_log s).close (replay_log s).store z kz pz
unfolding replay_log HoldsFrom
parts_replay {s = s} hk hp f =
    let g = read_logged s in
    feeds [] f g.events g.closes (record { lots = refl; few = omega arith; holds = tt; keys_room = hk; papers_room = hp })
