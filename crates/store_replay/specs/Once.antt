-- There is one such run: what it tells, how it stops, and the state and memories then are fixed by the log, the state and the memories before.
use Rattle.std.specs.Prelude.{ℕ, ◌+◌, ◌≡◌, refl, List, ◌∷◌}
use Rattle.std.proofs.Common.{arith, sym, ap₂, ◌∙◌, subst}
use Rattle.store_log.specs.Log.{Bytes, Close}
use Rattle.store_log.specs.Store.{Told}
use Rattle.store_lots.specs.Memory.{Words}
use Rattle.store_replay.specs.declared.Replay.{Replay}
use Rattle.store_replay.specs.Says.{Said, closing}
use Rattle.store_replay.specs.Runs.{Runs, stop, more}

pub closing_one : (c d : Close) (event : ℕ) → closing c event ≡ closing d event → c ≡ d
closing_one Close.ended Close.ended event h = refl
closing_one Close.ended (Close.refused n) event h = absurd (let z : ◌≡◌ {A = ℕ} 0 1 = cc in omega arith)
closing_one (Close.refused n) Close.ended event h = absurd (let z : ◌≡◌ {A = ℕ} 0 1 = cc in omega arith)
closing_one (Close.refused n) (Close.refused m) event h = cc

pub tells_one : {i j : ℕ} {t u : Told} {m n : Replay} → Said.tells i t m ≡ Said.tells j u n → (t ≡ u) × (m ≡ n)
tells_one h = (cc, cc)

pub apart : {X : Type 0} (c : Close) (event : ℕ) {i : ℕ} {t : Told} {m : Replay} → closing c event ≡ Said.tells i t m → X
apart Close.ended event h = absurd (let z : ◌≡◌ {A = ℕ} 0 1 = cc in omega arith)
apart (Close.refused n) event h = absurd (let z : ◌≡◌ {A = ℕ} 0 1 = cc in omega arith)

pub runs_one : {s : Bytes} {r m n : Replay} {keys papers ky py kz pz : Words} {ts us : List Told} {c d : Close} →
    Runs s r keys papers ts c m ky py → Runs s r keys papers us d n kz pz → (ts ≡ us) × (c ≡ d) × (m ≡ n) × (ky ≡ kz) × (py ≡ pz)
runs_one (stop {r = r} {c = c} h) (stop {c = d} k) = (refl, closing_one c d (r.events + 1) (sym h.said ∙ k.said), refl, refl, refl)
runs_one (stop {r = r} {c = c} h) (more k e v) = apart c (r.events + 1) (sym h.said ∙ k.said)
runs_one (more h e v) (stop {r = r} {c = d} k) = apart d (r.events + 1) (sym k.said ∙ h.said)
runs_one {s = s} (more {r = r} {m = m} {ks = ks} {ps = ps} {t = t} h e v) (more {m = n} {n = z} {ks = ls} {ps = qs} {kz = kz} {pz = pz} {t = u} {ts = us} {c = d} k f w) =
    let g = tells_one (sym h.said ∙ k.said) in
    let w₁ : Runs s m ls qs us d z kz pz = subst (λ (x : Replay). Runs s x ls qs us d z kz pz) (sym g.1) w in
    let w₂ : Runs s m ks qs us d z kz pz = subst (λ (x : Words). Runs s m x qs us d z kz pz) (sym k.keys_then ∙ h.keys_then) w₁ in
    let w₃ : Runs s m ks ps us d z kz pz = subst (λ (x : Words). Runs s m ks x us d z kz pz) (sym k.papers_then ∙ h.papers_then) w₂ in
    let o = runs_one v w₃ in
    (ap₂ (λ (x : Told) (xs : List Told). x ∷ xs) g.0 o.0, o.1, o.2, o.3, o.4)
