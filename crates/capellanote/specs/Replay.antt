-- A step of the replay for C: what its arrays hold, and what they promise.
use Rattle.std.specs.Prelude.{ℕ, ◌≡◌, refl, List, [], ◌∷◌, get_or, ℤ, pos}
use Rattle.std.proofs.Common.{sym, ◌∙◌, subst}
use Rattle.std.proofs.Math.Path.{ap}
use Rattle.store_log.specs.Log.{Bytes}
use Rattle.store_replay.specs.declared.Replay.{Replay}
use Rattle.store_replay.specs.declared.Step.{Step}
use Rattle.store_replay.specs.Next.{After, after, next_of}
use Rattle.store_replay.specs.Promise.{Promise}

-- place in the log, events before it, lots in the store
unfoldable pub state_of : List ℕ → Replay
state_of a = record { at = get_or a 0 0; events = get_or a 1 0; lots = get_or a 2 0 }

unfoldable pub state_numbers : Replay → List ℕ
state_numbers r = r.at ∷ (r.events ∷ (r.lots ∷ []))

-- the refusal or 0, the event, what it is, its quantity, and of a count paper and the lot's place
unfoldable pub step_numbers : Step → List ℕ
step_numbers (Step.Received q n) = 0 ∷ (n.events ∷ (1 ∷ (q ∷ (0 ∷ (0 ∷ [])))))
step_numbers (Step.Issued q n) = 0 ∷ (n.events ∷ (2 ∷ (q ∷ (0 ∷ (0 ∷ [])))))
step_numbers (Step.Counted event lot paper shelf d n) = 0 ∷ (event ∷ (3 ∷ (shelf ∷ (paper ∷ (lot ∷ [])))))
step_numbers (Step.Day n) = 0 ∷ (n.events ∷ (4 ∷ (0 ∷ (0 ∷ (0 ∷ [])))))
step_numbers (Step.Skipped number event n) = number ∷ (event ∷ (5 ∷ (0 ∷ (0 ∷ (0 ∷ [])))))
step_numbers (Step.Refused number event) = number ∷ (event ∷ (6 ∷ (0 ∷ (0 ∷ (0 ∷ [])))))
step_numbers Step.End = 0 ∷ (0 ∷ (0 ∷ (0 ∷ (0 ∷ (0 ∷ [])))))

-- paper minus shelf
unfoldable pub step_difference : Step → List ℤ
step_difference (Step.Received q n) = pos 0 ∷ []
step_difference (Step.Issued q n) = pos 0 ∷ []
step_difference (Step.Counted event lot paper shelf d n) = d ∷ []
step_difference (Step.Day n) = pos 0 ∷ []
step_difference (Step.Skipped number event n) = pos 0 ∷ []
step_difference (Step.Refused number event) = pos 0 ∷ []
step_difference Step.End = pos 0 ∷ []

-- past the event; where the replay has ended, as before
unfoldable pub step_state : Replay → Step → Replay
step_state r (Step.Received q n) = n
step_state r (Step.Issued q n) = n
step_state r (Step.Counted event lot paper shelf d n) = n
step_state r (Step.Day n) = n
step_state r (Step.Skipped number event n) = n
step_state r (Step.Refused number event) = r
step_state r Step.End = r

-- ---- The promise of a call

-- all memory after it is that of one answer, and that answer is what the replay's step promises
pub record Replayed (log : Bytes) (state keys papers answer : List ℕ) (difference : List ℤ) (state' keys' papers' : List ℕ) : Type 0 where
  pub step : Step
  pub promised : Promise (state_of state) log keys papers (after step keys' papers')
  pub answered : answer ≡ step_numbers step
  pub differs : difference ≡ step_difference step
  pub moved : state' ≡ state_numbers (step_state (state_of state) step)

-- all of it is fixed, for any log, state and memory
module _ (log : Bytes) (state keys papers : List ℕ) where
  abbrev next : After
  next = next_of (state_of state) log keys papers

  pub record Fixed (answer : List ℕ) (difference : List ℤ) (state' keys' papers' : List ℕ) : Type 0 where
    pub answered : answer ≡ step_numbers next.step
    pub differs : difference ≡ step_difference next.step
    pub moved : state' ≡ state_numbers (step_state (state_of state) next.step)
    pub keyed : keys' ≡ next.keys
    pub papered : papers' ≡ next.papers

  pub replayed_fixed : (answer : List ℕ) (difference : List ℤ) (state' keys' papers' : List ℕ) →
      Replayed log state keys papers answer difference state' keys' papers' → Fixed answer difference state' keys' papers'
  replayed_fixed answer difference state' keys' papers' p =
      let e = p.promised.answer in
      let s = ap (λ (a : After). a.step) e in
      record {
        answered = p.answered ∙ ap step_numbers s;
        differs = p.differs ∙ ap step_difference s;
        moved = p.moved ∙ ap (λ (x : Step). state_numbers (step_state (state_of state) x)) s;
        keyed = ap (λ (a : After). a.keys) e;
        papered = ap (λ (a : After). a.papers) e;
      }

-- ---- The arrays, case by case

pub state_read : (a : List ℕ) (at events lots : ℕ) → at ≡ get_or a 0 0 → events ≡ get_or a 1 0 → lots ≡ get_or a 2 0 →
    record { at = at; events = events; lots = lots } ≡ state_of a
unfolding state_of
state_read a at events lots ha he hl = rw (ha, he, hl)

pub state_put : (r : Replay) → r.at ∷ (r.events ∷ (r.lots ∷ [])) ≡ state_numbers r
unfolding state_numbers
state_put r = refl

module _ (x : Step) where
  pub received_numbers : (q : ℕ) (n : Replay) → x ≡ Step.Received q n → 0 ∷ (n.events ∷ (1 ∷ (q ∷ (0 ∷ (0 ∷ []))))) ≡ step_numbers x
  unfolding step_numbers
  received_numbers q n h = ap step_numbers (sym h)

  pub received_difference : (q : ℕ) (n : Replay) → x ≡ Step.Received q n → ◌≡◌ {A = List ℤ} (pos 0 ∷ []) (step_difference x)
  unfolding step_difference
  received_difference q n h = ap step_difference (sym h)

  pub received_state : (r : Replay) → (q : ℕ) (n : Replay) → x ≡ Step.Received q n → n ≡ step_state r x
  unfolding step_state
  received_state r q n h = ap (step_state r) (sym h)

  pub issued_numbers : (q : ℕ) (n : Replay) → x ≡ Step.Issued q n → 0 ∷ (n.events ∷ (2 ∷ (q ∷ (0 ∷ (0 ∷ []))))) ≡ step_numbers x
  unfolding step_numbers
  issued_numbers q n h = ap step_numbers (sym h)

  pub issued_difference : (q : ℕ) (n : Replay) → x ≡ Step.Issued q n → ◌≡◌ {A = List ℤ} (pos 0 ∷ []) (step_difference x)
  unfolding step_difference
  issued_difference q n h = ap step_difference (sym h)

  pub issued_state : (r : Replay) → (q : ℕ) (n : Replay) → x ≡ Step.Issued q n → n ≡ step_state r x
  unfolding step_state
  issued_state r q n h = ap (step_state r) (sym h)

  pub counted_numbers : (event lot paper shelf : ℕ) (d : ℤ) (n : Replay) → x ≡ Step.Counted event lot paper shelf d n → 0 ∷ (event ∷ (3 ∷ (shelf ∷ (paper ∷ (lot ∷ []))))) ≡ step_numbers x
  unfolding step_numbers
  counted_numbers event lot paper shelf d n h = ap step_numbers (sym h)

  pub counted_difference : (event lot paper shelf : ℕ) (d : ℤ) (n : Replay) → x ≡ Step.Counted event lot paper shelf d n → ◌≡◌ {A = List ℤ} (d ∷ []) (step_difference x)
  unfolding step_difference
  counted_difference event lot paper shelf d n h = ap step_difference (sym h)

  pub counted_state : (r : Replay) → (event lot paper shelf : ℕ) (d : ℤ) (n : Replay) → x ≡ Step.Counted event lot paper shelf d n → n ≡ step_state r x
  unfolding step_state
  counted_state r event lot paper shelf d n h = ap (step_state r) (sym h)

  pub day_numbers : (n : Replay) → x ≡ Step.Day n → 0 ∷ (n.events ∷ (4 ∷ (0 ∷ (0 ∷ (0 ∷ []))))) ≡ step_numbers x
  unfolding step_numbers
  day_numbers n h = ap step_numbers (sym h)

  pub day_difference : (n : Replay) → x ≡ Step.Day n → ◌≡◌ {A = List ℤ} (pos 0 ∷ []) (step_difference x)
  unfolding step_difference
  day_difference n h = ap step_difference (sym h)

  pub day_state : (r : Replay) → (n : Replay) → x ≡ Step.Day n → n ≡ step_state r x
  unfolding step_state
  day_state r n h = ap (step_state r) (sym h)

  pub skipped_numbers : (number event : ℕ) (n : Replay) → x ≡ Step.Skipped number event n → number ∷ (event ∷ (5 ∷ (0 ∷ (0 ∷ (0 ∷ []))))) ≡ step_numbers x
  unfolding step_numbers
  skipped_numbers number event n h = ap step_numbers (sym h)

  pub skipped_difference : (number event : ℕ) (n : Replay) → x ≡ Step.Skipped number event n → ◌≡◌ {A = List ℤ} (pos 0 ∷ []) (step_difference x)
  unfolding step_difference
  skipped_difference number event n h = ap step_difference (sym h)

  pub skipped_state : (r : Replay) → (number event : ℕ) (n : Replay) → x ≡ Step.Skipped number event n → n ≡ step_state r x
  unfolding step_state
  skipped_state r number event n h = ap (step_state r) (sym h)

  pub refused_numbers : (number event : ℕ) → x ≡ Step.Refused number event → number ∷ (event ∷ (6 ∷ (0 ∷ (0 ∷ (0 ∷ []))))) ≡ step_numbers x
  unfolding step_numbers
  refused_numbers number event h = ap step_numbers (sym h)

  pub refused_difference : (number event : ℕ) → x ≡ Step.Refused number event → ◌≡◌ {A = List ℤ} (pos 0 ∷ []) (step_difference x)
  unfolding step_difference
  refused_difference number event h = ap step_difference (sym h)

  pub refused_state : (r : Replay) → (number event : ℕ) → x ≡ Step.Refused number event → r ≡ step_state r x
  unfolding step_state
  refused_state r number event h = ap (step_state r) (sym h)

  pub ended_numbers : x ≡ Step.End → 0 ∷ (0 ∷ (0 ∷ (0 ∷ (0 ∷ (0 ∷ []))))) ≡ step_numbers x
  unfolding step_numbers
  ended_numbers h = ap step_numbers (sym h)

  pub ended_difference : x ≡ Step.End → ◌≡◌ {A = List ℤ} (pos 0 ∷ []) (step_difference x)
  unfolding step_difference
  ended_difference h = ap step_difference (sym h)

  pub ended_state : (r : Replay) → x ≡ Step.End → r ≡ step_state r x
  unfolding step_state
  ended_state r h = ap (step_state r) (sym h)

pub ruleset number_laws = (received_numbers, issued_numbers, counted_numbers, day_numbers, skipped_numbers, refused_numbers, ended_numbers)

pub ruleset difference_laws = (received_difference, issued_difference, counted_difference, day_difference, skipped_difference, refused_difference, ended_difference)

pub ruleset state_laws = (received_state, issued_state, counted_state, day_state, skipped_state, refused_state, ended_state)

-- ---- The call

pub replayed : (log : Bytes) (state keys papers answer : List ℕ) (difference : List ℤ) (state' keys' papers' : List ℕ) (was last : Replay) (x : Step) →
    was ≡ state_of state → Promise was log keys papers (after x keys' papers') → answer ≡ step_numbers x → difference ≡ step_difference x →
    last ≡ step_state was x → state' ≡ state_numbers last → Replayed log state keys papers answer difference state' keys' papers'
replayed log state keys papers answer difference state' keys' papers' was last x hw p a d hl hs =
    record {
      step = x;
      promised = subst (λ (r : Replay). Promise r log keys papers (after x keys' papers')) hw p;
      answered = a;
      differs = d;
      moved = hs ∙ ap state_numbers (hl ∙ ap (λ (r : Replay). step_state r x) hw);
    }
