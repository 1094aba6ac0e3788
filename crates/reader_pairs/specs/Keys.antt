-- A pair of atoms as one number, the same in either direction, and the search for it among the pairs before.
use Rattle.std.specs.Prelude.{ℕ, zero, suc, ◌+◌, ◌-◌, ◌*◌, ◌≤◌, ◌<◌, ◌≡◌, refl, List, [], ◌∷◌, ◌++◌, map, Bool, true, false, cond, eqb, ltb, length, get_or, take, drop}
use Rattle.std.proofs.Common.{arith, add-one, sym, ap, ◌∙◌, subst, drop_of_length-le, drop-cons, get_or-take}
use Rattle.std.proofs.Math.Seq.{length-take-le}
use borrow.Author.Tests.{eq-eqb, ne_eqb, eqb-true, eqb-false, ltb-true, ltb-false}
use Rattle.text.specs.Laws.{true_false}
use Rattle.rules.specs.Forms.{Bond}
use Rattle.rules.specs.Record.{SamePair, along, against}
use Rattle.judge_pairs.specs.Taken.{same_pair, pair_taken}
use Rattle.judge_pairs.proofs.Agree.{same_sound, same_complete}
use Rattle.judge_pairs.specs.Compared.{FirstSame}
use Rattle.judge_line.specs.Field.{elem}

-- the lower number first
unfoldable pub pair_key : ℕ → ℕ → ℕ
pair_key first second = cond (ltb first second) (1024 * first + second) (1024 * second + first)

abbrev pub key_of : Bond → ℕ
key_of b = pair_key b.first b.second

abbrev pub keys_of : List Bond → List ℕ
keys_of bs = map key_of bs

-- ends that three columns can hold
pub record SmallEnds (b : Bond) : Type 0 where
  pub first : b.first ≤ 999
  pub second : b.second ≤ 999

unfoldable pub AllSmall : List Bond → Type 0
AllSmall [] = Unit {0}
AllSmall (b ∷ bs) = SmallEnds b × AllSmall bs

pub small_more : (bs : List Bond) (b : Bond) → AllSmall bs → SmallEnds b → AllSmall (bs ++ (b ∷ []))
unfolding AllSmall
small_more [] b h k = (k, tt)
small_more (x ∷ bs) b h k = (h.0, small_more bs b h.1 k)

-- ---- Two bonds have the same key exactly if they join the same pair

key_same : (x y u v : ℕ) (s t : Bool) → ltb x y ≡ s → ltb u v ≡ t → x ≤ 999 → y ≤ 999 → u ≤ 999 → v ≤ 999 →
    cond s (1024 * x + y) (1024 * y + x) ≡ cond t (1024 * u + v) (1024 * v + u) → (b c : Bond) → b.first ≡ x → b.second ≡ y → c.first ≡ u → c.second ≡ v →
    SamePair b c
key_same x y u v true true p q hx hy hu hv e b c i j k l = along (omega arith) (omega arith)
key_same x y u v true false p q hx hy hu hv e b c i j k l = against (omega arith) (omega arith)
key_same x y u v false true p q hx hy hu hv e b c i j k l = against (omega arith) (omega arith)
key_same x y u v false false p q hx hy hu hv e b c i j k l = along (omega arith) (omega arith)

key_sound : (b c : Bond) → SmallEnds b → SmallEnds c → key_of b ≡ key_of c → SamePair b c
unfolding pair_key
key_sound b c hb hc e =
    key_same b.first b.second c.first c.second (ltb b.first b.second) (ltb c.first c.second) refl refl
    hb.first hb.second hc.first hc.second e b c refl refl refl refl

key_turned : (x y : ℕ) (s t : Bool) → ltb x y ≡ s → ltb y x ≡ t → cond s (1024 * x + y) (1024 * y + x) ≡ cond t (1024 * y + x) (1024 * x + y)
key_turned x y true true p q = absurd (omega (arith, ltb-true x y p, ltb-true y x q))
key_turned x y true false p q = refl
key_turned x y false true p q = refl
key_turned x y false false p q = let e : x ≡ y = omega (arith, ltb-false x y p, ltb-false y x q) in omega arith

-- the same key in either direction
pub key_either : (x y : ℕ) → pair_key x y ≡ pair_key y x
unfolding pair_key
key_either x y = key_turned x y (ltb x y) (ltb y x) refl refl

key_complete : (b c : Bond) → SamePair b c → key_of b ≡ key_of c
unfolding pair_key
key_complete b c (along e f) = rw (e, f)
key_complete b c (against e f) =
    rw (e, f) (key_turned c.second c.first (ltb c.second c.first) (ltb c.first c.second) refl refl)

key_agrees : (b c : Bond) → SmallEnds b → SmallEnds c → eqb (key_of b) (key_of c) ≡ same_pair b c
key_agrees b c hb hc = go (same_pair b c) refl
  where
    go : (t : Bool) → same_pair b c ≡ t → eqb (key_of b) (key_of c) ≡ t
    go true e = eq-eqb (key_of b) (key_of c) (key_complete b c (same_sound b c e))
    go false e = ne_eqb (key_of b) (key_of c) (λ k. true_false (sym (same_complete b c (key_sound b c hb hc k)) ∙ e))

-- the pair of b is taken exactly if its key is among the keys
pub taken_keys : (b : Bond) (bs : List Bond) → SmallEnds b → AllSmall bs → elem (key_of b) (keys_of bs) ≡ pair_taken b bs
unfolding elem pair_taken AllSmall
taken_keys b [] hb hs = refl
taken_keys b (c ∷ bs) hb hs = rw (key_agrees b c hb hs.0, taken_keys b bs hb hs.1)

-- ---- Keys that are not this one

-- none of the keys from place i to before place j is this one
pub record Missed (keys : List ℕ) (key i j : ℕ) : Type 0 where
  pub none : (k : ℕ) → i ≤ k → k < j → get_or keys k 0 ≡ key → ⊥

pub missed_start : (keys : List ℕ) (key i : ℕ) → Missed keys key i (i + 0)
missed_start keys key i = record { none = λ k low high e. omega arith }

missed_more : (keys : List ℕ) (key i j : ℕ) → Missed keys key i j → (get_or keys j 0 ≡ key → ⊥) → Missed keys key i (j + 1)
missed_more keys key i j g ne = record { none = λ k low high e. go k low high e (eqb k j) refl }
  where
    go : (k : ℕ) → i ≤ k → k < j + 1 → get_or keys k 0 ≡ key → (t : Bool) → eqb k j ≡ t → ⊥
    go k low high e true q = ne (subst (λ (x : ℕ). get_or keys x 0 ≡ key) (eqb-true k j q) e)
    go k low high e false q = let d = eqb-false k j q in g.none k low (omega arith) e

pub missed_next : (keys : List ℕ) (key i n : ℕ) → Missed keys key i (i + n) → (get_or keys (i + n) 0 ≡ key → ⊥) → Missed keys key i (i + (n + 1))
missed_next keys key i n g ne = let e : i + n + 1 ≡ i + (n + 1) = omega arith in subst (Missed keys key i) e (missed_more keys key i (i + n) g ne)

-- ---- The search, in order from the first

-- the key is not among the first j keys
pub record Searching (keys : List ℕ) (key count j : ℕ) : Type 0 where
  pub within : j ≤ count
  pub room : count ≤ length keys
  pub same : elem key (take count keys) ≡ elem key (drop j (take count keys))
  pub missed : Missed keys key 0 j

pub searching_start : (keys : List ℕ) (key count : ℕ) → count ≤ length keys → Searching keys key count 0
searching_start keys key count h = record { within = omega arith; room = h; same = refl; missed = missed_start keys key 0 }

module _ (keys : List ℕ) (key count j : ℕ) (g : Searching keys key count j) where
  here : j < count → drop j (take count keys) ≡ get_or keys j 0 ∷ drop (j + 1) (take count keys)
  here h =
      let l : length (take count keys) ≡ count = length-take-le count keys g.room in
      rw (add-one j) (drop-cons (take count keys) j 0 (omega arith) ∙ ap (λ (x : ℕ). x ∷ drop (suc j) (take count keys)) (get_or-take count keys j 0 h))

  pub searching_next : j < count → (get_or keys j 0 ≡ key → ⊥) → Searching keys key count (j + 1)
  unfolding elem
  searching_next h ne =
      record {
        within = omega arith;
        room = g.room;
        same = g.same ∙ rw (here h, ne_eqb key (get_or keys j 0) (λ e. ne (sym e)));
        missed = missed_more keys key 0 j g.missed ne;
      }

  pub searching_found : j < count → get_or keys j 0 ≡ key → elem key (take count keys) ≡ true
  unfolding elem
  searching_found h e = g.same ∙ rw (here h, eq-eqb key (get_or keys j 0) (sym e))

  pub searching_end : count ≤ j → elem key (take count keys) ≡ false
  unfolding elem
  searching_end h = g.same ∙ rw (drop_of_length-le (take count keys) {i = j} (omega (arith, length-take-le count keys g.room)))

-- ---- Whole blocks without the key

pub missed_all : (keys : List ℕ) (key i n width : ℕ) → Missed keys key i (i + n) → n ≤ width → width ≤ n → Missed keys key i (i + width)
missed_all keys key i n width g h l = let e : n ≡ width = omega arith in subst (λ (j : ℕ). Missed keys key i (i + j)) e g

pub searching_block : (keys : List ℕ) (key count i n : ℕ) → Searching keys key count i → Missed keys key i (i + n) → i + n ≤ count → Searching keys key count (i + n)
searching_block keys key count i zero g m h = let e : i ≡ i + 0 = omega arith in subst (Searching keys key count) e g
searching_block keys key count i (suc n) g m h =
    let one : i + n + 1 ≡ i + suc n = omega arith in
    let before : Missed keys key i (i + n) = record { none = λ k low high e. m.none k low (omega arith) e } in
    subst (Searching keys key count) one
    (searching_next keys key count (i + n) (searching_block keys key count i n g before (omega arith)) (omega arith) (m.none (i + n) (omega arith) (omega arith)))

pub searching_on : (keys : List ℕ) (key count i width : ℕ) → Searching keys key count i → Missed keys key i (i + width) → width ≤ count - i → Searching keys key count (i + width)
searching_on keys key count i width g m h = searching_block keys key count i width g m (omega (arith, g.within))

-- ---- The first key that is this one is that of the first bond of the pair

key_first : (b : Bond) (bs : List Bond) (j : ℕ) → SmallEnds b → AllSmall bs → j < length bs → get_or (keys_of bs) j 0 ≡ key_of b →
    ((k : ℕ) → k < j → get_or (keys_of bs) k 0 ≡ key_of b → ⊥) → FirstSame b bs (j + 1)
unfolding AllSmall
key_first b [] j hb hs l e none = absurd (omega arith)
key_first b (c ∷ bs) zero hb hs l e none = FirstSame.here (key_sound b c hb hs.0 (sym e))
key_first b (c ∷ bs) (suc j) hb hs l e none =
    let one : suc (j + 1) ≡ suc j + 1 = omega arith in
    subst (FirstSame b (c ∷ bs)) one
    (FirstSame.later (λ s. none 0 (omega arith) (sym (key_complete b c s)))
    (key_first b bs j hb hs.1 (omega arith) e (λ k h. none (suc k) (omega arith))))

pub searching_first : (keys : List ℕ) (b : Bond) (bs : List Bond) (count j : ℕ) → Searching keys (key_of b) count j → SmallEnds b → AllSmall bs → count ≡ length bs →
    take (length bs) keys ≡ keys_of bs → j < count → get_or keys j 0 ≡ key_of b → FirstSame b bs (j + 1)
searching_first keys b bs count j g hb hs n same l e =
    key_first b bs j hb hs (omega arith) (read j (omega arith) ∙ e) (λ k h q. g.missed.none k (omega arith) h (sym (read k (omega arith)) ∙ q))
  where
    read : (k : ℕ) → k < length bs → get_or (keys_of bs) k 0 ≡ get_or keys k 0
    read k h = ap (λ (ks : List ℕ). get_or ks k 0) (sym same) ∙ get_or-take (length bs) keys k 0 h

pub ruleset searching_laws = (missed_start, missed_next, searching_start, searching_on)
