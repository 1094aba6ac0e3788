-- Every text has one list of stretches; they make up the text; and the first refusal among them is the one that judging alone gives.
use Rattle.std.specs.Prelude.{ℕ, zero, suc, ◌+◌, ◌-◌, ◌≤◌, ◌<◌, ◌≡◌, refl, List, [], ◌∷◌, ◌++◌, Bool, true, false, ltb, length, take, drop}
use Rattle.std.proofs.Common.{arith, sym, ap, ap₂, ◌∙◌, subst, length-append, length-drop, length-take, take-append-drop, take_at, drop_at, length-take-le, lt-ltb, le-ltb, ltb-true, ltb-false}
use Rattle.text.specs.Text.{Bytes}
use Rattle.text.specs.Cut.{cut}
use Rattle.rules.specs.Record.{Raw, GoodSDfile}
use Rattle.judge_refusals.specs.NoRecord.{NoRecord}
use Rattle.reader_feed.specs.Fed.{Piece, piece_of}
use Rattle.reader_feed.specs.Pieces.{piece_room}
use Rattle.reader_feed.specs.Says.{refused, too_long, says_from, counter_says, says_end, says_whole, says_refused, says_short, says_long, whole_there}
use Rattle.reader_feed.specs.TooLong.{piece_good}
use Rattle.resume_rules.specs.Resume.{Behind, Part, good, bad, long, Dealt, joined, first_told}
use Rattle.resume_rules.specs.Passed.{passed, passed_some}
use Rattle.resume_rules.proofs.Passed.{behind_passed, behind}
use Rattle.resume_rules.specs.Fronts.{NotWhole, not_whole_lem, no_dead, no_open, dead_line, dead_number, open_line, good_front}
use Rattle.resume_rules.specs.Theorem.{after, open_part, part_of, size_of, dealt_of}

-- ---- The stretches, computed

dealt_next : (room m : ℕ) (t : Bytes) (q : Piece) → 0 < length t → piece_of (take room t) ≡ q → dealt_of room (suc m) t ≡ part_of room t q ∷ dealt_of room m (drop (size_of t q) t)
unfolding dealt_of
dealt_next room m [] q some h = absurd (omega arith)
dealt_next room m (b ∷ t) q some h = ap (λ (x : Piece). part_of room (b ∷ t) x ∷ dealt_of room m (drop (size_of (b ∷ t) x) (b ∷ t))) h

dealt_none : (room m : ℕ) → dealt_of room m [] ≡ []
unfolding dealt_of
dealt_none room zero = refl
dealt_none room (suc m) = refl

-- ---- Every list of stretches is that one

-- the stretch behind a refused line, and the rest
behind_parts : {p : ℕ} {t own rest : Bytes} → Behind p t own rest → (own ≡ take (passed p 0 t) t) × (rest ≡ drop (passed p 0 t) t)
behind_parts {p = p} {t = t} {own = own} {rest = rest} b =
    let r = behind_passed b in (
      sym (ap (take (passed p 0 t)) r.0 ∙ take_at own rest (passed p 0 t) (sym r.1)),
      sym (ap (drop (passed p 0 t)) r.0 ∙ drop_at own rest (passed p 0 t) (sym r.1)),
    )

behind_shorter : {p : ℕ} {t own rest : Bytes} → Behind p t own rest → 0 < length t → length rest < length t
behind_shorter {p = p} {t = t} {own = own} {rest = rest} b some =
    let r = behind_passed b in
    omega (arith, passed_some p 0 t some, r.1, ap length r.0, length-append own rest)

-- with what holds of the rest
abbrev Again : ℕ → Bytes → List Part → Type 0
Again room rest ps = (m : ℕ) → length rest ≤ m → ps ≡ dealt_of room m rest

module _ (room : ℕ) (t own rest : Bytes) (ps : List Part) (again : Again room rest ps) where
  is_good : (x : Raw) → t ≡ own ++ rest → GoodSDfile own (x ∷ []) → length own ≤ room → Again room t (good own ∷ ps)
  is_good x e g fits m h = go m h
    where
      f : (piece_of (take room t) ≡ Piece.Whole (length own) (length (cut own).lines)) × (0 < length own)
      f = good_front room t own rest x e g fits

      size : length t ≡ length own + length rest
      size = ap length e ∙ length-append own rest

      go : (m : ℕ) → length t ≤ m → good own ∷ ps ≡ dealt_of room m t
      go zero h = absurd (omega (arith, h, size, f.1))
      go (suc m) h =
          let own_is : own ≡ take (length own) t = sym (ap (take (length own)) e ∙ take_at own rest (length own) refl) in
          let rest_is : rest ≡ drop (length own) t = sym (ap (drop (length own)) e ∙ drop_at own rest (length own) refl) in
          ap₂ (λ (x : Bytes) (qs : List Part). good x ∷ qs) own_is (again m (omega (arith, h, size, f.1)) ∙ ap (dealt_of room m) rest_is)
          ∙ sym (dealt_next room m t (Piece.Whole (length own) (length (cut own).lines)) (omega (arith, size, f.1)) f.0)

  -- behind a refused line
  module _ (p : ℕ) (b : Behind p t own rest) (some : 0 < length t) where
    place : passed p 0 t ≡ after (suc p) t
    place = let k : p ≡ suc p - 1 = omega arith in ap (λ (j : ℕ). passed j 0 t) k

    own_is : own ≡ take (after (suc p) t) t
    own_is = (behind_parts b).0 ∙ ap (λ (j : ℕ). take j t) place

    rest_is : rest ≡ drop (after (suc p) t) t
    rest_is = (behind_parts b).1 ∙ ap (λ (j : ℕ). drop j t) place

    is_behind : (q : Piece) → piece_of (take room t) ≡ q → size_of t q ≡ after (suc p) t → (x : Part) → x ≡ part_of room t q → Again room t (x ∷ ps)
    is_behind q z size x e m h = go m h
      where
        go : (m : ℕ) → length t ≤ m → x ∷ ps ≡ dealt_of room m t
        go zero h = absurd (omega (arith, h, some))
        go (suc m) h =
            ap₂ (λ (y : Part) (qs : List Part). y ∷ qs) e
            (again m (omega (arith, h, behind_shorter b some)) ∙ ap (dealt_of room m) (rest_is ∙ ap (λ (j : ℕ). drop j t) (sym size)))
            ∙ sym (dealt_next room m t q some z)

    is_bad_lem : {e k column : ℕ} → k ≡ suc p → NotWhole (take room t) e k column → (e ≡ 19 → length t ≤ room) → Again room t (bad own e k column ∷ ps)
    is_bad_lem {e} {k} {column} n (NotWhole.dead l z) few =
        is_behind (Piece.Refused e k column) z (ap (λ (j : ℕ). after j t) n) (bad own e k column)
        (ap (λ (x : Bytes). bad x e k column) (own_is ∙ ap (λ (j : ℕ). take (after j t) t) (sym n)))
    is_bad_lem {e} {k} {column} n (NotWhole.open_yet z) few =
        let is : bad (take (after k t) t) 19 k 1 ≡ open_part room k t = rw (le-ltb room (length t) (few refl)) in
        is_behind (Piece.Short k) z (ap (λ (j : ℕ). after j t) n) (bad own 19 k 1)
        (ap (λ (x : Bytes). bad x 19 k 1) (own_is ∙ ap (λ (j : ℕ). take (after j t) t) (sym n)) ∙ is)

    is_long : {e k column : ℕ} → k ≡ suc p → e ≡ 19 → NotWhole (take room t) e k column → room < length t → Again room t (long own ∷ ps)
    is_long n q (NotWhole.dead l z) many = absurd (omega (arith, q, l))
    is_long {e} {k} {column} n q (NotWhole.open_yet z) many =
        let is : long (take (after k t) t) ≡ open_part room k t = rw (lt-ltb room (length t) many) in
        is_behind (Piece.Short k) z (ap (λ (j : ℕ). after j t) n) (long own)
        (ap long (own_is ∙ ap (λ (j : ℕ). take (after j t) t) (sym n)) ∙ is)

pub dealt_is : {room : ℕ} {t : Bytes} {ps : List Part} → Dealt room t ps → (m : ℕ) → length t ≤ m → ps ≡ dealt_of room m t
dealt_is {room = room} Dealt.none m h = sym (dealt_none room m)
dealt_is {room = room} {t = t} (Dealt.whole {own = own} {rest = rest} {x = x} {ps = ps} e g fits d) m h =
    is_good room t own rest ps (λ n f. dealt_is d n f) x e g fits m h
dealt_is {room = room} {t = t} (Dealt.dead {own = own} {rest = rest} {p = p} {ps = ps} some w few b d) m h =
    is_bad_lem room t own rest ps (λ n f. dealt_is d n f) p b some refl (not_whole_lem w) few m h
dealt_is {room = room} {t = t} (Dealt.endless {own = own} {rest = rest} {p = p} {ps = ps} many w b d) m h =
    is_long room t own rest ps (λ n f. dealt_is d n f) p b (omega (arith, many)) refl refl (not_whole_lem w) many m h

-- a text has one list of stretches at most
pub dealt_one : (room : ℕ) (t : Bytes) (ps qs : List Part) → Dealt room t ps → Dealt room t qs → ps ≡ qs
dealt_one room t ps qs a b = dealt_is a (length t) (omega arith) ∙ sym (dealt_is b (length t) (omega arith))

-- ---- and has one

abbrev Deals : ℕ → Bytes → Type 0
Deals room t = (ps : List Part) × Dealt room t ps

module _ (room m : ℕ) (t : Bytes) (some : 0 < length t) (few : length t ≤ suc m) (again : (u : Bytes) → length u ≤ m → Deals room u) where
  deals_whole : (n k : ℕ) → piece_of (take room t) ≡ Piece.Whole n k → Deals room t
  deals_whole n k z =
      let w = piece_room (take room t) n k z in
      let g = piece_good t n k (whole_there room t n k z) in
      let within : n ≤ length t = omega (arith, w.2, length-take room t) in
      let size : length (take n t) ≤ room = omega (arith, length-take-le n t within, w.2, length-take room t) in
      let d = again (drop n t) (omega (arith, few, w.0, w.1, within, length-drop n t)) in
      (good (take n t) ∷ d.0, Dealt.whole (sym (take-append-drop n t)) g.1 size d.1)

  deals_dead : (e k column : ℕ) → piece_of (take room t) ≡ Piece.Refused e k column → Deals room t
  deals_dead e k column z =
      let b = behind (k - 1) t in
      let d = again b.1 (omega (arith, few, behind_shorter b.2 some)) in
      let w = subst (λ (j : ℕ). NoRecord (take room t) e j column) (dead_line (take room t) e k column z) (no_dead (take room t) e k column z) in
      (bad b.0 e (suc (k - 1)) column ∷ d.0, Dealt.dead some w (λ q. absurd (omega (arith, q, dead_number (take room t) e k column z))) b.2 d.1)

  deals_open : (k : ℕ) → piece_of (take room t) ≡ Piece.Short k → Deals room t
  deals_open k z = go (ltb room (length t)) refl
    where
      w : NoRecord (take room t) 19 (suc (k - 1)) 1
      w = subst (λ (j : ℕ). NoRecord (take room t) 19 j 1) (open_line (take room t) k z) (no_open (take room t) k z)

      go : (x : Bool) → ltb room (length t) ≡ x → Deals room t
      go true e =
          let b = behind (k - 1) t in
          let d = again b.1 (omega (arith, few, behind_shorter b.2 some)) in
          (long b.0 ∷ d.0, Dealt.endless (ltb-true room (length t) e) w b.2 d.1)
      go false e =
          let b = behind (k - 1) t in
          let d = again b.1 (omega (arith, few, behind_shorter b.2 some)) in
          (bad b.0 19 (suc (k - 1)) 1 ∷ d.0, Dealt.dead some w (λ q. ltb-false room (length t) e) b.2 d.1)

  deals_next : Deals room t
  deals_next = go (piece_of (take room t)) refl
    where
      go : (q : Piece) → piece_of (take room t) ≡ q → Deals room t
      go (Piece.Whole n k) z = deals_whole n k z
      go (Piece.Refused e k column) z = deals_dead e k column z
      go (Piece.Short k) z = deals_open k z

deals_some : (room m : ℕ) (t : Bytes) → length t ≤ suc m → ((u : Bytes) → length u ≤ m → Deals room u) → Deals room t
deals_some room m [] h again = ([], Dealt.none)
deals_some room m (b ∷ t) h again = deals_next room m (b ∷ t) (omega arith) h again

deals_none : (room : ℕ) (t : Bytes) → length t ≤ 0 → Deals room t
deals_none room [] h = ([], Dealt.none)
deals_none room (b ∷ t) h = absurd (omega (arith, h))

deals_by : (room m : ℕ) (t : Bytes) → length t ≤ m → Deals room t
deals_by room zero t h = deals_none room t h
deals_by room (suc m) t h = deals_some room m t h (λ u f. deals_by room m u f)

pub deals : (room : ℕ) (t : Bytes) → (ps : List Part) × Dealt room t ps
deals room t = deals_by room (length t) t (omega arith)

-- ---- They make up the text

pub dealt_joined : {room : ℕ} {t : Bytes} {ps : List Part} → Dealt room t ps → t ≡ joined ps
unfolding joined
dealt_joined Dealt.none = refl
dealt_joined (Dealt.whole {own = own} e g fits d) = e ∙ ap (λ (x : Bytes). own ++ x) (dealt_joined d)
dealt_joined (Dealt.dead {own = own} some w few b d) = (behind_passed b).0 ∙ ap (λ (x : Bytes). own ++ x) (dealt_joined d)
dealt_joined (Dealt.endless {own = own} many w b d) = (behind_passed b).0 ∙ ap (λ (x : Bytes). own ++ x) (dealt_joined d)

-- ---- The first refusal is the one that judging alone gives, and there is none exactly where it accepts

pub dealt_says : {room : ℕ} {t : Bytes} {ps : List Part} → Dealt room t ps → (c i : ℕ) → says_from room c i 0 t ≡ first_told c i ps
unfolding first_told
dealt_says {room = room} Dealt.none c i = says_end room c i
dealt_says {room = room} {t = t} (Dealt.whole {own = own} {rest = rest} {x = x} {ps = ps} e g fits d) c i =
    let f = good_front room t own rest x e g fits in
    let size : length t ≡ length own + length rest = ap length e ∙ length-append own rest in
    let rest_is : drop (length own) t ≡ rest = ap (drop (length own)) e ∙ drop_at own rest (length own) refl in
    says_whole room c i t (omega (arith, size, f.1)) (length own) (length (cut own).lines) f.0
    ∙ ap (says_from room (c + 1) (i + length (cut own).lines) 0) rest_is
    ∙ dealt_says d (c + 1) (i + length (cut own).lines)
dealt_says {room = room} {t = t} (Dealt.dead {e = e} {p = p} {column = column} some w few b d) c i = go e (suc p) column refl (not_whole_lem w)
  where
    go : (n k l : ℕ) → n ≡ e → NotWhole (take room t) n k l → says_from room c i 0 t ≡ refused n (i + k) l
    go n k l q (NotWhole.dead m z) = says_refused room c i t some n k l z
    go n k l q (NotWhole.open_yet z) = says_short room c i t some k (few (sym q)) z
dealt_says {room = room} {t = t} (Dealt.endless {p = p} many w b d) c i = go 19 (suc p) 1 refl (not_whole_lem w)
  where
    go : (n k l : ℕ) → n ≡ 19 → NotWhole (take room t) n k l → says_from room c i 0 t ≡ too_long (c + 1)
    go n k l q (NotWhole.dead m z) = absurd (omega (arith, m, q))
    go n k l q (NotWhole.open_yet z) = says_long room c i t (omega (arith, many)) k many z

pub dealt_first : (room : ℕ) (t : Bytes) (ps : List Part) → Dealt room t ps → counter_says room t ≡ first_told 0 0 ps
unfolding counter_says
dealt_first room t ps d = dealt_says d 0 0
