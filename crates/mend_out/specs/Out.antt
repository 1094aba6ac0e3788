-- Where the walk stands after each deed, and what it leaves in the room and in the list.
use Rattle.std.specs.Prelude.{ℕ, suc, ◌+◌, ◌-◌, ◌*◌, ◌^◌, ◌≤◌, ◌<◌, ◌≡◌, refl, Bool, true, false, cond, length, get_or, take, drop}
use Rattle.std.proofs.Common.{arith, ◌∙◌, subst, length-set, length-drop, drop_of_length-le, drop-cons, length-take-le}
use Rattle.std.proofs.Math.Path.{sym, ap, ap₂}
use mathlib.Core.List.{List, [], ◌∷◌, ◌++◌, append-nil}
use Rattle.std.proofs.Math.ListN.{set}
use Rattle.std.proofs.lemmas.List.Edits.{sets}
use Rattle.std.proofs.Math.Seq.{set_out}
use Rattle.text.specs.Text.{Bytes, LF}
use Rattle.text.specs.Laws.{sets_append}
use Rattle.mend_rules.specs.Named.{line_end}
use Rattle.mend_rules.specs.Listed.{numbers}
use Rattle.mend_lines.specs.declared.Piece.{Piece}
use Rattle.mend_out.specs.declared.Mender.{Mender}

abbrev pub begun : Mender
begun = record { at = 0; line = 1; out = 0; out_line = 1; repairs = 0 }

abbrev pub noted_by : Mender → Mender
noted_by m = record { at = m.at; line = m.line; out = m.out; out_line = m.out_line; repairs = m.repairs + 1 }

abbrev pub laid_by : Mender → ℕ → Mender
laid_by m bytes = record { at = m.at; line = m.line; out = m.out + bytes; out_line = m.out_line + 1; repairs = m.repairs }

abbrev pub passed_by : Mender → ℕ → Mender
passed_by m next = record { at = next; line = m.line + 1; out = m.out; out_line = m.out_line; repairs = m.repairs }

abbrev pub dropped_by : Mender → ℕ → Mender
dropped_by m next = passed_by (noted_by m) next

abbrev pub put_by : Mender → Mender
put_by m = laid_by (noted_by m) 1

abbrev pub ended_by : Mender → ℕ → ℕ → Mender
ended_by m bytes next = passed_by (laid_by (noted_by m) (bytes + 1)) next

-- with its line end added, or as it came
abbrev pub kept_by : Mender → ℕ → ℕ → Bool → Mender
kept_by m bytes next true = ended_by m bytes next
kept_by m bytes next false = passed_by (laid_by m bytes) next

-- ---- Numbers that fit

pub record CanNote (m : Mender) : Type 0 where
  pub repairs : 2 * m.repairs + 1 < 2 ^ 64

pub record CanPut (m : Mender) : Type 0 where
  pub notes : CanNote m
  pub out : m.out + 1 < 2 ^ 64
  pub line : m.out_line + 1 < 2 ^ 64

-- so many bytes, and the line end if it is added
pub record CanKeep (m : Mender) (bytes late : ℕ) : Type 0 where
  pub notes : late ≡ 1 → CanNote m
  pub out : m.out + (bytes + late) < 2 ^ 64
  pub line : m.out_line + 1 < 2 ^ 64
  pub came : m.line + 1 < 2 ^ 64

abbrev pub late : Bool → ℕ
late missing = cond missing 1 0

abbrev pub line_feed : Bool → Bytes
line_feed missing = cond missing (LF ∷ []) []

-- the line from `at` to `next`: the walk after it, the room and the list
pub record Kept (s : Bytes) (m : Mender) (p : Piece) (room list : List ℕ) (r : Mender) (room' list' : List ℕ) : Type 0 where
  pub walk : r ≡ kept_by m (p.next - m.at) p.next p.missing
  pub text : room' ≡ sets room m.out (take (p.next - m.at) (drop m.at s) ++ line_feed p.missing)
  pub listed : list' ≡ sets list (2 * m.repairs) (numbers (line_end m.line p.missing))

-- ---- Stores

pub stored_past : (t : List ℕ) (i b : ℕ) → length t ≤ i → t ≡ set t i b
stored_past t i b h = sym (set_out t i b h)

pub record Laying (was : List ℕ) (at : ℕ) (bytes : Bytes) (room : List ℕ) (k : ℕ) : Type 0 where
  pub same : sets was at bytes ≡ sets room (at + k) (drop k bytes)
  pub room_same : length room ≡ length was

module _ (was : List ℕ) (at : ℕ) (bytes : Bytes) where
  pub lay_start : Laying was at bytes was 0
  lay_start = let e : at ≡ at + 0 = omega arith in record { same = ap (λ (i : ℕ). sets was i bytes) e; room_same = refl }

  module _ (room : List ℕ) (k : ℕ) (g : Laying was at bytes room k) where
    pub lay_next : (room' : List ℕ) → k < length bytes → room' ≡ set room (at + k) (get_or bytes k 0) → Laying was at bytes room' (k + 1)
    lay_next room' h e =
        let a : suc (at + k) ≡ at + (k + 1) = omega arith in
        let b : suc k ≡ k + 1 = omega arith in
        record {
          same =
              g.same
              ∙ ap (sets room (at + k)) (drop-cons bytes k 0 h)
              ∙ ap (λ (r : List ℕ). sets r (suc (at + k)) (drop (suc k) bytes)) (sym e)
              ∙ ap₂ (λ (i j : ℕ). sets room' i (drop j bytes)) a b;
          room_same = ap length e ∙ length-set room (at + k) (get_or bytes k 0) ∙ g.room_same;
        }

    pub lay_end : length bytes ≤ k → room ≡ sets was at bytes
    lay_end h = sym (g.same ∙ ap (sets room (at + k)) (drop_of_length-le bytes {i = k} h))

    pub lay_room : length room ≡ length was
    lay_room = g.room_same

pub lay_fits : (at k : ℕ) (bytes : Bytes) → k < length bytes → at + length bytes < 2 ^ 64 → at + k < 2 ^ 64
lay_fits at k bytes h f = omega arith

pub ruleset lay_laws = (lay_start, lay_next, lay_end, lay_room, lay_fits)

-- ---- A repair

pub stored_two : (t t₁ t₂ : List ℕ) (k a b : ℕ) → t₁ ≡ set t k a → t₂ ≡ set t₁ (k + 1) b → t₂ ≡ sets t k (a ∷ (b ∷ []))
stored_two t t₁ t₂ k a b e f =
    let n : k + 1 ≡ suc k = omega arith in
    f ∙ ap₂ (λ (x : List ℕ) (i : ℕ). set x i b) e n

module _ (m n : Mender) (e : n ≡ noted_by m) where
  pub noted_line : m.line + 1 < 2 ^ 64 → n.line + 1 < 2 ^ 64
  noted_line h = rw e h

  pub noted_dropped : (next : ℕ) (r : Mender) → r ≡ passed_by n next → r ≡ dropped_by m next
  noted_dropped next r h = h ∙ ap (λ (x : Mender). passed_by x next) e

  pub noted_out : (bytes : ℕ) → m.out + bytes < 2 ^ 64 → n.out + bytes < 2 ^ 64
  noted_out bytes h = rw e h

  pub noted_out_line : m.out_line + 1 < 2 ^ 64 → n.out_line + 1 < 2 ^ 64
  noted_out_line h = rw e h

  pub noted_put : (r : Mender) → r ≡ laid_by n 1 → r ≡ put_by m
  noted_put r h = h ∙ ap (λ (x : Mender). laid_by x 1) e

  pub noted_ended : (bytes next : ℕ) (l r : Mender) → l ≡ laid_by n (bytes + 1) → r ≡ passed_by l next → r ≡ ended_by m bytes next
  noted_ended bytes next l r h k = k ∙ ap (λ (x : Mender). passed_by x next) (h ∙ ap (λ (x : Mender). laid_by x (bytes + 1)) e)

  pub ended_line : (bytes : ℕ) (l : Mender) → l ≡ laid_by n (bytes + 1) → m.line + 1 < 2 ^ 64 → l.line + 1 < 2 ^ 64
  ended_line bytes l h f = rw (h, e) f

pub can_end : (m : Mender) (bytes : ℕ) → CanKeep m bytes 1 → CanNote m
can_end m bytes g = g.notes refl

pub ruleset out_laws = (stored_two, noted_line, noted_dropped, noted_out, noted_out_line, noted_put, noted_ended, ended_line, can_end)

-- ---- A line that is kept

pub keep_late : (m : Mender) (k : ℕ) (missing : Bool) → missing ≡ true → CanKeep m k (late missing) → CanKeep m k 1
keep_late m k missing h g = subst (λ (b : Bool). CanKeep m k (late b)) h g

module _ (s : Bytes) (m : Mender) (p : Piece) (room list room₁ : List ℕ) (inside : m.at ≤ p.next) (within : p.next ≤ length s)
    (laid : room₁ ≡ sets room m.out (take (p.next - m.at) (drop m.at s))) where
  line_size : length (take (p.next - m.at) (drop m.at s)) ≡ p.next - m.at
  line_size = length-take-le (p.next - m.at) (drop m.at s) (omega (arith, length-drop m.at s))

  pub kept_late : p.missing ≡ true → (r : Mender) (room' list' : List ℕ) → r ≡ ended_by m (p.next - m.at) p.next → room' ≡ set room₁ (m.out + (p.next - m.at)) LF →
      list' ≡ sets list (2 * m.repairs) (m.line ∷ (3 ∷ [])) → Kept s m p room list r room' list'
  unfolding numbers
  kept_late h r room' list' e f q =
      record {
        walk = rw h e;
        text =
            rw h
            (f
            ∙ ap₂ (λ (x : List ℕ) (i : ℕ). set x (m.out + i) LF) laid (sym line_size)
            ∙ sym (sets_append (take (p.next - m.at) (drop m.at s)) (LF ∷ []) room m.out));
        listed = rw h q;
      }

  pub kept_ended : p.missing ≡ false → (l r : Mender) → l ≡ laid_by m (p.next - m.at) → r ≡ passed_by l p.next → Kept s m p room list r room₁ list
  unfolding numbers
  kept_ended h l r e f =
      record {
        walk = rw h (f ∙ ap (λ (x : Mender). passed_by x p.next) e);
        text = rw h (laid ∙ ap (sets room m.out) (sym (append-nil (take (p.next - m.at) (drop m.at s)))));
        listed = rw h refl;
      }

pub laid_line : (m l : Mender) (bytes : ℕ) → l ≡ laid_by m bytes → m.line + 1 < 2 ^ 64 → l.line + 1 < 2 ^ 64
laid_line m l bytes e h = rw e h

-- without a line end to add
pub keep_out : (m : Mender) (bytes : ℕ) (missing : Bool) → CanKeep m bytes (late missing) → m.out + bytes < 2 ^ 64
keep_out m bytes true g = omega (arith, g.out)
keep_out m bytes false g = omega (arith, g.out)

pub ruleset keep_laws = (keep_late, kept_late, kept_ended, laid_line, keep_out)
