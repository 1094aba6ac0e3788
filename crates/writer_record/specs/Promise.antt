-- What a writer promises, in the words of the rules: when it writes, what then stands in the room, what that text stands for, and what each refusal means.
use Rattle.std.specs.Prelude.{Result, Ok, Err, ℕ, ◌≤◌, ◌<◌, ◌≡◌, ◌↔◌, Bool, length, drop}
use Rattle.std.proofs.Common.{arith, ◌∙◌}
use Rattle.std.proofs.Math.Path.{refl, sym, ap, subst}
use Rattle.std.proofs.Math.Bool.{true, false, false≢true}
use mathlib.Core.List.{List, [], ◌∷◌, ◌++◌, map, append-nil}
use Rattle.std.proofs.Math.Dec.{leb}
use borrow.Author.Tests.{leb-true, leb-false, le-leb, lt-leb}
use Rattle.text.specs.Text.{Bytes, Line, Lines}
use Rattle.text.specs.Written.{text}
use Rattle.text.specs.Laws.{false_true}
use Rattle.rules.specs.Record.{Headers, Item, Raw, GoodSDfile, limit}
use Rattle.rules.specs.Meaning.{Reading, meaning}
use Rattle.rules.specs.Write.{file_lines}
use Rattle.rules.specs.Canon.{HeaderPart, ItemPart, Writable, Good, AllGood, canon_lines, canon_file}
use Rattle.rules.proofs.CanonGood.{canon_text_lem, canon_only}
use Rattle.rules.specs.Handed.{header_part_good}
use Rattle.rules.proofs.Handed.{item_part_good}
use Rattle.writer_lines.specs.Laid.{Laid}
use Rattle.judge_file.specs.Verdict.{Verdict, accepted, refused}
use Rattle.judge_file.specs.SameVerdict.{accepted_refused, same_accepted}
use Rattle.judge_parts.specs.Part.{headers_verdict, items_verdict}
use Rattle.judge_parts.specs.AnyPart.{PartRefusal}
use Rattle.judge_parts.specs.PartBecause.{HeaderBecause, ItemBecause}
use Rattle.judge_parts.specs.PartAgree.{AHeaderPart, AnItemPart, good_headers, refused_headers}
use Rattle.judge_parts.proofs.PartAgree.{good_items, refused_items}
use Rattle.writer_tables.specs.Tables.{writable_tables}
use Rattle.writer_record.specs.Write.{Given, Roomy, handed, canon_text, demand, and_then, roomy, record_for, text_for, write_of, room_after}
use Rattle.writer_record.specs.Write as W
use Rattle.writer_record.specs.Measure.{roomy_agrees, tables_agree, refused_done, record_text, Ready, ready, done_answer, done_room, refused_room}
use Rattle.judge_file.specs.declared.TextRefusal.{TextRefusal}

-- ---- In the words of the rules

-- the lines of these bytes are three header lines
abbrev pub HeadersIn : Bytes → Headers → Type 0
HeadersIn s h = (ls : List Line) × Lines s ls [] × HeaderPart ls h

-- the lines of these bytes are whole items
abbrev pub ItemsIn : Bytes → List Item → Type 0
ItemsIn s is = (ls : List Line) × Lines s ls [] × ItemPart ls is

-- the tables can be written, whatever stands beside them
abbrev pub Tables : Given → Type 0
Tables g = (h : Headers) (is : List Item) → Writable limit (handed g h is)

-- what is handed in is this reading, and it can be written
pub record Accepted (g : Given) (x : Reading) : Type 0 where
  pub roomy : Roomy g
  pub tables : x ≡ handed g x.headers x.items
  pub writable : Writable limit x
  pub headers : HeadersIn g.headers x.headers
  pub items : ItemsIn g.items x.items

-- what is wrong, in room of k bytes: the first of these, in this order
pub data Refusal (g : Given) (k : ℕ) : ℕ → ℕ → ℕ → Type 0 where
  tables : ¬ Roomy g → Refusal g k 2 0 0
  writable : Roomy g → ((h : Headers) (is : List Item) → ¬ Writable limit (handed g h is)) → Refusal g k 21 0 0
  headers : {e line column : ℕ} → Roomy g → Tables g → PartRefusal AHeaderPart HeaderBecause g.headers e line column → Refusal g k e line column
  items : {e line column : ℕ} {h : Headers} → Roomy g → Tables g → HeadersIn g.headers h → PartRefusal AnItemPart ItemBecause g.items e line column →
      Refusal g k e line column
  room : {x : Reading} → Accepted g x → k < length (canon_text x) → Refusal g k 20 0 0

-- what an answer says: the length of the text, or the number, line and column of a refusal
abbrev pub numbers_of : Result ℕ TextRefusal → Verdict ℕ
numbers_of (Ok l) = accepted l
numbers_of (Err r) = refused r.no r.line r.column

-- room r₀ was lent, a is the answer, and the room is then r
pub record Promise (g : Given) (r₀ : Bytes) (a : Result ℕ TextRefusal) (r : Bytes) : Type 0 where
  pub answer : a ≡ write_of g (length r₀)
  pub room : r ≡ room_after g r₀
  pub accepted : (l : ℕ) → (numbers_of a ≡ Verdict.accepted l) ↔ ((x : Reading) × Accepted g x × (l ≡ length (canon_text x)) × (l ≤ length r₀))
  pub written : (x : Reading) → Accepted g x → length (canon_text x) ≤ length r₀ → r ≡ canon_text x ++ drop (length (canon_text x)) r₀
  pub refused : (e line column : ℕ) → numbers_of a ≡ Verdict.refused e line column → (r ≡ r₀) × Refusal g (length r₀) e line column
  pub refuses : (e line column : ℕ) → Refusal g (length r₀) e line column → numbers_of a ≡ Verdict.refused e line column

-- no two answers and no two rooms
pub one_promise : {g : Given} {r₀ r s : Bytes} {a b : Result ℕ TextRefusal} → Promise g r₀ a r → Promise g r₀ b s → (a ≡ b) × (r ≡ s)
one_promise p q = (p.answer ∙ sym q.answer, p.room ∙ sym q.room)

-- ---- What is written stands for what was handed in, and for nothing else

module _ (g : Given) (x : Reading) (a : Accepted g x) where
  all_good : AllGood limit (x ∷ [])
  unfolding AllGood
  all_good = (record { writable = a.writable; headers = header_part_good a.headers.2; items = item_part_good a.items.2 }, tt)

  one_text : canon_file (x ∷ []) ≡ canon_lines x
  unfolding file_lines
  one_text = append-nil (canon_lines x)

  pub text_stands : (rs : List Raw) × GoodSDfile (canon_text x) rs × (map meaning rs ≡ x ∷ [])
  text_stands =
      let f = canon_text_lem (x ∷ []) all_good in
      (f.0, subst (λ (ls : List Line). GoodSDfile (text ls) f.0) one_text f.1, f.2)

  pub text_only : (rs : List Raw) → GoodSDfile (canon_text x) rs → map meaning rs ≡ x ∷ []
  text_only rs h = canon_only (x ∷ []) rs all_good (subst (λ (ls : List Line). GoodSDfile (text ls) rs) (sym one_text) h)

-- ---- The definitions keep the promise

module _ (g : Given) where
  abbrev holds : Bool
  holds = writable_tables g.n g.m g.chiral g.atoms g.bonds

  abbrev judged_by : Bool → Bool → Verdict Headers → Verdict (List Item) → Verdict Reading
  judged_by t u v w = demand t 2 (demand u 21 (and_then v λ h. and_then w λ is. accepted (handed g h is)))

  pub record_agrees : (x : Reading) → (record_for g ≡ accepted x) ↔ Accepted g x
  unfolding record_for
  record_agrees x = ((λ e. go (roomy g.atoms g.bonds) refl holds refl (headers_verdict g.headers) refl (items_verdict g.items) refl e), back)
    where
      go : (t : Bool) → roomy g.atoms g.bonds ≡ t → (u : Bool) → holds ≡ u → (v : Verdict Headers) → headers_verdict g.headers ≡ v →
          (w : Verdict (List Item)) → items_verdict g.items ≡ w → judged_by t u v w ≡ accepted x → Accepted g x
      go false a u b v p w q e = accepted_refused (sym e)
      go true a false b v p w q e = accepted_refused (sym e)
      go true a true b (refused n line column) p w q e = accepted_refused (sym e)
      go true a true b (accepted h) p (refused n line column) q e = accepted_refused (sym e)
      go true a true b (accepted h) p (accepted is) q e =
          let r = (roomy_agrees g).0 a in
          subst (Accepted g) (same_accepted e)
          (record {
            roomy = r;
            tables = refl;
            writable = (tables_agree g h is r).0 b;
            headers = (good_headers g.headers h).0 p;
            items = (good_items g.items is).0 q;
          })

      back : Accepted g x → record_for g ≡ accepted x
      back a =
          let w = (tables_agree g x.headers x.items a.roomy).1 (subst (Writable limit) a.tables a.writable) in
          let p = (good_headers g.headers x.headers).1 a.headers in
          let q = (good_items g.items x.items).1 a.items in
          let s : judged_by true true (accepted x.headers) (accepted x.items) ≡ accepted x = ap accepted (sym a.tables) in
          rw ((roomy_agrees g).1 a.roomy, w, p, q) s

  pub accepted_one : (x y : Reading) → Accepted g x → Accepted g y → x ≡ y
  accepted_one x y a b = same_accepted (sym ((record_agrees x).1 a) ∙ (record_agrees y).1 b)

  module _ (k : ℕ) where
    -- ---- Texts

    record Stood (bs : Bytes) : Type 0 where
      x : Reading
      accepted : Accepted g x
      same : bs ≡ canon_text x
      fits : length (canon_text x) ≤ k

    stood : (bs : Bytes) → text_for g k ≡ accepted bs → Stood bs
    unfolding text_for
    stood bs h = go (record_for g) refl h
      where
        fit : (x : Reading) → record_for g ≡ accepted x → (t : Bool) → leb (length (canon_text x)) k ≡ t → demand t 20 (accepted (canon_text x)) ≡ accepted bs → Stood bs
        fit x e true t q = record { x = x; accepted = (record_agrees x).0 e; same = sym (same_accepted q); fits = leb-true (length (canon_text x)) k t }
        fit x e false t q = accepted_refused (sym q)

        go : (v : Verdict Reading) → record_for g ≡ v → and_then v (λ x. demand (leb (length (canon_text x)) k) 20 (accepted (canon_text x))) ≡ accepted bs → Stood bs
        go (accepted x) e q = fit x e (leb (length (canon_text x)) k) refl q
        go (refused n line column) e q = accepted_refused (sym q)

    text_of : (x : Reading) → Accepted g x → length (canon_text x) ≤ k → text_for g k ≡ accepted (canon_text x)
    unfolding text_for
    text_of x a h = rw ((record_agrees x).1 a, le-leb (length (canon_text x)) k h)

    -- ---- Refusals

    abbrev Told : {A : Type 0} → Verdict A → Type 0
    Told (accepted a) = Unit {0}
    Told (refused e line column) = Refusal g k e line column

    told_record : Told (record_for g)
    unfolding record_for
    told_record = go (roomy g.atoms g.bonds) refl holds refl (headers_verdict g.headers) refl (items_verdict g.items) refl
      where
        go : (t : Bool) → roomy g.atoms g.bonds ≡ t → (u : Bool) → holds ≡ u → (v : Verdict Headers) → headers_verdict g.headers ≡ v →
            (w : Verdict (List Item)) → items_verdict g.items ≡ w → Told (judged_by t u v w)
        go false a u b v p w q = Refusal.tables (λ r. false≢true (sym a ∙ (roomy_agrees g).1 r))
        go true a false b v p w q = let r = (roomy_agrees g).0 a in Refusal.writable r (λ h is x. false≢true (sym b ∙ (tables_agree g h is r).1 x))
        go true a true b (refused e line column) p w q =
            let r = (roomy_agrees g).0 a in
            Refusal.headers r (λ h is. (tables_agree g h is r).0 b) ((refused_headers g.headers e line column).0 p)
        go true a true b (accepted h) p (refused e line column) q =
            let r = (roomy_agrees g).0 a in
            Refusal.items r (λ h is. (tables_agree g h is r).0 b) ((good_headers g.headers h).0 p) ((refused_items g.items e line column).0 q)
        go true a true b (accepted h) p (accepted is) q = tt

    told_text : Told (text_for g k)
    unfolding text_for
    told_text = go (record_for g) refl told_record
      where
        fit : (x : Reading) → record_for g ≡ accepted x → (t : Bool) → leb (length (canon_text x)) k ≡ t → Told (demand t 20 (accepted (canon_text x)))
        fit x e true t = tt
        fit x e false t = Refusal.room ((record_agrees x).0 e) (leb-false (length (canon_text x)) k t)

        go : (v : Verdict Reading) → record_for g ≡ v → Told v → Told (and_then v (λ x. demand (leb (length (canon_text x)) k) 20 (accepted (canon_text x))))
        go (accepted x) e t = fit x e (leb (length (canon_text x)) k) refl
        go (refused n line column) e t = t

    -- what is wrong is what is answered
    refused_so : {e line column : ℕ} → record_for g ≡ refused e line column → write_of g k ≡ Err (record { no = e; line = line; column = column })
    unfolding write_of text_for
    refused_so h = rw h

    nameless : Headers
    nameless = record { first = []; second = []; third = [] }

    tables_hold_lem : Roomy g → Tables g → holds ≡ true
    tables_hold_lem r t = (tables_agree g nameless [] r).1 (t nameless [])

    not_roomy : ¬ Roomy g → roomy g.atoms g.bonds ≡ false
    not_roomy n = go (roomy g.atoms g.bonds) refl
      where
        go : (t : Bool) → roomy g.atoms g.bonds ≡ t → t ≡ false
        go true e = absurd (n ((roomy_agrees g).0 e))
        go false e = refl

    no_room : (x : Reading) → Accepted g x → k < length (canon_text x) → write_of g k ≡ Err (record { no = 20; line = 0; column = 0 })
    unfolding write_of text_for
    no_room x a s = rw ((record_agrees x).1 a, lt-leb (length (canon_text x)) k s)

    pub refusal_answer : {e line column : ℕ} → Refusal g k e line column → write_of g k ≡ Err (record { no = e; line = line; column = column })
    unfolding record_for
    refusal_answer (Refusal.tables n) = refused_so (rw (not_roomy n))
    refusal_answer (Refusal.writable r n) = refused_so (rw ((roomy_agrees g).1 r, not_held holds refl))
      where
        not_held : (t : Bool) → holds ≡ t → t ≡ false
        not_held true e = absurd (n nameless [] ((tables_agree g nameless [] r).0 e))
        not_held false e = refl
    refusal_answer (Refusal.headers {e = e} {line = line} {column = column} r t p) =
        refused_so (rw ((roomy_agrees g).1 r, tables_hold_lem r t, (refused_headers g.headers e line column).1 p))
    refusal_answer (Refusal.items {e = e} {line = line} {column = column} {h = h} r t f p) =
        refused_so (rw ((roomy_agrees g).1 r, tables_hold_lem r t, (good_headers g.headers h).1 f, (refused_items g.items e line column).1 p))
    refusal_answer (Refusal.room {x = x} a s) = no_room x a s

    -- there is one refusal at most
    pub refusal_one : {e i c e' i' c' : ℕ} → Refusal g k e i c → Refusal g k e' i' c' → (e ≡ e') × (i ≡ i') × (c ≡ c')
    refusal_one {e} {i} {c} {e'} {i'} {c'} p q =
        let z : ◌≡◌ {A = Result ℕ TextRefusal} (Err (record { no = e; line = i; column = c })) (Err (record { no = e'; line = i'; column = c' })) = sym (refusal_answer p) ∙ refusal_answer q in
        let w : ◌≡◌ {A = TextRefusal} (record { no = e; line = i; column = c }) (record { no = e'; line = i'; column = c' }) = cc in
        (ap (λ (r : TextRefusal). r.no) w, ap (λ (r : TextRefusal). r.line) w, ap (λ (r : TextRefusal). r.column) w)

-- ---- The promise

-- the numbers tell the answer
abbrev back_of : Verdict ℕ → Result ℕ TextRefusal
back_of (accepted l) = Ok l
back_of (refused e line column) = Err (record { no = e; line = line; column = column })

pub same_written : (a b : Result ℕ TextRefusal) → numbers_of a ≡ numbers_of b → a ≡ b
same_written a b h = sym (back a) ∙ ap back_of h ∙ back b
  where
    back : (x : Result ℕ TextRefusal) → back_of (numbers_of x) ≡ x
    back (Ok l) = refl
    back (Err r) = refl

module _ (g : Given) (r₀ : Bytes) where
  done_by : (l : ℕ) → (v : Verdict Bytes) → text_for g (length r₀) ≡ v → W.answer v ≡ Ok l →
      (x : Reading) × Accepted g x × (l ≡ length (canon_text x)) × (l ≤ length r₀)
  done_by l (accepted bs) e h =
      let s = stood g (length r₀) bs e in
      let n : length bs ≡ l = cc in
      let same : l ≡ length (canon_text s.x) = sym n ∙ ap length s.same in
      (s.x, s.accepted, same, omega (arith, s.fits, same))
  done_by l (refused n line column) e h = refused_done h

  refused_by : (r : TextRefusal) → (v : Verdict Bytes) → Told g (length r₀) v → W.answer v ≡ Err r →
      (W.room r₀ v ≡ r₀) × Refusal g (length r₀) r.no r.line r.column
  refused_by r (accepted bs) t h = refused_done (sym h)
  refused_by r (refused e i c) t h =
      let a : e ≡ r.no = cc in
      let b : i ≡ r.line = cc in
      let d : c ≡ r.column = cc in
      (refl, subst (λ (z : ℕ). Refusal g (length r₀) r.no r.line z) d (subst (λ (z : ℕ). Refusal g (length r₀) r.no z c) b (subst (λ (z : ℕ). Refusal g (length r₀) z i c) a t)))

  pub promise : (a : Result ℕ TextRefusal) (r : Bytes) → a ≡ write_of g (length r₀) → r ≡ room_after g r₀ → Promise g r₀ a r
  unfolding write_of room_after
  promise a r e f =
      record {
        answer = e;
        room = f;
        accepted = λ l. (
          (λ h. done_by l (text_for g (length r₀)) refl (sym e ∙ same_written a (Ok l) h)),
          (λ x. ap numbers_of (e ∙ ap W.answer (text_of g (length r₀) x.0 x.1 (omega (arith, x.2, x.3))) ∙ ap Ok (sym x.2))),
        );
        written = λ x b h. f ∙ ap (W.room r₀) (text_of g (length r₀) x b h);
        refused = λ n line column h.
            let k = refused_by (record { no = n; line = line; column = column }) (text_for g (length r₀)) (told_text g (length r₀)) (sym e ∙ same_written a (Err (record { no = n; line = line; column = column })) h) in
            (f ∙ k.0, k.1);
        refuses = λ n line column h. ap numbers_of (e ∙ refusal_answer g (length r₀) h);
      }

  -- as the code comes to its two ends: j is what the tests found
  pub promise_done : (j : Result ℕ TextRefusal) (l : ℕ) (r : Bytes) (e : ℕ) → j ≡ write_of g (length r₀) → j ≡ Ok l → Laid r₀ r 0 (record_text g) e → Promise g r₀ (Ok e) r
  promise_done j l r e q h p = let y = ready g (length r₀) l (sym q ∙ h) in promise (Ok e) r (done_answer g r₀ r e y p) (done_room g r₀ r e y p)

  pub promise_refused : (j : Result ℕ TextRefusal) (r : TextRefusal) → j ≡ write_of g (length r₀) → j ≡ Err r → Promise g r₀ (Err r) r₀
  promise_refused j r q h = promise (Err r) r₀ (sym h ∙ q) (refused_room g r₀ r (sym q ∙ h))

-- ---- What is known to be good is laid without being judged

module _ (g : Given) (x : Reading) (a : Accepted g x) where
  accepted_done : (k : ℕ) → length (canon_text x) ≤ k → write_of g k ≡ Ok (length (canon_text x))
  unfolding write_of
  accepted_done k h = ap W.answer (text_of g k x a h)

  pub accepted_ready : (k : ℕ) → length (canon_text x) ≤ k → Ready g k
  accepted_ready k h = ready g k (length (canon_text x)) (accepted_done k h)

  pub accepted_laid : (r₀ r : Bytes) (e : ℕ) → length (canon_text x) ≤ length r₀ → Laid r₀ r 0 (record_text g) e → Promise g r₀ (Ok e) r
  accepted_laid r₀ r e h p = promise_done g r₀ (write_of g (length r₀)) (length (canon_text x)) r e refl (accepted_done (length r₀) h) p
