-- A fetch keeps its promise, and any two answers that keep it are equal.
use Rattle.std.specs.Prelude.{ℕ, ◌+◌, ◌≡◌, refl, List, [], length}
use Rattle.std.proofs.Common.{arith, sym, ◌∙◌, length-append}
use Rattle.std.proofs.Math.Path.{ap}
use Rattle.text.specs.Text.{Bytes, Line, Lines}
use Rattle.text.specs.Cut.{Cut, cut, lines_cut}
use Rattle.rules.specs.Record.{Raw, Record, limit}
use Rattle.judge_file.specs.Front.{record_front}
use Rattle.judge_file.specs.One.{One, one_record}
use Rattle.judge_file.proofs.OneAgree.{one_whole}
use Rattle.reader_walk.specs.Outcome.{whole}
use Rattle.reader_item.specs.Find.{Said, item, refused, stretch_of, part_of}
use Rattle.reader_item.specs.Promise.{ItemIn, Fetched, Address, Handed}

-- ---- What a fetch finds in a text

-- a record has so many lines
record_whole : {ls more : List Line} {x : Raw} → Record limit ls x more → (k : ℕ) × (one_record limit ls ≡ One.whole x k more)
record_whole {ls = ls} {more = more} {x = x} r =
    let f = record_front r in
    (length f.before, (one_whole limit ls x (length f.before) more).1 (r, omega (arith, ap length f.parts, length-append f.before more)))

pub not_refused : {X : Type 0} {ls more : List Line} {x : Raw} {e i c : ℕ} → Record limit ls x more → one_record limit ls ≡ One.refused e i c → X
not_refused r h = absurd (let w = (record_whole r).1 in let z : ◌≡◌ {A = ℕ} 0 1 = cc in omega arith)

pub the_record : {name : Bytes} {ls v vs : List Line} (it : ItemIn name ls v vs) → Record limit ls (record { molecule = it.x.molecule; items = it.x.items }) it.after_record
the_record it = Record.record_of it.molecule it.items

module _ (s name : Bytes) where
  -- ---- An item that is there is found

  pub is_cut : {ls : List Line} {rest : Bytes} → Lines s ls rest → ls ≡ (cut s).lines
  is_cut h = ap (λ (c : Cut). c.lines) (sym (lines_cut h))

-- one answer for every text and name
pub fetched_one : (s name : Bytes) (r r' : Said) → Fetched s name r → Fetched s name r' → r ≡ r'
fetched_one s name (item a b) r' f g = sym ((g.finds a b).1 ((f.finds a b).0 refl))
fetched_one s name (refused e i c) r' f g = sym ((g.refuses e i c).1 ((f.refuses e i c).0 refl))

-- ---- The functions keep it

-- for every text and name one part is handed back, at one place
pub handed_one : {p : Address} {s name : Bytes} {q q' : Address} {bs bs' : Bytes} → Handed p s name q bs → Handed p s name q' bs' → (q ≡ q') × (bs ≡ bs')
handed_one {p = p} {s = s} {name = name} h g =
    let same = fetched_one s name h.said g.said h.promised.fetched g.promised.fetched in (
      h.stands ∙ ap (λ (x : Said). (p.0, (stretch_of x).from + p.1)) same ∙ sym g.stands,
      h.part ∙ ap (λ (x : Said). part_of x s) same ∙ sym g.part,
    )
