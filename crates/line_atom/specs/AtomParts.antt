-- An atom line goes on after its place and its codes.
use Rattle.std.specs.Prelude.{Result, Ok, Err, Option, Some, None, ℕ, ◌≡◌, refl, Bool, true, false}
use Rattle.std.proofs.Common.{arith, sym, ap, ◌∙◌, SFits, to_z, of_z}
use Rattle.std.specs.Int.{w32}
use Rattle.text.specs.Text.{Line}
use Rattle.rules.specs.Forms as R
use Rattle.judge_line.specs.Got.{Got, got, bad, then, need}
use Rattle.judge_line.specs.Field.{space_at, none_found, spaces_from}
use Rattle.judge_line.specs.Judge.{atom_of}
use Rattle.line_fields.specs.Steps.{hop}
use Rattle.line_atom.specs.Answer.{position_got, place_got, codes_got, position_of, place_of, codes_of, atom_from, exact_of}
use Rattle.field_coordinates.specs.Read.{coordinate_in}
use Rattle.judge_line.specs.Field.{coordinate_at}
use Rattle.judge_line.specs.GotLaws.{then_then, need_then}
use Rattle.line_usual_position.specs.declared.Position.{Position}
use Rattle.line_usual_position.specs.Usual.{Said}
use Rattle.judge_line.specs.declared.Refusal.{Refusal}
use Rattle.line_atom.specs.declared.AtomPlace.{AtomPlace}
use Rattle.line_atom.specs.declared.AtomCodes.{AtomCodes}

none_then : {A B : Type 0} (e : ℕ) (found : Option ℕ) (x : Got A) (g : A → Got B) → then (none_found e found x) g ≡ none_found e found (then x g)
unfolding then
none_then e (Some i) x g = refl
none_then e None x g = refl

pub atom_parts : (n : ℕ) (l : Line) → then (place_of l) (λ p. then (codes_of l) (λ c. atom_from n p c l)) ≡ atom_of n l
unfolding atom_of position_of place_of codes_of atom_from exact_of space_at spaces_from then
atom_parts n l = simp (then_then, need_then, none_then)

module _ (n : ℕ) (l : Line) (x : Result AtomPlace Refusal) where
  pub place_stop : (r : Refusal) → place_got x ≡ place_of l → x ≡ Err r → bad r.no r.column ≡ atom_of n l
  unfolding then
  place_stop r q h = rw (← atom_parts n l, ← q, h)

  pub codes_stop : (p : AtomPlace) (y : Result AtomCodes Refusal) (f : Refusal) → place_got x ≡ place_of l → x ≡ Ok p → codes_got y ≡ codes_of l → y ≡ Err f → bad f.no f.column ≡ atom_of n l
  unfolding then
  codes_stop p y f q h r k = rw (← atom_parts n l, ← q, h, ← r, k)

  pub atom_on : (p : AtomPlace) (y : Result AtomCodes Refusal) (c : AtomCodes) (g : Got R.Atom) → place_got x ≡ place_of l → x ≡ Ok p → codes_got y ≡ codes_of l → y ≡ Ok c → g ≡ atom_from n p c l → g ≡ atom_of n l
  unfolding then
  atom_on p y c g q h r k s = rw (← atom_parts n l, ← q, h, ← r, k) s

pub ruleset atom_steps = (place_stop, codes_stop, atom_on)

-- ---- columns 1 to 30

pub position_usual : (l : Line) (u : Option Position) (p : Position) → Said l u → u ≡ Some p → got p ≡ position_of l
unfolding position_of coordinate_at then
position_usual l (Some q) p s e = let z : q ≡ p = cc in sym (rw (s.0, s.1, s.2) (ap got z))
position_usual l None p s e = absurd (let z : ◌≡◌ {A = ℕ} 0 1 = cc in omega arith)

module _ {A : Type 0} (a : Got Position) (f : Position → Got A) (x : Result Position Refusal) where
  pub position_next : (g : Got A) (p : Position) → position_got x ≡ a → x ≡ Ok p → g ≡ f p → g ≡ then a f
  unfolding then
  position_next g p e h s = rw (← e, h) s

  pub position_stop : (r : Refusal) → position_got x ≡ a → x ≡ Err r → bad r.no r.column ≡ then a f
  unfolding then
  position_stop r q h = rw (← q, h)

  -- the coordinates, stored once more
  pub position_held : (g : Got A) (p : Position) → position_got x ≡ a → x ≡ Ok p → SFits w32 p.x → SFits w32 p.y → SFits w32 p.z →
      g ≡ f (record { x = to_z w32 (of_z w32 p.x); y = to_z w32 (of_z w32 p.y); z = to_z w32 (of_z w32 p.z) }) → g ≡ then a f
  position_held g p e h u v w s = position_next g p e h (s ∙ rw (hop p.x u, hop p.y v, hop p.z w))

pub ruleset position_steps = (position_next, position_stop, position_held)
