-- What may follow a place by the rules begins with a line that the judge takes there, and goes on as the judge does.
use Rattle.std.specs.Prelude.{ℕ, suc, ◌≡◌, refl, List, [], ◌∷◌, ◌++◌, length}
use Rattle.std.proofs.Common.{ap, append-nil, arith}
use Rattle.text.specs.Text.{Bytes, Line}
use Rattle.rules.specs.Forms.{Counts, Atom, Bond, Kind, Property}
use Rattle.rules.specs.Record.{Headers, Molecule, Item, Raw, listed, NoPairTwice, NoAtomTwice}
use Rattle.rules.specs.Record.{Atoms, Bonds, Properties, Values, Items, Record, SDfile}
use Rattle.judge_file.specs.Place.{FileKind, molfile, sdfile, to_atoms, to_bonds, after_end}
use Rattle.judge_file.specs.Place.{Place, first, second, third, counts, atoms, bonds, properties, over, items, values, Turn, next, done}
use Rattle.judge_file.specs.Takes.{Takes}
use Rattle.judge_file.specs.Twice.{new_among, entries_among}
use Rattle.judge_file.specs.From.{FromFirst, FromOver, FromItems, FromValues, FromEnd, FromProperties, FromBonds, FromAtoms, FromParts, From, Left}
use Rattle.judge_file.specs.Owed.{snoc, from_bonds, from_atoms, from_end, from_parts}

-- the judge takes the line, and what is left may follow
pub record Onward (kind : FileKind) (limit : ℕ) (p : Place) (l : Line) (t : List Line) (rs : List Raw) : Type 0 where
  pub turn : Turn
  pub takes : Takes kind limit p l turn
  pub left : Left kind limit turn t rs

module _ (kind : FileKind) (limit : ℕ) where
  onward_atoms : (hs : Headers) (c : Counts) (k : ℕ) (xs : List Atom) (l : Line) (t : List Line) (rs : List Raw) →
      FromAtoms kind limit hs c (suc k) xs (l ∷ t) rs → Onward kind limit (atoms hs c k xs) l t rs
  onward_atoms hs c k xs l t rs f = go f.here f.after
    where
      go : {ys : List Atom} {u : List Line} → Atoms c.atoms (suc k) (l ∷ t) ys u → FromBonds kind limit hs c (xs ++ ys) c.bonds [] u rs →
          Onward kind limit (atoms hs c k xs) l t rs
      go {u = u} (Atoms.more {a = a} {xs = ys} h p) g =
          record {
            turn = next (to_atoms hs c k (xs ++ (a ∷ [])));
            takes = Takes.atom_line_lem h;
            left = from_atoms kind limit hs c k (xs ++ (a ∷ [])) t rs (record { ys = ys; u = u; here = p; after = rw (snoc xs a ys) at g });
          }

  onward_bonds : (hs : Headers) (c : Counts) (xs : List Atom) (k : ℕ) (bs : List Bond) (l : Line) (t : List Line) (rs : List Raw) →
      FromBonds kind limit hs c xs (suc k) bs (l ∷ t) rs → Onward kind limit (bonds hs c xs k bs) l t rs
  onward_bonds hs c xs k bs l t rs f = go f.here f.once f.after
    where
      go : {ys : List Bond} {u : List Line} → Bonds c.atoms (suc k) (l ∷ t) ys u → NoPairTwice (bs ++ ys) →
          FromProperties kind limit hs c xs (bs ++ ys) [] u rs →
          Onward kind limit (bonds hs c xs k bs) l t rs
      go {u = u} (Bonds.more {b = b} {bs = ys} h p) n g =
          record {
            turn = next (to_bonds hs c xs k (bs ++ (b ∷ [])));
            takes = Takes.bond_line_lem h (new_among b bs ys n);
            left = from_bonds kind limit hs c xs k (bs ++ (b ∷ [])) t rs (record { ys = ys; u = u; here = p; once = rw (snoc bs b ys) at n; after = rw (snoc bs b ys) at g });
          }

  onward_properties : (hs : Headers) (c : Counts) (xs : List Atom) (bs : List Bond) (ps : List Property) (l : Line) (t : List Line) (rs : List Raw) →
      FromProperties kind limit hs c xs bs ps (l ∷ t) rs → Onward kind limit (properties hs c xs bs ps) l t rs
  onward_properties hs c xs bs ps l t rs f = go f.here f.once f.after
    where
      mol : List Property → Molecule
      mol qs = record { headers = hs; counts = c; atoms = xs; bonds = bs; properties = qs }

      go : {qs : List Property} {u : List Line} → Properties c.atoms (l ∷ t) qs u → ((k : Kind) → NoAtomTwice (listed k (ps ++ qs))) →
          FromEnd kind limit (mol (ps ++ qs)) u rs → Onward kind limit (properties hs c xs bs ps) l t rs
      go {u = u} (Properties.end h) n g = record { turn = next (after_end kind (mol ps)); takes = Takes.end_line h; left = from_end kind limit (mol ps) t rs (rw append-nil at g) }
      go {u = u} (Properties.more {p = p} {ps = qs} h r) n g =
          record {
            turn = next (properties hs c xs bs (ps ++ (p ∷ [])));
            takes = Takes.property_line h (entries_among p ps qs (n p.kind));
            left = record { qs = qs; u = u; here = r; once = λ k. rw (snoc ps p qs) at (n k); after = rw (snoc ps p qs) at g };
          }

  onward_items : (m : Molecule) (is : List Item) (l : Line) (t : List Line) (rs : List Raw) →
      FromItems kind limit m is (l ∷ t) rs → Onward kind limit (items m is) l t rs
  onward_items m is l t rs f = go f.here f.after f.all
    where
      go : {js : List Item} {u : List Line} {ys : List Raw} → Items (l ∷ t) js u → FromFirst kind limit u ys →
          rs ≡ record { molecule = m; items = is ++ js } ∷ ys →
          Onward kind limit (items m is) l t rs
      go {ys = ys} (Items.end h) g e = record { turn = done (record { molecule = m; items = is }); takes = Takes.record_end h; left = (ys, g, rw append-nil at e) }
      go {u = u} {ys = ys} (Items.more {name = name} {u = w} {vs = vs} {is = js} h v p) g e =
          record {
            turn = next (values m is name []);
            takes = Takes.data_header h;
            left = record {
              ws = vs;
              u = w;
              here = v;
              after = record { js = js; u = u; ys = ys; here = p; after = g; all = rw (snoc is (record { name = name; values = vs }) js) at e };
            };
          }

  onward_values : (m : Molecule) (is : List Item) (name : Bytes) (vs : List Line) (l : Line) (t : List Line) (rs : List Raw) →
      FromValues kind limit m is name vs (l ∷ t) rs → Onward kind limit (values m is name vs) l t rs
  onward_values m is name vs l t rs f = go f.here f.after
    where
      go : {ws : List Line} {u : List Line} → Values (l ∷ t) ws u → FromItems kind limit m (is ++ (record { name = name; values = vs ++ ws } ∷ [])) u rs →
          Onward kind limit (values m is name vs) l t rs
      go (Values.end h) g = record { turn = next (items m (is ++ (record { name = name; values = vs } ∷ []))); takes = Takes.blank_line h; left = rw append-nil at g }
      go {u = u} (Values.more {vs = ws} h p) g =
          record { turn = next (values m is name (vs ++ (l ∷ []))); takes = Takes.value_line h; left = record { ws = ws; u = u; here = p; after = rw (snoc vs l ws) at g } }

  onward_first : (l : Line) (t : List Line) (rs : List Raw) → FromParts kind limit (l ∷ t) rs → Onward kind limit first l t rs
  onward_first l t rs f =
      let s = from_parts kind limit rs f.here f.after in
      record { turn = next (second l); takes = Takes.first_header s.0; left = s.1 }

-- where a record may begin and a line follows, a record begins
first_parts : (kind : FileKind) (limit : ℕ) (l : Line) (t : List Line) (rs : List Raw) → FromFirst kind limit (l ∷ t) rs → FromParts kind limit (l ∷ t) rs
first_parts molfile limit l t rs f = record { m = f.0; u = []; here = f.1; after = (refl, f.2) }
first_parts sdfile limit l t rs f = go f
  where
    go : {rs : List Raw} → SDfile limit (l ∷ t) rs → FromParts sdfile limit (l ∷ t) rs
    go (SDfile.more {xs = ys} (Record.record_of {u = u} {r = r} {m = m} {is = is} p i) f) =
        record { m = m; u = u; here = p; after = record { js = is; u = r; ys = ys; here = i; after = f; all = refl } }

onward_over : (kind : FileKind) (limit : ℕ) (m : Molecule) (l : Line) (t : List Line) (rs : List Raw) → FromOver kind m (l ∷ t) rs →
    Onward kind limit (over m) l t rs
onward_over molfile limit m l t rs f = absurd (omega (arith, ap length f.0))
onward_over sdfile limit m l t rs f = absurd f

pub onward : (kind : FileKind) (limit : ℕ) (p : Place) (l : Line) (t : List Line) (rs : List Raw) → From kind limit p (l ∷ t) rs → Onward kind limit p l t rs
onward kind limit first l t rs f = onward_first kind limit l t rs (first_parts kind limit l t rs f)
onward kind limit (second h₁) l t rs f = record { turn = next (third h₁ l); takes = Takes.second_header f.0; left = f.1 }
onward kind limit (third h₁ h₂) l t rs f =
    record { turn = next (counts (record { first = h₁; second = h₂; third = l })); takes = Takes.third_header f.0; left = f.1 }
onward kind limit (counts hs) l t rs f =
    record {
      turn = next (to_atoms hs f.0 f.0.atoms []);
      takes = Takes.counts_line f.1;
      left = from_atoms kind limit hs f.0 f.0.atoms [] t rs f.2;
    }
onward kind limit (atoms hs c k xs) l t rs f = onward_atoms kind limit hs c k xs l t rs f
onward kind limit (bonds hs c xs k bs) l t rs f = onward_bonds kind limit hs c xs k bs l t rs f
onward kind limit (properties hs c xs bs ps) l t rs f = onward_properties kind limit hs c xs bs ps l t rs f
onward kind limit (over m) l t rs f = onward_over kind limit m l t rs f
onward kind limit (items m is) l t rs f = onward_items kind limit m is l t rs f
onward kind limit (values m is name vs) l t rs f = onward_values kind limit m is name vs l t rs f
