-- A line that the judge takes at a place, before what may follow its turn, may follow the place by the rules.
use Rattle.std.specs.Prelude.{ℕ, List, [], ◌∷◌, ◌++◌}
use Rattle.std.proofs.Common.{sym, subst, append-nil}
use Rattle.text.specs.Text.{Line}
use Rattle.rules.specs.Record.{Raw}
use Rattle.rules.specs.Record.{Atoms, Bonds, Properties, Values, Items, Parts1to5, Record, SDfile}
use Rattle.judge_file.specs.Place.{FileKind, molfile, sdfile}
use Rattle.judge_file.specs.Place.{Place, counts, atoms, bonds, properties, values, Turn}
use Rattle.judge_file.specs.Takes.{Takes}
use Rattle.judge_file.specs.Twice.{pair_after}
use Rattle.judge_file.specs.Sound.{Sound}
use Rattle.judge_file.specs.From.{FromFirst, FromParts, From, Left}
use Rattle.judge_file.specs.Owed.{snoc, bonds_from_lem, atoms_from_lem, end_from, parts_from}

module _ (kind : FileKind) (limit : ℕ) where
  parts_first : (l : Line) (t : List Line) (rs : List Raw) → FromParts kind limit (l ∷ t) rs → FromFirst kind limit (l ∷ t) rs
  parts_first l t rs f = go kind f
    where
      go : (k : FileKind) → FromParts k limit (l ∷ t) rs → FromFirst k limit (l ∷ t) rs
      go molfile f = (f.m, subst (Parts1to5 limit (l ∷ t) f.m) f.after.0 f.here, f.after.1)
      go sdfile f =
          subst (SDfile limit (l ∷ t)) (sym f.after.all) (SDfile.more (Record.record_of f.here f.after.here) f.after.after)

  -- a line that the judge takes, before what may follow then
  pub backward : {p : Place} {l : Line} {turn : Turn} (t : List Line) (rs : List Raw) →
      Sound kind limit p → Takes kind limit p l turn → Left kind limit turn t rs → From kind limit p (l ∷ t) rs
  backward {l = l} t rs s (Takes.first_header h) f = parts_first l t rs (parts_from kind limit l t rs h f)
  backward t rs s (Takes.second_header h) f = (h, f)
  backward t rs s (Takes.third_header h) f = (h, f)
  backward t rs s (Takes.counts_line {hs = hs} {c = c} h) f = (c, h, atoms_from_lem kind limit hs c c.atoms [] t rs f)
  backward t rs s (Takes.atom_line_lem {hs = hs} {c = c} {k = k} {xs = xs} {a = a} h) f =
      let r = atoms_from_lem kind limit hs c k (xs ++ (a ∷ [])) t rs f in
      record { ys = a ∷ r.ys; u = r.u; here = Atoms.more h r.here; after = rw (snoc xs a r.ys) r.after }
  backward t rs s (Takes.bond_line_lem {hs = hs} {c = c} {xs = xs} {k = k} {bs = bs} {b = b} h new) f =
      let r = bonds_from_lem kind limit hs c xs k (bs ++ (b ∷ [])) t rs (pair_after b bs s.once new) f in
      record {
        ys = b ∷ r.ys;
        u = r.u;
        here = Bonds.more h r.here;
        once = rw (snoc bs b r.ys) r.once;
        after = rw (snoc bs b r.ys) r.after;
      }
  backward t rs s (Takes.property_line {ps = ps} {p = p} h new) f =
      record {
        qs = p ∷ f.qs;
        u = f.u;
        here = Properties.more h f.here;
        once = λ k. rw (snoc ps p f.qs) (f.once k);
        after = rw (snoc ps p f.qs) f.after;
      }
  backward t rs s (Takes.end_line {hs = hs} {c = c} {xs = xs} {bs = bs} {ps = ps} h) f =
      record {
        qs = [];
        u = t;
        here = Properties.end h;
        once = λ k. rw (append-nil ps) (s.atoms k);
        after = rw (append-nil ps) (end_from kind limit (record { headers = hs; counts = c; atoms = xs; bonds = bs; properties = ps }) t rs f);
      }
  backward t rs s (Takes.data_header {is = is} {name = name} h) f =
      let i = f.after in
      record {
        js = record { name = name; values = f.ws } ∷ i.js;
        u = i.u;
        ys = i.ys;
        here = Items.more h f.here i.here;
        after = i.after;
        all = rw (snoc is (record { name = name; values = f.ws }) i.js) i.all;
      }
  backward t rs s (Takes.record_end {is = is} h) f =
      record { js = []; u = t; ys = f.0; here = Items.end h; after = f.1; all = rw (append-nil is) f.2 }
  backward t rs s (Takes.value_line {vs = vs} {l = l} h) f =
      record { ws = l ∷ f.ws; u = f.u; here = Values.more h f.here; after = rw (snoc vs l f.ws) f.after }
  backward t rs s (Takes.blank_line {vs = vs} h) f = record { ws = []; u = t; here = Values.end h; after = rw (append-nil vs) f }
