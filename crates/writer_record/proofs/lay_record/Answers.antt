-- `writer_record::lay_record` meets its contract.
use Rattle.writer_record.specs.Measure.{room_molecule, room_items, room_close, record_laid}
use borrow.Author.Rules.{rules}
use Rattle.writer_record.proofs.lay_record.Goals as goal

pub put_molecule-b-requires : goal.put_molecule-b-requires
put_molecule-b-requires c =
    let h = c in
    let y = h.requires in
    record {
      n_in_bounds = ((y.atoms, y.bonds), (y.n, y.m));
      writable_atoms = y.writable;
      atoms_in_bounds = room_molecule _ _ y h.put_headers-a.ensures;
    }

pub put_items-c-requires : goal.put_items-c-requires
put_items-c-requires c = let m = c in
    let h = m in
    let y = h.requires in
    room_items _ _ y h.put_headers-a.ensures m.put_molecule-b.ensures

pub put_close-requires : goal.put_close-requires
put_close-requires c = let i = c in
    let m = i in
    let h = m in
    let y = h.requires in
    room_close _ _ y h.put_headers-a.ensures m.put_molecule-b.ensures i.put_items-c.ensures

pub returns : goal.returns
returns c = let t = c in
    let i = t in
    let m = i in
    let h = m in
    let y = h.requires in
    record_laid _ _ y h.put_headers-a.ensures m.put_molecule-b.ensures i.put_items-c.ensures t.put_close.ensures
