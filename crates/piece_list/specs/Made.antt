-- What is listed from the labels are the pieces.
use Rattle.std.specs.Prelude.{ℕ, List, map, take}
use Rattle.std.proofs.Common.{arith, sym, ap, ◌∙◌, subst}
use Rattle.rules.specs.Forms.{Bond}
use Rattle.piece_rules.specs.Pieces.{PiecesAbove, Inside, Split, sum}
use Rattle.piece_labels.specs.Labels.{Labels, labels_lowest, label_own}
use Rattle.piece_list.specs.Heads.{Below, size_in, heads_from, heads_are, sizes_sum}
use Rattle.piece_list.specs.Listing.{Listed}

pub labels_low : (n : ℕ) (bs : List Bond) (ls : List ℕ) → Labels n bs ls → Below n ls
unfolding Below
labels_low n bs ls g = g.below

pub split_made : (n : ℕ) (bs : List Bond) (ls heads sizes : List ℕ) (count : ℕ) → Labels n bs ls → Inside n bs → Listed ls n heads sizes count →
    Split n bs ls heads sizes count
split_made n bs ls heads sizes count g all f =
    let low = labels_lowest n bs ls g all in
    let whole : PiecesAbove bs n 0 (heads_from ls 0 n) (map (size_in ls n) (heads_from ls 0 n)) = heads_are n bs ls low 0 n (omega arith) in
    record {
      lowest = low;
      no_label = g.behind;
      pieces =
          subst (λ (ss : List ℕ). PiecesAbove bs n 0 (take count heads) ss) (sym f.sizes_are)
          (subst (λ (hs : List ℕ). PiecesAbove bs n 0 hs (map (size_in ls n) (heads_from ls 0 n))) (sym f.heads_are) whole);
      adds_up = ap sum f.sizes_are ∙ sizes_sum n ls (label_own n bs ls g all);
      no_head = f.no_head;
      no_size = f.no_size;
      few = f.few;
    }
