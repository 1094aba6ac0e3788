-- The lent rows while bonds are read: none where the list is searched, else rows that say the pairs of the bonds read.
use Rattle.std.specs.Prelude.{ℕ, ◌/◌, ◌%◌, ◌≤◌, ◌≡◌, List, [], length, take, drop}
use Rattle.std.proofs.Common.{arith, ap, ◌∙◌}
use Rattle.rules.specs.Forms.{Bond}
use Rattle.rules.specs.Record.{limit}
use Rattle.sets_words.specs.Bits.{has_bit, in_row}
use Rattle.judge_line.specs.Field.{elem}
use Rattle.reader_pairs.specs.Keys.{keys_of, AllSmall}
use Rattle.reader_rows.specs.Says.{row_places, Says}
use Rattle.reader_rows.specs.Marked.{PairKey}
use Rattle.reader_rows.proofs.Marked.{marked_length, marked_past, marked_asks, marked_says}
use Rattle.reader_rows.specs.Rowed.{Lent, Rowed, Fitting, Asking}

-- ---- Bond after bond

module _ (ws₀ ws ks : List ℕ) (g : Rowed ws₀ ws ks) where
  pub rowed_size : length ws ≡ length ws₀
  rowed_size = ap length g.is ∙ marked_length ws₀ ks

  pub rowed_past : drop row_places ws ≡ drop row_places ws₀
  rowed_past = ap (drop row_places) g.is ∙ marked_past ws₀ ks g.pairs

  pub rowed_fits : (key : ℕ) → PairKey key → Fitting ws key
  rowed_fits key p = record { pair = p; room = λ n. go g.lent (λ z. n (rowed_size ∙ z)) }
    where
      go : Lent ws₀ → (length ws₀ ≡ 0 → ⊥) → row_places ≤ length ws
      go (Lent.none z) n = absurd (n z)
      go (Lent.blank room empty) n = omega (arith, rowed_size)

  pub rowed_tells : (key : ℕ) → PairKey key → (length ws ≡ 0 → ⊥) → has_bit ws (in_row (key / 1024) (key % 1024)) ≡ elem key ks
  rowed_tells key p n = go g.lent
    where
      go : Lent ws₀ → has_bit ws (in_row (key / 1024) (key % 1024)) ≡ elem key ks
      go (Lent.none z) = absurd (n (rowed_size ∙ z))
      go (Lent.blank room empty) =
          ap (λ (us : List ℕ). has_bit us (in_row (key / 1024) (key % 1024))) g.is ∙ marked_asks ws₀ ks empty room g.pairs key p

pub rowed_asks : (ws₀ ws keys : List ℕ) (count key : ℕ) → Rowed ws₀ ws (take count keys) → PairKey key → count ≤ limit → length keys ≡ limit → Asking ws keys count key
rowed_asks ws₀ ws keys count key g p few room =
    record {
      fits = rowed_fits ws₀ ws (take count keys) g key p;
      few = few;
      key_room = room;
      tells = rowed_tells ws₀ ws (take count keys) g key p;
    }

-- ---- Rows and list say the same pairs

-- after every bond
pub rowed_says : (ws₀ ws ks : List ℕ) → Rowed ws₀ ws ks → row_places ≤ length ws₀ → (bs : List Bond) → AllSmall bs → ks ≡ keys_of bs → Says ws bs
rowed_says ws₀ ws ks g room bs small e = go g.lent
  where
    go : Lent ws₀ → Says ws bs
    go (Lent.none z) = absurd (omega arith)
    go (Lent.blank more empty) = rw g.is (marked_says ws₀ ks empty room g.pairs bs small e)
