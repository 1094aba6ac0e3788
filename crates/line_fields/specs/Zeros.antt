-- Fields that hold the usual zero.
use Rattle.std.specs.Prelude.{ℕ, ◌≡◌, pos}
use Rattle.std.proofs.Common.{zero-le}
use borrow.Author.Tests.{le-leb}
use Rattle.text.specs.Text.{Line, bytes}
use Rattle.text.specs.Columns.{columns}
use Rattle.field_numbers.specs.Number.{decimal_after}
use Rattle.field_numbers.specs.Read.{all_digits, after_spaces, before_spaces, digits_read, after_blank, integer_in, ranged, number_in, signed_ranged, signed_in}
use Rattle.judge_line.specs.Got.{got}
use Rattle.judge_line.specs.Field.{number_at, signed_at}

module _ (l : Line) (i j : ℕ) where
  pub zero_number : (most : ℕ) → columns l i j ≡ bytes "  0" → number_at l i j 0 most ≡ got 0
  unfolding number_at number_in integer_in after_spaces after_blank before_spaces digits_read all_digits decimal_after ranged
  zero_number most e = rw (e, le-leb 0 most zero-le)

  pub zero_signed : (below above : ℕ) → columns l i j ≡ bytes "  0" → signed_at l i j below above ≡ got (pos 0)
  unfolding signed_at signed_in integer_in after_spaces after_blank before_spaces digits_read all_digits decimal_after signed_ranged
  zero_signed below above e = rw (e, le-leb 0 above zero-le)

  pub zero_narrow : (below above : ℕ) → columns l i j ≡ bytes " 0" → signed_at l i j below above ≡ got (pos 0)
  unfolding signed_at signed_in integer_in after_spaces after_blank before_spaces digits_read all_digits decimal_after signed_ranged
  zero_narrow below above e = rw (e, le-leb 0 above zero-le)
