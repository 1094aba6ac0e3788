-- A name held against another, and the loop over the value lines of an item.
use Rattle.std.specs.Prelude.{ℕ, suc, ◌-◌, ◌≡◌, refl, Bool, false, take, drop}
use Rattle.std.proofs.Common.{arith, ◌∙◌}
use Rattle.std.proofs.Math.Path.{sym, ap}
use Rattle.text.specs.Text.{Bytes, Line}
use Rattle.text.specs.Find.{line_at, is_blank}
use Rattle.text.specs.Cut.{cut}
use Rattle.text.specs.declared.LineAt.{LineAt}
use Rattle.judge_line.specs.Got.{got}
use Rattle.judge_line.specs.Judge.{value}
use Rattle.reader_item.specs.Find.{line_end}
use Rattle.reader_item.specs.Find.{values_ahead}
use Rattle.reader_item.specs.Position.{end_is}
use Rattle.reader_item.specs.NeverRefused.{value_known}
use Rattle.reader_item.specs.Passing.{Passing, passing_start, passing_line, passing_low, passing_high, passing_less, further, here, ahead_is, passing_blank}

-- ---- The value lines of an item

module _ (s : Bytes) (at from to i : ℕ) (g : Passing s at from to i) where
  module _ (e n : ℕ) (l : line_at s i ≡ LineAt.Line e n) where
    module _ (b : Bool) (q : b ≡ is_blank (take (e - i) (drop i s))) where
      pub passing_next : b ≡ false → Passing s at at e n
      passing_next k =
          let v = value_known (here s at from to i g e n l) (sym q ∙ k) in
          let z : values_ahead (cut (drop i s)).lines ≡ suc (values_ahead (cut (drop n s)).lines) = ahead_is s at from to i g e n l (got value) v.2 in
          record {
            left = record { vs = v.0; rest = g.left.rest; is = v.1 };
            passed = suc g.passed;
            place = further s at from to i g e n l;
            ahead = omega (arith, g.ahead);
            from_is = refl;
            to_is = sym (end_is s i e n l) ∙ ap (line_end s) (sym g.place);
          }

pub ruleset passing_laws = (passing_start, passing_line, passing_low, passing_high, passing_less, passing_next, passing_blank)
