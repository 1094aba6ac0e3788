use Rattle.field_numbers_put.proofs.Texts.{writing_digit, writing_sign, writing_space}
use Rattle.field_numbers_put.proofs.put_sized.Goals as goal

pub loop-i-preserved-then-more : goal.loop-i-preserved-then-more
loop-i-preserved-then-more c = search writing_digit

pub loop-i-preserved-then-sign : goal.loop-i-preserved-then-sign
loop-i-preserved-then-sign c = search writing_sign

pub loop-i-preserved : goal.loop-i-preserved
loop-i-preserved c = search writing_space
