-- Parts as a writer may be handed them: their canonical text or their refusal, in one table, checked by one computation.
use Prim.Native.String.{String}
use Rattle.std.specs.Prelude.{◌≡◌, refl, List, [], ◌∷◌, ◌++◌, map, replicate}
use Rattle.text.specs.Text.{Bytes, LF, CR, bytes}
use Rattle.text.specs.Find.{first_from, bad_column, is_blank}
use Rattle.text.specs.Cut.{ended, split, cut}
use Rattle.text.specs.Written.{text}
use Rattle.field_numbers.specs.Read.{after_spaces}
use Rattle.rules.specs.Write.{header_text}
use Rattle.judge_line.specs.Got.{then, need}
use Rattle.judge_line.specs.Field.{within}
use Rattle.judge_line.specs.Judge.{begins, contains, first_header_of, name_on, opened, spaced, arrowed, header_of, item_of, value_of}
use Rattle.judge_file.specs.Verdict.{Verdict, accepted, refused}
use Rattle.judge_file.specs.Samples.{lines}
use Rattle.judge_parts.specs.Part.{run, verdict_from, header_line, header_turn, headers_verdict, item_turn, items_verdict}
use Rattle.judge_parts.specs.Written.{headers_text, item_lines, items_text, written_headers, written_items}

pub record Sample : Type 0 where
  pub judge : Bytes → Verdict Bytes
  pub part : Bytes
  pub is : Verdict Bytes

abbrev three : Bytes
three = lines ("AB-00417" ∷ "" ∷ "drum 3" ∷ [])

abbrev lot : List String → Bytes
lot after = lines (">  <LOT>" ∷ "00417" ∷ after)

abbrev pub samples : List Sample
samples =
    -- three lines keep their bytes; a CR before an LF is no part of a line
    record { judge = written_headers; part = three; is = accepted three } ∷
    record { judge = written_headers; part = bytes "AB" ++ (CR ∷ LF ∷ lines ("" ∷ " 3 " ∷ [])); is = accepted (lines ("AB" ∷ "" ∷ " 3 " ∷ [])) } ∷
    -- two lines; three and an unfinished fourth
    record { judge = written_headers; part = lines ("AB" ∷ "" ∷ []); is = refused 19 3 1 } ∷
    record { judge = written_headers; part = three ++ bytes "x"; is = refused 19 4 1 } ∷
    -- a fourth line, and one that is too long or has a byte that is not allowed
    record { judge = written_headers; part = three ++ lines ("" ∷ []); is = refused 18 4 1 } ∷
    record { judge = written_headers; part = three ++ (replicate 81 32 ++ (LF ∷ [])); is = refused 3 4 81 } ∷
    record { judge = written_headers; part = three ++ (CR ∷ CR ∷ LF ∷ []); is = refused 4 4 1 } ∷
    -- a reserved tag in the first line, and in the second
    record { judge = written_headers; part = lines ("a $RXN" ∷ "" ∷ "" ∷ []); is = refused 5 1 1 } ∷
    record { judge = written_headers; part = lines ("" ∷ "$$$$" ∷ "" ∷ []); is = accepted (lines ("" ∷ "$$$$" ∷ "" ∷ [])) } ∷
    -- no items; an item whose header and blank line are written anew, and one without values
    record { judge = written_items; part = []; is = accepted [] } ∷
    record { judge = written_items; part = lines ("> <LOT>  " ∷ "00417" ∷ "  " ∷ ">   <A B>" ∷ "" ∷ []); is = accepted (lot ("" ∷ ">  <A B>" ∷ "" ∷ [])) } ∷
    -- a `$$$$` line where an item may begin, and in an item
    record { judge = written_items; part = lines ("$$$$" ∷ []); is = refused 16 1 1 } ∷
    record { judge = written_items; part = lot ("$$$$" ∷ []); is = refused 17 3 1 } ∷
    -- no blank line at the end, an unfinished line, a line where an item must begin
    record { judge = written_items; part = lot []; is = refused 19 3 1 } ∷
    record { judge = written_items; part = lot ("" ∷ []) ++ bytes ">"; is = refused 19 4 1 } ∷
    record { judge = written_items; part = lot ("" ∷ "" ∷ []); is = refused 16 4 1 } ∷
    -- a value of 200 columns and a header of 81
    record { judge = written_items; part = lot [] ++ (replicate 200 120 ++ (LF ∷ LF ∷ [])); is = accepted (lot [] ++ (replicate 200 120 ++ (LF ∷ LF ∷ []))) } ∷
    record { judge = written_items; part = bytes ">  <LOT>" ++ (replicate 73 32 ++ (LF ∷ LF ∷ [])); is = refused 3 1 81 } ∷
    []

pub samples_written : map (λ s. s.judge s.part) samples ≡ map (λ s. s.is) samples
unfolding first_from bad_column ended split cut text after_spaces header_text then need within begins contains first_header_of is_blank name_on opened spaced arrowed
    header_of item_of value_of run verdict_from header_line header_turn headers_verdict item_turn items_verdict headers_text item_lines items_text written_headers written_items
samples_written = refl
