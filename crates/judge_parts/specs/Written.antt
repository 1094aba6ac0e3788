-- The canonical text of the two parts.
use Rattle.std.specs.Prelude.{List, [], ◌∷◌, ◌++◌}
use Rattle.text.specs.Text.{Bytes, Line}
use Rattle.text.specs.Written.{text}
use Rattle.rules.specs.Record.{Headers, Item}
use Rattle.rules.specs.Write.{header_text}
use Rattle.judge_file.specs.Verdict.{Verdict, accepted, refused, mapped}
use Rattle.judge_parts.specs.Part.{headers_verdict, items_verdict}

-- header lines keep their bytes
unfoldable pub headers_text : Headers → Bytes
headers_text h = text (h.first ∷ h.second ∷ h.third ∷ [])

-- each item's header made anew, its values as they are, and an empty line
unfoldable pub item_lines : List Item → List Line
item_lines [] = []
item_lines (i ∷ is) = header_text i.name ∷ (i.values ++ ([] ∷ item_lines is))

unfoldable pub items_text : List Item → Bytes
items_text is = text (item_lines is)

-- the text of a good part; of another, nothing
abbrev pub text_of : Verdict Bytes → Bytes
text_of (accepted bs) = bs
text_of (refused e i column) = []

-- the canonical text of a part, or its refusal
unfoldable pub written_headers : Bytes → Verdict Bytes
written_headers s = mapped headers_text (headers_verdict s)

unfoldable pub written_items : Bytes → Verdict Bytes
written_items s = mapped items_text (items_verdict s)
