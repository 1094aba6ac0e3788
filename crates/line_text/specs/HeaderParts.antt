-- Parts of the judges, for the functions inside.
use Rattle.std.specs.Prelude.{[], ◌∷◌, Bool, true, false, cond, ◌&&◌, ◌||◌, not, eqb, leb, length}
use Rattle.text.specs.Text.{Bytes, Line, bytes, byte}
use Rattle.text.specs.Find.{is_blank}
use Rattle.judge_line.specs.Judge.{HeaderRead, named, none, begins}

-- no byte is a space
abbrev pub spaceless : Bytes → Bool
spaceless [] = true
spaceless (b ∷ bs) = not (eqb (byte " ") b) && spaceless bs

-- the line begins with one of the reserved tags
unfoldable pub tagged : Line → Bool
tagged l = begins (bytes "$$$$") l || (begins (bytes "$MDL") l || (begins (bytes "$RXN") l || begins (bytes "$RDFILE") l))

-- the name, where `>` follows it, and then these bytes
unfoldable pub name_ends : Bytes → Bytes → HeaderRead
name_ends name bs = cond (leb 1 (length name) && (leb (length name) 30 && is_blank bs)) (named name) none
