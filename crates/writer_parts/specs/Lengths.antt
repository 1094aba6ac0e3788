-- The lengths of a line's canonical text.
use Rattle.std.specs.Prelude.{ℕ, ◌+◌, ◌-◌, ◌≤◌, ◌≡◌, [], ◌∷◌, ◌++◌, length, take, drop}
use Rattle.std.proofs.Common.{arith, sym, ◌∙◌, length-append, length-take, length-drop}
use Rattle.text.specs.Text.{Bytes, Line, LF, bytes}
use Rattle.rules.specs.Write.{header_text}
use Rattle.writer_parts.specs.Step.{ended}

pub line_length : (l : Line) → length l + 1 ≡ length (ended l)
line_length l = sym (length-append l (LF ∷ []))

pub title_length : (name : Bytes) → length (ended (header_text name)) ≡ length name + 6
unfolding header_text
title_length name = omega (arith, length-append (bytes ">  <" ++ (name ++ bytes ">")) (LF ∷ []), length-append (bytes ">  <") (name ++ bytes ">"), length-append name (bytes ">"))

pub name_length : (l : Line) (from to : ℕ) → from ≤ to → to ≤ length l → length (take (to - from) (drop from l)) ≡ to - from
name_length l from to h k = length-take (to - from) (drop from l) ∙ omega (arith, length-drop from l)
