-- A text as its lines. A line ends at LF, and one CR right before that LF is no part of it; what follows the last LF is an unfinished line.
use Rattle.std.specs.Prelude.{ℕ, ◌≤◌, ◌≡◌, ◌≢◌, List, [], ◌∷◌, ◌++◌}
use Prim.Native.Char.{code}
use Prim.Native.String as S
use Prim.Native.String.{String}

abbrev pub Bytes : Type 0
Bytes = List ℕ

abbrev pub Line : Type 0
Line = Bytes

abbrev pub LF : ℕ
LF = 10

abbrev pub CR : ℕ
CR = 13

-- the bytes of a string
abbrev pub bytes : String → Bytes
bytes S.[] = []
bytes (S.◌∷◌ c s) = code c ∷ bytes s

-- the byte of a string of one character
abbrev pub byte : String → ℕ
byte S.[] = 0
byte (S.◌∷◌ c s) = code c

-- every byte has the property
unfoldable pub Each : (ℕ → Type 0) → Bytes → Type 0
Each P [] = Unit {0}
Each P (b ∷ bs) = P b × Each P bs

-- no byte is x
abbrev pub Without : ℕ → Bytes → Type 0
Without x bs = Each (λ b. b ≢ x) bs

-- what stands before an LF, and the line it is
pub data Ended : Bytes → Line → Type 0 where
  cr_lf : {bs l : Bytes} → bs ≡ l ++ (CR ∷ []) → Ended bs l
  lf : {l : Line} → ((before : Bytes) → l ≢ before ++ (CR ∷ [])) → Ended l l

-- `Lines text lines rest`: the text is these complete lines and then an unfinished rest
pub data Lines : Bytes → List Line → Bytes → Type 0 where
  unfinished : {rest : Bytes} → Without LF rest → Lines rest [] rest
  line : {text bs more rest : Bytes} {l : Line} {ls : List Line} →
      text ≡ bs ++ (LF ∷ more) → Without LF bs → Ended bs l → Lines more ls rest → Lines text (l ∷ ls) rest
