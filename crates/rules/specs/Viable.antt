-- Which lines can still be finished, and the first line after which they cannot. For any language of lines; the three of the format stand below.
use Rattle.std.specs.Prelude.{ℕ, suc, ◌≡◌, refl, List, [], ◌∷◌, ◌++◌, length}
use Rattle.std.proofs.Common.{sym, ap, ◌∙◌, subst, append_assoc, append-nil}
use Rattle.text.specs.Text.{Line}
use Rattle.rules.specs.Record.{Raw, Molfile, Record, SDfile}

-- some further lines, or none, finish these
abbrev pub Viable : (List Line → Type 0) → List Line → Type 0
Viable L ls = (more : List Line) × L (ls ++ more)

-- no further lines do
abbrev pub Dead : (List Line → Type 0) → List Line → Type 0
Dead L ls = (more : List Line) → ¬ L (ls ++ more)

-- line k, counted from 1, is the first after which no further lines finish these: those before it can be finished, with it they cannot
pub record FirstDead (L : List Line → Type 0) (ls : List Line) (k : ℕ) : Type 0 where
  pub before : List Line
  pub l : Line
  pub after : List Line
  pub whole : ls ≡ before ++ (l ∷ after)
  pub line : k ≡ suc (length before)
  pub open_before : Viable L before
  pub shut_here : Dead L (before ++ (l ∷ []))

-- ---- The three languages of the format

abbrev pub AMolfile : ℕ → List Line → Type 0
AMolfile limit ls = (x : Raw) × Molfile limit ls x

abbrev pub AnSDfile : ℕ → List Line → Type 0
AnSDfile limit ls = (xs : List Raw) × SDfile limit ls xs

-- one record of an SDfile, up to its `$$$$` line
abbrev pub ARecord : ℕ → List Line → Type 0
ARecord limit ls = (x : Raw) × Record limit ls x []

-- ---- Laws

pub whole_viable : (L : List Line → Type 0) (ls : List Line) → L ls → Viable L ls
whole_viable L ls h = ([], subst L (sym (append-nil ls)) h)

-- what can be finished can be finished from any earlier line
pub viable_shorter : (L : List Line → Type 0) (ls more : List Line) → Viable L (ls ++ more) → Viable L ls
viable_shorter L ls more v = (more ++ v.0, subst L (append_assoc ls more v.0) v.1)

-- what cannot be finished stays so with more lines
pub dead_longer : (L : List Line → Type 0) (ls more : List Line) → Dead L ls → Dead L (ls ++ more)
dead_longer L ls more d rest h = d (more ++ rest) (subst L (append_assoc ls more rest) h)

pub viable_not_dead : (L : List Line → Type 0) (ls : List Line) → Viable L ls → ¬ Dead L ls
viable_not_dead L ls v d = d v.0 v.1

-- lines with such a first line are not of the language, and cannot become so
pub first_dead : (L : List Line → Type 0) (ls : List Line) (k : ℕ) → FirstDead L ls k → Dead L ls
first_dead L ls k f =
    subst (Dead L) (append_assoc f.before (f.l ∷ []) f.after ∙ sym f.whole)
    (dead_longer L (f.before ++ (f.l ∷ [])) f.after f.shut_here)

-- one list dead at its last line, another viable beyond that line
early : (L : List Line → Type 0) (p : List Line) (l x : Line) (b : List Line) → l ≡ x → Dead L (p ++ (l ∷ [])) → ¬ Viable L (p ++ (x ∷ b))
early L p l x b e d v =
    viable_not_dead L (p ++ (l ∷ []))
    (viable_shorter L (p ++ (l ∷ [])) b (subst (Viable L) (ap (λ (y : Line). p ++ (y ∷ b)) (sym e) ∙ sym (append_assoc p (l ∷ []) b)) v)) d

same_length : (L : List Line → Type 0) (p b₁ b₂ a₁ a₂ : List Line) (l₁ l₂ : Line) →
    b₁ ++ (l₁ ∷ a₁) ≡ b₂ ++ (l₂ ∷ a₂) →
    Viable L (p ++ b₁) → Dead L (p ++ (b₁ ++ (l₁ ∷ []))) → Viable L (p ++ b₂) → Dead L (p ++ (b₂ ++ (l₂ ∷ []))) → length b₁ ≡ length b₂
same_length L p [] [] a₁ a₂ l₁ l₂ e v₁ d₁ v₂ d₂ = refl
same_length L p [] (x ∷ b₂) a₁ a₂ l₁ l₂ e v₁ d₁ v₂ d₂ = let h : l₁ ≡ x = cc in absurd (early L p l₁ x b₂ h d₁ v₂)
same_length L p (x ∷ b₁) [] a₁ a₂ l₁ l₂ e v₁ d₁ v₂ d₂ = let h : l₂ ≡ x = cc in absurd (early L p l₂ x b₁ h d₂ v₁)
same_length L p (x ∷ b₁) (y ∷ b₂) a₁ a₂ l₁ l₂ e v₁ d₁ v₂ d₂ =
    let xy : x ≡ y = cc in
    let t : b₁ ++ (l₁ ∷ a₁) ≡ b₂ ++ (l₂ ∷ a₂) = cc in
    let on : (c : List Line) → p ++ (x ∷ c) ≡ (p ++ (x ∷ [])) ++ c = λ c. sym (append_assoc p (x ∷ []) c) in
    let to : (c : List Line) → p ++ (y ∷ c) ≡ (p ++ (x ∷ [])) ++ c = λ c. ap (λ (z : Line). p ++ (z ∷ c)) (sym xy) ∙ on c in
    ap suc
    (same_length L (p ++ (x ∷ [])) b₁ b₂ a₁ a₂ l₁ l₂ t
    (subst (Viable L) (on b₁) v₁)
    (subst (Dead L) (on (b₁ ++ (l₁ ∷ []))) d₁)
    (subst (Viable L) (to b₂) v₂)
    (subst (Dead L) (to (b₂ ++ (l₂ ∷ []))) d₂))

-- there is one such line at most
pub first_one : (L : List Line → Type 0) (ls : List Line) (j k : ℕ) → FirstDead L ls j → FirstDead L ls k → j ≡ k
first_one L ls j k a b =
    a.line
    ∙ ap suc
    (same_length L [] a.before b.before a.after b.after a.l b.l (sym a.whole ∙ b.whole)
    a.open_before a.shut_here b.open_before b.shut_here)
    ∙ sym b.line
