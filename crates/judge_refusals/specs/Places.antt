-- At every place the judge refuses a line exactly as the table says, and takes it exactly where all demands hold.
use Rattle.std.specs.Prelude.{ℕ, ◌≡◌, ◌⊎◌, List, [], ◌∷◌}
use Rattle.text.specs.Text.{Line}
use Rattle.rules.specs.Forms.{FirstHeaderLine, HeaderLine, CountsLine, AtomLine, BondLine, Entry, PropertyLine, EndLine, DataHeader, RecordEnd, ValueLine, BlankLine}
use Rattle.rules.specs.Record.{NewPair, listed, NotListed}
use Rattle.judge_file.specs.Place.{Place, first, second, third, counts, atoms, bonds, properties, over, items, values}
use Rattle.judge_refusals.specs.Demand.{Refused, Some}
use Rattle.judge_refusals.specs.Demands.{demands}
use Rattle.judge_refusals.specs.Tells.{one_refusal}

-- ---- The rules' own form of a line is that all its demands hold

-- each entry is of an atom that none of these has, and no entry before it
unfoldable pub AllNew : List Entry → List Entry → Type 0
AllNew before [] = Unit {0}
AllNew before (e ∷ es) = NotListed e.atom before × AllNew (e ∷ before) es

-- what the rules ask of a line at each place: its form, and beside the lines before it no pair and no atom twice
abbrev pub Form : ℕ → Place → Line → Type 0
Form limit first l = FirstHeaderLine l
Form limit (second h₁) l = HeaderLine l
Form limit (third h₁ h₂) l = HeaderLine l
Form limit (counts hs) l = Some (CountsLine limit l)
Form limit (atoms hs c k xs) l = Some (AtomLine c.atoms l)
Form limit (bonds hs c xs k bs) l = Some λ b. BondLine c.atoms l b × NewPair b bs
Form limit (properties hs c xs bs ps) l = (Some λ p. PropertyLine c.atoms l p × AllNew (listed p.kind ps) p.entries) ⊎ EndLine l
Form limit (over m) l = ⊥
Form limit (items m is) l = Some (DataHeader l) ⊎ RecordEnd l
Form limit (values m is name vs) l = ValueLine l ⊎ BlankLine l

-- no line is refused in two ways, and none that is good is refused
pub refused_one : (limit : ℕ) (p : Place) (l : Line) (e c e' c' : ℕ) → Refused (demands limit p l) e c → Refused (demands limit p l) e' c' → (e ≡ e') × (c ≡ c')
refused_one limit p l e c e' c' r s = one_refusal (demands limit p l) e c e' c' r s
