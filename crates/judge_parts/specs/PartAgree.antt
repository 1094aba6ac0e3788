-- The judge of the two parts agrees with the rules and with the table of refusals: good parts and what they stand for; and it refuses with number e at line i
-- and column c exactly if the table does. There is one refusal at most.
use Rattle.std.specs.Prelude.{ℕ, ◌≡◌, ◌↔◌, List, []}
use Rattle.text.specs.Text.{Bytes, Line, Lines}
use Rattle.rules.specs.Record.{Headers, Item}
use Rattle.rules.specs.Canon.{HeaderPart, ItemPart}
use Rattle.judge_file.specs.Verdict.{accepted, refused}
use Rattle.judge_parts.specs.Part.{first, header_turn, headers_end, headers_verdict}
use Rattle.judge_parts.specs.AnyPart.{PartRefusal, good_part, refusal, refusal_one}
use Rattle.judge_parts.specs.PartBecause.{HeaderBecause, header_because}
use Rattle.judge_parts.specs.PartFrom.{FromHeaders, fitting_headers}

-- ---- The two languages

abbrev pub AHeaderPart : List Line → Type 0
AHeaderPart ls = (h : Headers) × HeaderPart ls h

abbrev pub AnItemPart : List Line → Type 0
AnItemPart ls = (is : List Item) × ItemPart ls is

-- ---- Header lines

pub good_headers : (s : Bytes) (h : Headers) → (headers_verdict s ≡ accepted h) ↔ ((ls : List Line) × Lines s ls [] × HeaderPart ls h)
unfolding headers_verdict
good_headers s h = good_part header_turn headers_end FromHeaders fitting_headers first HeaderPart (λ ls h. (λ p. p, λ p. p)) s h

pub refused_headers : (s : Bytes) (e i column : ℕ) → (headers_verdict s ≡ refused e i column) ↔ PartRefusal AHeaderPart HeaderBecause s e i column
unfolding headers_verdict
refused_headers s e i column =
    refusal header_turn headers_end FromHeaders fitting_headers first HeaderPart (λ ls h. (λ p. p, λ p. p)) s HeaderBecause header_because e i column

pub one_header_refusal : (s : Bytes) {e i c e' i' c' : ℕ} →
    PartRefusal AHeaderPart HeaderBecause s e i c → PartRefusal AHeaderPart HeaderBecause s e' i' c' → (e ≡ e') × (i ≡ i') × (c ≡ c')
one_header_refusal s p q = refusal_one header_turn headers_end FromHeaders fitting_headers first HeaderPart (λ ls h. (λ p. p, λ p. p)) s HeaderBecause header_because p q
