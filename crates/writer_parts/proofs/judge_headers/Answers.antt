-- `writer_parts::judge_headers` meets its contract.
use Rattle.writer_parts.specs.Beside.{headers_judged}
use borrow.Author.Rules.{rules}
use Rattle.writer_parts.proofs.judge_headers.Goals as goal

pub returns : goal.returns
returns c = search (rules, headers_judged)
