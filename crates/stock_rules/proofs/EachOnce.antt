-- Each record of the catalogue is counted under exactly one lot, or listed exactly once in one of the two lists; and the papers of the lots make the log's books.
use Rattle.std.specs.Prelude.{◌+◌, ◌≡◌, refl, List, [], ◌∷◌, length}
use Rattle.std.proofs.Common.{arith, sym, ap, ap₂}
use Rattle.store_log.specs.Log.{Bytes, Event}
use Rattle.store_log.specs.Store.{Store, Told}
use Rattle.store_log.specs.Read.{read_all, replay_log}
use Rattle.stock_rules.specs.Join.{Entry, records_of, never_in, keyless_in, lot_lines, join_of}
use Rattle.stock_rules.specs.EachOnce.{under, each_once, log_each, records_in, any_record, all_picked}

-- ---- Of the join

pub records_under : (vs : List Event) (ts : List Told) (ls : Store) (es : List Entry) → records_in (lot_lines vs ts ls es) ≡ under any_record ls es
unfolding lot_lines records_in under
records_under vs ts [] es = refl
records_under vs ts (l ∷ ls) es = ap₂ ◌+◌ (sym (ap length (all_picked (records_of l.key es)))) (records_under vs ts ls es)

-- the three numbers make the number of records
pub three_numbers : (log : Bytes) (es : List Entry) → records_in (join_of log es).lots + length (join_of log es).never + length (join_of log es).keyless ≡ length es
unfolding join_of
three_numbers log es =
    let ls = (replay_log log).store in
    let e = each_once any_record ls (log_each log) es in
    let a = records_under (read_all log).events (replay_log log).told ls es in
    let b = ap length (all_picked (never_in ls es)) in
    let c = ap length (all_picked (keyless_in es)) in
    let d = ap length (all_picked es) in
    omega (arith, a, b, c, d, e)
