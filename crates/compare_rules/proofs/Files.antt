-- The same of files: two good files have no differences exactly if they have the same reading.
use Rattle.std.specs.Prelude.{◌≡◌, ◌↔◌, List, [], map}
use Rattle.text.specs.Text.{Bytes}
use Rattle.rules.specs.Record.{Raw, limit, GoodSDfile}
use Rattle.rules.specs.Meaning.{meaning}
use Rattle.rules.proofs.Rewritten.{sdfile_good}
use Rattle.compare_rules.specs.Differences.{exchanged}
use Rattle.compare_rules.proofs.Same.{none_same}
use Rattle.compare_rules.proofs.Exchange.{exchange}
use Rattle.compare_rules.specs.Files.{files_apart}

pub none_same_files : (a b : Bytes) (xs ys : List Raw) → GoodSDfile a xs → GoodSDfile b ys → (files_apart xs ys ≡ []) ↔ (map meaning xs ≡ map meaning ys)
none_same_files a b xs ys p q = none_same limit (map meaning xs) (map meaning ys) (sdfile_good p.2) (sdfile_good q.2)

pub exchange_files : (xs ys : List Raw) → files_apart ys xs ≡ map exchanged (files_apart xs ys)
exchange_files xs ys = exchange (map meaning xs) (map meaning ys)
