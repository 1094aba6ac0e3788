-- Small logs and what their replay tells: one table, checked by one computation.
use Rattle.std.specs.Prelude.{ℕ, zero, suc, ◌≡◌, refl, List, [], ◌∷◌, ◌++◌, map, replicate, pos, negsuc}
use Prim.Native.Char.{code}
use Prim.Native.String as S
use Prim.Native.String.{String}
use Rattle.store_log.specs.Log.{Bytes, Kind, Close, letter}
use Rattle.store_log.specs.Store.{Lot, Store, same_bytes, known, paper_of, place_of, with_paper, Told, skip, receipt, issue, count, event_on}
use Rattle.store_log.specs.Replay.{replay_from}
use Rattle.store_log.specs.Read.{body_of, read_body, read_of, read_from, read_all, Outcome, replay_log}

abbrev bytes : String → Bytes
bytes S.[] = []
bytes (S.◌∷◌ c s) = code c ∷ bytes s

-- an event with its key as text, and the two bytes of its quantity
abbrev scan : Kind → String → ℕ → ℕ → Bytes
scan k key low high = letter k ∷ (bytes key ++ (low ∷ high ∷ []))

abbrev many : ℕ → Bytes → Bytes
many zero s = []
many (suc n) s = s ++ many n s

abbrev lot : String → ℕ → Lot
lot key paper = record { key = bytes key; paper = paper }

pub record Sample : Type 0 where
  pub log : Bytes
  pub is : Outcome

abbrev pub samples : List Sample
samples =
    record { log = []; is = record { told = []; store = []; close = Close.ended } } ∷
    -- received 300, issued 45, 250 on the shelf: 5 more on paper, and the paper figure stays
    record {
      log = scan Kind.received "ABCD   00417" 44 1 ++ scan Kind.issued "ABCD   00417" 45 0 ++ scan Kind.counted "ABCD   00417" 250 0;
      is = record { told = Told.received 300 ∷ Told.issued 45 ∷ Told.counted 0 255 250 (pos 5) ∷ []; store = lot "ABCD   00417" 255 ∷ []; close = Close.ended };
    } ∷
    -- 417 is not 00417: never received, so paper 0 and no entry; a day changes nothing; 28 is skipped
    record {
      log = scan Kind.received "ABCD00417   " 7 0 ++ scan Kind.counted "ABCD417     " 2 0 ++ bytes "D1234" ++ scan Kind.issued "ABCD417     " 1 0;
      is = record { told = Told.received 7 ∷ Told.counted 1 0 2 (negsuc 1) ∷ Told.noted ∷ Told.skipped 28 ∷ []; store = lot "ABCD00417   " 7 ∷ []; close = Close.ended };
    } ∷
    -- and at the right of its eight columns neither
    record {
      log = scan Kind.received "ABCD   00417" 7 0 ++ scan Kind.received "ABCD     417" 2 0 ++ scan Kind.counted "ABCD   00417" 7 0;
      is = record {
        told = Told.received 7 ∷ Told.received 2 ∷ Told.counted 0 7 7 (pos 0) ∷ [];
        store = lot "ABCD   00417" 7 ∷ lot "ABCD     417" 2 ∷ [];
        close = Close.ended;
      };
    } ∷
    -- a receipt of 0 makes an entry, an issue of 0 none
    record {
      log = scan Kind.issued "ABCD00000001" 0 0 ++ scan Kind.received "ABCD00000002" 0 0;
      is = record { told = Told.issued 0 ∷ Told.received 0 ∷ []; store = lot "ABCD00000002" 0 ∷ []; close = Close.ended };
    } ∷
    -- sixteen receipts of 65,535: the last would make 1,048,560
    record {
      log = many 16 (scan Kind.received "ABCD00000001" 255 255);
      is = record { told = replicate 15 (Told.received 65535) ++ (Told.skipped 29 ∷ []); store = lot "ABCD00000001" 983025 ∷ []; close = Close.ended };
    } ∷
    -- 26 even as the last byte; 27 in a scan and in a day
    record { log = bytes "D0000X"; is = record { told = Told.noted ∷ []; store = []; close = Close.refused 26 } } ∷
    record { log = bytes "RABCD00417   x"; is = record { told = []; store = []; close = Close.refused 27 } } ∷
    record { log = bytes "D123"; is = record { told = []; store = []; close = Close.refused 27 } } ∷
    []

pub samples_told : map (λ s. replay_log s.log) samples ≡ map (λ s. s.is) samples
unfolding same_bytes known paper_of place_of with_paper receipt issue count event_on replay_from body_of read_body read_of read_from read_all replay_log
samples_told = refl

-- a full store: a receipt for one more lot is skipped, one for a lot that it has is not
abbrev full : Store
full = lot "ABCD00000001" 7 ∷ replicate 511 (lot "ABCD00000002" 1)

pub full_told : receipt (bytes "ABCD00000003") 1 full ∷ receipt (bytes "ABCD00000001") 1 full ∷ [] ≡
    skip 30 full ∷ record { told = Told.received 1; store = lot "ABCD00000001" 8 ∷ replicate 511 (lot "ABCD00000002" 1) } ∷ []
unfolding same_bytes known paper_of with_paper receipt
full_told = refl
