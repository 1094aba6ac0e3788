-- `writer_catalogue::fill_room` meets its contract.
use borrow.Author.Rules.{rules}
use Rattle.writer_catalogue.specs.TwoPasses.{passed_fits, passed_answer, passed_room, stopped_answer, stopped_room}
use Rattle.reader_walk.specs.Walked.{beside_join}
use Rattle.writer_catalogue.proofs.fill_room.Goals as goal

pub write_file-requires : goal.write_file-requires
write_file-requires c = search passed_fits

pub returns-in-Done : goal.returns-in-Done
returns-in-Done c = record {
  value = search passed_answer;
  room_after = search passed_room;
  beside = search beside_join;
  beside_2 = search beside_join;
}

pub returns-in-Refused : goal.returns-in-Refused
returns-in-Refused c = record {
  value = search stopped_answer;
  room_after = search stopped_room;
  beside = search;
  beside_2 = search;
}
