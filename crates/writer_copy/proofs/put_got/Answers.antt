-- `writer_copy::put_got` meets its contract.
use Rattle.writer_copy.specs.Copying.{got_headers, got_items, got_items_end, got_sound, got_done, got_refused}
use Rattle.writer_copy.proofs.put_got.Goals as goal

pub slice_bounds-put_read-end : goal.slice_bounds-put_read-end
slice_bounds-put_read-end c = search got_headers

pub slice_bounds-put_read-count-in-Read : goal.slice_bounds-put_read-count-in-Read
slice_bounds-put_read-count-in-Read c = search got_items

pub slice_bounds-put_read-start-in-Read : goal.slice_bounds-put_read-start-in-Read
slice_bounds-put_read-start-in-Read c = search got_items

pub slice_bounds-put_read-end-in-Read : goal.slice_bounds-put_read-end-in-Read
slice_bounds-put_read-end-in-Read c = search got_items_end

pub put_read-requires : goal.put_read-requires
put_read-requires c = search got_sound

pub returns-in-Read : goal.returns-in-Read
returns-in-Read c = search got_done

pub returns-in-Refused : goal.returns-in-Refused
returns-in-Refused c = search got_refused
