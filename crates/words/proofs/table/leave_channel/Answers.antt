use Rattle.words.proofs.Tables.{record-at_place, with-at_place}
use Rattle.words.proofs.table.leave_channel.Goals as goal

pub returns : goal.returns
returns c = rw (with-at_place _ _ _ _ c.place_of.ensures, c.leave_state.ensures, record-at_place _ _ _ _ c.place_of.ensures)
