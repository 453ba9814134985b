use Rattle.words.proofs.Tables.{record-at_place, with-at_place}
use Rattle.capi.proofs.direct.get_direct.Goals as goal

pub returns : goal.returns
returns c =
    let p = c.place_of.ensures in
    let o = rw (record-at_place _ _ _ _ p) at c.get_words.ensures in
    (o.0, rw (with-at_place _ _ _ _ p, o.1), o.2)
