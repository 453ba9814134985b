use Rattle.words.proofs.Tables.{record-at_place, with-at_place}
use Rattle.capi.proofs.direct.put_direct.Goals as goal

pub returns : goal.returns
returns c =
    let p = c.place_of.ensures in
    let o = rw (record-at_place _ _ _ _ p) at c.put_by_notch.ensures in
    (o.0, o.1, rw (with-at_place _ _ _ _ p, o.2))
