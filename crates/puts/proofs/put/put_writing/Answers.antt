use Rattle.puts.proofs.Slots.{writable-slot, writable-last}
use mathlib.Core.Path.{sym, ◌∙◌}
use native.Mathlib.Omega.{arith}
use Rattle.puts.proofs.put.put_writing.Goals as goal

pub add_as-requires : goal.add_as-requires
add_as-requires c =
    let w = sym c.writable.ensures ∙ c.if-not-writable.false in
    (omega arith, writable-slot _ _ _ _ w, writable-last _ _ _ _ w, sym c.table_good.ensures ∙ c.if-not-table_good.false)
