use Rattle.capi.proofs.Inside.{get_ends, put_ends}
use Rattle.capi.proofs.Laws.{channel-ends}
use Rattle.capi.specs.Leaves.{CioLeaves, cio_leaves}
use Rattle.rules.specs.declared.Command.TheVariants.{Moves}
use Rattle.words.proofs.Tables.{table_length}
use Rattle.layout.proofs.Check.{check_yes}
use mathlib.Core.Path.{refl, sym, ap, ◌∙◌}
use mathlib.Core.Bool.{not}
use Rattle.capi.proofs.dos_cio.Goals as goal

pub returns-then-not-is_table : goal.returns-then-not-is_table
unfolding cio_leaves
returns-then-not-is_table c = rw (check_yes {A = CioLeaves} _ _ _ (ap not (sym c.is_table.ensures ∙ c.if-not-is_table.true))) (refl, refl, refl, refl)

pub returns-then-channel-ge8 : goal.returns-then-channel-ge8
returns-then-channel-ge8 c = channel-ends _ _ _ _ _ (sym c.is_table.ensures ∙ c.if-not-is_table.false) c.if-channel-ge8.true _ c.no_channel.ensures

pub get_direct-requires : goal.get_direct-requires
get_direct-requires c = (table_length _ (sym c.is_table.ensures ∙ c.if-not-is_table.false), c.if-channel-ge8.false)

pub put_direct-requires : goal.put_direct-requires
put_direct-requires c = (table_length _ (sym c.is_table.ensures ∙ c.if-not-is_table.false), c.if-channel-ge8.false)

pub returns-in-Moves-Get : goal.returns-in-Moves-Get
returns-in-Moves-Get c =
    let told = c.get_direct.ensures in
    get_ends _ _ _ _ _ (sym c.is_table.ensures ∙ c.if-not-is_table.false) c.if-channel-ge8.false (sym c.command_of.ensures.0 ∙ c.in-Moves-Get.is ∙ ap Moves c.in-Moves-Get.field-0-is) _ told.0 _ told.1 _ told.2

pub returns-in-Moves-Put : goal.returns-in-Moves-Put
returns-in-Moves-Put c =
    let told = c.put_direct.ensures in
    put_ends _ _ _ _ _ (sym c.is_table.ensures ∙ c.if-not-is_table.false) c.if-channel-ge8.false (sym c.command_of.ensures.0 ∙ c.in-Moves-Put.is ∙ ap Moves c.in-Moves-Put.field-0-is) _ told.0 _ told.1 _ told.2
