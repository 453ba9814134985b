use native.Mathlib.Omega.{arith}
use Rattle.volume.proofs.Below.{lowest_at}
use Rattle.volume.proofs.lowest.lowest_from.Goals as goal

pub returns-then-v-ne0 : goal.returns-then-v-ne0
returns-then-v-ne0 c = lowest_at _ _ _ _ (omega arith) c.requires.2 c.byte-v.ensures c.highest.ensures
