-- The two rows that every text begins with.
use Rattle.std.specs.Prelude.{not, List, ℕ}
use Rattle.layout.specs.Basics.{check}
use Rattle.layout.specs.Names.{has_device, has_unit}
use Rattle.layout.specs.Status.{success, bad_device, bad_unit}

-- device and unit: 130, 160, or 1
unfoldable pub device_status : List ℕ → ℕ
device_status text =
    check (not (has_device text)) bad_device λ _.
    check (not (has_unit text)) bad_unit λ _.
    success
