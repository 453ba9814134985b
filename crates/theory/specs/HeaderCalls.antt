-- What the header's writer leaves: an image that is served, by the density of its length, and every sector as it was.
use Rattle.std.specs.Prelude.{Ok, Bool, List, ◌≡◌, ℕ, ◌≤◌, length}
use Rattle.layout.specs.declared.density.Medium.{Medium}
use Rattle.layout.specs.Image.{geometry_of, view}
use Rattle.layout.specs.Header.{served_as}
use Rattle.layout.specs.Status.{Succeeds}
use Rattle.rules.specs.WriteHeader.{header_call}

-- image l with a header written into it is l'
pub record Headed (l l' : List ℕ) : Type 0 where
  pub medium : Medium
  pub served : served_as l' ≡ Ok medium
  pub long : length l' ≡ length l
  pub sectors : (k j : ℕ) → 1 ≤ k → view (geometry_of medium) l' k j ≡ view (geometry_of medium) l k j

-- on any image, whatever its old header
abbrev pub HeaderCalls : Type 0
HeaderCalls = (l : List ℕ) (protected : Bool) → let o = header_call l protected in Succeeds o.reply.status → Headed l o.image
