-- The write-protect notch: with it closed, no call changes a byte of the image.
use Rattle.std.specs.Prelude.{true, false, List, [], ◌∷◌, ◌≢◌, ◌≡◌, ℕ}
use Rattle.layout.specs.declared.Channel.{Channel}
use Rattle.layout.specs.declared.Table.{Table}
use Rattle.rules.specs.declared.Block.{Block}
use Rattle.layout.specs.Image.{Geometry}
use Rattle.layout.specs.Status.{write_protected}
use Rattle.rules.specs.Cio.{cio_call}
use Rattle.rules.specs.Recovery.{recover_call}
use Rattle.rules.specs.Sectors.{sector_call}
use Rattle.rules.specs.Thin.{thin_get, thin_put}
use Rattle.rules.specs.WriteHeader.{header_call}
use Rattle.rules.specs.Lists.{Call, protected_in, ImageTable, images, run}

-- every call of the list has the notch closed
abbrev pub AllProtected : List Call → Type 0
AllProtected [] = Unit {0}
AllProtected (c ∷ cs) = (protected_in c ≡ true) × AllProtected cs

-- any image, served or not and sound or not, with any channels, command block, name, buffer, slot, sector and channel record. Thin reads and showing are lent no image that they could write to
pub record Protects : Type 0 where
  pub calls : (l : List ℕ) (t : Table) (c : Block) (text b : List ℕ) → c.protected ≡ true → (cio_call l t c text b).image ≡ l
  pub recoveries : (l : List ℕ) (s : ℕ) → (recover_call l true s).image ≡ l
  pub sectors : (l : List ℕ) (device unit command k : ℕ) (b : List ℕ) → (sector_call l true device unit command k b).image ≡ l
  pub thin_puts : (l : List ℕ) (c : Channel) (b : List ℕ) → (thin_put l true c b).image ≡ l
  pub headers : (l : List ℕ) → (header_call l true).image ≡ l
  -- and so any list of CIO calls and recoveries
  pub lists : (g : Geometry) (cs : List Call) (x : ImageTable) → AllProtected cs → (run (images g) cs x).image ≡ x.image

-- 144 is answered with the notch closed and at no other time; a thin read knows no notch and never answers it
pub record OnlyProtected : Type 0 where
  pub calls : (l : List ℕ) (t : Table) (c : Block) (text b : List ℕ) → c.protected ≡ false → (cio_call l t c text b).answer.status ≢ write_protected
  pub recoveries : (l : List ℕ) (s : ℕ) → (recover_call l false s).reply.status ≢ write_protected
  pub sectors : (l : List ℕ) (device unit command k : ℕ) (b : List ℕ) → (sector_call l false device unit command k b).reply.status ≢ write_protected
  pub thin_gets : (l : List ℕ) (c : Channel) (b : List ℕ) → (thin_get l c b).answer.status ≢ write_protected
  pub thin_puts : (l : List ℕ) (c : Channel) (b : List ℕ) → (thin_put l false c b).answer.status ≢ write_protected
  pub headers : (l : List ℕ) → (header_call l false).reply.status ≢ write_protected
