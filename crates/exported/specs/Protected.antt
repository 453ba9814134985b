-- What C sees of the notch: with a value other than 0 no exported function changes a byte of the image.
use Rattle.std.specs.Prelude.{List, ◌≢◌, ◌≡◌, ℕ}
use Rattle.layout.specs.Image.{Geometry}
use Rattle.rules.specs.Recovery.{recover_call}
use Rattle.rules.specs.Sectors.{sector_call}
use Rattle.rules.specs.WriteHeader.{header_call}
use Rattle.rules.specs.Lists.{Call, run}
use Rattle.rules.specs.Protected.{AllProtected}
use Rattle.capi.specs.Leaves.{closed, block, cio_leaves, put_leaves}
use Rattle.exported.specs.Words.{ImageWords, words}

-- each exported function that is lent an image to write to, by the definition that its contract equates it with: on any image, words, name, buffer, slot and sector, malformed ones too
pub record WordsProtected : Type 0 where
  pub cio : (l ws : List ℕ) (notch channel command direction : ℕ) (text b : List ℕ) → notch ≢ 0 → (cio_leaves l ws (block notch channel command direction) text b).image ≡ l
  pub recover : (l : List ℕ) (notch s : ℕ) → notch ≢ 0 → (recover_call l (closed notch) s).image ≡ l
  pub sector : (l : List ℕ) (notch device unit command k : ℕ) (b : List ℕ) → notch ≢ 0 → (sector_call l (closed notch) device unit command k b).image ≡ l
  pub thin_put : (l : List ℕ) (notch : ℕ) (ws b : List ℕ) → notch ≢ 0 → (put_leaves l (closed notch) ws b).image ≡ l
  pub header : (l : List ℕ) (notch : ℕ) → notch ≢ 0 → (header_call l (closed notch)).image ≡ l
  -- and so any list of calls of dos_cio and dos_recover that have it closed
  pub lists : (g : Geometry) (cs : List Call) (x : ImageWords) → AllProtected cs → (run (words g) cs x).image ≡ x.image
