-- What C sees of request P8: in the low eight bits of its result, where the header takes the status from (dos_answer_status), no exported function has 161.
use Rattle.std.specs.Prelude.{Bool, List, ◌≢◌, ℕ, ◌%◌}
use Rattle.rules.specs.declared.Reply.{Reply}
use Rattle.rules.specs.declared.Block.{Block}
use Rattle.rules.specs.Recovery.{recover_call}
use Rattle.rules.specs.Sectors.{sector_call}
use Rattle.rules.specs.WriteHeader.{header_call}
use Rattle.words.specs.Result.{result_of}
use Rattle.capi.specs.Leaves.{cio_leaves, get_leaves, put_leaves, shown_result, name_leaves}

-- a result whose status is not 161
abbrev pub Not161 : ℕ → Type 0
Not161 result = result % 256 ≢ 161

-- the result of a call that answers this
abbrev pub replied : Reply → ℕ
replied r = result_of r.status r.count

-- each exported function by the definition that its contract equates it with: on any image, with the notch either way, words, command block, name, buffer, slot and sector, malformed ones too
pub record ResultsNever161 : Type 0 where
  pub cio : (l ws : List ℕ) (c : Block) (text b : List ℕ) → Not161 (cio_leaves l ws c text b).result
  pub recover : (l : List ℕ) (protected : Bool) (s : ℕ) → Not161 (replied (recover_call l protected s).reply)
  pub sector : (l : List ℕ) (protected : Bool) (device unit command k : ℕ) (b : List ℕ) → Not161 (replied (sector_call l protected device unit command k b).reply)
  pub show : (l : List ℕ) (s k : ℕ) → Not161 (shown_result l s k)
  pub thin_get : (l ws b : List ℕ) → Not161 (get_leaves l ws b).result
  pub thin_put : (l : List ℕ) (protected : Bool) (ws b : List ℕ) → Not161 (put_leaves l protected ws b).result
  pub name : (text b : List ℕ) → Not161 (name_leaves text b).result
  pub header : (l : List ℕ) (protected : Bool) → Not161 (replied (header_call l protected).reply)
