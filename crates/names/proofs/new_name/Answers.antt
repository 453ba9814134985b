use Prim.Native.Nat.{◌+◌}
use Rattle.layout.proofs.Tells.{tells_name_of}
use Rattle.layout.specs.Names.{ending, body, whole_end, new_name}
use Rattle.names.proofs.new_name.Goals as goal

pub returns : goal.returns
unfolding new_name
returns c =
    let text = c.args.text.now in
    let n = c.name_at.ensures ending (λ x b h e. e) in
    tells_name_of (new_name text) (whole_end text (whole_end text (body text) + 1)) {r = c.name_at.result} (cc)
