-- A read or a write on the record of a channel does to it what a get or a put of the same form does to that channel of a table.
use mathlib.Core.List.{List, []}
use mathlib.Core.Path.{◌≡◌, refl, sym, ap, ◌∙◌}
use Prim.Native.Nat.{ℕ, ◌<◌}
use Rattle.layout.specs.declared.Table.{Table}
use Rattle.std.specs.Prelude.{None, Result, Ok, Err}
use Rattle.layout.specs.declared.density.Medium.{Medium}
use Rattle.layout.specs.Image.{geometry_of, view}
use Rattle.layout.specs.Header.{served_as}
use Rattle.layout.specs.Channels.{channel, state_of, with_state}
use Rattle.layout.proofs.Channels.{with_id}
use Rattle.layout.proofs.Check.{served_as_lem, served_not}
use Rattle.layout.proofs.Header.{served_whole}
use Rattle.layout.proofs.Image.{lawful, image-view}
use Rattle.rules.specs.declared.Block.{Block}
use Rattle.rules.specs.declared.Form.{Form}
use Rattle.rules.specs.declared.Transfer.TheVariants.{Get, Put}
use Rattle.rules.specs.declared.Command.TheVariants.{Moves}
use Rattle.rules.specs.Get.{GetOutcome}
use Rattle.rules.specs.Commands.{put_at}
use Rattle.rules.specs.Cio.{get_at, Asks, transfer, command, ImageOutcome, leaves, cio_call}
use Rattle.rules.specs.Thin.{ImagePutOutcome, read_lent, write_lent}
use Rattle.rules.proofs.Does.{does}

-- what a call answers, with the image and the buffer after it
abbrev tells : ℕ → ℕ → Table → List ℕ → List ℕ → List ℕ → ImageOutcome
tells status n t l b ks = record { answer = record { status = status; count = n; table = t }; image = l; buffer = b; given = ks; took = None }

module _ (l : List ℕ) (t : Table) where
  -- what a call that moves channel i does, of what a thin call on its record does
  abbrev pub get_whole : ℕ → GetOutcome → ImageOutcome
  get_whole i o = tells o.answer.status o.answer.count (with_state t i o.answer.state) l o.buffer []

  -- a put tells besides which sectors it gave out
  abbrev pub put_whole : ℕ → List ℕ → ImagePutOutcome → ImageOutcome
  put_whole i b o = tells o.answer.status o.answer.count (with_state t i o.answer.state) o.image b o.given

  -- with a channel of the table
  module _ (c : Block) (text b : List ℕ) (low : c.channel < 8) where
    pub get_whole_lem : {f : Form} → Asks c (Moves (Get f)) → cio_call l t c text b ≡ get_whole c.channel (read_lent f l (channel (state_of t c.channel)) b)
    unfolding cio_call command transfer get_at read_lent
    get_whole_lem {f = f} e = go (served_as l) refl
      where
        go : (v : Result Medium ℕ) → served_as l ≡ v → cio_call l t c text b ≡ get_whole c.channel (read_lent f l (channel (state_of t c.channel)) b)
        go (Err status) q =
            served_not {A = ImageOutcome} _ _ _ q ∙ ap (λ u. tells status 0 u l b []) (sym (with_id t c.channel _ refl))
            ∙ ap (get_whole c.channel) (sym (served_not {A = GetOutcome} _ _ _ q))
        go (Ok m) q =
            let g = geometry_of m in
            served_as_lem {A = ImageOutcome} _ _ _ q ∙ ap (leaves g l) (does g (view g l) t c text b (record { small = low; command = e }))
            ∙ rw (image-view g (lawful m (served_whole l m q).0) l) (ap (get_whole c.channel) (sym (served_as_lem {A = GetOutcome} _ _ _ q)))

    pub put_whole_lem : {f : Form} → Asks c (Moves (Put f)) → cio_call l t c text b ≡ put_whole c.channel b (write_lent f l c.protected (channel (state_of t c.channel)) b)
    unfolding cio_call command transfer put_at write_lent
    put_whole_lem {f = f} e = go (served_as l) refl
      where
        go : (v : Result Medium ℕ) → served_as l ≡ v → cio_call l t c text b ≡ put_whole c.channel b (write_lent f l c.protected (channel (state_of t c.channel)) b)
        go (Err status) q =
            served_not {A = ImageOutcome} _ _ _ q ∙ ap (λ u. tells status 0 u l b []) (sym (with_id t c.channel _ refl))
            ∙ ap (put_whole c.channel b) (sym (served_not {A = ImagePutOutcome} _ _ _ q))
        go (Ok m) q =
            let g = geometry_of m in
            served_as_lem {A = ImageOutcome} _ _ _ q ∙ ap (leaves g l) (does g (view g l) t c text b (record { small = low; command = e }))
            ∙ ap (put_whole c.channel b) (sym (served_as_lem {A = ImagePutOutcome} _ _ _ q))
