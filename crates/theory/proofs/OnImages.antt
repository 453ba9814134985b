-- Calls on images that are served: they run alike to the calls on the disks that the images hold, so soundness and demands 2 and 3 hold on images, whatever the medium.
use mathlib.Core.List.{List, [], ◌∷◌}
use mathlib.Core.Path.{◌≡◌, refl, sym, ap, ◌∙◌, subst}
use Prim.Native.Nat.{ℕ, ◌<◌}
use native.Mathlib.Omega.{arith}
use lib.ListN.{length}
use Rattle.layout.specs.declared.density.Medium.{Medium}
use Rattle.layout.specs.Image.{Geometry, geometry_of, view, image_of}
use Rattle.layout.specs.Header.{served_as}
use Rattle.layout.specs.Status.{succeeds}
use Rattle.rules.specs.Commands.{Effect}
use Rattle.rules.specs.Cio.{Outcome, ImageOutcome, leaves}
use Rattle.rules.specs.Lists.{Call, cio_of, recovery_of, System, run, after, outcome_of, perform, disks, ImageTable, recovering_on, outcome_on, after_on, system_of, left_on, images, IsServed, ImageSound}
use Rattle.rules.specs.Demand2.{ImageDemand2}
use Rattle.rules.specs.Demand3.{ImageDemand3}
use Rattle.rules.specs.Sound.{Sound}
use Rattle.theory.proofs.Served.{laws, viewed, cio-on, recover-on, held-view, held-served}
use Rattle.theory.proofs.Placed.{Placed}
use Rattle.theory.proofs.PlacedCalls.{call_placed}
use Rattle.theory.proofs.SoundCalls.{calls-sound}
use Rattle.theory.proofs.Formatted.{formatted-sound}
use Rattle.theory.proofs.Demand2.{demand2}
use Rattle.theory.proofs.Demand3.{demand3}
use Rattle.theory.proofs.Alike.{Alike, demand2_alike, demand3_alike}

module _ (m : Medium) where
  abbrev g : Geometry
  g = geometry_of m

  -- a file sector of the disks served has room
  pub roomy : (x : ImageTable) → IsServed m x → 0 < g.room
  roomy x w = let r = (laws x.image m w).roomy in omega arith

  -- a call on the image is the call on its disk
  outcome-on : (c : Call) (x : ImageTable) → IsServed m x → outcome_on c x ≡ leaves g x.image (outcome_of g c (system_of g x))
  unfolding outcome_on outcome_of
  outcome-on (cio_of c text b) x w = cio-on x.image m w x.table c text b
  outcome-on (recovery_of protected s) x w = ap (λ r. recovering_on r x.table) (recover-on x.image m w protected s)

  module _ (c : Call) (x : ImageTable) (w : IsServed m x) where
    abbrev e : Effect
    e = perform g c (system_of g x)

    abbrev l : List ℕ
    l = x.image

    placed : Placed g (view g l 0) e.disk
    placed = call_placed g (laws l m w) (view g l 0) c (system_of g x) (viewed l m w)

    image-after : (outcome_on c x).image ≡ image_of g (length l) e.disk
    image-after = ap (λ (o : ImageOutcome). o.image) (outcome-on c x w)

    -- the image after the call holds the disk after the call
    disk-after : view g (outcome_on c x).image ≡ e.disk
    disk-after = ap (view g) image-after ∙ held-view l m w e.disk placed

    system-after : system_of g (after_on (outcome_on c x)) ≡ after e
    system-after = rw (disk-after, outcome-on c x w)

    left_after_lem : left_on g (outcome_on c x) ≡ outcome_of g c (system_of g x)
    left_after_lem = rw (disk-after, outcome-on c x w)

    -- and is served alike
    served-after : IsServed m (after_on (outcome_on c x))
    served-after = ap served_as image-after ∙ held-served l m w e.disk placed

  -- and so on along a list
  served-run : (cs : List Call) (x : ImageTable) → IsServed m x → IsServed m (run (images g) cs x)
  unfolding run
  served-run [] x w = w
  served-run (c ∷ cs) x w = served-run cs (after_on (outcome_on c x)) (served-after c x w)

  run_on : (cs : List Call) (x : ImageTable) → IsServed m x → system_of g (run (images g) cs x) ≡ run (disks g) cs (system_of g x)
  unfolding run
  run_on [] x w = refl
  run_on (c ∷ cs) x w = run_on cs (after_on (outcome_on c x)) (served-after c x w) ∙ ap (run (disks g) cs) (system-after c x w)

  -- so calls on the image run alike to calls on its disk
  images-alike : (x : ImageTable) → IsServed m x → Alike (images g) (disks g) x (system_of g x)
  images-alike x w = record { systems = λ cs. run_on cs x w; outcomes = λ cs c. left_after_lem c (run (images g) cs x) (served-run cs x w) ∙ ap (outcome_of g c) (run_on cs x w) }

  -- soundness on images
  pub image-sound : ImageSound m
  image-sound = record {
    kept = λ x w cs. served-run cs x w;
    calls = λ x h cs.
        let w = h.served in
        record { served = served-run cs x w; sound = subst (λ (z : System). Sound g z.disk z.table) (sym (run_on cs x w)) (calls-sound g (roomy x w) cs (system_of g x) h.sound) };
    formats = λ x w n c text b e q.
        let call = cio_of c text b in
        let s = left_after_lem call x w in
        record { served = served-after call x w; sound = subst (λ (o : Outcome). Sound g o.effect.disk o.effect.table) (sym s) (formatted-sound g (system_of g x) n c text b e (ap (λ (o : Outcome). succeeds o.effect.status) (sym s) ∙ q)) };
  }

-- demands 2 and 3 on images
pub image_demand2 : ImageDemand2
image_demand2 m x h = let g = geometry_of m in demand2_alike (images g) (disks g) g x (system_of g x) (images-alike m x h.served) (demand2 g (roomy m x h.served) (system_of g x) h.sound)

pub image_demand3 : ImageDemand3
image_demand3 m x h = let g = geometry_of m in demand3_alike (images g) (disks g) g x (system_of g x) (images-alike m x h.served) (demand3 g (roomy m x h.served) (system_of g x) h.sound)
