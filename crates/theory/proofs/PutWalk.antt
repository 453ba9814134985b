-- The bytes of a put, one after the other: where each goes, and what holds of the disk behind them all.
use mathlib.Core.Bool.{true}
use mathlib.Core.List.{List, [], ◌∷◌, ◌++◌, append_assoc, append-nil}
use mathlib.Core.Logic.{◌≢◌}
use mathlib.Core.Path.{◌≡◌, refl, ap, ◌∙◌}
use Prim.Native.Nat.{ℕ, suc, ◌+◌, ◌<◌}
use native.Mathlib.Decide.{ℕ_discrete, dec_lt}
use native.Mathlib.Omega.{arith}
use lib.Dec.{eqb, eqb-suc-suc, eqb-zero-suc}
use lib.ListN.{length, take}
use lib.Seq.{append_snoc}
use borrow.Author.Tests.{eq-eqb}
use Rattle.layout.specs.Basics.{if}
use Rattle.layout.specs.Image.{Disk, Geometry}
use Rattle.layout.specs.Volume.{data_sector, free, lowest}
use Rattle.layout.specs.File.{in_use, give}
use Rattle.layout.specs.Status.{success, succeeds, Fails, disk_full}
use Rattle.layout.proofs.Give.{give-table}
use Rattle.layout.proofs.Data.{data_facts}
use Rattle.layout.proofs.Good.{Good, lowest-free}
use Rattle.layout.proofs.MapAll.{one-good}
use Rattle.rules.specs.Put.{Adds, room_in, add_byte, put_from}
use Rattle.rules.proofs.Rooms.{add_table, room-here, room-none, room_new, put_next, put_full}
use Rattle.theory.proofs.Give.{give_given}

-- what a put of xs ends in, where n bytes are counted, b is put and the sectors l are given out before: as many bytes as fitted, counted; 162 where not all did.
-- I is what holds of the bytes put so far, the sectors given out so far, the disk and the last sector
pub record Walks (I : List ℕ → List ℕ → Disk → ℕ → Type 0) (b l xs : List ℕ) (n : ℕ) (o : Adds) : Type 0 where
  pub fitted : ℕ
  pub count : o.added.count ≡ n + fitted
  pub status : o.added.status ≡ if (eqb fitted (length xs)) success disk_full
  pub holds : I (b ++ take fitted xs) (l ++ o.given) o.disk o.added.last

-- fewer fitted where it does not succeed
pub walk_short : {I : List ℕ → List ℕ → Disk → ℕ → Type 0} {b l xs : List ℕ} {n : ℕ} {o : Adds} (w : Walks I b l xs n o) → Fails o.added.status → w.fitted ≢ length xs
walk_short {xs = xs} w h e = h (ap succeeds w.status ∙ rw (eq-eqb w.fitted (length xs) e))

-- what is kept by a byte added to the last sector, and by the lowest free sector given out behind it, holds behind them all
module _ (g : Geometry) (roomy : 0 < g.room) (s : ℕ) (z : s < 64) (I : List ℕ → List ℕ → Disk → ℕ → Type 0)
    (add : (b l : List ℕ) (d : Disk) (p v : ℕ) → data_sector p ≡ true → in_use g (d p) < g.room → I b l d p → I (b ++ v ∷ []) l (add_byte g d p v) p)
    (new : (b l : List ℕ) (d : Disk) (p k : ℕ) → data_sector p ≡ true → data_sector k ≡ true → free (d 360) k ≡ true → I b l d p → I b (l ++ k ∷ []) (give g d s p k) k) where
  pub put_walk : (xs b l : List ℕ) (d : Disk) (p n : ℕ) → data_sector p ≡ true → Good (d 360) → I b l d p → Walks I b l xs n (put_from g xs d s p n)
  unfolding put_from
  put_walk [] b l d p n h w i = record { fitted = 0; count = omega arith; status = refl; holds = rw (append-nil b, append-nil l) i }
  put_walk (x ∷ xs) b l d p n h w i = go (dec_lt (in_use g (d p)) g.room) (ℕ_discrete (lowest (d 360)) 0) (put_walk xs)
    where
      More : Type 0
      More = (b l : List ℕ) (d : Disk) (p n : ℕ) → data_sector p ≡ true → Good (d 360) → I b l d p → Walks I b l xs n (put_from g xs d s p n)

      -- the byte goes into sector q, and the others behind it
      next : (m : List ℕ) (e : Disk) (q : ℕ) → data_sector q ≡ true → Good (e 360) → in_use g (e q) < g.room → I b (l ++ m) e q → More
          → let o = put_from g xs (add_byte g e q x) s q (n + 1) in Walks I b l (x ∷ xs) n (record { added = o.added; disk = o.disk; given = m ++ o.given })
      next m e q f t u i more =
          let r = more (b ++ x ∷ []) (l ++ m) (add_byte g e q x) q (n + 1) f (rw (add_table g e q x f) t) (add b (l ++ m) e q x f u i) in
          record {
            fitted = suc r.fitted;
            count = r.count ∙ omega arith;
            status = r.status ∙ rw (eqb-suc-suc r.fitted (length xs));
            holds = rw (append_snoc b x (take r.fitted xs), append_assoc l m) at r.holds;
          }

      go : Dec (in_use g (d p) < g.room) → Dec (lowest (d 360) ≡ 0) → More → Walks I b l (x ∷ xs) n (put_from g (x ∷ xs) d s p n)
      go (yes u) v more =
          let k = (data_facts p h).pos in
          rw (put_next g s x xs d p n (room_in p d []) (room-here g s d p u) (omega arith)) (next [] d p h w u (rw (append-nil l) i) more)
      go (no u) (yes v) more = rw (put_full g s x xs d p n (ap (λ r. r.sector) (room-none g s d p (lowest (d 360)) (omega arith) refl v)))
          (record { fitted = 0; count = omega arith; status = rw (eqb-zero-suc (length xs)); holds = rw (append-nil b, append-nil l) i })
      go (no u) (no v) more =
          let q = lowest (d 360) in
          let e = give g d s p q in
          let (f, hq) = lowest-free (d 360) w v in
          let table : Good (e 360) = rw (give-table g d s p q (data_facts p h).table (data_facts q hq).table) (one-good d q hq f w) in
          rw (put_next g s x xs d p n (room_in q e (q ∷ [])) (room_new g s d p q (omega arith) refl v) v)
          (next (q ∷ []) e q hq table (rw (give_given g d s q z hq p).empty roomy) (new b l d p q h hq f i) more)
