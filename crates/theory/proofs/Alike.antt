-- Two machines that run alike: what demands 2 and 3 say of lists of calls on the one they say on the other.
use mathlib.Core.Bool.{false}
use mathlib.Core.List.{List, [], ◌∷◌}
use mathlib.Core.Path.{◌≡◌, refl, sym, ap, ◌∙◌, subst, fun_ext}
use Prim.Native.Nat.{ℕ}
use Rattle.layout.specs.Image.{Geometry}
use Rattle.layout.specs.File.{file}
use Rattle.layout.specs.Channels.{open_at}
use Rattle.layout.specs.Names.{read_name}
use Rattle.layout.specs.Status.{succeeds}
use Rattle.rules.specs.Cio.{Outcome}
use Rattle.rules.specs.Lists.{Call, cio_of, recovery_of, System, Event, Machine, run, events}
use Rattle.rules.specs.Demand2.{Finds, StaysOpen, WritesTo, AtStart, LeavesAll, LeavesNameAll, OpenedOutput, Stored, Delivered, put_bytes, got_bytes, left_after, Uncut, DeliveredOver, Returns, Demand2}
use Rattle.rules.specs.Demand3.{SparesAll, given_by, Recovers, Demand3}
use Rattle.rules.specs.Sound.{Stands}

module _ {X Y : Type 0} (m : Machine X) (n : Machine Y) where
  -- after any list of calls they hold the same disk and channels, and a call has the same outcome
  pub record Alike (x : X) (y : Y) : Type 0 where
    pub systems : (cs : List Call) → m.system (run m cs x) ≡ n.system (run n cs y)
    pub outcomes : (cs : List Call) (c : Call) → m.outcome c (run m cs x) ≡ n.outcome c (run n cs y)

  -- so they do after a call, and after any list
  alike_next : (x : X) (y : Y) → Alike x y → (c : Call) → Alike (m.next c x) (n.next c y)
  unfolding run
  alike_next x y h c = record { systems = λ cs. h.systems (c ∷ cs); outcomes = λ cs. h.outcomes (c ∷ cs) }

  alike-run : (cs : List Call) (x : X) (y : Y) → Alike x y → Alike (run m cs x) (run n cs y)
  unfolding run
  alike-run [] x y h = h
  alike-run (c ∷ cs) x y h = alike-run cs (m.next c x) (n.next c y) (alike_next x y h c)

  module _ (x : X) (y : Y) (h : Alike x y) where
    same-system : m.system x ≡ n.system y
    unfolding run
    same-system = h.systems []

    same_outcome : (c : Call) → m.outcome c x ≡ n.outcome c y
    unfolding run
    same_outcome c = h.outcomes [] c

    same-status : (c : Call) → (m.outcome c x).effect.status ≡ (n.outcome c y).effect.status
    same-status c = ap (λ (o : Outcome). o.effect.status) (same_outcome c)

  same-events : (cs : List Call) (x : X) (y : Y) → Alike x y → events m cs x ≡ events n cs y
  unfolding events
  same-events [] x y h = refl
  same-events (c ∷ cs) x y h = rw (same-system x y h, same_outcome x y h c, same-events cs (m.next c x) (n.next c y) (alike_next x y h c))

  -- so what is said of the disk before a list of calls and behind it, of the outcomes of calls behind it, and of its events
  over_alike : (P : System → System → (Call → Outcome) → List Event → Type 0) (cs : List Call) (x : X) (y : Y) → Alike x y
      → (let z = run n cs y in P (n.system y) (n.system z) (λ c. n.outcome c z) (events n cs y)) → let z = run m cs x in P (m.system x) (m.system z) (λ c. m.outcome c z) (events m cs x)
  over_alike P cs x y h k =
      let h1 = alike-run cs x y h in
      rw (same-system x y h, same-system (run m cs x) (run n cs y) h1, fun_ext (same_outcome (run m cs x) (run n cs y) h1), same-events cs x y h) k

  module _ (g : Geometry) where
    delivered_alike : (x : X) (y : Y) → Alike x y → (bytes : List ℕ) (sure : Type 0) (i s : ℕ) (cs : List Call) → DeliveredOver g n bytes sure y i s cs → DeliveredOver g m bytes sure x i s cs
    delivered_alike x y h bytes sure i s cs = over_alike (λ a z does es. Delivered g bytes sure a z does i s (got_bytes i es) (left_after i cs bytes) (Uncut i es)) cs x y h

    returns_alike : (x : X) (y : Y) → Alike x y → (text put : List ℕ) (s : ℕ) (same : Type 0) → Returns g n text put s same y → Returns g m text put s same x
    returns_alike x y h text put s same r =
        let e = same-system x y h in
        record {
          stands = subst (λ (z : System). Stands z.disk s) (sym e) r.stands;
          bytes = ap (λ (z : System). file g z.disk s) e ∙ r.bytes;
          finds = λ k. subst (λ (z : System). Finds z.disk (read_name text) s) (sym e) (r.finds k);
          opens = λ c again b p q k l o. same-status x y h (cio_of c again b) ∙ r.opens c again b p q (subst (λ (z : System). Finds z.disk (read_name again) s) e k) l (ap (λ (z : System). open_at z.table c.channel) (sym e) ∙ o);
          reads = λ c again b p q k o es ns.
              let call = cio_of c again b in
              let x1 = m.next call x in
              let y1 = n.next call y in
              let h1 = alike_next x y h call in
              delivered_alike x1 y1 h1 put _ c.channel s es (r.reads c again b p q (subst (λ (z : System). Finds z.disk (read_name again) s) e k) (ap succeeds (sym (same-status x y h call)) ∙ o) es (subst (StaysOpen c.channel) (same-events es x1 y1 h1) ns));
        }

    module _ (x : X) (y : Y) (h : Alike x y) where
      e : m.system x ≡ n.system y
      e = same-system x y h

      after_call : (c : Call) → m.system (m.next c x) ≡ n.system (n.next c y)
      after_call c = same-system (m.next c x) (n.next c y) (alike_next x y h c)

      after_list : (cs : List Call) → m.system (run m cs x) ≡ n.system (run n cs y)
      after_list cs = same-system (run m cs x) (run n cs y) (alike-run cs x y h)

      pub demand2_alike : Demand2 g n y → Demand2 g m x
      demand2_alike d = record {
        opens = λ c text b p q k. let call = cio_of c text b in subst (OpenedOutput g c text) (sym (after_call call)) (d.opens c text b p q (ap succeeds (sym (same-status x y h call)) ∙ k));
        puts = λ i s l w cs ns. over_alike (λ a z does es. Stored g a z does i s (put_bytes i es)) cs x y h (d.puts i s l (subst (λ (z : System). WritesTo z.table i s) e w) cs (subst (StaysOpen i) (same-events cs x y h) ns));
        keeps = λ s v cs k. rw (e, after_list cs) (d.keeps s (subst (λ (z : System). Stands z.disk s) e v) cs (subst (LeavesAll s) (same-events cs x y h) k));
        names = λ s v cs k l.
            let f = same-events cs x y h in
            rw (e, after_list cs) (d.names s (subst (λ (z : System). Stands z.disk s) e v) cs (subst (LeavesAll s) f k) (subst (LeavesNameAll s) f l));
        reopens = λ c text b p q s k o. let call = cio_of c text b in rw (after_call call, e) (d.reopens c text b p q s (subst (λ (z : System). Finds z.disk (read_name text) s) e k) (ap succeeds (sym (same-status x y h call)) ∙ o));
        gets = λ i s l a cs ns. delivered_alike x y h _ _ i s cs (rw e (d.gets i s l (subst (λ (z : System). AtStart z i s) e a) cs (subst (StaysOpen i) (same-events cs x y h) ns)));
        whole = λ c text b p q k s w cs ns close r u.
            let call = cio_of c text b in
            let x1 = m.next call x in
            let y1 = n.next call y in
            let h1 = alike_next x y h call in
            let x2 = run m cs x1 in
            let y2 = run n cs y1 in
            let h2 = alike-run cs x1 y1 h1 in
            let x3 = m.next close x2 in
            let y3 = n.next close y2 in
            let h3 = alike_next x2 y2 h2 close in
            let (done, returns) = d.whole c text b p q (ap succeeds (sym (same-status x y h call)) ∙ k) s (subst (λ (z : System). WritesTo z.table c.channel s) (after_call call) w) cs (subst (StaysOpen c.channel) (same-events cs x1 y1 h1) ns) close r u in (
              same-status x2 y2 h2 close ∙ done,
              λ ds l.
                  let f = same-events ds x3 y3 h3 in
                  returns_alike (run m ds x3) (run n ds y3) (alike-run ds x3 y3 h3) text _ s _ (rw (same-events cs x1 y1 h1, f) (returns ds (subst (LeavesAll s) f l))),
            );
      }

      pub demand3_alike : Demand3 g n y → Demand3 g m x
      demand3_alike d c text b u w s p q f k cs sp =
          let del = cio_of c text b in
          let x1 = m.next del x in
          let y1 = n.next del y in
          let h1 = alike_next x y h del in
          over_alike (λ _ z does es. Recovers g (m.system x).disk s (given_by es) z (does (recovery_of false s)).effect) cs x1 y1 h1
          (rw e (d c text b u w s p q (rw e at f) (ap succeeds (sym (same-status x y h del)) ∙ k) cs (subst (SparesAll s) (same-events cs x1 y1 h1) sp)))
