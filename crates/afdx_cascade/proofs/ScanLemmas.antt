-- What the scan of all switches finds is what comes first.
use Rattle.std.proofs.Common.{◌≡◌, ℕ, zero, suc, ◌+◌, ◌*◌, ◌<◌, ◌≤◌, ◌⊎◌, Bool, true, false, List, [], ◌∷◌}
use Rattle.std.proofs.Common.{length, refl, sym, ap, ◌∙◌, subst, arith, inl, inr}
use Rattle.std.specs.Prelude.{if◌then◌else◌, Option, Some, None, slice_get, IfSome, IfNone}
use Rattle.std.proofs.lemmas.Option.{slice_get_within}
use Rattle.afdx_frame.specs.declared.link.Side.{Side}
use Rattle.afdx_frame.specs.declared.link.Side.TheVariants.{A, B}
use Rattle.afdx_config.specs.Rows.{Rows}
use Rattle.afdx_port.specs.declared.left.Due.{Due}
use Rattle.afdx_port.specs.Due.{given_at, order_of}
use Rattle.afdx_port.specs.History.{due_at}
use Rattle.afdx_port.specs.Ports.{order_at, order_without_turn}
use Rattle.afdx_port.specs.Schedule.{Turn}
use Rattle.afdx_switch.specs.HeldFrames.{HeldFrame}
use Rattle.afdx_switch.specs.Switching as switch
use Rattle.afdx_switch.specs.Tables.{entries_at}
use Rattle.afdx_network.specs.Events.{Event, calls_on}
use Rattle.afdx_network.specs.Network as network
use Rattle.afdx_network.specs.Network.{IsNextOn}
use Rattle.afdx_network.specs.Order.{is_below, side_number}
use Rattle.afdx_network.specs.declared.network.Network.{Network}
use Rattle.afdx_cascade.specs.SwitchEvents.{Plan, SwitchEvent, at_switch}
use Rattle.afdx_cascade.specs.Scan.{IsFirstFrom}
use Rattle.afdx_cascade.specs.declared.scan.FirstTurn.{FirstTurn}
use Rattle.afdx_cascade.specs.Found.{ScanFindsLeast, NothingIsDue}
use Rattle.afdx_cascade.proofs.RingLemmas.{no-frames}
use Rattle.afdx_cascade.proofs.NumberLemmas.{told, nothing-next, told-least}
use Rattle.afdx_cascade.proofs.LeastLemmas.{Cases, Least, all-least, drop-zero}

pub scan-least : ScanFindsLeast
scan-least c so_far ns f stand is =
    let least = all-least 0 ns f is in
    record {
      order = told 0 ns (Some f) is;
      are = λ k side port s low high next.
          subst (λ m. told 0 ns (Some f) is m side ≤ order_of (due_at s)) (omega arith)
          (told-least c so_far 0 ns (Some f) is
          (λ j n at. subst (λ m. network.StandsFor (c.tables m) n (at_switch m so_far))
          (omega arith) (stand.each j n at))
          (λ m le. stand.others m (omega (arith, le))) k side port s low high
          (subst (λ m. IsNextOn (c.tables m) (at_switch m so_far) side port s) (omega arith) next));
      is = least.order_is ∙ ap (λ m. told 0 ns (Some f) is m f.side) (let s = least.switch_is in
          omega (arith, s));
      least = λ j other. to-least least j other (least.least j other);
    }
  where
    to-least : (least : Least 0 ns f is) (j : ℕ) (other : Side)
        → Cases 0 f.order f.side least.place (told 0 ns (Some f) is j other) other j
        → ((j ≡ f.switch.0) × (other ≡ f.side))
        ⊎ ((told 0 ns (Some f) is f.switch.0 f.side < told 0 ns (Some f) is j other)
        ⊎ ((told 0 ns (Some f) is f.switch.0 f.side ≡ told 0 ns (Some f) is j other)
        × (is_below (side_number f.side ∷ f.switch.0 ∷ []) (side_number other ∷ j ∷ []) ≡ true)))
    to-least least j other cases =
        let place : least.place ≡ f.switch.0 = (let s = least.switch_is in omega (arith, s)) in
        let number : f.order ≡ told 0 ns (Some f) is f.switch.0 f.side =
        least.order_is ∙ ap (λ m. told 0 ns (Some f) is m f.side) place in
        elim cases [
          | inl same ↦ inl (same.0 ∙ place, same.1)
          | inr more ↦ elim more [
            | inl lt ↦ inr (inl (omega (arith, number, lt)))
            | inr h ↦ inr (inr (
              sym number ∙ h.0,
              subst (λ m. is_below (side_number f.side ∷ m ∷ []) (side_number other ∷ j ∷ [])
                  ≡ true) place
                  (drop-zero least.place j (side_number f.side) (side_number other) h.1),
            ))
          ]
        ]

-- ---- nothing is due

-- a switch whose number is that of no turn has none to come
module _ (t : Rows) (events : List Event) (side : Side) (h : switch.SwitchHistory) where
  pub none-comes : (o : Option Due) (port : ℕ) (s : Turn HeldFrame) → order_without_turn ≤ order_at o
      → IfSome o (λ d. given_at d ≤ 1200000000000000)
      → ((p : ℕ) → 1 ≤ p → p ≤ 24 → IfNone o (switch.IsDone t side h p)) → 1 ≤ port → port ≤ 24
      → switch.IsNextAt t side h port s → ⊥
  none-comes (Some d) port s late limit done low high next = by d.too_old late limit
    where
      by : (b : Bool) → order_without_turn ≤ 2 * d.time + (if b then 1 else 0)
          → d.time + (if b then 1 else 0) ≤ 1200000000000000 → ⊥
      by true l m = omega (arith, l, m)
      by false l m = omega (arith, l, m)
  none-comes None port s late limit done low high next =
      let all = (done port low high).all_have_turns s.place
      (slice_get_within (entries_at t side port h.arrivals) s.place s.entry next.own.stands) in
      let none = next.own.without in cc

none-due : (c : Plan) (so_far : List SwitchEvent) (at : ℕ) (ns : List Network) (r : Option FirstTurn)
    (is : IsFirstFrom at ns r)
    → ((j : ℕ) (n : Network) → slice_get ns j ≡ Some n
    → network.StandsFor (c.tables (at + j)) n (at_switch (at + j) so_far))
    → ((k : ℕ) → at + length ns ≤ k → at_switch k so_far ≡ [])
    → (j : ℕ) (side : Side) (port : ℕ) (s : Turn HeldFrame) → 1 ≤ port → port ≤ 24
    → order_without_turn ≤ told at ns r is j side
    → IsNextOn (c.tables (at + j)) (at_switch (at + j) so_far) side port s → ⊥
none-due c so_far at [] r is each others j side port s low high late next =
    nothing-next (c.tables (at + j)) (at_switch (at + j) so_far) side port s
    (others (at + j) (omega arith)) next
none-due c so_far at (n ∷ ns) r is each others zero A port s low high late next =
    let st = each 0 n refl in
    let tells = is.3.tells_a in
    let number = tells.is in
    let es = at_switch (at + 0) so_far in
    let h = calls_on A es (switch.last_time n.switches.a) in
    none-comes (c.tables (at + 0)) es A h tells.due port s
    (omega (arith, late, number)) tells.tells.limit
    (λ p l m. tells.tells.all_done (c.tables (at + 0)) A h p st.on_a l m) low high next
none-due c so_far at (n ∷ ns) r is each others zero B port s low high late next =
    let st = each 0 n refl in
    let tells = is.3.tells_b in
    let number = tells.is in
    let es = at_switch (at + 0) so_far in
    let h = calls_on B es (switch.last_time n.switches.b) in
    none-comes (c.tables (at + 0)) es B h tells.due port s
    (omega (arith, late, number)) tells.tells.limit
    (λ p l m. tells.tells.all_done (c.tables (at + 0)) B h p st.on_b l m) low high next
none-due c so_far at (n ∷ ns) r is each others (suc j) side port s low high late next =
    none-due c so_far (at + 1) ns is.2 is.4
    (λ i m at-i. subst (λ k. network.StandsFor (c.tables k) m (at_switch k so_far)) (omega arith)
    (each (suc i) m at-i))
    (λ k le. others k (omega (arith, le))) j side port s low high late
    (subst (λ k. IsNextOn (c.tables k) (at_switch k so_far) side port s) (omega arith) next)

pub nothing-due : NothingIsDue
nothing-due c so_far ns f time stand is late ring place g (inr frame) =
    no-frames c so_far time ring place g frame
nothing-due c so_far ns f time stand is late ring place g (inl due) =
    let least = all-least 0 ns f is in
    none-due c so_far 0 ns (Some f) is
    (λ j n at. subst (λ m. network.StandsFor (c.tables m) n (at_switch m so_far)) (omega arith)
    (stand.each j n at))
    (λ m le. stand.others m (omega (arith, le))) due.k due.side due.port due.turn due.low due.high
    (from-least least (least.least due.k due.side))
    (subst (λ m. IsNextOn (c.tables m) (at_switch m so_far) due.side due.port due.turn)
    (omega arith) due.next)
  where
    from-least : (least : Least 0 ns f is)
        → Cases 0 f.order f.side least.place (told 0 ns (Some f) is due.k due.side) due.side due.k
        → order_without_turn ≤ told 0 ns (Some f) is due.k due.side
    from-least least (inl same) =
        let number : f.order ≡ told 0 ns (Some f) is due.k due.side =
        least.order_is ∙ ap (λ m. told 0 ns (Some f) is m f.side) (sym same.0)
        ∙ ap (told 0 ns (Some f) is due.k) (sym same.1) in
        omega (arith, late, number)
    from-least least (inr (inl lt)) = omega (arith, late, lt)
    from-least least (inr (inr h)) = let e = h.0 in omega (arith, late, e)
