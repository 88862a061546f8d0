-- Where nothing is due any more, the rows of a link in an admitted cascade are a whole way.
use Rattle.std.proofs.Common.{◌≡◌, ℕ, zero, suc, ◌+◌, ◌*◌, ◌<◌, ◌≤◌, ◌==◌, Bool, true, false, ◌&&◌, not}
use Rattle.std.proofs.Common.{List, [], ◌∷◌, ◌++◌, length}
use Rattle.std.proofs.Common.{map, filter, refl, sym, ap, ◌∙◌, subst, arith, inl, Some, None, slice_get, nat_le, nat_lt}
use Rattle.std.proofs.Common.{option_and_then}
use Rattle.std.specs.Prelude.{if◌then◌else◌, is_none}
use Rattle.std.specs.List.{AllByRecursion}
use Rattle.std.specs.Option.{option_map_or}
use Rattle.std.proofs.lemmas.Bool.{eqb-true, leb-true, ltb-true}
use Rattle.std.proofs.lemmas.Option.{same_Some}
use Rattle.afdx_frame.specs.declared.link.Side.{Side}
use Rattle.afdx_frame.proofs.ListLemmas.{slice_get-within, AllByRecursion-slice_get}
use Rattle.afdx_config.specs.Lawful.{IsLinkUpTo, jitter_from_any}
use Rattle.afdx_config.specs.Reading.{system_at_port}
use Rattle.afdx_config.specs.Rows.{SystemRow, LinkRow, Rows}
use Rattle.afdx_config.specs.Switches.{NamedRows, AreSwitches, far_end, if_neighbour, neighbour_at_port}
use Rattle.afdx_config.specs.Switches as switches
use Rattle.afdx_config.proofs.LookUpLemmas.{each_row-found}
use Rattle.afdx_admit.specs.Cascade.{RowAt, row_at, row_before, is_sent_here}
use Rattle.afdx_police.specs.Arrival.{Arrival, is_side, names, own}
use Rattle.afdx_police.specs.Rule.{Rule}
use Rattle.afdx_police.specs.Verdicts.{accepted_arrivals, reason_after}
use Rattle.afdx_law_bounds.specs.Outputs.{AreTimed}
use Rattle.afdx_port.specs.Schedule.{Entry, Turn, AreTurns, end_of}
use Rattle.afdx_port.proofs.TurnLemmas.{next_of, schedule_begins}
use Rattle.afdx_switch.specs.Admitted.{IsAdmittedRun, accepted_frames, frames_among}
use Rattle.afdx_switch.specs.Admitted.{passing_in, slots}
use Rattle.afdx_switch.specs.HeldFrames.{HeldFrame}
use Rattle.afdx_switch.specs.Hops.{AreCopies, AreFirstCopies}
use Rattle.afdx_switch.specs.Laws.{is_of}
use Rattle.afdx_switch.specs.Tables.{rule_of, goes_to, byte_ns_at, entries_at}
use Rattle.afdx_switch.proofs.AdmittedLemmas.{accepted-enter, turn-in-time}
use Rattle.afdx_switch.proofs.HopLemmas.{AllPass, accepted-pass}
use Rattle.afdx_network.specs.Events.{Event, Came, Left, arrivals_in, turns_at}
use Rattle.afdx_network.specs.Network.{departure_after}
use Rattle.afdx_network.specs.Order.{side_number}
use Rattle.afdx_law_promises.proofs.PortLemmas.{its-turns}
use Rattle.afdx_cascade.specs.Admitted.{IsRow, AreRowsBefore, IsAdmittedCascade, IsListInTime, hop_at, hops_at}
use Rattle.afdx_cascade.specs.Admitted.{RowsAreWholeWays}
use Rattle.afdx_cascade.specs.Cables.{Hop, GoesOn, accepted_at, all_turns, brought, brought_by, named}
use Rattle.afdx_cascade.specs.Keeping.{IsNothingDue}
use Rattle.afdx_cascade.specs.Plans.{plan_of, tables_of}
use Rattle.afdx_cascade.specs.Runs.{event_at, turn_phase}
use Rattle.afdx_cascade.specs.SwitchEvents.{Plan, SwitchEvent, AlwaysKeepsRules}
use Rattle.afdx_cascade.specs.SwitchEvents.{at_switch, came_to, end_at, listed, turns_of, with_listed}
use Rattle.afdx_cascade.specs.Turning.{end_of as far_of}
use Rattle.afdx_cascade.specs.Ways.{first_of, latency_of}
use Rattle.afdx_cascade.proofs.AgainLemmas.{no-late}
use Rattle.afdx_cascade.proofs.FedLemmas.{before-row, each-fed, row-here, switch-of, tables-at}
use Rattle.afdx_cascade.proofs.OnceLemmas.{turns-there}
use Rattle.afdx_cascade.proofs.PartLemmas.{cables-bring}
use Rattle.afdx_cascade.proofs.PlanLemmas.{lawful-at, switches-plan}
use Rattle.afdx_cascade.proofs.WayHopLemmas.{hop-is, next-there, rows-ways, rule-port, run-at}
use Rattle.afdx_cascade.proofs.WayLemmas.{way-leave}

-- ---- all turns

-- where nothing is due, a port has given all its turns
pub all-turned : (c : Plan) (so_far : List SwitchEvent) (k port : ℕ) (side : Side) → AlwaysKeepsRules c so_far
    → AreTimed (came_to k so_far) → IsNothingDue c so_far → 1 ≤ port → port ≤ 24
    → turns_of k side port so_far ≡ turns_at (c.tables k) side port (came_to k so_far)
all-turned c so_far k port side rules timed none low high =
    let byte_ns = byte_ns_at (c.tables k) port in
    let entries = entries_at (c.tables k) side port (came_to k so_far) in
    let all = its-turns (c.tables k) side port (came_to k so_far) timed in
    let more = schedule_begins byte_ns entries (turns_at (c.tables k) side port (came_to k so_far))
    (turns_of k side port so_far) all (turns-there c so_far k port side rules low high) in
    by more.0 more.1 all.each_next
  where
    by : (more : List (Turn HeldFrame))
        → turns_at (c.tables k) side port (came_to k so_far) ≡ more ++ turns_of k side port so_far
        → AreTurns (byte_ns_at (c.tables k) port) (entries_at (c.tables k) side port (came_to k so_far))
        (turns_at (c.tables k) side port (came_to k so_far))
        → turns_of k side port so_far ≡ turns_at (c.tables k) side port (came_to k so_far)
    by [] is each = sym is
    by (s ∷ more) is each =
        let next = next_of (byte_ns_at (c.tables k) port) (entries_at (c.tables k) side port (came_to k so_far))
        (s ∷ more) (turns_of k side port so_far)
        (subst (AreTurns (byte_ns_at (c.tables k) port) (entries_at (c.tables k) side port (came_to k so_far))) is each)
        (omega arith) in
        absurd (none (next.0.end ∷ turn_phase next.0.too_old ∷ side_number side ∷ k ∷ port ∷ [])
        (event_at k (Left (departure_after (at_switch k so_far) side port next.0)))
        (inl (record {
          k = k;
          side = side;
          port = port;
          turn = next.0;
          low = low;
          high = high;
          next = next.1;
          place_is = refl;
          is = refl;
        })))

-- ---- how late a frame of the list is

-- what came where no cable is came by then
abbrev ComeBy : (c : Plan) (most k : ℕ) → List Arrival → Type 0
ComeBy c most k xs = AllByRecursion (λ x. c.far_end k x.port ≡ None → x.time ≤ most) xs

come-by : (c : Plan) (most k : ℕ) (so_far : List SwitchEvent)
    → AllByRecursion (λ x. x.time ≤ most) (listed c so_far) → ComeBy c most k (came_to k so_far)
come-by c most k [] all = tt
come-by c most k (h ∷ before) all = by h.event (h.switch == k) refl all (come-by c most k before)
  where
    listed-one : (b : Bool) (x : Arrival) → b ≡ true
        → AllByRecursion (λ y. y.time ≤ most) (if b then x ∷ listed c before else listed c before) → x.time ≤ most
    listed-one true x is all = all.0
    listed-one false x is all = absurd (cc is)

    listed-rest : (b : Bool) (x : Arrival)
        → AllByRecursion (λ y. y.time ≤ most) (if b then x ∷ listed c before else listed c before)
        → AllByRecursion (λ y. y.time ≤ most) (listed c before)
    listed-rest true x all = all.1
    listed-rest false x all = all

    by : (e : Event) (b : Bool) → (h.switch == k) ≡ b
        → AllByRecursion (λ x. x.time ≤ most) (with_listed c h.switch e (listed c before))
        → (AllByRecursion (λ x. x.time ≤ most) (listed c before) → ComeBy c most k (came_to k before))
        → ComeBy c most k (arrivals_in (if b then e ∷ at_switch k before else at_switch k before))
    by (Left d) true is all later = later all
    by (Left d) false is all later = later all
    by (Came a) false is all later = later (listed-rest (is_none (c.far_end h.switch a.arrival.port)) a.arrival all)
    by (Came a) true is all later = (
      λ free. listed-one (is_none (c.far_end h.switch a.arrival.port)) a.arrival
          (ap (λ j. is_none (c.far_end j a.arrival.port)) (eqb-true h.switch k is) ∙ ap is_none free) all,
      later (listed-rest (is_none (c.far_end h.switch a.arrival.port)) a.arrival all),
    )

module _ (P : Arrival → Type 0) where
  all-filtered : (p : Arrival → Bool) (xs : List Arrival) → AllByRecursion P xs → AllByRecursion P (filter p xs)
  all-filtered p [] all = tt
  all-filtered p (x ∷ xs) all = by (p x) (all-filtered p xs all.1)
    where
      by : (b : Bool) → AllByRecursion P (filter p xs) → AllByRecursion P (if b then x ∷ filter p xs else filter p xs)
      by true rest = (all.0, rest)
      by false rest = rest

  all-accepted : (rule : Rule) (xs : List Arrival) → AllByRecursion P xs → AllByRecursion P (accepted_arrivals rule xs)
  unfolding accepted_arrivals
  all-accepted rule [] all = tt
  all-accepted rule (x ∷ past) all = by (is_none (reason_after rule past x)) (all-accepted rule past all.1)
    where
      by : (b : Bool) → AllByRecursion P (accepted_arrivals rule past)
          → AllByRecursion P (if b then x ∷ accepted_arrivals rule past else accepted_arrivals rule past)
      by true rest = (all.0, rest)
      by false rest = rest

-- those that are accepted at a port where no cable is
at-free-port : (c : Plan) (most k : ℕ) (rule : Rule) (xs : List Arrival) → AllPass rule xs → ComeBy c most k xs
    → c.far_end k rule.port ≡ None → AllByRecursion (λ x. x.time ≤ most) xs
at-free-port c most k rule [] pass all free = tt
at-free-port c most k rule (x ∷ xs) pass all free = (
  all.0 (subst (λ p. c.far_end k p ≡ None) pass.0.at_port free),
  at-free-port c most k rule xs pass.2 all.1 free,
)

-- a copy is later by at most the delay
first-copy : (delay most : ℕ) (xs : List Arrival) (y : Arrival) (ys : List Arrival)
    → AllByRecursion (λ x. x.time ≤ most) xs → AreFirstCopies delay xs (y ∷ ys) → y.time ≤ most + delay
first-copy delay most xs y ys all first = by first.gone first.copies
    (later first.waiting first.gone (subst (AllByRecursion (λ x. x.time ≤ most)) first.all all))
  where
    later : (before after : List Arrival) → AllByRecursion (λ x. x.time ≤ most) (before ++ after)
        → AllByRecursion (λ x. x.time ≤ most) after
    later [] after all = all
    later (x ∷ before) after all = later before after all.1

    by : (gone : List Arrival) → AreCopies delay gone (y ∷ ys) → AllByRecursion (λ x. x.time ≤ most) gone
        → y.time ≤ most + delay
    by [] are all = absurd are
    by (x ∷ gone) are all = let soon = all.0 in let within = are.0.within in omega (arith, soon, within)

-- ---- the entries of a link

frames-some : (vl : ℕ) (es : List (Entry HeldFrame)) (i : ℕ) (e : Entry HeldFrame) → slice_get es i ≡ Some e
    → is_of vl e ≡ true → frames_among vl es ≡ [] → ⊥
frames-some vl [] i e at own none = absurd cc
frames-some vl (x ∷ es) zero e at own none = by (is_of vl x) (ap (is_of vl) (same_Some x e at) ∙ own) none
  where
    by : (b : Bool) → b ≡ true
        → map passing_in (if b then x ∷ filter (is_of vl) es else filter (is_of vl) es) ≡ [] → ⊥
    by true is empty = cc empty
    by false is empty = cc is
frames-some vl (x ∷ es) (suc i) e at own none = by (is_of vl x) none (λ h. frames-some vl es i e at own h)
  where
    by : (b : Bool) → map passing_in (if b then x ∷ filter (is_of vl) es else filter (is_of vl) es) ≡ []
        → (frames_among vl es ≡ [] → ⊥) → ⊥
    by true empty rest = cc empty
    by false empty rest = rest empty

-- a link that has an entry at a port goes there
pub entry-goes : (t : Rows) (arrivals : List Arrival) (side : Side) (port place i : ℕ) (l : LinkRow)
    (e : Entry HeldFrame) → IsAdmittedRun t arrivals → slice_get t.links place ≡ Some l
    → slice_get (entries_at t side port arrivals) i ≡ Some e → is_of l.vl e ≡ true → goes_to t l port ≡ true
entry-goes t arrivals side port place i l e run at stands own =
    by (goes_to t l port) (accepted-enter t arrivals side port place l run at)
  where
    by : (b : Bool) → frames_among l.vl (entries_at t side port arrivals)
        ≡ (if b then accepted_frames t l side arrivals else []) → b ≡ true
    by true is = refl
    by false is = absurd (frames-some l.vl (entries_at t side port arrivals) i e stands own is)

first-named : (vl : ℕ) (side : Side) (to : ℕ) (s : Turn HeldFrame) (earlier : List (Turn HeldFrame))
    → s.too_old ≡ false → is_of vl s.entry ≡ true
    → named vl (brought_by side to (s ∷ earlier)) ≡ brought side to s ∷ named vl (brought_by side to earlier)
first-named vl side to s earlier slot own =
    ap (λ b. named vl (map (brought side to) (if not b then s ∷ slots earlier else slots earlier))) slot
    ∙ ap (λ b. if b then brought side to s ∷ named vl (brought_by side to earlier)
    else named vl (brought_by side to earlier)) own

module _ (ss : List NamedRows) where
  -- ---- the first row

  record IsFirstRow (so_far : List SwitchEvent) (r : RowAt) (before : List RowAt) : Type 0 where
    f : RowAt
    row : IsRow ss f
    sent : is_sent_here ss f ≡ true
    is : first_of (hop_at ss so_far r) (hops_at ss so_far before) ≡ hop_at ss so_far f

  first-row : (so_far : List SwitchEvent) (r : RowAt) (before : List RowAt) → IsRow ss r → AreRowsBefore ss r before
      → IsFirstRow so_far r before
  first-row so_far r [] is rows = record { f = r; row = is; sent = rows; is = refl }
  first-row so_far r (b ∷ before) is rows =
      let rest = first-row so_far b before (before-row ss r b rows.0) rows.1 in
      record { f = rest.f; row = rest.row; sent = rest.sent; is = rest.is }

  sent-place : (r : RowAt) (s : NamedRows) → slice_get ss r.switch ≡ Some s → is_sent_here ss r ≡ true
      → r.row.from < s.rows.own
  unfolding is_sent_here
  sent-place r s at sent =
      ltb-true r.row.from s.rows.own
      (sym (ap (λ o. option_map_or (λ (z : NamedRows). nat_lt r.row.from z.rows.own) o false) at) ∙ sent)

  no-neighbour : (t : Rows) (i : ℕ) → i < t.own → if_neighbour t i ≡ None
  no-neighbour t i below = by (nat_le t.own i) refl
    where
      by : (b : Bool) → nat_le t.own i ≡ b → (if b then Some i else None) ≡ None
      by true is = absurd (let le = leb-true t.own i is in omega (arith, below, le))
      by false is = refl

  no-cable : (k port i : ℕ) (s : NamedRows) → slice_get ss k ≡ Some s → system_at_port s.rows.systems port ≡ Some i
      → i < s.rows.own → far_end ss k port ≡ None
  unfolding far_end
  no-cable k port i s at found below =
      ap (option_and_then (λ (z : NamedRows). option_and_then (switches.end_at ss z.name)
      (neighbour_at_port z.rows port))) at
      ∙ ap (λ o. option_and_then (switches.end_at ss s.name)
      (option_and_then (slice_get s.rows.systems) (option_and_then (if_neighbour s.rows) o))) found
      ∙ ap (λ o. option_and_then (switches.end_at ss s.name) (option_and_then (slice_get s.rows.systems) o))
      (no-neighbour s.rows i below)

  module _ (are : AreSwitches ss) where
    link-is : (r : RowAt) (s : NamedRows) → (is : IsRow ss r) → slice_get ss r.switch ≡ Some s
        → IsLinkUpTo jitter_from_any (length s.rows.systems) r.row
    link-is r s is at =
        AllByRecursion-slice_get (IsLinkUpTo jitter_from_any (length s.rows.systems)) s.rows.links is.place r.row
        (lawful-at ss are r.switch s at).links.each (row-here ss r s is at)

    -- no cable is at the port of a system
    pub system-free : (k place : ℕ) (e : SystemRow) → slice_get (tables_of ss k).systems place ≡ Some e
        → place < (tables_of ss k).own → k < length ss → far_end ss k e.port ≡ None
    system-free k place e stands own within =
        let s = slice_get-within ss k within in
        let same = tables-at ss k s.0 s.1 in
        let here : (tables_of ss k).own ≡ s.0.rows.own = ap (λ (t : Rows). t.own) same in
        no-cable k e.port place s.0 s.1
        ((each_row-found s.0.rows (lawful-at ss are k s.0 s.1)).by_port place e
        (ap (λ (t : Rows). slice_get t.systems place) (sym same) ∙ stands)) (omega (arith, own, here))

    -- its frames come in where no cable is
    pub free-port : (r : RowAt) → IsRow ss r → is_sent_here ss r ≡ true
        → (plan_of ss).far_end r.switch (rule_of (tables_of ss r.switch) r.row).port ≡ None
    free-port r is sent =
        let s = switch-of ss r is in
        let from = slice_get-within s.0.rows.systems r.row.from (link-is r s.0 is s.1).from in
        let port : (rule_of (tables_of ss r.switch) r.row).port ≡ from.0.port =
        ap (λ t. (rule_of t r.row).port) (tables-at ss r.switch s.0 s.1) ∙ rule-port s.0.rows r.row from.0 from.1 in
        ap (λ p. far_of (far_end ss r.switch p)) port
        ∙ ap far_of (no-cable r.switch from.0.port r.row.from s.0 s.1
        ((each_row-found s.0.rows (lawful-at ss are r.switch s.0 s.1)).by_port r.row.from from.0 from.1)
        (sent-place r s.0 s.1 sent))

    way-latency : (so_far : List SwitchEvent) (r : RowAt) (before : List RowAt) → IsRow ss r → AreRowsBefore ss r before
        → latency_of (hops_at ss so_far (r ∷ before)) ≤ 100000000 * (length before + 1)
    way-latency so_far r [] is rows =
        let s = switch-of ss r is in
        let most = (link-is r s.0 is s.1).latency_us.1 in omega (arith, most)
    way-latency so_far r (b ∷ before) is rows =
        let s = switch-of ss r is in
        let most = (link-is r s.0 is s.1).latency_us.1 in
        let rest = way-latency so_far b before (before-row ss r b rows.0) rows.1 in omega (arith, most, rest)

-- ---- how late a frame leaves

module _ (ss : List NamedRows) (so_far : List SwitchEvent) (all : IsAdmittedCascade ss so_far)
    (soon : IsListInTime ss so_far) where
  first-accepted-by : (side : Side) (f : RowAt) → IsRow ss f → is_sent_here ss f ≡ true
      → AllByRecursion (λ x. x.time ≤ 1000000000000000) (accepted_at (hop_at ss so_far f) side)
  first-accepted-by side f is sent =
      let rule = rule_of (tables_of ss f.switch) f.row in
      let came = come-by (plan_of ss) 1000000000000000 f.switch so_far soon in
      let P = λ (x : Arrival). (plan_of ss).far_end f.switch x.port ≡ None → x.time ≤ 1000000000000000 in
      let there = all-filtered P (λ x. is_side side x.side && names f.row.vl x.bytes) (came_to f.switch so_far) came in
      at-free-port (plan_of ss) 1000000000000000 f.switch rule (accepted_at (hop_at ss so_far f) side)
      (accepted-pass rule (own f.row.vl side (came_to f.switch so_far)))
      (all-accepted P rule (own f.row.vl side (came_to f.switch so_far)) there)
      (free-port ss all.are f is sent)

  -- what leaves of a link
  link-soon : (side : Side) (port : ℕ) (s : Turn HeldFrame) (earlier : List (Turn HeldFrame)) (q : RowAt)
      → IsRow ss q → goes_to (tables_of ss q.switch) q.row port ≡ true
      → AreTurns (byte_ns_at (tables_of ss q.switch) port)
      (entries_at (tables_of ss q.switch) side port (came_to q.switch so_far)) (s ∷ earlier)
      → s.too_old ≡ false → is_of q.row.vl s.entry ≡ true → s.end ≤ 1000032768000000
  link-soon side port s earlier q is goes turns slot of_link =
      let fed = each-fed ss q all.admitted is in
      let way = rows-ways ss so_far side q fed.before all is fed.are in
      let leave = way-leave side (hop_at ss so_far q) (hops_at ss so_far fed.before) port 0 (s ∷ earlier) way
      (record { goes = goes; are = turns }) in
      let first = first-row ss so_far q fed.before is fed.are in
      let delay = latency_of (hops_at ss so_far (q ∷ fed.before)) in
      let accepted = subst (λ (h : Hop). AllByRecursion (λ x. x.time ≤ 1000000000000000) (accepted_at h side))
      (sym first.is) (first-accepted-by side first.f first.row first.sent) in
      let copy : s.end ≤ 1000000000000000 + delay =
      first-copy delay 1000000000000000
      (accepted_at (first_of (hop_at ss so_far q) (hops_at ss so_far fed.before)) side) (brought side 0 s)
      (named q.row.vl (brought_by side 0 earlier)) accepted
      (subst (AreFirstCopies delay
      (accepted_at (first_of (hop_at ss so_far q) (hops_at ss so_far fed.before)) side))
      (first-named q.row.vl side 0 s earlier slot of_link) leave) in
      let most = way-latency ss all.are so_far q fed.before is fed.are in
      let few = fed.few in
      let count = all.are.count.1 in
      omega (arith, copy, most, few, count)

  pub end-soon : (side : Side) (k port : ℕ) (s : NamedRows) → slice_get ss k ≡ Some s → (turns : List (Turn HeldFrame))
      → AreTurns (byte_ns_at (tables_of ss k) port) (entries_at (tables_of ss k) side port (came_to k so_far)) turns
      → end_of turns ≤ 1000032768000000
  end-soon side k port z at [] turns = omega arith
  end-soon side k port z at (s ∷ earlier) turns =
      let run = run-at ss so_far k z all at in
      let it = turn-in-time (tables_of ss k) (came_to k so_far) side port s earlier run turns in
      let goes = entry-goes (tables_of ss k) (came_to k so_far) side port it.place s.place it.link s.entry run it.stands
      turns.0.own.stands it.named in
      let row : IsRow ss (row_at k it.link) = record {
        place = it.place;
        stands = ap (option_and_then (λ (r : NamedRows). slice_get r.rows.links it.place)) at
            ∙ ap (λ (t : Rows). slice_get t.links it.place) (sym (tables-at ss k z at)) ∙ it.stands;
      } in
      link-soon side port s earlier (row_at k it.link) row goes turns it.not_old it.named

  -- ---- whole ways

  module _ (none : IsNothingDue (plan_of ss) so_far) where
    record GoesOnWhole (side : Side) (j k : Hop) : Type 0 where
      on : GoesOn side j k
      whole : on.turns ≡ all_turns j side on.port

    all-on : (side : Side) (r b : RowAt) → IsRow ss r → row_before ss r ≡ Some b
        → GoesOnWhole side (hop_at ss so_far b) (hop_at ss so_far r)
    all-on side r b is before =
        let there = next-there ss all.are all.admitted r b is before in
        let to = (rule_of (tables_of ss r.switch) r.row).port in
        let t = tables_of ss b.switch in
        let port = there.port in
        let z = switch-of ss b (before-row ss r b before) in
        let run = run-at ss so_far b.switch z.0 all z.1 in
        let ends = (switches-plan ss all.are).0.ports r.switch to (end_at b.switch port) there.cable in
        let turns = turns_of b.switch side port so_far in
        let turned = turns-there (plan_of ss) so_far b.switch port side all.rules ends.0 ends.1 in
        let same = all-turned (plan_of ss) so_far b.switch port side all.rules run.timed none ends.0 ends.1 in
        let in_time = no-late (byte_ns_at t port) (entries_at t side port (came_to b.switch so_far)) turns turned
        (end-soon side b.switch port z.0 z.1 turns turned) in
        let brings = cables-bring (plan_of ss) so_far r.switch to side (end_at b.switch port) all.rules none
        there.cable in
        record {
          on = record {
            port = port;
            turns = turns_at t side port (came_to b.switch so_far);
            gives = record {
              goes = there.goes;
              are = (its-turns t side port (came_to b.switch so_far) run.timed).each_next;
            };
            brings = sym brings ∙ ap (brought_by side to) in_time ∙ ap (brought_by side to) same;
            row = there.row;
          };
          whole = refl;
        }

pub rows-whole : RowsAreWholeWays
rows-whole ss so_far side r [] all is rows soon none = (hop-is ss so_far r all is, tt)
rows-whole ss so_far side r (b ∷ before) all is rows soon none =
    let rest = rows-whole ss so_far side b before all (before-row ss r b rows.0) rows.1 soon none in
    let next = all-on ss so_far all soon none side r b is rows.0 in
    ((hop-is ss so_far r all is, next.on, rest.0), (next.whole, rest.1))
