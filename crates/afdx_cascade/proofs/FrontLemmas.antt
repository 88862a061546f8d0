-- A frame arrives: all goes on.
use Rattle.std.proofs.Common.{◌≡◌, ℕ, ◌+◌, ◌*◌, ◌<◌, ◌≤◌, Bool, true, false, List, [], ◌∷◌, refl}
use Rattle.std.proofs.Common.{sym, ap, ◌∙◌, subst, arith, inl, inr}
use Rattle.std.specs.Prelude.{if◌then◌else◌, Some, slice_get}
use Rattle.std.specs.List.{AllByRecursion}
use Rattle.std.proofs.lemmas.Bool.{cases_eq}
use Rattle.afdx_frame.specs.declared.link.Side.{Side}
use Rattle.afdx_frame.specs.declared.link.Side.TheVariants.{A, B}
use Rattle.afdx_config.specs.Rows.{Rows}
use Rattle.afdx_port.specs.Due.{IsAfter, given_at}
use Rattle.afdx_port.specs.History.{due_at}
use Rattle.afdx_port.specs.Schedule.{Turn}
use Rattle.afdx_port.specs.declared.left.Left.{Left as LeftOver}
use Rattle.afdx_switch.specs.Departures.{as_given}
use Rattle.afdx_switch.specs.HeldFrames.{HeldFrame}
use Rattle.afdx_switch.specs.Switching as switch
use Rattle.afdx_switch.proofs.TakeLemmas.{quiet-next}
use Rattle.afdx_network.specs.Events.{Event, Admission, Came, admission_after, calls_on}
use Rattle.afdx_network.specs.Network as network
use Rattle.afdx_network.specs.Network.{IsNextOn}
use Rattle.afdx_network.specs.Order.{is_below, side_number}
use Rattle.afdx_network.specs.declared.network.Network.{Network}
use Rattle.afdx_network.proofs.OrderLemmas.{below_first, below_next}
use Rattle.afdx_cascade.specs.Cables.{brought}
use Rattle.afdx_cascade.specs.SwitchEvents.{Plan, End, SwitchEvent, at_switch, came_to, end_at}
use Rattle.afdx_cascade.specs.Runs.{Line, IsBeforeLine, IsDue, IsFirstDue, arriving, event_at, turn_phase}
use Rattle.afdx_cascade.specs.Due.{OnCable, IsRing, frame_place}
use Rattle.afdx_cascade.specs.Found.{AllStand, FindsLeast}
use Rattle.afdx_cascade.specs.Keeping.{Keeps, FrontCanArrive, FrontKeeps, LineKeeps, StartKeeps}
use Rattle.afdx_cascade.specs.Scan.{IsFirstFrom}
use Rattle.afdx_cascade.specs.Turning.{switch_of}
use Rattle.afdx_cascade.specs.declared.scan.FirstTurn.{FirstTurn}
use Rattle.afdx_cascade.proofs.BehindLemmas.{arrival-behind}
use Rattle.afdx_cascade.proofs.ComesLemmas.{told-from, quiet-then}
use Rattle.afdx_cascade.proofs.RingLemmas.{frame-next, no-frames}
use Rattle.afdx_cascade.proofs.ScanLemmas.{scan-least}
use Rattle.afdx_cascade.proofs.NumberLemmas.{nothing-next}
use Rattle.afdx_cascade.proofs.MoreLemmas.{at-same, at-other, there-or-past}
use Rattle.afdx_cascade.proofs.StandingLemmas.{nothing-happened}

-- the turns of a quiet network are given later
net-quiet : (t : Rows) (n : Network) (events : List Event) (time : ℕ) → network.StandsFor t n events
    → network.IsQuiet n time
    → (side : Side) (port : ℕ) (s : Turn HeldFrame) → 1 ≤ port → port ≤ 24
    → IsNextOn t events side port s
    → IsAfter time (due_at s)
net-quiet t n events time st quiet A port s low high next =
    quiet-next t A n.switches.a
    (calls_on A events (switch.last_time n.switches.a)) st.on_a time quiet.on_a port s low high next
net-quiet t n events time st quiet B port s low high next =
    quiet-next t B n.switches.b
    (calls_on B events (switch.last_time n.switches.b)) st.on_b time quiet.on_b port s low high next

-- that of a switch of all
pub quiet-at : (c : Plan) (networks : List Network) (so_far : List SwitchEvent) (time k : ℕ)
    → AllStand c networks so_far
    → ((n : Network) → slice_get networks k ≡ Some n → network.IsQuiet n time)
    → (side : Side) (port : ℕ) (s : Turn HeldFrame) → 1 ≤ port → port ≤ 24
    → IsNextOn (c.tables k) (at_switch k so_far) side port s → IsAfter time (due_at s)
quiet-at c networks so_far time k all quiet side port s low high next =
    elim (there-or-past networks k) [
      | inl found ↦ net-quiet (c.tables k) found.0 (at_switch k so_far) time
          (all.each k found.0 found.1)
          (quiet found.0 found.1) side port s low high next
      | inr past ↦ absurd (nothing-next (c.tables k) (at_switch k so_far) side port s
          (all.others k past) next)
    ]

ends-by : (time : ℕ) (zs : List OnCable) → AllByRecursion (λ z. z.turn.end ≡ time) zs
    → AllByRecursion (λ z. z.turn.end ≤ time) zs
ends-by time [] all = tt
ends-by time (z ∷ zs) all = ((let e = all.0 in omega (arith, e)), ends-by time zs all.1)

least-late : (c : Plan) (so_far : List SwitchEvent) (f : FirstTurn) (time : ℕ)
    → (found : FindsLeast c so_far f)
    → 2 * time < f.order → (j : ℕ) (side : Side) → 2 * time < found.order j side
least-late c so_far f time found late j side =
    let is = found.is in
    elim (found.least j side) [
      | inl same ↦ (let e : found.order j side ≡ found.order f.switch.0 f.side =
          ap (λ i. found.order i side) same.0 ∙ ap (found.order f.switch.0) same.1 in
          omega (arith, late, is, e))
      | inr more ↦ elim more [
        | inl lt ↦ omega (arith, late, is, lt)
        | inr tie ↦ (let e = tie.0 in omega (arith, late, is, e))
      ]
    ]

pub front-can : FrontCanArrive
front-can c so_far networks time r rest f v keeps is late on =
    let end : (as_given v.departure).end ≡ time =
    ap (λ (l : LeftOver HeldFrame). l.end) on.left ∙ keeps.stands.carried.at_time.0 in
    record {
      within = keeps.within r.from.switch r.from.port (end_at v.switch.0 v.port) on.to;
      limit = elim keeps.soon [ inl none ↦ absurd (cc none) | inr le ↦ omega (arith, end, le) ];
      clock = λ n at. subst (λ t. network.IsUntil n t) (sym end) (keeps.clock v.switch.0 n at);
      quiet = λ n at. subst (λ t. network.IsQuiet n t) (sym end)
          (quiet-then n f time (told-from 0 networks f is v.switch.0 n at) late);
    }

-- what is due after an arrival is given from then on
later-then : (c : Plan) (so_far : List SwitchEvent) (k : ℕ) (a : Admission) (time : ℕ)
    → ((j : ℕ) (side : Side) (port : ℕ) (s : Turn HeldFrame) → 1 ≤ port → port ≤ 24
    → IsNextOn (c.tables j) (at_switch j so_far) side port s → time ≤ given_at (due_at s))
    → ((side : Side) (port : ℕ) (s : Turn HeldFrame) → 1 ≤ port → port ≤ 24
    → IsNextOn (c.tables k) (at_switch k (event_at k (Came a) ∷ so_far)) side port s
    → IsAfter time (due_at s))
    → (j : ℕ) (side : Side) (port : ℕ) (s : Turn HeldFrame) → 1 ≤ port → port ≤ 24
    → IsNextOn (c.tables j) (at_switch j (event_at k (Came a) ∷ so_far)) side port s
    → time ≤ given_at (due_at s)
later-then c so_far k a time later quiet j side port s low high next = elim (cases_eq k j) [
  | inr apart ↦ later j side port s low high
      (subst (λ es. IsNextOn (c.tables j) es side port s) (at-other j k (Came a) so_far apart) next)
  | inl same ↦
      (let after = quiet side port s low high
      (subst (λ i. IsNextOn (c.tables i) (at_switch i (event_at k (Came a) ∷ so_far)) side port s)
      (sym same) next) in
      omega (arith, after))
]

-- where no slot is still to end at its time the front frame comes next
pub front-first : (c : Plan) (so_far : List SwitchEvent) (networks : List Network) (time : ℕ) (r : OnCable)
    (rest : List OnCable) (f : FirstTurn) (to : End) → Keeps c networks time (r ∷ rest) so_far
    → IsFirstFrom 0 networks (Some f) → 2 * time < f.order → c.far_end r.from.switch r.from.port ≡ Some to
    → (lines : List Line) → IsBeforeLine (frame_place r) lines
    → IsFirstDue c so_far lines (arriving c so_far to.switch (brought r.side to.port r.turn))
front-first c so_far networks time r rest f to keeps is late joined lines before =
    let found = scan-least c so_far networks f keeps.stands.all is in
    frame-next c so_far lines found.order time r rest to keeps.plan found.are (least-late c so_far f time found late)
    keeps.stands.carried joined before

pub front-keeps : FrontKeeps
front-keeps c so_far old networks transit time r rest f value keeps is late arrives size clock quiet =
    let x = brought r.side arrives.at.port r.turn in
    let a = admission_after (c.tables arrives.at.switch.0) (came_to arrives.at.switch.0 so_far) x in
    let after = quiet-at c networks
    (event_at arrives.at.switch.0 (Came a) ∷ so_far) time arrives.at.switch.0 arrives.stands.all
    (subst (λ v. (n : Network) → slice_get networks (switch_of v) ≡ Some n → network.IsQuiet n time)
    arrives.is quiet) in
    record {
      next = λ lines before.
          front-first c so_far old time r rest f (end_at arrives.at.switch.0 arrives.at.port) keeps is late arrives.to
          lines before;
      keeps = record {
        plan = keeps.plan;
        within = λ k port e joined. (let w = keeps.within k port e joined in
            omega (arith, w, size));
        stands = arrives.stands;
        behind = arrival-behind c so_far rest arrives.at.switch.0 a time
            (ends-by time rest keeps.stands.carried.at_time.1)
            (λ side port s low high next. after side port s low high
            (subst (λ es. IsNextOn (c.tables arrives.at.switch.0) es side port s)
            (sym (at-same arrives.at.switch.0 (Came a) so_far)) next))
            keeps.behind.1;
        later = later-then c so_far arrives.at.switch.0 a time keeps.later after;
        clock = clock;
        soon = elim keeps.soon [ inl none ↦ absurd (cc none) | inr le ↦ inr le ];
      };
      in_transit = arrives.in_transit;
      arrived = arrives;
    }

-- a frame of the list comes before a turn that is given after its time
line-before : (t end : ℕ) (old : Bool) (ns : List ℕ) → t < end + (if old then 1 else 0)
    → is_below (t ∷ 2 ∷ []) (end ∷ turn_phase old ∷ ns) ≡ true
line-before t end false ns h = below_first t end (2 ∷ []) (0 ∷ ns) (omega (arith, h))
line-before t end true ns h =
    below_next t end (2 ∷ []) (3 ∷ ns) (omega (arith, h)) (below_first 2 3 [] ns (omega arith))

-- where all networks are quiet at a time, and no cable has a frame, nothing is due until then
pub due-later : (c : Plan) (so_far : List SwitchEvent) (networks : List Network) (time until : ℕ)
    → AllStand c networks so_far → IsRing c so_far time []
    → ((k : ℕ) (n : Network) → slice_get networks k ≡ Some n → network.IsQuiet n until)
    → (place : List ℕ) (g : SwitchEvent) → IsDue c so_far place g
    → is_below (until ∷ 2 ∷ []) place ≡ true
due-later c so_far networks time until all empty quiet place g (inr frame) =
    absurd (no-frames c so_far time empty place g frame)
due-later c so_far networks time until all empty quiet place g (inl due) =
    subst (λ p. is_below (until ∷ 2 ∷ []) p ≡ true) (sym due.place_is)
    (line-before until due.turn.end due.turn.too_old
    (side_number due.side ∷ due.k ∷ due.port ∷ [])
    (quiet-at c networks so_far until due.k all (λ n at. quiet due.k n at) due.side due.port due.turn
    due.low due.high due.next))

pub line-keeps : LineKeeps
line-keeps c so_far old networks time line keeps quiet free stands size clock still =
    let a = admission_after (c.tables line.switch) (came_to line.switch so_far) line.arrival in
    let due-after = quiet-at c networks
    (event_at line.switch (Came a) ∷ so_far) line.arrival.time line.switch stands.all still in
    record {
      next = λ rest. record {
        line = line;
        are = refl;
        free = free;
        is = refl;
        first = due-later c so_far old time line.arrival.time keeps.stands.all keeps.stands.carried quiet;
      };
      keeps = record {
        plan = keeps.plan;
        within = λ k port e joined. (let w = keeps.within k port e joined in
            omega (arith, w, size));
        stands = record {
          all = stands.all;
          carried = record {
            at_time = tt;
            ascending = tt;
            joined = tt;
            carries =
                stands.carried.carries;
          };
          rules = stands.rules;
        };
        behind = tt;
        later = later-then c so_far line.switch a line.arrival.time
            (λ j side port s low high next. (let late = all-after j side port s low high next in
            omega (arith, late))) due-after;
        clock = clock;
        soon = inl refl;
      };
    }
  where
    all-after : (j : ℕ) (side : Side) (port : ℕ) (s : Turn HeldFrame) → 1 ≤ port → port ≤ 24
        → IsNextOn (c.tables j) (at_switch j so_far) side port s
        → IsAfter line.arrival.time (due_at s)
    all-after j side port s low high next =
        quiet-at c old so_far line.arrival.time j keeps.stands.all
        (λ n at. quiet j n at) side port s low high next

-- ---- nothing has happened

pub start-keeps : StartKeeps
start-keeps c networks plan within each clock = record {
  plan = plan;
  within = within;
  stands = nothing-happened c networks each;
  behind = tt;
  later = λ k side port s low high next. omega arith;
  clock = clock;
  soon = inl refl;
}
