-- The rows of a link in an admitted cascade are a way of its frames.
use Rattle.std.proofs.Common.{◌≡◌, ℕ, zero, suc, ◌+◌, ◌≤◌, Bool, true, false, ◌&&◌, List, [], ◌∷◌, All}
use Rattle.std.proofs.Common.{refl, sym, ap, ◌∙◌, subst, arith, Some, None, slice_get, nat_lt, nat_eq}
use Rattle.std.specs.Prelude.{if◌then◌else◌, IsTrue}
use Rattle.std.specs.List.{AllByRecursion}
use Rattle.std.specs.Option.{option_map_or}
use Rattle.std.proofs.lemmas.Bool.{and_parts, eqb-true, leb-true, ltb-true, ltb-false}
use Rattle.std.proofs.lemmas.Option.{same_Some, slice_get_within}
use Rattle.afdx_frame.specs.declared.link.Policing.{Policing}
use Rattle.afdx_frame.specs.declared.link.Policing.TheVariants.{Byte, Frame}
use Rattle.afdx_frame.specs.declared.link.Side.{Side}
use Rattle.afdx_frame.proofs.ListLemmas.{slice_get-within}
use Rattle.afdx_config.specs.Admission.{IsServing}
use Rattle.afdx_config.specs.Reading.{system_at_port}
use Rattle.afdx_config.specs.Rows.{SystemRow, LinkRow, Rows, is_to}
use Rattle.afdx_config.specs.Switches.{NamedRows, AreSwitches, far_end}
use Rattle.afdx_config.proofs.AmongOthersLemmas.{admitted-serving}
use Rattle.afdx_config.proofs.LookUpLemmas.{each_row-found}
use Rattle.afdx_admit.specs.Cascade.{RowAt, row_before, same_policing, same_contract, IsCascadeAdmitted}
use Rattle.afdx_law_bounds.specs.Outputs.{AreTimed}
use Rattle.afdx_switch.specs.Admitted.{IsAdmittedRun}
use Rattle.afdx_switch.specs.Tables.{rule_of, port_of, goes_to}
use Rattle.afdx_network.specs.Events.{Event, Came, Left, Admission, arrivals_in}
use Rattle.afdx_network.specs.Order.{AreInOrder, is_below, key}
use Rattle.afdx_cascade.specs.Admitted.{IsRow, IsAdmittedCascade, CascadeIsAdmitted, RowsAreWays, hop_at}
use Rattle.afdx_cascade.specs.Again.{IsNextThere}
use Rattle.afdx_cascade.specs.Cables.{IsHop, GoesOn, IsNextRow, brought_by}
use Rattle.afdx_cascade.specs.Plans.{plan_of, tables_of}
use Rattle.afdx_cascade.specs.SwitchEvents.{Plan, SwitchEvent, KeepsRules, AlwaysKeepsRules}
use Rattle.afdx_cascade.specs.SwitchEvents.{at_switch, came_to, in_clock}
use Rattle.afdx_cascade.specs.Turning.{end_of}
use Rattle.afdx_cascade.proofs.AcceptedLemmas.{no-taken}
use Rattle.afdx_cascade.proofs.AgainLemmas.{goes-on}
use Rattle.afdx_cascade.proofs.FedLemmas.{before-is, before-row, row-here, switch-of, tables-at, neighbour-there}
use Rattle.afdx_cascade.proofs.OnceLemmas.{turns-there}
use Rattle.afdx_cascade.proofs.PlanLemmas.{at-found, name-by, cable-is, lawful-at, switches-plan}

-- ---- one row after the other

same-policing : (a b : Policing) → same_policing a b ≡ true → b ≡ a
same-policing Byte Byte h = refl
same-policing Frame Frame h = refl
same-policing Byte Frame h = absurd (cc h)
same-policing Frame Byte h = absurd (cc h)

-- the row after one has its contract, and room for its latency
pub next-row : (b l : LinkRow) → b.vl ≡ l.vl → same_contract b l ≡ true → b.jitter_us + b.latency_us ≤ l.jitter_us
    → IsNextRow b l
next-row b l vl same jitter =
    let parts = and_parts ((nat_eq b.bag_ms l.bag_ms && nat_eq b.lmin l.lmin) && nat_eq b.lmax l.lmax)
    (same_policing b.policing l.policing) same in
    let lengths = and_parts (nat_eq b.bag_ms l.bag_ms && nat_eq b.lmin l.lmin) (nat_eq b.lmax l.lmax) parts.0 in
    let first = and_parts (nat_eq b.bag_ms l.bag_ms) (nat_eq b.lmin l.lmin) lengths.0 in
    record {
      vl = sym vl;
      bag_ms = sym (eqb-true b.bag_ms l.bag_ms first.0);
      lmin = sym (eqb-true b.lmin l.lmin first.1);
      lmax = sym (eqb-true b.lmax l.lmax lengths.1);
      policing = same-policing b.policing l.policing parts.1;
      jitter = jitter;
    }

pub rule-port : (t : Rows) (l : LinkRow) (s : SystemRow) → slice_get t.systems l.from ≡ Some s
    → (rule_of t l).port ≡ s.port
unfolding rule_of port_of
rule-port t l s at = ap (λ o. option_map_or (λ (z : SystemRow). z.port) o 0) at

goes-there : (t : Rows) (l : LinkRow) (port place : ℕ) → system_at_port t.systems port ≡ Some place
    → is_to place l ≡ true → goes_to t l port ≡ true
unfolding goes_to
goes-there t l port place at to = ap (λ o. option_map_or (λ system. is_to system l) o false) at ∙ to

module _ (ss : List NamedRows) (are : AreSwitches ss) (admitted : IsCascadeAdmitted ss) where
  -- a cable joins the switch of a row to that of the row before it
  pub next-there : (r b : RowAt) → IsRow ss r → row_before ss r ≡ Some b
      → IsNextThere (plan_of ss) b.switch r.switch b.row r.row
  next-there r b is before =
      let it = before-is ss r b before in
      let own_row = row-here ss r it.here is it.here_is in
      let hop = admitted.hops r.switch it.here it.here_is is.place r.row own_row
      (leb-true it.here.rows.own r.row.from it.past) in
      let b_is : hop.before ≡ b = same_Some hop.before b (sym hop.stands ∙ before) in
      let here = each_row-found it.here.rows (lawful-at ss are r.switch it.here it.here_is) in
      let there = each_row-found it.there.rows (lawful-at ss are b.switch it.there it.there_is) in
      let back = neighbour-there it.there.rows it.here.name it.back it.one it.back_is in
      let at_port = at-found it.here.rows (system_at_port it.here.rows.systems it.one.port) it.one (record {
        i = r.row.from;
        is = here.by_port r.row.from it.one it.one_is;
        beside = ap (λ c. if c then Some r.row.from else None) it.past;
        stands = it.one_is;
      }) in
      let lists = name-by it.there.rows it.here.name back.0 (record {
        i = it.back;
        is = back.2;
        beside = back.3;
        stands = back.1;
      }) in
      let port : (rule_of (tables_of ss r.switch) r.row).port ≡ it.one.port =
      ap (λ t. (rule_of t r.row).port) (tables-at ss r.switch it.here it.here_is)
      ∙ rule-port it.here.rows r.row it.one it.one_is in
      record {
        place = it.row.place;
        stands = ap (λ (t : Rows). slice_get t.links it.row.place) (tables-at ss b.switch it.there it.there_is)
            ∙ it.row.stands;
        next_place = is.place;
        next_stands = ap (λ (t : Rows). slice_get t.links is.place) (tables-at ss r.switch it.here it.here_is)
            ∙ own_row;
        port = back.0.port;
        cable = ap (λ p. end_of (far_end ss r.switch p)) port
            ∙ ap end_of (cable-is ss r.switch it.one.port it.here it.there it.one back.0 b.switch it.here_is
            at_port it.named it.there_is lists);
        goes = ap (λ t. goes_to t b.row back.0.port) (tables-at ss b.switch it.there it.there_is)
            ∙ goes-there it.there.rows b.row back.0.port it.back (there.by_port it.back back.0 back.1) it.goes;
        row = next-row b.row r.row it.row.vl_is
            (ap (λ (z : RowAt). same_contract z.row r.row) (sym b_is) ∙ hop.contract)
            (subst (λ (z : RowAt). z.row.jitter_us + z.row.latency_us ≤ r.row.jitter_us) b_is hop.jitter);
      }

-- ---- what came

-- the rules are kept now
pub keeps-now : (c : Plan) (so_far : List SwitchEvent) → AlwaysKeepsRules c so_far → KeepsRules c so_far
keeps-now c [] each = record {
  turns = λ k port side low high. turns-there c [] k port side each low high;
  cables = λ k port side other joined. record {
    waiting = [];
    brings = ap (λ ts. brought_by side port (in_clock ts)) (no-taken other.port);
  };
}
keeps-now c (h ∷ before) each = each.0

pub run-at : (ss : List NamedRows) (so_far : List SwitchEvent) (k : ℕ) (s : NamedRows) → IsAdmittedCascade ss so_far
    → slice_get ss k ≡ Some s → IsAdmittedRun (tables_of ss k) (came_to k so_far)
run-at ss so_far k s all at = record {
  lawful = (switches-plan ss all.are).0.lawful k;
  admitted = subst IsServing (sym (tables-at ss k s at)) (admitted-serving s.rows (all.admitted.each k s at));
  timed = all.timed k (slice_get_within ss k s at);
}

pub hop-is : (ss : List NamedRows) (so_far : List SwitchEvent) (r : RowAt) → IsAdmittedCascade ss so_far → IsRow ss r
    → IsHop (hop_at ss so_far r)
hop-is ss so_far r all is =
    let s = switch-of ss r is in
    record {
      place = is.place;
      stands = ap (λ (t : Rows). slice_get t.links is.place) (tables-at ss r.switch s.0 s.1) ∙ row-here ss r s.0 is s.1;
      run = run-at ss so_far r.switch s.0 all s.1;
    }

pub hop-goes-on : (ss : List NamedRows) (so_far : List SwitchEvent) (side : Side) (r b : RowAt)
    → IsAdmittedCascade ss so_far → IsRow ss r → row_before ss r ≡ Some b
    → GoesOn side (hop_at ss so_far b) (hop_at ss so_far r)
hop-goes-on ss so_far side r b all is before =
    goes-on (plan_of ss) so_far side b.switch r.switch b.row r.row (switches-plan ss all.are).0
    (keeps-now (plan_of ss) so_far all.rules) (next-there ss all.are all.admitted r b is before)

pub rows-ways : RowsAreWays
rows-ways ss so_far side r [] all is rows = hop-is ss so_far r all is
rows-ways ss so_far side r (b ∷ before) all is rows = (
  hop-is ss so_far r all is,
  hop-goes-on ss so_far side r b all is rows.0,
  rows-ways ss so_far side b before all (before-row ss r b rows.0) rows.1,
)

-- ---- of all that a cascade stands for

pub below-time : (m n : ℕ) (ms ns : List ℕ) → is_below (m ∷ ms) (n ∷ ns) ≡ true → m ≤ n
below-time m n ms ns h = by (nat_lt m n) refl (nat_lt n m) refl h
  where
    by : (a : Bool) → nat_lt m n ≡ a → (b : Bool) → nat_lt n m ≡ b
        → (if a then true else if b then false else is_below ms ns) ≡ true → m ≤ n
    by true is b be h = let lt = ltb-true m n is in omega (arith, lt)
    by false is true be h = absurd (cc h)
    by false is false be h = ltb-false n m be

-- arrivals before one are no later
came-before : (a : Admission) (before : List Event)
    → AllByRecursion (λ d. IsTrue (is_below (key d) (key (Came a)))) before
    → All (λ y. y.time ≤ a.arrival.time) (arrivals_in before)
came-before a [] h k d lt = absurd (omega (arith, lt))
came-before a (Left e ∷ before) h k d lt = came-before a before h.1 k d lt
came-before a (Came e ∷ before) h zero d lt =
    below-time e.arrival.time a.arrival.time (1 ∷ e.place ∷ []) (1 ∷ a.place ∷ []) (true-is h.0)
  where
    true-is : {b : Bool} → IsTrue b → b ≡ true
    true-is h = h
came-before a (Came e ∷ before) h (suc k) d lt = came-before a before h.1 k d (omega (arith, lt))

pub came-timed : (events : List Event) → AreInOrder events → AreTimed (arrivals_in events)
came-timed [] h = tt
came-timed (Came a ∷ before) h = (came-before a before h.0, came-timed before h.1)
came-timed (Left d ∷ before) h = came-timed before h.1

pub cascade-admitted : CascadeIsAdmitted
cascade-admitted ss w so_far are admitted st = record {
  are = are;
  admitted = admitted;
  timed = λ k within.
      let count = st.count in
      let n = slice_get-within w.networks.items k (omega (arith, within, count)) in
      came-timed (at_switch k so_far) (st.keeps.stands.all.each k n.0 n.1).in_order;
  rules = st.keeps.stands.rules;
}
