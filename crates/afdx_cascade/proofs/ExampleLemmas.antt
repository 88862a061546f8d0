-- The example's numbers.
use Rattle.std.proofs.Common.{◌≡◌, ℕ, zero, suc, ◌+◌, ◌*◌, ◌-◌, ◌<◌, ◌≤◌, Bool, true, false, not, List, [], ◌∷◌, ◌++◌, length}
use Rattle.std.proofs.Common.{map, refl, sym, ap, ◌∙◌, subst, arith, Some, None, slice_get}
use Rattle.std.specs.Prelude.{codes, Contains, if◌then◌else◌}
use Rattle.afdx_frame.specs.Flows.{Flow, IsPortAdmitted, high_wait, low_wait, high_load}
use Rattle.afdx_frame.specs.Lines.{first_false, each_from}
use Rattle.afdx_frame.specs.Reading.{BuiltIsComputed}
use Rattle.afdx_frame.proofs.FirstFalseLemmas.{holds_append}
use Rattle.afdx_frame.specs.Regulation.{byte_units}
use Rattle.afdx_frame.specs.declared.link.Policing.TheVariants.{Byte}
use Rattle.afdx_frame.specs.declared.link.Priority.TheVariants.{High, Low}
use Rattle.afdx_frame.specs.declared.link.Side.TheVariants.{A}
use Rattle.afdx_admit.specs.Cascade.{row_at, row_before, is_sent_here, way_latency, reads}
use Rattle.afdx_admit.specs.Cascade.{IsHop as IsAdmittedHop, IsCascadeAdmitted}
use Rattle.afdx_config.specs.Admission.{IsAdmitted, IsServing, byte_ns, flows_to, sender_jitter, links_from}
use Rattle.afdx_config.specs.Flows.{flow_of_link}
use Rattle.afdx_config.specs.Lawful.{IsLawfulSwitch, IsLinkUpTo, IsSystem, ArePorts, AreOfSystems, AreDistinct, triple, HasNoNumber}
use Rattle.afdx_config.specs.Lawful.{jitter_from_any, jitter_from_system}
use Rattle.afdx_config.specs.Reading.{is_name, are_apart, link_of, system_named, system_at_port}
use Rattle.afdx_config.specs.Reading as reading
use Rattle.afdx_config.specs.Rows.{SystemRow, LinkRow, PortRow, example_link}
use Rattle.afdx_config.specs.Switches.{NamedRows, named_rows, AreSwitches, switch_named, own_named, neighbour_named}
use Rattle.afdx_config.specs.Switches.{own_has_id, starts, home_of, home_of_id, start_of, name_lines, system_lines}
use Rattle.afdx_config.specs.Switches.{neighbour_lines, start_lines, systems_lines, neighbours_lines}
use Rattle.afdx_config.specs.Switches.{starts_lines, over_all}
use Rattle.afdx_config.proofs.AmongOthersLemmas.{admitted-serving}
use Rattle.afdx_config.proofs.LawfulLinkLemmas.{example-lawful, with-others}
use Rattle.afdx_police.specs.Arrival.{Arrival, own}
use Rattle.afdx_police.specs.Rule.{regulation_of}
use Rattle.afdx_police.specs.Shape.{IsSound}
use Rattle.afdx_police.specs.Stream.{IsRegular}
use Rattle.afdx_police.specs.Verdicts.{charged_by}
use Rattle.std.specs.List.{AllByRecursion}
use Rattle.afdx_port.specs.Schedule.{Turn}
use Rattle.afdx_switch.specs.Admitted.{IsAdmittedRun, slots}
use Rattle.afdx_switch.specs.HeldFrames.{HeldFrame}
use Rattle.afdx_switch.specs.Hops.{AreCopies}
use Rattle.afdx_switch.specs.Regular.{at_port}
use Rattle.afdx_switch.specs.Tables.{port_of, rule_of}
use Rattle.afdx_switch.proofs.RegularLemmas.{accepted-at}
use Rattle.afdx_law_promises.specs.Examples.{sender, receiver, one, first_on}
use Rattle.afdx_law_promises.specs.Sent.{arrivals_at}
use Rattle.afdx_law_promises.proofs.ExampleLemmas as base
use Rattle.afdx_law_promises.proofs.PortLemmas.{its-turns}
use Rattle.afdx_law_promises.proofs.PromiseLemmas.{goes-there}
use Rattle.afdx_switch.proofs.StreamLemmas.{IsSendable, sendable-sound}
use Rattle.afdx_cascade.specs.Cables.{GoesOn, Gives, rule_at, accepted_at, all_turns, brought, brought_by}
use Rattle.afdx_cascade.specs.Examples.{neighbour, switch_with, link_before, tables_before, link_after, listening}
use Rattle.afdx_cascade.specs.Examples.{tables_after, switches, first_switch, second_switch, PremisesAreMet}
use Rattle.afdx_cascade.specs.Ways.{IsWay}
use Rattle.afdx_cascade.proofs.CableLemmas.{in-order}
use Rattle.afdx_cascade.proofs.WayLemmas.{all-accepted}

-- ---- the tables

is-end : (name : List ℕ) (port id partition : ℕ) → is_name name ≡ true → 1 ≤ port → port ≤ 24 → id ≤ 65535
    → partition ≤ 255
    → IsSystem 2 (record { name = name; port = port; id = id; partition = partition; rate = 100 })
is-end name port id partition named low high number part = record {
  name = named;
  port = (low, high);
  id = (omega arith, number);
  partition = (omega arith, part);
  rate = refl;
}

link-is : (from place jitter : ℕ) → from < 2 → place < 2 → jitter ≤ 1000 → are_apart from (place ∷ []) ≡ true
    → IsLinkUpTo jitter_from_any 2 (record example_link { from = from; to = place ∷ []; jitter_us = jitter })
link-is from place jitter sends gets low apart =
    with-others jitter_from_system jitter_from_any 2 (record example_link { from = from; to = place ∷ [] })
    (example-lawful 2 from place sends gets apart) Byte jitter 11 1000 (omega (arith, low))
    (omega arith, omega arith) (omega arith, omega arith)

lawful-with : (system other : SystemRow) (l : LinkRow) (ports : List PortRow) → IsSystem 2 system → IsSystem 2 other
    → (system.name ≡ other.name → ⊥) → (system.port ≡ other.port → ⊥) → IsLinkUpTo jitter_from_any 2 l
    → (l.from < 1 → l.jitter_us ≤ jitter_from_system l.bag_ms) → ArePorts 2 (l ∷ []) ports → AreOfSystems 1 ports
    → HasNoNumber other → IsLawfulSwitch (switch_with system other l ports)
lawful-with system other l ports first second names apart link sent are heard no-number = record {
  profile = (omega arith, omega arith);
  buffer = (omega arith, omega arith);
  own = omega arith;
  systems = record {
    count = omega arith;
    each = (first, (second, tt));
    names = base.two-distinct (λ (s : SystemRow). s.name) system other names;
    ports = base.two-distinct (λ (s : SystemRow). s.port) system other apart;
    ids = base.one-distinct (λ (s : SystemRow). s.id) system;
    few = omega arith;
    neighbours = (no-number, tt);
  };
  links = record { count = omega arith; each = (link, tt); identifiers = base.one-distinct (λ (m : LinkRow). m.vl) l };
  sent = base.one-at (λ i (m : LinkRow). m.from < 1 → m.jitter_us ≤ jitter_from_system m.bag_ms) l sent;
  ports = are;
  heard = heard;
}

none-distinct : {R X : Type 0} (f : R → X) → AreDistinct f []
unfolding AreDistinct
none-distinct f i j a b at there same = absurd (cc at)

first-byte : (a b : ℕ) (xs ys : List ℕ) → (a ≡ b → ⊥) → a ∷ xs ≡ b ∷ ys → ⊥
first-byte a b xs ys apart same = apart (cc same)

pub lawful-before : IsLawfulSwitch tables_before
unfolding is_name are_apart
lawful-before = lawful-with sender (neighbour (codes "aft") 2) link_before []
    (is-end (codes "s1") 1 1 1 refl (omega arith) (omega arith) (omega arith) (omega arith))
    (is-end (codes "aft") 2 0 0 refl (omega arith) (omega arith) (omega arith) (omega arith))
    (first-byte 115 97 (codes "1") (codes "ft") (λ same. omega (arith, same))) (λ same. omega (arith, same))
    (link-is 0 1 489 (omega arith) (omega arith) (omega arith) refl) (λ from. omega arith)
    (record { count = omega arith; each = tt; triples = none-distinct triple }) (λ i p at. absurd (cc at)) (refl, refl)

pub lawful-after : IsLawfulSwitch tables_after
unfolding is_name are_apart reading.goes_to
lawful-after = lawful-with receiver (neighbour (codes "fwd") 1) link_after (listening ∷ [])
    (is-end (codes "s2") 2 2 1 refl (omega arith) (omega arith) (omega arith) (omega arith))
    (is-end (codes "fwd") 1 0 0 refl (omega arith) (omega arith) (omega arith) (omega arith))
    (first-byte 115 102 (codes "2") (codes "wd") (λ same. omega (arith, same))) (λ same. omega (arith, same))
    (link-is 1 0 500 (omega arith) (omega arith) (omega arith) refl) (λ from. omega arith)
    (record {
      count = omega arith;
      each = (
        record {
          system = omega arith;
          link = refl;
          udp = (omega arith, omega arith);
          depth = (omega arith, omega arith);
        },
        tt,
      );
      triples = base.one-distinct triple listening;
    })
    (base.one-at (λ i (p : PortRow). p.system < 1) listening (omega arith)) (refl, refl)

names-hold : first_false (each_from (name_lines switches) 0 2) ≡ None
unfolding name_lines switch_named first_false each_from
names-hold = refl

systems-hold : first_false (each_from (systems_lines switches) 0 2) ≡ None
unfolding systems_lines system_lines switch_named own_named system_named own_has_id home_of home_of_id first_false each_from
systems-hold = refl

neighbours-hold : first_false (each_from (neighbours_lines switches) 0 2) ≡ None
unfolding neighbours_lines neighbour_lines switch_named neighbour_named system_named first_false each_from
neighbours-hold = refl

starts-hold : first_false (each_from (starts_lines switches) 0 2) ≡ None
unfolding starts_lines start_lines start_of starts link_of first_false each_from
starts-hold = refl

all-hold : first_false (over_all switches) ≡ None
unfolding over_all
all-hold =
    holds_append (each_from (name_lines switches) 0 2)
    (each_from (systems_lines switches) 0 2
    ++ (each_from (neighbours_lines switches) 0 2 ++ each_from (starts_lines switches) 0 2)) names-hold
    (holds_append (each_from (systems_lines switches) 0 2)
    (each_from (neighbours_lines switches) 0 2 ++ each_from (starts_lines switches) 0 2) systems-hold
    (holds_append (each_from (neighbours_lines switches) 0 2) (each_from (starts_lines switches) 0 2) neighbours-hold
    starts-hold))

pub are-switches : AreSwitches switches
unfolding is_name
are-switches = record {
  count = (omega arith, omega arith);
  names = (refl, (refl, tt));
  each = (lawful-before, (lawful-after, tt));
  over = all-hold;
}

-- ---- they are admitted

HighLine : Flow → Type 0
HighLine f = f.priority ≡ High → high_wait 80 (flow_of_link link_before ∷ []) ≤ f.latency * byte_units

LowLine : Flow → Type 0
LowLine f = f.priority ≡ Low → low_wait 80 (flow_of_link link_before ∷ [])
    ≤ f.latency * (byte_units - high_load 80 (flow_of_link link_before ∷ []))

port-admitted : IsPortAdmitted 80 126 (flow_of_link link_before ∷ [])
unfolding HighLine LowLine
port-admitted = record {
  no_overload = omega arith;
  fits_buffer = omega arith;
  high_in_time = base.all-one HighLine (flow_of_link link_before) (λ high. omega arith);
  low_in_time = base.all-one LowLine (flow_of_link link_before) (λ low. absurd (cc low));
}

jitter-before : (i : ℕ) (l : LinkRow) (s : SystemRow) → slice_get tables_before.links i ≡ Some l
    → slice_get tables_before.systems l.from ≡ Some s
    → sender_jitter (byte_ns s) (links_from tables_before.links l.from) ≤ 1000 * l.jitter_us
jitter-before i l s at from =
    base.one-at (λ k (m : LinkRow). slice_get tables_before.systems m.from ≡ Some s
    → sender_jitter (byte_ns s) (links_from tables_before.links m.from) ≤ 1000 * m.jitter_us) link_before
    (λ here. let same : sender ≡ s = cc here in
    subst (λ (r : SystemRow). sender_jitter (byte_ns r) (links_from tables_before.links 0)
    ≤ 1000 * 489) same (omega arith)) i l at from

admitted-first : IsAdmitted tables_before
admitted-first = record {
  ports = base.two-at (λ i (s : SystemRow). IsPortAdmitted (byte_ns s) 126 (flows_to (link_before ∷ []) i))
      sender (neighbour (codes "aft") 2) base.none-there port-admitted;
  senders = λ i s at own. base.two-at (λ j (r : SystemRow). sender_jitter (byte_ns r) (links_from (link_before ∷ []) j)
      ≤ 500000) sender (neighbour (codes "aft") 2) (omega arith) (omega arith) i s at;
  jitters = λ i l s at from own. jitter-before i l s at from;
  skews = base.one-at (λ i (l : LinkRow). l.latency_us ≤ l.skew_us) link_before (omega arith);
}

admitted-second : IsAdmitted tables_after
admitted-second = record {
  ports = base.two-at (λ i (s : SystemRow). IsPortAdmitted (byte_ns s) 126 (flows_to (link_after ∷ []) i))
      receiver (neighbour (codes "fwd") 1) base.one-there base.none-there;
  senders = λ i s at own. base.two-at (λ j (r : SystemRow). sender_jitter (byte_ns r) (links_from (link_after ∷ []) j)
      ≤ 500000) receiver (neighbour (codes "fwd") 1) (omega arith) (omega arith) i s at;
  jitters = λ i l s at from own. absurd (base.one-at (λ j (m : LinkRow). m.from < 1 → ⊥) link_after
      (λ sent. omega (arith, sent)) i l at own);
  skews = base.one-at (λ i (l : LinkRow). l.latency_us ≤ l.skew_us) link_after (omega arith);
}

pub admitted-before : IsServing tables_before
admitted-before = admitted-serving tables_before admitted-first

pub admitted-after : IsServing tables_after
admitted-after = admitted-serving tables_after admitted-second

is-hop : IsAdmittedHop switches tables_after (row_at 1 link_after)
unfolding row_before way_latency is_sent_here switch_named neighbour_named system_named link_of
is-hop = record {
  before = row_at 0 link_before;
  sum = 22;
  stands = refl;
  way = refl;
  contract = refl;
  jitter = omega arith;
  skew = λ goes. omega arith;
}

is-read : (place : ℕ) → Contains (1 ∷ []) place → reads switches (named_rows (codes "fwd") tables_before) link_before
    place
    ≡ true
unfolding switch_named neighbour_named system_named link_of
is-read place (zero, within, at) =
    let same : 1 ≡ place = at in
    subst (λ p. reads switches (named_rows (codes "fwd") tables_before) link_before p ≡ true) same refl
is-read place (suc i, within, at) = absurd (omega (arith, within))

not-there : (place : ℕ) → Contains (0 ∷ []) place → 1 ≤ place → ⊥
not-there place (zero, within, at) some = let same : 0 ≡ place = at in omega (arith, same, some)
not-there place (suc i, within, at) some = omega (arith, within)

pub cascade-admitted : IsCascadeAdmitted switches
cascade-admitted = record {
  each = base.two-at (λ k (s : NamedRows). IsAdmitted s.rows) (named_rows (codes "fwd") tables_before)
      (named_rows (codes "aft") tables_after) admitted-first admitted-second;
  hops = base.two-at (λ k (s : NamedRows). (i : ℕ) (l : LinkRow) → slice_get s.rows.links i ≡ Some l
      → s.rows.own ≤ l.from → IsAdmittedHop switches s.rows (row_at k l)) (named_rows (codes "fwd") tables_before)
      (named_rows (codes "aft") tables_after)
      (base.one-at (λ i (l : LinkRow). 1 ≤ l.from → IsAdmittedHop switches tables_before (row_at 0 l)) link_before
      (λ past. absurd (omega (arith, past))))
      (base.one-at (λ i (l : LinkRow). 1 ≤ l.from → IsAdmittedHop switches tables_after (row_at 1 l)) link_after
      (λ past. is-hop));
  readers = base.two-at (λ k (s : NamedRows). (i : ℕ) (l : LinkRow) → slice_get s.rows.links i ≡ Some l
      → (place : ℕ) → Contains l.to place → s.rows.own ≤ place → reads switches s l place ≡ true)
      (named_rows (codes "fwd") tables_before) (named_rows (codes "aft") tables_after)
      (base.one-at (λ i (l : LinkRow). (place : ℕ) → Contains l.to place → 1 ≤ place
      → reads switches (named_rows (codes "fwd") tables_before) l place ≡ true) link_before
      (λ place to some. is-read place to))
      (base.one-at (λ i (l : LinkRow). (place : ℕ) → Contains l.to place → 1 ≤ place
      → reads switches (named_rows (codes "aft") tables_after) l place ≡ true) link_after
      (λ place to some. absurd (not-there place to some)));
}

-- ---- the frame at the first switch

sendable : BuiltIsComputed → IsSendable link_before (first_on A)
sendable computed =
    let is = base.first-is computed A in
    let long = is.long in
    record {
      frame = record { parts = _; is_frame = is.parts; named = refl };
      long = (omega (arith, long), omega (arith, long));
    }

sound : BuiltIsComputed → IsSound (rule_at first_switch) 1 (first_on A)
unfolding rule_of port_of
sound computed = sendable-sound tables_before link_before 1 (first_on A) (sendable computed) refl

pub own-one : BuiltIsComputed → at_port (rule_at first_switch) (own 1 A one) ≡ one
unfolding rule_of port_of
own-one computed = rw (base.first-named computed A) refl

pub accepted-first : BuiltIsComputed → accepted_at first_switch A ≡ one
unfolding rule_of port_of
accepted-first computed =
    let long = (base.first-is computed A).long in
    (accepted-at (rule_at first_switch) (own 1 A one) 1000000
    (subst (λ xs. AllByRecursion (λ x. IsSound (rule_at first_switch) x.port x.bytes) xs) (sym (own-one computed))
    (sound computed, tt))
    (subst (λ xs. IsRegular (regulation_of (rule_at first_switch)) (map (charged_by (rule_at first_switch)) xs) 1000000)
    (sym (own-one computed))
    (0, omega arith, omega arith, omega arith, omega (arith, long), tt))).arrivals
    ∙ own-one computed

-- ---- the cable

all-there : (turns : List (Turn HeldFrame)) → arrivals_at A 1 (brought_by A 1 turns) ≡ brought_by A 1 turns
all-there [] = refl
all-there (s ∷ earlier) = by s.too_old (all-there earlier)
  where
    by : (b : Bool) → arrivals_at A 1 (brought_by A 1 earlier) ≡ brought_by A 1 earlier
        → arrivals_at A 1 (map (brought A 1) (if not b then s ∷ slots earlier else slots earlier))
        ≡ map (brought A 1) (if not b then s ∷ slots earlier else slots earlier)
    by true rest = rest
    by false rest = ap (λ xs. brought A 1 s ∷ xs) rest

port-one : (rule_at second_switch).port ≡ 1
unfolding rule_of port_of
port-one = refl

same-length : (d : ℕ) (xs ys : List Arrival) → AreCopies d xs ys → length ys ≡ length xs
same-length d [] [] are = refl
same-length d [] (y ∷ ys) are = absurd are
same-length d (x ∷ xs) [] are = absurd are
same-length d (x ∷ xs) (y ∷ ys) are = let rest = same-length d xs ys are.1 in omega (arith, rest)

first-run : IsAdmittedRun tables_before one
first-run = record {
  lawful = lawful-before;
  admitted = admitted-before;
  timed = ((λ k d lt. absurd (omega (arith, lt))), tt);
}

gives : Gives first_switch A 2 (all_turns first_switch A 2)
gives = record {
  goes = goes-there tables_before 1 (neighbour (codes "aft") 2) link_before lawful-before refl refl;
  are = (its-turns tables_before A 2 one first-run.timed).each_next;
}

goes-on : GoesOn A first_switch second_switch
goes-on = record {
  port = 2;
  turns = all_turns first_switch A 2;
  gives = gives;
  brings = subst (λ n. arrivals_at A n second_switch.arrivals ≡ brought_by A n (all_turns first_switch A 2))
      (sym port-one) (all-there (all_turns first_switch A 2));
  row = record {
    vl = refl;
    bag_ms = refl;
    lmin = refl;
    lmax = refl;
    policing = refl;
    jitter = omega arith;
  };
}

the-way : IsWay A second_switch (first_switch ∷ [])
the-way = (
  record {
    place = 0;
    stands = refl;
    run = record {
      lawful = lawful-after;
      admitted = admitted-after;
      timed = in-order first_switch A 2 1 (all_turns first_switch A 2) gives;
    };
  },
  goes-on,
  record { place = 0; stands = refl; run = first-run },
)

pub premises-met : BuiltIsComputed → PremisesAreMet
unfolding goes-on the-way
premises-met computed = record {
  way = the-way;
  whole = (refl, tt);
  goes = goes-there tables_after 0 receiver link_after lawful-after refl refl;
  at_first = accepted-first computed;
  at_second = same-length (0 + 11000) (accepted_at first_switch A) (accepted_at second_switch A)
      (all-accepted A second_switch (first_switch ∷ []) the-way (refl, tt))
      ∙ ap length (accepted-first computed);
}
