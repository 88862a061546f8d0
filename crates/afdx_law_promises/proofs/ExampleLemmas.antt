-- The example's numbers.
use Rattle.afdx_config.proofs.AmongOthersLemmas.{among_others, admitted-serving}
use Rattle.afdx_config.proofs.LawfulLinkLemmas.{example-lawful, with-others}
use Rattle.afdx_switch.proofs.StreamLemmas.{accepted-stream}
use Rattle.afdx_switch.specs.Regular.{at_port}
use Rattle.afdx_law_promises.proofs.PromiseLemmas.{goes-there}
use Rattle.afdx_law_promises.proofs.PortLemmas.{slots-are-all}
use Rattle.afdx_network.specs.Events.{turns_at}
use Rattle.afdx_law_bounds.proofs.TableLemmas.{port-of-system}
use Rattle.afdx_switch.specs.Laws.{is_of}
use Rattle.afdx_switch.specs.HeldFrames.{HeldFrame}
use Rattle.afdx_port.specs.Schedule.{Entry, Turn, lasting, has_turn, IsNext, AreTurns}
use Rattle.afdx_port.specs.Classes.{entries_in}
use Rattle.std.proofs.Common.{◌≡◌, ℕ, Bool, false, true, zero, suc, ◌+◌, ◌*◌, ◌-◌, ◌^◌, ◌<◌, ◌≤◌}
use Rattle.std.proofs.Common.{List, [], ◌∷◌, length, refl, sym, ap, ◌∙◌, subst, arith, ◌++◌, map}
use Rattle.std.specs.Prelude.{Option, Some, None, All, slice_get, slice_index, filter, reverse, if◌then◌else◌}
use Rattle.afdx_frame.specs.Grammar.{Buildable}
use Rattle.afdx_frame.specs.Flows.{Flow, IsPortAdmitted, high_wait, low_wait, high_load}
use Rattle.afdx_frame.specs.Regulation.{byte_units, jitter_from_system}
use Rattle.afdx_frame.specs.declared.link.Policing.TheVariants.{Byte}
use Rattle.afdx_frame.specs.declared.link.Priority.TheVariants.{High, Low}
use Rattle.afdx_config.specs.Flows.{flow_of_link}
use Rattle.afdx_config.specs.Numbers.{after_steps}
use Rattle.std.specs.List.{AllByRecursion}
use Rattle.std.proofs.lemmas.List.Elements.{All-from_recursion, filter-append}
use Rattle.afdx_police.specs.Arrival.{arrival_with, own}
use Rattle.afdx_law_bounds.specs.Outputs.{AreTimed}
use Rattle.afdx_frame.specs.Reading.{IsTheFrame, BuiltIsComputed}
use Rattle.afdx_frame.specs.Sealing.{AreBytes}
use Rattle.afdx_frame.specs.declared.link.Side.{Side}
use Rattle.afdx_frame.specs.declared.link.Side.TheVariants.{A, B}
use Rattle.afdx_config.specs.Admission.{IsAdmitted, byte_ns, flows_to, sender_jitter, links_from}
use Rattle.afdx_config.specs.Lawful.{IsLawful, IsBetweenSystems, AreDistinct, triple}
use Rattle.afdx_config.specs.declared.rows.Kind.TheVariants.{Sampling}
use Rattle.afdx_config.specs.LawfulStream.{Sending, IsSent}
use Rattle.afdx_config.specs.Reading.{is_name, are_apart, has_port}
use Rattle.afdx_config.specs.Reading as reading
use Rattle.afdx_config.specs.Rows.{SystemRow, LinkRow}
use Rattle.afdx_config.specs.SentList.{Message, Sent, sent_at, address_of, CanBeSent}
use Rattle.afdx_police.specs.Arrival.{Arrival, names, own}
use Rattle.afdx_switch.specs.Admitted.{IsAdmittedRun, passing, passing_in, accepted_on}
use Rattle.afdx_switch.specs.Admitted.{accepted_frames, frames_left, AreInTime}
use Rattle.afdx_switch.specs.Tables.{port_of, rule_of, goes_to, entries_at}
use Rattle.afdx_law_promises.specs.Examples.{sender, receiver, link, tables, heard, unheard, first_on}
use Rattle.afdx_law_promises.specs.Examples.{second_on, stream, arrivals, PremisesAreMet, link_with}
use Rattle.afdx_law_promises.specs.Examples.{tables_with, one, AdmissionIsNeeded, TimesAreNeeded}
use Rattle.afdx_law_promises.specs.NetworkPromises.{PortsKeepPromises}
use Rattle.afdx_switch.specs.Streams.{at_own_port, AreFirstOf, IsFed, IsFrameAt, IsStreamOf}
use Rattle.afdx_law_promises.proofs.ToldLemmas.{told-once}
use Rattle.afdx_law_promises.proofs.OnceLemmas.{messages-once}
use Rattle.afdx_law_promises.proofs.ReceiverLemmas.{names-frame}

-- ---- the tables

pub two-distinct : {R X : Type 0} (f : R → X) (a b : R) → (f a ≡ f b → ⊥) → AreDistinct f (a ∷ b ∷ [])
unfolding AreDistinct
two-distinct f a b apart zero zero x y at there same = refl
two-distinct f a b apart (suc zero) (suc zero) x y at there same = refl
two-distinct f a b apart zero (suc zero) x y at there same =
    absurd (let here : a ≡ x = cc at in let last : b ≡ y = cc there in
    apart (ap f here ∙ same ∙ sym (ap f last)))
two-distinct f a b apart (suc zero) zero x y at there same =
    absurd (let here : b ≡ x = cc at in let last : a ≡ y = cc there in
    apart (ap f last ∙ sym same ∙ sym (ap f here)))
two-distinct f a b apart (suc (suc i)) j x y at there same = absurd (cc at)
two-distinct f a b apart zero (suc (suc j)) x y at there same = absurd (cc there)
two-distinct f a b apart (suc zero) (suc (suc j)) x y at there same = absurd (cc there)

pub one-distinct : {R X : Type 0} (f : R → X) (a : R) → AreDistinct f (a ∷ [])
unfolding AreDistinct
one-distinct f a zero zero x y at there same = refl
one-distinct f a (suc i) j x y at there same = absurd (cc at)
one-distinct f a zero (suc j) x y at there same = absurd (cc there)

is-lawful : (latency : ℕ) → 1 ≤ latency → latency ≤ 100000 → IsLawful (tables_with latency)
unfolding is_name are_apart reading.goes_to
is-lawful latency some most = record {
  profile = (omega arith, omega arith);
  buffer = (omega arith, omega arith);
  own = refl;
  systems = record {
    count = omega arith;
    each = (
      record {
        name = refl;
        port = (omega arith, omega arith);
        id = (omega arith, omega arith);
        partition = (omega arith, omega arith);
        rate = refl;
      },
      (
        record {
          name = refl;
          port = (omega arith, omega arith);
          id = (omega arith, omega arith);
          partition = (omega arith, omega arith);
          rate = refl;
        },
        tt,
      ),
    );
    names = two-distinct (λ (s : SystemRow). s.name) sender receiver
        (λ same. let byte : 49 ≡ 50 = ap (λ (name : List ℕ). slice_index name 1) same in
        omega (arith, byte));
    ports = two-distinct (λ (s : SystemRow). s.port) sender receiver (λ same. omega (arith, same));
    ids = two-distinct (λ (s : SystemRow). s.id) sender receiver (λ same. omega (arith, same));
  };
  links = record {
    count = omega arith;
    each = (
      with-others jitter_from_system jitter_from_system 2 link
          (example-lawful 2 0 1 (omega arith) (omega arith) refl) Byte 500 latency 1000 (omega arith) (some, most)
          (omega arith, omega arith),
      tt,
    );
    identifiers = one-distinct (λ (l : LinkRow). l.vl) (link_with latency);
  };
  ports = record {
    count = omega arith;
    each = (
      record {
        system = omega arith;
        link = refl;
        udp = (omega arith, omega arith);
        depth = (omega arith, omega arith);
      },
      tt,
    );
    triples = one-distinct triple (record { system = 1; link = 1; udp = 5; kind = Sampling; depth = 1 });
  };
}

-- what holds of one element, or of both of two, holds of each that stands there
pub all-one : {X : Type 0} (P : X → Type 0) (x : X) → P x → All P (x ∷ [])
all-one P x own zero d lt = own
all-one P x own (suc k) d lt = absurd (omega (arith, lt))

pub one-at : {X : Type 0} (P : ℕ → X → Type 0) (a : X) → P 0 a → (i : ℕ) (x : X) → slice_get (a ∷ []) i ≡ Some x → P i x
one-at P a first zero x at = let same : a ≡ x = cc at in subst (P 0) same first
one-at P a first (suc i) x at = absurd (cc at)

pub two-at : {X : Type 0} (P : ℕ → X → Type 0) (a b : X) → P 0 a → P 1 b → (i : ℕ) (x : X)
    → slice_get (a ∷ b ∷ []) i ≡ Some x → P i x
two-at P a b first second zero x at = let same : a ≡ x = cc at in subst (P 0) same first
two-at P a b first second (suc zero) x at = let same : b ≡ x = cc at in subst (P 1) same second
two-at P a b first second (suc (suc i)) x at = absurd (cc at)

pub none-there : IsPortAdmitted 80 126 []
none-there = record {
  no_overload = omega arith;
  fits_buffer = omega arith;
  high_in_time =
      λ k d lt. absurd (omega (arith, lt));
  low_in_time = λ k d lt. absurd (omega (arith, lt));
}

HighLine : Flow → Type 0
HighLine f = f.priority ≡ High → high_wait 80 (flow_of_link link ∷ []) ≤ f.latency * byte_units

LowLine : Flow → Type 0
LowLine f = f.priority ≡ Low → low_wait 80 (flow_of_link link ∷ [])
    ≤ f.latency * (byte_units - high_load 80 (flow_of_link link ∷ []))

pub one-there : IsPortAdmitted 80 126 (flow_of_link link ∷ [])
unfolding HighLine LowLine
one-there = record {
  no_overload = omega arith;
  fits_buffer = omega arith;
  high_in_time = all-one HighLine (flow_of_link link) (λ high. omega arith);
  low_in_time = all-one LowLine (flow_of_link link) (λ low. absurd (cc low));
}

jitter-of : (i : ℕ) (l : LinkRow) (s : SystemRow) → slice_get tables.links i ≡ Some l
    → slice_get tables.systems l.from ≡ Some s
    → sender_jitter (byte_ns s) (links_from tables.links l.from) ≤ 1000 * l.jitter_us
jitter-of i l s at from =
    one-at (λ k (m : LinkRow). slice_get tables.systems m.from ≡ Some s
    → sender_jitter (byte_ns s) (links_from tables.links m.from) ≤ 1000 * m.jitter_us) link
    (λ here. let same : sender ≡ s = cc here in
    subst (λ (r : SystemRow). sender_jitter (byte_ns r) (links_from tables.links 0)
    ≤ 1000 * 500) same (omega arith)) i l at from

is-admitted : IsAdmitted tables
is-admitted = record {
  ports = two-at (λ i (s : SystemRow). IsPortAdmitted (byte_ns s) 126 (flows_to (link ∷ []) i))
      sender receiver none-there one-there;
  senders = λ i s at own. two-at (λ i (s : SystemRow). sender_jitter (byte_ns s) (links_from (link ∷ []) i)
      ≤ 500000) sender receiver (omega arith) (omega arith) i s at;
  jitters = λ i l s at from own. jitter-of i l s at from;
  skews = one-at (λ i (l : LinkRow). l.latency_us ≤ l.skew_us) link (omega arith);
}

-- ---- the frames

pub one-byte : (b : ℕ) → b < 2 ^ 8 → AreBytes (b ∷ [])
one-byte b small zero = small
one-byte b small (suc i) = omega arith

pub heard-buildable : Buildable (address_of sender link heard) heard.payload
heard-buildable = record {
  least = omega arith;
  most = omega arith;
  some = omega arith;
  fits = omega arith;
  vl = omega arith;
  from_port = omega arith;
  to_port = omega arith;
  system_id = omega arith;
  partition = omega arith;
}

unheard-buildable : Buildable (address_of sender link unheard) unheard.payload
unheard-buildable = record {
  least = omega arith;
  most = omega arith;
  some = omega arith;
  fits = omega arith;
  vl = omega arith;
  from_port = omega arith;
  to_port = omega arith;
  system_id = omega arith;
  partition = omega arith;
}

pub first-is : BuiltIsComputed → (side : Side)
    → IsTheFrame (address_of sender link heard) 0 side heard.payload (first_on side)
unfolding first_on
first-is computed side = computed (address_of sender link heard) 0 side heard.payload
    heard-buildable (one-byte 7 (omega arith)) (omega arith)

second-is : BuiltIsComputed → (side : Side)
    → IsTheFrame (address_of sender link unheard) 1 side unheard.payload (second_on side)
unfolding second_on
second-is computed side = computed (address_of sender link unheard) 1 side unheard.payload
    unheard-buildable (one-byte 8 (omega arith)) (omega arith)

pub first-named : BuiltIsComputed → (side : Side) → names 1 (first_on side) ≡ true
first-named computed side = names-frame 1 (first_on side) _ (first-is computed side).parts

second-named : BuiltIsComputed → (side : Side) → names 1 (second_on side) ≡ true
second-named computed side = names-frame 1 (second_on side) _ (second-is computed side).parts

-- ---- the stream

pub first-sent : BuiltIsComputed → (latency : ℕ)
    → IsSent sender (link_with latency) (record { message = heard; number = 0 })
    (record { time = 0; a = first_on A; b = first_on B })
first-sent computed latency = record {
  a = (first-is computed A).built;
  b = (first-is computed B).built;
  a_length = (let long = (first-is computed A).long in (omega (arith, long), omega (arith, long)));
  b_length = (let long = (first-is computed B).long in (omega (arith, long), omega (arith, long)));
}

second-sent : BuiltIsComputed → (latency : ℕ)
    → IsSent sender (link_with latency) (record { message = unheard; number = 1 })
    (record { time = 1000000; a = second_on A; b = second_on B })
second-sent computed latency = record {
  a = (second-is computed A).built;
  b = (second-is computed B).built;
  a_length = (let long = (second-is computed A).long in (omega (arith, long), omega (arith, long)));
  b_length = (let long = (second-is computed B).long in (omega (arith, long), omega (arith, long)));
}

apart : (k r later : ℕ) → slice_get (0 ∷ 1000000 ∷ []) k ≡ Some r
    → slice_get (0 ∷ 1000000 ∷ []) (k + 1) ≡ Some later → r + 1000000 * 1 ≤ later
apart zero r later at next = let here : 0 ≡ r = cc at in let there : 1000000 ≡ later = cc next in
    omega (arith, here, there)
apart (suc zero) r later at next = absurd (cc next)
apart (suc (suc k)) r later at next = absurd (cc at)

time_in : Option Sending → ℕ
time_in None = 0
time_in (Some y) = y.time

shaped : (k r : ℕ) (y : Sending) → slice_get (0 ∷ 1000000 ∷ []) k ≡ Some r
    → slice_get stream k ≡ Some y → (r ≤ y.time) × (y.time ≤ r + 1000 * 500)
unfolding time_in
shaped zero r y at there = let here : 0 ≡ r = cc at in let same : 0 ≡ y.time =
    ap (λ (o : Option Sending). time_in o) there in (omega (arith, here, same), omega (arith, here, same))
shaped (suc zero) r y at there = let here : 1000000 ≡ r = cc at in let same : 1000000 ≡ y.time =
    ap (λ (o : Option Sending). time_in o) there in (omega (arith, here, same), omega (arith, here, same))
shaped (suc (suc k)) r y at there = absurd (cc at)

sent : BuiltIsComputed → (latency : ℕ) → (k : ℕ) (x : Sent) (y : Sending)
    → sent_at (heard ∷ unheard ∷ []) k ≡ Some x → slice_get stream k ≡ Some y
    → IsSent sender (link_with latency) x y
unfolding after_steps
sent computed latency zero x y at there =
    let x_is : record { message = heard; number = 0 } ≡ x = cc at in
    let y_is : record { time = 0; a = first_on A; b = first_on B } ≡ y = cc there in
    subst (λ z. IsSent sender (link_with latency) z y) x_is
    (subst (λ z. IsSent sender (link_with latency) (record { message = heard; number = 0 }) z)
    y_is (first-sent computed latency))
sent computed latency (suc zero) x y at there =
    let x_is : record { message = unheard; number = 1 } ≡ x = cc at in
    let y_is : record { time = 1000000; a = second_on A; b = second_on B } ≡ y = cc there in
    subst (λ z. IsSent sender (link_with latency) z y) x_is
    (subst (λ z. IsSent sender (link_with latency) (record { message = unheard; number = 1 }) z)
    y_is (second-sent computed latency))
sent computed latency (suc (suc k)) x y at there = absurd (cc at)

is-stream : BuiltIsComputed → (latency : ℕ)
    → IsStreamOf (tables_with latency) (link_with latency) (heard ∷ unheard ∷ []) stream
is-stream computed latency = record {
  sender = sender;
  stands = refl;
  lawful = record {
    moments = 0 ∷ 1000000 ∷ [];
    moment_count = refl;
    message_count = refl;
    sendable = two-at (λ k (m : Message). CanBeSent sender (link_with latency) m) heard unheard
        (record { buildable = heard-buildable; bytes = one-byte 7 (omega arith) })
        (record { buildable = unheard-buildable; bytes = one-byte 8 (omega arith) });
    apart = apart;
    shaped = shaped;
    sent = sent computed latency;
  };
}

-- ---- the arrivals

at-a : BuiltIsComputed → at_own_port tables link A arrivals
    ≡ arrival_with 4 1000000 A 1 (second_on A) ∷ arrival_with 1 0 A 1 (first_on A) ∷ []
unfolding rule_of port_of
at-a computed = rw (first-named computed A, second-named computed A) refl

at-b : BuiltIsComputed → at_own_port tables link B arrivals
    ≡ arrival_with 5 1000000 B 1 (second_on B) ∷ arrival_with 2 0 B 1 (first_on B) ∷ []
unfolding rule_of port_of
at-b computed = rw (first-named computed B, second-named computed B) refl

sendings : (side : Side) (m n : ℕ)
    → AreFirstOf side stream (arrival_with m 1000000 side 1 (second_on side)
    ∷ arrival_with n 0 side 1 (first_on side) ∷ [])
sendings A m n = (
  record {
    sending = record { time = 1000000; a = second_on A; b = second_on B };
    at_place = refl;
    time = refl;
    bytes = refl;
  },
  (
    record {
      sending = record { time = 0; a = first_on A; b = first_on B };
      at_place = refl;
      time = refl;
      bytes = refl;
    },
    tt,
  ),
)
sendings B m n = (
  record {
    sending = record { time = 1000000; a = second_on A; b = second_on B };
    at_place = refl;
    time = refl;
    bytes = refl;
  },
  (
    record {
      sending = record { time = 0; a = first_on A; b = first_on B };
      at_place = refl;
      time = refl;
      bytes = refl;
    },
    tt,
  ),
)

is-fed : BuiltIsComputed → (side : Side) → IsFed tables link stream side arrivals
is-fed computed A = record {
  frames =
      subst (AreFirstOf A stream) (sym (at-a computed)) (sendings A 4 1);
  whole = ap length (at-a computed);
}
is-fed computed B = record {
  frames =
      subst (AreFirstOf B stream) (sym (at-b computed)) (sendings B 5 2);
  whole = ap length (at-b computed);
}

Timed : List Arrival → Type 0
Timed [] = Unit {0}
Timed (x ∷ past) = AllByRecursion (λ y. y.time ≤ x.time) past × Timed past

timed : (xs : List Arrival) → Timed xs → AreTimed xs
unfolding Timed
timed [] all = tt
timed (x ∷ past) all = (All-from_recursion (λ (y : Arrival). y.time ≤ x.time) past all.0, timed past all.1)

is-timed : AreTimed arrivals
unfolding Timed
is-timed = timed arrivals (
  (omega arith, (omega arith, (omega arith, (omega arith, tt)))),
  ((omega arith, (omega arith, (omega arith, tt))), ((omega arith, (omega arith, tt)), ((omega arith, tt), (tt, tt)))),
)

heard-only : filter (λ m. has_port tables.ports 1 1 m.udp) (heard ∷ unheard ∷ []) ≡ heard ∷ []
unfolding has_port
heard-only = refl

pub premises-met : BuiltIsComputed → PremisesAreMet
premises-met computed = record {
  run = run;
  receives = refl;
  sends = is-stream computed 11;
  fed = is-fed computed;
  delivers = λ came are. messages-once computed tables arrivals 1 0 receiver link
      (heard ∷ unheard ∷ []) stream came run refl refl refl between (is-stream computed 11)
      (is-fed computed) are ∙ heard-only;
  told_once = told-once computed tables arrivals run 1 0
      receiver link (heard ∷ unheard ∷ []) stream refl refl refl between (is-stream computed 11) (is-fed computed)
      ∙ heard-only;
}
  where
    between : IsBetweenSystems tables 1 link
    between = record { from = omega arith; to = omega arith }

    run : IsAdmittedRun tables arrivals
    run = record {
      lawful = among_others tables (is-lawful 11 (omega arith) (omega arith));
      admitted = admitted-serving tables is-admitted;
      timed = is-timed;
    }

-- ---- with a latency that is less than a frame takes on the line

-- no turn of a link's frame is a slot that ends within it
never-in-time : (latency : ℕ) (entries : List (Entry HeldFrame)) (turns : List (Turn HeldFrame))
    → latency ≤ 1 → AreTurns 80 entries turns → AreInTime (link_with latency) turns
    → filter (is_of 1) (entries_in turns) ≡ []
never-in-time latency entries [] fast are soon = refl
never-in-time latency entries (s ∷ earlier) fast are soon =
    let before = never-in-time latency entries earlier fast are.1 (λ k d lt. soon (suc k) d (omega (arith, lt))) in
    filter-append (is_of 1) (entries_in earlier) (s.entry ∷ [])
    ∙ ap (λ es. es ++ filter (is_of 1) (s.entry ∷ [])) before
    ∙ ap (λ b. if b then s.entry ∷ [] else []) (by (is_of 1 s.entry) refl)
  where
    too-long : (b : Bool) → s.too_old ≡ b → b ≡ false → s.end ≤ s.entry.time + 1000 * latency → ⊥
    too-long true old slot ends = cc slot
    too-long false old slot ends =
        let lasts : s.end ≡ s.moment + (s.entry.bytes + 20) * 80 = are.0.lasts
        ∙ ap (λ o. s.moment + lasting 80 o s.entry.bytes) old in
        omega (arith, lasts, are.0.come, ends, fast)

    by : (b : Bool) → is_of 1 s.entry ≡ b → is_of 1 s.entry ≡ false
    by false other = other
    by true own = absurd (let in_time = soon 0 s (omega arith) own in too-long s.too_old refl in_time.0 in_time.1)

one-a : BuiltIsComputed → at_port (rule_of (tables_with 1) (link_with 1)) (own 1 A one) ≡ one
unfolding rule_of port_of
one-a computed = rw (first-named computed A) refl

is-broken : BuiltIsComputed → PortsKeepPromises (tables_with 1) one → ⊥
is-broken computed keeps =
    let t = tables_with 1 in
    let l = link_with 1 in
    let turns = turns_at t A 2 one in
    let lawful = among_others t (is-lawful 1 (omega arith) (omega arith)) in
    let stream_is = is-stream computed 1 in
    let are : AreTurns 80 (entries_at t A 2 one) turns = subst (λ n. AreTurns n (entries_at t A 2 one) turns)
    (port-of-system t 1 receiver lawful refl).line (keeps.turns A 2).each_next in
    let soon = keeps.in_time A 2 0 l refl in
    let none : frames_left 1 turns ≡ [] =
    ap (map passing_in) (slots-are-all 1 turns (λ k d lt own_turn. (soon k d lt own_turn).0)
    ∙ never-in-time 1 (entries_at t A 2 one) turns (omega arith) are soon) in
    let at_port : AreFirstOf A stream (at_port (rule_of t l) (own 1 A one)) =
    subst (AreFirstOf A stream) (sym (one-a computed)) (first-sending, tt) in
    let accepted : accepted_on t l A one ≡ one =
    (accepted-stream t stream_is.sender l (heard ∷ unheard ∷ []) stream
    stream_is.lawful computed A (own 1 A one) at_port).arrivals ∙ one-a computed in
    let goes : goes_to t l 2 ≡ true = goes-there t 1 receiver l lawful refl refl in
    let all : frames_left 1 turns ≡ map passing (reverse one) =
    keeps.frames A 2 0 l refl ∙ ap (λ b. if b then accepted_frames t l A one else []) goes
    ∙ ap (λ xs. map passing (reverse xs)) accepted in
    let both : [] ≡ map passing (reverse one) = sym none ∙ all in
    cc both
  where
    first-sending : IsFrameAt A stream 0 (arrival_with 1 0 A 1 (first_on A))
    first-sending = record {
      sending = record { time = 0; a = first_on A; b = first_on B };
      at_place = refl;
      time = refl;
      bytes = refl;
    }

pub admission-needed : BuiltIsComputed → AdmissionIsNeeded
admission-needed computed =
    record {
      lawful = is-lawful 1 (omega arith) (omega arith);
      timed = ((λ k d lt. absurd (omega (arith, lt))), tt);
      broken = is-broken computed;
    }

-- ---- where times go back

module _ (first second : Entry HeldFrame) (late : first.time ≡ 1000000) (early : second.time ≡ 0)
    (same : first.priority ≡ second.priority) where
  class-of : (k : ℕ) (e : Entry HeldFrame) → slice_get (first ∷ second ∷ []) k ≡ Some e → first.priority ≡ e.priority
  class-of zero e at = ap (λ (x : Entry HeldFrame). x.priority) (the-one first e at)
    where
      the-one : (x y : Entry HeldFrame) → Some x ≡ Some y → x ≡ y
      the-one x y h = cc h
  class-of (suc zero) e at = same ∙ ap (λ (x : Entry HeldFrame). x.priority) (the-one second e at)
    where
      the-one : (x y : Entry HeldFrame) → Some x ≡ Some y → x ≡ y
      the-one x y h = cc h
  class-of (suc (suc k)) e at = absurd (cc at)

  time-of : (k : ℕ) (e : Entry HeldFrame) → k ≤ 0 → slice_get (first ∷ second ∷ []) k ≡ Some e → first.time ≡ e.time
  time-of zero e low at = ap (λ (x : Entry HeldFrame). x.time) (the-one first e at)
    where
      the-one : (x y : Entry HeldFrame) → Some x ≡ Some y → x ≡ y
      the-one x y h = cc h
  time-of (suc k) e low at = absurd (omega (arith, low))

  no-first : (s : Turn HeldFrame) → IsNext 80 (first ∷ second ∷ []) [] s → ⊥
  no-first s next =
      let place : s.place ≤ 0 = next.in_order 0 first (record { stands = refl; without = refl })
      (class-of s.place s.entry next.own.stands) in
      let time = time-of s.place s.entry place next.own.stands in
      let soon : s.moment ≤ 0 = next.least 0 1 second (record { stands = refl; without = refl })
      (omega (arith, early)) (omega arith) in
      omega (arith, time, late, soon, next.come)

  no-turns : (turns : List (Turn HeldFrame)) → AreTurns 80 (first ∷ second ∷ []) turns → turns ≡ []
  no-turns [] are = refl
  no-turns (s ∷ earlier) are =
      absurd (no-first s (subst (λ ts. IsNext 80 (first ∷ second ∷ []) ts s)
      (no-turns earlier are.1) are.0))

pub times-needed : TimesAreNeeded
times-needed first second turns late early same schedule =
    let none = no-turns first second late early same turns schedule.each_next in
    let has : has_turn turns 0 ≡ true = schedule.all_have_turns 0 (omega arith) in
    let hasnt : has_turn turns 0 ≡ false = ap (λ ts. has_turn ts 0) none in
    cc (has, hasnt)
