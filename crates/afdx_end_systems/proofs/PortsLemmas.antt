-- What the ports would hold of a system that puts each message to its port and reads it at once.
use Rattle.std.proofs.Common.{◌≡◌, ℕ, Bool, true, false, cond, Option, Some, None, List, [], ◌∷◌, Result, Ok, Err}
use Rattle.std.proofs.Common.{refl, sym, ap, ◌∙◌, subst, is_some, ◌*◌, ◌<◌, length}
use Rattle.std.specs.Prelude.{position, slice_set}
use Rattle.std.proofs.lemmas.List.Quantifiers.{position-Some}
use Rattle.afdx_frame.specs.Carried.{Carried, carried_by}
use Rattle.afdx_frame.specs.Parts.{FrameParts, frame_of}
use Rattle.afdx_frame.specs.declared.fault.IpFault.{IpFault}
use Rattle.afdx_frame.specs.declared.fault.MacFault.{MacFault}
use Rattle.afdx_config.specs.Rows.{Rows, LinkRow}
use Rattle.afdx_config.specs.Lawful.{IsLawfulSwitch}
use Rattle.afdx_config.specs.Reading.{has_port}
use Rattle.afdx_receive.specs.Answers.{Answer, Message, Dropped, subscription, answer_to_carried}
use Rattle.afdx_receive.specs.Answers.{answer_after, answer_on, answer_to_frame, answer_to}
use Rattle.afdx_receive.specs.Arrivals.{Arrived, incoming, frames_of}
use Rattle.afdx_receive.specs.declared.reception.DropReason.TheVariants.{NoPort}
use Rattle.afdx_receive.specs.Integrity.{Incoming, is_valid}
use Rattle.afdx_receive.specs.Redundancy.{wins, winners}
use Rattle.afdx_comport.specs.Messages.{TimedMessage}
use Rattle.afdx_comport.specs.Ports.{is_for, ports_at_first}
use Rattle.afdx_comport.specs.declared.com_ports.ComPort.{ComPort}
use Rattle.afdx_comport.specs.declared.held.PortMemory.TheVariants.{Sampling}
use Rattle.afdx_end_systems.specs.ReadPorts.{AreRead, AreFound, ReadsBack, HoldNewest, passed_on, passed_at, passed_to}
use Rattle.afdx_end_systems.specs.ReadPorts.{port_passed, ports_after, MessagesArePassedOn}
use Rattle.afdx_end_systems.proofs.EndLemmas.{read_at_first, found_at_first}
use Rattle.afdx_end_systems.proofs.NewestLemmas.{newest_at_first, newest_dropped, newest_passed}
use Rattle.afdx_end_systems.proofs.PassLemmas.{port_at, are_passed, are_read_back}

-- ---- a message is answered where the tables have its port

abbrev IsOpen : Rows → ℕ → Answer → Type 0
IsOpen rows system (Message vl udp payload) = has_port rows.ports system vl udp ≡ true
IsOpen rows system (Dropped why) = Unit {0}

carried_open : (rows : Rows) (system vl : ℕ) (r : Result Carried IpFault)
    → IsOpen rows system (answer_to_carried vl (has_port rows.ports system vl) r)
carried_open rows system vl (Err fault) = tt
carried_open rows system vl (Ok carried) = at (has_port rows.ports system vl carried.to_port) refl
  where
    at : (b : Bool) → has_port rows.ports system vl carried.to_port ≡ b
        → IsOpen rows system (cond b (Message vl carried.to_port carried.payload) (Dropped NoPort))
    at true e = e
    at false e = tt

after_open : (rows : Rows) (system skew : ℕ) (before : List Incoming) (frame : Incoming)
    → IsOpen rows system (answer_after skew (has_port rows.ports system frame.vl) before frame)
after_open rows system skew before frame =
    at (is_valid before frame) (wins skew (winners skew before) frame) refl refl
  where
    at : (valid new : Bool) → is_valid before frame ≡ valid → wins skew (winners skew before) frame ≡ new
        → IsOpen rows system (answer_after skew (has_port rows.ports system frame.vl) before frame)
    at true true e f = rw (e, f) (carried_open rows system frame.vl (carried_by frame.bytes))
    at true false e f = rw (e, f) tt
    at false new e f = rw e tt

on_open : (rows : Rows) (system : ℕ) (past : List Arrived) (x : Arrived) (frame : FrameParts)
    (o : Option LinkRow) → IsOpen rows system (answer_on rows system past x frame o)
on_open rows system past x frame None = tt
on_open rows system past x frame (Some link) =
    after_open rows system (1000 * link.skew_us) (frames_of frame.link.0 past) (incoming x frame)

frame_open : (rows : Rows) (system : ℕ) (past : List Arrived) (x : Arrived) (r : Result FrameParts MacFault)
    → IsOpen rows system (answer_to_frame rows system past x r)
frame_open rows system past x (Ok frame) =
    on_open rows system past x frame (subscription rows system frame.link.0)
frame_open rows system past x (Err fault) = tt

answer_open : (rows : Rows) (system : ℕ) (past : List Arrived) (x : Arrived)
    → IsOpen rows system (answer_to rows system past x)
unfolding answer_to
answer_open rows system past x = frame_open rows system past x (frame_of x.bytes)

-- ---- one more arrival

known : (o : Option ℕ) → is_some o ≡ true → (n : ℕ) × (o ≡ Some n)
known (Some n) e = (n, refl)
known None e = absurd cc

place_within : (vl udp : ℕ) (ports : List ComPort) (place : ℕ) → position (is_for vl udp) ports ≡ Some place
    → place < length ports
place_within vl udp ports place e = (position-Some (is_for vl udp) ports place none e).0
  where
    none : ComPort
    none = record { link = record { 0 = 0 }; udp = 0; held = Sampling None }

record Steps (rows : Rows) (system : ℕ) (past : List Arrived) (x : Arrived) (answer : Answer)
    (ports after : List ComPort) : Type 0 where
  pub read : AreRead after
  pub found : AreFound rows system after
  pub back : ReadsBack ports after x.time answer
  pub newest : HoldNewest rows system (x ∷ past) after

steps_on : (rows : Rows) (system : ℕ) (past : List Arrived) (x : Arrived) (ports : List ComPort) (answer : Answer)
    → AreRead ports → AreFound rows system ports → HoldNewest rows system past ports
    → answer ≡ answer_to rows system past x
    → Steps rows system past x answer ports (passed_on x.time answer ports)
steps_on rows system past x ports (Dropped why) read found hold is = record {
  read = read;
  found = found;
  back = refl;
  newest = newest_dropped rows system past x why ports is hold;
}
steps_on rows system past x ports (Message vl udp payload) read found hold is =
    let m : TimedMessage = record { time = x.time; bytes = payload } in
    let is_open : has_port rows.ports system vl udp ≡ true =
    subst (IsOpen rows system) (sym is) (answer_open rows system past x) in
    let place = known (position (is_for vl udp) ports) (found vl udp ∙ is_open) in
    let port = port_at ports place.0 (place_within vl udp ports place.0 place.1) in
    let after : List ComPort = slice_set ports place.0 (port_passed m port.0) in
    let e : passed_on x.time (Message vl udp payload) ports ≡ after =
    ap (passed_at m ports) place.1 ∙ ap (passed_to m place.0 ports) port.1 in
    let pass = are_passed ports place.0 m port.0 port.1 read in
    subst (λ (a : List ComPort). Steps rows system past x (Message vl udp payload) ports a) (sym e) (record {
      read = pass.read;
      found = λ link to. ap is_some (pass.found link to) ∙ found link to;
      back = are_read_back ports after vl udp place.0 m (sym place.1) read pass.passed;
      newest = newest_passed rows system past x vl udp place.0 payload ports after port.0 is place.1 port.1
          pass.found pass.passed read hold;
    })

-- ---- all that arrived

record AreKept (rows : Rows) (system : ℕ) (past : List Arrived) : Type 0 where
  pub read : AreRead (ports_after rows system past)
  pub found : AreFound rows system (ports_after rows system past)
  pub newest : HoldNewest rows system past (ports_after rows system past)

are_kept : (rows : Rows) (system : ℕ) (past : List Arrived) → IsLawfulSwitch rows → AreKept rows system past
unfolding ports_after
are_kept rows system [] lawful = record {
  read = read_at_first rows system (ports_at_first system rows.ports) lawful refl;
  found = found_at_first rows system (ports_at_first system rows.ports) refl;
  newest = newest_at_first rows system (ports_at_first system rows.ports) refl;
}
are_kept rows system (x ∷ past) lawful =
    let kept = are_kept rows system past lawful in
    let steps = steps_on rows system past x (ports_after rows system past) (answer_to rows system past x)
    kept.read kept.found kept.newest refl in
    record { read = steps.read; found = steps.found; newest = steps.newest }

pub are_passed_on : MessagesArePassedOn
unfolding ports_after
are_passed_on rows system past lawful =
    let kept = are_kept rows system past lawful in
    record {
      read = kept.read;
      found = kept.found;
      back = λ x. (steps_on rows system past x (ports_after rows system past) (answer_to rows system past x)
          kept.read kept.found kept.newest refl).back;
      newest = kept.newest;
    }
