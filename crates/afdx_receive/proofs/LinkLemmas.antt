-- The link of a message is that of its frame.
use Rattle.std.proofs.Common.{◌≡◌, ℕ, ◌*◌, Bool, true, false, Result, Ok, Err, None, Some, List, if◌then◌else◌, refl}
use Rattle.std.specs.Prelude.{Option}
use Rattle.afdx_frame.specs.Carried.{Carried, carried_by}
use Rattle.afdx_frame.specs.Parts.{FrameParts, frame_of}
use Rattle.afdx_frame.specs.declared.fault.IpFault.{IpFault}
use Rattle.afdx_config.specs.Reading.{has_port}
use Rattle.afdx_config.specs.Rows.{Rows, LinkRow}
use Rattle.afdx_receive.specs.Answers.{Answer, Message, Dropped, subscription, answer_to_carried}
use Rattle.afdx_receive.specs.Answers.{answer_by, answer_on, answer_to}
use Rattle.afdx_receive.specs.Arrivals.{Arrived, incoming, frames_of}
use Rattle.afdx_receive.specs.Standing.{standing}
use Rattle.afdx_receive.specs.declared.memory.Standing.{Standing}
use Rattle.afdx_receive.specs.declared.memory.Standing.TheVariants as stands
use Rattle.afdx_receive.specs.declared.reception.DropReason.TheVariants.{NoPort}

-- if it is a message, it is one of this link
abbrev pub IsOfLink : ℕ → Answer → Type 0
IsOfLink vl (Message link udp payload) = link ≡ vl
IsOfLink vl (Dropped why) = Unit {0}

carried-link : (vl : ℕ) (is_open : ℕ → Bool) (r : Result Carried IpFault) → IsOfLink vl (answer_to_carried vl is_open r)
carried-link vl is_open (Err fault) = tt
carried-link vl is_open (Ok carried) = by (is_open carried.to_port)
  where
    by : (b : Bool) → IsOfLink vl (if b then Message vl carried.to_port carried.payload else Dropped NoPort)
    by true = refl
    by false = tt

by-link : (vl : ℕ) (s : Standing) (answer : Answer) → IsOfLink vl answer → IsOfLink vl (answer_by s answer)
by-link vl stands.Winner answer is = is
by-link vl stands.OutOfSequence answer is = tt
by-link vl stands.Redundant answer is = tt

on-link : (t : Rows) (system : ℕ) (past : List Arrived) (x : Arrived) (parts : FrameParts)
    (o : Option LinkRow) → IsOfLink parts.link.0 (answer_on t system past x parts o)
on-link t system past x parts None = tt
on-link t system past x parts (Some l) =
    by-link parts.link.0 (standing (1000 * l.skew_us) (frames_of parts.link.0 past)
    (incoming x parts)) (answer_to_carried parts.link.0 (has_port t.ports system parts.link.0)
    (carried_by x.bytes))
    (carried-link parts.link.0 (has_port t.ports system parts.link.0) (carried_by x.bytes))

pub answer-link : (t : Rows) (system : ℕ) (past : List Arrived) (x : Arrived) (parts : FrameParts)
    → frame_of x.bytes ≡ Ok parts → IsOfLink parts.link.0 (answer_to t system past x)
unfolding answer_to
answer-link t system past x parts is_frame =
    rw is_frame (on-link t system past x parts (subscription t system parts.link.0))
