-- What one switch accepted of a link, and comes later to the next one. Lists have the newest first.
use Rattle.std.specs.Prelude.{◌≡◌, ℕ, ◌+◌, ◌*◌, ◌≤◌, true, Some, None, List, [], ◌∷◌, ◌++◌, slice_get}
use Rattle.afdx_config.specs.Lawful.{IsLawfulSwitch}
use Rattle.afdx_config.specs.Rows.{LinkRow, Rows}
use Rattle.afdx_police.specs.Arrival.{Arrival, names, own}
use Rattle.afdx_police.specs.Rule.{Rule}
use Rattle.afdx_police.specs.Verdicts.{accepted_arrivals}
use Rattle.afdx_switch.specs.Regular.{at_port}
use Rattle.afdx_switch.specs.Tables.{rule_of}
use Rattle.afdx_switch.specs.Verdicts.{reason_of}

-- the rule of the next switch is that of the switch before, with room in its jitter for the delay
-- in ns; the port where the frames come in is its own
pub record IsNextRule (delay : ℕ) (before next : Rule) : Type 0 where
  pub vl : next.vl ≡ before.vl
  pub bag_ms : next.bag_ms ≡ before.bag_ms
  pub lmin : next.lmin ≡ before.lmin
  pub lmax : next.lmax ≡ before.lmax
  pub policing : next.policing ≡ before.policing
  pub jitter : 1000 * before.jitter_us + delay ≤ 1000 * next.jitter_us

-- the same frame, byte for byte and under the same tag, arrives later, by at most the delay
pub record IsCopy (delay : ℕ) (x y : Arrival) : Type 0 where
  pub tag : y.tag ≡ x.tag
  pub bytes : y.bytes ≡ x.bytes
  pub after : x.time ≤ y.time
  pub within : y.time ≤ x.time + delay

-- each of these does, one for each, in their order
abbrev pub AreCopies : ℕ → List Arrival → List Arrival → Type 0
AreCopies delay [] [] = Unit {0}
AreCopies delay [] (y ∷ later) = ⊥
AreCopies delay (x ∷ past) [] = ⊥
AreCopies delay (x ∷ past) (y ∷ later) = IsCopy delay x y × AreCopies delay past later

-- the first of these have gone on, and those have come; the others wait
pub record AreFirstCopies (delay : ℕ) (accepted came : List Arrival) : Type 0 where
  pub waiting : List Arrival
  pub gone : List Arrival
  pub all : accepted ≡ waiting ++ gone
  pub copies : AreCopies delay gone came

-- Where all that comes at the next switch's port for a link is what the switch before accepted, it
-- is accepted there, and nothing else is, whatever comes under the link's name at other ports.
abbrev pub CopiesAreAccepted : Type 0
CopiesAreAccepted =
    (delay : ℕ) (before next : Rule) (came own : List Arrival) →
    IsNextRule delay before next →
    AreFirstCopies delay (accepted_arrivals before came) (at_port next own) →
    accepted_arrivals next own ≡ at_port next own

-- So no such arrival is dropped by the tables of the next switch, whatever else arrives there.
abbrev pub NoCopyIsDropped : Type 0
NoCopyIsDropped =
    (delay : ℕ) (before : Rule) (came : List Arrival) (t : Rows) (place : ℕ) (l : LinkRow)
    (later past : List Arrival) (x : Arrival) →
    IsLawfulSwitch t →
    slice_get t.links place ≡ Some l →
    IsNextRule delay before (rule_of t l) →
    AreFirstCopies delay (accepted_arrivals before came)
    (at_port (rule_of t l) (own l.vl x.side (later ++ x ∷ past))) →
    names l.vl x.bytes ≡ true →
    (rule_of t l).port ≡ x.port →
    reason_of t past x ≡ None
