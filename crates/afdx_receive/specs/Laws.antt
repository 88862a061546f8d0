-- Laws over the definitions.
use Rattle.std.specs.Prelude.{◌≡◌, ℕ, ◌*◌, ◌≤◌, ◌↔◌, true, false, nat_eq, IsTrue, Some, slice_get}
use Rattle.std.specs.Prelude.{Ok, Err, List, ◌∷◌}
use Rattle.afdx_frame.specs.Sealing.{AreBytes}
use Rattle.afdx_frame.specs.declared.fault.MacFault.{MacFault}
use Rattle.afdx_frame.specs.Parts.{FrameParts, frame_of}
use Rattle.afdx_config.specs.Numbers.{after_steps}
use Rattle.afdx_config.specs.Rows.{Rows, LinkRow, is_to}
use Rattle.afdx_config.specs.Reading.{has_port}
use Rattle.afdx_config.specs.Lawful.{IsLawfulSwitch}
use Rattle.afdx_receive.specs.Steps.{is_within_steps}
use Rattle.afdx_receive.specs.Arrivals.{Arrived, incoming, frames_of}
use Rattle.afdx_receive.specs.Answers.{Answer, subscription, answer_after, answer_to}
use Rattle.afdx_receive.specs.Reception.{IsAnswer}

-- one to `most` steps lead to a number exactly if some number of steps in that range does
abbrev pub WithinIsSomeSteps : Type 0
WithinIsSomeSteps = (most from to : ℕ) →
    IsTrue (is_within_steps most from to)
    ↔ ((steps : ℕ) × (1 ≤ steps) × (steps ≤ most) × (after_steps steps from ≡ to))

-- a link's frames grow by its own frames alone
pub record FramesAreOwn : Type 0 where
  pub own : (x : Arrived) (past : List Arrived) (frame : FrameParts) →
      frame_of x.bytes ≡ Ok frame →
      frames_of frame.link.0 (x ∷ past) ≡ incoming x frame ∷ frames_of frame.link.0 past
  pub other : (x : Arrived) (past : List Arrived) (frame : FrameParts) (vl : ℕ) →
      frame_of x.bytes ≡ Ok frame →
      nat_eq frame.link.0 vl ≡ false →
      frames_of vl (x ∷ past) ≡ frames_of vl past
  pub damaged : (x : Arrived) (past : List Arrived) (fault : MacFault) (vl : ℕ) →
      frame_of x.bytes ≡ Err fault →
      frames_of vl (x ∷ past) ≡ frames_of vl past

-- the answer to a frame of a link that the system receives comes from that link's frames alone
abbrev pub AnswerIsOwn : Type 0
AnswerIsOwn =
    (tables : Rows) (system : ℕ) (past : List Arrived) (x : Arrived) (frame : FrameParts)
    (link : LinkRow) →
    frame_of x.bytes ≡ Ok frame →
    subscription tables system frame.link.0 ≡ Some link →
    answer_to tables system past x
    ≡ answer_after (1000 * link.skew_us) (has_port tables.ports system frame.link.0)
    (frames_of frame.link.0 past) (incoming x frame)

-- a system receives each link that goes to it
abbrev pub LinksAreReceived : Type 0
LinksAreReceived = (tables : Rows) (system place : ℕ) (link : LinkRow) →
    IsLawfulSwitch tables → slice_get tables.links place ≡ Some link → is_to system link ≡ true →
    subscription tables system link.vl ≡ Some link

-- there is one right answer, which is computed
abbrev pub AnswerIsComputed : Type 0
AnswerIsComputed =
    (tables : Rows) (system : ℕ) (past : List Arrived) (x : Arrived) (answer : Answer) →
    AreBytes x.bytes →
    IsAnswer tables system past x answer ↔ (answer ≡ answer_to tables system past x)
