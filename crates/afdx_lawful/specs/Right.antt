-- A right sender, in true time, as one side shows it. Lists have the newest first.
use Rattle.std.specs.Prelude.{◌≡◌, ℕ, ◌+◌, ◌<◌, ◌≤◌, ◌^◌, List, [], ◌∷◌, length, map, None, true, false}
use Rattle.afdx_config.specs.Numbers.{after_steps}
use Rattle.afdx_conform.specs.Right.{GoesOn, IsStamped}
use Rattle.afdx_frame.specs.Grammar.{Buildable, Read, built_frame, built_length}
use Rattle.afdx_frame.specs.Regulation.{bag, jitter}
use Rattle.afdx_frame.specs.Sealing.{AreBytes}
use Rattle.afdx_frame.specs.declared.builder.Address.{Address}
use Rattle.afdx_frame.specs.declared.link.Side.{Side}
use Rattle.afdx_police.specs.Rule.{regulation_of}
use Rattle.afdx_lawful.specs.Accepted.{ComeUpTo}
use Rattle.afdx_lawful.specs.Alone.{found_alone}
use Rattle.afdx_lawful.specs.Flaws.{address_in, address_of, is_whole}
use Rattle.afdx_lawful.specs.Judged.{found_coming}
use Rattle.afdx_lawful.specs.Sources.{Came, Source, came_with, on_side}

-- a frame as recorded, when it came in truth, what its system's clock showed then, and at what
-- reading of it the frame was released, each in ns
pub record Sent : Type 0 where
  pub came : Came
  pub moment : ℕ
  pub clock : ℕ
  pub release : ℕ

abbrev pub came_of : List Sent → List Came
came_of sent = map (λ x. x.came) sent

module _ (s : Source) where
  -- the frame is read under this number, from its system's address on its network, and has a length
  -- of its link
  pub record IsLawfulFrame (x : Came) (number : ℕ) : Type 0 where
    pub from_port : ℕ
    pub to_port : ℕ
    pub payload : List ℕ
    pub bytes : AreBytes x.bytes
    pub reads : Read x.bytes s.rule.vl from_port to_port payload number
    pub address : address_in x.bytes ≡ address_of s.system x.side
    pub least : s.rule.lmin ≤ length x.bytes
    pub most : length x.bytes ≤ s.rule.lmax

  -- so many were sent before it: it has the number of its place, was released by then, at most the
  -- jitter before, and its stamp is as exact as it has to be
  pub record IsSent (place : ℕ) (x : Sent) : Type 0 where
    pub frame : IsLawfulFrame x.came (after_steps place 0)
    pub released : x.release ≤ x.clock
    pub soon : x.clock ≤ x.release + jitter (regulation_of s.rule)
    pub stamped : IsStamped s.by.slack x.came.time x.moment

  -- it was released a gap or more after the one before it, and the clock went on as it may
  pub record Follows (w x : Sent) : Type 0 where
    pub goes_on : GoesOn s.by w.moment w.clock x.moment x.clock
    pub gap : w.release + bag (regulation_of s.rule) ≤ x.release

  abbrev pub FollowsAll : List Sent → Sent → Type 0
  FollowsAll [] x = Unit {0}
  FollowsAll (w ∷ before) x = Follows w x

  -- each is so; `first` were sent before the recordings
  unfoldable pub AreSent : ℕ → List Sent → Type 0
  AreSent first [] = Unit {0}
  AreSent first (x ∷ before) =
      IsSent (first + length before) x × FollowsAll before x × AreSent first before

  -- none of these is damaged, and nothing is found of any by its own side alone
  unfoldable pub AreSilent : List Came → Type 0
  AreSilent [] = Unit {0}
  AreSilent (x ∷ past) = (is_whole x ≡ true) × (found_alone s past x ≡ []) × AreSilent past

-- nothing is found of a right sender's frames by their own side alone, if none were sent before the
-- recordings, or these say from when on they are
abbrev pub RightIsSilent : Type 0
RightIsSilent =
    (s : Source) (first time : ℕ) (sent : List Sent) →
    (s.by.start ≡ None → first ≡ 0) →
    ComeUpTo time (came_of sent) →
    AreSent s first sent →
    AreSilent s (came_of sent)

-- the frames of a side are those of a right sender
pub record IsRightOn (s : Source) (side : Side) (xs : List Came) : Type 0 where
  pub sent : List Sent
  pub first : ℕ
  pub begun : s.by.start ≡ None → first ≡ 0
  pub are : came_of sent ≡ on_side side xs
  pub right : AreSent s first sent

-- where just one network is seen nothing at all is found of it
abbrev pub RightIsNotAccused : Type 0
RightIsNotAccused =
    (s : Source) (xs : List Came) →
    s.is_paired ≡ false →
    ComeUpTo s.until xs →
    ((side : Side) → IsRightOn s side xs) →
    found_coming s xs ≡ []

-- what the builder gives for the link and its system is lawful, if its length is the link's
abbrev pub BuiltIsLawful : Type 0
BuiltIsLawful =
    (s : Source) (a : Address) (line time number : ℕ) (side : Side) (payload : List ℕ) →
    Buildable a payload →
    AreBytes payload →
    number < 2 ^ 8 →
    a.vl.0 ≡ s.rule.vl →
    a.system_id ≡ s.system →
    s.rule.lmin ≤ built_length a (length payload) →
    built_length a (length payload) ≤ s.rule.lmax →
    IsLawfulFrame s (came_with line time side (built_frame a number side payload)) number
