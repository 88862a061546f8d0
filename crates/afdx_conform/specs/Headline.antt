-- What the window rule says of a stream whose stamps are exact. Lists have the newest first.
use Rattle.std.specs.Prelude.{◌≡◌, ◌+◌, ◌*◌, ◌≤◌, ⊤, IsTrue, is_none, None, Some, List, [], ◌∷◌, ◌++◌, length, if◌then◌else◌}
use Rattle.std.specs.List.{AllByRecursion}
use Rattle.afdx_police.specs.Arrival.{Arrival}
use Rattle.afdx_police.specs.Rule.{Rule}
use Rattle.afdx_police.specs.Shape.{fault_of}
use Rattle.afdx_police.specs.Verdicts.{accepted_arrivals}
use Rattle.afdx_conform.specs.Streams.{Gone, Terms, is_open}

-- of a link's own arrivals those without a fault in their shape
unfoldable pub sound_of : Rule → List Arrival → List Arrival
sound_of rule [] = []
sound_of rule (x ∷ past) =
    if is_none (fault_of (Some rule) x.port x.bytes) then x ∷ sound_of rule past
    else sound_of rule past

-- they go by time
unfoldable pub GoByTime : List Arrival → Type 0
GoByTime [] = ⊤
GoByTime (x ∷ past) = AllByRecursion (λ w. w.time ≤ x.time) past × GoByTime past

-- clocks and stamps of what came are exact, accounts are asked at once, and the switch was reset
-- before: what an account lacks is known
pub record IsAccountKnown (z : Terms) : Type 0 where
  pub slack : z.by.slack ≡ 0
  pub drift : z.by.drift ≡ 0
  pub asked : z.by.asked ≡ 0
  pub start : z.by.start ≡ None

-- and so are the stamps of what left
pub record IsExact (z : Terms) : Type 0 where
  pub account : IsAccountKnown z
  pub between : z.by.between ≡ 0

module _ (z : Terms) where
  -- the frame is the accepted arrival, byte for byte, and leaves within its latency, no sooner than
  -- it can
  pub record IsItsFrame (x : Arrival) (y : Gone) : Type 0 where
    pub bytes : x.bytes ≡ y.bytes
    pub no_sooner : x.time + (length x.bytes + 8) * z.byte_ns ≤ y.time
    pub in_time : y.time ≤ x.time + (z.latency_ns + z.by.inner)

  -- each of these is, in order
  unfoldable pub AreTheirFrames : List Arrival → List Gone → Type 0
  AreTheirFrames [] [] = ⊤
  AreTheirFrames [] (y ∷ ys) = ⊥
  AreTheirFrames (x ∷ xs) [] = ⊥
  AreTheirFrames (x ∷ xs) (y ∷ ys) = IsItsFrame x y × AreTheirFrames xs ys

  -- the frames are the first of those that the window rule accepts of the link's own arrivals, in
  -- order, within the latency; the frames of the others may have left behind the end
  pub record IsAsTheHeadline (own : List Arrival) (frames : List Gone) : Type 0 where
    pub waiting : List Arrival
    pub took : List Arrival
    pub accepted : accepted_arrivals z.rule own ≡ waiting ++ took
    pub are_open : AllByRecursion (λ x. IsTrue (is_open z x)) waiting
    pub are_frames : AreTheirFrames took frames
