-- What is true of each sender that stands for calls.
use Rattle.std.specs.Prelude.{◌≡◌, ℕ, ◌+◌, ◌^◌, ◌<◌, ◌≤◌, ◌⊎◌, ◌++◌, All, List, [], ◌∷◌, Some, slice_get}
use Rattle.afdx_config.specs.Admission.{byte_ns, fixed_jitter, sender_jitter}
use Rattle.afdx_config.specs.LawfulStream.{Sending, IsLawfulStream}
use Rattle.afdx_config.specs.Rows.{SystemRow, LinkRow}
use Rattle.afdx_config.specs.SentList.{Message, address_of, CanBeSent}
use Rattle.afdx_frame.specs.Grammar.{Built, Buildable}
use Rattle.afdx_frame.specs.Sealing.{AreBytes}
use Rattle.afdx_frame.specs.declared.link.Side.TheVariants.{A, B}
use Rattle.std.specs.List.{AllByRecursion}
use Rattle.afdx_port.specs.Schedule.{Turn}
use Rattle.afdx_send.specs.Frames.{Frame, address_with}
use Rattle.afdx_send.specs.declared.sender.Emission.{Emission}
use Rattle.afdx_send.specs.declared.sender_state.SenderState.{SenderState}
use Rattle.afdx_send.specs.Emissions.{LinkRelease, own, AreAllReleases, AreSendings, sent_list, times_of}
use Rattle.afdx_send.specs.Sender.{SenderHistory, sending_of, StandsFor}

-- each emission ends when one frame of each of its system's links could have been sent since its
-- release: the system's jitter, as admission sums it, less the 40 us that it has of its own
abbrev pub EachIsInTime : SenderHistory → Type 0
EachIsInTime h =
    All (λ t. fixed_jitter + t.end ≤ t.entry.time + sender_jitter (byte_ns h.system) h.links)
    h.emitted

abbrev pub EmissionsAreInTime : Type 0
EmissionsAreInTime = (w : SenderState) (h : SenderHistory) → StandsFor w h → EachIsInTime h

-- the builder takes what was sent in a slot, for each network
pub record IsBuildable (s : SystemRow) (turn : Turn Frame) : Type 0 where
  pub buildable : Buildable
      (address_with s.id s.partition turn.entry.item) turn.entry.item.message.payload
  pub bytes : AreBytes turn.entry.item.message.payload
  pub number : turn.entry.item.number < 2 ^ 8

-- so it takes each emission
abbrev pub EachIsBuildable : SenderHistory → Type 0
EachIsBuildable h = AllByRecursion (IsBuildable h.system) h.emitted

abbrev pub EmissionsAreBuildable : Type 0
EmissionsAreBuildable = (w : SenderState) (h : SenderHistory) → StandsFor w h → EachIsBuildable h

-- what a link has emitted is a lawful stream of the beginning of its sent list, whose moments are
-- those of the releases, and whose frames are in time
pub record EmitsLawfully (h : SenderHistory) (place : ℕ) (l : LinkRow) (stream : List Sending)
    : Type 0 where
  pub released : List LinkRelease
  pub are_releases : AreAllReleases h.links h.taken released
  pub lawful : IsLawfulStream h.system l (sent_list (own place released)) stream
  pub at_releases : lawful.moments ≡ times_of (own place released)
  pub in_time : (k r : ℕ) (y : Sending) →
      slice_get lawful.moments k ≡ Some r →
      slice_get stream k ≡ Some y →
      fixed_jitter + y.time ≤ r + sender_jitter (byte_ns h.system) h.links

-- each link has
abbrev pub EachEmitsLawfully : SenderHistory → Type 0
EachEmitsLawfully h = (place : ℕ) (l : LinkRow) (stream : List Sending) →
    slice_get h.links place ≡ Some l → AreSendings h.system l.vl h.emitted stream →
    EmitsLawfully h place l stream

-- an emission goes on what its link has emitted before: with it, it is a lawful stream again
abbrev pub GoesOn : SenderHistory → Emission → Type 0
GoesOn h e = (place : ℕ) (l : LinkRow) (stream : List Sending) → slice_get h.links place ≡ Some l →
    e.vl.0 ≡ l.vl → AreSendings h.system l.vl h.emitted stream →
    EmitsLawfully h place l (stream ++ sending_of e ∷ [])

abbrev pub EmissionsAreLawful : Type 0
EmissionsAreLawful = (w : SenderState) (h : SenderHistory) → StandsFor w h → EachEmitsLawfully h

-- Of a lawful stream only the first frames are built under the number 0: a sender that lets 0
-- follow 255 has none.
abbrev pub ZeroComesFirst : Type 0
ZeroComesFirst = (s : SystemRow) (l : LinkRow) (messages : List Message) (stream : List Sending) →
    IsLawfulStream s l messages stream → (k : ℕ) (y : Sending) → 1 ≤ k →
    slice_get stream k ≡ Some y → (m : Message) → CanBeSent s l m →
    (Built (address_of s l m) 0 A m.payload y.a → ⊥)
    × (Built (address_of s l m) 0 B m.payload y.b → ⊥)

-- of two lists of first releases one begins the other: so the releases before a time, and the
-- entries of the port, are determined
abbrev pub FirstReleasesAgree : Type 0
FirstReleasesAgree = (w : SenderState) (h : SenderHistory) (these those : List LinkRelease) →
    StandsFor w h →
    AreAllReleases h.links h.taken these → AreAllReleases h.links h.taken those →
    ((later : List LinkRelease) × (those ≡ later ++ these))
    ⊎ ((later : List LinkRelease) × (these ≡ later ++ those))
