-- Where the arrivals of a stream stand that have some bytes, or that a frame may be of.
use Rattle.std.specs.Prelude.{◌≡◌, ℕ, ◌+◌, ◌-◌, ◌*◌, Bool, true, false, ◌&&◌, ◌||◌, nat_le, if◌then◌else◌, List, [], ◌∷◌, length, take, Option, Some, None, ◌⊎◌}
use Rattle.std.specs.BTreeMap.{get_by}
use Rattle.std.specs.Cmp.Lexicographic.{slice_cmp}
use Rattle.std.specs.Global.{Vec}
use Rattle.std.specs.Int.{div_ceil}
use Rattle.std.specs.List.{AllByRecursion}
use Rattle.std.specs.List.Sorted.{IsNonDecreasingBy}
use Rattle.std.specs.Ordering.{nat_cmp}
use Rattle.std.specs.Str.{bytes_eq}
use Rattle.afdx_frame.specs.declared.seals.Seal.{Seal}
use Rattle.afdx_frame.specs.declared.seals.Seal.TheVariants.{Right, Wrong, Missing}
use Rattle.afdx_frame.specs.Sealing.{is_sealed, sealed_wrongly}
use Rattle.afdx_conform.specs.Levels.{parts}
use Rattle.afdx_conform.specs.declared.arrived.Arrived.{Arrived}
use Rattle.afdx_conform.specs.declared.by_bytes.ByBytes.{ByBytes}
use Rattle.afdx_conform.specs.declared.known_bytes.KnownBytes.{KnownBytes}
use Rattle.afdx_conform.specs.declared.limits.LeftFrame.{LeftFrame}
use Rattle.afdx_conform.specs.declared.limits.Limits.{Limits}
use Rattle.afdx_conform.specs.declared.places.KeyPlaces.{KeyPlaces}

-- all but the last four of them
abbrev pub front_of : List ℕ → List ℕ
front_of bytes = take (length bytes - 4) bytes

-- the last four are the complement of the check sequence of the others
abbrev pub are_wrong : List ℕ → Bool
are_wrong bytes = bytes_eq bytes (sealed_wrongly (front_of bytes))

-- what bytes are found by: how they are sealed, and they, without a check sequence or its
-- complement
unfoldable pub seal_of : List ℕ → Seal
seal_of bytes = if is_sealed bytes then Right else (if are_wrong bytes then Wrong else Missing)

unfoldable pub key_of : List ℕ → List ℕ
key_of bytes = if is_sealed bytes || are_wrong bytes then front_of bytes else bytes

-- the places of the arrivals that have these bytes, if the first stands at `at`
unfoldable pub places_from : List ℕ → ℕ → List Arrived → List ℕ
places_from bytes at [] = []
places_from bytes at (a ∷ more) =
    if bytes_eq a.bytes bytes then at ∷ places_from bytes (at + 1) more
    else places_from bytes (at + 1) more

abbrev pub all_of : Option (Vec ℕ) → List ℕ
all_of None = []
all_of (Some places) = places.items

-- those that are kept at a key
abbrev pub kept_at : KeyPlaces → List ℕ → List ℕ
kept_at places key = all_of (get_by (λ k. slice_cmp nat_cmp key k.items) places.by_key)

-- those of bytes that are sealed so
abbrev pub sealed_so : Seal → ByBytes → KeyPlaces
sealed_so Right places = places.right
sealed_so Wrong places = places.wrong
sealed_so Missing places = places.other

-- those that are kept of some bytes
abbrev pub kept_of : ByBytes → List ℕ → List ℕ
kept_of places bytes = kept_at (sealed_so (seal_of bytes) places) (key_of bytes)

-- of each bytes just the places of these arrivals are kept that have them
abbrev pub AreKept : ByBytes → List Arrived → Type 0
AreKept places arrivals = (bytes : List ℕ) → kept_of places bytes ≡ places_from bytes 0 arrivals

-- none of these came before one that stands in front of it
abbrev pub GoByTime : List Arrived → Type 0
GoByTime arrivals = IsNonDecreasingBy (λ (a : Arrived). a.time) arrivals

-- if it is whole, it was told of all of these, and they go by time
pub record AreKnown (known : KnownBytes) (arrivals : List Arrived) : Type 0 where
  pub kept : known.is_whole ≡ true → AreKept known.places arrivals
  pub order : known.is_whole ≡ true → GoByTime arrivals

-- an arrival has these bytes
abbrev pub has_bytes : List ℕ → Arrived → Bool
has_bytes bytes a = bytes_eq a.bytes bytes

-- the frame may be what the switch made of the arrival, by the bytes and times of both
unfoldable pub may_fit : Limits → LeftFrame → Arrived → Bool
may_fit limits frame a = bytes_eq a.bytes frame.bytes
    && nat_le
    (a.time + div_ceil (parts * ((length a.bytes + 8) * limits.byte_ns)) (parts + limits.drift))
    (frame.time + limits.reach)
    && nat_le frame.time (a.time + limits.latency + limits.reach)

-- at these places, which ascend, stand all of the arrivals that pass a test, if the first arrival
-- stands at `at`; others may stand there too
unfoldable pub StandAt : (Arrived → Bool) → ℕ → List Arrived → List ℕ → Type 0
StandAt test at [] places = places ≡ []
StandAt test at (a ∷ more) places =
    ((rest : List ℕ) × (places ≡ at ∷ rest) × StandAt test (at + 1) more rest)
    ⊎ ((test a ≡ false) × StandAt test (at + 1) more places)

-- each place may be looked at, where it doesn't know the places of some bytes
abbrev pub AreEach : KnownBytes → List Arrived → List ℕ → Type 0
AreEach known arrivals each =
    (test : Arrived → Bool) → known.is_whole ≡ false → StandAt test 0 arrivals each

-- none of these arrivals passes the test
abbrev pub AreOthers : (Arrived → Bool) → List Arrived → Type 0
AreOthers test arrivals = AllByRecursion (λ a. test a ≡ false) arrivals
