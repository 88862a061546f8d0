-- What is wrong with a frame by itself: its shape, its link's lengths, its system's address, its
-- datagram.
use Rattle.std.specs.Prelude.{◌≡◌, ℕ, ◌-◌, Bool, true, false, not, nat_lt, Option, Some, None, Result, Ok, Err, List, [], ◌∷◌}
use Rattle.std.specs.Prelude.{◌++◌, length, take, drop, filter}
use Rattle.std.specs.Option.{option_or}
use Rattle.std.specs.Int.{w16, to_be_bytes}
use Rattle.std.specs.Str.{bytes_eq}
use Rattle.afdx_frame.specs.Carried.{Carried, carried_by}
use Rattle.afdx_frame.specs.Grammar.{network}
use Rattle.afdx_frame.specs.Parts.{FrameParts, frame_of}
use Rattle.afdx_frame.specs.declared.fault.IpFault.{IpFault}
use Rattle.afdx_frame.specs.declared.fault.MacFault.{MacFault}
use Rattle.afdx_frame.specs.declared.link.Side.{Side}
use Rattle.afdx_police.specs.Shape.{first_of}
use Rattle.afdx_lawful.specs.Sources.{Came, Source}
use Rattle.afdx_lawful.specs.declared.finding.Flaw.{Flaw}
use Rattle.afdx_lawful.specs.declared.finding.Flaw.TheVariants.{Damaged, OverLmax, UnderLmin, NotItsAddress}
use Rattle.afdx_lawful.specs.declared.finding.Flaw.TheVariants.{Unread}

-- the source address of a system on a network
abbrev pub address_of : ℕ → Side → List ℕ
address_of system side = 2 ∷ 0 ∷ 0 ∷ to_be_bytes w16 system ++ network side ∷ []

-- the six bytes after the destination address
abbrev pub address_in : List ℕ → List ℕ
address_in bytes = take 6 (drop 6 bytes)

-- what carries no datagram
abbrev pub flaw_carrying : Result Carried IpFault → Option Flaw
flaw_carrying (Ok carried) = None
flaw_carrying (Err fault) = Some (Unread fault)

module _ (s : Source) where
  -- what is asked of a whole frame, beside what it is where it isn't so
  abbrev pub frame_flaws : Came → List (Bool × Flaw)
  frame_flaws x =
      (nat_lt s.rule.lmax (length x.bytes), OverLmax) ∷
      (nat_lt (length x.bytes) s.rule.lmin, UnderLmin) ∷
      (not (bytes_eq (address_in x.bytes) (address_of s.system x.side)), NotItsAddress) ∷ []

  abbrev pub flaw_in : Came → Result FrameParts MacFault → Option Flaw
  flaw_in x (Err fault) = Some (Damaged fault)
  flaw_in x (Ok parts) = option_or (first_of (frame_flaws x)) (flaw_carrying (carried_by x.bytes))

  -- the first flaw of a frame, if it has one
  unfoldable pub flaw_of : Came → Option Flaw
  flaw_of x = flaw_in x (frame_of x.bytes)

-- it isn't damaged
abbrev pub is_frame : Result FrameParts MacFault → Bool
is_frame (Ok parts) = true
is_frame (Err fault) = false

abbrev pub IsWholeFrame : List ℕ → Type 0
IsWholeFrame bytes = is_frame (frame_of bytes) ≡ true

unfoldable pub is_whole : Came → Bool
is_whole x = is_frame (frame_of x.bytes)

abbrev pub whole_of : List Came → List Came
whole_of xs = filter is_whole xs

-- all bytes but that of the network and the check sequence
abbrev pub common : List ℕ → List ℕ
common bytes = take 11 bytes ++ drop 12 (take (length bytes - 4) bytes)

-- the frames are the same on both networks
unfoldable pub is_copy : Came → Came → Bool
is_copy x y = bytes_eq (common x.bytes) (common y.bytes)
