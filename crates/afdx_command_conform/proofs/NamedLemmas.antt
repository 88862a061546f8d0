-- The link that a frame names stands in its message, where that is as long as an address.
use Rattle.std.proofs.Common.{◌≡◌, ℕ, ◌≤◌, ◌-◌, List, [], ◌∷◌, ◌++◌, length, refl, arith}
use Rattle.std.specs.Int.{w32, to_le_bytes}
use Rattle.afdx_frame.specs.declared.seals.Seal.{Seal}
use Rattle.afdx_frame.specs.declared.seals.Seal.TheVariants.{Right, Wrong, Missing}
use Rattle.afdx_frame.specs.Layout.{link_named_by}
use Rattle.afdx_frame.specs.Sealing.{sequence_of}
use Rattle.afdx_frame.specs.Seals.{whole}

longer : (message more : List ℕ) → 6 ≤ length message → link_named_by (message ++ more) ≡ link_named_by message
longer [] more h = absurd (omega arith)
longer (a ∷ []) more h = absurd (omega arith)
longer (a ∷ b ∷ []) more h = absurd (omega arith)
longer (a ∷ b ∷ c ∷ []) more h = absurd (omega arith)
longer (a ∷ b ∷ c ∷ d ∷ []) more h = absurd (omega arith)
longer (a ∷ b ∷ c ∷ d ∷ e ∷ []) more h = absurd (omega arith)
longer (a ∷ b ∷ c ∷ d ∷ e ∷ f ∷ message) more h = refl

pub named_whole : (seal : Seal) (message : List ℕ) → 6 ≤ length message
    → link_named_by (whole seal message) ≡ link_named_by message
unfolding whole
named_whole Right message h = longer message (to_le_bytes w32 (sequence_of message)) h
named_whole Wrong message h = longer message (to_le_bytes w32 (0xffff_ffff - sequence_of message)) h
named_whole Missing message h = refl
