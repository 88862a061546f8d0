-- How an arrival is sealed, and its bytes.
use Rattle.std.proofs.Common.{◌≡◌, ℕ, List, Bool, true, false, refl}
use Rattle.afdx_frame.specs.Sealing.{is_sealed}
use Rattle.afdx_frame.specs.Seals.{whole, IsSealedAs}
use Rattle.afdx_frame.proofs.SealingLemmas.{sealing_is_computed}
use Rattle.afdx_input_lines.specs.declared.frame_line.FrameKind.{FrameKind}
use Rattle.afdx_input_lines.specs.declared.frame_line.FrameKind.TheVariants.{Good, Bad, Raw}
use Rattle.afdx_input_sources.specs.Becoming.{seal_by, seal_with, without_own, message_with}

recorded : (bytes : List ℕ) (own : Bool) → is_sealed bytes ≡ own
    → IsSealedAs (seal_by Raw own) (without_own own bytes)
unfolding whole
recorded bytes true e = sealing_is_computed.sealed (without_own true bytes)
recorded bytes false e = e

-- what is said of its seal is true
pub known : (kind : FrameKind) (bytes : List ℕ) → IsSealedAs (seal_with kind bytes) (message_with kind bytes)
unfolding whole
known Raw bytes = recorded bytes (is_sealed bytes) refl
known Good bytes = sealing_is_computed.sealed bytes
known Bad bytes = sealing_is_computed.wrongly bytes
