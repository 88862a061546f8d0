-- Why a frame is no source's that came where a system stands.
use Rattle.std.specs.Prelude.{ℕ, Option, Some, None, Result, Ok, Err, List}
use Rattle.afdx_frame.specs.Parts.{FrameParts, frame_of}
use Rattle.afdx_frame.specs.declared.fault.MacFault.{MacFault}
use Rattle.afdx_senders.specs.declared.sites.SourceOf.{SourceOf}
use Rattle.afdx_senders.specs.declared.sites.SourceOf.TheVariants.{Source, Elsewhere, Unknown}
use Rattle.afdx_senders.specs.declared.sites.SourceOf.TheVariants.{Nobody}
use Rattle.afdx_senders.specs.declared.stray.Stray.{Stray}
use Rattle.afdx_senders.specs.declared.stray.Stray.TheVariants.{Damaged, NotItsLink, UnknownLink}

-- its shape comes first
abbrev pub shaped : Stray → Result FrameParts MacFault → Stray
shaped why (Ok parts) = why
shaped why (Err fault) = Damaged fault

-- of a frame that is so; None: nothing is found, or it is a source's
abbrev pub stray_of : SourceOf → List ℕ → Option Stray
stray_of (Source place) bytes = None
stray_of Elsewhere bytes = Some (shaped NotItsLink (frame_of bytes))
stray_of Unknown bytes = Some (shaped UnknownLink (frame_of bytes))
stray_of Nobody bytes = None
