-- Why a frame that a system sent isn't lawful by itself, in a word.
use Rattle.std.specs.Prelude.{ℕ, List, codes}
use Rattle.afdx_frame.specs.Words.{mac_word, ip_word}
use Rattle.afdx_lawful.specs.declared.finding.Flaw.{Flaw}
use Rattle.afdx_lawful.specs.declared.finding.Flaw.TheVariants.{Damaged, OverLmax, UnderLmin, NotItsAddress}
use Rattle.afdx_lawful.specs.declared.finding.Flaw.TheVariants.{Unread}
use Rattle.afdx_police.specs.Words.{reason_word}
use Rattle.afdx_police.specs.declared.shape.Reason.TheVariants as switch
use Rattle.afdx_text.specs.declared.sender_words.NoSource.{NoSource}
use Rattle.afdx_text.specs.declared.sender_words.NoSource.TheVariants.{UnknownLink, NotItsLink}

-- what a switch or a receiver would drop it for is in their words
unfoldable pub flaw_word : Flaw → List ℕ
flaw_word (Damaged fault) = mac_word fault
flaw_word OverLmax = reason_word switch.OverLmax
flaw_word UnderLmin = reason_word switch.UnderLmin
flaw_word NotItsAddress = codes "not-its-address"
flaw_word (Unread fault) = ip_word fault

unfoldable pub no_source_word : NoSource → List ℕ
no_source_word UnknownLink = reason_word switch.UnknownLink
no_source_word NotItsLink = codes "not-its-link"
