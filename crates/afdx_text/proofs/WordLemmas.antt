-- Why a frame was dropped is a short word.
use Rattle.std.proofs.Common.{◌≡◌, ◌≤◌, ℕ, zero, suc, Bool, true, List, [], ◌∷◌, length, slice_index_or, refl}
use Rattle.std.specs.List.{list_all}
use Rattle.std.proofs.Math.Dec.{leb}
use Rattle.std.proofs.lemmas.Bool.{leb-true, and_parts}
use Rattle.afdx_frame.specs.Words.{mac_word, mac_words, ip_word, ip_words}
use Rattle.afdx_frame.specs.declared.fault.MacFault.{MacFault}
use Rattle.afdx_frame.specs.declared.fault.MacFault.TheVariants as mac
use Rattle.afdx_frame.specs.declared.fault.IpFault.{IpFault}
use Rattle.afdx_frame.specs.declared.fault.IpFault.TheVariants as ip
use Rattle.afdx_police.specs.Words.{reason_word, words}
use Rattle.afdx_police.specs.declared.shape.Reason.{Reason}
use Rattle.afdx_police.specs.contracts.shape.Reason.{the_type}
use Rattle.afdx_receive.specs.Words.{drop_word, own_words}
use Rattle.afdx_receive.specs.declared.reception.DropReason.{DropReason}
use Rattle.afdx_receive.specs.declared.reception.DropReason.TheVariants as drop
use Rattle.afdx_conform.specs.Words.{strange_word, own_words as strange_words}
use Rattle.afdx_conform.specs.declared.strangeness.Strangeness.{Strangeness}
use Rattle.afdx_conform.specs.declared.strangeness.Strangeness.TheVariants as strange
use Rattle.afdx_lawful.specs.declared.finding.Flaw.{Flaw}
use Rattle.afdx_lawful.specs.declared.finding.Flaw.TheVariants as flaw
use Rattle.afdx_police.specs.declared.shape.Reason.TheVariants as switch
use Rattle.afdx_text.specs.SenderWords.{flaw_word, no_source_word}
use Rattle.afdx_text.specs.declared.sender_words.NoSource.{NoSource}
use Rattle.afdx_text.specs.declared.sender_words.NoSource.TheVariants as source
use denote.Enum.Declared.{tag_of}

abbrev fits : List ℕ → Bool
fits word = leb (length word) 15

-- where each word of a table fits, the one at any place does
fits_at : (table : List (List ℕ)) (place : ℕ) → list_all fits table ≡ true
    → fits (slice_index_or table place []) ≡ true
fits_at [] place all = refl
fits_at (word ∷ table) zero all = (and_parts (fits word) (list_all fits table) all).0
fits_at (word ∷ table) (suc place) all = fits_at table place (and_parts (fits word) (list_all fits table) all).1

reason_fits : (r : Reason) → fits (reason_word r) ≡ true
unfolding words
reason_fits r = fits_at words (tag_of the_type r) refl

-- at a switch
pub reason_word_short : (r : Reason) → length (reason_word r) ≤ 15
reason_word_short r = leb-true _ _ (reason_fits r)

mac_fits : (fault : MacFault) → leb (length (mac_word fault)) 15 ≡ true
unfolding mac_words
mac_fits mac.TooShort = refl
mac_fits mac.TooLong = refl
mac_fits mac.BadFcs = refl
mac_fits mac.BadAddress = refl

ip_fits : (fault : IpFault) → leb (length (ip_word fault)) 15 ≡ true
unfolding ip_words
ip_fits ip.NotIpv4 = refl
ip_fits ip.BadIpHeader = refl
ip_fits ip.Fragment = refl
ip_fits ip.NotUdp = refl
ip_fits ip.BadUdpLength = refl

drop_fits : (why : DropReason) → leb (length (drop_word why)) 15 ≡ true
unfolding own_words
drop_fits (drop.Mac fault) = mac_fits fault
drop_fits drop.NotSubscribed = refl
drop_fits drop.Sequence = refl
drop_fits drop.Redundant = refl
drop_fits (drop.Ip fault) = ip_fits fault
drop_fits drop.NoPort = refl

-- at a receiver
pub drop_word_short : (why : DropReason) → length (drop_word why) ≤ 15
drop_word_short why = leb-true _ _ (drop_fits why)

strange_fits : (why : Strangeness) → leb (length (strange_word why)) 15 ≡ true
unfolding strange_words
strange_fits (strange.Shape reason) = reason_fits reason
strange_fits strange.NotItsPort = refl
strange_fits strange.OutOfTurn = refl
strange_fits strange.NoArrival = refl

-- at a switch that was recorded
pub strange_word_short : (why : Strangeness) → length (strange_word why) ≤ 15
strange_word_short why = leb-true _ _ (strange_fits why)

flaw_fits : (f : Flaw) → leb (length (flaw_word f)) 15 ≡ true
unfolding flaw_word
flaw_fits (flaw.Damaged fault) = mac_fits fault
flaw_fits flaw.OverLmax = reason_fits switch.OverLmax
flaw_fits flaw.UnderLmin = reason_fits switch.UnderLmin
flaw_fits flaw.NotItsAddress = refl
flaw_fits (flaw.Unread fault) = ip_fits fault

-- of what a system sent
pub flaw_word_short : (f : Flaw) → length (flaw_word f) ≤ 15
flaw_word_short f = leb-true _ _ (flaw_fits f)

no_source_fits : (why : NoSource) → leb (length (no_source_word why)) 15 ≡ true
unfolding no_source_word
no_source_fits source.UnknownLink = reason_fits switch.UnknownLink
no_source_fits source.NotItsLink = refl

pub no_source_word_short : (why : NoSource) → length (no_source_word why) ≤ 15
no_source_word_short why = leb-true _ _ (no_source_fits why)
