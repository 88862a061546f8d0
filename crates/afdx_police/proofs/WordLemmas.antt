-- A frame's faults and the reasons to drop it are told in the same words.
use Rattle.std.proofs.Common.{refl}
use Rattle.afdx_frame.specs.Words.{mac_words}
use Rattle.afdx_frame.specs.declared.fault.MacFault.TheVariants as mac
use Rattle.afdx_police.specs.Laws.{FaultsKeepTheirWords}
use Rattle.afdx_police.specs.Words.{words}

pub same_word : FaultsKeepTheirWords
unfolding words mac_words
same_word mac.TooShort = refl
same_word mac.TooLong = refl
same_word mac.BadFcs = refl
same_word mac.BadAddress = refl
