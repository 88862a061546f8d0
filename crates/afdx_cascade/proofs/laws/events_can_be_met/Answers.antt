use Rattle.afdx_cascade.proofs.TwoHopsAllLemmas.{passes-both}
use Rattle.afdx_cascade.proofs.TwoHopsMessageLemmas.{message-passes-both}
use Rattle.afdx_cascade.proofs.laws.events_can_be_met.Goals as goal

pub returns-clause-frame : goal.returns-clause-frame
returns-clause-frame c = passes-both c.built_is_computed.ensures

pub returns-clause-message : goal.returns-clause-message
returns-clause-message c = message-passes-both c.built_is_computed.ensures
