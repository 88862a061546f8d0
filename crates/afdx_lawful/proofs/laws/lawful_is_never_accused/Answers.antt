use Rattle.afdx_lawful.proofs.RecordedExampleLemmas.{lawful_met}
use Rattle.afdx_lawful.proofs.RecordedLemmas.{built_never_accused, lawful_never_accused}
use Rattle.afdx_lawful.proofs.laws.lawful_is_never_accused.Goals as goal

pub returns : goal.returns
returns c = record { lawful = lawful_never_accused; built = built_never_accused; met = lawful_met }
