use Rattle.afdx_config.proofs.AmongOthersLemmas.{alone-one}
use Rattle.afdx_config.proofs.tables.Tables.new.Goals as goal

pub returns-clause-alone : goal.returns-clause-alone
returns-clause-alone c = λ own. alone-one _ c.requires own
