use Rattle.afdx_config.proofs.AmongOthersLemmas.{among_others, alone-one, between-systems, admitted-serving}
use Rattle.afdx_config.proofs.laws.one_is_among_others.Goals as goal

pub returns-clause-lawful : goal.returns-clause-lawful
returns-clause-lawful c = among_others

pub returns-clause-alone : goal.returns-clause-alone
returns-clause-alone c = alone-one

pub returns-clause-between : goal.returns-clause-between
returns-clause-between c = between-systems

pub returns-clause-admitted : goal.returns-clause-admitted
returns-clause-admitted c = admitted-serving
