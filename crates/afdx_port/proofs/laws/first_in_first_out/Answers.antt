use Rattle.afdx_port.proofs.ClassLemmas.{go_in_order, all_go_in_order}
use Rattle.afdx_port.proofs.laws.first_in_first_out.Goals as goal

pub returns-clause-given : goal.returns-clause-given
returns-clause-given g c = λ byte_ns test entries turns one are. go_in_order byte_ns test entries turns one are

pub returns-clause-all : goal.returns-clause-all
returns-clause-all g c = λ byte_ns test entries turns one all. all_go_in_order byte_ns test entries turns one all
