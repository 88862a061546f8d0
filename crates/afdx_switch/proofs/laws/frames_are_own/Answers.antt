use Rattle.afdx_switch.proofs.LinkFrameLemmas.{frames-own, all-own, others-none}
use Rattle.afdx_switch.proofs.laws.frames_are_own.Goals as goal

pub returns-clause-given : goal.returns-clause-given
returns-clause-given c = λ t side w h port vl lawful. frames-own t side w h port vl lawful

pub returns-clause-all : goal.returns-clause-all
returns-clause-all c = λ t side h port vl lawful. all-own t side h port vl lawful

pub returns-clause-others : goal.returns-clause-others
returns-clause-others c = others-none
