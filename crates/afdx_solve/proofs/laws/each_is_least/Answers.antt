use Rattle.afdx_solve.specs.Solved.{with_jitters, with_least_buffer, with_delays}
use Rattle.afdx_solve.proofs.LeastLemmas.{least_jitters, least_buffer-least, least_latencies, least_skews}
use Rattle.afdx_solve.proofs.laws.each_is_least.Goals as goal

pub returns : goal.returns
unfolding with_jitters with_least_buffer with_delays
returns c = λ o t raise lawful admitted. record {
  jitters = λ keep. least_jitters o t keep raise lawful.own;
  buffer = λ keep. least_buffer-least o t keep raise;
  latencies = λ keep. least_latencies o (with_least_buffer o (with_jitters o t)) keep raise lawful admitted;
  skews = λ keep. least_skews o (with_least_buffer o (with_jitters o t)) keep raise;
}
