-- The rule that the code holds, as plain data.
use Rattle.afdx_police.specs.Rule.{Rule, rule_with}
use Rattle.afdx_police.specs.declared.rule.LinkRule.{LinkRule}

abbrev pub rule_of : LinkRule → Rule
rule_of r = rule_with r.vl.0 r.port r.bag_ms r.lmin r.lmax r.jitter_us r.policing
