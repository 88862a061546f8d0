-- What is asked of a run, as the rules have it by which its streams are judged.
use Rattle.std.specs.Prelude.{◌≡◌}
use Rattle.afdx_conform.specs.LeewayOf.{leeway_of}
use Rattle.afdx_command_conform.specs.Choices.{Choices}
use Rattle.afdx_command_conform.specs.Sight.{sight_in}
use Rattle.afdx_command_conform.specs.declared.outlets.StreamRules.{StreamRules}

pub record IsRuled (rules : StreamRules) (c : Choices) : Type 0 where
  pub by : leeway_of rules.leeway ≡ c.by
  pub sight : sight_in rules.tables.now rules.taps.now ≡ c.sight
