use Rattle.std.proofs.Common.{◌∙◌}
use Rattle.afdx_command_conform.proofs.JoinLemmas.{place-is}
use Rattle.afdx_command_conform.proofs.streams.Streams.place_named.Goals as goal

pub returns-clause-place : goal.returns-clause-place
returns-clause-place c bytes vl = c.place_named.ensures.place ∙ place-is c.args.self.now.tables.now bytes c.args.vl vl
