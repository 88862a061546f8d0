use Rattle.std.proofs.Common.{subst}
use Rattle.afdx_command_conform.specs.Keeping.{AreKept, given_of}
use Rattle.afdx_command_conform.proofs.GivenLemmas.{came-times}
use Rattle.afdx_command_conform.proofs.streams.Streams.end.Goals as goal

pub returns-clause-stands : goal.returns-clause-stands
returns-clause-stands c t c' time frames lines le running all stand = record {
  lawful = stand.lawful;
  tables = stand.tables;
  by = stand.by;
  sight = stand.sight;
  kept = c.end.ensures t c' time (given_of t c' frames) lines stand.lawful le (came-times t c' frames c.args.until all)
      (subst (λ e. AreKept t c' c.args.until e time (given_of t c' frames) lines c.args.self.now.kept) running
      stand.kept);
}
