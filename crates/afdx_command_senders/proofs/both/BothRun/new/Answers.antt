use Rattle.afdx_input_sources.specs.Tapping.{taps_in}
use Rattle.afdx_command_senders.specs.Asked.{asked_of}
use Rattle.afdx_command_senders.proofs.BothRunLemmas.{new-both}
use Rattle.afdx_command_senders.proofs.both.BothRun.new.Goals as goal

pub returns : goal.returns
returns c =
    let s = c.in_ok-senders.ensures in (
      s.0,
      s.1,
      λ output. new-both (s.0, asked_of c.args.outlook.tables.now (taps_in c.args.taps.now) c.args.asked) _ _
          output s.1.tables
          c.in_ok-switch.ensures s.2,
    )
