use Rattle.std.proofs.Common.{Some, ap, refl, sym, arith}
use Rattle.afdx_config.specs.Rows.{Rows}
use Rattle.afdx_input_sources.specs.Tapping.{taps_in}
use Rattle.afdx_command_senders.specs.Asked.{asked_of}
use Rattle.afdx_command_senders.proofs.SettingLemmas.{nothing-early}
use Rattle.afdx_command_senders.proofs.judging.SendersRun.new.Goals as goal

pub returns : goal.returns
returns c =
    let s = c.in_ok-senders.ensures (taps_in c.args.taps.now) c.recorded_ports.ensures in (
      s.0,
      s.1,
      record {
        works = record {
          tables = sym s.1.tables;
          asked = ap (λ (t : Rows). asked_of t (taps_in c.args.taps.now) c.args.asked) s.1.tables;
          left_out = refl;
          latest = refl;
          few = omega arith;
        };
        findings = refl;
        have = λ until may. s.2 until (Some 0);
        early = nothing-early s.0 (asked_of c.args.outlook.tables.now (taps_in c.args.taps.now)
            c.args.asked).run.until 0;
      },
    )
