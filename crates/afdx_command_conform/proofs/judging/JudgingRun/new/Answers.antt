use Rattle.std.proofs.Common.{refl, sym, ap, ◌∙◌, arith}
use Rattle.afdx_command_conform.specs.Sight.{sight_in}
use Rattle.afdx_command_conform.specs.ChoicesOf.{choices_of}
use Rattle.afdx_command_conform.proofs.BegunLemmas.{nothing-due}
use Rattle.afdx_command_conform.proofs.ByTimeLemmas.{none-by-time}
use Rattle.afdx_command_conform.proofs.ToldLemmas.{works-none}
use Rattle.afdx_command_conform.proofs.judging.JudgingRun.new.Goals as goal

pub returns : goal.returns
returns c = record {
  works = works-none (c.args.tables.now, choices_of (sight_in c.args.tables.now c.args.taps.now) c.args.choices.now) _
      (c.in_ok-streams.ensures.stands (choices_of (sight_in c.args.tables.now c.args.taps.now) c.args.choices.now)
      0 refl refl).tables
      (ap (λ p. choices_of p c.args.choices.now)
      (c.in_ok-streams.ensures.stands (choices_of (sight_in c.args.tables.now c.args.taps.now) c.args.choices.now)
      0 refl refl).sight)
      refl refl refl;
  stands = record {
    all = λ until may. record {
      streams = c.in_ok-streams.ensures.stands (choices_of (sight_in c.args.tables.now c.args.taps.now)
          c.args.choices.now) until refl
          refl;
      early = λ e. tt;
    };
    by_time = none-by-time;
    running = λ end none said. omega arith;
    ends = λ end is. absurd (let bad = sym c.in_ok-streams.ensures.running ∙ is in cc bad);
  };
  early = nothing-due (c.args.tables.now, choices_of (sight_in c.args.tables.now c.args.taps.now) c.args.choices.now);
}
