use Rattle.std.proofs.Common.{◌∷◌, arith, false, refl}
use Rattle.afdx_input_sources.specs.Engine.{item_of}
use Rattle.afdx_input_runs.specs.Joining.{Frame, frame_of}
use Rattle.afdx_command_conform.specs.Beginning.{AreLinesBefore}
use Rattle.afdx_command_conform.proofs.EarlyLemmas.{comes-next, stands-early}
use Rattle.afdx_command_conform.proofs.FullLemmas.{stands-same}
use Rattle.afdx_command_conform.proofs.ToldLemmas.{works-next}
use Rattle.afdx_command_conform.proofs.judging.JudgingRun.follow.Goals as goal

pub returns : goal.returns
returns c k frames dues at latest few h none =
    let x : Frame = frame_of (item_of c.args.n c.args.seen.now c.args.message.now) in
    let time = c.args.seen.now.heading.time in
    let taken = c.in_ok-take.ensures.stands k frames dues h.0.tables_are h.0.choices_are latest few h.1 in
    record {
      works = works-next k frames c.args.self.now c.take.new.self _ dues x c.take.ensures.others refl refl refl refl
          refl
          (c.in_ok-take.ensures.counted frames) h.0;
      stands = stands-same k (x ∷ frames) false time c.take.new.self _ dues (λ until s. s) refl taken;
      early = comes-next (λ until all early. AreLinesBefore k.0 k.1 until all time early) k time x frames dues
          (omega arith)
          (stands-early k frames time c.args.self.now dues latest h.1 none);
    }
