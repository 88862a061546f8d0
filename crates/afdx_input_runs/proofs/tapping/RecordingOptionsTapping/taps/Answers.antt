use Rattle.std.proofs.Common.{ap, ◌∙◌}
use Rattle.afdx_input_sources.specs.Tapping.{Taps, taps_of_both}
use Rattle.afdx_input_runs.specs.SeenFrames.{taps_of_one}
use Rattle.afdx_input_runs.proofs.tapping.RecordingOptionsTapping.taps.Goals as goal

pub returns : goal.returns
returns c =
    c.add_all.ensures
    ∙ ap (λ (t : Taps). taps_of_both t (taps_of_one c.args.self.now)) c.none-taps.ensures
