use Rattle.std.proofs.Common.{ap, ◌∙◌}
use Rattle.afdx_input_sources.specs.Tapping.{Taps, taps_of_both}
use Rattle.afdx_input_runs.specs.SeenFrames.{taps_of_one}
use Rattle.afdx_input_runs.proofs.tapping.ByRoleRecordingOptionsTapping.taps.Goals as goal

pub returns : goal.returns
returns c =
    let came = taps_of_one c.args.self.now.came in
    let left = taps_of_one c.args.self.now.left in
    c.add_all-2.ensures
    ∙ ap (λ (t : Taps). taps_of_both t left) (c.add_all.ensures
    ∙ ap (λ (t : Taps). taps_of_both t came) c.none-taps.ensures)
