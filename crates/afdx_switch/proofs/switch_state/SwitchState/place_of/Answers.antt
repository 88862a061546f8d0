use Rattle.std.proofs.Common.{◌∙◌, arith, ap, Some, None}
use Rattle.std.proofs.lemmas.Option.{slice_get_read}
use Rattle.afdx_switch.proofs.switch_state.SwitchState.place_of.Goals as goal

pub returns-in-Some-clause-within : goal.returns-in-Some-clause-within
returns-in-Some-clause-within c =
    let at = slice_get_read c.args.self.now.places.items _ c.args.vl.0 c.index.result.now
    c.args.self.now.places.ok.0 (omega (arith, c.requires.place_count)) c.index.ensures in
    c.requires.places c.args.vl.0 c.in-Some.place (at ∙ ap Some c.in-Some.is)

pub returns-in-Some-clause-place : goal.returns-in-Some-clause-place
returns-in-Some-clause-place c t side h st =
    let at = slice_get_read c.args.self.now.places.items _ c.args.vl.0 c.index.result.now
    c.args.self.now.places.ok.0 (omega (arith, c.requires.place_count)) c.index.ensures in
    st.places c.args.vl.0 (Some c.in-Some.place) (at ∙ ap Some c.in-Some.is)

pub returns-in-None-clause-place : goal.returns-in-None-clause-place
returns-in-None-clause-place c t side h st =
    let at = slice_get_read c.args.self.now.places.items _ c.args.vl.0 c.index.result.now
    c.args.self.now.places.ok.0 (omega (arith, c.requires.place_count)) c.index.ensures in
    st.places c.args.vl.0 None (at ∙ ap Some c.in-None.is)
