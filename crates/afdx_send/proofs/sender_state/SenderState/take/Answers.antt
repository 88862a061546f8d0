use Rattle.std.proofs.Common.{◌≡◌, ◌∙◌, Option, Some, None, sym, subst}
use Rattle.afdx_frame.proofs.FirstFalseLemmas.{none_of}
use Rattle.afdx_port.specs.declared.left.Left.{Left}
use Rattle.afdx_send.specs.Frames.{Frame}
use Rattle.afdx_send.specs.Sender.{StandsFor, port_history}
use Rattle.afdx_send.proofs.DoneLemmas.{all_emitted}
use Rattle.afdx_send.proofs.StandLemmas.{take_stands}
use Rattle.afdx_send.proofs.sender_state.SenderState.take.Goals as goal

pub returns-in-Some-clause-stands : goal.returns-in-Some-clause-stands
returns-in-Some-clause-stands c = take_stands c.args.self.now (Some c.in-Some.left) c.take.new.self c.args.until
    c.requires.idle c.take.ensures.clock c.requires.clock c.requires.timely c.in-Some.ensures.given
    c.in-Some.ensures.none

pub returns-in_default-clause-stands : goal.returns-in_default-clause-stands
returns-in_default-clause-stands c = λ h st.
    let w = c.args.self.now in
    let none : c.take.result ≡ None = none_of c.take.result c.in_default.not-Some in
    subst (λ (o : Option (Left Frame)). StandsFor (record w { output = c.take.new.self; ready = o }) h)
    (none ∙ sym c.requires.idle)
    (take_stands w c.take.result c.take.new.self c.args.until c.requires.idle c.take.ensures.clock
    c.requires.clock c.requires.timely c.take.ensures.given c.take.ensures.none h st)

pub returns-in_default-clause-done : goal.returns-in_default-clause-done
returns-in_default-clause-done c = λ h st late gone.
    let w = c.args.self.now in
    let none : c.take.result ≡ None = none_of c.take.result c.in_default.not-Some in
    all_emitted w h st c.args.until c.take.result c.requires.idle c.requires.timely late none
    (c.take.ensures.all_done (port_history h st.released st.given w.output.clock) st.output late)
