use Rattle.std.proofs.Common.{ℕ, List}
use Rattle.std.proofs.KnownBytes.{Appends-trans}
use Rattle.std.proofs.lemmas.Result.{on_ok_weaker, on_err_weaker}
use Rattle.afdx_frame.specs.declared.link.Side.{Side}
use Rattle.afdx_frame.specs.declared.link.Side.TheVariants.{A, B}
use Rattle.afdx_send.specs.Sender.{sending_of}
use Rattle.afdx_command_tables.specs.sending.Text.{sent_line}
use Rattle.afdx_text.proofs.OutputLemmas.{front-longer, front-more, on-err}
use Rattle.afdx_command_tables.specs.declared.sending.run.SwitchPort.{SwitchPort}
use Rattle.afdx_text.specs.OutLines.{place_text}
use Rattle.afdx_command_tables.proofs.sending.run.put_emission.Goals as goal

abbrev line : SwitchPort → Side → ℕ → List ℕ → List ℕ
line port side time bytes = sent_line (place_text side port.switch.now) port.number time bytes

pub returns-in_err-put-clause-front : goal.returns-in_err-put-clause-front
returns-in_err-put-clause-front g c =
    let y = sending_of c.args.emission.now in
    on-err c.from_residual.result _
    (front-longer (g.O.Sink.written c.args.output.now) (g.O.Sink.written c.put.new.self)
    (line c.args.port A y.time y.a)
    (line c.args.port B y.time y.b)
    (rw c.as_slice.ensures.value at c.in_err-put.ensures.front))

pub returns-clause-lines : goal.returns-clause-lines
returns-clause-lines g c =
    let y = sending_of c.args.emission.now in
    on_ok_weaker c.put-2.result
    (Appends-trans (g.O.Sink.written c.args.output.now) (g.O.Sink.written c.put.new.self)
    (g.O.Sink.written c.put-2.new.self) (line c.args.port A y.time y.a)
    (line c.args.port B y.time y.b)
    (rw c.as_slice.ensures.value at c.in_ok-put.ensures.whole))
    (rw c.as_slice-2.ensures.value at c.put-2.ensures.whole)

pub returns-clause-front : goal.returns-clause-front
returns-clause-front g c =
    let y = sending_of c.args.emission.now in
    on_err_weaker c.put-2.result
    (front-more (g.O.Sink.written c.args.output.now) (g.O.Sink.written c.put.new.self)
    (g.O.Sink.written c.put-2.new.self) (line c.args.port A y.time y.a)
    (line c.args.port B y.time y.b)
    (rw c.as_slice.ensures.value at c.in_ok-put.ensures.whole))
    (rw c.as_slice-2.ensures.value at c.put-2.ensures.front)
