use Rattle.std.proofs.Common.{ap, sym}
use Rattle.std.proofs.lemmas.Result.{on_ok_weaker, on_err_weaker}
use Rattle.afdx_network.specs.Network.{lost_in}
use Rattle.afdx_text.specs.OutLines.{site_text}
use Rattle.afdx_replay.specs.replaying.Text.{loss_lines}
use Rattle.afdx_text.proofs.OutputLemmas.{on-err}
use Rattle.afdx_replay.proofs.LossLemmas.{verdict-front, losses-whole, losses-front}
use Rattle.afdx_replay.proofs.replaying.lines.put_admission.Goals as goal

pub returns-in_err-put-clause-front : goal.returns-in_err-put-clause-front
returns-in_err-put-clause-front g c =
    on-err c.from_residual.result _
    (verdict-front c.args.n (site_text c.args.site) _ _ (g.O.Sink.written c.args.output.now)
    (g.O.Sink.written c.put.new.self)
    c.reason_of-reason.ensures (loss_lines c.args.n (site_text c.args.site) (lost_in c.args.verdict.now))
    c.in_err-put.ensures.front)

pub returns-in-Accepted-clause-lines : goal.returns-in-Accepted-clause-lines
returns-in-Accepted-clause-lines g c =
    on_ok_weaker c.put_losses.result
    (losses-whole c.args.n (site_text c.args.site) _ _ (g.O.Sink.written c.args.output.now)
    (g.O.Sink.written c.put.new.self)
    (g.O.Sink.written c.put_losses.new.output) c.reason_of-reason.ensures (sym (ap lost_in c.in-Accepted.is))
    c.in_ok-put.ensures.whole) c.put_losses.ensures.lines

pub returns-in-Accepted-clause-front : goal.returns-in-Accepted-clause-front
returns-in-Accepted-clause-front g c =
    on_err_weaker c.put_losses.result
    (losses-front c.args.n (site_text c.args.site) _ _ (g.O.Sink.written c.args.output.now)
    (g.O.Sink.written c.put.new.self)
    (g.O.Sink.written c.put_losses.new.output) c.reason_of-reason.ensures (sym (ap lost_in c.in-Accepted.is))
    c.in_ok-put.ensures.whole) c.put_losses.ensures.front
