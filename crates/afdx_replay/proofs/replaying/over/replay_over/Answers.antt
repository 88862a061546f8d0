use Rattle.std.proofs.Common.{Ok, Err}
use Rattle.afdx_input_lines.specs.declared.fault.RunFault.TheVariants as run
use Rattle.afdx_input_lines.specs.FrameLines.{listed_frame}
use Rattle.afdx_input_sources.specs.Claims.{ports_of_one}
use Rattle.afdx_input_sources.specs.Items.{thing_of}
use Rattle.afdx_input_sources.specs.Listed.{frames}
use Rattle.afdx_input_runs.specs.Arrivals.{TakesFrames}
use Rattle.afdx_input_runs.proofs.ArrivalsLemmas.{if-known}
use Rattle.afdx_replay.specs.replaying.Input.{Replays}
use Rattle.afdx_replay.proofs.ReplaysLemmas.{HearsSo, replays-known, replays-none, told-anew}
use Rattle.afdx_replay.proofs.replaying.over.replay_over.Goals as goal

-- there was no memory
pub returns-in-Err-clause-replays : goal.returns-in-Err-clause-replays
returns-in-Err-clause-replays g c =
    let t = c.args.tables.now in
    let ports = ports_of_one t in
    let old = g.O.Sink.written c.args.output.now in
    let takes = λ (bytes : g.A.RunInput.Bytes). g.A.RunInput.Takes TakesFrames c.args.options ports bytes
    c.args.input.now in
    rw c.from.ensures (if-known (g.A.RunInput.known c.args.input.now)
    (λ (bytes : g.A.RunInput.Bytes). Replays t (takes bytes)
    (HearsSo g.D.Write.contents t (takes bytes) c.args.early c.args.early old old) old old (Err run.Memory))
    (λ bytes known. replays-none g.D.Write.contents t (takes bytes) c.args.early old
    (c.takes_none.ensures frames (thing_of frames listed_frame) c.args.options ports bytes c.args.input.now
    c.requires.new known)))

pub tell_all-count-requires-clause-told : goal.tell_all-count-requires-clause-told
tell_all-count-requires-clause-told g c =
    let t = c.args.tables.now in
    let old = g.O.Sink.written c.args.output.now in (
      (t, c.args.early),
      told-anew g.D.Write.contents t c.in-Ok.replay c.args.early old (c.in-Ok.ensures old),
      λ item come. tt,
    )

-- the input came to its end
pub returns-in-Ok-count-clause-replays : goal.returns-in-Ok-count-clause-replays
returns-in-Ok-count-clause-replays g c =
    let t = c.args.tables.now in
    let old = g.O.Sink.written c.args.output.now in
    let ended = c.tell_all-count.new in
    let takes = λ (bytes : g.A.RunInput.Bytes). g.A.RunInput.Takes TakesFrames c.args.options (ports_of_one t)
    bytes ended.self in
    rw (c.of.ensures, c.take-early.ensures.value) (replays-known g.D.Write.contents t c.args.early ended.machine old
    (g.O.Sink.written ended.output) takes (g.A.RunInput.known c.args.input.now) (Ok c.in-Ok-count.count)
    (λ bytes past answer took. c.orders.ensures c.args.options (ports_of_one t) bytes ended.self past
    answer took)
    (c.in-Ok-count.ensures.answer (t, c.args.early)
    (told-anew g.D.Write.contents t c.in-Ok.replay c.args.early old (c.in-Ok.ensures old)) (λ item come. tt)))

-- it ended with a fault
pub returns-clause-replays : goal.returns-clause-replays
returns-clause-replays g c =
    let t = c.args.tables.now in
    let old = g.O.Sink.written c.args.output.now in
    let ended = c.tell_all-count.new in
    let takes = λ (bytes : g.A.RunInput.Bytes). g.A.RunInput.Takes TakesFrames c.args.options (ports_of_one t)
    bytes ended.self in
    rw c.take-early.ensures.value (replays-known g.D.Write.contents t c.args.early ended.machine old
    (g.O.Sink.written ended.output) takes (g.A.RunInput.known c.args.input.now) (Err c.in-Err-count.fault)
    (λ bytes past answer took. c.orders.ensures c.args.options (ports_of_one t) bytes ended.self past
    answer took)
    (c.in-Err-count.ensures.answer (t, c.args.early)
    (told-anew g.D.Write.contents t c.in-Ok.replay c.args.early old (c.in-Ok.ensures old)) (λ item come. tt)))
