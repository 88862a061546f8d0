use Rattle.std.proofs.Common.{Ok, Err, None, arith}
use Rattle.afdx_command_tables.specs.Counts.{no_counts}
use Rattle.afdx_input_lines.specs.SitedLines.{sited_frame}
use Rattle.afdx_input_sources.specs.Claims.{ports_of_several}
use Rattle.afdx_input_sources.specs.Items.{thing_of}
use Rattle.afdx_replay.specs.cascading.Input.{TakesSited}
use Rattle.afdx_replay.specs.cascading.Ran.{lists}
use Rattle.afdx_replay.proofs.CascadeOverLemmas.{come-there, first-told, replays-none, replays-told}
use Rattle.afdx_replay.proofs.SiteLemmas.{sites-count}
use Rattle.afdx_replay.proofs.cascading.over.replay_sited.Goals as goal

-- there was no memory
pub returns-in-Err-clause-replays : goal.returns-in-Err-clause-replays
returns-in-Err-clause-replays g c =
    let ss = c.args.switches.now in
    let ports = ports_of_several ss in
    let input = c.args.input.now in
    rw c.from.ensures (replays-none g.D.Write.contents ss (g.A.RunInput.known input)
    (λ bytes. g.A.RunInput.Takes (TakesSited ss) c.args.options ports bytes input) c.args.early
    (g.O.Sink.written c.args.output.now) no_counts
    (λ bytes known. c.takes_none.ensures (lists ss) (thing_of (lists ss) sited_frame) c.args.options ports bytes
    input c.requires.new known))

pub returns-in-Err-new-clause-replays : goal.returns-in-Err-new-clause-replays
returns-in-Err-new-clause-replays g c =
    let ss = c.args.switches.now in
    let ports = ports_of_several ss in
    let input = c.args.input.now in
    rw c.from-in-Err-new.ensures (replays-none g.D.Write.contents ss (g.A.RunInput.known input)
    (λ bytes. g.A.RunInput.Takes (TakesSited ss) c.args.options ports bytes input) c.args.early
    (g.O.Sink.written c.args.output.now) no_counts
    (λ bytes known. c.takes_none.ensures (lists ss) (thing_of (lists ss) sited_frame) c.args.options ports bytes
    input c.requires.new known))

pub tell_all-count-requires-clause-form : goal.tell_all-count-requires-clause-form
tell_all-count-requires-clause-form g c =
    let told = c.in-Ok-new.ensures.told None in
    let few = told.fits.few in
    let count = sites-count c.args.switches.now in
    rw (c.as_slice.ensures.value, c.in-Ok.ensures) (omega (arith, few, count))

pub tell_all-count-requires-clause-told : goal.tell_all-count-requires-clause-told
tell_all-count-requires-clause-told g c =
    let ss = c.args.switches.now in
    let more = c.with_early-teller.ensures in (
      (ss, c.args.early),
      first-told g.D.Write.contents ss c.in-Ok-new.cascading.cascade c.in-Ok-new.cascading.teller
          c.with_early-teller.result c.args.early (g.O.Sink.written c.args.output.now)
          (c.in-Ok-new.ensures.told (g.O.Sink.written c.args.output.now)) c.in-Ok-new.ensures.clock
          c.in-Ok-new.ensures.steady more.switches more.systems more.counts more.early,
      λ item come. come-there ss (λ x. g.P.Placing.Enters c.args.options (ports_of_several ss) x) c.requires.there
          item (rw (c.as_slice.ensures.value, c.in-Ok.ensures) at come),
    )

-- the input came to its end
pub returns-in-Ok-count-clause-replays : goal.returns-in-Ok-count-clause-replays
returns-in-Ok-count-clause-replays g c =
    let ss = c.args.switches.now in
    let contents = g.D.Write.contents in
    let early = c.args.early in
    let first = c.args.input.now in
    let ended = c.tell_all-count.new in
    let old = g.O.Sink.written c.args.output.now in
    let more = c.with_early-teller.ensures in
    let start = first-told contents ss c.in-Ok-new.cascading.cascade c.in-Ok-new.cascading.teller
    c.with_early-teller.result early old (c.in-Ok-new.ensures.told old) c.in-Ok-new.ensures.clock
    c.in-Ok-new.ensures.steady more.switches more.systems more.counts more.early in
    let answer = c.in-Ok-count.ensures.answer (ss, early) start
    (λ item come. come-there ss (λ x. g.P.Placing.Enters c.args.options (ports_of_several ss) x) c.requires.there
    item (rw (c.as_slice.ensures.value, c.in-Ok.ensures) at come)) in
    let taken = rw (c.as_slice.ensures.value, c.in-Ok.ensures) at answer in
    rw c.of.ensures (replays-told contents ss early ended.machine old (g.O.Sink.written ended.output)
    (g.A.RunInput.known first)
    (λ bytes. g.A.RunInput.Takes (TakesSited ss) c.args.options (ports_of_several ss) bytes ended.self)
    (Ok c.in-Ok-count.count) taken)

-- it ended with a fault
pub returns-clause-replays : goal.returns-clause-replays
returns-clause-replays g c =
    let ss = c.args.switches.now in
    let contents = g.D.Write.contents in
    let early = c.args.early in
    let first = c.args.input.now in
    let ended = c.tell_all-count.new in
    let old = g.O.Sink.written c.args.output.now in
    let more = c.with_early-teller.ensures in
    let start = first-told contents ss c.in-Ok-new.cascading.cascade c.in-Ok-new.cascading.teller
    c.with_early-teller.result early old (c.in-Ok-new.ensures.told old) c.in-Ok-new.ensures.clock
    c.in-Ok-new.ensures.steady more.switches more.systems more.counts more.early in
    let answer = c.in-Err-count.ensures.answer (ss, early) start
    (λ item come. come-there ss (λ x. g.P.Placing.Enters c.args.options (ports_of_several ss) x) c.requires.there
    item (rw (c.as_slice.ensures.value, c.in-Ok.ensures) at come)) in
    let taken = rw (c.as_slice.ensures.value, c.in-Ok.ensures) at answer in
    replays-told contents ss early ended.machine old (g.O.Sink.written ended.output) (g.A.RunInput.known first)
    (λ bytes. g.A.RunInput.Takes (TakesSited ss) c.args.options (ports_of_several ss) bytes ended.self)
    (Err c.in-Err-count.fault) taken
