use Rattle.std.proofs.Common.{◌≡◌, refl}
use Rattle.afdx_input_sources.specs.Claims.{ports_in}
use Rattle.afdx_input_runs.specs.Arrivals.{TakesFrames}
use Rattle.afdx_input_runs.proofs.ListingLemmas.{if-lists, lines-start}
use Rattle.afdx_input_runs.proofs.listing.list_numbers.Goals as goal

pub tell_all-requires-clause-told : goal.tell_all-requires-clause-told
tell_all-requires-clause-told g c = (
  c.args.described.now,
  (refl, lines-start c.args.described.now (g.O.Sink.written c.args.output.now)),
  λ item come. tt,
)

pub returns-clause-lists : goal.returns-clause-lists
returns-clause-lists g c =
    let d = c.args.described.now in
    let old = g.O.Sink.written c.args.output.now in
    let new = g.O.Sink.written c.tell_all.new.output in
    if-lists d (c.tell_all.new.machine.described.now ≡ d) old new c.tell_all.result
    (g.A.RunInput.known c.args.input.now)
    (λ bytes. g.A.RunInput.Takes TakesFrames c.args.options (ports_in d) bytes c.tell_all.new.self)
    (rw c.of_sender_in.ensures at c.tell_all.ensures.answer d (refl, lines-start d old) (λ item come. tt))
