use Rattle.std.proofs.Common.{rules, ◌≡◌, Err, inr}
use Rattle.afdx_input_sources.specs.Engine.{item_of}
use Rattle.afdx_input_runs.proofs.ListingLemmas.{lines-told, lines-begun}
use Rattle.afdx_input_runs.proofs.listing.ListerMachineNumberLine.tell.Goals as goal

pub returns-in_err-put_number-clause-begins : goal.returns-in_err-put_number-clause-begins
returns-in_err-put_number-clause-begins g c d start past told =
    let begun = lines-begun d start (g.O.Sink.written c.args.output.now) (g.O.Sink.written c.put_number.new.output)
    past (item_of c.args.n c.args.head.now c.args.bytes.now) told.1
    (rw told.0 at c.in_err-put_number.ensures.front) in
    let e : c.from_residual.result ≡ Err c.in_err-put_number.field-0.0 = search rules in
    rw e (inr begun)

pub returns-clause-told : goal.returns-clause-told
returns-clause-told g c d start past told follows can = (
  told.0,
  lines-told d start (g.O.Sink.written c.args.output.now) (g.O.Sink.written c.put_number.new.output) past
      (item_of c.args.n c.args.head.now c.args.bytes.now) told.1 (rw told.0 at c.in_ok-put_number.ensures.whole),
)
