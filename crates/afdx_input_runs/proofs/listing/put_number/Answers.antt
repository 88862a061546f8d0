use Rattle.std.proofs.Common.{◌≡◌, ℕ, List, OnErr, refl, sym, subst, ap}
use Rattle.afdx_input_lines.specs.Calls.{AppendsFront}
use Rattle.afdx_text.specs.OutLines.{frame_line, place_text, remark_line}
use Rattle.afdx_input_runs.specs.ListText.{name_in, number_text}
use Rattle.afdx_input_runs.proofs.listing.put_number.Goals as goal

pub returns-in-Arrival-clause-front : goal.returns-in-Arrival-clause-front
returns-in-Arrival-clause-front g c =
    let e : number_text c.args.described.now c.args.n c.args.line.now c.args.bytes.now
    ≡ frame_line c.in-Arrival.kind
    (place_text c.in-Arrival.side (name_in c.args.described.now c.in-Arrival.switch)) c.in-Arrival.port
    c.in-Arrival.time c.args.bytes.now =
    rw c.in-Arrival.is refl in
    subst (λ (x : List ℕ). OnErr c.put.result (AppendsFront (g.O.Sink.written c.args.output.now)
    (g.O.Sink.written c.put.new.self) x)) (sym e)
    (subst (λ (name : List ℕ). OnErr c.put.result (AppendsFront (g.O.Sink.written c.args.output.now)
    (g.O.Sink.written c.put.new.self) (frame_line c.in-Arrival.kind (place_text c.in-Arrival.side name)
    c.in-Arrival.port c.in-Arrival.time c.args.bytes.now)))
    c.name_in.ensures c.put.ensures.front)

pub returns-in-Skipped-clause-front : goal.returns-in-Skipped-clause-front
returns-in-Skipped-clause-front g c =
    let e : number_text c.args.described.now c.args.n c.args.line.now c.args.bytes.now
    ≡ remark_line c.word.result.now c.args.n =
    rw c.in-Skipped.is (ap (λ (word : List ℕ). remark_line word c.args.n) (sym c.word.ensures)) in
    subst (λ (x : List ℕ). OnErr c.put-in-Skipped.result (AppendsFront (g.O.Sink.written c.args.output.now)
    (g.O.Sink.written c.put-in-Skipped.new.self) x)) (sym e) c.put-in-Skipped.ensures.front
