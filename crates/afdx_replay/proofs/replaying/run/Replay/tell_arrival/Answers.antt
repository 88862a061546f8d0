use Rattle.std.proofs.Common.{arith, ◌∙◌, [], ◌∷◌, List, length, subst, ap, inl, inr}
use Rattle.afdx_frame.specs.Seals.{whole}
use Rattle.afdx_police.specs.Arrival.{Arrival, arrival_with}
use Rattle.afdx_network.specs.Events.{Came, admission_after, arrivals_in}
use Rattle.afdx_network.specs.Network as network
use Rattle.afdx_switch.specs.Verdicts.{reason_of}
use Rattle.afdx_replay.specs.replaying.Replayed.{WritesSome}
use Rattle.afdx_replay.proofs.ReplayLemmas.{lines-told, told-came, told-some, begun-came, room-came, room-less, room-low}
use Rattle.afdx_text.proofs.OutputLemmas.{on-err}
use Rattle.afdx_replay.proofs.replaying.run.Replay.tell_arrival.Goals as goal

pub tell_verdict-requires-clause-low : goal.tell_verdict-requires-clause-low
tell_verdict-requires-clause-low g c =
    let n = c.requires.room in
    room-low _ (network.frames_held c.tell_departures.new.self.network) n.0 (omega (arith, n.1))
    (c.in_ok-tell_departures.ensures.room n.0 n.2)

pub returns-clause-room : goal.returns-clause-room
returns-clause-room g c m h =
    room-less _ _ _ _ c.arrive.ensures.held
    (room-came _ _ _ _ (network.frames_held c.tell_departures.new.self.network) m
    c.in_ok-reason.ensures.few c.in_ok-reason.ensures.counted (c.in_ok-tell_departures.ensures.room m h))

pub returns-clause-told : goal.returns-clause-told
returns-clause-told g c t start past h =
    let k = c.in_ok-tell_departures.ensures.told t h.events start h.told in
    let x = arrival_with c.args.n c.args.heading.now.time c.args.heading.now.side
    c.args.heading.now.port (whole c.args.heading.now.seal c.args.message.now) in
    let a = admission_after t (arrivals_in k.0) x in
    let v = rw c.frame-frame.ensures at (c.in_ok-verdict.ensures.verdict t k.0 k.2.switches_are) in
    record {
      events = Came a ∷ k.0;
      arrivals_are = ap (λ (p : List Arrival). x ∷ p) (k.1 ∙ h.arrivals_are);
      at_arrival = tt;
      told = told-came t _ _ _ _ _ start _ _ k.0 a (network.reason_in c.in_ok-verdict.verdict)
          (length (network.lost_in c.in_ok-verdict.verdict)) _ k.2
          (rw c.frame-frame.ensures at (c.in_ok-verdict.ensures.stands t k.0 k.2.switches_are))
          v.reason (ap length v.lost) c.in_ok-reason.ensures.counted
          (lines-told [] c.in_ok-verdict.verdict a v) (rw c.on.ensures at c.in_ok-reason.ensures.lines);
    }

pub returns-in_err-verdict-clause-some : goal.returns-in_err-verdict-clause-some
returns-in_err-verdict-clause-some g c t start past h =
    let k = c.in_ok-tell_departures.ensures.told t h.events start h.told in
    on-err c.from_residual-in_err-verdict.result _
    (inl (subst (λ (p : List Arrival).
    WritesSome t start (g.O.Sink.written c.tell_departures.new.output) p)
    (k.1 ∙ h.arrivals_are) (told-some t _ _ _ start _ k.0 k.2)))

pub returns-in_err-reason-clause-some : goal.returns-in_err-reason-clause-some
returns-in_err-reason-clause-some g c t start past h =
    let k = c.in_ok-tell_departures.ensures.told t h.events start h.told in
    let x = arrival_with c.args.n c.args.heading.now.time c.args.heading.now.side
    c.args.heading.now.port (whole c.args.heading.now.seal c.args.message.now) in
    let a = admission_after t (arrivals_in k.0) x in
    let v = rw c.frame-frame.ensures at (c.in_ok-verdict.ensures.verdict t k.0 k.2.switches_are) in
    on-err c.from_residual-in_err-reason.result _
    (inr (subst (λ (p : List Arrival).
    WritesSome t start (g.O.Sink.written c.tell_verdict.new.output) (x ∷ p))
    (k.1 ∙ h.arrivals_are)
    (begun-came t _ _ _ _ start _ _ k.0 a _ k.2
    (rw c.frame-frame.ensures at (c.in_ok-verdict.ensures.stands t k.0 k.2.switches_are))
    (lines-told [] c.in_ok-verdict.verdict a v) (rw c.on.ensures at c.in_err-reason.ensures.front))))

pub returns-clause-reason : goal.returns-clause-reason
returns-clause-reason g c t start past h =
    let k = c.in_ok-tell_departures.ensures.told t h.events start h.told in
    let x = arrival_with c.args.n c.args.heading.now.time c.args.heading.now.side
    c.args.heading.now.port (whole c.args.heading.now.seal c.args.message.now) in
    let v = rw c.frame-frame.ensures at (c.in_ok-verdict.ensures.verdict t k.0 k.2.switches_are) in
    c.in_ok-reason.ensures.reason ∙ v.reason
    ∙ ap (λ (p : List Arrival). reason_of t p x) (k.1 ∙ h.arrivals_are)
