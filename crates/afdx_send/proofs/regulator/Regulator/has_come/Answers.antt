use Rattle.std.proofs.Common.{arith, ◌<◌, [], ◌∷◌, Some, length, drop, ap, ◌∙◌, refl}
use Rattle.afdx_send.specs.Regulator.{HasQueue, waiting_of}
use Rattle.afdx_send.proofs.RegulatorLemmas.{queue_read, ready_yes, ready_front, ready_none}
use Rattle.afdx_send.proofs.RegulatorLemmas.{front_is, empty_list, leb_yes, leb_true}
use Rattle.afdx_send.proofs.regulator.Regulator.has_come.Goals as goal

pub returns-in-Some : goal.returns-in-Some
returns-in-Some c =
    let q = c.index.result.now in
    let m = c.in-Some.message.now in
    let some = c.in-Some.ensures.variant.0 refl in
    let ok = q.ok.0 in
    let e = front_is q.items m (omega arith) c.in-Some.ensures.lookup in
    let h : HasQueue (waiting_of c.args.self.now) c.args.index (m ∷ drop 1 q.items) =
    queue_read (λ q. q.items) c.args.self.now.queues.items c.args.index q c.requires.place
    c.index.ensures ∙ ap (λ z. Some z) e in (
      λ t. ready_yes (waiting_of c.args.self.now) c.args.time c.args.index m (drop 1 q.items) h
          (leb_yes m.time c.args.time t),
      λ r. leb_true m.time c.args.time
          (ready_front (waiting_of c.args.self.now) c.args.time c.args.index m (drop 1 q.items) h r),
    )

pub returns-in-None : goal.returns-in-None
returns-in-None c =
    let q = c.index.result.now in
    let ok = q.ok.0 in
    let none : (0 < length q.items) → ⊥ = λ lt. (let k = c.in-None.ensures.variant.1 (omega arith) in cc k) in
    let e = empty_list q.items (length q.items) refl (omega (arith, none)) in
    let h : HasQueue (waiting_of c.args.self.now) c.args.index [] =
    queue_read (λ q. q.items) c.args.self.now.queues.items c.args.index q c.requires.place
    c.index.ensures ∙ ap (λ z. Some z) e in
    (λ t. cc t, λ r. absurd (ready_none (waiting_of c.args.self.now) c.args.time c.args.index h r))
