use Rattle.std.proofs.Common.{arith, ◌≡◌, ℕ, ◌+◌, ◌<◌, ◌⊎◌, inl, inr, refl, sym, subst, ◌∙◌}
use Rattle.afdx_send.specs.Releases.{turn}
use Rattle.afdx_send.specs.Regulator.{IsReady, waiting_of, sub_count}
use Rattle.afdx_send.proofs.RegulatorLemmas.{turn_of, turn_same, turn_most, ready_place, due_ready}
use Rattle.afdx_send.proofs.regulator.Regulator.next_in_turn.Goals as goal
use Rattle.afdx_send.proofs.regulator.Regulator.next_in_turn.Goals.{then-turn-count, else-turn-count}

pub returns-then-has_come : goal.returns-then-has_come
returns-then-has_come c =
    let ok = c.args.self.now.queues.ok.0 in
    let count = c.len-count.ensures in
    let at : (c.if-turn-count.index ≡ c.args.self.now.served + c.loop-step.step)
    ⊎ (c.if-turn-count.index + sub_count c.args.self.now
    ≡ c.args.self.now.served + c.loop-step.step) =
    elim c.if-turn-count.branch [
      | then-turn-count w ↦ inl w.index-is
      | else-turn-count w ↦ inr (omega (arith, w.index-is, w.if-turn-count))
    ] in
    let below : c.if-turn-count.index < sub_count c.args.self.now =
    elim c.if-turn-count.branch [
      | then-turn-count w ↦ omega (arith, w.index-is, w.if-turn-count)
      | else-turn-count w ↦ omega (arith, w.index-is, w.if-turn-count)
    ] in
    let mine = turn_of (sub_count c.args.self.now) c.args.self.now.served c.loop-step.step
    c.if-turn-count.index (omega arith) c.args.self.now.within at below in
    record {
      chosen = record {
        ready = c.if-has_come.ensures.0 refl;
        in_turn = λ other r. (let lt = c.loop-step.invariant other r in omega arith);
      };
    }

pub loop-step-preserved : goal.loop-step-preserved
loop-step-preserved c = λ other r.
    let ok = c.args.self.now.queues.ok.0 in
    let count = c.len-count.ensures in
    let at : (c.if-turn-count.index ≡ c.args.self.now.served + c.loop-step.step)
    ⊎ (c.if-turn-count.index + sub_count c.args.self.now
    ≡ c.args.self.now.served + c.loop-step.step) =
    elim c.if-turn-count.branch [
      | then-turn-count w ↦ inl w.index-is
      | else-turn-count w ↦ inr (omega (arith, w.index-is, w.if-turn-count))
    ] in
    let below : c.if-turn-count.index < sub_count c.args.self.now =
    elim c.if-turn-count.branch [
      | then-turn-count w ↦ omega (arith, w.index-is, w.if-turn-count)
      | else-turn-count w ↦ omega (arith, w.index-is, w.if-turn-count)
    ] in
    let mine = turn_of (sub_count c.args.self.now) c.args.self.now.served c.loop-step.step
    c.if-turn-count.index (omega arith) c.args.self.now.within at below in
    let lt = c.loop-step.invariant other r in
    let within = ready_place (λ q. q.items) c.args.self.now.queues.items c.args.time other r in
    let P : ℕ → Type 0 = λ i. IsReady (waiting_of c.args.self.now) c.args.time i in
    let ne : turn (sub_count c.args.self.now) c.args.self.now.served (other + 1) ≡ c.loop-step.step + 1 → ⊥ =
    λ e. (let same = turn_same (sub_count c.args.self.now) c.args.self.now.served other
    c.if-turn-count.index c.args.self.now.within within below (e ∙ sym mine) in
    let k = c.if-has_come.ensures.1 (subst P same r) in cc k) in
    omega (arith, ne)

pub unreachable-requires : goal.unreachable-requires
unreachable-requires c =
    let r = due_ready c.args.self.now c.args.time c.requires.due in
    let lt = c.loop-step.invariant r.0 r.1 in
    let ok = c.args.self.now.queues.ok.0 in
    let within = ready_place (λ q. q.items) c.args.self.now.queues.items c.args.time r.0 r.1 in
    let most = turn_most (sub_count c.args.self.now) c.args.self.now.served r.0 c.args.self.now.within within in
    omega (arith, c.loop-step-test.false, c.len-count.ensures)
