use Rattle.std.proofs.Common.{sym, refl, arith}
use Rattle.afdx_config.specs.Reading.{listener_at}
use Rattle.afdx_end_systems.specs.Handovers.{handed_over, came_to}
use Rattle.afdx_end_systems.proofs.SystemsLemmas.{before_at, is_at, stand_after, answered_is, none_answered}
use Rattle.afdx_end_systems.proofs.SystemsLemmas.{stand_still}
use Rattle.afdx_end_systems.proofs.systems.Systems.receive.Goals as goal

pub returns-then-place-len-clause-answer : goal.returns-then-place-len-clause-answer
returns-then-place-len-clause-answer c = λ rows before stands.
    let d = handed_over c.args.handover in
    let are = before_at rows c.args.self.now before d c.from-place.result c.index_mut.result.now
    stands c.from-place.ensures (omega arith) c.index_mut.ensures.value in
    answered_is rows before d _
    (c.receive_at.ensures.answer rows (came_to d.port before) (listener_at rows d.port)
    (is_at _ _ _ _ _ _ are))

pub returns-then-place-len-clause-stands : goal.returns-then-place-len-clause-stands
returns-then-place-len-clause-stands c = λ rows before stands.
    let d = handed_over c.args.handover in
    let are = before_at rows c.args.self.now before d c.from-place.result c.index_mut.result.now
    stands c.from-place.ensures (omega arith) c.index_mut.ensures.value in
    stand_after _ _ _ _ _ _ are _ c.receive_at.new.at refl
    (c.receive_at.ensures.stands rows (came_to d.port before)
    (listener_at rows d.port) (is_at _ _ _ _ _ _ are))

pub returns-else-place-len-clause-answer : goal.returns-else-place-len-clause-answer
returns-else-place-len-clause-answer c = λ rows before stands.
    sym (none_answered rows c.args.self.now before (handed_over c.args.handover) c.from-place.result
    stands c.from-place.ensures (omega arith))

pub returns-else-place-len-clause-stands : goal.returns-else-place-len-clause-stands
returns-else-place-len-clause-stands c =
    λ rows before stands. stand_still rows c.args.self.now before (handed_over c.args.handover)
    c.from-place.result stands c.from-place.ensures (omega arith)
