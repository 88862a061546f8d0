use Rattle.std.proofs.Common.{◌≡◌, ◌≤◌, List, [], ◌⊎◌, get_or, length, sym, ap, ◌∙◌, subst, arith}
use Rattle.std.specs.Prelude.{All, Contains}
use Rattle.afdx_conform.specs.declared.limits.LeftFrame.{LeftFrame}
use Rattle.afdx_conform.specs.declared.states.StreamState.{StreamState}
use Rattle.afdx_conform.proofs.EndDueLemmas.{due-end, due-then}
use Rattle.afdx_conform.proofs.EndSoundLemmas.{sound-end}
use Rattle.afdx_conform.proofs.EndingLemmas.{after-end, end-unsure}
use Rattle.afdx_conform.proofs.growth.Growth.end.Goals as goal

pub returns-then-self-clause-after : goal.returns-then-self-clause-after
returns-then-self-clause-after c z xs ys time over until le o f =
    end-unsure z xs ys time over c.args.self.now (omega (arith, until, le)) o f c.if-self.true

pub returns-clause-after : goal.returns-clause-after
returns-clause-after c z xs ys time over until le o f =
    let held = c.as_slice.ensures.value in
    let frames = c.as_slice-2.ensures.value in
    let most = c.max-front.ensures in
    after-end z xs ys time over c.args.self.now (omega (arith, until, le)) o f c.truncate.new.self
    c.known_states.new.held
    c.front_of.result c.kept_until-kept.result _ c.known_states.ensures c.truncate.ensures.items
    (subst (λ (l : List StreamState). ((l ≡ []) × (c.front_of.result ≡ 0))
    ⊎ ((s : StreamState) × Contains l s × (s.passed ≡ c.front_of.result))) held c.front_of.ensures.among)
    (λ k g low lt at.
    let le = c.kept_until-kept.ensures.kept k g (omega (arith, low, most)) lt
    (at ∙ ap (λ (l : List LeftFrame). get_or l k g) (sym frames)) in
    omega (arith, le, until))
    (λ g lt at.
    let size = ap (λ (l : List LeftFrame). length l) frames in
    let cut = c.kept_until-kept.ensures.cut g (omega (arith, lt, size))
    (at ∙ ap (λ (l : List LeftFrame). get_or l c.kept_until-kept.result g) (sym frames)) in
    omega (arith, cut, until))
    (let high = c.kept_until-kept.ensures.high in
    let size = ap (λ (l : List LeftFrame). length l) frames in
    omega (arith, high, size))
    (let size = c.len.ensures in let ok = c.args.self.now.frames.ok in omega (arith, size, ok))

pub returns-clause-due : goal.returns-clause-due
returns-clause-due c =
    let low = c.kept_until-kept.ensures.low in
    let most = c.max-front.ensures in
    due-end c.args.self.now c.truncate.new.self c.known_states.new.held c.kept_until-kept.result _
    c.truncate.ensures.items
    (omega (arith, low, most))

pub returns-clause-due_same : goal.returns-clause-due_same
returns-clause-due_same c z xs ys over until all f =
    let low = c.kept_until-kept.ensures.low in
    let most = c.max-front.ensures in
    let frames = c.as_slice-2.ensures.value in
    due-then c.args.self.now c.truncate.new.self c.known_states.new.held c.kept_until-kept.result _
    c.truncate.ensures.items
    (omega (arith, low, most)) z xs ys over c.args.until c.if-self.false all f
    (λ g lt at. c.kept_until-kept.ensures.cut g
    (let size = ap (λ (l : List LeftFrame). length l) frames in omega (arith, lt, size))
    (at ∙ ap (λ (l : List LeftFrame). get_or l c.kept_until-kept.result g) (sym frames)))

pub returns-clause-sound : goal.returns-clause-sound
returns-clause-sound c =
    let low = c.kept_until-kept.ensures.low in
    let most = c.max-front.ensures in
    let size = ap (λ (l : List LeftFrame). length l) c.as_slice-2.ensures.value in
    let high = c.kept_until-kept.ensures.high in
    sound-end c.args.self.now c.truncate.new.self c.known_states.new.held c.front_of.result c.kept_until-kept.result
    c.len.result
    c.known_states.ensures c.truncate.ensures.items
    (subst (λ (l : List StreamState). All (λ h. h.passed ≤ c.front_of.result) l) c.as_slice.ensures.value
    c.front_of.ensures.greatest)
    (omega (arith, low, most)) (omega (arith, low, most)) (omega (arith, high, size))
    (let n = c.len.ensures in let ok = c.args.self.now.frames.ok in omega (arith, n, ok)) c.requires
