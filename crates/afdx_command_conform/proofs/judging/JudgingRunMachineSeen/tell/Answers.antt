use Rattle.std.proofs.Common.{◌≤◌, ◌∷◌, ℕ, List, arith, inr, refl}
use Rattle.afdx_input_sources.specs.Engine.{item_of}
use Rattle.afdx_input_runs.specs.Joining.{Frame, frame_of, frames_of}
use Rattle.afdx_text.proofs.OutputLemmas.{on-err}
use Rattle.afdx_command_conform.specs.Beginning.{AreFirstLines}
use Rattle.afdx_command_conform.specs.Choices.{latest_of}
use Rattle.afdx_command_conform.specs.Lines.{Due}
use Rattle.afdx_command_conform.specs.Told.{told_by}
use Rattle.afdx_command_conform.proofs.BegunLemmas.{begins-by, none-due-yet, some-first, tells-by, text-front}
use Rattle.afdx_command_conform.proofs.EarlyLemmas.{comes-later, comes-next, stands-begun}
use Rattle.afdx_command_conform.proofs.EndLemmas.{are-few, latest-same}
use Rattle.afdx_command_conform.proofs.judging.JudgingRunMachineSeen.tell.Goals as goal

pub returns-in_err-reach-clause-begins : goal.returns-in_err-reach-clause-begins
returns-in_err-reach-clause-begins g c = λ k start past h.
    let x : Frame = frame_of (item_of c.args.n c.args.seen.now c.args.message.now) in
    let frames = frames_of past in
    let time = c.args.seen.now.heading.time in
    let some = c.requires.told in
    let latest : latest_of frames ≤ time =
    (let a = h.1.works.latest_is in let b = some.3.1.works.latest_is in let d = latest-same some.2 in
    let o = some.4.order in omega (arith, a, b, d, o)) in
    let first : ℕ → List Frame → List Due → Type 0 = λ until all first. AreFirstLines k.0 k.1 until all first in
    on-err c.from_residual.result _ (inr (some-first k (x ∷ frames) start _ h.0 (text-front start _ _ h.2)
    (comes-next first k time x frames h.0 (omega arith)
    (comes-later first k (latest_of frames) time frames h.0 latest
    (stands-begun k frames (latest_of frames) c.args.self.now h.0 (omega arith) h.1.stands)))))

pub returns-in_err-put_due-clause-begins : goal.returns-in_err-put_due-clause-begins
returns-in_err-put_due-clause-begins g c = λ k start past h.
    let x : Frame = frame_of (item_of c.args.n c.args.seen.now c.args.message.now) in
    let frames = frames_of past in
    let time = c.args.seen.now.heading.time in
    let some = c.requires.told in
    let latest : latest_of frames ≤ time =
    (let a = h.1.works.latest_is in let b = some.3.1.works.latest_is in let d = latest-same some.2 in
    let o = some.4.order in omega (arith, a, b, d, o)) in
    let mid = (c.in_ok-reach.ensures.stands k (latest_of frames) frames h.0 latest (omega arith)
    (none-due-yet k (latest_of frames) c.args.self.now frames h.0 c.new-due.ensures.items (h.1.works, h.1.stands))).0 in
    let all = told_by c.reach.new.due.items h.0 in
    on-err c.from_residual-in_err-put_due.result _ (inr (some-first k (x ∷ frames) start _ all
    (begins-by start _ _ h.0 h.2 c.reach.new.due.items c.as_slice.ensures.value c.in_err-put_due.ensures.begun)
    (comes-next (λ until all first. AreFirstLines k.0 k.1 until all first) k time x frames all (omega arith)
    (stands-begun k frames time c.reach.new.self all latest mid.1))))

pub returns-in_err-follow-clause-begins : goal.returns-in_err-follow-clause-begins
returns-in_err-follow-clause-begins g c = λ k start past h.
    let x : Frame = frame_of (item_of c.args.n c.args.seen.now c.args.message.now) in
    let frames = frames_of past in
    let time = c.args.seen.now.heading.time in
    let some = c.requires.told in
    let latest : latest_of frames ≤ time =
    (let a = h.1.works.latest_is in let b = some.3.1.works.latest_is in let d = latest-same some.2 in
    let o = some.4.order in omega (arith, a, b, d, o)) in
    let mid = (c.in_ok-reach.ensures.stands k (latest_of frames) frames h.0 latest (omega arith)
    (none-due-yet k (latest_of frames) c.args.self.now frames h.0 c.new-due.ensures.items (h.1.works, h.1.stands))).0 in
    let all = told_by c.reach.new.due.items h.0 in
    on-err c.from_residual-in_err-follow.result _ (inr (some-first k (x ∷ frames) start _ all
    (text-front start _ _ (tells-by start _ _ h.0 h.2 c.reach.new.due.items c.as_slice.ensures.value
    c.in_ok-put_due.ensures.told))
    (comes-next (λ until all first. AreFirstLines k.0 k.1 until all first) k time x frames all (omega arith)
    (stands-begun k frames time c.reach.new.self all latest mid.1))))

pub returns-clause-told : goal.returns-clause-told
returns-clause-told g c = λ k start past h follows can.
    let frames = frames_of past in
    let time = c.args.seen.now.heading.time in
    let latest : latest_of frames ≤ time = let o = follows.order in let l = latest-same past in omega (arith, o, l) in
    let mid = c.in_ok-reach.ensures.stands k (latest_of frames) frames h.0 latest (omega arith)
    (none-due-yet k (latest_of frames) c.args.self.now frames h.0 c.new-due.ensures.items (h.1.works, h.1.stands)) in
    let all = told_by c.reach.new.due.items h.0 in (
      all,
      c.in_ok-follow.ensures k frames all refl latest (are-few past follows.few) mid.0 mid.1,
      tells-by start _ _ h.0 h.2 c.reach.new.due.items c.as_slice.ensures.value c.in_ok-put_due.ensures.told,
    )
