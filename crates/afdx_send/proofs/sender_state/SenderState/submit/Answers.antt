use Rattle.std.proofs.Common.{◌∙◌, ◌+◌, arith, ap, subst, length, ℕ, OnOk}
use Rattle.afdx_send.specs.Sender.{at, StandsFor, IsTaken, IsRefused, submission, with_submission}
use Rattle.afdx_send.proofs.SubmitLemmas.{none_ready, sound_by, admits_at, refused_at, map_err}
use Rattle.afdx_send.proofs.SubmitLemmas.{map_ok, still_quiet, map_on_err}
use Rattle.afdx_send.proofs.IdleLemmas.{knows_taken}
use Rattle.afdx_send.proofs.sender_state.SenderState.submit.Goals as goal

pub accept-requires-clause-sound : goal.accept-requires-clause-sound
accept-requires-clause-sound c =
    (at c.requires.sound.0 c.args.time, c.prepare.ensures.stands c.requires.sound.0 c.requires.sound.1)

pub accept-requires-clause-idle : goal.accept-requires-clause-idle
accept-requires-clause-idle c =
    let q = c.requires.quiet in
    c.prepare.ensures.idle (none_ready c.prepare.new.self q.0 c.args.time
    (c.prepare.ensures.stands q.0 q.1) c.taken_are_on_schedule.ensures.turns q.2)

pub returns-clause-sound : goal.returns-clause-sound
returns-clause-sound c =
    let h = at c.requires.sound.0 c.args.time in
    let st = c.prepare.ensures.stands c.requires.sound.0 c.requires.sound.1 in
    let m = submission c.prepare.new.self.clock c.args.sub c.args.udp c.args.payload.now in
    sound_by c.accept.result c.accept.new.self h (λ place. IsTaken h place c.args.vl.0 m) m
    (c.accept.ensures.ok h st) (c.accept.ensures.unchanged h st)

pub returns-clause-knows : goal.returns-clause-knows
returns-clause-knows c =
    let same = c.accept.ensures.clock in
    let clock = c.prepare.ensures.clock in
    let limit = c.requires.limit in
    knows_taken c.accept.new.self c.accept.ensures.idle (omega (arith, same, clock, limit))

pub returns-clause-submits : goal.returns-clause-submits
returns-clause-submits c =
    let w = c.prepare.new.self in
    let r = c.accept.result in
    let t = c.args.time in
    let vl = c.args.vl.0 in
    let sub = c.args.sub in
    let n = length c.args.payload.now in
    record {
      ok = λ h st.
          let mid = at h t in
          let ok = subst (λ (u : ℕ).
          OnOk r ((place : ℕ) × IsTaken mid place vl (submission u sub c.args.udp c.args.payload.now)
          × StandsFor c.accept.new.self (with_submission mid place
          (submission u sub c.args.udp c.args.payload.now))))
          c.prepare.ensures.clock (c.accept.ensures.ok mid (c.prepare.ensures.stands h st)) in
          map_ok r _ _ (λ k. (k.0, admits_at h t t k.0 vl sub n k.1, k.2)) ok;
      refused = λ h st.
          map_err r (λ fault. IsRefused (at h t) w.clock vl sub n fault) _
          (λ fault k. refused_at h t t vl sub n fault
          (subst (λ (u : ℕ). IsRefused (at h t) u vl sub n fault) c.prepare.ensures.clock k))
          (c.accept.ensures.refused (at h t) (c.prepare.ensures.stands h st));
      unchanged = λ h st. c.accept.ensures.unchanged (at h t) (c.prepare.ensures.stands h st);
      quiet =
          let h = at c.requires.sound.0 t in
          let st = c.prepare.ensures.stands c.requires.sound.0 c.requires.sound.1 in
          let m = submission w.clock sub c.args.udp c.args.payload.now in
          still_quiet c.accept.new.self t c.due_is_next.ensures.quiet
          (sound_by r c.accept.new.self h (λ place. IsTaken h place vl m) m
          (c.accept.ensures.ok h st) (c.accept.ensures.unchanged h st))
          c.accept.ensures.idle (c.accept.ensures.clock ∙ c.prepare.ensures.clock);
      clock = c.accept.ensures.clock ∙ c.prepare.ensures.clock;
      held = map_ok r _ _ (λ k. k.more ∙ ap (λ (n : ℕ). n + 1) c.prepare.ensures.held) c.accept.ensures.held;
      kept = map_on_err r _ _ (λ k. k.same ∙ c.prepare.ensures.held) c.accept.ensures.kept;
    }
