use Rattle.std.proofs.Common.{◌≡◌, ◌≤◌, None, Some, sym, ap, ◌∙◌, subst, arith, true}
use Rattle.std.specs.Prelude.{is_some}
use Rattle.std.proofs.lemmas.Option.{same_Some}
use Rattle.afdx_command_conform.specs.Choices.{latest_of, until_or}
use Rattle.afdx_command_conform.proofs.AddedLemmas.{on-ok}
use Rattle.afdx_command_conform.proofs.FullLemmas.{none-end, not-ended, said-end, stands-last}
use Rattle.afdx_command_conform.proofs.judging.JudgingRun.close_at_end.Goals as goal

pub returns-then-is_ended : goal.returns-then-is_ended
returns-then-is_ended c k frames dues h = (
  latest_of frames,
  (h.0, stands-last k frames (latest_of frames) c.args.self.now _ h.1),
  sym c.is_ended.ensures ∙ c.if-is_ended.true,
)

pub returns-in-Some : goal.returns-in-Some
returns-in-Some c k frames dues h =
    let said : k.1.until ≡ Some c.in-Some.until = sym (sym c.in-Some.is ∙ ap (λ x. x.until) h.0.choices_are) in
    let none = not-ended c.args.self.now.streams.ended (sym c.is_ended.ensures ∙ c.if-is_ended.false) in
    let in-time = h.1.running c.in-Some.until none said in
    on-ok (λ r. (c.in-Some.until, r.0, ap is_some r.1)) c.close.result
    (c.close.ensures k true (latest_of frames) c.in-Some.until frames dues in-time (omega arith) in-time
    (said-end k.1.until frames c.in-Some.until said)
    (λ end is. let same = same_Some c.in-Some.until end (sym said ∙ is) in subst (λ n. c.in-Some.until ≤ n) same
    (omega arith))
    (sym (ap (λ o. until_or o frames) said)) none h)

pub returns-in-None : goal.returns-in-None
returns-in-None c k frames dues h =
    let said : k.1.until ≡ None = sym (sym c.in-None.is ∙ ap (λ x. x.until) h.0.choices_are) in
    let none = not-ended c.args.self.now.streams.ended (sym c.is_ended.ensures ∙ c.if-is_ended.false) in
    let last = h.0.latest_is in
    on-ok (λ r. (c.args.self.now.latest, r.0, ap is_some r.1)) c.close-in-None.result
    (c.close-in-None.ensures k true (latest_of frames) c.args.self.now.latest frames dues
    (omega (arith, last)) (omega arith)
    (omega (arith, last))
    (none-end k.1.until frames c.args.self.now.latest said (omega (arith, last)))
    (λ end is. absurd (let bad = sym said ∙ is in cc bad))
    (last ∙ sym (ap (λ o. until_or o frames) said)) none h)
