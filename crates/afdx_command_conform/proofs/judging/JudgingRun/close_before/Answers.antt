use Rattle.std.proofs.Common.{◌≡◌, ◌≤◌, Some, sym, ap, ◌∙◌, subst, arith, false, true≢false}
use Rattle.std.specs.Prelude.{is_some}
use Rattle.std.proofs.lemmas.Option.{same_Some}
use Rattle.afdx_command_conform.proofs.AddedLemmas.{on-ok}
use Rattle.afdx_command_conform.proofs.FullLemmas.{not-ended, raised, said-end}
use Rattle.afdx_command_conform.proofs.judging.JudgingRun.close_before.Goals as goal

pub returns-then-is_ended : goal.returns-then-is_ended
returns-then-is_ended c k before frames dues le latest h = (
  h.0,
  raised k frames before c.args.time c.args.self.now _ le
      (λ end none said. absurd (true≢false (sym c.if-is_ended.true ∙ c.is_ended.ensures ∙ ap is_some none))) h.1,
)

pub returns-in_default : goal.returns-in_default
returns-in_default c k before frames dues le latest h = (
  h.0,
  raised k frames before c.args.time c.args.self.now _ le
      (λ end none said. absurd (let bad = sym c.in_default.is ∙ ap (λ x. x.until) h.0.choices_are ∙ said in cc bad))
      h.1,
)

pub returns-else-until-time : goal.returns-else-until-time
returns-else-until-time c k before frames dues le latest h = (
  h.0,
  raised k frames before c.args.time c.args.self.now _ le
      (λ end none said. let same = same_Some c.in-Some.until end (sym c.in-Some.is ∙ ap (λ x. x.until) h.0.choices_are
      ∙ said) in
      let test = c.if-until-time.false in subst (λ n. c.args.time ≤ n) same (omega (arith, test))) h.1,
)

pub returns-then-until-time : goal.returns-then-until-time
returns-then-until-time c k before frames dues le latest h =
    let said : k.1.until ≡ Some c.in-Some.until = sym (sym c.in-Some.is ∙ ap (λ x. x.until) h.0.choices_are) in
    let none = not-ended c.args.self.now.streams.ended (sym c.is_ended.ensures ∙ c.if-is_ended.false) in
    let test = c.if-until-time.true in
    let in-time = h.1.running c.in-Some.until none said in
    on-ok (λ r. r.0) c.close.result
    (c.close.ensures k false before c.args.time frames dues in-time (omega (arith, test))
    (omega (arith, latest, in-time))
    (said-end k.1.until frames c.in-Some.until said)
    (λ end is. let same = same_Some c.in-Some.until end (sym said ∙ is) in subst (λ n. c.in-Some.until ≤ n) same
    (omega arith))
    (said, test) none h)
