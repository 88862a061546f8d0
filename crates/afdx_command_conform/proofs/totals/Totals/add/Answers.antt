use Rattle.std.proofs.Common.{◌≡◌, ℕ, None, true, false, refl, sym, ap, ◌∙◌, subst}
use Rattle.std.specs.Prelude.{is_some}
use Rattle.afdx_conform.specs.Findings.{Judged}
use Rattle.afdx_conform.specs.Histories.{counts_of, unsure_in}
use Rattle.afdx_conform.specs.Standing.{IsEnding, due_of}
use Rattle.afdx_conform.specs.declared.counts.Counts.{Counts}
use Rattle.afdx_command_conform.specs.Counting.{idle_if}
use Rattle.afdx_command_conform.specs.Lines.{judged_dues}
use Rattle.afdx_command_conform.specs.Slots.{StreamEnds, has_line}
use Rattle.afdx_command_conform.specs.Waiting.{slot_due}
use Rattle.afdx_command_conform.proofs.CountingLemmas.{has-other, has-stream, told-is, unsure-behind}
use Rattle.afdx_command_conform.proofs.SlotLemmas.{or-none, or-some}
use Rattle.afdx_command_conform.proofs.totals.Totals.add.Goals as goal

pub returns-then-is_some-clause-counted : goal.returns-then-is_some-clause-counted
unfolding StreamEnds slot_due
returns-then-is_some-clause-counted c n z k xs ys lines due ends has =
    let there = subst (λ v. StreamEnds z k xs ys lines v) c.in-Stream.is ends in
    let none : due_of c.deref.result.now ≡ None = ap due_of c.deref.ensures ∙ sym (ap slot_due c.in-Stream.is) ∙ due in
    let ending = subst (λ v. IsEnding z xs ys there.0 v) (sym c.deref.ensures) there.1 in
    let again = subst (λ v. IsEnding z xs ys there.0 v) (sym c.deref-in-Stream.ensures) there.1 in
    let judged = c.counts-counts.ensures.judged z xs ys there.0 none ending in
    let counted = c.counts-counts.ensures.counted z xs ys there.0 none ending in
    let told = there.3 ∙ ap has_line there.2 ∙ ap (λ (j : Judged). has_line (judged_dues z k j)) judged
    ∙ told-is z k xs ys in
    let unsure = sym (unsure-behind z xs ys)
    ∙ ap (λ (j : Judged). is_some (unsure_in j)) (sym judged)
    ∙ ap (λ o. is_some o) (sym (c.unsure_behind.ensures.ends z xs ys there.0 again)) ∙ sym c.is_some.ensures
    ∙ c.if-is_some.true in
    has-stream n z xs ys c.counts-counts.result c.args.self.now _ true c.idle_if-idle.result has counted unsure
    (c.idle_if-idle.ensures ∙ ap (λ (m : Counts). idle_if m.explained c.in-Stream.is_told) counted
    ∙ ap (λ b. idle_if (counts_of z xs ys).explained b) told)
    c.saturating_add-self-in-Stream-3.ensures
    c.saturating_add-self.ensures c.saturating_add-self-in-Stream.ensures c.saturating_add-self-in-Stream-2.ensures
    (sym (or-some c.args.self.now.is_unsure))

pub returns-else-is_some-clause-counted : goal.returns-else-is_some-clause-counted
unfolding StreamEnds slot_due
returns-else-is_some-clause-counted c n z k xs ys lines due ends has =
    let there = subst (λ v. StreamEnds z k xs ys lines v) c.in-Stream.is ends in
    let none : due_of c.deref.result.now ≡ None = ap due_of c.deref.ensures ∙ sym (ap slot_due c.in-Stream.is) ∙ due in
    let ending = subst (λ v. IsEnding z xs ys there.0 v) (sym c.deref.ensures) there.1 in
    let again = subst (λ v. IsEnding z xs ys there.0 v) (sym c.deref-in-Stream.ensures) there.1 in
    let judged = c.counts-counts.ensures.judged z xs ys there.0 none ending in
    let counted = c.counts-counts.ensures.counted z xs ys there.0 none ending in
    let told = there.3 ∙ ap has_line there.2 ∙ ap (λ (j : Judged). has_line (judged_dues z k j)) judged
    ∙ told-is z k xs ys in
    let unsure = sym (unsure-behind z xs ys)
    ∙ ap (λ (j : Judged). is_some (unsure_in j)) (sym judged)
    ∙ ap (λ o. is_some o) (sym (c.unsure_behind.ensures.ends z xs ys there.0 again)) ∙ sym c.is_some.ensures
    ∙ c.if-is_some.false in
    has-stream n z xs ys c.counts-counts.result c.args.self.now _ false c.idle_if-idle.result has counted unsure
    (c.idle_if-idle.ensures ∙ ap (λ (m : Counts). idle_if m.explained c.in-Stream.is_told) counted
    ∙ ap (λ b. idle_if (counts_of z xs ys).explained b) told)
    c.saturating_add-self-in-Stream-3.ensures
    c.saturating_add-self.ensures c.saturating_add-self-in-Stream.ensures c.saturating_add-self-in-Stream-2.ensures
    (sym (or-none c.args.self.now.is_unsure))

pub returns-in_default : goal.returns-in_default
returns-in_default c = record {
  findings = refl;
  left_out = refl;
  unseen = refl;
  exercised = refl;
  counted = λ n z k xs ys lines due ends has. has-other n z k xs ys lines c.args.slot.now c.args.self.now _
      c.in_default.not-Stream ends has
      (ap (λ (n : ℕ). record c.args.self.now { idle = n }) c.saturating_add-self-in_default.ensures);
}
