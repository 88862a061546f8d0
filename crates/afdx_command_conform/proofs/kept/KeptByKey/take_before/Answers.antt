use Rattle.std.proofs.Common.{◌≡◌, ◌∷◌, List, false, true, true≢false, refl, sym, ap, ◌∙◌, subst, arith}
use Rattle.std.proofs.lemmas.List.Elements.{All-contains}
use Rattle.std.proofs.lemmas.List.Sorted.{All-permutation}
use Rattle.afdx_command_conform.specs.Awaited.{awaited, is_before}
use Rattle.afdx_command_conform.specs.Keeping.{AreKept, kept_with, slot_at}
use Rattle.afdx_command_conform.specs.Keys.{IsKey}
use Rattle.afdx_command_conform.specs.Waiting.{slot_due}
use Rattle.afdx_command_conform.specs.declared.slot.Slot.{Slot}
use Rattle.afdx_command_conform.proofs.KeptLemmas.{in-time, kept-stale}
use Rattle.afdx_command_conform.proofs.kept.KeptByKey.take_before.Goals as goal

pub loop-entry-preserved : goal.loop-entry-preserved
loop-entry-preserved c = record {
  slots = c.loop-entry.invariant.slots;
  kept = λ t c' until ended time given lines k.
      kept-stale t c' until ended time given lines c.loop-entry.self _ c.in-Some.entry
      (c.loop-entry.invariant.kept t c' until ended time given lines k) c.in-Some.ensures.rest
      (λ is. true≢false (sym (c.is_due.ensures.due.1
      (ap (λ (l : List Slot). slot_due (slot_at l c.in-Some.entry.key)) c.as_slice.ensures.value ∙ is))
      ∙ c.if-is_due.false)) refl;
}

pub returns-then-is_due-clause-told : goal.returns-then-is_due-clause-told
returns-then-is_due-clause-told c t c' until time given lines lawful up kept =
    c.in_ok-lines.ensures.told t c' until time given lines c.loop-entry.self.agenda lawful
    (All-permutation (λ e. IsKey e.key) c.loop-entry.self.agenda (c.in-Some.entry ∷ c.take_before.new.self)
    c.in-Some.ensures.rest
    c.in-Some.ensures.keys 0 c.in-Some.entry (omega arith))
    c.in-Some.ensures.rest c.in-Some.ensures.first
    (λ none. in-time time c.args.before c.in-Some.entry (up none) c.in-Some.ensures.in_time)
    (c.loop-entry.invariant.kept t c' until c.args.ended time given lines kept)

pub returns-clause-none : goal.returns-clause-none
returns-clause-none c t c' until time given lines kept =
    let now = c.loop-entry.invariant.kept t c' until c.args.ended time given lines kept in (
      subst (λ l. AreKept t c' until c.args.ended time given lines (kept_with c.loop-entry.self.slots l))
          (sym c.in_default.ensures.same) now,
      λ k m known is. All-contains (λ x. is_before c.args.before x ≡ false) c.loop-entry.self.agenda (awaited m k)
          c.in_default.ensures.none (now.on_agenda k m known is),
    )

pub returns-then-is_due-clause-in_time : goal.returns-then-is_due-clause-in_time
returns-then-is_due-clause-in_time c =
    subst (λ e. is_before c.args.before e ≡ true) (sym c.in_ok-lines.ensures.of) c.in-Some.ensures.in_time
