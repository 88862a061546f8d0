use Rattle.std.proofs.Common.{Global, ◌≡◌, ◌<◌, Some, List, length, set, sym, ap, ◌∙◌, subst, Vec}
use Rattle.std.specs.Prelude.{Ok}
use Rattle.std.specs.declared.alloc.AllocError.{AllocError}
use Rattle.afdx_command_conform.specs.Awaited.{Awaits}
use Rattle.afdx_command_conform.specs.Keeping.{KeyStands, kept_with, slot_at}
use Rattle.afdx_command_conform.specs.Lines.{of_key}
use Rattle.afdx_command_conform.specs.Waiting.{slot_due}
use Rattle.afdx_command_conform.specs.declared.agenda.AgendaEntry.{AgendaEntry}
use Rattle.afdx_command_conform.specs.declared.key.Key.{Key}
use Rattle.afdx_command_conform.specs.declared.kept.KeptByKey.{KeptByKey}
use Rattle.afdx_command_conform.specs.declared.slot.Slot.{Slot}
use Rattle.afdx_text.specs.declared.conform_line.ConformLine.{ConformLine}
use Rattle.afdx_command_conform.proofs.AddedLemmas.{read-there}
use Rattle.afdx_command_conform.proofs.KeptLemmas.{first-known, kept-stepped, read-set}
use Rattle.afdx_command_conform.proofs.StepLemmas.{key-stepped}
use Rattle.afdx_command_conform.proofs.WaitingLemmas.{left-less}
use Rattle.afdx_command_conform.proofs.kept.KeptByKey.step.Goals as goal

pub returns-clause-told : goal.returns-clause-told
returns-clause-told c t c' until time given lines whole lawful small moved first lt kept =
    let entry : AgendaEntry = c.args.entry.now in
    let key : Key = entry.key in
    let slots : List Slot = c.args.self.now.slots.items in
    let old : KeptByKey = kept_with c.args.self.now.slots whole in
    let known = first-known t c' until c.args.ended time given entry whole c.args.self.now.agenda moved kept.known in
    let there : c.index_mut.result.now ≡ slot_at slots key = read-there slots key c.place-place.result
    c.index_mut.result.now
    c.place-place.ensures c.requires.within c.index_mut.ensures.value in
    let due : slot_due c.index_mut.result.now ≡ Some entry.moment = ap slot_due there ∙ c.requires.due in
    let next = key-stepped t c' until time key (given key) (of_key key lines) entry.moment c.index_mut.result.now
    c.step.new.at
    {E = AllocError} (λ (v : Vec ConformLine Global). v.items) (Ok c.in_ok-lines.lines) c.args.ended known
    (kept.falling key)
    c.in_ok-lines.ensures.stands c.in_ok-lines.ensures.ends c.in_ok-lines.ensures.strangers
    c.in_ok-lines.ensures.later due lt
    (subst (λ s. KeyStands t c' until c.args.ended time key (given key) (of_key key lines) s) (sym there)
    (kept.stand key known)) in
    let within : c.place-place.result < length slots = subst (λ n. n < length slots) (sym c.place-place.ensures)
    c.requires.within in
    let due-is : c.due-due.result ≡ slot_due c.step.new.at = c.due-due.ensures
    ∙ ap slot_due (read-set slots c.place-place.result c.index.result.now c.step.new.at within c.index.ensures) in
    kept-stepped t c' until c.args.ended time given lawful lines old _ entry c.args.self.now.agenda c.step.new.at
    c.in_ok-lines.lines.items small kept moved first c.requires.due lt next.0 next.1
    (ap (λ n. set slots n c.step.new.at) c.place-place.ensures)
    (subst (λ d. Awaits d key c.args.self.now.agenda c.await_due.new.agenda) due-is c.in_ok-await_due.ensures)

pub returns-clause-less : goal.returns-clause-less
returns-clause-less c =
    let slots : List Slot = c.args.self.now.slots.items in
    let there : c.index_mut.result.now ≡ slot_at slots c.args.entry.now.key = read-there slots c.args.entry.now.key
    c.place-place.result
    c.index_mut.result.now c.place-place.ensures c.requires.within c.index_mut.ensures.value in
    left-less slots c.place-place.result c.index_mut.result.now c.step.new.at
    (subst (λ n. n < length slots) (sym c.place-place.ensures) c.requires.within)
    (rw (← c.index_mut.ensures.value) (c.in_ok-lines.ensures.less c.args.entry.now.moment (ap slot_due there
    ∙ c.requires.due)))
