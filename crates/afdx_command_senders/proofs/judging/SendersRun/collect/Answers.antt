use Rattle.std.proofs.Common.{◌++◌, refl, sym, ap, ◌∙◌, subst}
use Rattle.std.specs.Prelude.{is_some}
use Rattle.afdx_senders.specs.History.{TellsNext}
use Rattle.afdx_senders.specs.Lines.{line_of}
use Rattle.afdx_command_senders.specs.SenderRun.{TellsSome, told_in}
use Rattle.afdx_command_senders.proofs.BatchLemmas.{in-more}
use Rattle.afdx_command_senders.proofs.SenderRunLemmas.{as-soon}
use Rattle.afdx_command_senders.proofs.judging.SendersRun.collect.Goals as goal

pub loop-due-init : goal.loop-due-init
loop-due-init c = record {
  others = record { tables = refl; asked = refl; latest = refl; findings = refl; left_out = refl };
  told = subst (λ l. TellsSome c.args.before c.args.end c.args.self.now.senders c.args.self.now.senders (told_in l))
      (sym c.new-due.ensures.items) (λ z by xs told h soon end. (by, soon, h));
}

pub loop-due-preserved : goal.loop-due-preserved
loop-due-preserved c =
    let old = c.loop-due.invariant.told in
    let more = told_in c.loop-due.due.items in
    let x = line_of c.in-Some.line in record {
      others = record {
        tables = c.loop-due.invariant.others.tables;
        asked = c.loop-due.invariant.others.asked;
        latest = c.loop-due.invariant.others.latest;
        findings = c.loop-due.invariant.others.findings;
        left_out = c.loop-due.invariant.others.left_out;
      };
      told = subst (λ l. TellsSome c.args.before c.args.end c.args.self.now.senders c.next.new.self l)
          (sym (in-more c.loop-due.due.items c.in-Some.line)
          ∙ ap (λ l. told_in l) (sym c.in_ok-push.ensures.items))
          (λ z by xs told h soon end.
          let s = old z by xs told h soon end in
          let next = subst (λ o. TellsNext z c.args.before xs (more ++ told) c.next.new.self o) c.in-Some.is
          (c.in_ok-line.ensures.told z s.0 xs (more ++ told) s.2 s.1 end) in (
            c.args.before,
            as-soon c.args.before,
            next.1,
          ));
    }

pub loop-due-smaller : goal.loop-due-smaller
loop-due-smaller c =
    let may = c.requires in
    let s = c.loop-due.invariant.told may.0 may.1 may.2 may.3 may.4 may.5 may.6 in
    c.in_ok-line.ensures.less may.0 s.0 may.2 (told_in c.loop-due.due.items ++ may.3) s.2 s.1 may.6
    (ap (λ o. is_some o) c.in-Some.is)

pub returns-clause-told : goal.returns-clause-told
returns-clause-told c = λ z by xs told h soon end.
    let more = told_in c.loop-due.due.items in
    let s = c.loop-due.invariant.told z by xs told h soon end in
    let last = subst (λ o. TellsNext z c.args.before xs (more ++ told) c.next.new.self o) c.in_default.is
    (c.in_ok-line.ensures.told z s.0 xs (more ++ told) s.2 s.1 end) in
    (last.1, last.0)
