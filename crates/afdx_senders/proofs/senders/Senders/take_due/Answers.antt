use Rattle.std.proofs.Common.{List, false, true≢false, sym, ◌∙◌, ◌≡◌, subst}
use Rattle.std.proofs.lemmas.List.Elements.{All-contains}
use Rattle.afdx_senders.specs.Awaited.{awaited}
use Rattle.afdx_senders.specs.Order.{is_moment_before}
use Rattle.afdx_senders.specs.declared.agenda.DueSource.{DueSource}
use Rattle.afdx_senders.proofs.StandingLemmas.{AllAwaited, others_awaited, stale_awaited}
use Rattle.afdx_senders.proofs.senders.Senders.take_due.Goals as goal

pub returns-then-is_moment-clause-due : goal.returns-then-is_moment-clause-due
returns-then-is_moment-clause-due c at stand =
    let s = c.loop-entry.invariant.stand at stand in
    let e = c.in-Some.entry in (
      (
        e.moment,
        sym (c.due.ensures at s.followed) ∙ c.is_moment.ensures.0 c.if-is_moment.true,
        c.in-Some.ensures.in_time,
      ),
      record {
        followed = s.followed;
        agenda = others_awaited at e c.loop-entry.self.agenda c.take_before.new.self c.in-Some.ensures.rest s.agenda;
      },
    )

pub loop-entry-preserved : goal.loop-entry-preserved
loop-entry-preserved c = record {
  found = c.loop-entry.invariant.found;
  kept = c.loop-entry.invariant.kept;
  sites = c.loop-entry.invariant.sites;
  stand = λ at stand.
      let s = c.loop-entry.invariant.stand at stand in record {
        followed = s.followed;
        agenda = stale_awaited at c.in-Some.entry c.loop-entry.self.agenda c.take_before.new.self
            c.in-Some.ensures.rest s.agenda (λ is. true≢false (sym (c.is_moment.ensures.1
            (c.due.ensures at s.followed ∙ is)) ∙ c.if-is_moment.false));
      };
}

pub returns-clause-none : goal.returns-clause-none
returns-clause-none c at stand =
    let s = c.loop-entry.invariant.stand at stand in (
      record {
        followed = s.followed;
        agenda = subst (λ (l : List DueSource). AllAwaited at l) (sym c.in_default.ensures.same) s.agenda;
      },
      λ place m due. All-contains (λ x. is_moment_before c.args.before x.moment ≡ false) c.loop-entry.self.agenda
          (awaited m place) c.in_default.ensures.none (s.agenda place m due),
    )
