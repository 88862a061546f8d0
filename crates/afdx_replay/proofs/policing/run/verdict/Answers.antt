use Rattle.std.proofs.Common.{◌≤◌, sym, subst}
use Rattle.afdx_frame.specs.Seals.{whole}
use Rattle.afdx_police.specs.Arrival.{own}
use Rattle.afdx_police.specs.LinkAccounts.{StandsForOwn, last_time}
use Rattle.afdx_police.specs.declared.account.LinkAccount.{LinkAccount}
use Rattle.afdx_replay.proofs.AccountLemmas.{until-on, until-with, seen-on, seen-with}
use Rattle.afdx_replay.proofs.policing.run.verdict.Goals as goal

pub police-requires : goal.police-requires
police-requires c = record {
  in_time = subst (λ (held : LinkAccount). last_time held ≤ c.args.heading.now.time)
      (sym c.get_mut.ensures.value)
      (until-on c.args.accounts.now c.args.heading.now.time c.requires.until c.args.heading.now.side);
}

pub returns-clause-until : goal.returns-clause-until
returns-clause-until c =
    until-with c.args.accounts.now c.args.heading.now.time c.requires.until c.args.heading.now.side
    c.police.new.self c.police.ensures.time

pub returns-clause-answer : goal.returns-clause-answer
returns-clause-answer c rule past tag seen =
    let side = c.args.heading.now.side in
    rw c.frame.ensures at (c.police.ensures.verdict rule past tag side
    (subst (λ (held : LinkAccount). StandsForOwn rule held (own rule.vl side past)) (sym c.get_mut.ensures.value)
    (seen-on c.args.accounts.now rule past seen side)))

pub returns-clause-seen : goal.returns-clause-seen
returns-clause-seen c rule past tag seen =
    let side = c.args.heading.now.side in
    seen-with c.args.accounts.now rule past seen
    tag c.args.heading.now.time side c.args.heading.now.port
    (whole c.args.heading.now.seal c.args.message.now) c.police.new.self
    (rw c.frame.ensures at (c.police.ensures.stands_in rule past tag side
    (subst (λ (held : LinkAccount). StandsForOwn rule held (own rule.vl side past)) (sym c.get_mut.ensures.value)
    (seen-on c.args.accounts.now rule past seen side))))
