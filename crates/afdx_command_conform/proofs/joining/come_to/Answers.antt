use Rattle.std.proofs.Common.{◌<◌, ◌≤◌, ◌+◌, length, None, refl, sym, subst}
use Rattle.std.specs.List.{AllByRecursion}
use Rattle.afdx_conform.specs.Marks.{arrival_of}
use Rattle.afdx_conform.specs.Ranges.{most_held}
use Rattle.afdx_command_conform.specs.Frames.{terms_at}
use Rattle.afdx_command_conform.specs.Keeping.{AreKept, with_came}
use Rattle.afdx_command_conform.proofs.AddedLemmas.{on-ok}
use Rattle.afdx_command_conform.proofs.joining.come_to.Goals as goal

pub returns : goal.returns
returns c c' until time given lines l at to by judged le start all few kept =
    let t = c.args.rules.now.tables.now in
    let is = c.in_ok-key.ensures.key in
    let made = c.in_ok-key.ensures.stands c' until time given lines l at to by kept in
    on-ok (λ k. subst (λ q. AreKept t c' until None time (with_came q (arrival_of c.args.arrived) given) lines
    c.add_arrival.new.self) is k) c.add_arrival.result
    (c.add_arrival.ensures t c' until time given lines l c.in_ok-key.ensures.lawful made.0
    (judged (terms_at t c' until l c.in_ok-key.key.port) refl)
    (record {
      behind = le;
      by_time = subst (λ q. AllByRecursion (λ w. w.time ≤ c.args.arrived.time) (given q).came) (sym is) all;
      start = start;
      few = subst (λ q. length (given q).came + 1 < most_held) (sym is) few;
    }) made.1 made.2)
