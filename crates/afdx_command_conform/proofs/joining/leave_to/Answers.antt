use Rattle.std.proofs.Common.{◌<◌, ◌≤◌, ◌+◌, length, None, sym, subst}
use Rattle.std.specs.List.{AllByRecursion}
use Rattle.afdx_conform.specs.Limits.{gone_of}
use Rattle.afdx_conform.specs.Ranges.{most_held}
use Rattle.afdx_command_conform.specs.Keeping.{AreKept, with_left}
use Rattle.afdx_command_conform.proofs.AddedLemmas.{on-ok}
use Rattle.afdx_command_conform.proofs.joining.leave_to.Goals as goal

pub returns : goal.returns
returns c c' until time given lines l at to by le start all few kept =
    let t = c.args.rules.now.tables.now in
    let is = c.in_ok-key.ensures.key in
    let made = c.in_ok-key.ensures.stands c' until time given lines l at to by kept in
    on-ok (λ k. subst (λ q. AreKept t c' until None time (with_left q (gone_of c.args.frame) given) lines
    c.add_frame.new.self) is k) c.add_frame.result
    (c.add_frame.ensures t c' until time given lines l c.in_ok-key.ensures.lawful made.0
    (record {
      behind = le;
      by_time = subst (λ q. AllByRecursion (λ w. w.time ≤ c.args.frame.time) (given q).left) (sym is) all;
      start = start;
      few = subst (λ q. length (given q).left + 1 < most_held) (sym is) few;
    }) made.1 made.2)
