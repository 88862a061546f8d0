use Rattle.std.proofs.Common.{rules, arith, sym, ap, ◌∙◌}
use Rattle.std.specs.Prelude.{option_copied}
use Rattle.afdx_port.specs.Ports.{order_at}
use Rattle.afdx_port.proofs.DueLemmas.{clock_due}
use Rattle.afdx_port.proofs.SoundLemmas.{busy_from_test}
use Rattle.afdx_port.proofs.BeginLemmas.{clock_advances, later_advances}
use Rattle.afdx_port.proofs.NextClassLemmas.{due-told, is-chosen, same-moment, none-next}
use Rattle.afdx_port.proofs.port_state.PortState.advance.Goals as goal

pub returns-then-is_some : goal.returns-then-is_some
returns-then-is_some g c =
    clock_advances g.T.HasLength.facts c.args.self.now c.args.time c.requires.sound
    c.requires.clock (λ d m none chosen. absurd (busy_from_test c.args.self.now.sending
    c.is_some.result c.is_some.ensures c.if-is_some.true none))

pub returns-in_default : goal.returns-in_default
returns-in_default g c =
    clock_advances g.T.HasLength.facts c.args.self.now c.args.time c.requires.sound
    c.requires.clock (λ d m idle chosen. absurd
    (none-next (record c.args.self.now { clock = c.args.time }) c.args.class d m c.requires.class idle chosen
    (sym c.front.ensures ∙ ap (λ o. option_copied o) c.in_default.is)))

pub returns-then-moment-time : goal.returns-then-moment-time
returns-then-moment-time g c =
    clock_advances g.T.HasLength.facts c.args.self.now c.args.time c.requires.sound
    c.requires.clock (λ d m idle chosen.
    let k = is-chosen g.T.HasLength.facts (record c.args.self.now { clock = c.args.time }) c.args.class
    c.in-Some.front.now idle c.requires.class (sym c.in-Some.ensures) in
    let same = same-moment (record c.args.self.now { clock = c.args.time }) c.args.class d k.moment m k.chosen chosen in
    let is = k.is in
    let moment = c.max-moment.ensures in
    let late = c.if-moment-time.true in
    omega (arith, same, is, moment, late))

pub begin-left-requires-clause-begins : goal.begin-left-requires-clause-begins
begin-left-requires-clause-begins g c =
    let k = is-chosen g.T.HasLength.facts (record c.args.self.now { clock = c.args.time }) c.args.class
    c.in-Some.front.now (search rules) c.requires.class (sym c.in-Some.ensures) in
    let is = k.is in
    let moment = c.max-moment.ensures in
    let soon = c.if-moment-time.false in
    (k.moment, k.chosen, omega (arith, is, moment, soon))

pub begin-left-requires-clause-due : goal.begin-left-requires-clause-due
begin-left-requires-clause-due g c =
    let k = is-chosen g.T.HasLength.facts (record c.args.self.now { clock = c.args.time }) c.args.class
    c.in-Some.front.now (search rules) c.requires.class (sym c.in-Some.ensures) in
    due-told _ _ _ c.turn-due.result
    (c.requires.order ∙ ap (λ o. order_at o) (sym (clock_due g.T.HasLength.facts c.args.self.now c.args.time)))
    k.due c.turn-due.ensures

pub returns : goal.returns
returns g c =
    later_advances g.T.HasLength.facts c.args.self.now _ c.args.time c.requires.clock
    c.begin-left.ensures.begun
