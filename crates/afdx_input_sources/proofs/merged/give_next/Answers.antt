use Rattle.std.proofs.Common.{rules, ◌≡◌, Err, ap, Ok, ◌∙◌}
use Rattle.afdx_frame.specs.declared.by_side.BySide.{BySide}
use Rattle.afdx_input_sources.specs.MergedSource.{inputs_of, latest_of_both, taken_of}
use Rattle.afdx_input_sources.specs.declared.merged.Nth.TheVariants.{First, Second}
use Rattle.afdx_input_sources.proofs.MergedLemmas.{first-at-once, not-given, second-at-once, sought-one, sought-other}
use Rattle.afdx_input_sources.proofs.MergedLemmas.{stops-second, take-first, take-none, take-second}
use Rattle.afdx_input_sources.proofs.merged.give_next.Goals as goal

pub returns-in-Given-clause-item : goal.returns-in-Given-clause-item
returns-in-Given-clause-item g c start past p ok =
    let was = g.P.Two.both c.args.inputs.now in
    let is_one = c.holds_both.ensures (inputs_of c.seek.new.input was.b) in
    let is = ap Ok c.in-Given.is in
    let gives = c.in_ok-seek.ensures.at_once (latest_of_both g.H.InOrder.order.time past) start.a (taken_of First past)
    (rw (← c.first.ensures.value) at p.first) is in
    rw is_one (first-at-once g.H.InOrder.order g.H.Head.can_follow c.keeps.ensures g.S.Source.current g.S.Source.Gave
    g.S.Source.Ended start past c.args.merged.now was
    c.seek.new.ahead c.seek.new.input First p (c.in_ok-seek.ensures.unknown is) gives)

pub returns-in_err-seek-2-clause-stop : goal.returns-in_err-seek-2-clause-stop
returns-in_err-seek-2-clause-stop g c start past p =
    let was = g.P.Two.both c.args.inputs.now in
    let one = inputs_of c.seek.new.input was.b in
    let is_one = c.holds_both.ensures one in
    let b = c.second.ensures.value ∙ ap (λ (x : BySide g.row.P-Part.Denot). x.b) is_one in
    let is_two = c.holds_both.ensures (inputs_of (g.P.Two.both (g.P.Two.of_both one)).a c.seek-2.new.input) in
    let latest = latest_of_both g.H.InOrder.order.time past in
    let known = c.in_ok-seek.ensures.known latest start.a (taken_of First past)
    (rw (← c.first.ensures.value) at p.first)
    (ap Ok (not-given c.in_ok-seek.field-0 c.in_default.not-Given)) in
    let q = sought-one g.H.InOrder.order g.H.Head.can_follow c.keeps.ensures g.S.Source.current g.S.Source.Gave
    g.S.Source.Ended start past c.args.merged.now was
    c.seek.new.ahead c.seek.new.input Second p known.0 known.2 in
    let stop = c.in_err-seek-2.ensures.stop latest start.b (taken_of Second past) (rw (← b) at q.second) in
    let e : c.from_residual-in_err-seek-2.result ≡ Err c.in_err-seek-2.field-0.0 = search rules in
    rw (e, is_two, is_one) (stops-second g.H.InOrder.order g.H.Head.can_follow c.keeps.ensures
    g.S.Source.current g.S.Source.Gave g.S.Source.Ended start past g.S.Source.Stopped c.in_err-seek-2.field-0.0
    (record { first = c.seek.new.ahead; second = c.args.merged.now.second; from = Second })
    one c.seek-2.new.ahead c.seek-2.new.input q known.1 stop.0 stop.1)

pub returns-in-Given-2-clause-item : goal.returns-in-Given-2-clause-item
returns-in-Given-2-clause-item g c start past p ok =
    let was = g.P.Two.both c.args.inputs.now in
    let one = inputs_of c.seek.new.input was.b in
    let is_one = c.holds_both.ensures one in
    let b = c.second.ensures.value ∙ ap (λ (x : BySide g.row.P-Part.Denot). x.b) is_one in
    let is_two = c.holds_both.ensures (inputs_of (g.P.Two.both (g.P.Two.of_both one)).a c.seek-2.new.input) in
    let latest = latest_of_both g.H.InOrder.order.time past in
    let known = c.in_ok-seek.ensures.known latest start.a (taken_of First past)
    (rw (← c.first.ensures.value) at p.first)
    (ap Ok (not-given c.in_ok-seek.field-0 c.in_default.not-Given)) in
    let q = sought-one g.H.InOrder.order g.H.Head.can_follow c.keeps.ensures g.S.Source.current g.S.Source.Gave
    g.S.Source.Ended start past c.args.merged.now was
    c.seek.new.ahead c.seek.new.input Second p known.0 known.2 in
    let is = ap Ok c.in-Given-2.is in
    let gives = c.in_ok-seek-2.ensures.at_once latest start.b (taken_of Second past) (rw (← b) at q.second) is in
    rw (is_two, is_one) (second-at-once g.H.InOrder.order g.H.Head.can_follow c.keeps.ensures
    g.S.Source.current g.S.Source.Gave g.S.Source.Ended start past
    (record { first = c.seek.new.ahead; second = c.args.merged.now.second; from = Second })
    one c.seek-2.new.ahead c.seek-2.new.input Second q known.1
    (c.in_ok-seek-2.ensures.unknown is) gives)

pub returns-in-Some-First-clause-item : goal.returns-in-Some-First-clause-item
returns-in-Some-First-clause-item g c start past p ok =
    let was = g.P.Two.both c.args.inputs.now in
    let one = inputs_of c.seek.new.input was.b in
    let is_one = c.holds_both.ensures one in
    let b = c.second.ensures.value ∙ ap (λ (x : BySide g.row.P-Part.Denot). x.b) is_one in
    let is_two = c.holds_both.ensures (inputs_of (g.P.Two.both (g.P.Two.of_both one)).a c.seek-2.new.input) in
    let latest = latest_of_both g.H.InOrder.order.time past in
    let known = c.in_ok-seek.ensures.known latest start.a (taken_of First past)
    (rw (← c.first.ensures.value) at p.first)
    (ap Ok (not-given c.in_ok-seek.field-0 c.in_default.not-Given)) in
    let q = sought-one g.H.InOrder.order g.H.Head.can_follow c.keeps.ensures g.S.Source.current g.S.Source.Gave
    g.S.Source.Ended start past c.args.merged.now was
    c.seek.new.ahead c.seek.new.input Second p known.0 known.2 in
    let known_too = c.in_ok-seek-2.ensures.known latest start.b (taken_of Second past)
    (rw (← b) at q.second)
    (ap Ok (not-given c.in_ok-seek-2.field-0 c.in_default-2.not-Given)) in
    let r = sought-other g.H.InOrder.order g.H.Head.can_follow c.keeps.ensures g.S.Source.current g.S.Source.Gave
    g.S.Source.Ended start past
    (record { first = c.seek.new.ahead; second = c.args.merged.now.second; from = Second })
    one c.seek-2.new.ahead c.seek-2.new.input Second q known_too.0
    known_too.2 in
    rw (is_two, is_one) (take-first g.H.InOrder.order g.H.Head.can_follow c.keeps.ensures
    g.S.Source.current g.S.Source.Gave g.S.Source.Ended start past
    (inputs_of c.seek.new.input c.seek-2.new.input) Second First
    c.seek.new.ahead.source c.seek-2.new.ahead.source c.seek.new.ahead.head c.seek-2.new.ahead.head
    known.1 known_too.1 (search rules) r)

pub returns-in-Some-Second-clause-item : goal.returns-in-Some-Second-clause-item
returns-in-Some-Second-clause-item g c start past p ok =
    let was = g.P.Two.both c.args.inputs.now in
    let one = inputs_of c.seek.new.input was.b in
    let is_one = c.holds_both.ensures one in
    let b = c.second.ensures.value ∙ ap (λ (x : BySide g.row.P-Part.Denot). x.b) is_one in
    let is_two = c.holds_both.ensures (inputs_of (g.P.Two.both (g.P.Two.of_both one)).a c.seek-2.new.input) in
    let latest = latest_of_both g.H.InOrder.order.time past in
    let known = c.in_ok-seek.ensures.known latest start.a (taken_of First past)
    (rw (← c.first.ensures.value) at p.first)
    (ap Ok (not-given c.in_ok-seek.field-0 c.in_default.not-Given)) in
    let q = sought-one g.H.InOrder.order g.H.Head.can_follow c.keeps.ensures g.S.Source.current g.S.Source.Gave
    g.S.Source.Ended start past c.args.merged.now was
    c.seek.new.ahead c.seek.new.input Second p known.0 known.2 in
    let known_too = c.in_ok-seek-2.ensures.known latest start.b (taken_of Second past)
    (rw (← b) at q.second)
    (ap Ok (not-given c.in_ok-seek-2.field-0 c.in_default-2.not-Given)) in
    let r = sought-other g.H.InOrder.order g.H.Head.can_follow c.keeps.ensures g.S.Source.current g.S.Source.Gave
    g.S.Source.Ended start past
    (record { first = c.seek.new.ahead; second = c.args.merged.now.second; from = Second })
    one c.seek-2.new.ahead c.seek-2.new.input Second q known_too.0
    known_too.2 in
    rw (is_two, is_one) (take-second g.H.InOrder.order g.H.Head.can_follow c.keeps.ensures
    g.S.Source.current g.S.Source.Gave g.S.Source.Ended start past
    (inputs_of c.seek.new.input c.seek-2.new.input) Second Second
    c.seek.new.ahead.source c.seek-2.new.ahead.source c.seek.new.ahead.head c.seek-2.new.ahead.head
    known.1 known_too.1 (search rules) r)

pub returns-in-None-clause-end : goal.returns-in-None-clause-end
returns-in-None-clause-end g c start past p ok =
    let was = g.P.Two.both c.args.inputs.now in
    let one = inputs_of c.seek.new.input was.b in
    let is_one = c.holds_both.ensures one in
    let b = c.second.ensures.value ∙ ap (λ (x : BySide g.row.P-Part.Denot). x.b) is_one in
    let is_two = c.holds_both.ensures (inputs_of (g.P.Two.both (g.P.Two.of_both one)).a c.seek-2.new.input) in
    let latest = latest_of_both g.H.InOrder.order.time past in
    let known = c.in_ok-seek.ensures.known latest start.a (taken_of First past)
    (rw (← c.first.ensures.value) at p.first)
    (ap Ok (not-given c.in_ok-seek.field-0 c.in_default.not-Given)) in
    let q = sought-one g.H.InOrder.order g.H.Head.can_follow c.keeps.ensures g.S.Source.current g.S.Source.Gave
    g.S.Source.Ended start past c.args.merged.now was
    c.seek.new.ahead c.seek.new.input Second p known.0 known.2 in
    let known_too = c.in_ok-seek-2.ensures.known latest start.b (taken_of Second past)
    (rw (← b) at q.second)
    (ap Ok (not-given c.in_ok-seek-2.field-0 c.in_default-2.not-Given)) in
    let r = sought-other g.H.InOrder.order g.H.Head.can_follow c.keeps.ensures g.S.Source.current g.S.Source.Gave
    g.S.Source.Ended start past
    (record { first = c.seek.new.ahead; second = c.args.merged.now.second; from = Second })
    one c.seek-2.new.ahead c.seek-2.new.input Second q known_too.0
    known_too.2 in
    rw (is_two, is_one) (take-none g.H.InOrder.order g.H.Head.can_follow c.keeps.ensures
    g.S.Source.current g.S.Source.Gave g.S.Source.Ended start past
    (inputs_of c.seek.new.input c.seek-2.new.input) Second Second
    c.seek.new.ahead.source c.seek-2.new.ahead.source c.seek.new.ahead.head c.seek-2.new.ahead.head
    known.1 known_too.1 (search rules) r)
