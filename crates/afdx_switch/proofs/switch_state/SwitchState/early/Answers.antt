use Rattle.std.proofs.Common.{◌≡◌, arith, subst}
use Rattle.std.proofs.lemmas.Option.{slice_get_read}
use Rattle.afdx_frame.specs.Parts.{bytes_of}
use Rattle.afdx_police.specs.Arrival.{arrival_with, own}
use Rattle.afdx_police.specs.LinkAccounts.{StandsForOwn}
use Rattle.afdx_switch.specs.Sound.{IsLineSound}
use Rattle.afdx_switch.specs.declared.line.Line.{Line}
use Rattle.afdx_switch.proofs.EarlyLemmas.{fault-stays, found-early, found-offered}
use Rattle.afdx_switch.proofs.ListLemmas.{all-at}
use Rattle.afdx_switch.proofs.switch_state.SwitchState.early.Goals as goal

pub early-requires-clause-in_time : goal.early-requires-clause-in_time
early-requires-clause-in_time c =
    let w = c.args.self.now in
    let at = slice_get_read w.lines.items _ c.in-Ok.place c.index-line.result.now w.lines.ok.0
    c.in-Ok.ensures.within c.index-line.ensures in
    let sound = all-at (IsLineSound w.clock) w.lines.items c.in-Ok.place c.index-line.result.now
    c.requires.sound.lines at in
    omega (arith, sound.in_time, c.requires.clock)

pub early-requires-clause-longest : goal.early-requires-clause-longest
early-requires-clause-longest c =
    let w = c.args.self.now in
    let at = slice_get_read w.lines.items _ c.in-Ok.place c.index-line.result.now w.lines.ok.0
    c.in-Ok.ensures.within c.index-line.ensures in
    rw c.length.ensures (c.in-Ok.ensures.at_most c.index-line.result.now at)

pub returns-in-Ok : goal.returns-in-Ok
returns-in-Ok c t side h tag st sound =
    let w = c.args.self.now in
    let x = arrival_with tag c.args.time side c.args.port (bytes_of c.args.frame) in
    let f = c.in-Ok.ensures.found t side h tag c.args.time st in
    let at = slice_get_read w.lines.items _ c.in-Ok.place c.index-line.result.now w.lines.ok.0
    c.in-Ok.ensures.within c.index-line.ensures in
    let stands = f.stands in
    let same : f.line ≡ c.index-line.result.now = cc in
    let past = own f.named.row.rule.vl side h.arrivals in
    let account = subst (λ (l : Line). StandsForOwn f.named.row.rule l.account past) same f.is.account in
    found-early t x w h c.in-Ok.place f c.early.result
    (c.early.ensures.least f.named.row.rule past x account
    (rw c.length.ensures (found-offered t x w h c.in-Ok.place f)))

pub returns-in-Err : goal.returns-in-Err
returns-in-Err c t side h tag st sound =
    absurd (fault-stays t (arrival_with tag c.args.time side c.args.port (bytes_of c.args.frame)) c.in-Err.field-0
    (c.in-Err.ensures.faulted t side h tag c.args.time st) sound)
