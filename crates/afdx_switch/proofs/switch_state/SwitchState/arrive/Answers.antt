use Rattle.std.proofs.Common.{◌≡◌, ◌∙◌, sym, ap, subst, arith, refl, length, Some, None}
use Rattle.std.specs.Prelude.{vec_len}
use Rattle.std.proofs.lemmas.Option.{slice_get_read}
use Rattle.afdx_frame.specs.Parts.{bytes_of, IsLinkFrame}
use Rattle.afdx_police.specs.Arrival.{arrival_with}
use Rattle.afdx_switch.specs.HeldFrames.{HeldFrame, held_frame}
use Rattle.afdx_switch.specs.Shares.{AreShares}
use Rattle.afdx_switch.specs.Sound.{IsLineSound}
use Rattle.afdx_switch.specs.Tables.{output_at}
use Rattle.afdx_switch.specs.declared.line.Line.{Line}
use Rattle.afdx_switch.specs.declared.switch_state.SwitchState.{SwitchState}
use Rattle.afdx_switch.specs.declared.verdict.Verdict.TheVariants.{Dropped, Accepted}
use Rattle.afdx_switch.proofs.ArrivalLemmas.{shape-named, dropped-sent}
use Rattle.afdx_switch.proofs.CallLemmas.{arrived, lacked}
use Rattle.afdx_switch.proofs.FoundLemmas.{faulted-reason, stands-faulted, charged-reason, charged-lines}
use Rattle.afdx_switch.proofs.FoundLemmas.{charged-at, charged-sound}
use Rattle.afdx_switch.proofs.ListLemmas.{all-at}
use Rattle.afdx_switch.proofs.StandsLemmas.{LinesAfter, stands-dropped, stands-accepted, lost-is}
use Rattle.afdx_switch.proofs.TakeLemmas.{ports-later}
use Rattle.afdx_switch.proofs.switch_state.SwitchState.arrive.Goals as goal

-- the frame's shape has a fault
pub returns-in-Err-clause-arrives : goal.returns-in-Err-clause-arrives
returns-in-Err-clause-arrives c =
    let w = c.args.self.now in
    let bytes = (bytes_of c.args.frame) in
    arrived w _ c.args.tag c.args.time c.args.port bytes (Dropped c.in-Err.reason)
    (λ t side h st. faulted-reason t (arrival_with c.args.tag c.args.time side c.args.port bytes) c.in-Err.reason
    (c.in-Err.ensures.faulted t side h c.args.tag c.args.time st) h.arrivals)
    (λ t side h st. stands-faulted t (arrival_with c.args.tag c.args.time side c.args.port bytes) c.in-Err.reason
    (c.in-Err.ensures.faulted t side h c.args.tag c.args.time st) w _ h st refl)
    c.requires.quiet (omega arith) refl

-- it is copied
pub copy-requires-clause-framed : goal.copy-requires-clause-framed
copy-requires-clause-framed c = subst IsLinkFrame c.in-Ok.ensures.sealed c.in-Ok.ensures.framed

-- there was no memory for its copy
pub returns-in_err-copy-clause-arrives : goal.returns-in_err-copy-clause-arrives
returns-in_err-copy-clause-arrives c =
    let w = c.args.self.now in
    let bytes = (bytes_of c.args.frame) in
    lacked w _ c.args.tag c.args.time c.args.port bytes c.from_residual.result c.from_residual.ensures.0 refl
    (λ t side h st. (let f = c.in-Ok.ensures.found t side h c.args.tag c.args.time st in
    shape-named t (arrival_with c.args.tag c.args.time side c.args.port bytes) h.arrivals c.in-Ok.place f.named
    ∙ f.sound)) c.requires.quiet

pub returns-in_err-share_out-clause-arrives : goal.returns-in_err-share_out-clause-arrives
returns-in_err-share_out-clause-arrives c =
    let w = c.args.self.now in
    let bytes = (bytes_of c.args.frame) in
    lacked w _ c.args.tag c.args.time c.args.port bytes c.from_residual-in_err-share_out.result
    c.from_residual-in_err-share_out.ensures.0 refl
    (λ t side h st. (let f = c.in-Ok.ensures.found t side h c.args.tag c.args.time st in
    shape-named t (arrival_with c.args.tag c.args.time side c.args.port bytes) h.arrivals c.in-Ok.place f.named
    ∙ f.sound)) c.requires.quiet

-- its link sends too much
pub returns-in-Some-clause-arrives : goal.returns-in-Some-clause-arrives
returns-in-Some-clause-arrives c =
    let w = c.args.self.now in
    let bytes = (bytes_of c.args.frame) in
    let reason = c.in-Some.reason in
    arrived w _ c.args.tag c.args.time c.args.port bytes (Dropped reason)
    (λ t side h st. (let f = c.in-Ok.ensures.found t side h c.args.tag c.args.time st in
    charged-reason t (arrival_with c.args.tag c.args.time side c.args.port bytes) w h st c.in-Ok.place f (Some reason) _
    (rw c.length.ensures at (c.in-Some.ensures.charged f.line f.stands))))
    (λ t side h st. (
    let x = arrival_with c.args.tag c.args.time side c.args.port bytes in
    let f = c.in-Ok.ensures.found t side h c.args.tag c.args.time st in
    let charged = rw c.length.ensures at (c.in-Some.ensures.charged f.line f.stands) in
    let dropped = charged-reason t x w h st c.in-Ok.place f (Some reason) _ charged in
    stands-dropped t x w h st _
    (λ port. dropped-sent t x h.arrivals (Some c.in-Ok.place) (output_at t x.side port) reason f.named dropped)
    (charged-lines t x w h st c.in-Ok.place f (Some reason) _ charged) refl c.in-Some.ensures.count refl refl))
    c.requires.quiet (omega arith) refl

pub returns-in-Some-clause-sound : goal.returns-in-Some-clause-sound
returns-in-Some-clause-sound c =
    let w = c.args.self.now in
    let at = slice_get_read w.lines.items _ c.in-Ok.place c.index-line.result.now w.lines.ok.0
    c.in-Ok.ensures.within c.index-line.ensures in
    record {
      lines = charged-sound w.clock c.args.time _ c.in-Ok.place c.index-line.result.now _ w.lines.items _
          (c.in-Some.ensures.charged c.index-line.result.now at) at c.requires.clock c.requires.sound.lines;
      place_count = c.requires.sound.place_count;
      places = λ vl place is_at.
          omega (arith, c.requires.sound.places vl place is_at, c.in-Some.ensures.count);
      port_count = c.requires.sound.port_count;
      ports = ports-later w.ports.items w.clock c.args.time c.requires.clock c.requires.sound.ports;
      serving = c.requires.sound.serving;
      served = c.requires.sound.served;
    }

-- it is sent on
pub send_on-lost-requires-clause-sound : goal.send_on-lost-requires-clause-sound
send_on-lost-requires-clause-sound c =
    let w = c.args.self.now in
    let at = slice_get_read w.lines.items _ c.in-Ok.place c.index-line.result.now w.lines.ok.0
    c.in-Ok.ensures.within c.index-line.ensures in
    record {
      lines = charged-sound w.clock c.args.time _ c.in-Ok.place c.index-line.result.now _ w.lines.items _
          (c.in_default.ensures.charged c.index-line.result.now at) at c.requires.clock c.requires.sound.lines;
      place_count = c.requires.sound.place_count;
      places = λ vl place is_at.
          omega (arith, c.requires.sound.places vl place is_at, c.in_default.ensures.count);
      port_count = c.requires.sound.port_count;
      ports = ports-later w.ports.items w.clock c.args.time c.requires.clock c.requires.sound.ports;
      serving = c.requires.sound.serving;
      served = c.requires.sound.served;
    }

pub send_on-lost-requires-clause-alike : goal.send_on-lost-requires-clause-alike
send_on-lost-requires-clause-alike c = (_, c.in_ok-share_out.ensures.each)

pub send_on-lost-requires-clause-share_count : goal.send_on-lost-requires-clause-share_count
send_on-lost-requires-clause-share_count c line there =
    let w = c.args.self.now in
    let mine = c.index-line.result.now in
    let at = slice_get_read w.lines.items _ c.in-Ok.place mine w.lines.ok.0 c.in-Ok.ensures.within
    c.index-line.ensures in
    let charged = c.in_default.ensures.charged mine at in
    let here = charged-at c.args.time _ c.in-Ok.place mine _ w.lines.items _ charged at in
    let new : Line = record mine { account = charged.account } in
    let same : new ≡ line = cc in
    let goes = ap (λ (l : Line). length l.goes.items) same in
    omega (arith, c.in_ok-share_out.ensures.count, c.len-count.ensures, goes)

pub returns-clause-arrives : goal.returns-clause-arrives
returns-clause-arrives c =
    let w = c.args.self.now in
    let bytes = (bytes_of c.args.frame) in
    let new = c.send_on-lost.new.self in
    let rest = c.send_on-lost.ensures.rest in
    let mine = c.index-line.result.now in
    let at = slice_get_read w.lines.items _ c.in-Ok.place mine w.lines.ok.0 c.in-Ok.ensures.within
    c.index-line.ensures in
    let charged = c.in_default.ensures.charged mine at in
    let carried : HeldFrame = held_frame c.args.tag mine.longest_wait bytes in
    let shared : AreShares carried c.share_out.new.shares.items =
    subst (λ (g : HeldFrame). AreShares g c.share_out.new.shares.items)
    (c.in_ok-copy.ensures ∙ ap (held_frame c.args.tag mine.longest_wait) (sym c.in-Ok.ensures.sealed))
    c.in_ok-share_out.ensures.each in
    let old_count : length w.ports.items ≡ 24 = omega (arith, w.ports.ok.0, c.requires.sound.port_count) in
    let new_count : length new.ports.items ≡ 24 = omega
    (arith, new.ports.ok.0, c.send_on-lost.ensures.sound.port_count) in
    let small = (all-at (IsLineSound w.clock) w.lines.items c.in-Ok.place mine c.requires.sound.lines at).wait in
    let offered = c.send_on-lost.ensures.offered (record mine { account = charged.account }) carried
    (charged-at c.args.time _ c.in-Ok.place mine _ w.lines.items _ charged at) shared in
    arrived w new c.args.tag c.args.time c.args.port bytes (Accepted c.send_on-lost.result)
    (λ t side h st. (
    let x = arrival_with c.args.tag c.args.time side c.args.port bytes in
    let f = c.in-Ok.ensures.found t side h c.args.tag c.args.time st in
    let of_line = rw c.length.ensures at (c.in_default.ensures.charged f.line f.stands) in
    let accepted = charged-reason t x w h st c.in-Ok.place f None _ of_line in (
      accepted,
      lost-is t x w h st c.in-Ok.place f.named mine at accepted c.in-Ok.ensures.shortest
          c.in-Ok.ensures.longest small new.ports.items c.send_on-lost.result old_count new_count offered,
    )))
    (λ t side h st. (
    let x = arrival_with c.args.tag c.args.time side c.args.port bytes in
    let f = c.in-Ok.ensures.found t side h c.args.tag c.args.time st in
    let of_line = rw c.length.ensures at (c.in_default.ensures.charged f.line f.stands) in
    let accepted = charged-reason t x w h st c.in-Ok.place f None _ of_line in
    stands-accepted t x w h st c.in-Ok.place f.named mine at accepted c.in-Ok.ensures.shortest
    c.in-Ok.ensures.longest small new.ports.items c.send_on-lost.result old_count new_count offered new
    (subst (λ (s : SwitchState). LinesAfter t x h s.lines.items) (sym rest)
    (charged-lines t x w h st c.in-Ok.place f None _ of_line))
    (ap (λ (s : SwitchState). s.clock) rest)
    (ap (λ (s : SwitchState). vec_len s.lines) rest ∙ c.in_default.ensures.count)
    (ap (λ (s : SwitchState). s.places) rest) refl))
    c.send_on-lost.ensures.quiet c.send_on-lost.ensures.held (ap (λ (s : SwitchState). s.clock) rest)
