use Rattle.std.proofs.Common.{arith, refl, ap, ◌∙◌, slice_set, ◌≡◌}
use Rattle.std.proofs.lemmas.List.{get_or-set_same}
use Rattle.afdx_send.specs.Regulator.{next_time_of}
use Rattle.afdx_send.specs.Agenda.{nexts}
use Rattle.afdx_send.specs.Sender.{port_history}
use Rattle.afdx_send.proofs.KeptLemmas.{kept}
use Rattle.afdx_send.proofs.StandLemmas.{due_place, line_read, in_limits, release_stands, held_after}
use Rattle.afdx_send.proofs.sender_state.SenderState.release.Goals as goal

pub release-released-requires-clause-limit : goal.release-released-requires-clause-limit
release-released-requires-clause-limit c =
    let w = c.args.self.now in
    let d = line_read w c.args.time c.args.place c.index_mut.result.now c.requires.soonest c.index_mut.ensures.value in
    let l = in_limits w c.requires.sound.0 c.args.time c.args.place c.index_mut.result.now c.requires.sound.1 d in
    omega (arith, l.gap, l.limit)

pub index-requires : goal.index-requires
index-requires c = let ok = c.args.self.now.lines.ok.0 in
    omega (arith, due_place c.args.self.now c.args.time c.args.place c.requires.soonest)

pub set-requires-clause-place : goal.set-requires-clause-place
set-requires-clause-place c = let a = c.requires.sound.1.agenda_count in
    omega (arith, due_place c.args.self.now c.args.time c.args.place c.requires.soonest)

pub put-requires-clause-limit : goal.put-requires-clause-limit
put-requires-clause-limit c =
    let w = c.args.self.now in
    let d = line_read w c.args.time c.args.place c.index_mut.result.now c.requires.soonest c.index_mut.ensures.value in
    (in_limits w c.requires.sound.0 c.args.time c.args.place c.index_mut.result.now c.requires.sound.1 d).limit

pub unreachable-requires : goal.unreachable-requires
unreachable-requires c =
    let w = c.args.self.now in
    let h = c.requires.sound.0 in
    let st = c.requires.sound.1 in
    let d = line_read w c.args.time c.args.place c.index_mut.result.now c.requires.soonest c.index_mut.ensures.value in
    kept w h st c.args.time c.args.place c.index_mut.result.now c.release-released.new.self
    c.release-released.result c.sender_is_bounded.ensures.never_full
    c.one_schedule.ensures.exists c.requires.soonest d
    c.release-released.ensures.vl c.release-released.ensures.least c.release-released.ensures.number
    c.release-released.ensures.released c.requires.port_clock
    ((c.in_default.ensures.lost (port_history h st.released st.given w.output.clock) st.output).0 refl)

pub returns-clause-stands : goal.returns-clause-stands
returns-clause-stands c = λ h st.
    let w = c.args.self.now in
    let line' = c.release-released.new.self in
    let below = due_place w c.args.time c.args.place c.requires.soonest in
    let read : c.index.result.now ≡ line' = c.index.ensures
    ∙ get_or-set_same w.lines.items c.args.place line' c.index.result.now below in
    let next = c.next_time-next.ensures ∙ ap (λ l. next_time_of l.regulator) read in
    release_stands w h c.args.time c.args.place c.index_mut.result.now line'
    c.release-released.result c.set.new.self c.put.new.self st
    (record {
      idle = c.requires.idle;
      soonest = c.requires.soonest;
      early = c.requires.early;
      due = line_read w c.args.time c.args.place c.index_mut.result.now c.requires.soonest c.index_mut.ensures.value;
      vl = c.release-released.ensures.vl;
      least = c.release-released.ensures.least;
      number = c.release-released.ensures.number;
      releases = c.release-released.ensures.released;
      later = c.release-released.ensures.later;
      played = c.set.ensures.played;
      agenda = c.set.ensures.set ∙ ap (λ z. slice_set (nexts w.agenda) c.args.place z) next;
      agenda_count = c.set.ensures.count;
      clock = c.put.ensures.clock;
      put = λ hp s. c.in-Ok.ensures.ok hp s;
    })

pub returns-clause-held : goal.returns-clause-held
returns-clause-held c =
    let w = c.args.self.now in
    let d = line_read w c.args.time c.args.place c.index_mut.result.now c.requires.soonest c.index_mut.ensures.value in
    held_after w c.args.place c.index_mut.result.now c.release-released.new.self d.has c.release-released.ensures.held
