use Rattle.std.proofs.Common.{refl, ap, ◌∙◌, ◌≡◌, ◌+◌, slice_set}
use Rattle.std.proofs.lemmas.List.{get_or-set_same}
use Rattle.afdx_send.specs.Agenda.{nexts}
use Rattle.afdx_send.specs.Lines.{held_by}
use Rattle.afdx_send.specs.Regulator.{next_time_of, waiting_of}
use Rattle.afdx_send.proofs.AddLemmas.{submission_stands, stays_idle, same_stands, same_idle}
use Rattle.afdx_send.proofs.AddLemmas.{pushed_sum, frames_more, frames_same}
use Rattle.afdx_send.proofs.RegulatorLemmas.{on_err}
use Rattle.afdx_send.proofs.StandLemmas.{read_at}
use Rattle.afdx_send.proofs.sender_state.SenderState.add.Goals as goal

pub returns-in_err-push-clause-err : goal.returns-in_err-push-clause-err
returns-in_err-push-clause-err c = λ h st.
    let w = c.args.self.now in
    let line = c.index_mut.result.now in
    let has = read_at w.lines.items c.args.place line c.requires.place c.index_mut.ensures.value in
    on_err c.from_residual.result _ (same_stands w h c.args.place line _ st has c.index_mut.ensures.value
    (record {
      waiting = c.in_err-push.ensures.err;
      bag = c.in_err-push.ensures.bag;
      served = c.in_err-push.ensures.served;
      earliest = c.in_err-push.ensures.earliest;
      vl = refl;
      least = refl;
      longest = refl;
      number = refl;
    }))

pub returns-in_err-push-clause-idle : goal.returns-in_err-push-clause-idle
returns-in_err-push-clause-idle c = same_idle c.args.self.now c.args.place c.index_mut.result.now _
    c.index_mut.ensures.value
    (record {
      waiting = c.in_err-push.ensures.err;
      bag = c.in_err-push.ensures.bag;
      served = c.in_err-push.ensures.served;
      earliest = c.in_err-push.ensures.earliest;
      vl = refl;
      least = refl;
      longest = refl;
      number = refl;
    })
    c.requires.idle

pub returns-clause-ok : goal.returns-clause-ok
returns-clause-ok c = λ h st.
    let w = c.args.self.now in
    let line = c.index_mut.result.now in
    let has = read_at w.lines.items c.args.place line c.requires.place c.index_mut.ensures.value in
    let read = c.index.ensures ∙ get_or-set_same w.lines.items c.args.place _ c.index.result.now c.requires.place in
    let next = c.next_time-next.ensures ∙ ap (λ l. next_time_of l.regulator) read in
    submission_stands w h c.args.place c.args.index line _ c.args.message c.set.new.self st
    (record {
      has = has;
      takes = record {
        can = c.requires.queue line has;
        pushes = c.in_ok-push.ensures.ok;
        bag = c.in_ok-push.ensures.bag;
        earliest = c.in_ok-push.ensures.earliest;
        served = c.in_ok-push.ensures.served;
        vl = refl;
        least = refl;
        longest = refl;
        number = refl;
      };
      early = c.requires.limit;
      clock = c.requires.clock;
      played = c.set.ensures.played;
      agenda = c.set.ensures.set ∙ ap (λ z. slice_set (nexts w.agenda) c.args.place z) next;
      agenda_count = c.set.ensures.count;
    })

pub returns-clause-idle : goal.returns-clause-idle
returns-clause-idle c =
    let w = c.args.self.now in
    let line = c.index_mut.result.now in
    let has = read_at w.lines.items c.args.place line c.requires.place c.index_mut.ensures.value in
    let read = c.index.ensures ∙ get_or-set_same w.lines.items c.args.place _ c.index.result.now c.requires.place in
    let next = c.next_time-next.ensures ∙ ap (λ l. next_time_of l.regulator) read in
    stays_idle w c.args.place c.args.index line _ c.args.message c.set.new.self
    (record {
      has = has;
      takes = record {
        can = c.requires.queue line has;
        pushes = c.in_ok-push.ensures.ok;
        bag = c.in_ok-push.ensures.bag;
        earliest = c.in_ok-push.ensures.earliest;
        served = c.in_ok-push.ensures.served;
        vl = refl;
        least = refl;
        longest = refl;
        number = refl;
      };
      early = c.requires.limit;
      clock = c.requires.clock;
      played = c.set.ensures.played;
      agenda = c.set.ensures.set ∙ ap (λ z. slice_set (nexts w.agenda) c.args.place z) next;
      agenda_count = c.set.ensures.count;
    })
    c.requires.idle

pub returns-clause-held : goal.returns-clause-held
returns-clause-held c =
    let w = c.args.self.now in
    let line = c.index_mut.result.now in
    let has = read_at w.lines.items c.args.place line c.requires.place c.index_mut.ensures.value in
    let one : held_by c.push.new.self ≡ held_by line.regulator + 1 =
    pushed_sum (waiting_of line.regulator) (waiting_of c.push.new.self) c.args.index
    c.args.message c.in_ok-push.ensures.ok in
    frames_more w c.args.place line _ c.set.new.self has one

pub returns-in_err-push-clause-kept : goal.returns-in_err-push-clause-kept
returns-in_err-push-clause-kept c =
    let w = c.args.self.now in
    let line = c.index_mut.result.now in
    let has = read_at w.lines.items c.args.place line c.requires.place c.index_mut.ensures.value in
    on_err c.from_residual.result _ (frames_same w c.args.place line _ has
    (record {
      waiting = c.in_err-push.ensures.err;
      bag = c.in_err-push.ensures.bag;
      served = c.in_err-push.ensures.served;
      earliest = c.in_err-push.ensures.earliest;
      vl = refl;
      least = refl;
      longest = refl;
      number = refl;
    }))
