use Rattle.std.proofs.Common.{rules, inl, inr, sym, ◌∙◌, subst}
use Rattle.afdx_input_sources.proofs.FaultLemmas.{is-other, is-recorded}
use Rattle.afdx_input_sources.proofs.StepLemmas.{is-reading, took-one, took-none, ends, stops}
use Rattle.afdx_input_sources.proofs.StepLemmas.{took-less, took-no-more, took-step, ends-less}
use Rattle.afdx_input_sources.proofs.ordered.read_one.Goals as goal

pub returns-in-Ok-Given-clause-given : goal.returns-in-Ok-Given-clause-given
returns-in-Ok-Given-clause-given g c start past h ok =
    let S = g.S.Source in
    let old = c.args.ordered.now in
    let r = is-reading S.current S.Gave S.Ended S.Stopped start old c.args.input.now past c.requires.reading h in
    let item = c.in-Ok-Given.ensures.item start r.read r.gave_them (search rules) in
    let k = took-one S.current S.Gave S.Ended S.Stopped start (record old { source = c.next.new.self })
    c.next.new.input past c.requires.reading r.read r.are_forward r.latest r.are_held item.0 item.1
    c.take_in.new.ordered
    (rw ok at c.take_in.ensures) in (k.gave_them, k.follows)

pub returns-in-Ok-Given-clause-none : goal.returns-in-Ok-Given-clause-none
returns-in-Ok-Given-clause-none g c start past h ok =
    let S = g.S.Source in
    let old = c.args.ordered.now in
    let r = is-reading S.current S.Gave S.Ended S.Stopped start old c.args.input.now past c.requires.reading h in
    let item = c.in-Ok-Given.ensures.item start r.read r.gave_them (search rules) in
    took-none S.current S.Gave S.Ended S.Stopped start (record old { source = c.next.new.self })
    c.next.new.input past c.requires.reading r.read r.are_forward r.latest r.are_held item.0 item.1
    c.take_in.new.ordered
    (rw ok at c.take_in.ensures)

pub returns-in-Ok-Given-clause-less : goal.returns-in-Ok-Given-clause-less
returns-in-Ok-Given-clause-less g c ok =
    took-less g.S.Source.left_of c.args.ordered.now c.next.new.self c.requires.reading
    (c.in-Ok-Given.ensures.less (search rules)) (g.S.Source.current c.next.new.self) c.take_in.new.ordered
    (rw ok at c.take_in.ensures)

pub returns-in-Ok-Given-clause-no_more : goal.returns-in-Ok-Given-clause-no_more
returns-in-Ok-Given-clause-no_more g c ok =
    took-no-more g.S.Source.left_of c.args.ordered.now c.next.new.self c.requires.reading
    (c.in-Ok-Given.ensures.less (search rules)) (g.S.Source.current c.next.new.self) c.take_in.new.ordered
    (rw ok at c.take_in.ensures)

pub returns-in-Ok-Given-clause-steps : goal.returns-in-Ok-Given-clause-steps
returns-in-Ok-Given-clause-steps g c ok =
    took-step g.S.Source.left_of c.args.ordered.now c.next.new.self c.requires.reading
    (c.in-Ok-Given.ensures.less (search rules)) (g.S.Source.current c.next.new.self) c.take_in.new.ordered
    (rw ok at c.take_in.ensures)

pub returns-in-Ok-Ended-clause-none : goal.returns-in-Ok-Ended-clause-none
returns-in-Ok-Ended-clause-none g c start past h ok =
    let S = g.S.Source in
    let old = c.args.ordered.now in
    let r = is-reading S.current S.Gave S.Ended S.Stopped start old c.args.input.now past c.requires.reading h in
    ends S.current S.Gave S.Ended S.Stopped start (record old { source = c.next.new.self }) c.next.new.input past r.read
    r.are_forward r.latest r.are_held (c.in-Ok-Ended.ensures.end start r.read r.gave_them (search rules))

pub returns-in-Ok-Ended-clause-no_more : goal.returns-in-Ok-Ended-clause-no_more
returns-in-Ok-Ended-clause-no_more g c ok = ends-less g.S.Source.left_of c.args.ordered.now c.requires.reading

-- a fault of the recording
pub returns-in-Ok-clause-none : goal.returns-in-Ok-clause-none
returns-in-Ok-clause-none g c start past h ok =
    let S = g.S.Source in
    let old = c.args.ordered.now in
    let r = is-reading S.current S.Gave S.Ended S.Stopped start old c.args.input.now past c.requires.reading h in
    let is = is-recorded c.in-Err.fault c.in-Ok.fault
    (sym c.recorded_fault.ensures ∙ c.in-Ok.is) in
    stops S.current S.Gave S.Ended S.Stopped start
    (record old { source = c.next.new.self }) c.next.new.input past r.read
    r.are_forward r.latest r.are_held c.in-Ok.fault
    (rw is at c.in-Err.ensures.stop start r.read r.gave_them)

pub returns-in-Ok-clause-no_more : goal.returns-in-Ok-clause-no_more
returns-in-Ok-clause-no_more g c ok = ends-less g.S.Source.left_of c.args.ordered.now c.requires.reading

-- another one
pub returns-in-Err-recorded_fault-clause-stop : goal.returns-in-Err-recorded_fault-clause-stop
returns-in-Err-recorded_fault-clause-stop g c start past h =
    let S = g.S.Source in
    let old = c.args.ordered.now in
    let r = is-reading S.current S.Gave S.Ended S.Stopped start old c.args.input.now past c.requires.reading h in
    let is = is-other c.in-Err.fault c.in-Err-recorded_fault.other
    (sym c.recorded_fault.ensures ∙ c.in-Err-recorded_fault.is) in
    inr (inl (record {
      read = r.read;
      are_forward = r.are_forward;
      other = is.1;
      stopped_so = subst (λ f. S.Stopped start c.next.new.self c.next.new.input r.read f) is.0
          (c.in-Err.ensures.stop start r.read r.gave_them);
      known = r.are_held.handed;
    }))
