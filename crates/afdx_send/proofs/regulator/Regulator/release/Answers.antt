use Rattle.std.proofs.Common.{◌+◌, ap, refl, arith, None}
use Rattle.afdx_send.specs.Regulator.{first_time, waiting_of}
use Rattle.afdx_send.proofs.ReleaseLemmas.{released, popped_sum}
use Rattle.afdx_send.proofs.RegulatorLemmas.{later_than}
use Rattle.afdx_send.proofs.regulator.Regulator.release.Goals as goal

pub returns-clause-released : goal.returns-clause-released
returns-clause-released c =
    λ ss rs g. released c.args.self.now ss rs c.args.time (c.next_in_turn-index.result + 1)
    c.in-Some.message _ c.requires.due g
    (record {
      index = c.next_in_turn-index.result;
      sub_is = refl;
      chosen = c.next_in_turn-index.ensures.chosen;
      pops = c.in-Some.ensures.front;
      served = refl;
      bag = c.in-Some.ensures.bag;
      earliest = ap (λ b. c.args.time + b) c.in-Some.ensures.bag;
    })

pub returns-clause-later : goal.returns-clause-later
returns-clause-later c =
    λ t e. (let a = later_than (c.args.time + c.pop.new.self.bag)
    (first_time None (waiting_of c.pop.new.self)) t e in omega arith)

pub returns-clause-held : goal.returns-clause-held
returns-clause-held c = popped_sum (waiting_of c.args.self.now) (waiting_of c.pop.new.self)
    c.next_in_turn-index.result c.in-Some.message c.in-Some.ensures.front
