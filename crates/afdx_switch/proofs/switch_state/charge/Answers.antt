use Rattle.std.proofs.Common.{◌≡◌, sym, subst, ap}
use Rattle.std.specs.Prelude.{slice_set}
use Rattle.std.proofs.lemmas.Option.{slice_get_read}
use Rattle.afdx_police.specs.LinkAccounts.{StandsForOwn}
use Rattle.afdx_switch.specs.declared.line.Line.{Line}
use Rattle.afdx_switch.proofs.switch_state.charge.Goals as goal

pub returns-clause-charged : goal.returns-clause-charged
returns-clause-charged c line at =
    let at_line = slice_get_read c.args.lines.now.items _ c.args.place c.index_mut-line.result.now
    c.args.lines.now.ok.0 c.requires.within c.index_mut-line.ensures.value in
    let same : c.index_mut-line.result.now ≡ line = cc in
    record {
      account = c.offer.new.self;
      set = ap (λ (l : Line). slice_set c.args.lines.now.items c.args.place (record {
        account = c.offer.new.self;
        priority = l.priority;
        longest_wait = l.longest_wait;
        goes = l.goes;
      })) same;
      time_is = c.offer.ensures.time;
      answer = λ rule past x stands. c.offer.ensures.answer rule past x
          (subst (λ (l : Line). StandsForOwn rule l.account past) (sym same) stands);
      stands = λ rule past x stands. c.offer.ensures.stands rule past x
          (subst (λ (l : Line). StandsForOwn rule l.account past) (sym same) stands);
    }
