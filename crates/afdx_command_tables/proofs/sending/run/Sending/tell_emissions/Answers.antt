use Rattle.std.proofs.Common.{◌∷◌, ◌∙◌, List, subst, refl, arith, ap, sym}
use Rattle.afdx_send.specs.Sender.{Gives, frames_held, last_time}
use Rattle.afdx_command_tables.specs.sending.Sent.{WritesSome}
use Rattle.afdx_input_sources.specs.Listed.{Handed}
use Rattle.afdx_command_tables.specs.sending.Events.{Emitted, calls_in}
use Rattle.afdx_text.proofs.OutputLemmas.{on-err}
use Rattle.afdx_command_tables.proofs.SendLemmas.{told-emitted, told-later, told-some, begun-emitted, done-at, if-none}
use Rattle.afdx_command_tables.proofs.sending.run.Sending.tell_emissions.Goals as goal

pub loop-emission-preserved : goal.loop-emission-preserved
loop-emission-preserved g c =
    record {
      clock = omega (arith, c.emit.ensures.clock, ap (λ w. last_time w) c.give_back.ensures);
      sound = c.in_ok-put_emission.ensures.sink.failed;
      settings = c.put_emission.ensures.sink.settings ∙ c.loop-emission.invariant.settings;
      room = λ n h.
          let r = c.loop-emission.invariant.room n h in
          let held = rw c.in-Some.is at c.in_ok-emission.ensures.held in
          let same = ap (λ w. frames_held w) c.give_back.ensures in
          record { submissions = r.submissions; emissions = (let e = r.emissions in omega (arith, e, held, same)) };
      told = λ s events start h.
          let k = c.loop-emission.invariant.told s events start h in
          let e = rw c.in-Some.is at (c.in_ok-emission.ensures.given _ k.told.stands) in
          let g = subst (λ w. Gives (calls_in s.row s.links k.more (last_time c.loop-emission.self.sender))
          c.args.until c.in-Some.emission w) (sym c.give_back.ensures) e in
          record {
            more = Emitted g.slot ∷ k.more;
            submissions_are = k.submissions_are;
            told = told-emitted s _ c.give_back.new.self _ _ _ _ start _ _ k.more _ _ k.told g
                (ap (λ w. last_time w) c.give_back.ensures ∙ c.emit.ensures.clock)
                refl refl c.in_ok-put_emission.ensures.lines;
          };
    }

pub overflow_add-self : goal.overflow_add-self
overflow_add-self g c =
    let room = c.requires.room in
    let r = c.loop-emission.invariant.room room.0 room.2 in
    let held = rw c.in-Some.is at c.in_ok-emission.ensures.held in
    omega (arith, room.1, r.submissions, r.emissions, held)

pub returns-in_err-emission-clause-some : goal.returns-in_err-emission-clause-some
returns-in_err-emission-clause-some g c s events start h =
    let k = c.loop-emission.invariant.told s events start h in
    on-err c.from_residual.result _
    (subst (λ (p : List Handed). WritesSome s start
    (g.O.Sink.written c.loop-emission.output) p) k.submissions_are
    (told-some s _ _ _ start _ k.more k.told))

pub returns-in_err-put_emission-clause-some : goal.returns-in_err-put_emission-clause-some
returns-in_err-put_emission-clause-some g c s events start h =
    let k = c.loop-emission.invariant.told s events start h in
    let e = rw c.in-Some.is at (c.in_ok-emission.ensures.given _ k.told.stands) in
    on-err c.from_residual-in_err-put_emission.result _
    (subst (λ (p : List Handed). WritesSome s start
    (g.O.Sink.written c.put_emission.new.output) p) k.submissions_are
    (begun-emitted s _ _ _ _ _ start _ _ k.more _ _ k.told e
    refl c.in_err-put_emission.ensures.front))

pub returns-clause-told : goal.returns-clause-told
returns-clause-told g c s events start h =
    let k = c.loop-emission.invariant.told s events start h in
    record {
      told = record {
        more = k.more;
        submissions_are = k.submissions_are;
        told = told-later s _ _ _ c.args.until _ start _ k.more k.told
            (if-none c.in_ok-emission.field-0 _ c.in_default.not-Some
            (c.in_ok-emission.ensures.none _ k.told.stands)) c.emit.ensures.clock
            c.loop-emission.invariant.clock;
      };
      no_more = λ turn next. if-none c.in_ok-emission.field-0 _ c.in_default.not-Some
          (c.in_ok-emission.ensures.no_more _ turn k.told.stands next);
      done = λ late. done-at s k.more _
          (if-none c.in_ok-emission.field-0 _ c.in_default.not-Some
          (c.in_ok-emission.ensures.all_done _ k.told.stands late));
    }
