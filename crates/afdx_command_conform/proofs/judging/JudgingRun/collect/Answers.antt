use Rattle.std.proofs.Common.{refl, sym, ap, ◌∙◌, subst}
use Rattle.afdx_command_conform.specs.Awaited.{IsBefore, awaited}
use Rattle.afdx_command_conform.specs.Slots.{told_at}
use Rattle.afdx_command_conform.specs.Standing.{StreamsStand}
use Rattle.afdx_command_conform.specs.Told.{HasTold, told_by}
use Rattle.afdx_command_conform.proofs.FullLemmas.{lines-told, none-there, some-end, some-there, stands-later, stands-same, stands-taken, told-more}
use Rattle.afdx_command_conform.proofs.KeptLemmas.{in-time}
use Rattle.afdx_command_conform.proofs.ToldLemmas.{told-rules, works-more, works-same}
use Rattle.afdx_command_conform.proofs.BegunLemmas.{up-to}
use Rattle.afdx_command_conform.proofs.judging.JudgingRun.collect.Goals as goal

pub loop-lines-preserved : goal.loop-lines-preserved
loop-lines-preserved c = record {
  stands = λ k last time frames dues up early h.
      let old = c.loop-lines.invariant.stands k last time frames dues up early h in
      let l = c.in-Some.lines in
      let all = told_by c.loop-lines.due.items dues in
      subst (λ told. HasTold k last time c.add.new.self frames told)
      (sym (told-more l.key l.moment l.lines.items _ _ dues c.in_ok-add.ensures.added)) (
        works-more k frames c.loop-lines.self c.add.new.self all (told_at l.key l.moment l.lines.items all)
            l.lines.items
            (told-rules c.add.ensures.others.streams c.take_before.ensures.rules)
            c.add.ensures.others.choices
            c.add.ensures.others.left_out c.add.ensures.others.latest
            c.in_ok-add.ensures.counted (lines-told l.key l.moment l.lines.items all) old.0,
        stands-taken k frames last time c.loop-lines.self c.add.new.self all l.key l.moment l.lines.items
            (λ until s. subst (λ st. StreamsStand k.0 k.1 until frames
            (told_at l.key l.moment l.lines.items all) time st)
            (sym c.add.ensures.others.streams)
            (some-there c.in_ok-lines.field-0 l (λ x. StreamsStand k.0 k.1 until frames
            (told_at x.key x.moment x.lines.items all) time c.take_before.new.self) c.in-Some.is
            (c.in_ok-lines.ensures.told k.0 k.1 until time frames all (λ none. up (sym c.loop-lines.invariant.ended
            ∙ none)) s)))
            (λ e. in-time time c.args.before (awaited l.moment l.key) (early e)
            (some-there c.in_ok-lines.field-0 l (λ x. IsBefore c.args.before (awaited x.moment x.key)) c.in-Some.is
            c.in_ok-lines.ensures.in_time))
            (ap (λ s. s.ended) c.add.ensures.others.streams ∙ c.take_before.ensures.ended)
            old.1,
      );
  ended = ap (λ s. s.ended) c.add.ensures.others.streams ∙ c.take_before.ensures.ended
      ∙ c.loop-lines.invariant.ended;
}

pub returns-clause-stands : goal.returns-clause-stands
returns-clause-stands c k last time to frames dues on h =
    let all = told_by c.loop-lines.due.items dues in
    let old = c.loop-lines.invariant.stands k last to frames dues
    (λ none. up-to to c.args.before (on.running none))
    (λ e. up-to to c.args.before (on.early e))
    (h.0, stands-later k frames last last (λ e. e) time to c.args.self.now _ on.later on.said on.ends h.1) in
    let some = some-end k.1.until frames c.loop-lines.self.streams.ended in
    let s = old.1.all some.0 some.1 in (
      (
        works-same k frames c.loop-lines.self _ all c.take_before.ensures.rules refl refl refl refl old.0,
        stands-same k frames last to c.loop-lines.self _ all
            (λ until st. (none-there c.in_ok-lines.field-0 c.in_default.is
            (c.in_ok-lines.ensures.none k.0 k.1 until to frames all st)).0) c.take_before.ensures.ended old.1,
      ),
      (none-there c.in_ok-lines.field-0 c.in_default.is (c.in_ok-lines.ensures.none k.0 k.1 some.0 to frames all
          s.streams)).1,
    )
