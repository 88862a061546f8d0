use Rattle.std.proofs.Common.{rules, ◌≡◌, ◌∷◌, [], Ok, Err, inl, inr, ap, sym, ◌∙◌, refl, subst}
use Rattle.afdx_input_sources.proofs.EngineLemmas.{told-some, runs-ended, same-item}
use Rattle.afdx_input_sources.proofs.engine.drive.Goals as goal

pub loop-source-init : goal.loop-source-init
loop-source-init g c = ([], search rules, c.requires.gave, refl, refl, λ law told can. told)

pub next-requires : goal.next-requires
next-requires g c =
    let i = c.loop-source.invariant in
    (c.args.input.now, i.0, i.2)

pub returns-in_err-next-clause-answer : goal.returns-in_err-next-clause-answer
returns-in_err-next-clause-answer g c law start can =
    let i = c.loop-source.invariant in
    let stop = c.in_err-next.ensures.stop c.args.input.now i.0 i.2 in
    let e : c.from_residual.result ≡ Err c.in_err-next.field-0.0 = search rules in
    rw e (i.0, inl (stop, i.5 law start can))

pub tell-requires : goal.tell-requires
tell-requires g c =
    let i = c.loop-source.invariant in
    let told = c.requires.told in
    let item = c.in_ok-next.ensures.item c.args.input.now i.0 i.2 (ap Ok c.in-Given.is) in
    let same = same-item (g.S.Source.current c.next.new.self) c.number.result c.head-head.result
    c.bytes.result.now c.number.ensures c.head-head.ensures c.bytes.ensures in
    let given = subst (λ s. g.S.Source.Gives s (g.S.Source.current c.next.new.self))
    (c.in_ok-next.ensures.settings ∙ i.3) item.2 in
    record {
      sound = i.1;
      told = (
        told.0,
        g.O.Sink.written c.args.output.now,
        i.0,
        i.5 told.0 told.1 told.2,
        subst (λ x. g.H.Head.can_follow i.0 x) (sym same) item.1,
        subst (λ x. g.M.Machine.Can told.0 x) (sym same) (told.2 _ given),
      );
    }

pub loop-source-preserved : goal.loop-source-preserved
loop-source-preserved g c =
    let i = c.loop-source.invariant in
    let item = c.in_ok-next.ensures.item c.args.input.now i.0 i.2 (ap Ok c.in-Given.is) in
    let same = same-item (g.S.Source.current c.next.new.self) c.number.result c.head-head.result
    c.bytes.result.now c.number.ensures c.head-head.ensures c.bytes.ensures in
    let given = subst (λ s. g.S.Source.Gives s (g.S.Source.current c.next.new.self))
    (c.in_ok-next.ensures.settings ∙ i.3) item.2 in
    let old = g.O.Sink.written c.args.output.now in (
      g.S.Source.current c.next.new.self ∷ i.0,
      c.in_ok-tell.ensures.sink.failed,
      item.0,
      c.in_ok-next.ensures.settings ∙ i.3,
      c.tell.ensures.sink.settings ∙ i.4,
      λ law start can. subst (λ x. g.M.Machine.Told law c.tell.new.self old
          (g.O.Sink.written c.tell.new.output) (x ∷ i.0)) same
          (c.in_ok-tell.ensures.told law old i.0 (i.5 law start can)
          (subst (λ x. g.H.Head.can_follow i.0 x) (sym same) item.1)
          (subst (λ x. g.M.Machine.Can law x) (sym same) (can _ given))),
    )

pub returns-in_err-tell-clause-answer : goal.returns-in_err-tell-clause-answer
returns-in_err-tell-clause-answer g c law start can =
    let i = c.loop-source.invariant in
    let item = c.in_ok-next.ensures.item c.args.input.now i.0 i.2 (ap Ok c.in-Given.is) in
    let same = same-item (g.S.Source.current c.next.new.self) c.number.result c.head-head.result
    c.bytes.result.now c.number.ensures c.head-head.ensures c.bytes.ensures in
    let begins = c.in_err-tell.ensures.begins law (g.O.Sink.written c.args.output.now) i.0 (i.5 law start can) in
    let e : c.from_residual-in_err-tell.result ≡ Err c.in_err-tell.field-0.0 = search rules in
    rw e (
      g.S.Source.current c.next.new.self ∷ i.0,
      inr (
        c.in_err-tell.ensures.sink.fault,
        inl item.0,
        told-some (g.M.Machine.Begins law c.tell.new.self (g.O.Sink.written c.args.output.now)
            (g.O.Sink.written c.tell.new.output)) i.0 same begins,
      ),
    )

pub end-requires : goal.end-requires
end-requires g c =
    let i = c.loop-source.invariant in
    let told = c.requires.told in
    record {
      sound = i.1;
      told = (told.0, g.O.Sink.written c.args.output.now, i.0, i.5 told.0 told.1 told.2);
    }

pub returns-clause-answer : goal.returns-clause-answer
returns-clause-answer g c law start can =
    let i = c.loop-source.invariant in
    let old = g.O.Sink.written c.args.output.now in
    runs-ended _ _ _ _ _ _ i.0 _
    (c.in_ok-next.ensures.end c.args.input.now i.0 i.2 (search rules))
    (λ a e. rw e at (c.end.ensures.done law old i.0 (i.5 law start can)))
    (λ fault e. (rw e at c.end.ensures.sink.fault, rw e at (c.end.ensures.begins law old i.0 (i.5 law start can))))
