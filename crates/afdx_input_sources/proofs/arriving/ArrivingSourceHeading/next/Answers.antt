use Rattle.std.proofs.Common.{rules, ◌∙◌, refl, sym, arith}
use Rattle.afdx_input_sources.proofs.ArrivingLemmas.{arrival-given, skipped-given}
use Rattle.afdx_input_sources.proofs.arriving.ArrivingSourceHeading.next.Goals as goal

pub next-requires : goal.next-requires
next-requires g c =
    let k = c.loop-kind.invariant.gave c.requires.0 c.requires.1 c.requires.2 in
    (c.requires.0, k.lines, k.known_so)

pub returns-in-Arrival-clause-item : goal.returns-in-Arrival-clause-item
returns-in-Arrival-clause-item g c start past h ok =
    let k = c.loop-kind.invariant.gave start past h in
    let item = c.in_ok-next.ensures.item start k.lines k.known_so (search rules) in
    let x = g.S.Source.current c.next.new.self in
    let given = arrival-given x k.lines c.in-Arrival.kind c.in-Arrival.time _ c.in-Arrival.side
    c.in-Arrival.switch c.in-Arrival.port c.has_own-own.result c.seal_by.result (sym c.head.ensures ∙ c.in-Arrival.is)
    (rw c.bytes.ensures at c.has_own-own.ensures) c.seal_by.ensures
    (g.S.Source.Gave start c.next.new.self c.next.new.input) past k.items_are item.0 item.1 in (
      given.0,
      given.1,
      record {
        source = c.next.new.self;
        start = start;
        input = c.next.new.input;
        past = past;
        works = refl;
        given = given.0;
      },
    )

pub loop-kind-preserved : goal.loop-kind-preserved
loop-kind-preserved g c =
    let less = c.next.ensures.less (search rules) in record {
      gave = λ start past h.
          let k = c.loop-kind.invariant.gave start past h in
          let item = c.in_ok-next.ensures.item start k.lines k.known_so (search rules) in
          skipped-given (g.S.Source.Gave start c.next.new.self c.next.new.input) past
          (g.S.Source.current c.next.new.self) c.in_default-head.field-0 k.lines
          (sym c.head.ensures ∙ c.in_default-head.is) k.items_are item.0;
      settings = c.next.ensures.settings ∙ c.loop-kind.invariant.settings;
      fewer = omega (arith, less, c.loop-kind.invariant.fewer);
    }
