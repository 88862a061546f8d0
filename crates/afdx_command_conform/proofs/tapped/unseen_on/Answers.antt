use Rattle.std.proofs.Common.{◌≤◌, length, get_or, sym, ap, ◌∙◌, arith}
use Rattle.std.proofs.lemmas.List.{take_all}
use Rattle.std.proofs.lemmas.Option.{slice_get-get_or}
use Rattle.afdx_command_conform.specs.Sight.{sight_in}
use Rattle.afdx_command_conform.specs.Tapped.{unseen_among}
use Rattle.afdx_command_conform.proofs.GivenLemmas.{blank}
use Rattle.afdx_command_conform.proofs.TappedLemmas.{among-next, among-none}
use Rattle.afdx_command_conform.proofs.tapped.unseen_on.Goals as goal

pub loop-link-init : goal.loop-link-init
loop-link-init c = record {
  count = sym (among-none c.args.tables.now (sight_in c.args.tables.now c.args.taps.now) c.args.side);
  few = omega arith;
}

pub loop-link-preserved : goal.loop-link-preserved
loop-link-preserved c =
    let links = c.args.tables.now.links in
    let link = c.loop-link.link in
    let l = get_or links link blank in
    let test = c.loop-link-test.true in
    let many = c.link_count-link-end.ensures.count in
    let at = slice_get-get_or links link blank (omega (arith, test, many)) in
    record {
      count =
          let before = c.loop-link.invariant.count in
          let here = c.unseen_to-count.ensures.count l at in
          let next = among-next c.args.tables.now (sight_in c.args.tables.now c.args.taps.now) c.args.side links
          link l at in
          omega (arith, before, here, next);
      few = let before = c.loop-link.invariant.few in let here = c.unseen_to-count.ensures.few in
          omega (arith, before, here);
    }

pub returns-clause-count : goal.returns-clause-count
returns-clause-count c =
    let test = c.loop-link-test.false in
    let many = c.link_count-link-end.ensures.count in
    let le : length c.args.tables.now.links ≤ c.loop-link.link = omega (arith, test, many) in
    c.loop-link.invariant.count
    ∙ ap (λ xs. unseen_among c.args.tables.now (sight_in c.args.tables.now c.args.taps.now) c.args.side xs)
    (take_all c.loop-link.link c.args.tables.now.links le)

pub returns-clause-few : goal.returns-clause-few
returns-clause-few c =
    let few = c.loop-link.invariant.few in
    let test = c.loop-link-test.false in
    let auto = c.loop-link.auto.link-end in
    let many = c.link_count-link-end.ensures.count in
    let most = c.link_count-link-end.ensures.lawful.links.count in
    omega (arith, few, test, auto, many, most)
