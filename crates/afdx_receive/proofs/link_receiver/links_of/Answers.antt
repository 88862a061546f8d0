use Rattle.std.proofs.Common.{refl, arith}
use Rattle.afdx_config.specs.Rows.{link_row}
use Rattle.afdx_receive.proofs.TableLemmas.{none_so_far, link_passed, link_added}
use Rattle.afdx_receive.proofs.link_receiver.links_of.Goals as goal
use Rattle.afdx_receive.proofs.link_receiver.links_of.Goals.{then-goes_to+in_ok-insert, else-goes_to}

pub insert-requires-clause-absent : goal.insert-requires-clause-absent
insert-requires-clause-absent c =
    rw c.new.ensures
    (none_so_far c.args.system.0 c.args.tables.now.links c.loop-index.index (link_row c.link-link.result.now)
    c.loop-index.links c.loop-index.invariant.so_far c.link-link.ensures.lawful.links.identifiers
    c.link-link.ensures.row)

pub loop-index-preserved : goal.loop-index-preserved
loop-index-preserved c =
    let links = c.args.tables.now.links in
    let link = link_row c.link-link.result.now in
    elim c.if-goes_to.branch [
      | then-goes_to+in_ok-insert w ↦ record {
        so_far = rw w.links-is (link_added c.args.system.0 links c.loop-index.index link
            c.link-link.result.now.vl.0 c.loop-index.links w.insert.new.self
            c.loop-index.invariant.so_far c.link-link.ensures.lawful.links.identifiers
            c.link-link.ensures.row refl (rw c.goes_to.ensures at w.if-goes_to.true)
            (rw w.new.ensures at w.in_ok-insert.ensures.updates));
        few = rw w.links-is (omega (arith, w.in_ok-insert.ensures.count, c.loop-index.invariant.few));
      }
      | else-goes_to w ↦ record {
        so_far = rw w.links-is (link_passed c.args.system.0 links c.loop-index.index link c.loop-index.links
            c.loop-index.invariant.so_far c.link-link.ensures.row (rw c.goes_to.ensures at w.if-goes_to.false));
        few = rw w.links-is (omega (arith, c.loop-index.invariant.few));
      }
    ]
