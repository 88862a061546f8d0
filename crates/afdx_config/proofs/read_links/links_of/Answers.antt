use Rattle.std.proofs.Common.{length, refl, arith}
use Rattle.std.proofs.lemmas.Grind.{common_steps}
use Rattle.afdx_config.specs.Rows.{link_row}
use Rattle.afdx_config.specs.Lawful.{jitter_from_any}
use Rattle.afdx_config.proofs.GrownLemmas.{no_links, links_push, sent_push}
use Rattle.afdx_config.proofs.read_links.links_of.Goals as goal

pub loop-table-init : goal.loop-table-init
loop-table-init c = rw c.new-links.ensures
    (record {
      so_far = refl;
      count = refl;
      lawful = no_links jitter_from_any (length c.args.ends.now);
      sent = λ i l at. absurd (cc at);
    })

pub loop-table-preserved : goal.loop-table-preserved
loop-table-preserved c =
    record {
      so_far = grind (arith, common_steps);
      count = grind (arith, common_steps);
      lawful = rw c.in_ok-push.ensures
          (links_push jitter_from_any (length c.args.ends.now) c.loop-table.links (link_row c.in_ok-link.link)
          c.loop-table.invariant.lawful (omega arith) c.in_ok-link.ensures.lawful.link
          c.in_ok-link.ensures.fresh);
      sent = rw c.in_ok-push.ensures
          (sent_push c.args.own c.loop-table.links (link_row c.in_ok-link.link) c.loop-table.invariant.sent
          c.in_ok-link.ensures.lawful.sent);
    }
