use Rattle.std.proofs.Common.{refl}
use Rattle.afdx_config.specs.Rows.{link_row}
use Rattle.afdx_send.proofs.NewLemmas.{new_line}
use Rattle.afdx_send.proofs.build.line.Goals as goal

pub returns : goal.returns
returns c = record {
  stands = new_line (link_row c.args.link.now) _ c.requires.0
      (record {
        vl = refl;
        least = refl;
        longest = refl;
        bag = c.in_ok-new.ensures.made.0;
        subs = c.in_ok-new.ensures.made.1;
      }) c.requires.1 c.in_ok-new.ensures.stands
      c.in_ok-new.ensures.empty refl;
  next = c.in_ok-new.ensures.next;
  held = c.in_ok-new.ensures.empty;
}
