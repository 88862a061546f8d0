use Rattle.std.proofs.Common.{◌≡◌, sym, ◌∙◌, subst, arith, refl, []}
use Rattle.afdx_config.specs.Rows.{LinkRow, link_row, system_row}
use Rattle.afdx_police.specs.LinkAccounts.{StandsForOwn}
use Rattle.afdx_switch.specs.New.{IsNewLine}
use Rattle.afdx_switch.specs.declared.line.Line.{Line}
use Rattle.afdx_switch.specs.Tables.{row_of}
use Rattle.afdx_switch.proofs.NewLemmas.{rule-is}
use Rattle.afdx_switch.proofs.build.line.Goals as goal

pub returns : goal.returns
returns c l at =
    let here = c.link-link.ensures.row in
    let same : link_row c.link-link.result.now ≡ l = cc in
    let rule = c.in-Some.ensures.given
    ∙ sym (rule-is c.args.tables.now (link_row c.link-link.result.now)
    (system_row c.system-sender.result.now) c.system-sender.ensures.row) in
    let new : Line = record {
      account = c.new.result;
      priority = c.link-link.result.now.priority;
      longest_wait = c.longest_wait.result;
      goes = c.ports_of.result;
    } in
    subst (λ (m : LinkRow). IsNewLine (row_of c.args.tables.now m) new) same
    (record {
      is = λ side. record {
        account = subst (λ r. StandsForOwn r c.new.result []) rule c.new.ensures.stands;
        priority = refl;
        longest_wait = c.longest_wait.ensures.is;
        goes = λ place below. c.ports_of.ensures.each (link_row c.link-link.result.now) place here below;
      };
      sound = record {
        in_time = omega (arith, c.new.ensures.time);
        wait = c.longest_wait.ensures.small;
        goes = c.ports_of.ensures.places;
      };
    })
