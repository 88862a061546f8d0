use Rattle.std.proofs.Common.{ap, ◌∙◌, option_map}
use Rattle.afdx_senders.specs.Sites.{recorded_in}
use Rattle.afdx_senders.proofs.NewLemmas.{at_rest}
use Rattle.afdx_senders.proofs.senders.Senders.new.Goals as goal

pub returns-clause-nothing : goal.returns-clause-nothing
returns-clause-nothing c k before =
    at_rest c.args.tables.now (option_map (λ s. s.now) c.args.among) (recorded_in c.args.recorded) k before _ (record {
      tables = c.in_ok-sites.ensures.tables;
      among = c.in_ok-sites.ensures.among;
      recorded = ap recorded_in c.in_ok-sites.ensures.recorded;
      room = c.in_ok-kept.ensures.room ∙ c.link_count.ensures.count;
    }) (record {
      followed = c.in_ok-kept.ensures.none;
      agenda = λ place m due. absurd (cc);
    }) c.new-4.ensures
