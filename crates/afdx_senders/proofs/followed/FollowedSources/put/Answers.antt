use Rattle.std.proofs.Common.{Some}
use Rattle.afdx_senders.proofs.FollowedLemmas.{put_there}
use Rattle.afdx_senders.proofs.followed.FollowedSources.put.Goals as goal

pub returns-clause-follows : goal.returns-clause-follows
returns-clause-follows c at f stands are =
    put_there at c.args.self.now.slots.items c.args.place (Some c.args.source) are c.requires.within f stands
