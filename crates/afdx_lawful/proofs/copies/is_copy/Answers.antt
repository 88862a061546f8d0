use Rattle.std.proofs.Common.{◌∙◌}
use Rattle.afdx_lawful.proofs.CopyLemmas.{copy_by, long_whole}
use Rattle.afdx_lawful.proofs.copies.is_copy.Goals as goal

pub is_alike-requires-clause-long : goal.is_alike-requires-clause-long
is_alike-requires-clause-long c =
    long_whole c.args.frame.seal c.args.frame.message.now c.args.frame.known c.requires.whole

pub is_alike-requires-clause-other_long : goal.is_alike-requires-clause-other_long
is_alike-requires-clause-other_long c =
    long_whole c.args.other.seal c.args.other.message.now c.args.other.known c.requires.other_whole

pub returns : goal.returns
returns c x y is is-other =
    c.is_alike.ensures
    ∙ copy_by c.args.frame.seal c.args.other.seal c.args.frame.message.now c.args.other.message.now x y
    c.args.frame.known c.args.other.known c.requires.whole c.requires.other_whole is is-other
