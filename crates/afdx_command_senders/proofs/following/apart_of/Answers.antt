use Rattle.std.proofs.Common.{sym, ◌∙◌}
use Rattle.afdx_senders.specs.Terms.{terms_at}
use Rattle.afdx_command_senders.proofs.following.apart_of.Goals as goal

pub returns-in-Some : goal.returns-in-Some
returns-in-Some c = λ n taps z l there h.
    c.in-Some-given.ensures.given (terms_at z.tables z.recorded z.asked c.args.place l) (h.given ∙ c.in-Some.is)

pub returns : goal.returns
returns c = λ n taps z l there h.
    c.left_by.ensures (terms_at z.tables z.recorded z.asked c.args.place l) (h.given ∙ c.in_default.is)
    (h.ways c.args.place l there ∙ sym (c.in_ok-ways.ensures l there))
