use Rattle.afdx_command_words.proofs.PuttingLemmas.{said-left-out, said-named, said-on}
use Rattle.afdx_command_words.proofs.place_words.place_meant.Goals as goal

pub returns-in-LeftOut : goal.returns-in-LeftOut
returns-in-LeftOut c = said-left-out c.args.interfaces.now c.args.said c.in-LeftOut.is

pub returns-in-At-default-None-default : goal.returns-in-At-default-None-default
returns-in-At-default-None-default c =
    let arm = c.in-At-default-None-default in
    said-on c.args.interfaces.now c.args.said arm.side arm.field-1 arm.port c.place_on.result arm.is
    (rw arm.is at arm.field-1-is) c.place_on.ensures

pub returns-in_ok-number-in-At-default-Some-default : goal.returns-in_ok-number-in-At-default-Some-default
returns-in_ok-number-in-At-default-Some-default c =
    let arm = c.in-At-default-Some-default in
    let named = c.in_ok-number-in-At-default-Some-default in
    said-named c.args.interfaces.now c.number_of_name.new.interfaces c.args.said arm.side arm.field-1 arm.name
    arm.port named.number arm.is (rw arm.is at arm.field-1-is) named.ensures.number named.ensures.names
    named.ensures.places
