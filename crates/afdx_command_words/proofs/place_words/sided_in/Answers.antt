use Rattle.std.proofs.Common.{refl}
use Rattle.afdx_command_words.specs.PlaceSaid.{IsWord, spot_of}
use Rattle.afdx_command_words.proofs.place_words.sided_in.Goals as goal

pub returns-in-Some-default-At-default-None-default-clause-said :
    goal.returns-in-Some-default-At-default-None-default-clause-said
returns-in-Some-default-At-default-None-default-clause-said c =
    let read : IsWord c.args.given.word.now c.in-Some-default-At-default-None-default.interface
    (spot_of c.in-Some-default-At-default-None-default.field-0-1) =
    c.in-Some-default-At-default-None-default.ensures.read.given
    (c.in-Some-default-At-default-None-default.interface, spot_of c.in-Some-default-At-default-None-default.field-0-1)
    refl in
    rw (
      c.in-Some-default-At-default-None-default.field-0-1-is,
      c.in-Some-default-At-default-None-default.field-0-1-1-is,
    ) at read
