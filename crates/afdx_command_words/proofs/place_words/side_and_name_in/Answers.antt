use Rattle.std.proofs.Common.{arith, Some}
use Rattle.std.proofs.lemmas.Str.Pattern.{split_parts}
use Rattle.afdx_command_words.proofs.PlaceLemmas.{site-read}
use Rattle.afdx_command_words.proofs.place_words.side_and_name_in.Goals as goal

pub returns-in_ok-side_in-2 : goal.returns-in_ok-side_in-2
returns-in_ok-side_in-2 c =
    let parts = split_parts 32 c.args.word.now (Some (c.in-Some.side, c.in-Some.name)) c.in-Some.ensures.cases
    (omega arith) in
    site-read c.args.word.now c.in-Some.side.now c.in-Some.name.now parts.0 parts.1 c.in_ok-side_in-2.field-0
    c.in_ok-side_in-2.ensures (c.is_name.ensures.0 c.if-is_name.true)
