use Rattle.std.proofs.Common.{arith, rules, ◌≡◌, None, Some}
use Rattle.std.proofs.lemmas.Str.Pattern.{split_parts}
use Rattle.afdx_command_words.specs.PlaceSaid.{spot_of}
use Rattle.afdx_command_words.proofs.PlaceLemmas.{uncut-read, no-number-read, high-number-read, no-place-read, word-read}
use Rattle.afdx_command_words.proofs.place_words.interface_in.Goals as goal

pub returns-in_err-digits-clause-read : goal.returns-in_err-digits-clause-read
returns-in_err-digits-clause-read c =
    let lacks = split_parts 61 c.args.word.now None c.in_err-digits.ensures.cases (omega arith) in
    let none : c.from_residual.result ≡ None = search rules in
    rw none (uncut-read c.args.word.now lacks)

pub returns-in_err-interface-clause-read : goal.returns-in_err-interface-clause-read
returns-in_err-interface-clause-read c =
    let parts = split_parts 61 c.args.word.now (Some (c.in_ok-digits.digits, c.in_ok-digits.place))
    c.in_ok-digits.ensures.cases (omega arith) in
    let none : c.from_residual-in_err-interface.result ≡ None = search rules in
    rw none (no-number-read c.args.word.now c.in_ok-digits.digits.now c.in_ok-digits.place.now parts.0 parts.1
    c.in_err-interface.ensures)

pub returns-then-interface-gt-LAST_INTERFACE-clause-read :
    goal.returns-then-interface-gt-LAST_INTERFACE-clause-read
returns-then-interface-gt-LAST_INTERFACE-clause-read c =
    let parts = split_parts 61 c.args.word.now (Some (c.in_ok-digits.digits, c.in_ok-digits.place))
    c.in_ok-digits.ensures.cases (omega arith) in
    high-number-read c.args.word.now c.in_ok-digits.digits.now c.in_ok-digits.place.now parts.0 parts.1
    c.in_ok-interface.interface c.in_ok-interface.ensures c.if-interface-gt-LAST_INTERFACE.true

pub returns-in_err-place_in-clause-read : goal.returns-in_err-place_in-clause-read
returns-in_err-place_in-clause-read c =
    let parts = split_parts 61 c.args.word.now (Some (c.in_ok-digits.digits, c.in_ok-digits.place))
    c.in_ok-digits.ensures.cases (omega arith) in
    let none : c.from_residual-in_err-place_in.result ≡ None = search rules in
    rw none (no-place-read c.args.word.now c.in_ok-digits.digits.now c.in_ok-digits.place.now parts.0 parts.1
    c.in_ok-interface.interface c.in_ok-interface.ensures c.in_err-place_in.ensures)

pub returns-clause-read : goal.returns-clause-read
returns-clause-read c =
    let parts = split_parts 61 c.args.word.now (Some (c.in_ok-digits.digits, c.in_ok-digits.place))
    c.in_ok-digits.ensures.cases (omega arith) in
    word-read c.args.word.now c.in_ok-digits.digits.now c.in_ok-digits.place.now parts.0 parts.1
    c.in_ok-interface.interface c.in_ok-interface.ensures c.if-interface-gt-LAST_INTERFACE.false
    (spot_of c.in_ok-place_in.field-0) c.in_ok-place_in.ensures
