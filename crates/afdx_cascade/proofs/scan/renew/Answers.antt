use Rattle.std.proofs.Common.{◌<◌, ◌∙◌, Some, ap, sym, arith, length}
use Rattle.std.proofs.lemmas.Option.{slice_get-get_or}
use Rattle.afdx_cascade.proofs.KeyLemmas.{keys-renewed, least-set, least-stays}
use Rattle.afdx_cascade.proofs.scan.renew.Goals as goal

pub returns-then-key-least-clause-keys : goal.returns-then-key-least-clause-keys
returns-then-key-least-clause-keys c =
    rw (sym c.index-place.ensures.place) (λ old all others size.
    let own = rw (sym c.index-place.ensures.place) at c.key_of-key.ensures in
    let within : c.index-place.result < length c.args.keys.now.items =
    omega (arith, c.if-place-len.false, c.len.ensures) in
    keys-renewed old c.args.networks.now c.args.keys.now.items c.index-place.result c.key_of-key.result all others
    size within own)

pub returns-then-key-least-clause-least : goal.returns-then-key-least-clause-least
returns-then-key-least-clause-least c is =
    let within : c.index-place.result < length c.args.keys.now.items =
    omega (arith, c.if-place-len.false, c.len.ensures) in
    least-set c.args.keys.now.items c.index-place.result c.key_of-key.result c.args.least is within
    c.if-key-least.true

pub returns-then-before-least-clause-keys : goal.returns-then-before-least-clause-keys
returns-then-before-least-clause-keys c =
    rw (sym c.index-place.ensures.place) (λ old all others size.
    let own = rw (sym c.index-place.ensures.place) at c.key_of-key.ensures in
    let within : c.index-place.result < length c.args.keys.now.items =
    omega (arith, c.if-place-len.false, c.len.ensures) in
    keys-renewed old c.args.networks.now c.args.keys.now.items c.index-place.result c.key_of-key.result all others
    size within own)

pub returns-clause-keys : goal.returns-clause-keys
returns-clause-keys c =
    rw (sym c.index-place.ensures.place) (λ old all others size.
    let own = rw (sym c.index-place.ensures.place) at c.key_of-key.ensures in
    let within : c.index-place.result < length c.args.keys.now.items =
    omega (arith, c.if-place-len.false, c.len.ensures) in
    keys-renewed old c.args.networks.now c.args.keys.now.items c.index-place.result c.key_of-key.result all others
    size within own)

pub returns-clause-least : goal.returns-clause-least
returns-clause-least c is =
    let within : c.index-place.result < length c.args.keys.now.items =
    omega (arith, c.if-place-len.false, c.len.ensures) in
    least-stays c.args.keys.now.items c.index-place.result c.key_of-key.result c.index-before.result.now
    c.args.least is within c.if-key-least.false
    (slice_get-get_or c.args.keys.now.items c.index-place.result c.index-before.result.now within
    ∙ ap Some (sym c.index-before.ensures)) c.if-before-least.false
