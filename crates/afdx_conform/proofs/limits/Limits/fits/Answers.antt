use Rattle.std.proofs.Common.{◌≡◌, ◌+◌, ◌*◌, length, true, false, refl, sym, ◌∙◌}
use Rattle.std.proofs.lemmas.Bool.{le-leb, lt-leb}
use Rattle.std.specs.Int.{div_ceil}
use Rattle.std.specs.Str.{bytes_eq}
use Rattle.afdx_conform.specs.Levels.{parts}
use Rattle.afdx_conform.specs.Limits.{gone_of}
use Rattle.afdx_conform.proofs.LimitLemmas.{on_wire, fits-is, fits-other, fits-early, fits-last}
use Rattle.afdx_conform.proofs.limits.Limits.fits.Goals as goal

pub returns-then-not-is_same : goal.returns-then-not-is_same
returns-then-not-is_same c z x a at of =
    let other : bytes_eq c.args.bytes.now c.args.frame.now.bytes ≡ false =
    sym c.is_same.ensures ∙ c.if-not-is_same.true in
    sym (fits-is z x (gone_of c.args.frame.now) c.args.self.now c.args.time
    (div_ceil (parts * ((length c.args.bytes.now + 8) * c.args.self.now.byte_ns)) (parts + c.args.self.now.drift))
    c.args.bytes.now a at of refl
    ∙ fits-other _ _ _ other)

pub returns-then-frame-self : goal.returns-then-frame-self
returns-then-frame-self c z x a at of =
    let early = lt-leb (c.args.time + c.wire_time-wire.result) (c.args.frame.now.time + c.args.self.now.reach)
    c.if-frame-self.true in
    sym (fits-is z x (gone_of c.args.frame.now) c.args.self.now c.args.time c.wire_time-wire.result c.args.bytes.now a
    at of
    (on_wire c.args.self.now c.wire_time-wire.result c.length.result (length c.args.bytes.now) c.length.ensures
    c.wire_time-wire.ensures)
    ∙ fits-early (bytes_eq c.args.bytes.now c.args.frame.now.bytes) _ _ early)

pub returns : goal.returns
returns c z x a at of =
    let same : bytes_eq c.args.bytes.now c.args.frame.now.bytes ≡ true =
    sym c.is_same.ensures ∙ c.if-not-is_same.false in
    let stored = le-leb (c.args.time + c.wire_time-wire.result) (c.args.frame.now.time + c.args.self.now.reach)
    c.if-frame-self.false in
    sym (fits-is z x (gone_of c.args.frame.now) c.args.self.now c.args.time c.wire_time-wire.result c.args.bytes.now a
    at of
    (on_wire c.args.self.now c.wire_time-wire.result c.length.result (length c.args.bytes.now) c.length.ensures
    c.wire_time-wire.ensures)
    ∙ fits-last _ _ _ same stored)
