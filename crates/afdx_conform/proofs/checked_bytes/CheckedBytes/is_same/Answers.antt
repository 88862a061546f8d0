use Rattle.std.proofs.Common.{◌≡◌, ◌∙◌, refl}
use Rattle.std.specs.Bool.{Decides}
use Rattle.std.proofs.lemmas.Bool.Decides.{Decides-eqb}
use Rattle.std.proofs.lemmas.Slice.Eq.{slice_eq-Decides}
use Rattle.afdx_frame.specs.Seals.{whole}
use Rattle.afdx_conform.proofs.CheckedLemmas.{same_kind, swapped, wrongly}
use Rattle.afdx_conform.proofs.checked_bytes.CheckedBytes.is_same.Goals as goal

pub returns-in-Wrong-Missing : goal.returns-in-Wrong-Missing
returns-in-Wrong-Missing c =
    rw (← c.self.view_is, ← c.other.view_is)
    (wrongly c.self.inside.seal c.other.inside.seal c.self.inside.message.value.items c.other.inside.message.value.items
    c.bytes_in-message.result.now c.bytes_in-others.result.now c.is_sealed_wrongly.result
    c.in-Wrong-Missing.is-0 c.in-Wrong-Missing.is-1 c.bytes_in-message.ensures c.bytes_in-others.ensures
    c.is_sealed_wrongly.ensures
    ∙ swapped (whole c.other.inside.seal c.other.inside.message.value.items)
    (whole c.self.inside.seal c.self.inside.message.value.items))

pub returns-in-Missing-Wrong : goal.returns-in-Missing-Wrong
returns-in-Missing-Wrong c =
    rw (← c.self.view_is, ← c.other.view_is)
    (wrongly c.other.inside.seal c.self.inside.seal c.other.inside.message.value.items c.self.inside.message.value.items
    c.bytes_in-others.result.now c.bytes_in-message.result.now c.is_sealed_wrongly-in-Missing-Wrong.result
    c.in-Missing-Wrong.is-1 c.in-Missing-Wrong.is-0 c.bytes_in-others.ensures c.bytes_in-message.ensures
    c.is_sealed_wrongly-in-Missing-Wrong.ensures)

pub returns-then-is_sealed_alike : goal.returns-then-is_sealed_alike
returns-then-is_sealed_alike c =
    let same : Decides c.eq.result (c.bytes_in-message.result.now ≡ c.bytes_in-others.result.now) =
    slice_eq-Decides Decides-eqb _ _ _ c.eq.ensures in
    rw (← c.self.view_is, ← c.other.view_is)
    (same_kind c.self.inside.seal c.other.inside.seal c.other.inside.seal
    c.self.inside.message.value.items c.other.inside.message.value.items c.bytes_in-message.result.now
    c.bytes_in-others.result.now
    c.eq.result (c.is_sealed_alike.ensures.0 c.if-is_sealed_alike.true) refl
    c.bytes_in-message.ensures c.bytes_in-others.ensures same)
