-- Where a low flow goes through a port, the low bound is a number.
use Rattle.std.proofs.lemmas.Bool.{lt-ltb}
use Rattle.std.proofs.Common.{◌≡◌, ◌-◌, true, nat_lt, length, Some, None, if◌then◌else◌, ap, arith}
use Rattle.std.specs.Int.{div_ceil}
use Rattle.afdx_frame.specs.Regulation.{byte_units}
use Rattle.afdx_config.specs.Lawful.{IsSystem, jitter_from_any}
use Rattle.afdx_frame.specs.Flows.{low_wait, high_load}
use Rattle.afdx_frame.proofs.ListLemmas.{AllByRecursion-slice_get}
use Rattle.afdx_admit.specs.Lines.{loaded_output_to, low_bound_of}
use Rattle.afdx_admit.specs.Laws.{LowBoundIsANumber}
use Rattle.afdx_admit.proofs.OutputLemmas.{left_some_at, rates_some}
use Rattle.afdx_admit.proofs.SmallLemmas.{is_rate}

pub low_bound-number : LowBoundIsANumber
unfolding low_bound_of
low_bound-number t lawful place s at fits f stands =
    let o = loaded_output_to t place s in
    let h = high_load o.byte_ns o.flows in
    let row = AllByRecursion-slice_get (IsSystem t.profile) t.systems place s lawful.systems.each at in
    let rate = is_rate t.profile s.rate row.rate in
    let left = left_some_at o.byte_ns rate.fast o.flows f
    (rates_some jitter_from_any (length t.systems) place t.links lawful.links.each) fits stands in
    let below : nat_lt h byte_units ≡ true = lt-ltb h byte_units (omega (arith, left)) in
    ap (λ b. if b then Some (div_ceil (low_wait o.byte_ns o.flows) (byte_units - h)) else None) below
