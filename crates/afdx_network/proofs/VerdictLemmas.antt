-- What a verdict says of an arrival.
use Rattle.std.proofs.Common.{◌≡◌, ℕ, Bool, false, List, [], ◌∷◌, refl, sym, ap, ◌∙◌, if◌then◌else◌}
use Rattle.std.specs.Prelude.{Result, Ok, Err, IfOk, Some, filter}
use Rattle.afdx_config.specs.Lawful.{IsLawfulSwitch}
use Rattle.afdx_config.specs.Rows.{Rows}
use Rattle.afdx_police.specs.Arrival.{Arrival}
use Rattle.afdx_police.specs.declared.shape.Reason.{Reason}
use Rattle.afdx_switch.specs.Tables.{output_at}
use Rattle.afdx_switch.specs.Verdicts.{reason_of, is_share_lost, is_lost_at, numbers, lost_ports, IsVerdict}
use Rattle.afdx_switch.specs.declared.verdict.Verdict.{Verdict}
use Rattle.afdx_switch.specs.declared.verdict.Verdict.TheVariants.{Dropped, Accepted}
use Rattle.afdx_switch.proofs.ArrivalLemmas.{dropped-sent}
use Rattle.afdx_switch.proofs.LawLemmas.{named-place, lost-listed}
use Rattle.afdx_network.specs.Events.{admission_after}
use Rattle.afdx_network.specs.Network.{Tells, ports_in}

none-pass : (f : ℕ → Bool) (xs : List ℕ) → ((x : ℕ) → f x ≡ false) → filter f xs ≡ []
none-pass f [] fails = refl
none-pass f (x ∷ xs) fails = ap (λ b. if b then x ∷ filter f xs else filter f xs) (fails x) ∙ none-pass f xs fails

-- a frame that is dropped is lost nowhere
dropped-nowhere : (t : Rows) (past : List Arrival) (x : Arrival) (reason : Reason) → IsLawfulSwitch t
    → reason_of t past x ≡ Some reason → (port : ℕ) → is_lost_at t past x port ≡ false
unfolding is_lost_at
dropped-nowhere t past x reason lawful is port =
    let at = named-place t x.bytes lawful in
    ap (is_share_lost t past x port) (dropped-sent t x past at.0 (output_at t x.side port) reason at.1 is)

none-lost : (t : Rows) (past : List Arrival) (x : Arrival) (reason : Reason) → IsLawfulSwitch t
    → reason_of t past x ≡ Some reason → lost_ports t past x ≡ []
unfolding lost_ports
none-lost t past x reason lawful is =
    none-pass (is_lost_at t past x) numbers (dropped-nowhere t past x reason lawful is)

tells : (t : Rows) (past : List Arrival) (x : Arrival) (v : Verdict) → IsLawfulSwitch t
    → IsVerdict t past x v → Tells v (admission_after t past x)
unfolding ports_in
tells t past x (Dropped reason) lawful is = record { reason = sym is; lost = sym (none-lost t past x reason lawful is) }
tells t past x (Accepted lost) lawful is = record { reason = sym is.0; lost = lost-listed t past x lost is }

pub if-tells : {E : Type 0} (t : Rows) (past : List Arrival) (x : Arrival) (r : Result Verdict E)
    → IsLawfulSwitch t → IfOk r (IsVerdict t past x) → IfOk r (λ v. Tells v (admission_after t past x))
if-tells t past x (Ok v) lawful is = tells t past x v lawful is
if-tells t past x (Err e) lawful is = tt
