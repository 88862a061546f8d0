use Rattle.std.proofs.Common.{◌≡◌, ◌∙◌, ◌++◌, ℕ, List, ap, ap₂}
use Rattle.std.specs.Int.{w32, to_le_bytes}
use Rattle.afdx_frame.specs.Sealing.{is_sealed, sealed}
use Rattle.afdx_frame.proofs.SealingLemmas.{sealed-is}
use Rattle.afdx_switch.proofs.switch.Departure.bytes.Goals as goal

pub returns-clause-sealed : goal.returns-clause-sealed
returns-clause-sealed c =
    let message = c.message-message.result.now in
    let whole : c.append-2.new.bytes.items ≡ sealed message =
    c.append-2.ensures
    ∙ ap₂ (λ (xs ys : List ℕ). xs ++ ys)
    (c.append.ensures ∙ ap (λ (xs : List ℕ). xs ++ message) c.new-bytes.ensures)
    (c.to_le_bytes.ensures ∙ ap (to_le_bytes w32) c.fcs.ensures.computed) in
    ap is_sealed whole ∙ sealed-is message
