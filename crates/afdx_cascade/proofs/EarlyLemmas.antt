-- By how much a frame that a cable brought came too early.
use Rattle.std.proofs.Common.{◌≡◌, ℕ, true, false, List, ◌∷◌, refl, sym, ap, ◌∙◌, subst}
use Rattle.std.specs.Prelude.{Some, None, Option}
use Rattle.afdx_config.specs.Rows.{Rows}
use Rattle.afdx_frame.specs.declared.link.Side.{Side}
use Rattle.afdx_police.specs.Arrival.{Arrival, arrival_with}
use Rattle.afdx_police.specs.Verdicts.{is_over_rate}
use Rattle.afdx_police.specs.declared.shape.Reason.{Reason}
use Rattle.afdx_police.specs.declared.shape.Reason.TheVariants.{OverRate}
use Rattle.afdx_police.proofs.EarlyLemmas.{is_over_rate-true}
use Rattle.afdx_port.specs.declared.left.Left.{Left}
use Rattle.afdx_port.specs.History.{left_of}
use Rattle.afdx_port.specs.Schedule.{Turn}
use Rattle.afdx_switch.specs.Early.{IsEarlyBy}
use Rattle.afdx_switch.specs.HeldFrames.{HeldFrame}
use Rattle.afdx_switch.specs.Verdicts.{reason_of, shape_fault}
use Rattle.afdx_switch.proofs.EarlyLemmas.{early-dropped, over-rate-sound}
use Rattle.afdx_cascade.specs.Cables.{brought}
use Rattle.afdx_cascade.specs.Turning.{IsWait, WasEarlyBy}

-- what left arrives as this
pub brought-is : (tag time : ℕ) (side other : Side) (port : ℕ) (bytes : List ℕ)
    (turn : Turn HeldFrame) (left : Left HeldFrame) → tag ≡ left.item.tag → time ≡ left.end
    → bytes ≡ left.item.bytes → side ≡ other → left ≡ left_of turn
    → arrival_with tag time side port bytes ≡ brought other port turn
brought-is tag time side other port bytes turn left tag_is time_is bytes_is side_is is =
    ap (λ n. arrival_with n time side port bytes)
    (tag_is ∙ ap (λ (l : Left HeldFrame). l.item.tag) is)
    ∙ ap (λ n. arrival_with turn.entry.item.tag n side port bytes)
    (time_is ∙ ap (λ (l : Left HeldFrame). l.end) is)
    ∙ ap (λ s. arrival_with turn.entry.item.tag turn.end s port bytes) side_is
    ∙ ap (λ b. arrival_with turn.entry.item.tag turn.end other port b)
    (bytes_is ∙ ap (λ (l : Left HeldFrame). l.item.bytes) is)

module _ (t : Rows) (past : List Arrival) (x : Arrival) (reason : Option Reason)
    (is : reason ≡ reason_of t past x) where
  -- it was dropped for its link's rate: by what the switch says with it among those that came
  pub early-told : (wait : ℕ) → is_over_rate reason ≡ true
      → (shape_fault t x ≡ None → IsEarlyBy t (x ∷ past) x wait) → WasEarlyBy t past x wait
  early-told wait over early =
      let dropped : reason_of t past x ≡ Some OverRate = sym is ∙ is_over_rate-true reason over in
      subst (λ b. IsWait b t past x wait) (sym (ap is_over_rate (sym is) ∙ over))
      (early-dropped t past x OverRate wait dropped (early (over-rate-sound t past x dropped)))

  -- or wasn't
  pub early-none : is_over_rate reason ≡ false → WasEarlyBy t past x 0
  early-none other = subst (λ b. IsWait b t past x 0) (sym (ap is_over_rate (sym is) ∙ other)) refl
