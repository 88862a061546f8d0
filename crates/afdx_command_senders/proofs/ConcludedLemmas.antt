-- The answer of a run over what systems sent.
use Rattle.std.proofs.Common.{◌≡◌, ◌≤◌, ℕ, suc, Bool, true, false, List, [], ◌∷◌, length, map, ap, ◌∙◌, arith}
use Rattle.std.specs.Prelude.{Some, cond, filter}
use Rattle.afdx_input_runs.specs.Joining.{Frame}
use Rattle.afdx_text.specs.declared.conform_line.Conclusion.{Conclusion}
use Rattle.afdx_text.specs.declared.sender_lines.SenderTotals.{SenderTotals}
use Rattle.afdx_command_senders.specs.Asked.{Asked, came_in, counts}
use Rattle.afdx_command_senders.specs.SenderLines.{answer_by}

pub came-few : (a : Asked) (frames : List Frame) → length (came_in a frames) ≤ length frames
came-few a [] = omega arith
came-few a (x ∷ frames) = by (counts a x) (came-few a frames)
  where
    by : (b : Bool) → length (came_in a frames) ≤ length frames
        → length (map (λ (y : Frame). y.arrival) (cond b (x ∷ filter (counts a) frames) (filter (counts a) frames)))
        ≤ suc (length frames)
    by true le = omega (arith, le)
    by false le = omega (arith, le)

abbrev pub totals-with : (sent cut alone : ℕ) → SenderTotals
totals-with sent cut alone = record { sent = sent; cut = cut; alone = alone }

pub totals-same : (sent cut alone s c a : ℕ) → sent ≡ s → cut ≡ c → alone ≡ a
    → totals-with sent cut alone ≡ totals-with s c a
totals-same sent cut alone s c a es ec ea =
    ap (λ (n : ℕ). totals-with n cut alone) es ∙ ap (λ (n : ℕ). totals-with s n alone) ec
    ∙ ap (λ (n : ℕ). totals-with s c n) ea

abbrev pub conclusion-with : (findings : ℕ) → SenderTotals → (left_out unseen : ℕ) → Conclusion
conclusion-with findings senders left_out unseen = record {
  answer = answer_by findings senders.sent;
  explained = 0;
  waiting = 0;
  uncertain = 0;
  left_out = left_out;
  unseen = unseen;
  idle = 0;
  senders = Some senders;
}

pub conclusion-same : (findings : ℕ) (senders : SenderTotals) (left_out unseen : ℕ) (f : ℕ) (s : SenderTotals) (l u : ℕ)
    → findings ≡ f → senders ≡ s → left_out ≡ l → unseen ≡ u
    → conclusion-with findings senders left_out unseen ≡ conclusion-with f s l u
conclusion-same findings senders left_out unseen f s l u ef es el eu =
    ap (λ (n : ℕ). conclusion-with n senders left_out unseen) ef
    ∙ ap (λ (t : SenderTotals). conclusion-with f t left_out unseen) es
    ∙ ap (λ (n : ℕ). conclusion-with f s n unseen) el ∙ ap (λ (n : ℕ). conclusion-with f s l n) eu
