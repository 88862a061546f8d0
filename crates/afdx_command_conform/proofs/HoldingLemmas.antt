-- Of each stream at most two windows are held while a run goes on.
use Rattle.std.proofs.Common.{◌≡◌, ℕ, ◌*◌, ◌≤◌, Bool, List, refl, sym, subst, arith}
use Rattle.std.proofs.lemmas.Bool.{ltb-false}
use Rattle.std.specs.Prelude.{Option, Some, None}
use Rattle.afdx_config.specs.Rows.{LinkRow, Rows}
use Rattle.afdx_conform.specs.Growing.{IsNoSooner}
use Rattle.afdx_conform.specs.Standing.{due_of, in_window}
use Rattle.afdx_input_runs.specs.Joining.{Frame}
use Rattle.afdx_command_conform.specs.Choices.{Choices}
use Rattle.afdx_command_conform.specs.Frames.{terms_at}
use Rattle.afdx_command_conform.specs.Holding.{HoldsOneWindow, slot_held}
use Rattle.afdx_command_conform.specs.Keeping.{AreKept, Given, IsNothingDue, given_of, slot_at}
use Rattle.afdx_command_conform.specs.Lines.{Due, of_key}
use Rattle.afdx_command_conform.specs.Slots.{StreamStands}
use Rattle.afdx_command_conform.specs.Told.{HasTold, MayEnd}
use Rattle.afdx_command_conform.specs.Waiting.{slot_due}
use Rattle.afdx_command_conform.specs.declared.judging.JudgingRun.{JudgingRun}
use Rattle.afdx_command_conform.specs.declared.kept.KeptByKey.{KeptByKey}
use Rattle.afdx_command_conform.specs.declared.key.Key.{Key}
use Rattle.afdx_command_conform.specs.declared.slot.Slot.{Slot}
use Rattle.afdx_command_conform.specs.declared.slot.Slot.TheVariants.{Nothing, Strangers, Stream}
use Rattle.afdx_conform.proofs.WindowLemmas.{holds_one_window}
use Rattle.afdx_command_conform.proofs.AddedLemmas.{to-stream}
use Rattle.afdx_command_conform.proofs.KeyLemmas.{known-stream}

module _ (t : Rows) (c : Choices) (until time moment : ℕ) (k : Key) (l : LinkRow) (given : Given)
    (lines : List Due) where
  -- of one stream
  slot-window : (slot : Slot) → StreamStands (terms_at t c until l k.port) k given.came given.left lines time slot
      → ((m : ℕ) → slot_due slot ≡ Some m → moment ≤ m)
      → slot_held slot ≤ 2 * in_window (terms_at t c until l k.port) given.came given.left moment
  unfolding StreamStands slot_due
  slot-window Nothing s due = omega arith
  slot-window (Strangers x) s due = absurd s
  slot-window (Stream x told) s due =
      holds_one_window (terms_at t c until l k.port) given.came given.left s.0 time moment x.value s.1
      (by (due_of x.value) due)
    where
      by : (o : Option ℕ) → ((m : ℕ) → o ≡ Some m → moment ≤ m) → IsNoSooner moment o
      by None h = tt
      by (Some m) h = h m refl

pub kept-window : (t : Rows) (c : Choices) (until at time : ℕ) (frames : List Frame) (lines : List Due)
    (kept : KeptByKey)
    → AreKept t c until None at (given_of t c frames) lines kept → IsNothingDue t (Some time) kept
    → HoldsOneWindow t c until frames time kept
kept-window t c until at time frames lines kept h none k l is =
    slot-window t c until at time k l (given_of t c frames k) (of_key k lines) (slot_at kept.slots.items k)
    (to-stream t c until at k l (given_of t c frames k) (of_key k lines) (slot_at kept.slots.items k) is
    (h.stand k (known-stream t k l is)))
    (λ m due. ltb-false m time (none k m (known-stream t k l is) due))

-- of all
pub told-window : (k : Rows × Choices) (last : Bool) (time until : ℕ) (frames : List Frame) (dues : List Due)
    (j : JudgingRun) → j.streams.ended ≡ None → MayEnd k.1.until frames None until
    → HasTold k last time j frames dues × IsNothingDue k.0 (Some time) j.streams.kept
    → HoldsOneWindow k.0 k.1 until frames time j.streams.kept
told-window k last time until frames dues j running may h =
    let all = h.0.1.all until (subst (λ (o : Option ℕ). MayEnd k.1.until frames o until) (sym running) may) in
    kept-window k.0 k.1 until time time frames dues j.streams.kept
    (subst (λ (o : Option ℕ). AreKept k.0 k.1 until o time (given_of k.0 k.1 frames) dues j.streams.kept) running
    all.streams.kept) h.1
