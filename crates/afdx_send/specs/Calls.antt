-- What each call of a sender does, whatever calls the sender stands for.
use Rattle.std.specs.Prelude.{◌≡◌, ℕ, ◌+◌, ◌<◌, ◌≤◌, List, length, Option, Result}
use Rattle.std.specs.Prelude.{IfOk, IfErr, OnOk, OnErr, IfSome, IfNone, MatchOption}
use Rattle.afdx_port.specs.Schedule.{Turn}
use Rattle.afdx_port.specs.Times.{drain_end}
use Rattle.afdx_send.specs.Frames.{Frame}
use Rattle.afdx_send.specs.Laws.{EachIsInTime, EachIsBuildable, EachEmitsLawfully, GoesOn}
use Rattle.afdx_send.specs.Sender.{SenderHistory, StandsFor, IsQuiet, IsNextIn, IsTaken, IsRefused}
use Rattle.afdx_send.specs.Sender.{Gives, AreAllEmitted, at, submission, with_submission}
use Rattle.afdx_send.specs.Sender.{frames_held, last_time}
use Rattle.afdx_send.specs.declared.fault.SendFault.{SendFault}
use Rattle.afdx_send.specs.declared.sender.Emission.{Emission}
use Rattle.afdx_send.specs.declared.sender_state.SenderState.{SenderState}

-- `submit` takes a message for a sub-VL of a link, or refuses it
pub record Submits {A : Type 0} (old new : SenderState) (time vl sub udp : ℕ) (payload : List ℕ)
    (result : Result A SendFault) : Type 0 where
  pub ok : (h : SenderHistory) →
      StandsFor old h →
      let message = submission time sub udp payload in
      OnOk result ((place : ℕ) × IsTaken h place vl message
      × StandsFor new (with_submission h place message))
  pub refused : (h : SenderHistory) →
      StandsFor old h →
      IfErr result (λ fault. IsRefused h time vl sub (length payload) fault)
  pub unchanged : (h : SenderHistory) →
      StandsFor old h →
      OnErr result (StandsFor new (at h time))
  pub quiet : IsQuiet new time
  pub clock : last_time new ≡ time
  pub held : OnOk result (frames_held new ≡ frames_held old + 1)
  pub kept : OnErr result (frames_held new ≡ frames_held old)

-- `emit` gives the next emission, if it ends by a time, or lacks memory for it
pub record Emits {E : Type 0} (old new : SenderState) (until : ℕ)
    (result : Result (Option Emission) E) : Type 0 where
  pub given : (h : SenderHistory) →
      StandsFor old h →
      IfOk result (λ o. IfSome o (λ e. Gives h until e new))
  -- what each link has emitted is a lawful stream, and goes on so with this emission
  pub goes_on : (h : SenderHistory) →
      StandsFor old h →
      IfOk result (λ o. IfSome o (λ e. GoesOn h e))
  pub lawful : (h : SenderHistory) → StandsFor new h → EachEmitsLawfully h
  pub in_time : (h : SenderHistory) → StandsFor new h → EachIsInTime h
  pub buildable : (h : SenderHistory) → StandsFor new h → EachIsBuildable h
  -- none ends by then, and late enough none is left
  pub none : (h : SenderHistory) →
      StandsFor old h →
      IfOk result (λ o. IfNone o (StandsFor new (at h until)))
  pub no_more : (h : SenderHistory) (s : Turn Frame) →
      StandsFor old h →
      IsNextIn h s →
      IfOk result (λ o. IfNone o (until < s.end))
  pub all_done : (h : SenderHistory) →
      StandsFor old h →
      drain_end ≤ until →
      IfOk result (λ o. IfNone o (AreAllEmitted h))
  pub quiet : IfOk result (λ o. IfNone o (IsQuiet new until))
  -- memory is lacked only for an emission that ends by then, which is left to be taken again
  pub due : (h : SenderHistory) →
      StandsFor old h →
      OnErr result ((s : Turn Frame) × IsNextIn h s × (s.end ≤ until))
  pub again : (h : SenderHistory) →
      StandsFor old h →
      OnErr result (StandsFor new (at h until))
  pub clock : last_time new ≡ until
  pub held : IfOk result (λ o. MatchOption o (frames_held new ≡ frames_held old)
      (λ _. frames_held new + 1 ≡ frames_held old))
  pub kept : OnErr result (frames_held new ≡ frames_held old)
