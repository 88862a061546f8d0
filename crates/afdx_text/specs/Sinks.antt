-- What a call answers that hands text on to a sink.
use Rattle.std.specs.Prelude.{◌≡◌, ◌⊎◌, Bool, Result, IfErr}
use Rattle.afdx_input_lines.specs.Calls.{is_failed_write}
use Rattle.afdx_input_lines.specs.declared.fault.RunFault.{RunFault}
use Rattle.afdx_input_lines.specs.declared.fault.RunFault.TheVariants as run

-- the output's fault, or want of memory
abbrev pub IsOfOutput : RunFault → Type 0
IsOfOutput fault = (fault ≡ run.Write) ⊎ (fault ≡ run.Memory)

-- a sink is kept by a call: it has failed exactly where the call answers so, no other fault but
-- want of memory is answered, and what the sink works by is what it was
pub record SinkKept {S Settings A : Type 0} (has_failed : S → Bool) (settings_of : S → Settings)
    (old new : S) (answer : Result A RunFault) : Type 0 where
  pub failed : has_failed new ≡ is_failed_write answer
  pub fault : IfErr answer IsOfOutput
  pub settings : settings_of new ≡ settings_of old
