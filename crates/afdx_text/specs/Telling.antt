-- What a device is told that may have failed before.
use Rattle.std.specs.Prelude.{ℕ, ◌≡◌, ◌++◌, false, true, List, Option, codes}
use Rattle.std.specs.Io.KnownBytes.{Appends}
use Rattle.afdx_input_lines.specs.Calls.{AppendsFront}
use Rattle.afdx_input_lines.specs.FaultTexts.{fault_text}
use Rattle.afdx_input_lines.specs.declared.fault.RunFault.{RunFault}
use Rattle.afdx_input_lines.specs.declared.watched.Watched.{Watched}
use Rattle.afdx_input_lines.specs.Watching.{device_of, has_failed}

-- this text was handed to it: whole unless it has failed, and else a beginning of it. If it failed
-- before, it was not asked
pub record Tells {W : Type 0} (contents : W → Option (List ℕ))
    (old new : Watched W) (text : List ℕ) : Type 0 where
  pub whole : has_failed new ≡ false →
      Appends (contents (device_of old)) (contents (device_of new)) text
  pub begun : AppendsFront (contents (device_of old)) (contents (device_of new)) text
  pub unasked : has_failed old ≡ true → new ≡ old

-- the one line of this fault was handed to it
abbrev pub TellsFault : {W : Type 0} → (W → Option (List ℕ)) → Watched W → Watched W → RunFault
    → Type 0
TellsFault contents old new fault = Tells contents old new (fault_text fault ++ codes "\n")
