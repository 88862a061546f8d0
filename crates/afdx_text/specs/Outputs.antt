-- What an output has been given that holds its last lines before its device.
use Rattle.std.specs.Prelude.{ℕ, ◌||◌, Bool, List, Option, vec_len}
use Rattle.std.specs.Io.KnownBytes.{append_known}
use Rattle.afdx_input_lines.specs.Watching.{device_of, flush_has_failed, has_failed}
use Rattle.afdx_text.specs.declared.output.Output.{Output}
use Rattle.afdx_text.specs.Texts.{text_bytes}

-- what is held
abbrev pub held_bytes : {W : Type 0} → Output W → List ℕ
held_bytes o = text_bytes o.held

-- so many bytes can be held
abbrev pub room_of : {W : Type 0} → Output W → ℕ
room_of o = vec_len o.held.room

-- each line is handed over as soon as it is put
abbrev pub is_at_once : {W : Type 0} → Output W → Bool
is_at_once o = o.is_at_once

-- the device, as it is
abbrev pub inner_device : {W : Type 0} → Output W → W
inner_device o = device_of o.device

-- what was handed to the device, where that is known, and then what is held
abbrev pub written : {W : Type 0} → (W → Option (List ℕ)) → Output W → Option (List ℕ)
written contents o = append_known (contents (inner_device o)) (held_bytes o)

-- whether a write to the device, or its flush, has failed
abbrev pub device_has_failed : {W : Type 0} → Output W → Bool
device_has_failed o = has_failed o.device || flush_has_failed o.device
