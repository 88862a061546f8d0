-- What is known of a watched reader or writer.
use Rattle.std.specs.Prelude.{ℕ, ◌||◌, Bool, List, [], Option, if◌then◌else◌, option_map}
use Rattle.afdx_input_lines.specs.declared.watched.Watched.{Watched}

-- the reader or writer that is watched
abbrev pub device_of : {T : Type 0} → Watched T → T
device_of watched = watched.inner

-- whether a read or a write failed, or a write of some bytes took none of them
abbrev pub has_failed : {T : Type 0} → Watched T → Bool
has_failed watched = watched.failed

-- whether a flush failed
abbrev pub flush_has_failed : {T : Type 0} → Watched T → Bool
flush_has_failed watched = watched.flush_failed

-- whether a read into some room gave no byte
abbrev pub has_ended : {T : Type 0} → Watched T → Bool
has_ended watched = watched.ended

-- it gives no more bytes: it failed, or gave its end
abbrev pub is_over : {T : Type 0} → Watched T → Bool
is_over watched = has_failed watched || has_ended watched

-- what is still to be read, where that is known: nothing behind the end
abbrev pub still_in : {R : Type 0} → (R → Option (List ℕ)) → Watched R → Option (List ℕ)
still_in remaining watched =
    let left = remaining (device_of watched) in
    if has_ended watched then option_map (λ bytes. []) left else left

-- how many reads and writes the device was asked for, up to the greatest u64
abbrev pub calls_of : {T : Type 0} → Watched T → ℕ
calls_of watched = watched.calls
