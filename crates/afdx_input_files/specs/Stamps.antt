-- Stamps: ns since 1970.
use Rattle.std.specs.Prelude.{ℕ, Bool, ◌+◌, ◌-◌, ◌*◌, ◌/◌, ◌^◌, nat_lt, nat_le, if◌then◌else◌}
use Rattle.afdx_input_files.specs.declared.recorded.Stamp.{Stamp}
use Rattle.afdx_input_files.specs.declared.recorded.Stamp.TheVariants.{Bad, At}

-- ns in a second
abbrev pub second : ℕ
second = 1000000000

-- the stamp of a pcap: seconds, and a fraction in ns or in us, which is under a second
unfoldable pub pcap_stamp : Bool → ℕ → ℕ → Stamp
pcap_stamp nanoseconds seconds fraction =
    let ns = if nanoseconds then fraction else fraction * 1000 in
    if nat_lt ns second then At (seconds * second + ns) else Bad

-- the latest stamp, in ns
abbrev pub latest_stamp : ℕ
latest_stamp = 2 ^ 63 - 1

-- the units of a stamp in a second, by a resolution n: 10^n or, from 128 on, 2^(n - 128)
unfoldable pub units : ℕ → ℕ
units resolution = if nat_lt resolution 128 then 10 ^ resolution else 2 ^ (resolution - 128)

-- the whole ns of so many units
unfoldable pub whole_ns : ℕ → ℕ → ℕ
whole_ns resolution ticks = ticks * second / units resolution

abbrev pub stamp_at : ℕ → Stamp
stamp_at ns = if nat_le ns latest_stamp then At ns else Bad

-- with an offset in s, which is two's complement: from 2^63 on it is 2^64 s less
unfoldable pub stamp_with : ℕ → ℕ → Stamp
stamp_with offset ns =
    if nat_lt offset (2 ^ 63) then stamp_at (ns + offset * second)
    else if nat_le ((2 ^ 64 - offset) * second) ns then At (ns - (2 ^ 64 - offset) * second)
    else Bad

-- the stamp of a pcapng: so many units, and an offset; without it, too, it isn't too late
unfoldable pub ticked_stamp : ℕ → ℕ → ℕ → Stamp
ticked_stamp resolution offset ticks =
    let ns = whole_ns resolution ticks in
    if nat_le ns latest_stamp then stamp_with offset ns else Bad
