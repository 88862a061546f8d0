-- How the front of a long message is folded into what comes behind it.
use Rattle.std.specs.Prelude.{ℕ, ◌+◌, ◌*◌, ◌-◌, List, bit_xor, length, take, drop}
use Rattle.std.specs.Simd.Lanes.{zip2}
use Rattle.afdx_frame.specs.Register.{number, shift}

-- the bytes from a place on, as a number
unfoldable pub number_from : List ℕ → ℕ → ℕ
number_from bytes at = number (drop at bytes)

-- 16 bytes added to those at a place
abbrev pub plus_block : List ℕ → List ℕ → ℕ → List ℕ
plus_block block bytes at = zip2 bit_xor block (take 16 (drop at bytes))

-- the 16 bytes of a message at a place, and what the window adds to them: what was taken away 300,
-- 211, 183 and 145 places before
unfoldable pub joint_block : List ℕ → List ℕ → ℕ → List ℕ
joint_block bytes window at =
    plus_block (plus_block (plus_block (plus_block
    (take 16 (drop at bytes)) window at) window (at + 89)) window (at + 117)) window (at + 155)

-- the message from a place on, and what the window adds to it, as a number
unfoldable pub joint : List ℕ → List ℕ → ℕ → ℕ
joint bytes window at =
    bit_xor (bit_xor (bit_xor (bit_xor
    (number_from bytes at) (number_from window at)) (number_from window (at + 89)))
    (number_from window (at + 117))) (number_from window (at + 155))

-- the register after all that is left of a message from a place on, with what the window adds
unfoldable pub joined : List ℕ → List ℕ → ℕ → ℕ → ℕ
joined bytes window at register =
    shift (8 * (length bytes - at)) (bit_xor register (joint bytes window at))

-- the register after all that is left of a message from a place on, with nothing added
unfoldable pub after_rest : List ℕ → ℕ → ℕ → ℕ
after_rest bytes at register =
    shift (8 * (length bytes - at)) (bit_xor register (number_from bytes at))
