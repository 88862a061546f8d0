-- The bytes that stand in a line for themselves.
use Rattle.std.specs.Prelude.{ℕ}

-- what ends a line
abbrev pub line_feed : ℕ
line_feed = 10

-- what begins a remark: `#`
abbrev pub number_sign : ℕ
number_sign = 35

-- what stands for no bytes: `-`
abbrev pub hyphen : ℕ
hyphen = 45

abbrev pub letter_A : ℕ
letter_A = 65

abbrev pub letter_B : ℕ
letter_B = 66

abbrev pub letter_F : ℕ
letter_F = 70

abbrev pub letter_R : ℕ
letter_R = 82
