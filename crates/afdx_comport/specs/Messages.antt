-- Messages as plain data.
use Rattle.std.specs.Prelude.{ℕ, Option, List}

-- a message, and when it came, in ns
pub record TimedMessage : Type 0 where
  pub time : ℕ
  pub bytes : List ℕ

-- the messages of a queue, the oldest first, and how many there may be; and how many bytes have
-- room in the memory that was given back, if there is such
pub record Line : Type 0 where
  pub depth : ℕ
  pub messages : List (List ℕ)
  pub spare : Option ℕ
