-- In which order lines are told: by moment, side, port, and the line of the frame.
use Rattle.std.specs.Prelude.{◌≡◌, ℕ, ◌+◌, ◌*◌, ◌<◌, ◌==◌, Bool, true, false, List, Option, Some, None, nat_lt}
use Rattle.std.specs.List.{All}
use Rattle.std.specs.Ordering.{nat_cmp, flip_args, on}
use Rattle.std.specs.declared.cmp.Ordering.{Ordering}
use Rattle.afdx_frame.specs.declared.link.Side.{Side}
use Rattle.afdx_frame.specs.declared.link.Side.TheVariants.{A, B}
use Rattle.afdx_senders.specs.declared.sender_line.SenderLine.{SenderLine}

-- the numbers are those that the code can hold
pub record AreInType (x : SenderLine) : Type 0 where
  pub port : x.port < 0x100
  pub line : x.line < 0x10000000000000000

-- side A before side B
abbrev pub side_rank : Side → ℕ
side_rank A = 0
side_rank B = 1

-- by side, then by port
abbrev pub spot_of : SenderLine → ℕ
spot_of x = side_rank x.side * 256 + x.port

-- of those of one moment: by side and port, then by line
abbrev pub rank_there : SenderLine → ℕ
rank_there x = spot_of x * 0x10000000000000000 + x.line

-- by moment first
abbrev pub rank_of : SenderLine → ℕ
rank_of x = x.moment * 0x2000000000000000000 + rank_there x

-- as a heap has them, the first on top
abbrev pub is_same_rank : SenderLine → SenderLine → Bool
is_same_rank = on rank_of ◌==◌

abbrev pub by_rank : SenderLine → SenderLine → Ordering
by_rank = flip_args (on rank_of nat_cmp)

-- the moment lies before that time, if there is one
abbrev pub is_moment_before : Option ℕ → ℕ → Bool
is_moment_before None moment = true
is_moment_before (Some time) moment = nat_lt moment time

-- its moment does
abbrev pub is_before : Option ℕ → SenderLine → Bool
is_before before x = is_moment_before before x.moment

abbrev pub IsBefore : Option ℕ → SenderLine → Type 0
IsBefore before x = is_before before x ≡ true

-- none of them is to be told before that time
abbrev pub AreNotBefore : Option ℕ → List SenderLine → Type 0
AreNotBefore before xs = All (λ x. is_before before x ≡ false) xs

-- all of them are ones that the code can hold
abbrev pub AreHeldLines : List SenderLine → Type 0
AreHeldLines xs = All AreInType xs
