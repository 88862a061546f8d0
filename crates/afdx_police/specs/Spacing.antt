-- Whether a sender keeps its gap, by stamps that may be off and clocks that may differ: a level
-- that each frame raises, and the windows that it stands for. Lists have the newest first.
use Rattle.std.specs.Prelude.{ℕ, ◌+◌, ◌*◌, ◌-◌, ◌≤◌, ◌↔◌, List, [], ◌∷◌, map}

-- these times go up to that one
abbrev pub AreUpTo : ℕ → List ℕ → Type 0
AreUpTo time [] = Unit {0}
AreUpTo time (x ∷ past) = (x ≤ time) × AreUpTo x past

-- the level at a time, after these frames: each raises it by `cost`, and it falls by `fast` a ns
abbrev pub level_at : (cost fast : ℕ) → List ℕ → ℕ → ℕ
level_at cost fast [] time = 0
level_at cost fast (x ∷ past) time = level_at cost fast past x + cost - fast * (time - x)

-- a frame has room if the level is at most `bound`
module _ (cost fast bound : ℕ) where
  -- each frame had room
  abbrev pub HaveRoom : List ℕ → Type 0
  HaveRoom [] = Unit {0}
  HaveRoom (x ∷ past) = (level_at cost fast past x ≤ bound) × HaveRoom past

  -- a frame of this time comes so many gaps behind each of these: behind the newest, with n
  -- between, n + 1
  abbrev pub KeepsGaps : ℕ → ℕ → List ℕ → Type 0
  KeepsGaps n time [] = Unit {0}
  KeepsGaps n time (first ∷ before) =
      (cost * (n + 1) ≤ bound + fast * (time - first)) × KeepsGaps (n + 1) time before

  abbrev pub AllKeepGaps : List ℕ → Type 0
  AllKeepGaps [] = Unit {0}
  AllKeepGaps (x ∷ past) = KeepsGaps 0 x past × AllKeepGaps past

-- the level has room for each frame exactly where each keeps all gaps
abbrev pub RoomIsGaps : Type 0
RoomIsGaps =
    (cost fast bound time : ℕ) (times : List ℕ) →
    AreUpTo time times →
    HaveRoom cost fast bound times ↔ AllKeepGaps cost fast bound times

-- a frame by its stamp, and by its sender's clock
pub record Clocked : Type 0 where
  pub stamp : ℕ
  pub clock : ℕ

module _ (parts bag jitter fast slip : ℕ) where
  -- by its sender's clock a frame comes so many gaps behind each of these, but for the jitter; and
  -- the clock went no faster than it may, stamps being off by so much together
  abbrev pub IsSentBehind : ℕ → Clocked → List Clocked → Type 0
  IsSentBehind n x [] = Unit {0}
  IsSentBehind n x (first ∷ before) =
      (bag * (n + 1) + first.clock ≤ x.clock + jitter)
      × (parts * (x.clock - first.clock) ≤ fast * ((x.stamp - first.stamp) + slip))
      × IsSentBehind (n + 1) x before

  abbrev pub AreSentRight : List Clocked → Type 0
  AreSentRight [] = Unit {0}
  AreSentRight (x ∷ past) = IsSentBehind 0 x past × AreSentRight past

-- a right sender's frames always have room
abbrev pub RightHasRoom : Type 0
RightHasRoom =
    (parts bag jitter fast slip time : ℕ) (sent : List Clocked) →
    AreUpTo time (map (λ x. x.stamp) sent) →
    AreSentRight parts bag jitter fast slip sent →
    HaveRoom (parts * bag) fast (parts * jitter + fast * slip) (map (λ x. x.stamp) sent)
