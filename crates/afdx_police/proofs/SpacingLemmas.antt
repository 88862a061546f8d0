-- A level has room for each frame exactly where each frame keeps its gaps.
use Rattle.std.proofs.Common.{◌≡◌, ℕ, ◌+◌, ◌*◌, ◌-◌, ◌≤◌, List, [], ◌∷◌, ap, arith}
use Rattle.std.specs.Prelude.{◌↔◌, map}
use Rattle.std.proofs.Math.Nat.{mul-le-mul_left}
use Rattle.afdx_police.specs.Spacing.{AreUpTo, level_at, HaveRoom, KeepsGaps, AllKeepGaps, Clocked, IsSentBehind, AreSentRight}

-- ---- over numbers

parted : (fast time x first : ℕ) → first ≤ x → x ≤ time →
    fast * (time - x) + fast * (x - first) ≡ fast * (time - first)
parted fast time x first low high =
    let sum : (time - x) + (x - first) ≡ time - first = omega (arith, low, high) in
    let whole : fast * ((time - x) + (x - first)) ≡ fast * (time - first) = ap (λ n. fast * n) sum in
    omega (arith, whole)

upper : (x first : ℕ) (past : List ℕ) → first ≤ x → AreUpTo first past → AreUpTo x past
upper x first [] low h = tt
upper x first (w ∷ before) low h = (omega (arith, low, h.0), h.1)

module _ (cost fast : ℕ) where
  -- windows that end at a time are those that end at an earlier one, with what falls meanwhile
  earlier : (bound n time x : ℕ) (past : List ℕ) → x ≤ time → AreUpTo x past →
      KeepsGaps cost fast bound n time past → KeepsGaps cost fast (bound + fast * (time - x)) n x past
  earlier bound n time x [] later up h = tt
  earlier bound n time x (first ∷ before) later up h =
      let parts : fast * (time - x) + fast * (x - first) ≡ fast * (time - first) =
      parted fast time x first up.0 later in
      (omega (arith, h.0, parts), earlier bound (n + 1) time x before later (upper x first before up.0 up.1) h.1)

  later : (bound n time x : ℕ) (past : List ℕ) → x ≤ time → AreUpTo x past →
      KeepsGaps cost fast (bound + fast * (time - x)) n x past → KeepsGaps cost fast bound n time past
  later bound n time x [] le up h = tt
  later bound n time x (first ∷ before) le up h =
      let parts : fast * (time - x) + fast * (x - first) ≡ fast * (time - first) =
      parted fast time x first up.0 le in
      (omega (arith, h.0, parts), later bound (n + 1) time x before le (upper x first before up.0 up.1) h.1)

  gaps_of : (bound n time : ℕ) (past : List ℕ) → AreUpTo time past → level_at cost fast past time + cost * n ≤ bound →
      KeepsGaps cost fast bound n time past
  gaps_of bound n time [] up room = tt
  gaps_of bound n time (x ∷ past) up room =
      let spent : level_at cost fast past x + cost + cost * n ≤ bound + fast * (time - x) = omega (arith, room) in
      let more : KeepsGaps cost fast (bound + fast * (time - x)) (n + 1) x past =
      gaps_of (bound + fast * (time - x)) (n + 1) x past up.1 (omega (arith, spent)) in
      (omega (arith, spent), later bound (n + 1) time x past up.0 up.1 more)

  room_of : (bound n time : ℕ) (past : List ℕ) → AreUpTo time past → cost * n ≤ bound →
      KeepsGaps cost fast bound n time past → level_at cost fast past time + cost * n ≤ bound
  room_of bound n time [] up few h = omega (arith, few)
  room_of bound n time (x ∷ past) up few h =
      let before : KeepsGaps cost fast (bound + fast * (time - x)) (n + 1) x past =
      earlier bound (n + 1) time x past up.0 up.1 h.1 in
      let spent : level_at cost fast past x + cost * (n + 1) ≤ bound + fast * (time - x) =
      room_of (bound + fast * (time - x)) (n + 1) x past up.1 h.0 before in
      omega (arith, spent, few)

to_gaps : (cost fast bound time : ℕ) (times : List ℕ) → AreUpTo time times → HaveRoom cost fast bound times →
    AllKeepGaps cost fast bound times
to_gaps cost fast bound time [] up h = tt
to_gaps cost fast bound time (x ∷ past) up h =
    (gaps_of cost fast bound 0 x past up.1 (omega (arith, h.0)), to_gaps cost fast bound x past up.1 h.1)

to_room : (cost fast bound time : ℕ) (times : List ℕ) → AreUpTo time times → AllKeepGaps cost fast bound times →
    HaveRoom cost fast bound times
to_room cost fast bound time [] up h = tt
to_room cost fast bound time (x ∷ past) up h =
    (omega (arith, room_of cost fast bound 0 x past up.1 (omega arith) h.0), to_room cost fast bound x past up.1 h.1)

pub room_is_gaps : (cost fast bound time : ℕ) (times : List ℕ) → AreUpTo time times →
    HaveRoom cost fast bound times ↔ AllKeepGaps cost fast bound times
room_is_gaps cost fast bound time times up =
    (to_gaps cost fast bound time times up, to_room cost fast bound time times up)

-- ---- right senders

module _ (parts bag jitter fast slip : ℕ) where
  sent_gaps : (n : ℕ) (x : Clocked) (past : List Clocked) → IsSentBehind parts bag jitter fast slip n x past →
      KeepsGaps (parts * bag) fast (parts * jitter + fast * slip) n x.stamp (map (λ x. x.stamp) past)
  sent_gaps n x [] h = tt
  sent_gaps n x (first ∷ before) h =
      let gone : bag * (n + 1) ≤ (x.clock - first.clock) + jitter = omega (arith, h.0) in
      let whole : parts * (bag * (n + 1)) ≤ parts * ((x.clock - first.clock) + jitter) = mul-le-mul_left parts gone in
      (omega (arith, whole, h.1), sent_gaps (n + 1) x before h.2)

  sent_all : (sent : List Clocked) → AreSentRight parts bag jitter fast slip sent →
      AllKeepGaps (parts * bag) fast (parts * jitter + fast * slip) (map (λ x. x.stamp) sent)
  sent_all [] h = tt
  sent_all (x ∷ past) h = (sent_gaps 0 x past h.0, sent_all past h.1)

pub right_has_room : (parts bag jitter fast slip time : ℕ) (sent : List Clocked) →
    AreUpTo time (map (λ x. x.stamp) sent) → AreSentRight parts bag jitter fast slip sent →
    HaveRoom (parts * bag) fast (parts * jitter + fast * slip) (map (λ x. x.stamp) sent)
right_has_room parts bag jitter fast slip time sent up h =
    to_room (parts * bag) fast (parts * jitter + fast * slip) time (map (λ x. x.stamp) sent) up
    (sent_all parts bag jitter fast slip sent h)
