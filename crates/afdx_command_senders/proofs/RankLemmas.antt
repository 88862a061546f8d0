-- The order of what is told of a switch and of the systems that send to it, as the order of both.
use Rattle.std.proofs.Common.{◌≡◌, ℕ, ◌+◌, ◌*◌, ◌<◌, ◌≤◌, Bool, true, false, List, [], ◌∷◌, ◌++◌, map, reverse, refl, subst, arith}
use Rattle.std.proofs.lemmas.Bool.{ltb-false, ltb-true}
use Rattle.std.proofs.lemmas.List.Elements.{recursion_from_All}
use Rattle.std.specs.List.{AllByRecursion}
use Rattle.std.specs.Prelude.{nat_lt}
use Rattle.afdx_frame.specs.declared.link.Side.{Side}
use Rattle.afdx_frame.specs.declared.link.Side.TheVariants.{A, B}
use Rattle.afdx_senders.proofs.OrderLemmas.{side_small}
use Rattle.afdx_senders.specs.Lines.{Line}
use Rattle.afdx_senders.specs.Order.{side_rank}
use Rattle.afdx_senders.specs.Telling as line
use Rattle.afdx_command_conform.proofs.OneAnswerLemmas.{IsRanged}
use Rattle.afdx_command_conform.specs.Keys as key
use Rattle.afdx_command_conform.specs.Lines as due
use Rattle.afdx_command_conform.specs.Lines.{Due}
use Rattle.afdx_command_senders.specs.BothTold.{OfSender, OfSwitch, Told, last_rank, rank, senders_of, switch_of}
use Rattle.afdx_command_senders.proofs.UpLemmas.{Down, Up, last, up-map, up-of-down}

-- ---- numbers: by moment, then by side and port, then by what tells apart there

line-step : (m n s p x r q y : ℕ) → s ≤ 1 → r ≤ 1 → p < 256 → q < 256 → x < 0x10000000000000000
    → y < 0x10000000000000000
    → m * 0x2000000000000000000 + ((s * 256 + p) * 0x10000000000000000 + x)
    ≤ n * 0x2000000000000000000 + ((r * 256 + q) * 0x10000000000000000 + y)
    → m * 1024 + (s * 256 + p) * 2 ≤ n * 1024 + (r * 256 + q) * 2
line-step m n s p x r q y s1 r1 p1 q1 x1 y1 le = by (nat_lt m n) refl
  where
    by : (b : Bool) → nat_lt m n ≡ b → m * 1024 + (s * 256 + p) * 2 ≤ n * 1024 + (r * 256 + q) * 2
    by true e = let lt = ltb-true m n e in omega (arith, lt, s1, p1)
    by false e =
        let ge = ltb-false m n e in
        let same : m ≡ n = omega (arith, ge, le, s1, r1, p1, q1, x1, y1) in
        let spot : s * 256 + p ≤ r * 256 + q = omega (arith, same, le, x1, y1) in
        omega (arith, same, spot)

due-step : (m n s p x r q y : ℕ) → s ≤ 1 → r ≤ 1 → p < 256 → q < 256 → x < 0x100000000 → y < 0x100000000
    → m * 18446744073709551616 + ((s * 256 + p) * 0x100000000 + x)
    ≤ n * 18446744073709551616 + ((r * 256 + q) * 0x100000000 + y)
    → m * 1024 + ((s * 256 + p) * 2 + 1) ≤ n * 1024 + ((r * 256 + q) * 2 + 1)
due-step m n s p x r q y s1 r1 p1 q1 x1 y1 le = by (nat_lt m n) refl
  where
    by : (b : Bool) → nat_lt m n ≡ b → m * 1024 + ((s * 256 + p) * 2 + 1) ≤ n * 1024 + ((r * 256 + q) * 2 + 1)
    by true e = let lt = ltb-true m n e in omega (arith, lt, s1, p1)
    by false e =
        let ge = ltb-false m n e in
        let same : m ≡ n = omega (arith, ge, le, s1, r1, p1, q1, x1, y1) in
        let spot : s * 256 + p ≤ r * 256 + q = omega (arith, same, le, x1, y1) in
        omega (arith, same, spot)

sides-same : (s : Side) → key.side_rank s ≡ side_rank s
sides-same A = refl
sides-same B = refl

-- ---- what is told newly goes up

-- its numbers are those that a frame can have, and it is of no earlier moment
pub record IsNewLine (time : ℕ) (x : Line) : Type 0 where
  pub port : x.port < 0x100
  pub line : x.line < 0x10000000000000000
  pub late : time ≤ x.moment

pub record IsNewDue (time : ℕ) (d : Due) : Type 0 where
  pub ranged : IsRanged d.key
  pub late : time ≤ d.moment

lines-down : (xs : List Line) → line.AreInOrder xs → Down line.rank xs
lines-down [] h = tt
lines-down (x ∷ []) h = (omega arith, tt)
lines-down (x ∷ y ∷ xs) h = (
  (recursion_from_All (λ w. line.rank w ≤ line.rank x) (y ∷ xs) h.0).0,
  lines-down (y ∷ xs) h.1,
)

dues-down : (ds : List Due) → due.AreInOrder ds → Down due.rank ds
unfolding due.AreInOrder
dues-down [] h = tt
dues-down (d ∷ []) h = (h.0, tt)
dues-down (d ∷ e ∷ ds) h = (h.0, dues-down (e ∷ ds) h.1)

pub lines-up : (time n : ℕ) (xs told : List Line) → n ≤ time * 1024 → AllByRecursion (IsNewLine time) xs
    → line.AreInOrder (reverse xs ++ told) → Up rank n (map OfSender xs)
lines-up time n xs told low all order =
    up-map line.rank rank OfSender (IsNewLine time)
    (λ x y a b le. line-step x.moment y.moment (side_rank x.side) x.port x.line (side_rank y.side) y.port y.line
    (side_small x.side) (side_small y.side) a.port b.port a.line b.line le)
    n (last line.rank told) xs (λ x so le. (let late = so.late in omega (arith, late, low))) all
    (up-of-down line.rank xs told (lines-down (reverse xs ++ told) order))

pub dues-up : (time n : ℕ) (ds dues : List Due) → n ≤ time * 1024 → AllByRecursion (IsNewDue time) ds
    → due.AreInOrder (reverse ds ++ dues) → Up rank n (map OfSwitch ds)
dues-up time n ds dues low all order =
    up-map due.rank rank OfSwitch (IsNewDue time) step
    n (last due.rank dues) ds (λ d so le. (let late = so.late in omega (arith, late, low))) all
    (up-of-down due.rank ds dues (dues-down (reverse ds ++ dues) order))
  where
    step : (d e : Due) → IsNewDue time d → IsNewDue time e → due.rank d ≤ due.rank e
        → rank (OfSwitch d) ≤ rank (OfSwitch e)
    step d e a b le =
        let here = sides-same d.key.side in
        let there = sides-same e.key.side in
        due-step d.moment e.moment (side_rank d.key.side) d.key.port (key.link_rank d.key.link)
        (side_rank e.key.side) e.key.port (key.link_rank e.key.link) (side_small d.key.side) (side_small e.key.side)
        a.ranged.port b.ranged.port a.ranged.link b.ranged.link
        (subst (λ (s : ℕ). d.moment * 18446744073709551616 + ((s * 256 + d.key.port) * 0x100000000
        + key.link_rank d.key.link) ≤ e.moment * 18446744073709551616 + ((side_rank e.key.side * 256 + e.key.port)
        * 0x100000000 + key.link_rank e.key.link)) here
        (subst (λ (s : ℕ). d.moment * 18446744073709551616
        + ((key.side_rank d.key.side * 256 + d.key.port) * 0x100000000 + key.link_rank d.key.link)
        ≤ e.moment * 18446744073709551616 + ((s * 256 + e.key.port)
        * 0x100000000 + key.link_rank e.key.link)) there le))

-- ---- what was told lies below

pub record IsOldLine (time : ℕ) (x : Line) : Type 0 where
  pub port : x.port < 0x100
  pub soon : x.moment < time

pub record IsOldDue (time : ℕ) (d : Due) : Type 0 where
  pub ranged : IsRanged d.key
  pub soon : d.moment < time

line-below : (time : ℕ) (x : Line) → IsOldLine time x → rank (OfSender x) ≤ time * 1024
line-below time x h =
    let side = side_small x.side in
    let port = h.port in
    let soon = h.soon in
    omega (arith, side, port, soon)

due-below : (time : ℕ) (d : Due) → IsOldDue time d → rank (OfSwitch d) ≤ time * 1024
due-below time d h =
    let side = side_small d.key.side in
    let port = h.ranged.port in
    let soon = h.soon in
    omega (arith, side, port, soon)

-- the newest of all is the newest of its part
pub joined-below : (time : ℕ) (all : List Told) → AllByRecursion (IsOldLine time) (senders_of all)
    → AllByRecursion (IsOldDue time) (switch_of all) → last_rank all ≤ time * 1024
unfolding senders_of switch_of
joined-below time [] h k = omega arith
joined-below time (OfSender x ∷ past) h k = line-below time x h.0
joined-below time (OfSwitch d ∷ past) h k = due-below time d k.0
