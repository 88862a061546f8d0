-- The turns of a port as events.
use Rattle.std.proofs.Common.{◌≡◌, ℕ, ◌+◌, ◌<◌, ◌≤◌, List, [], ◌∷◌, ◌++◌, length, refl, ap, sym}
use Rattle.std.proofs.Common.{◌∙◌, subst, Bool, true, false, IsTrue, arith, ◌⊎◌, inl, inr}
use Rattle.afdx_frame.specs.declared.link.Side.{Side}
use Rattle.afdx_port.specs.Schedule.{Entry, Turn, lasting, IsNext, AreTurns}
use Rattle.afdx_port.proofs.TurnLemmas.{same_next}
use Rattle.afdx_law_bounds.proofs.AdmittedLemmas.{product-positive}
use Rattle.afdx_switch.specs.HeldFrames.{HeldFrame}
use Rattle.afdx_network.specs.Events.{Event, Left, departure_with, departures_of}
use Rattle.afdx_network.specs.Order.{phase_of, side_number, is_below, is_before, IsAmong}
use Rattle.afdx_network.proofs.OrderLemmas.{below_first, below_next, before_trans}

phase-small : (o : Bool) → phase_of o ≤ 2
phase-small true = omega arith
phase-small false = omega arith

pub rising : (m n p q a b k l : ℕ) → (m < n) ⊎ ((m ≤ n) × (p ≤ q) × (k < l))
    → is_below (m ∷ p ∷ a ∷ b ∷ k ∷ []) (n ∷ q ∷ a ∷ b ∷ l ∷ []) ≡ true
rising m n p q a b k l (inl lt) = below_first m n (p ∷ a ∷ b ∷ k ∷ []) (q ∷ a ∷ b ∷ l ∷ []) lt
rising m n p q a b k l (inr h) =
    below_next m n (p ∷ a ∷ b ∷ k ∷ []) (q ∷ a ∷ b ∷ l ∷ []) h.0
    (below_next p q (a ∷ b ∷ k ∷ []) (a ∷ b ∷ l ∷ []) h.1
    (below_next a a (b ∷ k ∷ []) (b ∷ l ∷ []) (omega arith)
    (below_next b b (k ∷ []) (l ∷ []) (omega arith) (below_first k l [] [] h.2))))

-- a turn that begins at or after `end` is over after it, or is a drop
later : (bytes_ns bytes end moment over k l : ℕ) (o too_old : Bool) → 0 < bytes_ns
    → over ≡ moment + lasting bytes_ns too_old bytes → end ≤ moment → k < l →
    (end < over) ⊎ ((end ≤ over) × (phase_of o ≤ phase_of too_old) × (k < l))
later byte_time bytes end moment over k l o true some lasts after lt =
    inr (omega (arith, lasts, after), phase-small o, lt)
later byte_time bytes end moment over k l o false some lasts after lt = let long =
    product-positive (bytes + 20) byte_time (omega arith) some in inl (omega (arith, lasts, after, long))

-- a turn comes before the next one of its port
pub next-after : (side : Side) (port byte_time : ℕ) (entries : List (Entry HeldFrame))
    (y : Turn HeldFrame) (earlier : List (Turn HeldFrame)) (x : Turn HeldFrame) → 0 < byte_time
    → IsNext byte_time entries (y ∷ earlier) x →
    is_before (Left (departure_with side port (length earlier) y))
    (Left (departure_with side port (length (y ∷ earlier)) x)) ≡ true
next-after side port byte_time entries y earlier x some n =
    rising y.end x.end (phase_of y.too_old) (phase_of x.too_old) (side_number side) port
    (length earlier) (length (y ∷ earlier))
    (later byte_time x.entry.bytes y.end x.moment x.end (length earlier) (length (y ∷ earlier))
    y.too_old x.too_old some n.lasts n.after (omega arith))

-- an event that is one of the later turns
abbrev pub IsLater : Side → ℕ → Event → List (Turn HeldFrame) → List (Turn HeldFrame) → Type 0
IsLater side port e [] turns = ⊥
IsLater side port e (x ∷ more) turns =
    (e ≡ Left (departure_with side port (length (more ++ turns)) x)) ⊎ IsLater side port e more turns

pub split-later : (side : Side) (port : ℕ) (e : Event) (more turns : List (Turn HeldFrame))
    → IsAmong e (departures_of side port (more ++ turns))
    → IsAmong e (departures_of side port turns) ⊎ IsLater side port e more turns
split-later side port e [] turns h = inl h
split-later side port e (x ∷ more) turns (inl same) = inr (inl same)
split-later side port e (x ∷ more) turns (inr rest) =
    elim (split-later side port e more turns rest) [ inl early ↦ inl early | inr late ↦ inr (inr late) ]

pub join-later : (side : Side) (port : ℕ) (e : Event) (more turns : List (Turn HeldFrame))
    → IsAmong e (departures_of side port turns) → IsAmong e (departures_of side port (more ++ turns))
join-later side port e [] turns h = h
join-later side port e (x ∷ more) turns h = inr (join-later side port e more turns h)

-- a later turn is the next one, or comes after it
pub later-after : (side : Side) (port byte_time : ℕ) (entries : List (Entry HeldFrame))
    (more turns : List (Turn HeldFrame)) → 0 < byte_time → AreTurns byte_time entries (more ++ turns) →
    (s : Turn HeldFrame) → IsNext byte_time entries turns s → (e : Event) → IsLater side port e more turns →
    (e ≡ Left (departure_with side port (length turns) s))
    ⊎ IsTrue (is_before (Left (departure_with side port (length turns) s)) e)
later-after side port byte_time entries [] turns some are s n e h = absurd h
later-after side port byte_time entries (x ∷ []) turns some are s n e (inl same) =
    inl (same ∙ ap (λ z. Left (departure_with side port (length turns) z))
    (same_next byte_time entries turns x s are.0 n))
later-after side port byte_time entries (x ∷ []) turns some are s n e (inr none) = absurd none
later-after side port byte_time entries (x ∷ (y ∷ ys)) turns some are s n e (inr rest) =
    later-after side port byte_time entries (y ∷ ys) turns some are.1 s n e rest
later-after side port byte_time entries (x ∷ (y ∷ ys)) turns some are s n e (inl same) =
    let first = later-after side port byte_time entries (y ∷ ys) turns some are.1 s n
    (Left (departure_with side port (length (ys ++ turns)) y)) (inl refl) in
    let up = next-after side port byte_time entries y (ys ++ turns) x some are.0 in
    inr (subst (λ z. is_before (Left (departure_with side port (length turns) s)) z ≡ true) (sym same) (elim first [
      | inl is ↦ subst (λ z. is_before z (Left (departure_with side port (length (y ∷ ys ++ turns)) x)) ≡ true) is up
      | inr before ↦ before_trans (Left (departure_with side port (length turns) s))
          (Left (departure_with side port (length (ys ++ turns)) y))
          (Left (departure_with side port (length (y ∷ ys ++ turns)) x)) before up
    ]))
