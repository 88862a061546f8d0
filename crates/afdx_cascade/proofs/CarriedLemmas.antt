-- The networks and the ring as a turn is over.
use Rattle.std.proofs.Common.{◌≡◌, ℕ, ◌≤◌, ◌⊎◌, true, false, not, List, [], ◌∷◌, ◌++◌}
use Rattle.std.proofs.Common.{map, filter, refl, sym, ap, ◌∙◌, subst, inl, inr}
use Rattle.std.specs.Prelude.{if◌then◌else◌, Some, set}
use Rattle.std.specs.List.{AllByRecursion}
use Rattle.std.proofs.lemmas.Bool.{cases_Bool}
use Rattle.std.proofs.lemmas.List.Elements.{filter-append}
use Rattle.afdx_frame.specs.declared.link.Side.{Side}
use Rattle.afdx_port.specs.Schedule.{Turn}
use Rattle.afdx_port.proofs.TurnLemmas.{nat_lt-false}
use Rattle.afdx_switch.specs.Admitted.{slots}
use Rattle.afdx_switch.specs.HeldFrames.{HeldFrame}
use Rattle.afdx_network.specs.Events.{Left}
use Rattle.afdx_network.specs.Order.{is_below}
use Rattle.afdx_network.proofs.OrderLemmas.{below_self}
use Rattle.afdx_law_promises.specs.Sent.{arrivals_at}
use Rattle.afdx_cascade.specs.Cables.{brought, brought_by}
use Rattle.afdx_cascade.specs.SwitchEvents.{End}
use Rattle.afdx_cascade.specs.SwitchEvents.{came_to, in_clock, turns_of, end_at}
use Rattle.afdx_cascade.specs.Runs.{event_at}
use Rattle.afdx_cascade.specs.Due.{OnCable, IsRing, AreAscending, frame_place, from_end, has_left}
use Rattle.afdx_cascade.specs.Standing.{IsLast, TurnEnds, FrameIsCarried}
use Rattle.afdx_cascade.proofs.RingLemmas.{same-end, left-end}
use Rattle.afdx_cascade.proofs.MoreLemmas.{rules-from, each-more, left-came, IsTurnAt, left-turns, old-first, late-first}
use Rattle.afdx_cascade.proofs.StandingLemmas.{has-it, end-of}

pub turn-ends : TurnEnds
turn-ends c networks time ring so_far k d new plan st within silent stands =
    let all = each-more c networks so_far k (Left d) new st.all within stands in
    let is : IsRing c (event_at k (Left d) ∷ so_far) time ring = record {
      at_time = st.carried.at_time;
      ascending = st.carried.ascending;
      joined = st.carried.joined;
      carries = λ j port side other joined.
          same-brought j port side other joined silent
          (left-turns other.switch k other.port side d so_far)
          ∙ st.carried.carries j port side other joined
          ∙ ap (λ xs. map (brought side port) (from_end side other ring)
          ++ arrivals_at side port xs)
          (sym (left-came j k d so_far));
    } in
    record {
      all = all;
      carried = is;
      rules = (
        rules-from c (set networks k new) time ring (event_at k (Left d) ∷ so_far) all is,
        st.rules,
      );
    }
  where
    same-brought : (j port : ℕ) (side : Side) (other : End) → c.far_end j port ≡ Some other
        → IsLast c k d
        → IsTurnAt other.switch k other.port side d so_far
        ⊎ ((turns_of other.switch side other.port (event_at k (Left d) ∷ so_far)
        ≡ turns_of other.switch side other.port so_far)
        × (k ≡ other.switch → side ≡ d.side → other.port ≡ d.port → ⊥))
        → brought_by side port (in_clock
        (turns_of other.switch side other.port (event_at k (Left d) ∷ so_far)))
        ≡ brought_by side port (in_clock (turns_of other.switch side other.port so_far))
    same-brought j port side other joined old (inr same) =
        ap (λ ts. brought_by side port (in_clock ts)) same.0
    same-brought j port side other joined (inl old) (inl at) =
        ap (λ ts. brought_by side port (in_clock ts)) at.more
        ∙ old-first side port d.turn (turns_of other.switch side other.port so_far) old
    same-brought j port side other joined (inr (inr late)) (inl at) =
        ap (λ ts. brought_by side port (in_clock ts)) at.more
        ∙ late-first side port d.turn (turns_of other.switch side other.port so_far) late
    same-brought j port side other joined (inr (inl free)) (inl at) =
        absurd (let back = (plan.ports j port other joined).2 in
        let mine : c.far_end k d.port ≡ Some (end_at j port) =
        subst (λ p. c.far_end k p ≡ Some (end_at j port)) at.port_is
        (subst (λ z. c.far_end z other.port ≡ Some (end_at j port)) (sym at.switch_is) back) in cc)

-- ---- a frame joins the ring

pub all-pushed : {X : Type 0} (P : X → Type 0) (xs : List X) (y : X) → AllByRecursion P xs → P y
    → AllByRecursion P (xs ++ y ∷ [])
all-pushed P [] y all here = (here, tt)
all-pushed P (x ∷ xs) y all here = (all.0, all-pushed P xs y all.1 here)

ascending-pushed : (ring : List OnCable) (r : OnCable) → AreAscending ring
    → AllByRecursion (λ z. is_below (frame_place z) (frame_place r) ≡ true) ring
    → AreAscending (ring ++ r ∷ [])
ascending-pushed [] r are below = (tt, tt)
ascending-pushed (z ∷ ring) r are below = (
  all-pushed (λ y. is_below (frame_place z) (frame_place y) ≡ true) ring r are.0 below.0,
  ascending-pushed ring r are.1 below.1,
)

none-before : (side : Side) (other : End) (r : OnCable) (ring : List OnCable)
    → has_left side other r ≡ true
    → AllByRecursion (λ z. z.turn.end ≡ r.turn.end) ring
    → AllByRecursion (λ z. is_below (frame_place z) (frame_place r) ≡ true) ring
    → filter (has_left side other) ring ≡ []
none-before side other r [] h all below = refl
none-before side other r (z ∷ ring) h all below =
    elim (cases_Bool (has_left side other z)) [
      | inr apart ↦ rw apart (none-before side other r ring h all.1 below.1)
      | inl alike ↦ absurd (let place = same-end side other z r alike h all.0 in
          let lt = below.0 in
          let self = below_self (frame_place r) in
          let same : is_below (frame_place r) (frame_place r) ≡ true =
          subst (λ p. is_below p (frame_place r) ≡ true) place lt in cc)
    ]

slot-first : (side : Side) (port : ℕ) (s : Turn HeldFrame) (earlier : List (Turn HeldFrame))
    → s.too_old ≡ false
    → s.end ≤ 1000032768000000
    → brought_by side port (in_clock (s ∷ earlier))
    ≡ brought side port s ∷ brought_by side port (in_clock earlier)
slot-first side port s earlier young soon =
    ap (λ b. brought_by side port (if not b then s ∷ in_clock earlier else in_clock earlier))
    (nat_lt-false 1000032768000000 s.end soon)
    ∙ ap (λ b. map (brought side port) (if not b then s ∷ slots (in_clock earlier)
    else slots (in_clock earlier))) young

pub frame-is-carried : FrameIsCarried
frame-is-carried c networks time ring so_far k d new to plan st within young soon joined_d early
    below stands =
    let all = each-more c networks so_far k (Left d) new st.all within stands in
    let is : IsRing c (event_at k (Left d) ∷ so_far) d.turn.end (ring ++ r ∷ []) = record {
      at_time = all-pushed (λ z. z.turn.end ≡ d.turn.end) ring r
          (at-end ring early st.carried.at_time) refl;
      ascending = ascending-pushed ring r st.carried.ascending below;
      joined = all-pushed (λ z. (e : End)
          × (c.far_end z.from.switch z.from.port ≡ Some e)) ring r st.carried.joined (to, joined_d);
      carries = λ j port side other joined.
          grown j port side other joined (left-turns other.switch k other.port side d so_far)
          ∙ ap (λ xs. map (brought side port) (from_end side other (ring ++ r ∷ []))
          ++ arrivals_at side port xs)
          (sym (left-came j k d so_far));
    } in
    record {
      all = all;
      carried = is;
      rules = (
        rules-from c (set networks k new) d.turn.end (ring ++ r ∷ [])
            (event_at k (Left d) ∷ so_far) all is,
        st.rules,
      );
    }
  where
    r : OnCable
    r = record { from = end_at k d.port; side = d.side; turn = d.turn }

    at-end : (zs : List OnCable) → (zs ≡ []) ⊎ (time ≡ d.turn.end)
        → AllByRecursion (λ z. z.turn.end ≡ time) zs
        → AllByRecursion (λ z. z.turn.end ≡ d.turn.end) zs
    at-end [] e all = tt
    at-end (z ∷ zs) (inl e) all = absurd (cc e)
    at-end (z ∷ zs) (inr e) all = subst (λ t. AllByRecursion (λ y. y.turn.end ≡ t) (z ∷ zs)) e all

    pushed : (side : Side) (other : End) → from_end side other (ring ++ r ∷ [])
        ≡ map (λ z. z.turn) (filter (has_left side other) ring
        ++ filter (has_left side other) (r ∷ []))
    pushed side other = ap (map (λ z. z.turn)) (filter-append (has_left side other) ring (r ∷ []))

    grown : (j port : ℕ) (side : Side) (other : End) → c.far_end j port ≡ Some other
        → IsTurnAt other.switch k other.port side d so_far
        ⊎ ((turns_of other.switch side other.port (event_at k (Left d) ∷ so_far)
        ≡ turns_of other.switch side other.port so_far)
        × (k ≡ other.switch → side ≡ d.side → other.port ≡ d.port → ⊥))
        → brought_by side port (in_clock
        (turns_of other.switch side other.port (event_at k (Left d) ∷ so_far)))
        ≡ map (brought side port) (from_end side other (ring ++ r ∷ []))
        ++ arrivals_at side port (came_to j so_far)
    grown j port side other joined (inl at) =
        let has : has_left side other r ≡ true =
        has-it side other r at.side_is (end-of other k d.port (sym at.switch_is) at.port_is) in
        let none = none-before side other r ring has (at-end ring early st.carried.at_time) below in
        let old : brought_by side port (in_clock (turns_of other.switch side other.port so_far))
        ≡ arrivals_at side port (came_to j so_far) =
        st.carried.carries j port side other joined
        ∙ ap (λ zs. map (brought side port) (map (λ z. z.turn) zs)
        ++ arrivals_at side port (came_to j so_far)) none in
        let last : from_end side other (ring ++ r ∷ []) ≡ d.turn ∷ [] =
        pushed side other
        ∙ ap (λ zs. map (λ z. z.turn) (zs ++ filter (has_left side other) (r ∷ []))) none
        ∙ ap (λ b. map (λ z. z.turn) (if b then r ∷ [] else [])) has in
        ap (λ ts. brought_by side port (in_clock ts)) at.more
        ∙ slot-first side port d.turn (turns_of other.switch side other.port so_far) young soon
        ∙ ap (λ xs. brought side port d.turn ∷ xs) old
        ∙ sym (ap (λ ts. map (brought side port) ts
        ++ arrivals_at side port (came_to j so_far)) last)
    grown j port side other joined (inr same) =
        let apart : has_left side other r ≡ false = hasnt side other same.1 in
        ap (λ ts. brought_by side port (in_clock ts)) same.0
        ∙ st.carried.carries j port side other joined
        ∙ rw (pushed side other, apart) (ap (λ zs. map (brought side port) (map (λ z. z.turn) zs)
        ++ arrivals_at side port (came_to j so_far))
        (sym (append-none (filter (has_left side other) ring))))
      where
        append-none : (zs : List OnCable) → zs ++ [] ≡ zs
        append-none [] = refl
        append-none (z ∷ zs) = ap (λ ys. z ∷ ys) (append-none zs)

        hasnt : (s : Side) (e : End) → (k ≡ e.switch → s ≡ d.side → e.port ≡ d.port → ⊥)
            → has_left s e r ≡ false
        hasnt s e not-it = elim (cases_Bool (has_left s e r)) [
          | inr apart ↦ apart
          | inl h ↦ absurd (let ends = left-end s e r h in not-it (sym ends.1) ends.0 ends.2)
        ]
