-- What a regulator that keeps only the messages still to release has to do with all that was
-- submitted and released.
use Rattle.std.specs.Prelude.{◌≡◌, ℕ, ◌+◌, ◌≤◌, max, min, map, option_map, List, [], ◌∷◌, ◌++◌, length, Option, Some, None, slice_get, slice_set}
use Rattle.afdx_send.specs.declared.regulator.Queued.{Queued}
use Rattle.afdx_send.specs.declared.regulator.Regulator.{Regulator}
use Rattle.afdx_send.specs.Releases.{Submission, Release, earliest_after, last_served, turn, IsUnreleased, IsNext, AreReleases}

abbrev pub submission_of : ℕ → Queued → Submission
submission_of sub m = record {
  time = m.time;
  sub = sub;
  message = record { udp = m.udp; payload = m.payload.items };
}

-- the first submission of a sub-VL without a release, from a place on
pub record IsFirst (submissions : List Submission) (releases : List Release) (sub from place : ℕ)
    (s : Submission) : Type 0 where
  pub from_on : from ≤ place
  pub own : IsUnreleased submissions releases place s
  pub first : (q : ℕ) (d : Submission) →
      from ≤ q →
      IsUnreleased submissions releases q d →
      d.sub ≡ sub →
      place ≤ q

-- these messages are, in order, the submissions of a sub-VL without a release, from a place on
abbrev pub IsQueue : List Submission → List Release → ℕ → ℕ → List Queued → Type 0
IsQueue submissions releases sub from [] = (q : ℕ) (d : Submission) → from ≤ q →
    IsUnreleased submissions releases q d → d.sub ≡ sub → ⊥
IsQueue submissions releases sub from (m ∷ ms) =
    (place : ℕ) × IsFirst submissions releases sub from place (submission_of sub m)
    × IsQueue submissions releases sub (place + 1) ms

abbrev pub sub_count : Regulator → ℕ
sub_count p = length p.queues.items

-- the messages that wait, by sub-VL
abbrev pub waiting_of : Regulator → List (List Queued)
waiting_of p = map (λ q. q.items) p.queues.items

-- the messages that wait in the queue at this index, that of the sub-VL one more
abbrev pub HasQueue : List (List Queued) → ℕ → List Queued → Type 0
HasQueue queues index ms = slice_get queues index ≡ Some ms

-- the least time of a queue's front and another
abbrev pub sooner : Option ℕ → List Queued → Option ℕ
sooner other [] = other
sooner None (m ∷ ms) = Some m.time
sooner (Some t) (m ∷ ms) = Some (min t m.time)

abbrev pub first_time : Option ℕ → List (List Queued) → Option ℕ
first_time soonest [] = soonest
first_time soonest (q ∷ qs) = first_time (sooner soonest q) qs

-- when the next message is released
abbrev pub next_time_of : Regulator → Option ℕ
next_time_of p = option_map (λ t. max t p.earliest) (first_time None (waiting_of p))

-- the front of the queue at this index has come by that time
pub record HasCome (queues : List (List Queued)) (time index : ℕ) (message : Queued)
    (rest : List Queued) : Type 0 where
  pub has : HasQueue queues index (message ∷ rest)
  pub come : message.time ≤ time

-- some message of the queue has
abbrev pub IsReady : List (List Queued) → ℕ → ℕ → Type 0
IsReady queues time index = (m : Queued) × (ms : List Queued) × HasCome queues time index m ms

-- of the queues whose fronts have come by that time, the one at this index is the next in the cycle
pub record IsChosen (subs : ℕ) (queues : List (List Queued)) (served time index : ℕ) : Type 0 where
  pub ready : IsReady queues time index
  pub in_turn : (other : ℕ) →
      IsReady queues time other →
      turn subs served (index + 1) ≤ turn subs served (other + 1)

-- the regulator's messages are those which these submissions and these releases leave
pub record Regulates (p : Regulator) (submissions : List Submission) (releases : List Release)
    : Type 0 where
  pub are_releases : AreReleases p.bag (sub_count p) submissions releases
  pub earliest : p.earliest ≡ earliest_after p.bag releases
  pub served : p.served ≡ last_served releases
  pub queues : (index : ℕ) (ms : List Queued) →
      HasQueue (waiting_of p) index ms →
      IsQueue submissions releases (index + 1) 0 ms
  pub subs : (place : ℕ) (s : Submission) → slice_get submissions place ≡ Some s → (1 ≤ s.sub)
      × (s.sub ≤ sub_count p)
  pub in_order : (i j : ℕ) (d e : Submission) →
      i ≤ j →
      slice_get submissions i ≡ Some d →
      slice_get submissions j ≡ Some e →
      d.time ≤ e.time

-- a message leaves the front of the queue at this index
pub record Pops (old : List (List Queued)) (index : ℕ) (m : Queued) (new : List (List Queued))
    : Type 0 where
  pub rest : List Queued
  pub has : HasQueue old index (m ∷ rest)
  pub left : new ≡ slice_set old index rest

-- a message joins the queue at this index
pub record Pushes (old : List (List Queued)) (index : ℕ) (m : Queued) (new : List (List Queued))
    : Type 0 where
  pub before : List Queued
  pub has : HasQueue old index before
  pub after : new ≡ slice_set old index (before ++ m ∷ [])

-- a message leaves its queue at that time
pub record Serves (p : Regulator) (time sub : ℕ) (m : Queued) (new : Regulator) : Type 0 where
  pub index : ℕ
  pub sub_is : sub ≡ index + 1
  pub chosen : IsChosen (sub_count p) (waiting_of p) p.served time index
  pub pops : Pops (waiting_of p) index m (waiting_of new)
  pub served : new.served ≡ sub
  pub bag : new.bag ≡ p.bag
  pub earliest : new.earliest ≡ time + p.bag

-- the message is released at that time, next after these releases, and the regulator goes on from
-- there
pub record Releases (p : Regulator) (ss : List Submission) (rs : List Release) (time sub : ℕ)
    (m : Queued) (new : Regulator) : Type 0 where
  pub r : Release
  pub next : IsNext p.bag (sub_count p) ss rs r
  pub at : r.time ≡ time
  pub is : r.submission ≡ submission_of sub m
  pub bag : new.bag ≡ p.bag
  pub subs : sub_count new ≡ sub_count p
  pub regulates : Regulates new ss (r ∷ rs)
