-- The soonest of several releases, found by a tournament.
use Rattle.std.specs.Prelude.{◌≡◌, ℕ, ◌+◌, ◌*◌, ◌<◌, ◌≤◌, ◌⊎◌, List, map, drop, length, Option, Some, None, option_map, slice_get}
use Rattle.afdx_config.specs.Reading.{most_links}
use Rattle.afdx_send.specs.declared.agenda.ReleaseAgenda.{ReleaseAgenda}
use Rattle.afdx_send.specs.declared.agenda.NextRelease.{NextRelease}

-- the first goes before the other: it is sooner, or at one moment and its link doesn't stand after
-- the other. None is last
abbrev pub IsAhead : Option NextRelease → Option NextRelease → Type 0
IsAhead a None = Unit {0}
IsAhead None (Some y) = ⊥
IsAhead (Some x) (Some y) = (x.time ≤ y.time) × (x.time ≡ y.time → x.place ≤ y.place)

-- the node of the link at a place
abbrev pub next_with : ℕ → ℕ → NextRelease
next_with place t = record { time = t; place = place }

-- when the links' next releases are
abbrev pub times_of : ℕ → List (Option NextRelease) → List (Option ℕ)
times_of count nodes = map (λ x. option_map (λ next. next.time) x) (drop count nodes)

-- the node at i is the one of the two below it that goes before the other
pub record IsSooner (a b c : Option NextRelease) : Type 0 where
  pub picks : (a ≡ b) ⊎ (a ≡ c)
  pub left : IsAhead a b
  pub right : IsAhead a c

abbrev pub IsWinner : List (Option NextRelease) → ℕ → Type 0
IsWinner nodes i = (a b c : Option NextRelease) → slice_get nodes i ≡ Some a →
    slice_get nodes (2 * i) ≡ Some b → slice_get nodes (2 * i + 1) ≡ Some c → IsSooner a b c

-- the last `count` nodes are those of the links, and carry their places; each other, from 1 on, is
-- the sooner of the two below it
pub record IsTournament (count : ℕ) (nodes : List (Option NextRelease)) : Type 0 where
  pub size : length nodes ≡ 2 * count
  pub small : count ≤ most_links
  pub leaves : (k : ℕ) (x : NextRelease) → slice_get nodes (count + k) ≡ Some (Some x) → x.place ≡ k
  pub winners : (i : ℕ) → 1 ≤ i → i < count → IsWinner nodes i

abbrev pub nexts : ReleaseAgenda → List (Option ℕ)
nexts a = times_of a.count a.nodes.items

abbrev pub IsPlayed : ReleaseAgenda → Type 0
IsPlayed a = IsTournament a.count a.nodes.items

-- no link releases before t
abbrev pub NoneBefore : List (Option ℕ) → ℕ → Type 0
NoneBefore nexts t = (i u : ℕ) → slice_get nexts i ≡ Some (Some u) → t ≤ u

-- the next release of all is that of the link at this place, at t
pub record IsSoonest (nexts : List (Option ℕ)) (t place : ℕ) : Type 0 where
  pub own : slice_get nexts place ≡ Some (Some t)
  pub soonest : NoneBefore nexts t
  pub first : (i : ℕ) → slice_get nexts i ≡ Some (Some t) → place ≤ i
