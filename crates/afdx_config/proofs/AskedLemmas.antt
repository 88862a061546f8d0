-- What links ask for.
use Rattle.std.proofs.Common.{◌≡◌, ℕ, List, map, ap, ◌∙◌, Option}
use Rattle.std.specs.Prelude.{option_and_then}
use Rattle.toml.specs.Data.{Data, Members, get_member}
use Rattle.afdx_config.specs.declared.keys.At.{At}
use Rattle.afdx_config.specs.Keys.{Spot, spot_of, link_at, switch_at, switches_at}
use Rattle.afdx_config.specs.Asked.{number_of, latency_of, listed, latencies_at, latencies_by_switch}

name_at : (at : At) (spot : Spot) → spot_of at ≡ spot → at.name.now ≡ spot.name
unfolding spot_of
name_at at spot e = ap (λ (s : Spot). s.name) e

pub latency-found : (at : At) (t : Members) (found : Option Data) → spot_of at ≡ link_at 1 10
    → found ≡ get_member at.name.now t → option_and_then number_of found ≡ latency_of t
unfolding latency_of
latency-found at t found spot is =
    ap (option_and_then number_of)
    (is ∙ ap (λ (name : List ℕ). get_member name t) (name_at at (link_at 1 10) spot))

-- what is asked in the tables that were found
pub all-asked : (at : Spot) (t : Members) (links : List Members) (latencies : List (Option ℕ)) → links ≡ listed at t
    → latencies ≡ map latency_of links → latencies ≡ latencies_at at t
unfolding latencies_at
all-asked at t links latencies is each = each ∙ ap (λ (ts : List Members). map latency_of ts) is

pub each-asked : (t : Members) (tables : List Members) (latencies : List (List (Option ℕ)))
    → tables ≡ listed switches_at t
    → latencies ≡ map (latencies_at (switch_at 4)) tables → latencies ≡ latencies_by_switch t
each-asked t tables latencies is each =
    each ∙ ap (λ (ts : List Members). map (latencies_at (switch_at 4)) ts) is
