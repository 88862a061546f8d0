use Rattle.std.proofs.Common.{◌≡◌, ◌≤◌, ℕ, length, take}
use Rattle.std.specs.Prelude.{find, option_map, nat_eq, ◌&&◌}
use Rattle.afdx_config.specs.Rows.{is_to}
use Rattle.afdx_receive.specs.StandsFor.{memory_at_first}
use Rattle.afdx_receive.specs.Kept.{memory_at}
use Rattle.afdx_receive.proofs.link_receiver.links_of.Given as goal

-- the memories of the links so far
abbrev pub invariant-loop-index : goal.invariant-loop-index
invariant-loop-index l = record {
  so_far : (vl : ℕ) → memory_at l.links vl
      ≡ option_map memory_at_first (find (λ link. nat_eq link.vl vl && is_to l.system.0 link)
      (take l.index l.tables.links));
  few : length l.links.memories ≤ l.index;
}
