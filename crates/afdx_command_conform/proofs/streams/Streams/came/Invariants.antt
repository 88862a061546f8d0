use Rattle.std.proofs.Common.{◌≡◌, ℕ, ◌+◌, ◌<◌, ◌≤◌, Some, None, List, length, take}
use Rattle.std.specs.Prelude.{slice_get}
use Rattle.std.specs.List.{AllByRecursion}
use Rattle.afdx_config.specs.Rows.{LinkRow}
use Rattle.afdx_conform.specs.Explanations.{from_time}
use Rattle.afdx_conform.specs.LeewayOf.{leeway_of}
use Rattle.afdx_conform.specs.Ranges.{most_held}
use Rattle.afdx_police.specs.Arrival.{arrival_with}
use Rattle.afdx_frame.specs.Parts.{bytes_of}
use Rattle.afdx_command_conform.specs.Choices.{Choices}
use Rattle.afdx_command_conform.specs.Keeping.{AreKept, Given, came_to}
use Rattle.afdx_command_conform.specs.Lines.{Due}
use Rattle.afdx_command_conform.specs.Standing.{seen_by}
use Rattle.afdx_command_conform.specs.declared.key.Key.{Key}
use Rattle.afdx_command_conform.proofs.TappedLemmas.{seen_ports}
use Rattle.afdx_command_conform.proofs.streams.Streams.came.Given as goal

abbrev pub invariant-loop-rank : goal.invariant-loop-rank
invariant-loop-rank l = record {
  tables : l.self.tables ≡ l.fn.self.tables;
  leeway : l.self.leeway ≡ l.fn.self.leeway;
  taps : l.self.taps ≡ l.fn.self.taps;
  ended : l.self.ended ≡ l.fn.self.ended;
  kept : (c : Choices) (until time : ℕ) (given : Key → Given) (lines : List Due) (row : LinkRow)
      → slice_get l.fn.self.tables.now.links l.link ≡ Some row → leeway_of l.fn.self.leeway ≡ c.by
      → seen_by l.fn.self ≡ c.sight
      → time ≤ l.heading.time → from_time c.by.start ≤ l.heading.time
      → ((k : Key) → AllByRecursion (λ x. x.time ≤ l.heading.time) (given k).came)
      → ((k : Key) → length (given k).came + 1 < most_held)
      → AreKept l.fn.self.tables.now c until None time given lines l.fn.self.kept
      → AreKept l.fn.self.tables.now c until None time
      (came_to l.heading.side l.link (seen_ports l.fn.self.tables.now c.sight l.heading.side (take l.rank row.to))
      (arrival_with l.n l.heading.time l.heading.side l.heading.port (bytes_of l.frame)) given) lines l.self.kept;
}
