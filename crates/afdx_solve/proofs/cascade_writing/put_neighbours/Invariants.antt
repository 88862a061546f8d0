use Rattle.std.proofs.Common.{◌≡◌, ◌++◌, take, drop}
use Rattle.std.specs.Prelude.{string_bytes}
use Rattle.std.specs.List.{flat_map}
use Rattle.afdx_solve.specs.CascadeText.{neighbour_text}
use Rattle.afdx_solve.proofs.cascade_writing.put_neighbours.Given as goal

abbrev pub invariant-loop-i : goal.invariant-loop-i
invariant-loop-i l = string_bytes l.text
    ≡ string_bytes l.fn.text ++ flat_map neighbour_text (take l.i (drop l.tables.own l.tables.systems))
