use Rattle.std.proofs.Common.{◌≡◌, ◌++◌, take}
use Rattle.std.specs.Prelude.{string_bytes}
use Rattle.std.specs.List.{flat_map}
use Rattle.afdx_solve.specs.ConfigText.{port_text}
use Rattle.afdx_solve.proofs.writing.put_ports.Given as goal

abbrev pub invariant-loop-i : goal.invariant-loop-i
invariant-loop-i l = string_bytes l.text
    ≡ string_bytes l.fn.text ++ flat_map (port_text l.above l.tables.systems) (take l.i l.tables.ports)
