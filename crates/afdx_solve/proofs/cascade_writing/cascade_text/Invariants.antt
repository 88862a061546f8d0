use Rattle.std.proofs.Common.{◌≡◌, ◌≤◌, take}
use Rattle.std.specs.Prelude.{string_bytes}
use Rattle.afdx_solve.specs.CascadeText.{cascade_text}
use Rattle.afdx_solve.proofs.cascade_writing.cascade_text.Given as goal

abbrev pub invariant-loop-i : goal.invariant-loop-i
invariant-loop-i l = record {
  some : 1 ≤ l.i;
  so_far : string_bytes l.text ≡ cascade_text (take l.i l.switches);
}
