use Rattle.std.proofs.Common.{◌≡◌, false, nat_eq, take}
use Rattle.std.specs.List.{list_any}
use Rattle.afdx_config.proofs.tables.Tables.own_has_id.Given as goal

abbrev pub invariant-loop-i : goal.invariant-loop-i
invariant-loop-i l = list_any (λ s. nat_eq s.id l.id) (take l.i l.self.systems) ≡ false
