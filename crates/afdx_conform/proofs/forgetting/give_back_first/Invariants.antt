use Rattle.std.proofs.Common.{◌≡◌, ◌-◌, length, take}
use Rattle.afdx_conform.proofs.forgetting.give_back_first.Given as goal

abbrev pub invariant-loop-given : goal.invariant-loop-given
invariant-loop-given g l = l.items.items
    ≡ take (length l.initial.items.items - l.given) l.initial.items.items
