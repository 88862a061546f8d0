-- Which answers an arrival may have in a state.
use Rattle.std.specs.Prelude.{ℕ, Bool, not, ◌&&◌}
use Rattle.afdx_police.specs.Arrival.{Arrival}
use Rattle.afdx_conform.specs.Explanations.{link, charge, levels_then}
use Rattle.afdx_conform.specs.Levels.{may_pass, has_to_pass}
use Rattle.afdx_conform.specs.States.{State}
use Rattle.afdx_conform.specs.Streams.{Terms}

-- it may have had room, where the one before it came at `last`
abbrev pub may_go : Terms → ℕ → Arrival → State → Bool
may_go z last x s = may_pass (link z) z.by (charge z x) (levels_then z s.levels last x)

-- it may have had room, and none
abbrev pub goes_either_way : Terms → ℕ → Arrival → State → Bool
goes_either_way z last x s = may_go z last x s
    && not (has_to_pass (link z) z.by (charge z x) (levels_then z s.levels last x))
