-- Options with their places in what a configuration describes.
use Rattle.std.proofs.Common.{◌≡◌, sym, subst}
use Rattle.afdx_config.specs.Files.{IsLawfulFile}
use Rattle.afdx_config.specs.Switches.{AreSwitches, NamedRows}
use Rattle.afdx_config.specs.declared.describing.Described.{Described}
use Rattle.afdx_config.specs.declared.describing.Described.TheVariants.{One, Several}
use Rattle.afdx_replay.specs.replaying.Input.{IsThere}
use Rattle.std.specs.Prelude.{List}

-- where several switches are described, what such options are there
pub are-there : {P : Type 0} (there : List NamedRows → P → Type 0) (options : P) (placed : Described → Type 0)
    (d taken : Described) → taken ≡ d → IsLawfulFile d
    → ((ss : List NamedRows) → AreSwitches ss → placed (Several ss) → there ss options) → placed d
    → IsThere there options taken
are-there there options placed d taken same lawful so is =
    subst (λ (x : Described). IsThere there options x) (sym same) (by d lawful is)
  where
    by : (x : Described) → IsLawfulFile x → placed x → IsThere there options x
    by (One t) lawful is = tt
    by (Several ss) lawful is = so ss lawful is
