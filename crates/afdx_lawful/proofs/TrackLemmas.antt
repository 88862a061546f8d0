-- What is told of a frame by its own side is what is found of it.
use Rattle.std.proofs.Common.{◌≡◌, List, ◌++◌, ap₂}
use Rattle.std.specs.Prelude.{Option, option_map, option_to_list}
use Rattle.afdx_lawful.specs.Alone.{found_alone, number_after, other_number, times_with_room, too_soon}
use Rattle.afdx_lawful.specs.Flaws.{flaw_of}
use Rattle.afdx_lawful.specs.Sources.{Came, Source}
use Rattle.afdx_lawful.specs.declared.finding.SenderFinding.{SenderFinding}
use Rattle.afdx_lawful.specs.declared.finding.SenderFinding.TheVariants.{Unlawful}
use Rattle.afdx_lawful.specs.declared.finding.Flaw.{Flaw}

pub told_found : (s : Source) (past : List Came) (x : Came) (flaw : Option Flaw) (others soon : List SenderFinding) →
    flaw ≡ flaw_of s x → others ≡ other_number s x (number_after s past) →
    soon ≡ too_soon s x (times_with_room s past) →
    option_to_list (option_map (Unlawful x.line) flaw) ++ (others ++ soon) ≡ found_alone s past x
unfolding found_alone
told_found s past x flaw others soon f o h =
    ap₂ (λ (f : Option Flaw) (l : List SenderFinding). option_to_list (option_map (Unlawful x.line) f) ++ l) f
    (ap₂ (λ (a b : List SenderFinding). a ++ b) o h)
