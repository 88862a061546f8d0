-- What a run is asked, as the code holds it, where this is what it sees of the switch.
use Rattle.afdx_conform.specs.LeewayOf.{leeway_of}
use Rattle.afdx_command_conform.specs.Choices.{Choices}
use Rattle.afdx_command_conform.specs.Sight.{Sight}
use Rattle.afdx_command_conform.specs.declared.choices.Choices as code

abbrev pub choices_of : Sight → code.Choices → Choices
choices_of sight choices = record {
  by = leeway_of choices.leeway;
  until = choices.until;
  left_out = choices.left_out.items;
  sight = sight;
  exercised = choices.is_exercised;
}
