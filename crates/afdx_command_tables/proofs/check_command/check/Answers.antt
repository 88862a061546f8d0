use Rattle.afdx_command_tables.proofs.check_command.check.Goals as goal

pub returns : goal.returns
returns g c = record {
  checks = record {
    statuses = c.check_lines.ensures.statuses;
    device = c.check_lines.ensures.device;
    checked = c.check_lines.ensures.checked;
    refused = c.check_lines.ensures.refused;
    stopped = c.check_lines.ensures.stopped;
  };
}
