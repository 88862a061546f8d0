use Rattle.std.proofs.Common.{length}
use Rattle.afdx_command_senders.proofs.texts.+put_findings.Given as goal

abbrev pub decreases-put_findings : goal.decreases-put_findings
decreases-put_findings l = length l.findings.now
