use Rattle.afdx_conform.proofs.LaterArrivals.{arrivals_later}
use Rattle.afdx_conform.proofs.LaterEnd.{end_later}
use Rattle.afdx_conform.proofs.LaterLemmas.{frames_later}
use Rattle.afdx_conform.proofs.StaysLemmas.{found_stays}
use Rattle.afdx_conform.proofs.laws.later_changes_no_finding.Goals as goal

pub returns : goal.returns
returns c = record { frames = frames_later; arrivals = arrivals_later; end = end_later; stays = found_stays }
