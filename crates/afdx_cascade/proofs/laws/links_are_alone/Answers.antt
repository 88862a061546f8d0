use Rattle.afdx_cascade.proofs.AloneLemmas.{links-alone, only-its-way, own-of-list, reasons-alone}
use Rattle.afdx_cascade.proofs.BeginLemmas.{first-links-alone, first-reasons-alone}
use Rattle.afdx_cascade.proofs.laws.links_are_alone.Goals as goal

pub returns : goal.returns
returns c = record {
  listed = own-of-list;
  reasons = reasons-alone;
  first_reasons = first-reasons-alone;
  frames = links-alone;
  first_frames = first-links-alone;
  way = only-its-way;
}
