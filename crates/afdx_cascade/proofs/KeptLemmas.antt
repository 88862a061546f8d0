-- What an admitted cascade keeps from end to end.
use Rattle.afdx_frame.specs.Reading.{BuiltIsComputed}
use Rattle.afdx_cascade.specs.Kept.{CascadeKeepsEndToEnd, CascadeKeepsSoFar}
use Rattle.afdx_cascade.proofs.AloneLemmas.{links-alone, reasons-alone}
use Rattle.afdx_cascade.proofs.BeginLemmas.{first-links-alone, first-reasons-alone}
use Rattle.afdx_cascade.proofs.EndToEndLemmas.{first-links-leave, links-leave, no-others}
use Rattle.afdx_cascade.proofs.MessageLemmas.{first-messages, messages-once, messages-so-far, one-side}
use Rattle.afdx_cascade.proofs.ReadLemmas.{cables-read}

pub keeps-all : BuiltIsComputed → CascadeKeepsEndToEnd
keeps-all computed ss events all = record {
  accepted = λ k later past x other came joined. (cables-read ss events k later past x other all.cascade came joined).1;
  ends = λ side r before sum port way. links-leave ss events side r before sum port all way;
  others = λ side k port vl within low high none.
      no-others ss events side k port vl all.cascade within low high none;
  verdicts = λ another side r also alike. reasons-alone ss events another side r all.cascade also alike;
  same = λ another side r before also row rows alike.
      links-alone ss events another side r before all also row rows alike;
  once = messages-once computed ss events all;
  one_side = one-side computed ss events all;
  once_so_far = messages-so-far computed ss events all;
}

pub keeps-so-far : BuiltIsComputed → CascadeKeepsSoFar
keeps-so-far computed ss events all begun = record {
  accepted = λ k later past x other came joined. (cables-read ss events k later past x other all came joined).1;
  ends = λ side r before sum port way. first-links-leave ss events side r before sum port all way;
  others = λ side k port vl within low high none. no-others ss events side k port vl all within low high none;
  verdicts = λ another side r also alike. reasons-alone ss events another side r all also alike;
  first_verdicts = λ another side r also alike. first-reasons-alone ss events another side r all also alike;
  same = λ another side r before also row rows alike.
      first-links-alone ss events another side r before all also row rows alike;
  first = first-messages computed ss events all begun;
}
