use Rattle.std.proofs.Common.{List, ℕ, sym, subst, arith}
use Rattle.afdx_frame.specs.Parts.{bytes_of, parts_of, IsFrameOf, IsLinkFrame}
use Rattle.afdx_frame.specs.declared.checked.Checked.{Checked}
use Rattle.afdx_frame.specs.Sealing.{sealed}
use Rattle.afdx_frame.proofs.KnownLemmas.{known-sealed, known-least, known-most, known-link}
use Rattle.afdx_frame.proofs.PartsLemmas.{computed_frame}
use Rattle.afdx_frame.proofs.SealsLemmas.{AreBytes-whole}
use Rattle.afdx_frame.proofs.mac.MacView.known.Goals as goal

message-of : (frame : Checked) → IsLinkFrame (bytes_of frame) → IsLinkFrame (sealed frame.message.now)
message-of frame is =
    subst IsLinkFrame (known-sealed frame.seal frame.message.now frame.known frame.fits is) is

pub bounds-message-4 : goal.bounds-message-4
bounds-message-4 c = let least = known-least c.args.frame.message.now (message-of c.args.frame c.requires) in
    omega (arith, least)

pub bounds-message : goal.bounds-message
bounds-message c = let least = known-least c.args.frame.message.now (message-of c.args.frame c.requires) in
    omega (arith, least)

pub at_places-requires : goal.at_places-requires
at_places-requires c =
    let m = c.args.frame.message.now in
    let is = message-of c.args.frame c.requires in
    record {
      shortest = omega (arith, known-least m is);
      longest = omega (arith, known-most m is);
      named = known-link m is c.from_be_bytes.result c.from_be_bytes.ensures;
    }

pub returns-clause-ok : goal.returns-clause-ok
returns-clause-ok c =
    let frame = c.args.frame in
    subst (λ (b : List ℕ). IsFrameOf b (parts_of c.at_places.result))
    (sym (known-sealed frame.seal frame.message.now frame.known frame.fits c.requires)) c.at_places.ensures

pub returns-clause-computed : goal.returns-clause-computed
returns-clause-computed c =
    let frame = c.args.frame in
    computed_frame (bytes_of frame) (parts_of c.at_places.result)
    (AreBytes-whole frame.seal frame.message.now frame.fits) (returns-clause-ok c)
