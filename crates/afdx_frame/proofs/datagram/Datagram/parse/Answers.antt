use Rattle.std.proofs.Common.{◌∙◌, ℕ, List, sym, subst}
use Rattle.afdx_frame.specs.declared.fault.IpFault.TheVariants.{NotIpv4}
use Rattle.afdx_frame.specs.Parts.{parts_of}
use Rattle.afdx_frame.proofs.CarriedLemmas.{carried_by-other}
use Rattle.afdx_frame.proofs.ReadingLemmas.{IsExact, IsComputed, none_read, shown-ok, shown-err}
use Rattle.afdx_frame.proofs.ReadingLemmas.{shown-read, shown-computed}
use Rattle.afdx_frame.proofs.datagram.Datagram.parse.Goals as goal

pub returns-then-ether_type-ne-IPV4-clause-read : goal.returns-then-ether_type-ne-IPV4-clause-read
returns-then-ether_type-ne-IPV4-clause-read c bytes f =
    none_read bytes (parts_of c.args.frame) NotIpv4 f
    (λ e. c.if-ether_type-ne-IPV4.true (c.ether_type.ensures ∙ e))

pub returns-then-ether_type-ne-IPV4-clause-computed :
    goal.returns-then-ether_type-ne-IPV4-clause-computed
returns-then-ether_type-ne-IPV4-clause-computed c bytes f =
    carried_by-other bytes (parts_of c.args.frame) f
    (λ e. c.if-ether_type-ne-IPV4.true (c.ether_type.ensures ∙ e))

pub returns : goal.returns
returns c =
    let kind = sym c.ether_type.ensures ∙ c.if-ether_type-ne-IPV4.false in
    let exact = subst (λ (body : List ℕ). IsExact body c.datagram_in.result) c.body.ensures
    c.datagram_in.ensures.exact in
    record {
      ok = shown-ok (parts_of c.args.frame) c.datagram_in.result kind exact;
      err = shown-err (parts_of c.args.frame) c.datagram_in.result kind exact;
      read = shown-read (parts_of c.args.frame) c.datagram_in.result kind exact;
      computed = shown-computed (parts_of c.args.frame) c.datagram_in.result kind
          (subst (λ (body : List ℕ). IsComputed body c.datagram_in.result) c.body.ensures
          c.datagram_in.ensures.computed);
    }
