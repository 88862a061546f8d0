-- What the builder gives is a lawful frame.
use Rattle.std.proofs.Common.{◌≡◌, ℕ, List, refl, subst, ap, ◌∙◌, arith, length}
use Rattle.afdx_frame.specs.Grammar.{Read, built_frame, built_length}
use Rattle.afdx_frame.specs.declared.builder.Address.{Address}
use Rattle.afdx_frame.specs.declared.link.Side.{Side}
use Rattle.afdx_frame.proofs.BuiltLemmas.{built_is_computed}
use Rattle.afdx_frame.proofs.FrameLemmas.{built_is_read}
use Rattle.afdx_lawful.specs.Flaws.{address_in, address_of}
use Rattle.afdx_lawful.specs.Right.{BuiltIsLawful}

address_built : (a : Address) (number : ℕ) (side : Side) (p : List ℕ) →
    address_in (built_frame a number side p) ≡ address_of a.system_id side
address_built a number side p = refl

pub built_lawful : BuiltIsLawful
built_lawful s a line time number side p can bytes small vl system least most =
    let frame : List ℕ = built_frame a number side p in
    let is = built_is_computed a number side p can bytes small in
    let long : length frame ≡ built_length a (length p) = is.long in
    record {
      from_port = a.from_udp;
      to_port = a.to_udp;
      payload = p;
      bytes = is.bytes;
      reads = subst (λ (v : ℕ). Read frame v a.from_udp a.to_udp p number) vl
          (built_is_read a number side p frame can is.built);
      address = address_built a number side p ∙ ap (λ (i : ℕ). address_of i side) system;
      least = omega (arith, least, long);
      most = omega (arith, most, long);
    }
