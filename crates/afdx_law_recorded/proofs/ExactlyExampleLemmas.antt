-- The example of a source of which nothing is found, by exact stamps, meets what is asked.
use Rattle.std.proofs.Common.{◌≡◌, ℕ, ◌<◌, List, refl, sym, ap, subst, arith}
use Rattle.std.specs.Prelude.{None}
use Rattle.std.specs.Prelude.{◌^◌}
use Rattle.afdx_frame.specs.Grammar.{built_frame}
use Rattle.afdx_frame.specs.Sealing.{AreBytes}
use Rattle.afdx_frame.specs.declared.link.Side.{Side}
use Rattle.afdx_frame.specs.declared.link.Side.TheVariants.{A, B}
use Rattle.afdx_frame.proofs.BuiltLemmas.{built_is_computed}
use Rattle.afdx_conform.specs.Leeways.{IsLeeway}
use Rattle.afdx_lawful.specs.Nearness.{hello}
use Rattle.afdx_lawful.specs.Sources.{apart_by}
use Rattle.afdx_lawful.specs.Worked.{a0, a1, b0, b1}
use Rattle.afdx_lawful.proofs.RightExampleLemmas.{a0-built, a1-built, address, are-bytes, b0-built, b1-built, can}
use Rattle.afdx_law_recorded.specs.Exactly.{AreAsFarApart, CutExactlyIsMet, ExactlyIsMet}
use Rattle.afdx_law_recorded.specs.Examples.{options, source_until}
use Rattle.afdx_law_recorded.proofs.ExampleLemmas.{cut_met, premises_met}

of-bytes : (side : Side) (n : ℕ) (frame : List ℕ) → n < 2 ^ 8 → frame ≡ built_frame address n side hello.payload →
    AreBytes frame
of-bytes side n frame small is =
    subst AreBytes (sym is) (built_is_computed address n side hello.payload can are-bytes small).bytes

exact-options : IsLeeway (options 0)
exact-options = record {
  slack = omega arith;
  between = omega arith;
  drift = omega arith;
  inner = omega arith;
  asked = omega arith;
  start = λ x e. absurd (cc e);
}

pub exactly_met : ExactlyIsMet
exactly_met = record {
  range = record {
    rule = premises_met.way.rule;
    leeway = exact-options;
    apart = premises_met.awaited;
  };
  of = record { link = refl; bag = refl; jitter = refl; least = refl; most = refl; system = refl };
  seen = record {
    paired = refl;
    start = refl;
    slack = refl;
    drift = refl;
    bytes = (
      of-bytes B 1 b1 (omega arith) b1-built,
      (
        of-bytes A 1 a1 (omega arith) a1-built,
        (of-bytes B 0 b0 (omega arith) b0-built, (of-bytes A 0 a0 (omega arith) a0-built, tt)),
      ),
    );
    named = premises_met.quiet.named;
    by_time = premises_met.quiet.by_time;
  };
  uncut = premises_met.uncut;
  found = record { coming = premises_met.quiet.coming; single = premises_met.quiet.single };
}

-- the link's frames have one length
alike : AreAsFarApart (source_until 0 1200000)
alike m n h k =
    let same : m ≡ n = omega (arith, h.0, h.1, k.0, k.1) in
    ap (apart_by (source_until 0 1200000) None) same

pub cut_exactly_met : CutExactlyIsMet
cut_exactly_met = record {
  range = record {
    rule = cut_met.way.rule;
    leeway = exact-options;
    apart = premises_met.awaited;
  };
  of = record { link = refl; bag = refl; jitter = refl; least = refl; most = refl; system = refl };
  seen = record {
    paired = refl;
    start = refl;
    slack = refl;
    drift = refl;
    bytes = (
      of-bytes A 1 a1 (omega arith) a1-built,
      (of-bytes B 0 b0 (omega arith) b0-built, (of-bytes A 0 a0 (omega arith) a0-built, tt)),
    );
    named = cut_met.quiet.named;
    by_time = cut_met.quiet.by_time;
  };
  alike = alike;
  found = record { coming = cut_met.quiet.coming; single = cut_met.quiet.single };
}
