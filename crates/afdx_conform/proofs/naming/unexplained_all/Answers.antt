use Rattle.std.proofs.Common.{rules, ◌≡◌, ◌+◌, ℕ, length, subst, List, ◌++◌, [], ◌∷◌, map, take, get_or, refl, sym, ap, ◌∙◌, arith}
use Rattle.std.proofs.lemmas.List.{map-append, take_more, take_all}
use Rattle.afdx_conform.specs.Findings.{Finding, Judged, unexplained}
use Rattle.afdx_conform.specs.Limits.{gone_of}
use Rattle.afdx_conform.specs.Marks.{marked_all, told}
use Rattle.afdx_conform.specs.KnownBytes.{AreEach, AreKnown}
use Rattle.afdx_conform.specs.Naming.{AreSettled, NoneIsWanted, unexplained_all}
use Rattle.afdx_conform.specs.Streams.{Gone}
use Rattle.afdx_conform.specs.declared.finding.Mark.{Mark}
use Rattle.afdx_conform.specs.declared.gaps.Wanted.TheVariants.{ToName, Accepted}
use Rattle.afdx_conform.specs.declared.known_bytes.KnownBytes.{KnownBytes}
use Rattle.afdx_conform.specs.declared.limits.LeftFrame.{LeftFrame}
use Rattle.afdx_conform.proofs.GapLemmas.{known-still, settled-stays}
use Rattle.afdx_conform.proofs.NamingLemmas.{told-none, told-unexplained, all-more, all-none}
use Rattle.afdx_conform.proofs.naming.unexplained_all.Goals as goal

pub loop-frame-init : goal.loop-frame-init
loop-frame-init c = record {
  same = λ z time j a e. ap
      (λ (l : List Finding). told time l (marked_all c.args.recorded.now.arrivals.now c.args.marks.now.items)
      j)
      c.requires.none
      ∙ told-none time (marked_all c.args.recorded.now.arrivals.now c.args.marks.now.items) j e
      ∙ sym (all-none z time j);
  size = refl;
  same_known = refl;
  settled = c.requires.settled;
  count =
      (let ok = c.args.found.now.ok in
      let none = ap (λ (l : List Finding). length l) c.requires.none in
      omega (arith, ok, none));
  room = refl;
  kept = refl;
}

pub loop-frame-preserved : goal.loop-frame-preserved
loop-frame-preserved c =
    let inv = c.loop-frame.invariant in
    let judged : AreSettled c.settle-gaps.new.self.gaps.items c.args.recorded.now.arrivals.now
    c.loop-frame.marks.items =
    subst (λ (l : List Mark). AreSettled c.settle-gaps.new.self.gaps.items c.args.recorded.now.arrivals.now l)
    c.as_slice-judged.ensures.value
    c.settle-gaps.ensures.settled in record {
      same = λ z time j a e.
          let is : c.frame-item.result
          ≡ get_or c.args.recorded.now.frames.now c.loop-frame.frame-index c.frame-item.result =
          search rules in
          ap (λ (l : List Finding).
          told time l (marked_all c.args.recorded.now.arrivals.now c.unexplained-finding.new.marks.items)
          j)
          c.push_reserved.ensures.items
          ∙ told-unexplained z time c.loop-frame.found.items c.unexplained-finding.result
          (marked_all c.args.recorded.now.arrivals.now c.loop-frame.marks.items)
          (marked_all c.args.recorded.now.arrivals.now c.unexplained-finding.new.marks.items)
          (gone_of c.frame-item.result) j
          (c.unexplained-finding.ensures.finding z a) (c.unexplained-finding.ensures.named z a)
          ∙ ap (λ (k : Judged). unexplained z time (gone_of c.frame-item.result) k) (inv.same z time j a e)
          ∙ sym (all-more z time (map gone_of (take c.loop-frame.frame-index c.args.recorded.now.frames.now))
          (gone_of c.frame-item.result) j)
          ∙ ap (λ (l : List Gone). unexplained_all z time l j)
          (ap (λ (f : LeftFrame). map gone_of (take c.loop-frame.frame-index c.args.recorded.now.frames.now)
          ++ (gone_of f ∷ [])) is
          ∙ sym (ap (λ (l : List LeftFrame). map gone_of l)
          (take_more c.args.recorded.now.frames.now c.loop-frame.frame-index
          c.frame-item.result
          c.loop-frame-test.true)
          ∙ map-append gone_of (take c.loop-frame.frame-index c.args.recorded.now.frames.now)
          (get_or c.args.recorded.now.frames.now c.loop-frame.frame-index c.frame-item.result ∷ [])));
      size = c.unexplained-finding.ensures.length ∙ inv.size;
      same_known = c.settle-gaps.ensures.same ∙ ap (λ (k : KnownBytes). record k
          { gaps = c.settle-gaps.new.self.gaps }) inv.same_known;
      settled = settled-stays c.settle-gaps.new.self.gaps.items c.args.recorded.now.arrivals.now
          c.loop-frame.marks.items
          c.unexplained-finding.new.marks.items c.unexplained-finding.ensures.length
          c.unexplained-finding.ensures.stay judged;
      count = c.push_reserved.ensures.len ∙ ap (λ (n : ℕ). n + 1) inv.count;
      room = c.push_reserved.ensures.capacity ∙ inv.room;
      kept = c.unexplained-finding.ensures.capacity ∙ inv.kept;
    }

pub returns-clause-found : goal.returns-clause-found
returns-clause-found c z time j a e =
    c.loop-frame.invariant.same z time j a e
    ∙ ap (λ (l : List LeftFrame). unexplained_all z time (map gone_of l) j)
    (take_all c.loop-frame.frame-index c.args.recorded.now.frames.now
    (let h = c.loop-frame-test.false in omega (arith, h)))

pub settle-gaps-requires-clause-known : goal.settle-gaps-requires-clause-known
settle-gaps-requires-clause-known c =
    subst (λ (k : KnownBytes). AreKnown k c.args.recorded.now.arrivals.now) (sym c.loop-frame.invariant.same_known)
    (known-still c.args.known.now c.loop-frame.known.gaps c.args.recorded.now.arrivals.now c.requires.known)

pub settle-gaps-requires-clause-settled : goal.settle-gaps-requires-clause-settled
settle-gaps-requires-clause-settled c =
    subst (λ (l : List Mark). AreSettled c.loop-frame.known.gaps.items c.args.recorded.now.arrivals.now l)
    (sym c.as_slice-judged.ensures.value)
    c.loop-frame.invariant.settled

pub places-places-requires-clause-known : goal.places-places-requires-clause-known
places-places-requires-clause-known c =
    subst (λ (k : KnownBytes). AreKnown k c.args.recorded.now.arrivals.now)
    (sym (c.settle-gaps.ensures.same ∙ ap (λ (k : KnownBytes). record k { gaps = c.settle-gaps.new.self.gaps })
    c.loop-frame.invariant.same_known))
    (known-still c.args.known.now c.settle-gaps.new.self.gaps c.args.recorded.now.arrivals.now c.requires.known)

pub places-places-requires-clause-each : goal.places-places-requires-clause-each
places-places-requires-clause-each c =
    subst (λ (k : KnownBytes). AreEach k c.args.recorded.now.arrivals.now c.args.each.now)
    (sym (c.settle-gaps.ensures.same ∙ ap (λ (k : KnownBytes). record k { gaps = c.settle-gaps.new.self.gaps })
    c.loop-frame.invariant.same_known)) c.requires.each

pub unexplained-finding-requires-clause-places : goal.unexplained-finding-requires-clause-places
unexplained-finding-requires-clause-places c = c.places-places.ensures

pub unexplained-finding-requires-clause-to_name : goal.unexplained-finding-requires-clause-to_name
unexplained-finding-requires-clause-to_name c =
    subst (λ (l : List Mark). NoneIsWanted ToName c.args.limits.now c.frame-item.result c.settle-gaps.result.to_name.to
    c.args.recorded.now.arrivals.now l) c.as_slice-judged.ensures.value c.settle-gaps.ensures.to_name

pub unexplained-finding-requires-clause-accepted : goal.unexplained-finding-requires-clause-accepted
unexplained-finding-requires-clause-accepted c =
    subst (λ (l : List Mark). NoneIsWanted Accepted c.args.limits.now c.frame-item.result
    c.settle-gaps.result.accepted.to
    c.args.recorded.now.arrivals.now l) c.as_slice-judged.ensures.value c.settle-gaps.ensures.accepted

pub returns-clause-settled : goal.returns-clause-settled
returns-clause-settled c = c.loop-frame.invariant.settled

pub returns-clause-known : goal.returns-clause-known
returns-clause-known c =
    subst (λ (k : KnownBytes). AreKnown k c.args.recorded.now.arrivals.now) (sym c.loop-frame.invariant.same_known)
    (known-still c.args.known.now c.loop-frame.known.gaps c.args.recorded.now.arrivals.now c.requires.known)
