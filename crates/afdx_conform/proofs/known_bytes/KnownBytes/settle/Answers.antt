use Rattle.std.proofs.Common.{rules, ◌≡◌, ◌<◌, ℕ, List, get_or, length, refl, sym, ap, ◌∙◌, subst, arith}
use Rattle.afdx_conform.specs.KnownBytes.{StandAt, has_bytes}
use Rattle.afdx_conform.specs.declared.gaps.Gaps.{Gaps}
use Rattle.afdx_conform.specs.declared.gaps.Wanted.TheVariants.{ToName, Accepted}
use Rattle.afdx_conform.proofs.GapLemmas.{gaps-here, none-wanted, none-yet, settled-set}
use Rattle.afdx_conform.proofs.PlacesLemmas.{kept-stand}
use Rattle.afdx_conform.proofs.known_bytes.KnownBytes.settle.Goals as goal

pub returns-then-not-self-clause-to_name : goal.returns-then-not-self-clause-to_name
returns-then-not-self-clause-to_name c = none-yet ToName _ _ _ _ _
    (ap (λ (g : Gaps). g.to_name.to) c.unknown_gaps.ensures)

pub returns-then-not-self-clause-accepted : goal.returns-then-not-self-clause-accepted
returns-then-not-self-clause-accepted c = none-yet Accepted _ _ _ _ _
    (ap (λ (g : Gaps). g.accepted.to) c.unknown_gaps.ensures)

pub returns-clause-settled : goal.returns-clause-settled
returns-clause-settled c =
    let bytes = c.args.frame.now.bytes in
    let xs = c.args.arrivals.now in
    let ms = c.args.marks.now in
    let lt : c.in-Some.first < length c.args.self.now.gaps.items = (let e = c.if-first-len.false in omega (arith, e)) in
    let stand = subst (λ (l : List ℕ). StandAt (has_bytes bytes) 0 xs l)
    (sym (c.at-alike.ensures ∙ c.requires.known.kept c.if-not-self.false bytes)) (kept-stand bytes 0 xs) in
    let there : c.index-before.result.now ≡ get_or c.args.self.now.gaps.items c.in-Some.first
    c.index-before.result.now =
    search rules in
    let before = gaps-here c.args.self.now.gaps.items xs ms c.in-Some.first bytes c.index-before.result.now
    c.in-Some.ensures lt there c.requires.settled in
    let gaps = c.next_gaps-gaps.ensures.gaps (has_bytes bytes) xs c.requires.marks stand before in
    settled-set c.args.self.now.gaps.items _ xs ms c.in-Some.first c.next_gaps-gaps.result bytes refl lt
    c.in-Some.ensures gaps c.requires.settled

pub returns-clause-to_name : goal.returns-clause-to_name
returns-clause-to_name c =
    let bytes = c.args.frame.now.bytes in
    let xs = c.args.arrivals.now in
    let ms = c.args.marks.now in
    let lt : c.in-Some.first < length c.args.self.now.gaps.items = (let e = c.if-first-len.false in omega (arith, e)) in
    let stand = subst (λ (l : List ℕ). StandAt (has_bytes bytes) 0 xs l)
    (sym (c.at-alike.ensures ∙ c.requires.known.kept c.if-not-self.false bytes)) (kept-stand bytes 0 xs) in
    let there : c.index-before.result.now ≡ get_or c.args.self.now.gaps.items c.in-Some.first
    c.index-before.result.now =
    search rules in
    let before = gaps-here c.args.self.now.gaps.items xs ms c.in-Some.first bytes c.index-before.result.now
    c.in-Some.ensures lt there c.requires.settled in
    let gaps = c.next_gaps-gaps.ensures.gaps (has_bytes bytes) xs c.requires.marks stand before in
    none-wanted ToName c.args.limits.now c.args.frame.now c.count_early-early.result c.next_gaps-gaps.result.to_name
    xs ms
    c.next_gaps-gaps.ensures.to_name c.count_early-early.ensures gaps.to_name

pub returns-clause-accepted : goal.returns-clause-accepted
returns-clause-accepted c =
    let bytes = c.args.frame.now.bytes in
    let xs = c.args.arrivals.now in
    let ms = c.args.marks.now in
    let lt : c.in-Some.first < length c.args.self.now.gaps.items = (let e = c.if-first-len.false in omega (arith, e)) in
    let stand = subst (λ (l : List ℕ). StandAt (has_bytes bytes) 0 xs l)
    (sym (c.at-alike.ensures ∙ c.requires.known.kept c.if-not-self.false bytes)) (kept-stand bytes 0 xs) in
    let there : c.index-before.result.now ≡ get_or c.args.self.now.gaps.items c.in-Some.first
    c.index-before.result.now =
    search rules in
    let before = gaps-here c.args.self.now.gaps.items xs ms c.in-Some.first bytes c.index-before.result.now
    c.in-Some.ensures lt there c.requires.settled in
    let gaps = c.next_gaps-gaps.ensures.gaps (has_bytes bytes) xs c.requires.marks stand before in
    none-wanted Accepted c.args.limits.now c.args.frame.now c.count_early-early.result
    c.next_gaps-gaps.result.accepted xs ms
    c.next_gaps-gaps.ensures.accepted c.count_early-early.ensures gaps.accepted
