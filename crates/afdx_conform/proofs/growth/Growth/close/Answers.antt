use Rattle.std.proofs.Common.{rules, ◌≡◌, ℕ, ◌+◌, ◌<◌, ◌∷◌, List, get_or, length, map, refl, sym, ap, ◌∙◌, subst, arith}
use Rattle.std.specs.Prelude.{All, None, Some}
use Rattle.afdx_conform.specs.Growing.{Decides, IsAfter, IsSound, undecided_by}
use Rattle.afdx_conform.specs.HeldStates.{AreClosed, IsWithin}
use Rattle.afdx_conform.specs.Histories.{coming, judged_by, next_of, unclosed}
use Rattle.afdx_conform.specs.Judging.{AreFound, StandsFor}
use Rattle.afdx_conform.specs.KnownBytes.{AreKnown}
use Rattle.afdx_conform.specs.Leeway.{reach}
use Rattle.afdx_conform.specs.Limits.{AreFrames, gone_of}
use Rattle.afdx_conform.specs.Naming.{AreSettled}
use Rattle.afdx_conform.specs.States.{Closing}
use Rattle.afdx_conform.specs.declared.arrived.Arrived.{Arrived}
use Rattle.afdx_conform.specs.declared.finding.Finding.{Finding}
use Rattle.afdx_conform.specs.declared.growth.Growth.{Growth}
use Rattle.afdx_conform.specs.declared.limits.LeftFrame.{LeftFrame}
use Rattle.afdx_conform.proofs.GatherLemmas.{known-after, with_known}
use Rattle.afdx_conform.proofs.GrowthCloses.{Close, after-close, closed-of, frames-held}
use Rattle.afdx_conform.proofs.ClosedLemmas.{closes, same-frame}
use Rattle.afdx_conform.proofs.UndecidedLemmas.{undecided-less}
use Rattle.afdx_conform.proofs.growth.Growth.close.Goals as goal

pub forget-requires : goal.forget-requires
forget-requires c =
    let s = c.requires.sound in
    let marks = c.in_ok-found.ensures.marks in
    let within = c.in_ok-found.ensures.within (length c.args.self.now.judging.marks.items)
    (subst (λ (fs : List LeftFrame). All (λ h. IsWithin c.args.self.now.bounds.rates (length fs)
    (length c.args.self.now.judging.marks.items) h) c.args.self.now.judging.held.items)
    (sym c.as_slice-2.ensures.value) s.within) in
    subst (λ (g : Growth). IsSound g) (sym c.count.ensures) (record {
      rates = s.rates;
      within = subst (λ (n : ℕ). All (λ h. IsWithin c.args.self.now.bounds.rates (length c.args.self.now.frames.items)
          n h)
          c.close_with.new.judging.held.items) (sym marks)
          (subst (λ (fs : List LeftFrame). All (λ h. IsWithin c.args.self.now.bounds.rates (length fs)
          (length c.args.self.now.judging.marks.items) h) c.close_with.new.judging.held.items)
          c.as_slice-2.ensures.value within);
      closed = (let p = c.requires.place in omega (arith, p));
      places = (let p = s.places in omega (arith, p, marks));
      uncertain = (let u = s.uncertain in let m = c.in_ok-found.ensures.uncertain in omega (arith, u, m, marks));
      arrivals = s.arrivals;
      came = s.came;
      frames = s.frames;
      left = s.left;
      known = subst (λ (l : List Arrived). AreKnown c.close_with.new.known l) c.as_slice.ensures.value
          c.in_ok-found.ensures.known;
      settled = subst (λ (l : List Arrived). AreSettled c.close_with.new.known.gaps.items l
          c.close_with.new.judging.marks.items)
          c.as_slice.ensures.value c.in_ok-found.ensures.settled;
    })

pub returns-clause-decides : goal.returns-clause-decides
returns-clause-decides c z xs ys cut over f sure at next r =
    let is : c.index.result.now ≡ get_or c.args.self.now.frames.items c.args.self.now.closed c.index.result.now =
    search rules in
    let same = same-frame c.args.self.now.frames.items c.args.self.now.closed f c.index.result.now c.requires.place at
    is in
    let order = frames-held r.past ys c.args.self.now.frames.items r.after.told.left r.kept.left in
    let order' = subst (λ (l : List LeftFrame). AreFrames l) (sym c.as_slice-frames.ensures.value) order in
    let lt = subst (λ (l : List LeftFrame). c.args.self.now.closed < length l) (sym c.as_slice-frames.ensures.value)
    c.requires.place in
    let there = is ∙ ap (λ (l : List LeftFrame). get_or l c.args.self.now.closed c.index.result.now)
    (sym c.as_slice-frames.ensures.value) in
    let closed = closes c.as_slice-frames.result.now c.args.self.now.closed c.closed_by-to.result c.index.result.now
    order' lt there
    c.closed_by-to.ensures.low c.closed_by-to.ensures.high (c.closed_by-to.ensures.closed order')
    c.closed_by-to.ensures.behind in
    let closed' = subst (λ (l : List LeftFrame). AreClosed c.index.result.now.time c.closed_by-to.result
    (map gone_of l))
    (c.as_slice-frames.ensures.value ∙ sym c.as_slice-2.ensures.value) closed in
    let sure' = sym r.continues.stands.unsure ∙ sure in
    let given = subst (λ (l : List Arrived). StandsFor c.args.self.now.bounds.rates c.as_slice-2.result.now l
    r.continues.j
    c.args.self.now.judging) (sym c.as_slice.ensures.value)
    (subst (λ (l : List LeftFrame). StandsFor c.args.self.now.bounds.rates l c.args.self.now.arrivals.items
    r.continues.j
    c.args.self.now.judging) (sym c.as_slice-2.ensures.value) r.continues.stands) in
    let out = c.in_ok-found.ensures.defined z c.index.result.now.time r.continues.j r.after.bounds closed' sure' given
    in
    let held = closed-of z c.index.result.now c.args.self.now c.close_with.new.judging r.continues.j
    c.as_slice.result.now c.as_slice-2.result.now c.as_slice.ensures.value c.as_slice-2.ensures.value out.0 in
    let to = c.closed_by-to.result in
    let next' = subst (λ (v : LeftFrame). next_of z (coming xs over) (unclosed ys over) ≡ Some (Closing v.time))
    (sym same) next in
    let one = subst (λ (s : Growth). IsAfter z xs ys cut (Closing c.index.result.now.time ∷ over) s
    × AreFound (c.index.result.now.time + reach z.by) c.in_ok-found.found.items (judged_by z xs ys over)
    (judged_by z xs ys (Closing c.index.result.now.time ∷ over))) (sym (c.count.ensures
    ∙ ap (λ (l : List Finding). with_known (Close z xs ys cut over c.index.result.now c.args.self.now
    c.close_with.new.judging l to)
    c.close_with.new.known) c.as_slice-3.ensures.value))
    (known-after z xs ys cut (Closing c.index.result.now.time ∷ over) _ c.close_with.new.known
    (after-close z xs ys cut over c.index.result.now c.args.self.now c.close_with.new.judging c.in_ok-found.found.items
    c.closed_by-to.result r.gone r.past r.kept r.continues sure held out.1 c.in_ok-found.ensures.marks r.after
    next')) in
    subst (λ (v : LeftFrame). Decides z xs ys cut over c.forget.new.self (Closing v.time) None
    c.in_ok-found.found.items)
    same (
      c.forget.ensures.after z xs ys cut (Closing c.index.result.now.time ∷ over) one.0,
      one.1,
      record { early = tt; same = refl },
      λ none. c.forget.ensures.lean z xs ys cut (Closing c.index.result.now.time ∷ over) refl none one.0,
    )

pub returns-clause-less : goal.returns-clause-less
returns-clause-less c sure =
    let marks = c.in_ok-found.ensures.marks in
    let place = c.requires.place in
    let less = subst (λ (s : Growth). undecided_by s < undecided_by c.args.self.now) (sym c.count.ensures)
    (undecided-less c.args.self.now _ sure (omega (arith, marks, place))) in
    let same = c.forget.ensures.undecided in
    omega (arith, less, same)
