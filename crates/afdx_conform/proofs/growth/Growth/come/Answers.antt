use Rattle.std.proofs.Common.{rules, ◌≡◌, ℕ, ◌+◌, ◌-◌, ◌<◌, ◌∷◌, List, get_or, length, sym, ap, ◌∙◌, subst, arith}
use Rattle.std.specs.Prelude.{All, Some}
use Rattle.afdx_police.specs.Rule.{regulation_of}
use Rattle.afdx_police.specs.RuleOf.{rule_of}
use Rattle.afdx_conform.specs.Explanations.{last_time}
use Rattle.afdx_conform.specs.Findings.{sound_events}
use Rattle.afdx_conform.specs.declared.finding.Finding.{Finding}
use Rattle.afdx_conform.specs.Events.{moment_at}
use Rattle.afdx_conform.specs.Growing.{Decides, IsAfter, IsKnownBy, IsQuiet, IsSound, closed_too, undecided_by}
use Rattle.afdx_conform.specs.HeldStates.{IsWithin}
use Rattle.afdx_conform.specs.Histories.{coming, judged_by, next_of, unclosed}
use Rattle.afdx_conform.specs.Judging.{AreFound, StandsFor}
use Rattle.afdx_conform.specs.KnownBytes.{AreKnown}
use Rattle.afdx_conform.specs.LeewayOf.{leeway_of}
use Rattle.afdx_conform.specs.Marks.{IsJudged, arrival_of}
use Rattle.afdx_conform.specs.Naming.{AreSettled}
use Rattle.afdx_conform.specs.States.{Came, arrivals_came}
use Rattle.afdx_conform.specs.declared.arrived.Arrived.{Arrived}
use Rattle.afdx_conform.specs.declared.growth.Growth.{Growth}
use Rattle.afdx_conform.specs.declared.limits.LeftFrame.{LeftFrame}
use Rattle.afdx_conform.proofs.ClosedLemmas.{same-arrived}
use Rattle.afdx_conform.proofs.GatherLemmas.{known-after, with_known}
use Rattle.afdx_conform.proofs.GrowthDecides.{Come, after-come, outcome-of}
use Rattle.afdx_conform.proofs.LeanLemmas.{some-over}
use Rattle.afdx_conform.proofs.UndecidedLemmas.{undecided-less}
use Rattle.afdx_conform.proofs.growth.Growth.come.Goals as goal

pub judge_with-requires-clause-within : goal.judge_with-requires-clause-within
judge_with-requires-clause-within c = (
  length c.args.self.now.judging.marks.items,
  (let p = c.requires.sound.places in let a = c.requires.sound.arrivals in let n = c.requires.sound.came in
      omega (arith, p, a, n)),
  subst (λ (fs : List LeftFrame). All (λ h. IsWithin c.args.self.now.bounds.rates (length fs)
      (length c.args.self.now.judging.marks.items) h) c.args.self.now.judging.held.items)
      (sym c.as_slice-2.ensures.value) c.requires.sound.within,
)

pub close_explained-requires-clause-sound : goal.close_explained-requires-clause-sound
close_explained-requires-clause-sound c =
    let s = c.requires.sound in
    let marks = c.in_ok-found.ensures.marks in
    let within = c.in_ok-found.ensures.within (regulation_of (rule_of c.args.self.now.rule))
    (leeway_of c.args.self.now.by)
    (length c.args.self.now.judging.marks.items) s.rates
    (subst (λ (fs : List LeftFrame). All (λ h. IsWithin c.args.self.now.bounds.rates (length fs)
    (length c.args.self.now.judging.marks.items) h) c.args.self.now.judging.held.items)
    (sym c.as_slice-2.ensures.value) s.within) in
    subst (λ (g : Growth). IsSound g) (sym c.count.ensures) (record {
      rates = s.rates;
      within = subst (λ (n : ℕ). All (λ h. IsWithin c.args.self.now.bounds.rates (length c.args.self.now.frames.items)
          n h)
          c.judge_with.new.judging.held.items) (sym marks)
          (subst (λ (fs : List LeftFrame). All (λ h. IsWithin c.args.self.now.bounds.rates (length fs)
          (length c.args.self.now.judging.marks.items + 1) h) c.judge_with.new.judging.held.items)
          c.as_slice-2.ensures.value within);
      closed = s.closed;
      places = (let p = c.requires.place in omega (arith, p, marks));
      uncertain = (let u = s.uncertain in let m = c.in_ok-found.ensures.counted in omega (arith, u, m, marks));
      arrivals = s.arrivals;
      came = s.came;
      frames = s.frames;
      left = s.left;
      known = subst (λ (l : List Arrived). AreKnown c.judge_with.new.known l) c.as_slice.ensures.value
          c.in_ok-found.ensures.known;
      settled = subst (λ (l : List Arrived). AreSettled c.judge_with.new.known.gaps.items l
          c.judge_with.new.judging.marks.items)
          c.as_slice.ensures.value c.in_ok-found.ensures.settled;
    })

pub returns-clause-decides : goal.returns-clause-decides
returns-clause-decides c = (
  c.close_explained.ensures.after.0,
  λ z xs ys cut over a sure at next known r.
      let len : c.len.result ≡ length c.args.self.now.judging.marks.items = search rules in
      let is : c.index-arrived.result.now ≡ get_or c.args.self.now.arrivals.items c.len.result
      c.index-arrived.result.now = search rules in
      let here = is ∙ ap (λ (n : ℕ). get_or c.args.self.now.arrivals.items n c.index-arrived.result.now) len in
      let same = same-arrived c.args.self.now.arrivals.items (length c.args.self.now.judging.marks.items) a
      c.index-arrived.result.now c.requires.place at here in
      let js = r.kept.judged (length c.args.self.now.judging.marks.items) c.index-arrived.result.now c.requires.place in
      let judged = subst (λ (v : Arrived). IsJudged z v) (sym here) js in
      let sure' = sym r.continues.stands.unsure ∙ sure in
      let known' = subst (λ (v : Arrived). IsKnownBy z c.args.end (Came (arrival_of v))) (sym same) known in
      let next' = subst (λ (v : Arrived). next_of z (coming xs over) (unclosed ys over) ≡ Some (Came (arrival_of v)))
      (sym same) next in
      let there = here ∙ ap (λ (l : List Arrived). get_or l (length c.args.self.now.judging.marks.items)
      c.index-arrived.result.now)
      (sym c.as_slice.ensures.value) in
      let given = subst (λ (l : List Arrived). StandsFor c.args.self.now.bounds.rates c.as_slice-2.result.now l
      r.continues.j
      c.args.self.now.judging) (sym c.as_slice.ensures.value)
      (subst (λ (l : List LeftFrame). StandsFor c.args.self.now.bounds.rates l c.args.self.now.arrivals.items
      r.continues.j
      c.args.self.now.judging) (sym c.as_slice-2.ensures.value) r.continues.stands) in
      let out = c.in_ok-found.ensures.defined z (last_time z.by (arrivals_came (sound_events z over))) r.continues.j
      r.after.bounds judged
      there
      (record {
        ns = c.saturating_sub-ns.ensures ∙ ap (λ (n : ℕ). c.index-arrived.result.now.time - n) r.kept.last;
        opens = c.is_open_by-is_open.ensures z r.after.bounds.limits known';
      })
      sure' given in
      let held = outcome-of z over c.index-arrived.result.now c.args.self.now c.judge_with.new.judging
      c.in_ok-found.found.items
      r.continues.j c.as_slice.result.now c.as_slice-2.result.now c.as_slice.ensures.value c.as_slice-2.ensures.value
      out in
      let one = subst (λ (s : Growth). IsAfter z xs ys cut (Came (arrival_of c.index-arrived.result.now) ∷ over) s
      × AreFound c.index-arrived.result.now.time c.in_ok-found.found.items (judged_by z xs ys over)
      (judged_by z xs ys (Came (arrival_of c.index-arrived.result.now) ∷ over))) (sym (c.count.ensures
      ∙ ap (λ (l : List Finding). with_known (Come z xs ys cut over a c.args.self.now c.judge_with.new.judging
      c.number_if-self.result
      c.last_after-last.result l) c.judge_with.new.known) c.as_slice-3.ensures.value))
      (known-after z xs ys cut (Came (arrival_of c.index-arrived.result.now) ∷ over) _ c.judge_with.new.known
      (after-come z xs ys cut over c.index-arrived.result.now c.args.self.now c.judge_with.new.judging
      c.number_if-self.result
      c.last_after-last.result c.in_ok-found.found.items r.gone r.past r.kept c.requires.place here r.continues judged
      sure
      held.0 held.1 c.in_ok-found.ensures.marks c.last_after-last.ensures c.number_if-self.ensures r.after next')) in
      let two = c.close_explained.ensures.after.1 z xs ys cut (Came (arrival_of c.index-arrived.result.now) ∷ over)
      one.0 in
      let closed = c.close_explained.ensures.after.0 in
      let told : c.moment_of-told.result ≡ moment_at z c.index-arrived.result.now.time =
      (let e = c.moment_of-told.ensures in let l = r.after.bounds.limits.latency in let s =
      r.after.bounds.limits.reach in
      omega (arith, e, l, s)) in
      subst (λ (v : Arrived). Decides z xs ys cut over c.forget.new.self (Came (arrival_of v)) closed
      c.in_ok-found.found.items) same (
        c.forget.ensures.after z xs ys cut (closed_too closed (Came (arrival_of c.index-arrived.result.now) ∷ over))
            two.0,
        one.1,
        subst (λ (n : ℕ). IsQuiet z xs ys (Came (arrival_of c.index-arrived.result.now) ∷ over) n closed) told two.1,
        λ none. c.forget.ensures.lean z xs ys cut
            (closed_too closed (Came (arrival_of c.index-arrived.result.now) ∷ over))
            (some-over closed (Came (arrival_of c.index-arrived.result.now)) over) none two.0,
      ),
)

pub returns-clause-less : goal.returns-clause-less
returns-clause-less c sure =
    let marks = c.in_ok-found.ensures.marks in
    let place = c.requires.place in
    let less = subst (λ (s : Growth). undecided_by s < undecided_by c.args.self.now) (sym c.count.ensures)
    (undecided-less c.args.self.now _ sure (omega (arith, marks, place))) in
    let more = c.close_explained.ensures.less in
    let same = c.forget.ensures.undecided in
    omega (arith, less, more, same)
