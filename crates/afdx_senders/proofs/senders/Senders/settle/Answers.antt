use Rattle.std.proofs.Common.{◌≡◌, ℕ, length, List, Some, arith, refl, sym, ◌∙◌, ap, subst}
use Rattle.std.specs.Prelude.{slice_get}
use Rattle.afdx_config.specs.Rows.{Rows}
use Rattle.afdx_law_bounds.specs.Tables.{port_of}
use Rattle.afdx_senders.specs.Lines.{AddsLines, lines_single}
use Rattle.afdx_senders.specs.Settling.{Step, after_steps, lines_told}
use Rattle.afdx_senders.specs.declared.followed.FollowedSources.{FollowedSources}
use Rattle.afdx_senders.specs.declared.sender_line.SenderLine.{SenderLine}
use Rattle.afdx_senders.specs.declared.sites.SenderSites.{SenderSites}
use Rattle.afdx_senders.proofs.CountingLemmas.{left_same}
use Rattle.afdx_senders.proofs.SettlingLemmas.{due_frame, known_by, no_step, one_step, sources_after}
use Rattle.afdx_senders.proofs.senders.Senders.settle.Goals as goal

abbrev room_of : FollowedSources → ℕ
room_of kept = length kept.slots.items

pub loop-place-init : goal.loop-place-init
loop-place-init c = record {
  sites = refl;
  room = refl;
  left = omega arith;
  so_far = λ at until stand all ends.
      no_step c.args.self.now.sites.tables.now c.args.before at c.args.self.now stand;
}

pub returns-then-not-waited-clause-settled : goal.returns-then-not-waited-clause-settled
returns-then-not-waited-clause-settled c at until stand all ends =
    let t = c.args.self.now.sites.tables.now in
    let far = c.loop-place.invariant.so_far at until stand all ends in
    let past = after_steps at far.steps in
    let due = c.in-Some.ensures.due past far.stand in
    let d = due_frame t until past c.in-Some.place due.0.0
    (sources_after t until c.args.before at far.steps all far.are) due.0.1 in
    let it_waited = c.in_ok-waited.ensures.waited past d.followed d.waited d.is d.next due.1 in
    let told = c.if-not-waited.true in absurd (cc)

pub loop-place-preserved : goal.loop-place-preserved
loop-place-preserved c = record {
  sites = c.tell.ensures.sites ∙ c.in-Some.ensures.sites ∙ c.loop-place.invariant.sites;
  room = c.tell.ensures.room ∙ ap room_of c.in-Some.ensures.kept ∙ c.loop-place.invariant.room;
  left =
      let fewer = c.in_ok-waited.ensures.left c.if-not-waited.false in
      let same = left_same c.loop-place.self c.take_due.new.self c.in-Some.ensures.kept c.in-Some.ensures.found in
      let before = c.loop-place.invariant.left in
      omega (arith, fewer, same, before);
  so_far = λ at until stand all ends.
      let t = c.args.self.now.sites.tables.now in
      let place = c.in-Some.place in
      let far = c.loop-place.invariant.so_far at until stand all ends in
      let past = after_steps at far.steps in
      let due = c.in-Some.ensures.due past far.stand in
      let sources = sources_after t until c.args.before at far.steps all far.are in
      let d = due_frame t until past place due.0.0 sources due.0.1 in
      let s : Step = record { place = place; row = d.row; followed = d.followed; waited = d.waited } in
      let known = known_by d.followed.source d.waited c.args.end c.args.before until place due.0.0
      (sources place d.followed d.is).ends ends d.moment due.0.2 in
      let same : c.take_due.new.self.sites.tables.now ≡ t =
      ap (λ (x : SenderSites). x.tables.now) (c.in-Some.ensures.sites ∙ c.loop-place.invariant.sites) in
      let there = subst (λ (r : Rows). slice_get r.links place ≡ Some d.row) (sym same) d.there in
      let lines = c.in_ok-waited.ensures.found past d.followed d.waited d.row there d.is d.next known due.1 in
      one_step t c.args.before at c.args.self.now.found c.take_due.new.self.found c.tell.new.self far.steps s far.are
      (record { there = d.there; is_followed = d.is; next = d.next; due = due.0 })
      (c.in_ok-waited.ensures.stands past d.followed d.waited d.is d.next known due.1)
      (subst (λ (xs : List SenderLine). AddsLines (lines_told t far.steps) c.args.self.now.found xs)
      (sym c.in-Some.ensures.found) far.lines)
      (subst (λ (r : Rows). AddsLines (lines_single (port_of r d.row.from) d.followed d.waited)
      c.take_due.new.self.found c.tell.new.self.found) same lines);
}

pub returns-clause-settled : goal.returns-clause-settled
returns-clause-settled c at until stand all ends =
    let t = c.args.self.now.sites.tables.now in
    let far = c.loop-place.invariant.so_far at until stand all ends in
    let over = c.in_default.ensures.none (after_steps at far.steps) far.stand in (
      far.steps,
      record { are = far.are; stand = over.0; none = over.1 },
      subst (λ (xs : List SenderLine). AddsLines (lines_told t far.steps) c.args.self.now.found xs)
          (sym c.in_default.ensures.found) far.lines,
    )

pub returns-then-not-waited-clause-left : goal.returns-then-not-waited-clause-left
returns-then-not-waited-clause-left c at until stand all ends =
    let t = c.args.self.now.sites.tables.now in
    let far = c.loop-place.invariant.so_far at until stand all ends in
    let past = after_steps at far.steps in
    let due = c.in-Some.ensures.due past far.stand in
    let d = due_frame t until past c.in-Some.place due.0.0
    (sources_after t until c.args.before at far.steps all far.are) due.0.1 in
    let it_waited = c.in_ok-waited.ensures.waited past d.followed d.waited d.is d.next due.1 in
    let told = c.if-not-waited.true in absurd (cc)

pub returns-clause-left : goal.returns-clause-left
returns-clause-left c at until stand all ends =
    let same = left_same c.loop-place.self c.take_due.new.self c.in_default.ensures.kept c.in_default.ensures.found in
    let before = c.loop-place.invariant.left in omega (arith, same, before)

pub returns-in_err-waited-clause-room : goal.returns-in_err-waited-clause-room
returns-in_err-waited-clause-room c =
    c.tell.ensures.room ∙ ap room_of c.in-Some.ensures.kept ∙ c.loop-place.invariant.room

pub returns-then-not-waited-clause-room : goal.returns-then-not-waited-clause-room
returns-then-not-waited-clause-room c =
    c.tell.ensures.room ∙ ap room_of c.in-Some.ensures.kept ∙ c.loop-place.invariant.room

pub returns-clause-room : goal.returns-clause-room
returns-clause-room c = ap room_of c.in_default.ensures.kept ∙ c.loop-place.invariant.room
