use Rattle.std.proofs.Common.{◌≡◌, ◌∷◌, ℕ, true, false, List, sym, ap, ◌∙◌, subst, arith}
use Rattle.std.specs.List.{list_any}
use Rattle.std.specs.Prelude.{OnOk, Option, Some}
use Rattle.afdx_frame.specs.Layout.{link_named_by}
use Rattle.afdx_frame.specs.declared.link.VlId.{VlId}
use Rattle.afdx_input_runs.specs.Joining.{Frame, frame_of}
use Rattle.afdx_input_sources.specs.Engine.{item_of}
use Rattle.afdx_police.specs.Arrival.{Arrival, arrival_with}
use Rattle.afdx_senders.specs.History.{HaveTold}
use Rattle.afdx_text.proofs.OutputLemmas.{on-err}
use Rattle.afdx_command_conform.specs.Choices.{Choices, is_in_time, is_left_out, is_same_link}
use Rattle.afdx_command_conform.specs.Tapped.{is_of_came}
use Rattle.afdx_command_senders.specs.Asked.{Asked, came_in}
use Rattle.afdx_command_senders.proofs.SenderRunLemmas.{came-not, came-so, does-count, missed-in, missed-next, missed-out, on-ok, out-of-choice, out-of-role, out-of-time, told-begun}
use Rattle.afdx_command_senders.proofs.judging.SendersRun.take.Goals as goal

-- ---- before its start or behind its end

pub returns-then-not-is_in_time-clause-counted : goal.returns-then-not-is_in_time-clause-counted
returns-then-not-is_in_time-clause-counted c = λ t a frames asked before.
    let x : Frame = frame_of (item_of c.args.n c.args.seen.now c.args.message.now) in
    missed-next a x frames c.args.self.now.left_out c.args.self.now.left_out false
    (missed-out a x (subst (λ (o : Choices). is_in_time o x ≡ false) (ap (λ (b : Asked). b.run) asked)
    (sym (c.is_in_time.ensures a.run.sight c.args.message.now c.args.n) ∙ c.if-not-is_in_time.true))) before
    (let b = before in omega (arith, b))

pub returns-then-not-is_in_time-clause-came : goal.returns-then-not-is_in_time-clause-came
returns-then-not-is_in_time-clause-came c = λ t a z frames told asked have.
    let x : Frame = frame_of (item_of c.args.n c.args.seen.now c.args.message.now) in
    subst (λ (l : List Arrival). HaveTold z (Some c.args.seen.now.heading.time) l told c.args.self.now.senders)
    (sym (came-not a x frames (out-of-time a x (subst (λ (o : Choices). is_in_time o x ≡ false)
    (ap (λ (b : Asked). b.run) asked)
    (sym (c.is_in_time.ensures a.run.sight c.args.message.now c.args.n) ∙ c.if-not-is_in_time.true))))) have

-- ---- no memory for its link

pub returns-in_err-vl-clause-begun : goal.returns-in_err-vl-clause-begun
returns-in_err-vl-clause-begun c = λ a z frames told have.
    on-err c.from_residual.result _
    (told-begun z (Some c.args.seen.now.heading.time) (came_in a frames) told c.args.self.now.senders have)

-- ---- of a link that is left out

pub returns-then-is_left_out-clause-counted : goal.returns-then-is_left_out-clause-counted
returns-then-is_left_out-clause-counted c = λ t a frames asked before.
    let x : Frame = frame_of (item_of c.args.n c.args.seen.now c.args.message.now) in
    let run = ap (λ (b : Asked). b.run) asked in
    let named = c.is_left_out.ensures
    ∙ ap (λ (v : Option VlId). list_any (λ link. is_same_link link v) c.args.self.now.asked.choices.now.left_out.items)
    (c.in_ok-vl.ensures ∙ ap link_named_by c.frame-frame.ensures) in
    missed-next a x frames c.args.self.now.left_out c.saturating_add-self.result true
    (missed-in a x true (subst (λ (o : Choices). is_in_time o x ≡ true) run
    (sym (c.is_in_time.ensures a.run.sight c.args.message.now c.args.n) ∙ c.if-not-is_in_time.false))
    (subst (λ (o : Choices). is_left_out o x ≡ true) run (sym named ∙ c.if-is_left_out.true))) before
    c.saturating_add-self.ensures

pub returns-then-is_left_out-clause-came : goal.returns-then-is_left_out-clause-came
returns-then-is_left_out-clause-came c = λ t a z frames told asked have.
    let x : Frame = frame_of (item_of c.args.n c.args.seen.now c.args.message.now) in
    let run = ap (λ (b : Asked). b.run) asked in
    let named = c.is_left_out.ensures
    ∙ ap (λ (v : Option VlId). list_any (λ link. is_same_link link v) c.args.self.now.asked.choices.now.left_out.items)
    (c.in_ok-vl.ensures ∙ ap link_named_by c.frame-frame.ensures) in
    subst (λ (l : List Arrival). HaveTold z (Some c.args.seen.now.heading.time) l told c.args.self.now.senders)
    (sym (came-not a x frames (out-of-choice a x
    (subst (λ (o : Choices). is_left_out o x ≡ true) run (sym named ∙ c.if-is_left_out.true))))) have

-- ---- it left

pub returns-in-Left-clause-counted : goal.returns-in-Left-clause-counted
returns-in-Left-clause-counted c = λ t a frames asked before.
    let x : Frame = frame_of (item_of c.args.n c.args.seen.now c.args.message.now) in
    let run = ap (λ (b : Asked). b.run) asked in
    let named = c.is_left_out.ensures
    ∙ ap (λ (v : Option VlId). list_any (λ link. is_same_link link v) c.args.self.now.asked.choices.now.left_out.items)
    (c.in_ok-vl.ensures ∙ ap link_named_by c.frame-frame.ensures) in
    missed-next a x frames c.args.self.now.left_out c.args.self.now.left_out false
    (missed-in a x false (subst (λ (o : Choices). is_in_time o x ≡ true) run
    (sym (c.is_in_time.ensures a.run.sight c.args.message.now c.args.n) ∙ c.if-not-is_in_time.false))
    (subst (λ (o : Choices). is_left_out o x ≡ false) run (sym named ∙ c.if-is_left_out.false))) before
    (let b = before in omega (arith, b))

pub returns-in-Left-clause-came : goal.returns-in-Left-clause-came
returns-in-Left-clause-came c = λ t a z frames told asked have.
    let x : Frame = frame_of (item_of c.args.n c.args.seen.now c.args.message.now) in
    subst (λ (l : List Arrival). HaveTold z (Some c.args.seen.now.heading.time) l told c.args.self.now.senders)
    (sym (came-not a x frames (out-of-role a x (ap (λ r. is_of_came r) c.in-Left.is)))) have

-- ---- it came

pub returns-in-Came-clause-counted : goal.returns-in-Came-clause-counted
returns-in-Came-clause-counted c = λ t a frames asked before.
    let x : Frame = frame_of (item_of c.args.n c.args.seen.now c.args.message.now) in
    let run = ap (λ (b : Asked). b.run) asked in
    let named = c.is_left_out.ensures
    ∙ ap (λ (v : Option VlId). list_any (λ link. is_same_link link v) c.args.self.now.asked.choices.now.left_out.items)
    (c.in_ok-vl.ensures ∙ ap link_named_by c.frame-frame.ensures) in
    on-ok c.came.result _
    (missed-next a x frames c.args.self.now.left_out c.args.self.now.left_out false
    (missed-in a x false (subst (λ (o : Choices). is_in_time o x ≡ true) run
    (sym (c.is_in_time.ensures a.run.sight c.args.message.now c.args.n) ∙ c.if-not-is_in_time.false))
    (subst (λ (o : Choices). is_left_out o x ≡ false) run (sym named ∙ c.if-is_left_out.false))) before
    (let b = before in omega (arith, b)))

pub returns-in-Came-clause-came : goal.returns-in-Came-clause-came
returns-in-Came-clause-came c = λ t a z frames told asked have.
    let h = c.args.seen.now.heading in
    let x : Frame = frame_of (item_of c.args.n c.args.seen.now c.args.message.now) in
    let run = ap (λ (b : Asked). b.run) asked in
    let named = c.is_left_out.ensures
    ∙ ap (λ (v : Option VlId). list_any (λ link. is_same_link link v) c.args.self.now.asked.choices.now.left_out.items)
    (c.in_ok-vl.ensures ∙ ap link_named_by c.frame-frame.ensures) in
    let so = does-count a x (ap (λ r. is_of_came r) c.in-Came.is)
    (subst (λ (o : Choices). is_in_time o x ≡ true) run
    (sym (c.is_in_time.ensures a.run.sight c.args.message.now c.args.n) ∙ c.if-not-is_in_time.false))
    (subst (λ (o : Choices). is_left_out o x ≡ false) run (sym named ∙ c.if-is_left_out.false)) in
    subst (λ (l : List Arrival). OnOk c.came.result (HaveTold z (Some h.time) l told c.came.new.self))
    (ap (λ (b : List ℕ). arrival_with c.args.n h.time h.side h.port b ∷ came_in a frames) c.frame-frame.ensures
    ∙ sym (came-so a x frames so)) (c.came.ensures.came z (came_in a frames) told have)

pub returns-in-Came-clause-begun : goal.returns-in-Came-clause-begun
returns-in-Came-clause-begun c = λ a z frames told have. c.came.ensures.refused z (came_in a frames) told have
