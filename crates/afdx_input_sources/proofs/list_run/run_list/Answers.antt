use Rattle.std.proofs.Common.{rules, Ok, ◌≡◌, ◌∙◌, sym, subst, Err}
use Rattle.afdx_input_sources.specs.Engine.{CanTell}
use Rattle.afdx_input_sources.specs.Items.{thing_of}
use Rattle.afdx_input_sources.proofs.ListSourceLemmas.{gave-start}
use Rattle.afdx_input_sources.proofs.ListRunLemmas.{fault-read, fault-calls, fault-answers, start-answers, runs-over}
use Rattle.afdx_input_sources.proofs.ListRunLemmas.{done-read, done-ended, done-calls, done-answers}
use Rattle.afdx_input_sources.proofs.list_run.run_list.Goals as goal

pub returns-in_err-list-clause-answer : goal.returns-in_err-list-clause-answer
returns-in_err-list-clause-answer g c law start can =
    let form = c.args.form in
    let old = g.O.Sink.written c.args.output.now in
    let stop = start-answers (g.F.LineForm.kind form) (thing_of (g.F.LineForm.kind form) g.F.LineForm.says_of)
    (g.M.Machine.Done law c.args.machine.now old old)
    (g.M.Machine.Told law c.args.machine.now old old) (g.M.Machine.Begins law c.args.machine.now old old)
    (g.R.Read.remaining c.args.input.now.inner) start in
    search rules

pub drive-requires-clause-gave : goal.drive-requires-clause-gave
drive-requires-clause-gave g c =
    let kind = g.F.LineForm.kind c.in_ok-list.list.form in
    record {
      form = subst g.F.LineForm.IsForm (sym c.in_ok-list.ensures.form) c.requires.form;
      gave = gave-start kind (thing_of kind g.F.LineForm.says_of) g.R.Read.remaining
          c.args.input.now _ _ c.in_ok-list.ensures.unread
          c.requires.sound_input c.requires.unended;
    }

pub drive-requires-clause-told : goal.drive-requires-clause-told
drive-requires-clause-told g c =
    let told = c.requires.told in (
      told.0,
      told.1,
      subst (λ f. CanTell (g.F.LineForm.Gives f) (g.M.Machine.Can told.0)) (sym c.in_ok-list.ensures.form) told.2,
    )

pub returns-in_err-drive-clause-read : goal.returns-in_err-drive-clause-read
returns-in_err-drive-clause-read g c =
    let law = c.requires.told.0 in
    let start = c.requires.told.1 in
    let can = c.requires.told.2 in
    let form = c.args.form in
    let kind = g.F.LineForm.kind form in
    let is = c.drive.ensures.settings ∙ c.in_ok-list.ensures.form in
    let old = g.O.Sink.written c.args.output.now in
    let new = g.O.Sink.written c.drive.new.output in
    let done = g.M.Machine.Done law c.drive.new.machine old new in
    let told = g.M.Machine.Told law c.drive.new.machine old new in
    let begins = g.M.Machine.Begins law c.drive.new.machine old new in
    let runs = runs-over g.F.LineForm.IsForm g.F.LineForm.kind g.F.LineForm.says_of g.H.Listed.time_of
    g.R.Read.remaining c.args.input.now c.drive.new.input c.drive.new.source done told begins {A = Unit {0}}
    (Err c.in_err-drive.field-0.0) form is
    (c.in_err-drive.ensures.answer law start
    (subst (λ f. CanTell (g.F.LineForm.Gives f) (g.M.Machine.Can law)) (sym c.in_ok-list.ensures.form) can)) in
    let e : c.from_residual-in_err-drive.result ≡ Err c.in_err-drive.field-0.0 = search rules in
    rw e (fault-read kind (thing_of kind g.F.LineForm.says_of) g.R.Read.remaining
    c.args.input.now c.drive.new.input
    c.drive.new.source.reader (g.H.Listed.time_of c.drive.new.source.head) done told begins
    c.in_err-drive.field-0.0 runs)

pub returns-in_err-drive-clause-calls : goal.returns-in_err-drive-clause-calls
returns-in_err-drive-clause-calls g c =
    let law = c.requires.told.0 in
    let start = c.requires.told.1 in
    let can = c.requires.told.2 in
    let form = c.args.form in
    let kind = g.F.LineForm.kind form in
    let is = c.drive.ensures.settings ∙ c.in_ok-list.ensures.form in
    let old = g.O.Sink.written c.args.output.now in
    let new = g.O.Sink.written c.drive.new.output in
    let done = g.M.Machine.Done law c.drive.new.machine old new in
    let told = g.M.Machine.Told law c.drive.new.machine old new in
    let begins = g.M.Machine.Begins law c.drive.new.machine old new in
    let runs = runs-over g.F.LineForm.IsForm g.F.LineForm.kind g.F.LineForm.says_of g.H.Listed.time_of
    g.R.Read.remaining c.args.input.now c.drive.new.input c.drive.new.source done told begins {A = Unit {0}}
    (Err c.in_err-drive.field-0.0) form is
    (c.in_err-drive.ensures.answer law start
    (subst (λ f. CanTell (g.F.LineForm.Gives f) (g.M.Machine.Can law)) (sym c.in_ok-list.ensures.form) can)) in
    fault-calls kind (thing_of kind g.F.LineForm.says_of) g.R.Read.remaining
    c.args.input.now c.drive.new.input
    c.drive.new.source.reader (g.H.Listed.time_of c.drive.new.source.head) done told begins
    c.in_err-drive.field-0.0 runs

pub returns-in_err-drive-clause-answer : goal.returns-in_err-drive-clause-answer
returns-in_err-drive-clause-answer g c law start can =
    let form = c.args.form in
    let kind = g.F.LineForm.kind form in
    let is = c.drive.ensures.settings ∙ c.in_ok-list.ensures.form in
    let old = g.O.Sink.written c.args.output.now in
    let new = g.O.Sink.written c.drive.new.output in
    let done = g.M.Machine.Done law c.drive.new.machine old new in
    let told = g.M.Machine.Told law c.drive.new.machine old new in
    let begins = g.M.Machine.Begins law c.drive.new.machine old new in
    let runs = runs-over g.F.LineForm.IsForm g.F.LineForm.kind g.F.LineForm.says_of g.H.Listed.time_of
    g.R.Read.remaining c.args.input.now c.drive.new.input c.drive.new.source done told begins {A = Unit {0}}
    (Err c.in_err-drive.field-0.0) form is
    (c.in_err-drive.ensures.answer law start
    (subst (λ f. CanTell (g.F.LineForm.Gives f) (g.M.Machine.Can law)) (sym c.in_ok-list.ensures.form) can)) in
    let stop = fault-answers kind (thing_of kind g.F.LineForm.says_of) g.R.Read.remaining
    c.args.input.now c.drive.new.input
    c.drive.new.source.reader (g.H.Listed.time_of c.drive.new.source.head) done told begins
    c.in_err-drive.field-0.0 runs in
    search rules

pub returns-clause-ended : goal.returns-clause-ended
returns-clause-ended g c =
    let law = c.requires.told.0 in
    let start = c.requires.told.1 in
    let can = c.requires.told.2 in
    let form = c.args.form in
    let kind = g.F.LineForm.kind form in
    let is = c.drive.ensures.settings ∙ c.in_ok-list.ensures.form in
    let old = g.O.Sink.written c.args.output.now in
    let new = g.O.Sink.written c.drive.new.output in
    let done = g.M.Machine.Done law c.drive.new.machine old new in
    let told = g.M.Machine.Told law c.drive.new.machine old new in
    let begins = g.M.Machine.Begins law c.drive.new.machine old new in
    let runs = runs-over g.F.LineForm.IsForm g.F.LineForm.kind g.F.LineForm.says_of g.H.Listed.time_of
    g.R.Read.remaining c.args.input.now c.drive.new.input c.drive.new.source done told begins {A = Unit {0}}
    (Ok tt) form is
    (c.in_ok-drive.ensures.answer law start
    (subst (λ f. CanTell (g.F.LineForm.Gives f) (g.M.Machine.Can law)) (sym c.in_ok-list.ensures.form) can)) in
    done-ended kind (thing_of kind g.F.LineForm.says_of) g.R.Read.remaining
    c.args.input.now c.drive.new.input
    c.drive.new.source.reader (g.H.Listed.time_of c.drive.new.source.head) done told begins
    runs

pub returns-clause-read : goal.returns-clause-read
returns-clause-read g c =
    let law = c.requires.told.0 in
    let start = c.requires.told.1 in
    let can = c.requires.told.2 in
    let form = c.args.form in
    let kind = g.F.LineForm.kind form in
    let is = c.drive.ensures.settings ∙ c.in_ok-list.ensures.form in
    let old = g.O.Sink.written c.args.output.now in
    let new = g.O.Sink.written c.drive.new.output in
    let done = g.M.Machine.Done law c.drive.new.machine old new in
    let told = g.M.Machine.Told law c.drive.new.machine old new in
    let begins = g.M.Machine.Begins law c.drive.new.machine old new in
    let runs = runs-over g.F.LineForm.IsForm g.F.LineForm.kind g.F.LineForm.says_of g.H.Listed.time_of
    g.R.Read.remaining c.args.input.now c.drive.new.input c.drive.new.source done told begins {A = Unit {0}}
    (Ok tt) form is
    (c.in_ok-drive.ensures.answer law start
    (subst (λ f. CanTell (g.F.LineForm.Gives f) (g.M.Machine.Can law)) (sym c.in_ok-list.ensures.form) can)) in
    done-read kind (thing_of kind g.F.LineForm.says_of) g.R.Read.remaining
    c.args.input.now c.drive.new.input
    c.drive.new.source.reader (g.H.Listed.time_of c.drive.new.source.head) done told begins
    runs

pub returns-clause-calls : goal.returns-clause-calls
returns-clause-calls g c =
    let law = c.requires.told.0 in
    let start = c.requires.told.1 in
    let can = c.requires.told.2 in
    let form = c.args.form in
    let kind = g.F.LineForm.kind form in
    let is = c.drive.ensures.settings ∙ c.in_ok-list.ensures.form in
    let old = g.O.Sink.written c.args.output.now in
    let new = g.O.Sink.written c.drive.new.output in
    let done = g.M.Machine.Done law c.drive.new.machine old new in
    let told = g.M.Machine.Told law c.drive.new.machine old new in
    let begins = g.M.Machine.Begins law c.drive.new.machine old new in
    let runs = runs-over g.F.LineForm.IsForm g.F.LineForm.kind g.F.LineForm.says_of g.H.Listed.time_of
    g.R.Read.remaining c.args.input.now c.drive.new.input c.drive.new.source done told begins {A = Unit {0}}
    (Ok tt) form is
    (c.in_ok-drive.ensures.answer law start
    (subst (λ f. CanTell (g.F.LineForm.Gives f) (g.M.Machine.Can law)) (sym c.in_ok-list.ensures.form) can)) in
    done-calls kind (thing_of kind g.F.LineForm.says_of) g.R.Read.remaining
    c.args.input.now c.drive.new.input
    c.drive.new.source.reader (g.H.Listed.time_of c.drive.new.source.head) done told begins
    runs

pub returns-clause-answer : goal.returns-clause-answer
returns-clause-answer g c law start can =
    let form = c.args.form in
    let kind = g.F.LineForm.kind form in
    let is = c.drive.ensures.settings ∙ c.in_ok-list.ensures.form in
    let old = g.O.Sink.written c.args.output.now in
    let new = g.O.Sink.written c.drive.new.output in
    let done = g.M.Machine.Done law c.drive.new.machine old new in
    let told = g.M.Machine.Told law c.drive.new.machine old new in
    let begins = g.M.Machine.Begins law c.drive.new.machine old new in
    let runs = runs-over g.F.LineForm.IsForm g.F.LineForm.kind g.F.LineForm.says_of g.H.Listed.time_of
    g.R.Read.remaining c.args.input.now c.drive.new.input c.drive.new.source done told begins {A = Unit {0}}
    (Ok tt) form is
    (c.in_ok-drive.ensures.answer law start
    (subst (λ f. CanTell (g.F.LineForm.Gives f) (g.M.Machine.Can law)) (sym c.in_ok-list.ensures.form) can)) in
    done-answers kind (thing_of kind g.F.LineForm.says_of) g.R.Read.remaining
    c.args.input.now c.drive.new.input
    c.drive.new.source.reader (g.H.Listed.time_of c.drive.new.source.head) done told begins
    _ c.lines.ensures runs
