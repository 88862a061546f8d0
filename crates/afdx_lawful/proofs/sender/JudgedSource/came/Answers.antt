use Rattle.std.proofs.Common.{ap, refl, sym, ◌∙◌}
use Rattle.std.specs.Prelude.{option_map, option_to_list}
use Rattle.afdx_frame.specs.Parts.{bytes_of}
use Rattle.afdx_frame.specs.declared.link.Side.TheVariants.{A}
use Rattle.afdx_lawful.specs.Alone.{is_empty}
use Rattle.afdx_lawful.specs.Courses.{waited_on}
use Rattle.afdx_lawful.specs.Sources.{Came, came_with}
use Rattle.afdx_lawful.specs.declared.finding.SenderFinding.TheVariants.{Unlawful}
use Rattle.afdx_lawful.proofs.CourseLemmas.{came_course}
use Rattle.afdx_lawful.proofs.OneSideLemmas.{found_flawed, frame_whole, looked_none, looked_some, number_whole}
use Rattle.afdx_lawful.proofs.OneSideLemmas.{on_err, stand_still}
use Rattle.afdx_lawful.proofs.SenderLemmas.{come_up, ready}
use Rattle.afdx_lawful.proofs.StandLemmas.{came_stands}
use Rattle.afdx_lawful.proofs.sender.JudgedSource.came.Goals as goal

pub returns-in_default-clause-found : goal.returns-in_default-clause-found
returns-in_default-clause-found c s c' up not h =
    let x : Came = came_with c.args.line c.args.time c.args.side (bytes_of c.args.frame) in
    c.damaged-heard.ensures c.args.line
    ∙ ap (λ f. option_to_list (option_map (Unlawful c.args.line) f))
    (c.look-flaw.ensures.flaw s x h.rule h.system refl refl)
    ∙ found_flawed s c.args.side c'.came x refl
    (looked_none x (sym c.in_default.is ∙ c.look-flaw.ensures.number x refl))

pub returns-in_default-clause-stands : goal.returns-in_default-clause-stands
returns-in_default-clause-stands c s c' up not h =
    let x : Came = came_with c.args.line c.args.time c.args.side (bytes_of c.args.frame) in
    let sender = c.args.self.now in
    let damaged = looked_none x (sym c.in_default.is ∙ c.look-flaw.ensures.number x refl) in
    record {
      rule = h.rule;
      system = h.system;
      terms = h.terms;
      sides = came_stands s c' x sender.sides
          (stand_still s c'.came x damaged A (waited_on c') _ _ h.sides (ready s c' sender h x up not)
          (come_up s c' sender h x up));
      tally = c.come.ensures s c' x
          (c.is_quiet.ensures c.args.line ∙ ap is_empty (returns-in_default-clause-found c s c' up not h)) h.tally;
      course = came_course s c' h.course x up;
    }

pub invariant_of-whole : goal.invariant_of-whole
invariant_of-whole c =
    let x : Came = came_with c.args.line c.args.time c.args.side (bytes_of c.args.frame) in
    let looked = looked_some x c.in-Some.number (sym c.in-Some.is ∙ c.look-flaw.ensures.number x refl) in
    record {
      listed = c.requires.listed;
      numbered = number_whole x c.in-Some.number looked.1;
      whole = frame_whole x looked.0;
    }

pub returns-in_err-heard-clause-refused : goal.returns-in_err-heard-clause-refused
returns-in_err-heard-clause-refused c s c' h =
    on_err c.from_residual.result _ (record {
      rule = h.rule;
      system = h.system;
      terms = h.terms;
      sides = c.in_err-heard.ensures.refused s c'.came (waited_on c') h.sides;
      tally = h.tally;
      course = h.course;
    })

pub returns-in_err-heard-clause-waits : goal.returns-in_err-heard-clause-waits
returns-in_err-heard-clause-waits c s c' up not h =
    let x : Came = came_with c.args.line c.args.time c.args.side (bytes_of c.args.frame) in
    on_err c.from_residual.result _
    (c.in_err-heard.ensures.waits s c'.came (waited_on c') x h.terms
    (record { line = refl; time = refl; on = refl; bytes = refl })
    (ready s c' c.args.self.now h x up not) h.sides)

pub returns-clause-found : goal.returns-clause-found
returns-clause-found c s c' up not h =
    let x : Came = came_with c.args.line c.args.time c.args.side (bytes_of c.args.frame) in
    c.in_ok-heard.ensures.found s c'.came (waited_on c') x h.terms
    (record { line = refl; time = refl; on = refl; bytes = refl })
    (c.look-flaw.ensures.flaw s x h.rule h.system refl refl) (ready s c' c.args.self.now h x up not) h.sides

pub returns-clause-stands : goal.returns-clause-stands
returns-clause-stands c s c' up not h =
    let x : Came = came_with c.args.line c.args.time c.args.side (bytes_of c.args.frame) in
    let sender = c.args.self.now in
    record {
      rule = h.rule;
      system = h.system;
      terms = h.terms;
      sides = came_stands s c' x _
          (c.in_ok-heard.ensures.stand s c'.came (waited_on c') x h.terms
          (record { line = refl; time = refl; on = refl; bytes = refl })
          (c.look-flaw.ensures.flaw s x h.rule h.system refl refl) (ready s c' sender h x up not)
          (come_up s c' sender h x up) h.sides);
      tally = c.come-2.ensures s c' x
          (c.is_quiet-2.ensures c.args.line ∙ ap is_empty (returns-clause-found c s c' up not h)) h.tally;
      course = came_course s c' h.course x up;
    }
