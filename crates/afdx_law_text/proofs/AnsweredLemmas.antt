-- What is answered of a replay's own frames.
use Rattle.std.proofs.Common.{◌≡◌, ◌<◌, List, [], ◌∷◌, length, refl, sym, subst, arith, true≢false, ◌∙◌}
use Rattle.afdx_config.specs.Lawful.{IsLawfulSwitch}
use Rattle.afdx_config.specs.Rows.{Rows}
use Rattle.afdx_input_runs.specs.Joining.{Frame}
use Rattle.afdx_police.specs.Arrival.{Arrival}
use Rattle.afdx_law_bounds.specs.Outputs.{AreTimed}
use Rattle.afdx_law_promises.specs.Lines.{Leaving, left_in}
use Rattle.afdx_law_promises.specs.Promises.{PromisesAreKept, told}
use Rattle.afdx_cascade.specs.Plans.{tables_of}
use Rattle.afdx_cascade.specs.SwitchEvents.{came_to}
use Rattle.afdx_command_conform.specs.Choices.{Choices, until_or}
use Rattle.afdx_command_conform.specs.Lines.{Due}
use Rattle.afdx_command_conform.specs.RunLaws.{ConformsIsTheHeadline, IsExactBy, RightConforms}
use Rattle.afdx_command_conform.specs.Sight.{HasBags}
use Rattle.afdx_command_conform.specs.VerdictLaws.{ExactConforms, IsExercised, IsRun, RightNeverDeviates, SomeLeft, answered}
use Rattle.afdx_text.specs.declared.conform_line.Answer.TheVariants.{Conforms}
use Rattle.afdx_law_text.specs.Laws.{AreLinesOf, IsAnswered, IsPlain, PromisedIsAnswered, ReplaysAreAnswered, SwitchesAreAnswered}
use Rattle.afdx_law_text.specs.Recorded.{AreRecorded}
use Rattle.afdx_law_text.specs.Leaving.{LeaveAsPromised}
use Rattle.afdx_law_text.proofs.ConformLemmas.{bags-seen, end-is, lines-there, promised-conforms, run-there, told-alone}
use Rattle.afdx_law_text.proofs.PromisedLemmas.{kept-leave}
use Rattle.afdx_law_text.proofs.SomeLemmas.{some-here}
use Rattle.afdx_law_text.proofs.StreamLemmas.{are-right}

module _ (right : RightConforms) (never : RightNeverDeviates) (headline : ConformsIsTheHeadline)
    (exactly : ExactConforms) where
  module _ (t : Rows) (c : Choices) (arrivals : List Arrival) (left : List Leaving) (frames : List Frame)
      (lines : List Due)
      (lawful : IsLawfulSwitch t) (timed : AreTimed arrivals) (promised : LeaveAsPromised t arrivals left)
      (are : AreLinesOf t c arrivals left frames lines) where
    bags : HasBags t c.sight
    bags = bags-seen t c are.taps lawful are.sees

    run : IsRun (t, c) frames lines
    run = record { lawful = lawful; by_time = are.recorded.by_time; are_lines = are.are_lines }

    exact-answer : IsExactBy c.by → SomeLeft (t, c) frames → IsExercised (t, c) frames lines
        → answered (t, c) frames lines ≡ Conforms
    exact-answer exact some exercised =
        (exactly (t, c) frames lines exact bags run).1 (
          some,
          (headline t c frames lines lawful bags are.recorded.by_time exact are.are_lines).found.0
              (promised-conforms right t c arrivals left frames lines lawful timed promised are),
          exercised,
        )

    some-left : (ds : List Leaving) → left ≡ ds → 0 < length ds → IsPlain t c → SomeLeft (t, c) frames
    some-left [] e some plain = absurd (omega (arith, some))
    some-left (d ∷ more) e some plain =
        some-here t c are.taps lawful arrivals timed d more (subst (LeaveAsPromised t arrivals) e promised) frames
        are.sees (subst (λ (ds : List Leaving). AreRecorded are.taps arrivals ds frames) e are.recorded) plain

    pub is-answered : IsAnswered t c left frames lines
    is-answered =
        let drift = are.leeway.drift in
        record {
          plain = λ plain some. exact-answer plain.exact (some-left left refl some plain)
              (λ is. absurd (true≢false (sym is ∙ plain.exercised)));
          exact = exact-answer;
          never = λ findings e. never (t, c) frames lines findings (omega (arith, drift)) bags run
              (are-right t c are.taps (until_or c.until frames) lawful arrivals timed left promised frames are.sees
              are.recorded (end-is c.until frames)) e;
        }

  pub promised-answered : PromisedIsAnswered
  promised-answered t c arrivals left frames lines lawful timed promised are =
      is-answered t c arrivals left frames lines lawful timed promised are

  pub replays-answered : PromisesAreKept → ReplaysAreAnswered
  replays-answered kept t c arrivals frames lines run are =
      is-answered t c arrivals (left_in (told t arrivals)) frames lines run.lawful run.timed
      (kept-leave t arrivals (told t arrivals) run.lawful (kept t arrivals run)) are

  pub switches-answered : PromisesAreKept → SwitchesAreAnswered
  switches-answered kept switches events k c frames lines is are =
      subst (λ (left : List Leaving). IsAnswered (tables_of switches k) c left frames lines)
      (sym (told-alone switches events k is))
      (replays-answered kept (tables_of switches k) c (came_to k events) frames lines (run-there switches events k is)
      (lines-there switches events k c frames lines is are))
