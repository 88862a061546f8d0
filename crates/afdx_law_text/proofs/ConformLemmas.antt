-- What a replay tells conforms.
use Rattle.std.proofs.Common.{◌≡◌, ℕ, List, ap, sym, subst, arith}
use Rattle.std.specs.Prelude.{Option, Some, None}
use Rattle.std.specs.Option.{ForSome}
use Rattle.afdx_frame.proofs.ListLemmas.{slice_get-within}
use Rattle.afdx_config.specs.Lawful.{IsLawfulSwitch}
use Rattle.afdx_config.specs.Rows.{Rows}
use Rattle.afdx_config.specs.Switches.{NamedRows}
use Rattle.afdx_switch.specs.Admitted.{IsAdmittedRun}
use Rattle.afdx_network.specs.Events.{Event}
use Rattle.afdx_law_promises.specs.Lines.{Leaving, left_in, told_by}
use Rattle.afdx_law_promises.specs.Promises.{PromisesAreKept, told}
use Rattle.afdx_cascade.specs.Plans.{plan_of, tables_of}
use Rattle.afdx_cascade.specs.SwitchEvents.{SwitchEvent, came_to}
use Rattle.afdx_cascade.proofs.PartLemmas.{runs-alone}
use Rattle.afdx_cascade.proofs.WayHopLemmas.{run-at}
use Rattle.afdx_input_runs.specs.Joining.{Frame}
use Rattle.afdx_command_conform.specs.Choices.{Choices, until_or}
use Rattle.afdx_command_conform.specs.Lines.{Due}
use Rattle.afdx_command_conform.specs.RunLaws.{ConformsIsTheHeadline, RightConforms}
use Rattle.afdx_command_conform.specs.Sight.{HasBags, Sight}
use Rattle.afdx_command_conform.specs.Tapped.{Taps, of_tables}
use Rattle.afdx_command_conform.proofs.RunLawLemmas.{tables-have-bags}
use Rattle.afdx_law_text.specs.Laws.{AreLinesOf, IsSwitchOf, PromisedConforms, PromisedConformsExactly, ReplaysConform, ReplaysConformExactly, SwitchesConform, SwitchesConformExactly, left_from_switch}
use Rattle.afdx_law_text.proofs.PromisedLemmas.{kept-leave}
use Rattle.afdx_law_text.proofs.StreamLemmas.{are-right}

-- where an end is said, it is the end
pub end-is : (o : Option ℕ) (frames : List Frame) → ForSome o (λ end. until_or o frames ≡ end)
end-is None frames end e = absurd (cc e)
end-is (Some time) frames end e = cc e

-- what is seen by tables has BAGs
pub bags-seen : (t : Rows) (c : Choices) (taps : Taps) → IsLawfulSwitch t → c.sight ≡ of_tables t taps
    → HasBags t c.sight
bags-seen t c taps lawful sees =
    subst (λ (o : Sight). HasBags t o) (sym sees) (tables-have-bags t taps lawful)

pub promised-conforms : RightConforms → PromisedConforms
promised-conforms right t c arrivals left frames lines lawful timed promised are =
    let drift = are.leeway.drift in
    right t c (until_or c.until frames) frames lines lawful (bags-seen t c are.taps lawful are.sees)
    are.recorded.by_time (omega (arith, drift)) are.are_lines
    (are-right t c are.taps (until_or c.until frames) lawful arrivals timed left promised frames are.sees are.recorded
    (end-is c.until frames))

pub promised-conforms-exactly : RightConforms → ConformsIsTheHeadline → PromisedConformsExactly
promised-conforms-exactly right headline t c arrivals left frames lines lawful timed promised exact are =
    (headline t c frames lines lawful (bags-seen t c are.taps lawful are.sees) are.recorded.by_time exact
    are.are_lines).none.0
    (promised-conforms right t c arrivals left frames lines lawful timed promised are)

pub replays-conform : RightConforms → PromisesAreKept → ReplaysConform
replays-conform right kept t c arrivals frames lines run are =
    promised-conforms right t c arrivals (left_in (told t arrivals)) frames lines run.lawful run.timed
    (kept-leave t arrivals (told t arrivals) run.lawful (kept t arrivals run)) are

pub replays-conform-exactly : RightConforms → ConformsIsTheHeadline → PromisesAreKept → ReplaysConformExactly
replays-conform-exactly right headline kept t c arrivals frames lines run exact are =
    promised-conforms-exactly right headline t c arrivals (left_in (told t arrivals)) frames lines run.lawful run.timed
    (kept-leave t arrivals (told t arrivals) run.lawful (kept t arrivals run)) exact are

-- ---- several switches

-- the switch told its events as if it were alone
pub told-alone : (switches : List NamedRows) (events : List SwitchEvent) (k : ℕ) → IsSwitchOf switches events k
    → left_from_switch switches k events ≡ left_in (told (tables_of switches k) (came_to k events))
told-alone switches events k is =
    ap (λ (es : List Event). left_in (told_by (tables_of switches k) es))
    (runs-alone (plan_of switches) is.cascade events k is.stands is.all.none is.within)

pub run-there : (switches : List NamedRows) (events : List SwitchEvent) (k : ℕ) → IsSwitchOf switches events k
    → IsAdmittedRun (tables_of switches k) (came_to k events)
run-there switches events k is =
    let s = slice_get-within switches k is.within in
    run-at switches events k s.0 is.all.cascade s.1

pub lines-there : (switches : List NamedRows) (events : List SwitchEvent) (k : ℕ) (c : Choices) (frames : List Frame)
    (lines : List Due) → IsSwitchOf switches events k
    → AreLinesOf (tables_of switches k) c (came_to k events) (left_from_switch switches k events) frames lines
    → AreLinesOf (tables_of switches k) c (came_to k events) (left_in
    (told (tables_of switches k) (came_to k events))) frames lines
lines-there switches events k c frames lines is are =
    subst (λ (left : List Leaving). AreLinesOf (tables_of switches k) c (came_to k events) left frames lines)
    (told-alone switches events k is) are

pub switches-conform : RightConforms → PromisesAreKept → SwitchesConform
switches-conform right kept switches events k c frames lines is are =
    replays-conform right kept (tables_of switches k) c (came_to k events) frames lines (run-there switches events k is)
    (lines-there switches events k c frames lines is are)

pub switches-conform-exactly : RightConforms → ConformsIsTheHeadline → PromisesAreKept → SwitchesConformExactly
switches-conform-exactly right headline kept switches events k c frames lines is exact are =
    replays-conform-exactly right headline kept (tables_of switches k) c (came_to k events) frames lines
    (run-there switches events k is) exact (lines-there switches events k c frames lines is are)
