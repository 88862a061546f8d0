-- What first events of a replay of several switches are at their parts.
use Rattle.std.proofs.Common.{◌≡◌, ◌<◌, ◌==◌, ℕ, Bool, true, false, List, [], ◌∷◌, ◌++◌, length, reverse}
use Rattle.std.proofs.Common.{refl, ap, sym, ◌∙◌, arith, append-nil, if◌then◌else◌}
use Rattle.std.proofs.lemmas.List.{length-map}
use Rattle.afdx_frame.proofs.BuiltLemmas.{built_is_computed}
use Rattle.afdx_admit.specs.Cascade.{IsCascadeAdmitted}
use Rattle.afdx_cascade.specs.Admitted.{IsAdmittedCascade}
use Rattle.afdx_cascade.specs.Cascade.{StandsFor}
use Rattle.afdx_cascade.specs.Parts.{frames_of}
use Rattle.afdx_cascade.specs.Plans.{plan_of, tables_of}
use Rattle.afdx_cascade.specs.Receivers.{HaveBegun, lines_so_far}
use Rattle.afdx_cascade.specs.Runs.{Line, Runs}
use Rattle.afdx_cascade.specs.SwitchEvents.{SwitchEvent, at_switch, came_to, count_if, listed, passes}
use Rattle.afdx_cascade.specs.declared.cascade.Cascade.{Cascade}
use Rattle.afdx_cascade.proofs.CountedLemmas.{events-counted}
use Rattle.afdx_cascade.proofs.KeptLemmas.{keeps-so-far}
use Rattle.afdx_cascade.proofs.OnceLemmas.{at-most-listed}
use Rattle.afdx_cascade.proofs.PartLemmas.{begins-alone}
use Rattle.afdx_cascade.proofs.WaitLemmas.{cables-bring-first, none-brought}
use Rattle.afdx_cascade.proofs.WayHopLemmas.{cascade-admitted}
use Rattle.afdx_config.specs.Switches.{AreSwitches, NamedRows}
use Rattle.afdx_network.specs.Events.{Event}
use Rattle.afdx_network.specs.Order.{events_of}
use Rattle.afdx_law_promises.specs.Lines.{told_by}
use Rattle.afdx_replay.proofs.CascadePromisedLemmas.{admitted-run}
use Rattle.afdx_replay.proofs.CascadeWholeLemmas.{frames-listed}
use Rattle.afdx_replay.proofs.PromisedLemmas.{first-text}
use Rattle.afdx_replay.specs.cascading.Ran.{AreInPartsSoFar}
use Rattle.afdx_replay.specs.cascading.Text.{own_text}
use Rattle.afdx_replay.specs.replaying.Promises.{text_of}
use Rattle.afdx_replay.specs.replaying.Text.{lines_at, replay_text}

-- ---- the text of a switch

own-more : (s : List NamedRows) (k : ℕ) (e : Event) (before : List SwitchEvent) (own : List ℕ) (here : Bool)
    → own ≡ replay_text (tables_of s k) (at_switch k before)
    → own ++ (if here then lines_at [] (tables_of s k) (at_switch k before) e else [])
    ≡ replay_text (tables_of s k) (if here then e ∷ at_switch k before else at_switch k before)
unfolding replay_text
own-more s k e before own true is = ap (λ x. x ++ lines_at [] (tables_of s k) (at_switch k before) e) is
own-more s k e before own false is = append-nil own ∙ is

pub own-is : (s : List NamedRows) (k : ℕ) (events : List SwitchEvent)
    → own_text s k events ≡ replay_text (tables_of s k) (at_switch k events)
unfolding own_text replay_text
own-is s k [] = refl
own-is s k (h ∷ before) = own-more s k h.event before (own_text s k before) (h.switch == k) (own-is s k before)

-- the text of first events at an admitted switch is that of the lines that tell them
told-at : (s : List NamedRows) (w : Cascade) (events : List SwitchEvent) (k : ℕ) → StandsFor (plan_of s) w events
    → k < length s → IsCascadeAdmitted s
    → own_text s k events ≡ text_of (tables_of s k) (lines_so_far s events k)
told-at s w events k stands within admitted =
    own-is s k events
    ∙ first-text (tables_of s k) (came_to k events) (begins-alone (plan_of s) w events k stands within).0
    (at_switch k events) (begins-alone (plan_of s) w events k stands within).1
    (admitted-run s w events stands k within admitted)

-- ---- the parts

pub parts-so-far : (s : List NamedRows) (past : List Line) (w : Cascade) (events : List SwitchEvent)
    → StandsFor (plan_of s) w events → Runs (plan_of s) (reverse past) events []
    → AreInPartsSoFar s past events
parts-so-far s past w events stands runs = record {
  begun = λ k within. begins-alone (plan_of s) w events k stands within;
  told = λ admitted k within. told-at s w events k stands within admitted;
  end_to_end = λ are admitted.
      keeps-so-far built_is_computed s events (cascade-admitted s w events are admitted stands)
      (λ k within. begins-alone (plan_of s) w events k stands within);
  cables = λ k port side other joined. cables-bring-first (plan_of s) w events k port side other stands joined;
  once = λ side k test.
      (let most = at-most-listed (plan_of s) events side k test stands.keeps.plan stands.keeps.stands.rules in
      let same = ap (count_if (passes side test)) frames in
      omega (arith, most, same));
  few =
      (let counted = (events-counted (plan_of s) w events stands).events in
      let size : length (listed (plan_of s) events) ≡ length past =
      ap length frames ∙ length-map past (λ (l : Line). l.arrival) in
      omega (arith, counted, size));
}
  where
    frames : listed (plan_of s) events ≡ frames_of past
    frames = frames-listed s past events runs

nothing-came : (s : List NamedRows) → AreSwitches s → IsCascadeAdmitted s → IsAdmittedCascade s []
nothing-came s are admitted =
    record { are = are; admitted = admitted; timed = λ k within. tt; rules = tt }

-- before the first event
pub no-parts : (s : List NamedRows) → AreInPartsSoFar s [] []
unfolding own_text text_of told_by
no-parts s = record {
  begun = nothing;
  told = λ admitted k within. refl;
  end_to_end = λ are admitted. keeps-so-far built_is_computed s [] (nothing-came s are admitted) nothing;
  cables = λ k port side other joined. none-brought side k port other;
  once = λ side k test. omega arith;
  few = omega arith;
}
  where
    nothing : HaveBegun s []
    nothing k within = (events_of (tables_of s k) [], sym (append-nil (events_of (tables_of s k) [])))
