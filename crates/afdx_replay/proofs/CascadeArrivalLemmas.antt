-- What a replay of several switches tells of an arrival more, and of one that came too early.
use Rattle.std.proofs.Common.{◌≡◌, ℕ, ◌++◌, ◌∷◌, List, [], length, refl, ap, sym, ◌∙◌, subst}
use Rattle.std.proofs.Common.{Option, Some, Bool, true, false}
use Rattle.std.specs.Io.KnownBytes.{Appends}
use Rattle.afdx_cascade.specs.Cascade.{TellsArrival}
use Rattle.afdx_cascade.specs.Plans.{plan_of, tables_of}
use Rattle.afdx_cascade.specs.Runs.{arriving, event_at}
use Rattle.afdx_cascade.specs.SwitchEvents.{SwitchEvent, came_to}
use Rattle.afdx_cascade.specs.Turning.{IsWait}
use Rattle.afdx_cascade.specs.declared.told.SitedPort.{SitedPort}
use Rattle.afdx_switch.specs.declared.verdict.Verdict.{Verdict}
use Rattle.afdx_config.specs.Switches.{NamedRows}
use Rattle.afdx_command_tables.specs.declared.summary.Summary.{Summary}
use Rattle.afdx_end_systems.specs.declared.systems.Systems.{Systems}
use Rattle.afdx_frame.specs.declared.link.Side.{Side}
use Rattle.afdx_input_lines.specs.Calls.{AppendsFront}
use Rattle.afdx_input_lines.specs.declared.watched.Watched.{Watched}
use Rattle.afdx_network.specs.Events.{Came, Left, Departure, admission_after}
use Rattle.afdx_network.specs.Network as network
use Rattle.afdx_police.specs.Verdicts.{is_over_rate}
use Rattle.afdx_police.specs.declared.shape.Reason.{Reason}
use Rattle.afdx_switch.specs.Verdicts.{reason_of}
use Rattle.afdx_text.specs.OutLines.{place_text, verdict_line}
use Rattle.afdx_text.specs.Telling.{Tells}
use Rattle.afdx_replay.specs.Early.{HearsText, IsLineOn, IsOneMore, early_line}
use Rattle.afdx_replay.specs.cascading.Early.{AreEarlyLines, HearsEarly, IsLineOf}
use Rattle.afdx_replay.specs.cascading.Text.{event_lines}
use Rattle.afdx_input_runs.specs.ListText.{switch_name}
use Rattle.afdx_replay.specs.cascading.Told.{SystemsAre, TellsOne}
use Rattle.afdx_replay.specs.replaying.Replayed.{Known}
use Rattle.afdx_replay.specs.replaying.Text.{loss_lines, with_admission}
use Rattle.afdx_replay.proofs.CascadeEventLemmas.{systems-kept}
use Rattle.afdx_replay.proofs.EarlyLemmas.{hears-more, hears-same, line-on}
use Rattle.afdx_replay.proofs.ReplayLemmas.{lines-told}

-- the lines of a verdict, and of the copies that it lost, at a place
abbrev pub told_lines : ℕ → Side → (name : List ℕ) → Option Reason → (lost : List ℕ) → List ℕ
told_lines n side name reason lost =
    verdict_line n (place_text side name) reason ++ loss_lines n (place_text side name) lost

module _ (s : List NamedRows) (before : List SwitchEvent) (at : SitedPort) (tag : ℕ) (v : Verdict) (wait : ℕ)
    (h : SwitchEvent) (tells : TellsArrival (plan_of s) before at tag v wait h) where
  -- its lines, by the name of its switch
  lines-are : (name : List ℕ) → name ≡ switch_name s at.switch.0
      → told_lines tag at.side name (network.reason_in v) (network.lost_in v)
      ≡ event_lines s before (arriving (plan_of s) before at.switch.0 tells.arrival)
  lines-are name named =
      ap (λ n. told_lines n at.side name (network.reason_in v) (network.lost_in v)) tells.tag_is
      ∙ ap (λ z. told_lines tells.arrival.tag z name (network.reason_in v) (network.lost_in v))
      tells.side
      ∙ ap (λ n. told_lines tells.arrival.tag tells.arrival.side n (network.reason_in v)
      (network.lost_in v)) named
      ∙ lines-told (switch_name s at.switch.0) v
      (admission_after (tables_of s at.switch.0) (came_to at.switch.0 before) tells.arrival) tells.tells

  -- an arrival is told
  pub told-arrival : (all : List Systems) (name : List ℕ) (old counts : Summary) (x y : Known)
      → name ≡ switch_name s at.switch.0 → SystemsAre s all before
      → counts ≡ with_admission old (network.reason_in v) (length (network.lost_in v))
      → Appends x y (told_lines tag at.side name (network.reason_in v) (network.lost_in v))
      → TellsOne s all old counts x y before h
  told-arrival all name old counts x y named are more written =
      subst (λ e. TellsOne s all old counts x y before e) (sym tells.is) (record {
        systems_are = systems-kept s all at.switch.0 before are
            (Came (admission_after (tables_of s at.switch.0) (came_to at.switch.0 before) tells.arrival)) (λ es. refl);
        counted = more
            ∙ ap (λ r. with_admission old r (length (network.lost_in v))) tells.tells.reason
            ∙ ap (λ (l : List ℕ). with_admission old (reason_of (tables_of s at.switch.0) (came_to at.switch.0 before)
            tells.arrival) (length l)) tells.tells.lost;
        written = subst (λ (l : List ℕ). Appends x y l) (lines-are name named) written;
      })

  pub begun-arrival : (name : List ℕ) (x y : Known) → name ≡ switch_name s at.switch.0
      → AppendsFront x y (told_lines tag at.side name (network.reason_in v) (network.lost_in v))
      → AppendsFront x y (event_lines s before h)
  begun-arrival name x y named written =
      subst (λ e. AppendsFront x y (event_lines s before e)) (sym tells.is)
      (subst (λ (l : List ℕ). AppendsFront x y l) (lines-are name named) written)

  module _ {D : Type 0} (contents : D → Option (List ℕ)) (reason : Option Reason)
      (is : reason ≡ network.reason_in v) where
    abbrev Line : List ℕ → Type 0
    Line = IsLineOf s at.switch.0 before (Came (admission_after (tables_of s at.switch.0) (came_to at.switch.0 before)
        tells.arrival))

    -- what a device hears then
    hears : (start early : Option (Watched D))
        → HearsText contents (IsOneMore (AreEarlyLines s before) Line) start early
        → HearsEarly contents s start early (h ∷ before)
    hears start early now = subst (λ g. HearsEarly contents s start early (g ∷ before)) (sym tells.is) now

    over-is : (over : Bool) (line : List ℕ) → is_over_rate reason ≡ over
        → IsLineOn (tables_of s at.switch.0) (came_to at.switch.0 before) tells.arrival
        (Some (place_text tells.arrival.side (switch_name s at.switch.0))) over line → Line line
    over-is over line =
        line-on (tables_of s at.switch.0) (came_to at.switch.0 before) tells.arrival reason (is ∙ tells.tells.reason)
        (Some (place_text tells.arrival.side (switch_name s at.switch.0))) over line

    -- it was dropped for its link's rate
    pub heard-early : (name : List ℕ) (start : Option (Watched D)) (drops after : Watched D)
        → name ≡ switch_name s at.switch.0 → is_over_rate reason ≡ true
        → Tells contents drops after (early_line tag (Some (place_text at.side name)) wait)
        → HearsEarly contents s start (Some drops) before → HearsEarly contents s start (Some after) (h ∷ before)
    heard-early name start drops after named over told was =
        hears start (Some after) (hears-more contents (AreEarlyLines s before) Line start drops after
        (early_line tag (Some (place_text at.side name)) wait)
        (over-is true (early_line tag (Some (place_text at.side name)) wait) over (
          wait,
          subst (λ (o : Bool). IsWait o (tables_of s at.switch.0) (came_to at.switch.0 before) tells.arrival wait)
              (sym (ap is_over_rate (is ∙ tells.tells.reason)) ∙ over) tells.was_early,
          ap (λ n. early_line n (Some (place_text at.side name)) wait) tells.tag_is
              ∙ ap (λ z. early_line tells.arrival.tag (Some (place_text z name)) wait) tells.side
              ∙ ap (λ n. early_line tells.arrival.tag (Some (place_text tells.arrival.side n)) wait) named,
        )) told was)

    -- or wasn't
    pub heard-same : (start early : Option (Watched D)) → is_over_rate reason ≡ false
        → HearsEarly contents s start early before → HearsEarly contents s start early (h ∷ before)
    heard-same start early over was =
        hears start early (hears-same contents (AreEarlyLines s before) Line start early (over-is false [] over refl)
        was)

module _ (s : List NamedRows) (before : List SwitchEvent) (h : SwitchEvent) where
  -- of a departure nothing is told
  pub heard-left : (k : ℕ) (d : Departure) → h ≡ event_at k (Left d) → {D : Type 0} (contents : D → Option (List ℕ))
      (start early : Option (Watched D)) → HearsEarly contents s start early before
      → HearsEarly contents s start early (h ∷ before)
  heard-left k d is contents start early was =
      subst (λ e. HearsEarly contents s start early (e ∷ before)) (sym is)
      (hears-same contents (AreEarlyLines s before) (IsLineOf s k before (Left d)) start early refl was)
