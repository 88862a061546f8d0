-- The lines of each emission in a sender's text, as arrivals.
use Rattle.std.proofs.Common.{◌≡◌, ℕ, List, [], ◌∷◌, ◌++◌, length, Some, inl, inr}
use Rattle.std.proofs.Common.{sym, ap, subst, zero, suc, nat_eq}
use Rattle.std.specs.Prelude.{◌⊎◌}
use Rattle.std.specs.List.{slice_get, AllByRecursion}
use Rattle.afdx_frame.specs.Reading.{BuiltIsComputed}
use Rattle.afdx_frame.proofs.ListLemmas.{AllByRecursion-slice_get, slice_get-filter}
use Rattle.afdx_config.specs.Admission.{links_from}
use Rattle.afdx_config.specs.Lawful.{IsSystem, IsLink, IsLawful}
use Rattle.afdx_config.specs.Rows.{SystemRow, LinkRow, Rows}
use Rattle.afdx_input_lines.specs.Lines.{most_lines}
use Rattle.afdx_port.specs.Schedule.{Turn}
use Rattle.afdx_send.specs.Complete.{IsOfTaken}
use Rattle.afdx_send.specs.Emissions.{LinkRelease, own, own_submissions, AreAllReleases, entry_for}
use Rattle.afdx_send.specs.Emissions.{entries_of}
use Rattle.afdx_send.specs.Frames.{Frame}
use Rattle.afdx_send.specs.Releases.{Submission}
use Rattle.afdx_send.specs.Sender.{SenderHistory, IsNextIn}
use Rattle.afdx_send.proofs.NewLemmas.{distinct_links}
use Rattle.afdx_send.specs.Laws.{IsBuildable}
use Rattle.afdx_input_sources.specs.Listed.{Handed}
use Rattle.afdx_command_tables.specs.sending.Events.{Event, Emitted, Submitted, submissions_in}
use Rattle.afdx_command_tables.specs.sending.Events.{turns_in, taken_by, calls_in, EachFollows}
use Rattle.afdx_law_text.specs.SentLaws.{IsTold, SentLinesAreArrivals}
use Rattle.afdx_law_text.proofs.EmittedLemmas.{IsGood, taken-good, turn-buildable, of-frame}
use Rattle.afdx_law_text.proofs.SaidLemmas.{IsSaid, all-said}
use Rattle.afdx_law_text.proofs.SentLineLemmas.{sent-line}
use Rattle.afdx_law_text.proofs.TakenLemmas.{own-taken}

-- ---- each emission is of a message that was taken

last-or-before : {Y : Type 0} (ys : List Y) (y : Y) (i : ℕ) (z : Y) → slice_get (ys ++ y ∷ []) i ≡ Some z
    → (slice_get ys i ≡ Some z) ⊎ (z ≡ y)
last-or-before [] y zero z at = inr (let e : y ≡ z = cc at in sym e)
last-or-before [] y (suc i) z at = absurd (cc at)
last-or-before (x ∷ xs) y zero z at = inl at
last-or-before (x ∷ xs) y (suc i) z at = last-or-before xs y i z at

entry-of-taken : (h : SenderHistory) (xs : List LinkRelease) → AreAllReleases h.links h.taken xs
    → (turn : Turn Frame) (i : ℕ) → slice_get (entries_of xs) i ≡ Some turn.entry → IsOfTaken h turn
entry-of-taken h [] are turn i at = absurd (cc at)
entry-of-taken h (x ∷ xs) are turn i at =
    elim (last-or-before (entries_of xs) (entry_for x (length (own x.place xs))) i turn.entry at) [
      | inl old ↦ entry-of-taken h xs are.1 turn i old
      | inr new ↦ record {
        link = x.place;
        row = x.row;
        stands = are.0.stands;
        place = x.release.place;
        submission = x.release.submission;
        taken = are.0.next.own.stands;
        steps = length (own x.place xs);
        frame = ap (λ e. e.item) new;
      }
    ]

next-of-taken : (h : SenderHistory) (turn : Turn Frame) → IsNextIn h turn → IsOfTaken h turn
next-of-taken h turn n = entry-of-taken h n.released n.are_releases turn turn.place n.next.own.stands

-- ---- so its frames can be built

module _ (t : Rows) (sender : ℕ) (s : SystemRow) (lawful : IsLawful t)
    (stands : slice_get t.systems sender ≡ Some s) where
  abbrev links : List LinkRow
  links = links_from t.links sender

  is_system : IsSystem t.profile s
  is_system = AllByRecursion-slice_get (IsSystem t.profile) t.systems sender s lawful.systems.each stands

  is_link : (i : ℕ) (l : LinkRow) → slice_get links i ≡ Some l → IsLink (length t.systems) l
  is_link i l at = (let r = slice_get-filter (λ x. nat_eq x.from sender) t.links i l at in
      AllByRecursion-slice_get (IsLink (length t.systems)) t.links r.0 l lawful.links.each r.1)

  own-good : (events : List Event) (time : ℕ) → EachFollows s links events
      → AllByRecursion (IsSaid most_lines) (submissions_in events) → (i : ℕ) (l : LinkRow)
      → slice_get links i ≡ Some l
      → AllByRecursion (IsGood l) (own_submissions (calls_in s links events time).taken i)
  own-good events time follow said i l at =
      subst (λ (z : List Submission). AllByRecursion (IsGood l) z)
      (sym (own-taken (λ vl. taken_by vl events) links i l at))
      (taken-good most_lines s links (distinct_links t.links sender lawful.links.identifiers)
      events follow said i l at)

  each-buildable : (events : List Event) → EachFollows s links events
      → AllByRecursion (IsSaid most_lines) (submissions_in events)
      → AllByRecursion (IsBuildable s) (turns_in events)
  each-buildable [] follow said = tt
  each-buildable (Emitted turn ∷ before) follow said = (
    turn-buildable (length t.systems) t.profile s (calls_in s links before turn.end) is_system is_link
        (own-good before turn.end follow.1 said) turn
        (next-of-taken (calls_in s links before turn.end) turn follow.0),
    each-buildable before follow.1 said,
  )
  each-buildable (Submitted x fault ∷ before) follow said = each-buildable before follow.1 said.1

  each-told : BuiltIsComputed → (turns : List (Turn Frame)) → AllByRecursion (IsBuildable s) turns
      → AllByRecursion (IsTold s) turns
  each-told computed [] build = tt
  each-told computed (turn ∷ turns) build = (
    λ early side. sent-line side s.port turn.end _ is_system.port.0 is_system.port.1 early
        (of-frame computed s turn build.0 side),
    each-told computed turns build.1,
  )

pub lines-are-arrivals : BuiltIsComputed → SentLinesAreArrivals
lines-are-arrivals computed t sender s list n events lawful stands sound are =
    each-told t sender s lawful stands computed (turns_in events)
    (each-buildable t sender s lawful stands events are.follow
    (subst (λ (z : List Handed). AllByRecursion (IsSaid most_lines) z) (sym are.submissions_are)
    (all-said list n sound)))
