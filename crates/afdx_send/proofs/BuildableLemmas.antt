-- The builder takes each frame that a sender emits.
use Rattle.std.proofs.Common.{◌≡◌, ℕ, List, [], ◌∷◌, length, Some, inl, inr, sym, subst}
use Rattle.std.proofs.Common.{arith}
use Rattle.std.specs.List.{slice_get, AllByRecursion}
use Rattle.afdx_frame.proofs.ListLemmas.{slice_get-push_cases}
use Rattle.afdx_config.specs.Admission.{byte_ns}
use Rattle.afdx_config.specs.Rows.{SystemRow, LinkRow}
use Rattle.afdx_port.specs.Schedule.{Entry, Turn, AreTurns}
use Rattle.afdx_send.specs.Emissions.{LinkRelease, own, AreAllReleases, entry_for, entries_of}
use Rattle.afdx_send.specs.Frames.{Frame}
use Rattle.afdx_send.specs.Laws.{IsBuildable, EmissionsAreBuildable}
use Rattle.afdx_send.specs.Releases.{Submission}
use Rattle.afdx_send.specs.Sender.{AreSent}
use Rattle.afdx_send.proofs.FullLemmas.{AllFit}
use Rattle.afdx_send.proofs.KeptLemmas.{all_fit}
use Rattle.afdx_send.proofs.LawLemmas.{TakenAreTurns, emitted_are}
use Rattle.afdx_send.proofs.MessageLemmas.{AllMessages, all_messages, can_be_sent}
use Rattle.afdx_send.proofs.NumberLemmas.{number-small}

module _ (s : SystemRow) (links : List LinkRow) (taken : List (List Submission))
    (sent : AreSent s links) (fit : AllFit links taken) (good : AllMessages links taken) where
  entry-buildable : (xs : List LinkRelease) → AreAllReleases links taken xs → (turn : Turn Frame)
      → (i : ℕ) → slice_get (entries_of xs) i ≡ Some turn.entry → IsBuildable s turn
  entry-buildable [] are turn i at = absurd (cc at)
  entry-buildable (x ∷ xs) are turn i at =
      elim (slice_get-push_cases (entries_of xs) (entry_for x (length (own x.place xs))) i turn.entry at) [
        | inl old ↦ entry-buildable xs are.1 turn i old
        | inr new ↦ this (length (own x.place xs)) new.1
      ]
    where
      this : (k : ℕ) → turn.entry ≡ entry_for x k → IsBuildable s turn
      this k same =
          let small = number-small k in
          let link = sent.lawful x.place x.row are.0.stands in
          let here = are.0.next.own.stands in
          let can = can_be_sent sent.system.0 link.0 s x.row x.release.submission.message sent.system.1 link.1
          (good x.place x.release.place x.row x.release.submission are.0.stands here)
          (fit x.place x.release.place x.row x.release.submission are.0.stands here) in
          subst (λ (e : Entry Frame). IsBuildable s (record turn { entry = e })) (sym same) (record {
            buildable = can.buildable;
            bytes = can.bytes;
            number = omega (arith, small);
          })

  turns-buildable : (b : ℕ) (xs : List LinkRelease) → AreAllReleases links taken xs
      → (turns : List (Turn Frame)) → AreTurns b (entries_of xs) turns
      → AllByRecursion (IsBuildable s) turns
  turns-buildable b xs are [] turned = tt
  turns-buildable b xs are (turn ∷ earlier) turned = (
    entry-buildable xs are turn turn.place turned.0.own.stands,
    turns-buildable b xs are earlier turned.1,
  )

pub are-buildable : TakenAreTurns → EmissionsAreBuildable
are-buildable law w h st =
    turns-buildable h.system h.links h.taken st.are_sent (all_fit w h st) (all_messages w h st)
    (byte_ns h.system) st.released st.are_releases h.emitted (emitted_are w h law st)
