-- What has been emitted when all that was taken is.
use Rattle.std.proofs.Common.{◌≡◌, ℕ, ◌+◌, ◌<◌, ◌≤◌, true, false, List, [], ◌∷◌, ◌++◌, length, Some}
use Rattle.std.proofs.Common.{inl, inr, refl, sym, ap, subst, arith, ◌∙◌}
use Rattle.std.specs.Prelude.{All}
use Rattle.std.specs.List.{slice_get, AllByRecursion}
use Rattle.std.proofs.lemmas.List.{length-append}
use Rattle.afdx_frame.specs.declared.link.Priority.TheVariants.{Low}
use Rattle.afdx_frame.proofs.ListLemmas.{slice_get-push_cases}
use Rattle.afdx_config.specs.Admission.{byte_ns}
use Rattle.afdx_config.specs.LawfulStream.{Sending}
use Rattle.afdx_config.specs.Rows.{LinkRow, Rows}
use Rattle.afdx_law_bounds.specs.Sender.{SenderIsInTime, one_of_each}
use Rattle.afdx_law_bounds.specs.Tables.{EachSystemIsSender}
use Rattle.afdx_port.specs.Schedule.{Entry, Turn, IsSchedule, has_turn}
use Rattle.afdx_port.specs.ScheduleOf.{AreInOrder}
use Rattle.afdx_send.specs.Complete.{IsFor, HasSentAll, EmitsAll, IsOfTaken, AllIsSent, EmissionsAreOfTaken}
use Rattle.afdx_send.specs.Emissions.{LinkRelease, own, own_submissions, AreAllReleases, entry_for}
use Rattle.afdx_send.specs.Emissions.{entries_of, AreSendings}
use Rattle.afdx_send.specs.Frames.{Frame}
use Rattle.afdx_send.specs.Releases.{Submission, IsMessage}
use Rattle.afdx_send.specs.Sender.{SenderHistory, AreSent, flows_of}
use Rattle.afdx_send.proofs.EmitLemmas.{are_ours}
use Rattle.afdx_send.proofs.FullLemmas.{vl_of, charge_of, AllFit, charged_all, released_all}
use Rattle.afdx_send.proofs.KeptLemmas.{order_push}
use Rattle.afdx_send.proofs.LawLemmas.{Pairs, pairs_length, entries_length, go_in_order, paired}
use Rattle.afdx_send.proofs.MessageLemmas.{AllMessages}
use Rattle.afdx_send.proofs.NewLemmas.{are_sent}
use Rattle.afdx_send.proofs.OrderLemmas.{all-get, are-releases-of-all}
use Rattle.afdx_send.proofs.OwnLemmas.{own_releases, next_later}
use Rattle.afdx_send.proofs.StreamLemmas.{stream_of, emits_lawfully}

-- ---- the entries of a port are in order

come-before : (links : List LinkRow) (taken : List (List Submission)) (x : LinkRelease)
    (xs : List LinkRelease) → AreAllReleases links taken (x ∷ xs) →
    (i : ℕ) (e : Entry Frame) → slice_get (entries_of xs) i ≡ Some e → e.time ≤ x.release.time
come-before links taken x [] h i e at = absurd (cc at)
come-before links taken x (y ∷ ys) h i e at =
    let later = next_later links taken y ys x.place x.row x.release h.0.stands h.1 h.0.next in
    elim (slice_get-push_cases (entries_of ys) (entry_for y (length (own y.place ys))) i e at) [
      | inl old ↦ (let le = come-before links taken y ys h.1 i e old in omega (arith, le, later))
      | inr new ↦ (let same : e.time ≡ y.release.time = ap (λ d. d.time) new.1 in omega (arith, same, later))
    ]

in-order : (links : List LinkRow) (taken : List (List Submission)) (xs : List LinkRelease)
    → AreAllReleases links taken xs → AreInOrder (entries_of xs)
in-order links taken [] h i j d e le at_i at_j = absurd (cc at_i)
in-order links taken (x ∷ xs) h i j d e le at_i at_j =
    order_push (entries_of xs) (entry_for x (length (own x.place xs))) x.release.time
    (in-order links taken xs h.1) (come-before links taken x xs h) (omega arith) i j d e le at_i at_j

-- ---- all releases have their slots

no-more : (later first : List LinkRelease) (turns : List (Turn Frame))
    → ((p : ℕ) → length turns ≤ p → has_turn turns p ≡ false)
    → ((p : ℕ) → p < length (entries_of (later ++ first)) → has_turn turns p ≡ true) →
    length turns ≡ length first → later ++ first ≡ first
no-more [] first turns none all same = refl
no-more (x ∷ later) first turns none all same =
    let n : length (entries_of ((x ∷ later) ++ first)) ≡ length ((x ∷ later) ++ first) =
    entries_length ((x ∷ later) ++ first) in
    let m : length ((x ∷ later) ++ first) ≡ length (x ∷ later) + length first = length-append (x ∷ later) first in
    let yes = all (length turns) (omega (arith, n, m, same)) in
    let no = none (length turns) (omega arith) in
    absurd (let e : true ≡ false = sym yes ∙ no in cc e)

-- each emission is that of the release at its place
pairs-of : (links : List LinkRow) (taken : List (List Submission)) (b : ℕ) (all : List LinkRelease)
    (turns : List (Turn Frame)) → AreAllReleases links taken all
    → IsSchedule b (entries_of all) turns → Pairs turns all
pairs-of links taken b all turns h schedule =
    let p = paired links taken b all turns h schedule.each_next in
    let order = go_in_order b (entries_of all) turns (are_ours all) schedule.each_next in
    let whole = no-more p.later p.first turns order.no
    (subst (λ (z : List LinkRelease). (q : ℕ) → q < length (entries_of z)
    → has_turn turns q ≡ true) p.is schedule.all_have_turns) (pairs_length turns p.first p.pairs) in
    subst (λ (z : List LinkRelease). Pairs turns z) (sym (p.is ∙ whole)) p.pairs

of-taken : (h : SenderHistory) (turns : List (Turn Frame)) (xs : List LinkRelease)
    → AreAllReleases h.links h.taken xs → Pairs turns xs → AllByRecursion (IsOfTaken h) turns
unfolding Pairs
of-taken h [] [] are p = tt
of-taken h [] (x ∷ xs) are p = absurd p
of-taken h (s ∷ ss) [] are p = absurd p
of-taken h (s ∷ ss) (x ∷ xs) are p = (
  record {
    link = x.place;
    row = x.row;
    stands = are.0.stands;
    place = x.release.place;
    submission = x.release.submission;
    taken = are.0.next.own.stands;
    steps = length (own x.place xs);
    frame = ap (λ e. e.item) p.0;
  },
  of-taken h ss xs are.1 p.1,
)

-- ---- a sender of admitted tables

module _ (t : Rows) (system : ℕ) (h : SenderHistory) (s : HasSentAll t system h) where
  sent : EachSystemIsSender → AreSent h.system h.links
  sent law = subst (λ (z : List LinkRow). AreSent h.system z) (sym s.links)
      (are_sent t system h.system law s.lawful s.admitted s.row s.own)

  fits : AllFit h.links h.taken
  fits i j l m at here = (all-get (IsFor l) (own_submissions h.taken i) j m (s.fit i l at) here).fits

  messages : AllMessages h.links h.taken
  messages i j l m at here =
      all-get (λ (x : Submission). IsMessage x.message) (own_submissions h.taken i) j m (s.messages i l at) here

  pairs : Pairs h.emitted s.done.released
  pairs = pairs-of h.links h.taken (byte_ns h.system) s.done.released h.emitted s.done.are_releases s.done.schedule

  soon : EachSystemIsSender → SenderIsInTime Frame
      → All (λ x. x.end ≤ x.entry.time + one_of_each (byte_ns h.system) (flows_of h.system h.links))
      h.emitted
  soon law in_time =
      in_time (byte_ns h.system) Low (flows_of h.system h.links) vl_of charge_of
      (entries_of s.done.released) h.emitted (sent law).is_sender
      (in-order h.links h.taken s.done.released s.done.are_releases)
      (charged_all h.system h.links h.taken (sent law) fits s.done.released s.done.are_releases)
      (released_all h.system h.links h.taken (sent law) fits s.done.released
      s.done.are_releases) s.done.schedule.each_next

  emits-all : EachSystemIsSender → SenderIsInTime Frame
      → (place : ℕ) (l : LinkRow) (stream : List Sending) → slice_get h.links place ≡ Some l
      → AreSendings h.system l.vl h.emitted stream → EmitsAll h place l stream
  emits-all law in_time place l stream row sends =
      let lawful = stream_of h.system h.links h.taken (byte_ns h.system)
      (one_of_each (byte_ns h.system) (flows_of h.system h.links)) (entries_of s.done.released)
      place l (sent law) fits messages row ((sent law).jitters place l row)
      h.emitted s.done.released stream (are_ours s.done.released) s.done.schedule.each_next
      (soon law in_time) s.done.are_releases pairs sends in
      record {
        emits = emits_lawfully h place l s.done.released stream s.done.are_releases lawful;
        all = are-releases-of-all l (own_submissions h.taken place) (own place s.done.released)
            (s.fit place l row) (own_releases h.links h.taken place l s.done.released row
            s.done.are_releases) (λ p lt. s.done.all_released place p l row lt);
      }

pub all-is-sent : EachSystemIsSender → SenderIsInTime Frame → AllIsSent
all-is-sent law in_time t system h place l stream s row sends =
    emits-all t system h s law in_time place l stream row sends

pub emissions-are-of-taken : EmissionsAreOfTaken
emissions-are-of-taken t system h s = of-taken h h.emitted s.done.released s.done.are_releases (pairs t system h s)
