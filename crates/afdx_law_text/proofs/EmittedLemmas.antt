-- What a system of a switch emits of what its links took, as lines can hold it.
use Rattle.std.proofs.Common.{◌≡◌, ◌≢◌, ℕ, zero, suc, ◌+◌, ◌<◌, ◌≤◌, Bool, true, false}
use Rattle.std.proofs.Common.{if◌then◌else◌, List, [], ◌∷◌, ◌++◌, length, map, nat_eq}
use Rattle.std.proofs.Common.{Some, refl, sym, ap, subst, ◌∙◌, arith}
use Rattle.std.specs.List.{slice_get, AllByRecursion}
use Rattle.std.proofs.lemmas.Bool.{eqb-true}
use Rattle.std.proofs.lemmas.Bool.Decides.{nat_tests}
use Rattle.std.proofs.lemmas.List.{map_push}
use Rattle.afdx_frame.specs.Reading.{BuiltIsComputed}
use Rattle.afdx_frame.specs.declared.link.Side.{Side}
use Rattle.afdx_config.proofs.AmongOthersLemmas.{link-alone}
use Rattle.afdx_config.specs.Admission.{IsAdmitted, links_from}
use Rattle.afdx_config.specs.Lawful.{IsSystem, IsLink, IsLinkUpTo, IsLawfulSwitch, AreDistinct, jitter_from_any}
use Rattle.afdx_config.specs.Numbers.{next_number, after_steps}
use Rattle.afdx_config.specs.Rows.{SystemRow, LinkRow, Rows}
use Rattle.afdx_input_lines.specs.Lines.{most_lines}
use Rattle.afdx_frame.specs.Times.{latest_listed}
use Rattle.afdx_frame.proofs.ListLemmas.{AllByRecursion-slice_get, slice_get-filter}
use Rattle.afdx_port.specs.Schedule.{Turn}
use Rattle.afdx_send.specs.Complete.{IsFor, HasSentAll, EmitsAll, IsOfTaken, AllIsSent}
use Rattle.afdx_send.specs.Complete.{EmissionsAreOfTaken, submissions_of, AreReleasesOfAll}
use Rattle.afdx_send.specs.Emissions.{own, own_submissions, sent_list}
use Rattle.afdx_send.specs.Frames.{Frame, address_with}
use Rattle.afdx_send.specs.Laws.{IsBuildable}
use Rattle.afdx_send.specs.Releases.{Submission, Release, IsMessage}
use Rattle.afdx_send.specs.Sender.{SenderHistory}
use Rattle.afdx_send.proofs.MessageLemmas.{can_be_sent}
use Rattle.afdx_send.proofs.NewLemmas.{distinct_links}
use Rattle.afdx_law_promises.specs.Sent.{frame_on, stream_of}
use Rattle.afdx_law_promises.specs.Sent.{StreamIsOfSendings, ReleasedAreToldOnce}
use Rattle.afdx_law_promises.specs.Sent.{ReleasedAreToldSoFar, OneSideIsEnough}
use Rattle.afdx_law_promises.proofs.ListLemmas.{all-imply}
use Rattle.afdx_law_text.specs.EndToEnd.{HasSent}
use Rattle.afdx_input_sources.specs.Listed.{Handed}
use Rattle.afdx_command_tables.specs.sending.Events.{Event, Emitted, Submitted, submissions_in}
use Rattle.afdx_command_tables.specs.sending.Events.{turns_in, taken_by, calls_in, EachFollows}
use Rattle.afdx_law_text.proofs.SaidLemmas.{IsSaid, all-said}
use Rattle.afdx_law_text.proofs.TakenLemmas.{taken-each, own-taken}
use Rattle.afdx_law_text.proofs.SentLineLemmas.{AreOfFrame}
use Rattle.afdx_law_text.proofs.SendLineLemmas.{CanBeRead, IsFine}

-- ---- what was taken can be sent

-- a message of a list that a link took
pub record IsGood (l : LinkRow) (m : Submission) : Type 0 where
  pub for : IsFor l m
  pub is_message : IsMessage m.message

pub taken-good : (n : ℕ) (s : SystemRow) (links : List LinkRow) → AreDistinct (λ l. l.vl) links
    → (events : List Event) → EachFollows s links events
    → AllByRecursion (IsSaid n) (submissions_in events) →
    (i : ℕ) (l : LinkRow) → slice_get links i ≡ Some l → AllByRecursion (IsGood l) (taken_by l.vl events)
taken-good n s links distinct events follow said i l at =
    taken-each (λ l m. IsGood l m) (IsSaid n)
    (λ l x can q. record {
      for = can;
      is_message = record { some = can.some; udp = omega (arith, q.udp); bytes = q.bytes };
    }) s links distinct events follow said i l at

-- ---- its frames can be built

step-small : (n : ℕ) → n < 256 → next_number n < 256
step-small n lt = by (nat_eq n 255) refl
  where
    by : (b : Bool) → nat_eq n 255 ≡ b → (if b then 1 else n + 1) < 256
    by true e = omega arith
    by false e = (let ne : n ≢ 255 = grind (arith, nat_tests, e) in omega (arith, ne, lt))

number-small : (k : ℕ) → after_steps k 0 < 256
unfolding after_steps
number-small zero = omega arith
number-small (suc k) = step-small (after_steps k 0) (number-small k)

pub turn-buildable : (n profile : ℕ) (s : SystemRow) (h : SenderHistory) → IsSystem profile s
    → ((i : ℕ) (l : LinkRow) → slice_get h.links i ≡ Some l → IsLink n l) →
    ((i : ℕ) (l : LinkRow) → slice_get h.links i ≡ Some l
    → AllByRecursion (IsGood l) (own_submissions h.taken i)) → (turn : Turn Frame)
    → IsOfTaken h turn → IsBuildable s turn
turn-buildable n profile s h system links good turn k =
    let g = AllByRecursion-slice_get (IsGood k.row) (own_submissions h.taken k.link) k.place k.submission
    (good k.link k.row k.stands) k.taken in
    let m = k.submission.message in
    let can = can_be_sent profile n s k.row m system (links k.link k.row k.stands) g.is_message g.for.fits in
    subst (λ (f : Frame). IsBuildable s (record turn { entry = record turn.entry { item = f } }))
    (sym k.frame) (record {
      buildable = can.buildable;
      bytes = can.bytes;
      number = (let small = number-small k.steps in omega (arith, small));
    })

-- ---- and read

pub of-frame : BuiltIsComputed → (s : SystemRow) (turn : Turn Frame) → IsBuildable s turn
    → (side : Side) → AreOfFrame (frame_on s side turn.entry.item)
of-frame computed s turn is side =
    let k = computed (address_with s.id s.partition turn.entry.item) turn.entry.item.number side
    turn.entry.item.message.payload is.buildable is.bytes is.number in
    let long = k.long in
    let least = is.buildable.least in
    let most = is.buildable.most in
    let fits = is.buildable.fits in
    record { are_bytes = k.bytes; least = omega (arith, long, least); most = omega (arith, long, most, fits) }

pub can-be-read : BuiltIsComputed → (s : SystemRow) (turns : List (Turn Frame))
    → AllByRecursion (IsBuildable s) turns → AllByRecursion (λ turn. turn.end ≤ latest_listed) turns
    → AllByRecursion (CanBeRead s) turns
can-be-read computed s [] build early = tt
can-be-read computed s (turn ∷ turns) build early = (
  record { early = early.0; frames = of-frame computed s turn build.0 },
  can-be-read computed s turns build.1 early.1,
)

pub all-fine : (s : SystemRow) (events : List Event) → AllByRecursion (CanBeRead s) (turns_in events)
    → AllByRecursion (IsSaid most_lines) (submissions_in events) → AllByRecursion (IsFine s) events
all-fine s [] can said = tt
all-fine s (Emitted turn ∷ before) can said = (can.0, all-fine s before can.1 said)
all-fine s (Submitted x fault ∷ before) can said = (said.0.line, all-fine s before can said.1)

-- ---- the link's place among those of its system

pub place-among : (links : List LinkRow) (system i : ℕ) (l : LinkRow) → slice_get links i ≡ Some l
    → l.from ≡ system → (place : ℕ) × (slice_get (links_from links system) place ≡ Some l)
place-among [] system i l at from = absurd (cc at)
place-among (x ∷ links) system zero l at from =
    let here : x ≡ l = cc at in
    let on : nat_eq x.from system ≡ true =
    (let e : x.from ≡ system = ap (λ z. z.from) here ∙ from in grind (arith, nat_tests, e)) in
    (0, rw on at)
place-among (x ∷ links) system (suc i) l at from = by (nat_eq x.from system) (place-among links system i l at from)
  where
    by : (b : Bool) → (place : ℕ) × (slice_get (links_from links system) place ≡ Some l)
        → (place : ℕ) × (slice_get (if b then x ∷ links_from links system else links_from links
        system) place ≡ Some l)
    by true rest = (suc rest.0, rest.1)
    by false rest = rest

-- ---- messages

pub sent-messages : (rs : List Release) → sent_list rs ≡ map (λ s. s.message) (submissions_of rs)
sent-messages [] = refl
sent-messages (r ∷ rs) = ap (λ z. z ++ r.submission.message ∷ []) (sent-messages rs)
    ∙ sym (map_push (λ s. s.message) (submissions_of rs) r.submission)

-- ---- all of it

pub record Laws : Type 0 where
  pub sent : AllIsSent
  pub frames : EmissionsAreOfTaken
  pub stream : StreamIsOfSendings
  pub once : ReleasedAreToldOnce
  pub so_far : ReleasedAreToldSoFar
  pub enough : OneSideIsEnough
  pub computed : BuiltIsComputed

pub laws-of : AllIsSent → EmissionsAreOfTaken → StreamIsOfSendings → ReleasedAreToldOnce
    → ReleasedAreToldSoFar → OneSideIsEnough → BuiltIsComputed → Laws
laws-of sent frames stream once so_far enough computed =
    record {
      sent = sent;
      frames = frames;
      stream = stream;
      once = once;
      so_far = so_far;
      enough = enough;
      computed = computed;
    }

from-of : (links : List LinkRow) (system i : ℕ) (l : LinkRow) → slice_get (links_from links system) i ≡ Some l
    → l.from ≡ system
from-of [] system i l at = absurd (cc at)
from-of (x ∷ links) system i l at = by (nat_eq x.from system) refl i at (λ k later. from-of links system k l later)
  where
    by : (b : Bool) → nat_eq x.from system ≡ b → (k : ℕ)
        → slice_get (if b then x ∷ links_from links system else links_from links system) k ≡ Some l
        → ((n : ℕ) → slice_get (links_from links system) n ≡ Some l → l.from ≡ system) → l.from ≡ system
    by false is k there rest = rest k there
    by true is zero there rest =
        let here : x ≡ l = cc there in sym (ap (λ (z : LinkRow). z.from) here) ∙ eqb-true x.from system is
    by true is (suc k) there rest = rest k there

module _ (laws : Laws) (t : Rows) (lawful : IsLawfulSwitch t) (admitted : IsAdmitted t) (sender : ℕ)
    (is_own : sender < t.own) (s : SystemRow) (given : List (List ℕ)) (events : List Event)
    (sent : HasSent t sender s given events) where
  abbrev pub links : List LinkRow
  links = links_from t.links sender

  abbrev pub h : SenderHistory
  h = calls_in s links events 1200000000000000

  pub is_system : IsSystem t.profile s
  is_system = AllByRecursion-slice_get (IsSystem t.profile) t.systems sender s lawful.systems.each sent.stands

  said : AllByRecursion (IsSaid most_lines) (submissions_in events)
  said = subst (λ (z : List Handed). AllByRecursion (IsSaid most_lines) z)
      (sym sent.are_events.submissions_are) (all-said given (length given) sent.sound)

  is_link : (i : ℕ) (l : LinkRow) → slice_get links i ≡ Some l → IsLink (length t.systems) l
  is_link i l at =
      let r = slice_get-filter (λ x. nat_eq x.from sender) t.links i l at in
      let from = from-of t.links sender i l at in
      link-alone (length t.systems) l
      (AllByRecursion-slice_get (IsLinkUpTo jitter_from_any (length t.systems)) t.links r.0 l lawful.links.each r.1)
      (lawful.sent r.0 l r.1 (omega (arith, from, is_own)))

  good : (i : ℕ) (l : LinkRow) → slice_get links i ≡ Some l → AllByRecursion (IsGood l) (taken_by l.vl events)
  good i l at = taken-good most_lines s links (distinct_links t.links sender lawful.links.identifiers)
      events sent.are_events.follow said i l at

  own-is : (i : ℕ) (l : LinkRow) → slice_get links i ≡ Some l → own_submissions h.taken i ≡ taken_by l.vl events
  own-is i l at = own-taken (λ vl. taken_by vl events) links i l at

  own-good : (i : ℕ) (l : LinkRow) → slice_get links i ≡ Some l → AllByRecursion (IsGood l) (own_submissions h.taken i)
  own-good i l at = subst (λ (z : List Submission). AllByRecursion (IsGood l) z) (sym (own-is i l at)) (good i l at)

  all-sent : HasSentAll t sender h
  all-sent = record {
    lawful = lawful;
    admitted = admitted;
    own = is_own;
    row = sent.stands;
    links = refl;
    fit = λ i l at. all-imply (IsGood l) (IsFor l) (own_submissions h.taken i) (λ m g. g.for) (own-good i l at);
    messages = λ i l at. all-imply (IsGood l) (λ m. IsMessage m.message) (own_submissions h.taken i)
        (λ m g. g.is_message) (own-good i l at);
    done = sent.are_done;
  }

  pub build : AllByRecursion (IsBuildable s) (turns_in events)
  build = all-imply (IsOfTaken h) (IsBuildable s) (turns_in events)
      (turn-buildable (length t.systems) t.profile s h is_system is_link own-good)
      (laws.frames t sender h all-sent)

  pub can : AllByRecursion (CanBeRead s) (turns_in events)
  can = can-be-read laws.computed s (turns_in events) build sent.early

  pub fine : AllByRecursion (IsFine s) events
  fine = all-fine s events can said

  -- what one link of the system sent is a lawful stream of what it took
  abbrev pub IsReady : LinkRow → Type 0
  IsReady l = (i : ℕ) × (k : EmitsAll h i l (stream_of s l.vl (turns_in events)))
      × AreReleasesOfAll l (taken_by l.vl events) (own i k.emits.released)

  pub ready : (place : ℕ) (l : LinkRow) → slice_get t.links place ≡ Some l → l.from ≡ sender → IsReady l
  ready place l link from =
      let among = place-among t.links sender place l link from in
      let i = among.0 in
      let stream = stream_of s l.vl (turns_in events) in
      let k : EmitsAll h i l stream =
      laws.sent t sender h i l stream all-sent among.1 (laws.stream s l.vl (turns_in events) build) in
      let rs = own i k.emits.released in
      let all : AreReleasesOfAll l (taken_by l.vl events) rs =
      subst (λ (z : List Submission). AreReleasesOfAll l z rs) (own-is i l among.1) k.all in
      (i, k, all)
