-- What a link has emitted is a lawful stream of its sent list.
use Rattle.std.proofs.Common.{◌≡◌, ◌≢◌, ℕ, ◌+◌, ◌<◌, ◌≤◌, ◌==◌, Bool, true, false, List, [], ◌∷◌}
use Rattle.std.proofs.Common.{◌++◌, length, Option, Some, None, ◌⊎◌, inl, inr, refl, sym, ap, subst}
use Rattle.std.proofs.Common.{arith, ◌∙◌, suc}
use Rattle.std.specs.Prelude.{All}
use Rattle.std.specs.List.{slice_get}
use Rattle.std.specs.Option.{option_map}
use Rattle.std.proofs.lemmas.Option.{slice_get_within}
use Rattle.std.proofs.lemmas.Bool.{cases_eq}
use Rattle.std.proofs.lemmas.List.{length_push}
use Rattle.afdx_frame.specs.Regulation.{bag, jitter}
use Rattle.afdx_frame.proofs.ListLemmas.{slice_get-push_cases}
use Rattle.afdx_config.specs.Admission.{byte_ns}
use Rattle.afdx_config.specs.Flows.{regulation_of_link}
use Rattle.afdx_config.specs.Lawful.{IsLink, AreDistinct}
use Rattle.afdx_config.specs.LawfulStream.{Sending, IsSent, IsLawfulStream}
use Rattle.afdx_config.specs.Numbers.{after_steps}
use Rattle.afdx_config.specs.Rows.{SystemRow, LinkRow}
use Rattle.afdx_config.specs.SentList.{Message, Sent, sent_at, CanBeSent}
use Rattle.afdx_law_bounds.specs.Sender.{SenderIsInTime, one_of_each}
use Rattle.afdx_law_bounds.proofs.ListLemmas.{get_all}
use Rattle.afdx_port.specs.Schedule.{Entry, Turn, AreTurns}
use Rattle.afdx_send.specs.declared.sender.Emission.{Emission}
use Rattle.afdx_send.specs.declared.sender_state.SenderState.{SenderState}
use Rattle.afdx_send.specs.Emissions.{LinkRelease, own, AreAllReleases, released_frame, entry_for}
use Rattle.afdx_send.specs.Emissions.{entries_of, IsSending, AreSendings, with_sending, sent_list}
use Rattle.afdx_send.specs.Emissions.{times_of}
use Rattle.afdx_send.specs.Frames.{Frame}
use Rattle.afdx_send.specs.Laws.{EachIsInTime, EmissionsAreInTime, EmitsLawfully, EmissionsAreLawful}
use Rattle.afdx_send.specs.Laws.{GoesOn}
use Rattle.afdx_send.specs.Releases.{Submission, Release, earliest_after}
use Rattle.afdx_send.specs.Sender.{SenderHistory, AreSent, flows_of, Gives, with_emission}
use Rattle.afdx_send.specs.Sender.{sending_of}
use Rattle.afdx_send.proofs.EmitLemmas.{AreOurs, are_ours, is_slot}
use Rattle.afdx_send.proofs.FullLemmas.{AllFit}
use Rattle.afdx_send.proofs.KeptLemmas.{all_fit}
use Rattle.afdx_send.proofs.LawLemmas.{TakenAreTurns, emitted_are, emitted_in_time, Pairs, paired}
use Rattle.afdx_send.proofs.MessageLemmas.{AllMessages, all_messages, can_be_sent}
use Rattle.afdx_send.proofs.NewLemmas.{one_each}
use Rattle.afdx_send.proofs.NextLemmas.{all_first}
use Rattle.afdx_port.proofs.TurnLemmas.{eqb-same, eqb-other}
use Rattle.afdx_send.proofs.OwnLemmas.{own_mine, own_other}

moments_length : (rs : List Release) → length (times_of rs) ≡ length rs
moments_length [] = refl
moments_length (r ∷ rs) = length_push (times_of rs) r.time ∙ (let e = moments_length rs in omega arith)

sent_length : (rs : List Release) → length (sent_list rs) ≡ length rs
sent_length [] = refl
sent_length (r ∷ rs) = length_push (sent_list rs) r.submission.message ∙ (let e = sent_length rs in omega arith)

-- the last moment is a gap before the next release
last_moment : (b t k r : ℕ) (rs : List Release) → earliest_after b rs ≤ t
    → slice_get (times_of rs) k ≡ Some r → k + 1 ≡ length (times_of rs) → r + b ≤ t
last_moment b t k r [] le h e = absurd (cc h)
last_moment b t k r (q ∷ rs) le h e = elim (slice_get-push_cases (times_of rs) q.time k r h) [
  | inl old ↦ absurd (let w = slice_get_within (times_of rs) k r old in let n =
      length_push (times_of rs) q.time in omega arith)
  | inr new ↦ (let s : r ≡ q.time = new.1 in omega arith)
]

-- a lawful stream whose moments are the releases, with each frame sent in this time after its own
pub record Lawful (s : SystemRow) (l : LinkRow) (span : ℕ) (rs : List Release)
    (stream : List Sending) : Type 0 where
  pub lawful : IsLawfulStream s l (sent_list rs) stream
  pub moments : lawful.moments ≡ times_of rs
  pub in_time : (k r : ℕ) (y : Sending) → slice_get (times_of rs) k ≡ Some r
      → slice_get stream k ≡ Some y → y.time ≤ r + span

none_yet : (s : SystemRow) (l : LinkRow) (span : ℕ) → Lawful s l span [] []
none_yet s l span = record {
  lawful = record {
    moments = [];
    moment_count = refl;
    message_count = refl;
    sendable = λ k m h. absurd (cc h);
    apart = λ k r later h g. absurd (cc h);
    shaped = λ k r y h g. absurd (cc h);
    sent = λ k x y h g. absurd (cc g);
  };
  moments = refl;
  in_time = λ k r y h g. absurd (cc h);
}

sent_same : (ms : List Message) (m : Message) (k : ℕ) (x : Sent) → sent_at (ms ++ m ∷ []) k ≡ Some x
    → (sent_at ms k ≡ Some x) ⊎ ((k ≡ length ms) × (x ≡ record { message = m; number = after_steps k 0 }))
sent_same ms m k x h = by (slice_get (ms ++ m ∷ []) k) refl h
  where
    by : (o : Option Message) → slice_get (ms ++ m ∷ []) k ≡ o
        → option_map (λ d. record { message = d; number = after_steps k 0 }) o ≡ Some x
        → (sent_at ms k ≡ Some x) ⊎ ((k ≡ length ms)
        × (x ≡ record { message = m; number = after_steps k 0 }))
    by None e g = absurd (cc g)
    by (Some d) e g = elim (slice_get-push_cases ms m k d e) [
      | inl old ↦ inl (ap (λ o. option_map {T = Message} {U = Sent}
          (λ d. record { message = d; number = after_steps k 0 }) o) old ∙ g)
      | inr new ↦ inr (
        new.0,
        (let f : record { message = d; number = after_steps k 0 } ≡ x =
            cc g in sym f ∙ ap (λ z. record { message = z; number = after_steps k 0 }) new.1),
      )
    ]

push_sending : (s : SystemRow) (l : LinkRow) (span : ℕ) (r : Release) (rs : List Release)
    (stream : List Sending) (y : Sending) → Lawful s l span rs stream
    → earliest_after (bag (regulation_of_link l)) rs ≤ r.time →
    r.time ≤ y.time → y.time ≤ r.time + span → span ≤ jitter (regulation_of_link l)
    → CanBeSent s l r.submission.message
    → IsSent s l (record { message = r.submission.message; number = after_steps (length rs) 0 })
    y → Lawful s l span (r ∷ rs) (stream ++ y ∷ [])
push_sending s l span r rs stream y a gap low soon most can sent =
    let n : length (times_of rs) ≡ length rs = moments_length rs in
    let ms : length (sent_list rs) ≡ length rs = sent_length rs in
    let count : length rs ≡ length stream = (let c = a.lawful.message_count in omega arith) in
    record {
      lawful = record {
        moments = times_of rs ++ r.time ∷ [];
        moment_count = length_push (times_of rs) r.time ∙ (let e = length_push stream y in omega arith);
        message_count = length_push (sent_list rs) r.submission.message ∙ (let e = length_push stream y in omega arith);
        sendable = λ k m h. elim (slice_get-push_cases (sent_list rs) r.submission.message k m h) [
          | inl old ↦ a.lawful.sendable k m old
          | inr new ↦ subst (CanBeSent s l) (sym new.1) can
        ];
        apart = λ k q later h g. elim (slice_get-push_cases (times_of rs) r.time (k + 1) later g) [
          | inl old ↦ elim (slice_get-push_cases (times_of rs) r.time k q h) [
            | inl first ↦ a.lawful.apart k q later (ap (λ z. slice_get z k) a.moments ∙ first)
                (ap (λ z. slice_get z (k + 1)) a.moments ∙ old)
            | inr last ↦ absurd (let w = slice_get_within (times_of rs) (k + 1) later old in
                let e = last.0 in omega arith)
          ]
          | inr new ↦ elim (slice_get-push_cases (times_of rs) r.time k q h) [
            | inl first ↦ (let b = last_moment (bag (regulation_of_link l)) r.time k q rs gap first new.0 in
                let e : later ≡ r.time = new.1 in omega arith)
            | inr last ↦ absurd (let e = last.0 in let f = new.0 in omega arith)
          ]
        ];
        shaped = λ k q z h g. elim (slice_get-push_cases (times_of rs) r.time k q h) [
          | inl first ↦ elim (slice_get-push_cases stream y k z g) [
            | inl old ↦ a.lawful.shaped k q z (ap (λ z. slice_get z k) a.moments ∙ first) old
            | inr new ↦ absurd (let w = slice_get_within (times_of rs) k q first in let e = new.0 in omega arith)
          ]
          | inr last ↦ elim (slice_get-push_cases stream y k z g) [
            | inl old ↦ absurd (let w = slice_get_within stream k z old in let e = last.0 in omega arith)
            | inr new ↦ (let e : q ≡ r.time = last.1 in let f : z.time ≡ y.time =
                ap (λ v. v.time) new.1 in (omega arith, omega arith))
          ]
        ];
        sent = λ k x z h g. elim (sent_same (sent_list rs) r.submission.message k x h) [
          | inl first ↦ elim (slice_get-push_cases stream y k z g) [
            | inl old ↦ a.lawful.sent k x z first old
            | inr new ↦ absurd (let w = sent_within (sent_list rs) k x first in let e = new.0 in omega arith)
          ]
          | inr last ↦ elim (slice_get-push_cases stream y k z g) [
            | inl old ↦ absurd (let w = slice_get_within stream k z old in let e = last.0 in omega arith)
            | inr new ↦ (let at : k ≡ length rs = (let e = last.0 in omega arith) in
                let is : x ≡ record {
                  message = r.submission.message;
                  number = after_steps (length rs) 0;
                } = last.1
                ∙ ap (λ i. record { message = r.submission.message; number = after_steps i 0 }) at in
                subst (λ (v : Sent). IsSent s l v z) (sym is)
                (subst (λ (v : Sending). IsSent s l
                (record { message = r.submission.message; number = after_steps (length rs) 0 })
                v) (sym new.1) sent))
          ]
        ];
      };
      moments = refl;
      in_time = λ k q z h g. elim (slice_get-push_cases (times_of rs) r.time k q h) [
        | inl first ↦ elim (slice_get-push_cases stream y k z g) [
          | inl old ↦ a.in_time k q z first old
          | inr new ↦ absurd (let w = slice_get_within (times_of rs) k q first in let e = new.0 in omega arith)
        ]
        | inr last ↦ elim (slice_get-push_cases stream y k z g) [
          | inl old ↦ absurd (let w = slice_get_within stream k z old in let e = last.0 in omega arith)
          | inr new ↦ (let e : q ≡ r.time = last.1 in let f : z.time ≡ y.time =
              ap (λ v. v.time) new.1 in omega arith)
        ]
      ];
    }
  where
    sent_within : (ms : List Message) (k : ℕ) (x : Sent) → sent_at ms k ≡ Some x → k < length ms
    sent_within ms k x h = by (slice_get ms k) refl h
      where
        by : (o : Option Message) → slice_get ms k ≡ o
            → option_map (λ d. record { message = d; number = after_steps k 0 }) o ≡ Some x
            → k < length ms
        by None e g = absurd (cc g)
        by (Some d) e g = slice_get_within ms k d e

-- a frame that was sent carries a message of the sent list
is_sent : (s : SystemRow) (l : LinkRow) (n : ℕ) (x : LinkRelease) (k end : ℕ) (y : Sending)
    → x.row ≡ l → IsLink n l → length x.release.submission.message.payload + 47 ≤ l.lmax
    → IsSending s.id s.partition end (entry_for x k).item y →
    IsSent s l (record { message = x.release.submission.message; number = after_steps k 0 }) y
is_sent s l n x k end y row lawful fits is =
    let m = x.release.submission.message in
    let P : LinkRow → Type 0 = λ z. IsSending s.id s.partition end (released_frame z k x.release) y in
    let own : IsSending s.id s.partition end (released_frame l k x.release) y = subst P row is in
    let a = own.a_long in
    let b = own.b_long in
    let low = lawful.lmin.0 in
    let high = lawful.lmax.0 in
    record { a = own.a; b = own.b; a_length = (omega arith, omega arith); b_length = (omega arith, omega arith) }

-- the emissions of one link
pub stream_of : (s : SystemRow) (links : List LinkRow) (taken : List (List Submission)) (b span : ℕ)
    (es : List (Entry Frame)) (place : ℕ) (l : LinkRow) → AreSent s links → AllFit links taken
    → AllMessages links taken → slice_get links place ≡ Some l → span ≤ jitter (regulation_of_link l) →
    (turns : List (Turn Frame)) (xs : List LinkRelease) (stream : List Sending) → AreOurs es
    → AreTurns b es turns → All (λ t. t.end ≤ t.entry.time + span) turns
    → AreAllReleases links taken xs → Pairs turns xs → AreSendings s l.vl turns stream →
    Lawful s l span (own place xs) stream
unfolding Pairs AreDistinct
stream_of s links taken b span es place l are fit good row most [] [] stream ours turned soon h p sends =
    subst (λ (z : List Sending). Lawful s l span [] z) (sym sends) (none_yet s l span)
stream_of s links taken b span es place l are fit good row most [] (x ∷ xs) stream ours turned soon h p sends = absurd p
stream_of s links taken b span es place l are fit good row most (t ∷ ts) [] stream ours turned soon h p sends = absurd p
stream_of s links taken b span es place l are fit good row most (t ∷ ts) (x ∷ xs) stream ours turned soon h p sends =
    by (cases_eq place x.place)
    (λ rest sent. stream_of s links taken b span es place l are fit good row most ts xs rest ours
    turned.1 (tail ts) h.1 p.1 sent)
  where
    tail : (us : List (Turn Frame)) → All (λ t. t.end ≤ t.entry.time + span) ts
    tail us = λ k d lt. soon (suc k) d (omega (arith, lt))

    item : t.entry.item ≡ (entry_for x (length (own x.place xs))).item
    item = ap (λ e. e.item) p.0

    mine : place ≡ x.place → x.row ≡ l
    mine e = (let both : Some x.row ≡ Some l = sym h.0.stands
        ∙ subst (λ (z : ℕ). slice_get links z ≡ Some l) e row in cc both)

    one : place ≡ x.place → (rest : List Sending) (y : Sending)
        → IsSending s.id s.partition t.end t.entry.item y → Lawful s l span (own place xs) rest
        → Lawful s l span (own place (x ∷ xs)) (rest ++ y ∷ [])
    one e rest y is lawful =
        let k : ℕ = length (own x.place xs) in
        let same = mine e in
        let link = are.lawful place l row in
        let is' : IsSending s.id s.partition t.end (entry_for x k).item y =
        subst (λ (f : Frame). IsSending s.id s.partition t.end f y) item is in
        let fits : length x.release.submission.message.payload + 47 ≤ l.lmax =
        subst (λ (z : LinkRow). length x.release.submission.message.payload + 47 ≤ z.lmax) same
        (fit x.place x.release.place x.row x.release.submission h.0.stands h.0.next.own.stands) in
        let is_message = good x.place x.release.place x.row x.release.submission h.0.stands h.0.next.own.stands in
        let can = can_be_sent are.system.0 link.0 s l x.release.submission.message are.system.1
        link.1 is_message fits in
        let sent = is_sent s l link.0 x k t.end y same link.1 fits is' in
        let sent' : IsSent s l (record {
          message = x.release.submission.message;
          number = after_steps (length (own place xs)) 0;
        }) y =
        subst (λ (z : ℕ). IsSent s l
        (record {
          message = x.release.submission.message;
          number = after_steps (length (own z xs)) 0;
        }) y) (sym e) sent in
        let gap : earliest_after (bag (regulation_of_link l)) (own place xs) ≤ x.release.time =
        subst (λ (z : LinkRow). earliest_after (bag (regulation_of_link z)) (own place xs) ≤ x.release.time) same
        (subst (λ (z : ℕ). earliest_after (bag (regulation_of_link x.row)) (own z xs)
        ≤ x.release.time) (sym e) h.0.next.after) in
        let slot = is_slot b es ts t ours turned.0 in
        let come = turned.0.come in
        let at : t.entry.time ≡ x.release.time = ap (λ d. d.time) p.0 in
        let end = slot.lasts in
        let last : t.end ≤ t.entry.time + span = get_all (λ t. t.end ≤ t.entry.time + span) (t ∷ ts) 0 t soon refl in
        let time : y.time ≡ t.end = is.time in
        subst (λ (z : List Release). Lawful s l span z (rest ++ y ∷ []))
        (subst (λ (z : ℕ). x.release ∷ own z xs ≡ own z (x ∷ xs)) (sym e) (sym (own_mine x xs)))
        (push_sending s l span x.release (own place xs) rest y lawful gap (omega arith) (omega arith) most can sent')

    vl_same : place ≡ x.place → (t.entry.item.vl == l.vl) ≡ true
    vl_same e = eqb-same t.entry.item.vl l.vl (ap (λ f. f.vl) item ∙ ap (λ z. z.vl) (mine e))

    vl_other : place ≢ x.place → (t.entry.item.vl == l.vl) ≡ false
    vl_other ne = eqb-other t.entry.item.vl l.vl (λ e. ne (same_place (sym (sym (ap (λ f. f.vl) item) ∙ e))))
      where
        same_place : l.vl ≡ x.row.vl → place ≡ x.place
        same_place e = are.distinct place x.place l x.row row h.0.stands e

    by : (place ≡ x.place) ⊎ (place ≢ x.place)
        → ((rest : List Sending) → AreSendings s l.vl ts rest → Lawful s l span (own place xs) rest)
        → Lawful s l span (own place (x ∷ xs)) stream
    by (inl e) rec =
        let k : with_sending s true (AreSendings s l.vl ts) t stream =
        subst (λ (c : Bool). with_sending s c (AreSendings s l.vl ts) t stream) (vl_same e) sends in
        subst (λ (z : List Sending). Lawful s l span (own place (x ∷ xs)) z) (sym k.2) (one e k.0 k.1 k.3 (rec k.0 k.4))
    by (inr ne) rec =
        let k : with_sending s false (AreSendings s l.vl ts) t stream =
        subst (λ (c : Bool). with_sending s c (AreSendings s l.vl ts) t stream) (vl_other ne) sends in
        subst (λ (z : List Release). Lawful s l span z stream) (sym (own_other place x xs ne)) (rec stream k)

-- what was sent so has been emitted lawfully
abbrev pub emits_lawfully : (h : SenderHistory) (place : ℕ) (l : LinkRow) (released : List LinkRelease)
    (stream : List Sending) → AreAllReleases h.links h.taken released
    → Lawful h.system l (one_of_each (byte_ns h.system) (flows_of h.system h.links))
    (own place released) stream → EmitsLawfully h place l stream
emits_lawfully h place l released stream are a =
    let sum = one_each h.system h.links h.links in
    record {
      released = released;
      are_releases = are;
      lawful = a.lawful;
      at_releases = a.moments;
      in_time = λ k r y at here. (let soon = a.in_time k r y
          (subst (λ (z : List ℕ). slice_get z k ≡ Some r) a.moments at) here in
          omega (arith, soon, sum));
    }

-- ---- the laws

-- an emission in time, by the sum of admission
in-sum : (h : SenderHistory) → All (λ s. s.end
    ≤ s.entry.time + one_of_each (byte_ns h.system) (flows_of h.system h.links)) h.emitted → EachIsInTime h
in-sum h soon k turn lt = let sum = one_each h.system h.links h.links in let one = soon k turn lt in
    omega (arith, one, sum)

pub are_in_time : TakenAreTurns → SenderIsInTime Frame → EmissionsAreInTime
are_in_time law in_time w h st = in-sum h (emitted_in_time w h law in_time st)

pub are_lawful : TakenAreTurns → SenderIsInTime Frame → EmissionsAreLawful
are_lawful law in_time w h st place l stream row sends =
    let are = emitted_are w h law st in
    let p = paired h.links h.taken (byte_ns h.system) st.released h.emitted st.are_releases are in
    let first = all_first h.links h.taken p.later p.first
    (subst (λ (z : List LinkRelease). AreAllReleases h.links h.taken z) p.is st.are_releases) in
    let a = stream_of h.system h.links h.taken (byte_ns h.system)
    (one_of_each (byte_ns h.system) (flows_of h.system h.links)) (entries_of st.released) place
    l st.are_sent (all_fit w h st) (all_messages w h st) row (st.are_sent.jitters place l row)
    h.emitted p.first stream (are_ours st.released) are (emitted_in_time w h law in_time st) first p.pairs sends in
    emits_lawfully h place l p.first stream first a

-- so is what goes on with one more emission
pub goes_on : (w : SenderState) (h : SenderHistory) (until : ℕ) (e : Emission)
    → EmissionsAreLawful → Gives h until e w → GoesOn h e
goes_on w h until e law is place l stream row named sends =
    let all = law w (with_emission h is.slot until) is.stands place l (stream ++ sending_of e ∷ []) row
    (subst (λ (b : Bool). with_sending h.system b (AreSendings h.system l.vl h.emitted) is.slot
    (stream ++ sending_of e ∷ []))
    (sym (eqb-same is.slot.entry.item.vl l.vl (sym is.vl ∙ named)))
    (stream, sending_of e, refl, is.sending, sends)) in
    record {
      released = all.released;
      are_releases = all.are_releases;
      lawful = all.lawful;
      at_releases = all.at_releases;
      in_time = all.in_time;
    }
