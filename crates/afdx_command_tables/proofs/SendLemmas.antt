-- What a run that sends has told, one event more, and what it answers then.
use Rattle.std.proofs.Common.{◌≡◌, ℕ, zero, suc, ◌+◌, ◌<◌, ◌≤◌, ◌==◌, true, false, if◌then◌else◌}
use Rattle.std.proofs.Common.{List, [], ◌∷◌, ◌++◌, map, length, Option, Some, None, refl, ap, sym}
use Rattle.std.proofs.Common.{◌∙◌, subst, arith, replicate, slice_set, slice_index_or}
use Rattle.std.specs.Prelude.{IfSome, IfNone, Result}
use Rattle.std.specs.List.{slice_get}
use Rattle.std.specs.Io.KnownBytes.{Appends}
use Rattle.std.proofs.KnownBytes.{Appends-trans, Appends-nil}
use Rattle.afdx_config.specs.Admission.{links_from}
use Rattle.afdx_config.specs.Lawful.{AreDistinct}
use Rattle.afdx_config.specs.LawfulStream.{Sending}
use Rattle.afdx_config.specs.Rows.{SystemRow, LinkRow, Rows}
use Rattle.afdx_input_lines.specs.Calls.{AppendsFront}
use Rattle.afdx_input_lines.specs.Lines.{lines_of}
use Rattle.afdx_input_lines.specs.declared.fault.RunFault.{RunFault}
use Rattle.afdx_port.proofs.TurnLemmas.{eqb-same, eqb-other}
use Rattle.afdx_law_promises.specs.Sent.{sent_in}
use Rattle.afdx_send.specs.Releases as send
use Rattle.afdx_send.specs.Sender.{StandsFor, Gives, IsTaken, IsRefused, LinkTakes, AreAllEmitted, no_calls}
use Rattle.afdx_send.specs.Sender.{at, with_submission, with_emission, sending_of, last_time}
use Rattle.afdx_send.specs.declared.fault.SendFault.{SendFault}
use Rattle.afdx_send.specs.declared.fault.SendFault.TheVariants.{NotMyLink, NoSuchSub, Empty}
use Rattle.afdx_send.specs.declared.fault.SendFault.TheVariants.{TooLarge, QueueFull, Memory}
use Rattle.afdx_send.specs.declared.sender.Emission.{Emission}
use Rattle.afdx_send.specs.declared.sender_state.SenderState.{SenderState}
use Rattle.afdx_command_tables.specs.Counts.{no_counts, with_lines}
use Rattle.afdx_input_sources.specs.Listed.{Handed, submissions}
use Rattle.afdx_command_tables.specs.sending.Events.{message_of, Event, Emitted, Submitted}
use Rattle.afdx_command_tables.specs.sending.Events.{submissions_in, turns_in, taken_by, calls_in, EachFollows}
use Rattle.afdx_command_tables.specs.sending.Events.{AreDone}
use Rattle.afdx_command_tables.specs.sending.Text.{emission_lines, event_lines, send_text_at, with_event, send_counts}
use Rattle.afdx_command_tables.specs.sending.Sent.{Source, source_of, WritesSoFar, WritesSome, WritesEvents, WritesAll, Answers}
use Rattle.afdx_command_tables.specs.sending.Command.{Sends}
use Rattle.afdx_command_tables.specs.Senders.{SystemThere, TakesSender, sender_of, sender_taken, system_among, system_there}
use Rattle.afdx_command_tables.specs.declared.sender.SenderTaken.{SenderTaken}
use Rattle.afdx_config.specs.Files.{IsLawfulFile}
use Rattle.afdx_config.specs.Lawful.{IsLawfulSwitch}
use Rattle.std.specs.List.{AllByRecursion}
use Rattle.afdx_config.specs.Switches.{NamedRows, own_named, system_of}
use Rattle.afdx_config.specs.declared.describing.Described.{Described}
use Rattle.afdx_config.specs.declared.describing.Described.TheVariants.{One, Several}
use Rattle.std.specs.Prelude.{option_map, option_and_then, string_bytes}
use Rattle.afdx_command_tables.specs.declared.sending.run.SwitchPort.{SwitchPort}
use Rattle.afdx_command_tables.specs.sending.Progress.{HasTold, AreTold, ToldUntil, TellsSubmission, HasRoom}
use Rattle.afdx_command_tables.specs.declared.summary.Summary.{Summary}
use Rattle.afdx_input_sources.proofs.RunLemmas.{IsDone}
use Rattle.afdx_text.proofs.OutputLemmas.{whole_front as front-whole, front-more}

pub text-none : (switch : List ℕ) (s : SystemRow) → send_text_at switch s [] ≡ []
unfolding send_text_at
text-none switch s = refl

pub text-more : (switch : List ℕ) (s : SystemRow) (e : Event) (before : List Event)
    → send_text_at switch s (e ∷ before) ≡ send_text_at switch s before ++ event_lines switch s e
unfolding send_text_at
text-more switch s e before = refl

counts-none : send_counts [] ≡ no_counts
unfolding send_counts
counts-none = refl

pub counts-more : (e : Event) (before : List Event) → send_counts (e ∷ before) ≡ with_event (send_counts before) e
unfolding send_counts
counts-more e before = refl

-- one more is counted
abbrev pub one_emitted : Summary → Summary
one_emitted c = record c { departed = c.departed + 1 }

abbrev pub one_taken : Summary → Summary
one_taken c = record c { accepted = c.accepted + 1 }

abbrev pub one_refused : Summary → Summary
one_refused c = record c { dropped = c.dropped + 1 }

-- ---- what the links took

abbrev the_empty : List send.Submission
the_empty = []

-- a message more for the link with this identifier
abbrev more_of : ℕ → send.Submission → ℕ → List send.Submission → List send.Submission
more_of vl m own taken = if vl == own then taken ++ m ∷ [] else taken

no_link : (f : ℕ → List send.Submission) (vl : ℕ) (m : send.Submission) (links : List LinkRow)
    → ((i : ℕ) (l : LinkRow) → slice_get links i ≡ Some l → l.vl ≡ vl → ⊥) →
    map (λ l. more_of vl m l.vl (f l.vl)) links ≡ map (λ l. f l.vl) links
no_link f vl m [] none = refl
no_link f vl m (l ∷ links) none =
    let other : (vl == l.vl) ≡ false = eqb-other vl l.vl (λ e. none 0 l refl (sym e)) in
    let rest = no_link f vl m links (λ i. none (suc i)) in
    ap (λ b. (if b then f l.vl ++ m ∷ [] else f l.vl) ∷ map (λ l. more_of vl m l.vl (f l.vl)) links)
    other ∙ ap (λ z. f l.vl ∷ z) rest

abbrev set_at : List (List send.Submission) → ℕ → send.Submission → List (List send.Submission)
set_at lists place m = slice_set lists place (slice_index_or lists place [] ++ m ∷ [])

-- only the link at its place takes it
one_link : (f : ℕ → List send.Submission) (vl : ℕ) (m : send.Submission) (links : List LinkRow)
    (place : ℕ) (l : LinkRow) → AreDistinct (λ l. l.vl) links → slice_get links place ≡ Some l
    → l.vl ≡ vl →
    map (λ l. more_of vl m l.vl (f l.vl)) links ≡ set_at (map (λ l. f l.vl) links) place m
unfolding AreDistinct
one_link f vl m [] place l distinct h e = absurd (cc h)
one_link f vl m (x ∷ links) zero l distinct h e =
    let here : x ≡ l = cc h in
    let same : (vl == x.vl) ≡ true = eqb-same vl x.vl (sym (ap (λ z. z.vl) here ∙ e)) in
    let none : (i : ℕ) (y : LinkRow) → slice_get links i ≡ Some y → y.vl ≡ vl → ⊥ =
    λ i y stands is. (let e : 0 ≡ suc i =
    distinct 0 (suc i) x y refl stands (ap (λ z. z.vl) here ∙ e ∙ sym is) in
    absurd (omega (arith, e))) in
    ap (λ b. (if b then f x.vl ++ m ∷ [] else f x.vl) ∷ map (λ l. more_of vl m l.vl (f l.vl)) links)
    same ∙ ap (λ z. (f x.vl ++ m ∷ []) ∷ z) (no_link f vl m links none)
one_link f vl m (x ∷ links) (suc place) l distinct h e =
    let other : (vl == x.vl) ≡ false =
    eqb-other vl x.vl (λ is. (let k : 0 ≡ suc place =
    distinct 0 (suc place) x l refl h (sym is ∙ sym e) in absurd (omega (arith, k)))) in
    let rest = one_link f vl m links place l
    (λ i j a b ha hb is. (let k : suc i ≡ suc j = distinct (suc i) (suc j) a b ha hb is in
    omega (arith, k))) h e in
    ap (λ b. (if b then f x.vl ++ m ∷ [] else f x.vl) ∷ map (λ l. more_of vl m l.vl (f l.vl)) links)
    other ∙ ap (λ z. f x.vl ∷ z) rest

-- the sender's calls after a message that was taken
pub calls-taken : (s : Source) (w : SenderState) (before : List Event) (x : Handed) (time place : ℕ)
    (l : LinkRow) → AreDistinct (λ l. l.vl) s.links → slice_get s.links place ≡ Some l
    → l.vl ≡ x.submission.vl →
    StandsFor w (with_submission (calls_in s.row s.links before time) place
    (message_of x.submission)) → StandsFor w
    (calls_in s.row s.links (Submitted x None ∷ before) x.submission.time)
calls-taken s w before x time place l distinct h e stands =
    subst (λ (z : List (List send.Submission)).
    StandsFor w (record {
      system = s.row;
      links = s.links;
      taken = z;
      emitted = turns_in before;
      time = x.submission.time;
    }))
    (sym (one_link (λ vl. taken_by vl before) x.submission.vl (message_of x.submission) s.links
    place l distinct h e)) stands

-- the time of the last call says nothing of what is admitted and what is refused
pub takes-at : (s : Source) (before : List Event) (time later t place vl sub n : ℕ)
    → LinkTakes (calls_in s.row s.links before time) t place vl sub n
    → LinkTakes (calls_in s.row s.links before later) t place vl sub n
takes-at s before time later t place vl sub n k =
    record {
      row = k.row;
      link = k.link;
      sub = k.sub;
      some = k.some;
      fits = k.fits;
      count = k.count;
      unreleased = k.unreleased;
      room = k.room;
    }

pub refused-at : (s : Source) (before : List Event) (time later t vl sub n : ℕ) (fault : SendFault)
    → IsRefused (calls_in s.row s.links before time) t vl sub n fault
    → IsRefused (calls_in s.row s.links before later) t vl sub n fault
refused-at s before time later t vl sub n NotMyLink h = h
refused-at s before time later t vl sub n NoSuchSub h = h
refused-at s before time later t vl sub n Empty h = h
refused-at s before time later t vl sub n TooLarge h = h
refused-at s before time later t vl sub n QueueFull h = h
refused-at s before time later t vl sub n Memory h = (h.0, takes-at s before time later t h.0 vl sub n h.1)

pub tells-taken : (s : Source) (w after : SenderState) (counts counts_after : Summary)
    (before : List Event) (x : Handed) (time place : ℕ)
    → StandsFor w (calls_in s.row s.links before time) →
    IsTaken (calls_in s.row s.links before time) place x.submission.vl (message_of x.submission)
    → StandsFor after (with_submission (calls_in s.row s.links before time) place
    (message_of x.submission)) →
    counts ≡ send_counts before → counts_after ≡ one_taken counts → TellsSubmission s after counts_after before x None
tells-taken s w after counts counts_after before x time place st k stands counted more = record {
  stands = calls-taken s after before x time place k.row st.are_sent.distinct k.link.0 k.link.1 stands;
  answered = (
    place,
    takes-at s before time x.submission.time x.submission.time place x.submission.vl
        x.submission.sub (length x.submission.payload) k,
  );
  counted = more ∙ ap one_taken counted ∙ sym (counts-more (Submitted x None) before);
}

pub tells-refused : (s : Source) (w after : SenderState) (counts counts_after : Summary)
    (before : List Event) (x : Handed) (time : ℕ) (fault : SendFault)
    → StandsFor after (at (calls_in s.row s.links before time) x.submission.time) →
    (fault ≡ Memory → ⊥) → IsRefused (calls_in s.row s.links before time) x.submission.time
    x.submission.vl x.submission.sub (length x.submission.payload) fault →
    counts ≡ send_counts before → counts_after ≡ one_refused counts
    → TellsSubmission s after counts_after before x (Some fault)
tells-refused s w after counts counts_after before x time fault stands other refused counted more = record {
  stands = stands;
  answered = (
    other,
    refused-at s before time x.submission.time x.submission.time x.submission.vl
        x.submission.sub (length x.submission.payload) fault refused,
  );
  counted = more ∙ ap one_refused counted ∙ sym (counts-more (Submitted x (Some fault)) before);
}

pub done-at : (s : Source) (events : List Event) (time : ℕ)
    → AreAllEmitted (calls_in s.row s.links events time) → AreDone s.row s.links events
done-at s events time k =
    record {
      released = k.released;
      are_releases = k.are_releases;
      all_released = k.all_released;
      schedule = k.schedule;
    }

-- a new sender's calls are no events
none_taken : (links : List LinkRow) → replicate (length links) (the_empty) ≡ map (λ l. taken_by l.vl []) links
none_taken [] = refl
none_taken (l ∷ links) = ap (λ (z : List (List send.Submission)). [] ∷ z) (none_taken links)

pub stands-start : (t : Rows) (system : ℕ) (row : SystemRow) (w : SenderState)
    → StandsFor w (no_calls t system row) → StandsFor w (calls_in row (links_from t.links system) [] 0)
stands-start t system row w stands =
    subst (λ (z : List (List send.Submission)).
    StandsFor w (record {
      system = row;
      links = links_from t.links system;
      taken = z;
      emitted = [];
      time = 0;
    })) (none_taken (links_from t.links system)) stands

-- ---- an event more

abbrev sent : ℕ → List ℕ → List ℕ → Sending
sent time a b = record { time = time; a = a; b = b }

-- its lines are those of the event
lines-emitted : (s : Source) (w after : SenderState) (port : SwitchPort) (until : ℕ) (before : List Event)
    (e : Emission) → port.number ≡ s.row.port → port.switch.now ≡ s.switch
    → (g : Gives (calls_in s.row s.links before (last_time w)) until e after) →
    emission_lines port.switch.now port.number (sending_of e) ≡ event_lines s.switch s.row (Emitted g.slot)
lines-emitted s w after port until before e is named g =
    let y = sent_in s.row g.slot in
    let sending : sending_of e ≡ y = ap (λ t. sent t e.a.items e.b.items) g.time
    ∙ ap (λ a. sent g.slot.end a e.b.items) g.a ∙ ap (λ b. sent g.slot.end y.a b) g.b in
    ap (λ z. emission_lines port.switch.now port.number z) sending
    ∙ ap (λ p. emission_lines port.switch.now p y) is
    ∙ ap (λ (name : List ℕ). emission_lines name s.row.port y) named

-- an emission more is told
pub told-emitted : (s : Source) (w after : SenderState) (port : SwitchPort) (until : ℕ) (counts counts_after : Summary)
    (old middle new : Option (List ℕ)) (before : List Event) (e : Emission) (lines : List ℕ) →
    HasTold s w port counts old middle before
    → (g : Gives (calls_in s.row s.links before (last_time w)) until e after)
    → last_time after ≡ until → lines ≡ emission_lines port.switch.now port.number (sending_of e) →
    counts_after ≡ one_emitted counts → Appends middle new lines
    → HasTold s after port counts_after old new (Emitted g.slot ∷ before)
told-emitted s w after port until counts counts_after old middle new before e lines h g clock is
    count written = record {
      stands = subst (λ (z : ℕ).
          StandsFor after (with_emission (calls_in s.row s.links before (last_time w)) g.slot z))
          (sym clock) g.stands;
      port_is = h.port_is;
      switch_is = h.switch_is;
      follow = (g.next, h.follow);
      in_time = rw clock g.in_time;
      counted = count ∙ ap one_emitted h.counted ∙ sym (counts-more (Emitted g.slot) before);
      written = subst (λ z. Appends old new z) (sym (text-more s.switch s.row (Emitted g.slot) before))
          (Appends-trans old middle new (send_text_at s.switch s.row before)
          (event_lines s.switch s.row (Emitted g.slot))
          h.written (subst (λ z. Appends middle new z)
          (is ∙ lines-emitted s w after port until before e h.port_is h.switch_is g) written));
    }

some-of : (s : Source) (old new : Option (List ℕ)) (events : List Event)
    → EachFollows s.row s.links events → AppendsFront old new (send_text_at s.switch s.row events)
    → WritesSome s old new (submissions_in events)
some-of s old new events follow written =
    record {
      events = events;
      are_events = record { submissions_are = refl; follow = follow };
      written = written;
    }

pub told-some : (s : Source) (w : SenderState) (port : SwitchPort) (counts : Summary) (old new : Option (List ℕ))
    (events : List Event) → HasTold s w port counts old new events
    → WritesSome s old new (submissions_in events)
told-some s w port counts old new events h =
    some-of s old new events h.follow (front-whole old new (send_text_at s.switch s.row events) h.written)

-- a beginning of its lines is written
pub begun-emitted : (s : Source) (w after : SenderState) (port : SwitchPort) (until : ℕ) (counts : Summary)
    (old middle new : Option (List ℕ)) (before : List Event) (e : Emission) (lines : List ℕ) →
    HasTold s w port counts old middle before
    → Gives (calls_in s.row s.links before (last_time w)) until e after
    → lines ≡ emission_lines port.switch.now port.number (sending_of e) →
    AppendsFront middle new lines → WritesSome s old new (submissions_in before)
begun-emitted s w after port until counts old middle new before e lines h g is written =
    some-of s old new (Emitted g.slot ∷ before) (g.next, h.follow)
    (subst (λ z. AppendsFront old new z) (sym (text-more s.switch s.row (Emitted g.slot) before))
    (front-more old middle new (send_text_at s.switch s.row before) (event_lines s.switch s.row (Emitted g.slot))
    h.written (subst (λ z. AppendsFront middle new z)
    (is ∙ lines-emitted s w after port until before e h.port_is h.switch_is g) written)))

-- nothing more is emitted by then
pub told-later : (s : Source) (w after : SenderState) (port : SwitchPort) (until : ℕ) (counts : Summary)
    (old new : Option (List ℕ)) (events : List Event) → HasTold s w port counts old new events →
    StandsFor after (at (calls_in s.row s.links events (last_time w)) until)
    → last_time after ≡ until → last_time w ≤ until → HasTold s after port counts old new events
told-later s w after port until counts old new events h stands clock le = record {
  stands = subst (λ (z : ℕ). StandsFor after (calls_in s.row s.links events z)) (sym clock) stands;
  port_is = h.port_is;
  switch_is = h.switch_is;
  follow = h.follow;
  in_time = (let early = h.in_time in omega (arith, early, clock, le));
  counted = h.counted;
  written = h.written;
}

-- ---- a submission more

-- its line, if it has one, is written
follow-submitted : (s : Source) (w after : SenderState) (port : SwitchPort) (counts counts_after : Summary)
    (old middle : Option (List ℕ)) (events : List Event) (x : Handed) (fault : Option SendFault) →
    (u : ToldUntil s x.submission.time w port counts old middle events)
    → last_time w ≡ x.submission.time → TellsSubmission s after counts_after u.told.more x fault →
    EachFollows s.row s.links (Submitted x fault ∷ u.told.more)
follow-submitted s w after port counts counts_after old middle events x fault u clock tells = (
  record {
    in_time = (let early = u.told.told.in_time in omega (arith, early, clock));
    no_more = u.no_more;
    answered = tells.answered;
  },
  u.told.told.follow,
)

pub told-submitted : (s : Source) (w after : SenderState) (port port_after : SwitchPort)
    (counts counts_after : Summary) (old middle new : Option (List ℕ)) (events : List Event)
    (past : List Handed) (x : Handed) (fault : Option SendFault) →
    (u : ToldUntil s x.submission.time w port counts old middle events)
    → submissions_in events ≡ past → last_time w ≡ x.submission.time
    → TellsSubmission s after counts_after u.told.more x fault → last_time after ≡ x.submission.time →
    port_after ≡ port → Appends middle new (event_lines s.switch s.row (Submitted x fault))
    → AreTold s after port_after counts_after old new (x ∷ past)
told-submitted s w after port port_after counts counts_after old middle new events past x fault u
    are clock tells after_clock same written = record {
      events = Submitted x fault ∷ u.told.more;
      submissions_are = ap (λ (p : List Handed). x ∷ p) (u.told.submissions_are ∙ are);
      at_submission = tt;
      told = record {
        stands = subst (λ (z : ℕ).
            StandsFor after (calls_in s.row s.links (Submitted x fault ∷ u.told.more) z))
            (sym after_clock) tells.stands;
        port_is = ap (λ (p : SwitchPort). p.number) same ∙ u.told.told.port_is;
        switch_is = ap (λ (p : SwitchPort). p.switch.now) same ∙ u.told.told.switch_is;
        follow = follow-submitted s w after port counts counts_after old middle events x fault u clock tells;
        in_time = (let early = u.told.told.in_time in omega (arith, early, clock, after_clock));
        counted = tells.counted;
        written = subst (λ z. Appends old new z) (sym (text-more s.switch s.row (Submitted x fault) u.told.more))
            (Appends-trans old middle new (send_text_at s.switch s.row u.told.more)
            (event_lines s.switch s.row (Submitted x fault)) u.told.told.written written);
      };
    }

-- a beginning of it is
pub begun-submitted : (s : Source) (w after : SenderState) (port : SwitchPort) (counts counts_after : Summary)
    (old middle new : Option (List ℕ)) (events : List Event) (past : List Handed) (x : Handed)
    (fault : Option SendFault) →
    (u : ToldUntil s x.submission.time w port counts old middle events)
    → submissions_in events ≡ past → last_time w ≡ x.submission.time
    → TellsSubmission s after counts_after u.told.more x fault →
    AppendsFront middle new (event_lines s.switch s.row (Submitted x fault)) → WritesSome s old new (x ∷ past)
begun-submitted s w after port counts counts_after old middle new events past x fault u are clock
    tells written = record {
      events = Submitted x fault ∷ u.told.more;
      are_events = record {
        submissions_are =
            ap (λ (p : List Handed). x ∷ p) (u.told.submissions_are ∙ are);
        follow = follow-submitted s w after port counts counts_after old middle events x fault u clock
            tells;
      };
      written = subst (λ z. AppendsFront old new z) (sym (text-more s.switch s.row (Submitted x fault) u.told.more))
          (front-more old middle new (send_text_at s.switch s.row u.told.more)
          (event_lines s.switch s.row (Submitted x fault)) u.told.told.written written);
    }

-- what is told of the emissions up to then
pub until-some : (s : Source) (time : ℕ) (w : SenderState) (port : SwitchPort) (counts : Summary)
    (old new : Option (List ℕ)) (events : List Event) (past : List Handed)
    → ToldUntil s time w port counts old new events → submissions_in events ≡ past
    → WritesSome s old new past
until-some s time w port counts old new events past u are =
    subst (λ p. WritesSome s old new p) (u.told.submissions_are ∙ are)
    (told-some s w port counts old new u.told.more u.told.told)

-- ---- the start, the end, and between

pub are-told-start : (s : Source) (w : SenderState) (port : SwitchPort) (output : Option (List ℕ))
    → StandsFor w (calls_in s.row s.links [] 0) → last_time w ≡ 0 → port.number ≡ s.row.port
    → port.switch.now ≡ s.switch → AreTold s w port no_counts output output []
are-told-start s w port output stands clock same named = record {
  events = [];
  submissions_are = refl;
  at_submission = tt;
  told = record {
    stands = subst (λ (z : ℕ). StandsFor w (calls_in s.row s.links [] z)) (sym clock) stands;
    port_is = same;
    switch_is = named;
    follow = tt;
    in_time = omega arith;
    counted = sym counts-none;
    written = subst (λ z. Appends output output z) (sym (text-none s.switch s.row)) (Appends-nil output);
  };
}

pub are-so-far : (s : Source) (w : SenderState) (port : SwitchPort) (counts : Summary)
    (old new : Option (List ℕ)) (past : List Handed) → AreTold s w port counts old new past
    → WritesSoFar s old new past
are-so-far s w port counts old new past h = record {
  events = h.events;
  are_events = record { submissions_are = h.submissions_are; follow = h.told.follow };
  at_submission = h.at_submission;
  written = h.told.written;
}

pub are-some : (s : Source) (w : SenderState) (port : SwitchPort) (counts : Summary) (old new : Option (List ℕ))
    (past : List Handed) → AreTold s w port counts old new past → WritesSome s old new past
are-some s w port counts old new past h =
    subst (λ p. WritesSome s old new p) h.submissions_are
    (told-some s w port counts old new h.events h.told)

pub start-some : (s : Source) (output : Option (List ℕ)) → WritesSome s output output []
start-some s output = record {
  events = [];
  are_events = record { submissions_are = refl; follow = tt };
  written = subst (λ z. AppendsFront output output z) (sym (text-none s.switch s.row))
      (front-whole output output [] (Appends-nil output));
}

-- all is told
pub told-all : (s : Source) (until : ℕ) (w : SenderState) (port : SwitchPort) (counts : Summary)
    (old new : Option (List ℕ)) (events : List Event) (past : List Handed)
    → ToldUntil s until w port counts old new events → submissions_in events ≡ past →
    1200000000000000 ≤ until → WritesEvents s counts old new past
told-all s until w port counts old new events past u are late = record {
  events = u.told.more;
  are_events = record { submissions_are = u.told.submissions_are ∙ are; follow = u.told.told.follow };
  are_done = u.done late;
  written = u.told.told.written;
  counted = u.told.told.counted;
}

done-all : (s : Source) (told : List Handed → Type 0) (counts summary : Summary) (n : ℕ)
    (lines : List (List ℕ)) (old new : Option (List ℕ)) → IsDone submissions told n lines
    → ((past : List Handed) → told past → WritesEvents s counts old new past) →
    summary ≡ with_lines counts n → WritesAll s lines old new summary
done-all s told counts summary n lines old new h all e = record {
  sound = h.sound;
  counts = counts;
  writes = all _ h.are_told;
  counted = e ∙ ap (λ k. with_lines counts k) h.all;
}

pub told-done : (s : Source) (told : List Handed → Type 0) (counts summary : Summary) (n : ℕ)
    (input old new : Option (List ℕ))
    → IfSome input (λ bytes. IsDone submissions told n (lines_of bytes)) →
    ((past : List Handed) → told past → WritesEvents s counts old new past)
    → summary ≡ with_lines counts n
    → IfSome input (λ bytes. WritesAll s (lines_of bytes) old new summary)
told-done s told counts summary n None old new h all e = tt
told-done s told counts summary n (Some bytes) old new h all e =
    done-all s told counts summary n (lines_of bytes) old new h all e

-- ---- counts

pub room-start : (held n : ℕ) → held ≡ 0 → n ≡ 0 → HasRoom no_counts held n
room-start held n h k = record { submissions = omega (arith, k); emissions = omega (arith, h) }

-- ---- answers of calls

pub if-none : {T : Type 0} (o : Option T) (P : Type 0) → ((x : T) → o ≡ Some x → ⊥) → IfNone o P → P
if-none None P none h = h
if-none (Some x) P none h = absurd (none x refl)

pub none-of : {T : Type 0} (o : Option T) → ((x : T) → o ≡ Some x → ⊥) → o ≡ None
none-of None h = refl
none-of (Some x) h = absurd (h x refl)

-- ---- the command

-- a place within some rows has a row
pub row-at : {T : Type 0} (xs : List T) (i : ℕ) → i < length xs → (x : T) × (slice_get xs i ≡ Some x)
row-at [] i within = absurd (omega arith)
row-at (x ∷ xs) zero within = (x, refl)
row-at (x ∷ xs) (suc i) within = row-at xs i (omega arith)

some-same : {X : Type 0} {x y : X} → Some x ≡ Some y → x ≡ y
some-same e = cc

none-some : {X : Type 0} {x : X} → None ≡ Some x → ⊥
none-some e = cc

each-at : {X : Type 0} (P : X → Type 0) (xs : List X) → AllByRecursion P xs → (k : ℕ) (x : X)
    → slice_get xs k ≡ Some x → P x
each-at P [] h k x is = absurd (none-some is)
each-at P (y ∷ ys) h zero x is = subst P (some-same is) h.0
each-at P (y ∷ ys) h (suc k) x is = each-at P ys h.1 k x is

-- the tables of a system that was found by its name have no more systems than ends
abbrev HasEnds : SystemThere → Type 0
HasEnds from = from.tables.own ≤ length from.tables.systems

own-ends : (d : Described) (name : List ℕ) (from : SystemThere) → IsLawfulFile d → sender_of d name ≡ Some from
    → HasEnds from
own-ends (One t) name from lawful e = by (own_named t name) e
  where
    by : (o : Option ℕ) → option_map (λ i. system_there t i []) o ≡ Some from → HasEnds from
    by None e = absurd (none-some e)
    by (Some i) e = let own = lawful.own in subst HasEnds (some-same e) (omega (arith, own))
own-ends (Several switches) name from lawful e = by (system_of switches name) e
  where
    at : (k i : ℕ) (o : Option NamedRows) → slice_get switches k ≡ o → option_map (system_among i) o ≡ Some from
        → HasEnds from
    at k i None is e = absurd (none-some e)
    at k i (Some s) is e = subst HasEnds (some-same e) (each-at (λ s. IsLawfulSwitch s.rows) switches lawful.each k s
        is).own

    by : (o : Option (ℕ × ℕ)) → option_and_then (λ found. option_map (system_among found.1)
        (slice_get switches found.0)) o ≡ Some from → HasEnds from
    by None e = absurd (none-some e)
    by (Some found) e = at found.0 found.1 (slice_get switches found.0) refl e

-- what a run answers, for the row of its system, is what the command does
pub sends-in : (config name : List ℕ) (taken : SenderTaken) (input rest old new : Option (List ℕ))
    (answer : Result Summary RunFault) → TakesSender config name taken → taken.system.0 < taken.admitted.own
    →
    ((row : SystemRow) → slice_get taken.admitted.systems taken.system.0 ≡ Some row
    → IfSome input (λ bytes. Answers (source_of (string_bytes taken.switch) taken.admitted taken.system.0 row) bytes
    rest old new answer)) →
    Sends config name input rest old new answer
sends-in config name taken input rest old new answer takes own h =
    let within = own-ends takes.described name (sender_taken taken) takes.read.lawful takes.stands in
    let e = row-at taken.admitted.systems taken.system.0 (omega (arith, own, within)) in
    record {
      described = takes.described;
      read = takes.read;
      from = sender_taken taken;
      named = takes.stands;
      admitted = takes.admitted;
      row = e.0;
      stands = e.1;
      answers = h e.0 e.1;
    }
