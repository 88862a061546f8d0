-- What is told of a frame comes from its own link's frames at its port.
use Rattle.std.proofs.Common.{◌≡◌, ℕ, ◌*◌, ◌==◌, ◌&&◌, Bool, true, false, cond, eqb, Option, Some}
use Rattle.std.proofs.Common.{None, ◌⊎◌, Result, Ok, Err, List, [], ◌∷◌, refl, sym, ap, ◌∙◌, inl}
use Rattle.std.proofs.Common.{inr}
use Rattle.std.proofs.lemmas.Bool.{cases_eq, ne_eqb}
use Rattle.afdx_frame.specs.declared.fault.MacFault.{MacFault}
use Rattle.afdx_frame.specs.declared.fault.IpFault.{IpFault}
use Rattle.afdx_frame.specs.Parts.{FrameParts, frame_of}
use Rattle.afdx_frame.specs.Carried.{Carried, carried_by}
use Rattle.afdx_config.specs.Rows.{Rows, LinkRow}
use Rattle.afdx_config.specs.Reading.{has_port, listener_at}
use Rattle.afdx_receive.specs.Integrity.{Incoming, is_valid}
use Rattle.afdx_receive.specs.Arrivals.{Arrived, incoming, frames_of}
use Rattle.afdx_receive.specs.Answers.{Answer, Message, Dropped, answer_to, answer_after}
use Rattle.afdx_receive.specs.Answers.{answer_to_carried, subscription}
use Rattle.afdx_receive.specs.Delivery.{with_answer, delivered}
use Rattle.afdx_receive.specs.Redundancy.{wins, winners}
use Rattle.afdx_receive.specs.declared.reception.DropReason.TheVariants.{NoPort}
use Rattle.afdx_receive.proofs.ReceptionLemmas.{frames_with, frames_own, frames_other}
use Rattle.afdx_receive.proofs.ReceptionLemmas.{frames_damaged, answer_of_others, answer_own}
use Rattle.afdx_end_systems.specs.Handovers.{HandedOver, arrival_of, came_to}
use Rattle.afdx_end_systems.specs.Receptions.{line_at, is_delivered_at, answer_at, answer_line}
use Rattle.afdx_end_systems.specs.Receptions.{is_message, name_of, reception_line, is_delivered}
use Rattle.afdx_end_systems.specs.Laws.{is_of, own, messages_at, MessagesAreDelivered, ReceptionIsOwn}
use Rattle.afdx_end_systems.specs.Laws.{ReceptionIsByTheRules, IsMessageOrLinkReason}
use Rattle.afdx_end_systems.specs.Laws.{DropsHaveLinkReasons}
use Rattle.afdx_end_systems.proofs.SystemsLemmas.{came_here, came_there, same}

-- ---- a link's own frames

own_joins : (port vl : ℕ) (d : HandedOver) (before : List HandedOver) → d.port ≡ port
    → is_of vl (frame_of d.bytes) ≡ true → own port vl (d ∷ before) ≡ d ∷ own port vl before
unfolding own
own_joins port vl d before here is = rw (same d.port port here, is) refl

own_not_here : (port vl : ℕ) (d : HandedOver) (before : List HandedOver) → (d.port ≡ port → ⊥)
    → own port vl (d ∷ before) ≡ own port vl before
unfolding own
own_not_here port vl d before other = rw (ne_eqb d.port port other) refl

own_not_its : (port vl : ℕ) (d : HandedOver) (before : List HandedOver)
    → is_of vl (frame_of d.bytes) ≡ false → own port vl (d ∷ before) ≡ own port vl before
unfolding own
own_not_its port vl d before is = rw is (at (d.port == port))
  where
    at : (b : Bool) → cond (b && false) (d ∷ own port vl before) (own port vl before) ≡ own port vl before
    at true = refl
    at false = refl

pub frames_are_own : (port vl : ℕ) (before : List HandedOver) → frames_of vl (came_to port before)
    ≡ frames_of vl (came_to port (own port vl before))
unfolding own
frames_are_own port vl [] = refl
frames_are_own port vl (d ∷ before) =
    elim (cases_eq port d.port) [
      | inl here ↦ at here (frame_of d.bytes) refl (frames_are_own port vl before)
      | inr other ↦ ap (frames_of vl) (came_there d before port other)
          ∙ frames_are_own port vl before
          ∙ sym (ap (λ (l : List HandedOver). frames_of vl (came_to port l))
          (own_not_here port vl d before (λ e. other (sym e))))
    ]
  where
    at : port ≡ d.port → (r : Result FrameParts MacFault) → frame_of d.bytes ≡ r
        → frames_of vl (came_to port before) ≡ frames_of vl (came_to port (own port vl before)) →
        frames_of vl (came_to port (d ∷ before)) ≡ frames_of vl (came_to port (own port vl (d ∷ before)))
    at here (Err fault) is before-own =
        ap (frames_of vl) (came_here d before port here)
        ∙ frames_damaged (arrival_of d) (came_to port before) fault vl is ∙ before-own
        ∙ sym (ap (λ (l : List HandedOver). frames_of vl (came_to port l))
        (own_not_its port vl d before (ap (is_of vl) is)))
    at here (Ok frame) is before-own =
        elim (cases_eq frame.link.0 vl) [
          | inl its ↦
              ap (frames_of vl) (came_here d before port here)
              ∙ frames_with (arrival_of d) (came_to port before) frame vl is
              ∙ ap (λ (fs : List Incoming). cond (eqb frame.link.0 vl)
              (incoming (arrival_of d) frame ∷ fs) fs) before-own
              ∙ sym (ap (λ (l : List HandedOver). frames_of vl (came_to port l))
              (own_joins port vl d before (sym here) (ap (is_of vl) is ∙ same frame.link.0 vl its))
              ∙ ap (frames_of vl) (came_here d (own port vl before) port here)
              ∙ frames_with (arrival_of d) (came_to port (own port vl before)) frame vl is)
          | inr other ↦
              ap (frames_of vl) (came_here d before port here)
              ∙ frames_other (arrival_of d) (came_to port before) frame vl is
              (ne_eqb frame.link.0 vl other) ∙ before-own
              ∙ sym (ap (λ (l : List HandedOver). frames_of vl (came_to port l))
              (own_not_its port vl d before (ap (is_of vl) is ∙ ne_eqb frame.link.0 vl other)))
        ]

-- ---- the answer to a frame

answers_same : (rows : Rows) (system : ℕ) (past other : List Arrived) (x : Arrived)
    (frame : FrameParts) → frame_of x.bytes ≡ Ok frame →
    frames_of frame.link.0 past ≡ frames_of frame.link.0 other → answer_to rows system past x
    ≡ answer_to rows system other x
answers_same rows system past other x frame is frames = at (subscription rows system frame.link.0) refl
  where
    at : (o : Option LinkRow) → subscription rows system frame.link.0 ≡ o
        → answer_to rows system past x ≡ answer_to rows system other x
    at None e = sym (answer_of_others rows system past x frame is e) ∙ answer_of_others rows system other x frame is e
    at (Some link) e =
        answer_own rows system past x frame link is e
        ∙ ap (λ (fs : List Incoming). answer_after (1000 * link.skew_us)
        (has_port rows.ports system frame.link.0) fs (incoming x frame)) frames
        ∙ sym (answer_own rows system other x frame link is e)

lines_same : (rows : Rows) (past other : List Arrived) (d : HandedOver) (place : Option ℕ)
    → ((system : ℕ) → answer_at rows past d system ≡ answer_at rows other d system) →
    line_at rows past d place ≡ line_at rows other d place
lines_same rows past other d None answers = refl
lines_same rows past other d (Some system) answers =
    ap (answer_line d.time d.line (name_of rows system)) (answers system)

delivered_same : (rows : Rows) (past other : List Arrived) (d : HandedOver) (place : Option ℕ)
    → ((system : ℕ) → answer_at rows past d system ≡ answer_at rows other d system) →
    is_delivered_at rows past d place ≡ is_delivered_at rows other d place
delivered_same rows past other d None answers = refl
delivered_same rows past other d (Some system) answers = ap is_message (answers system)

own_answers : (rows : Rows) (before : List HandedOver) (d : HandedOver) (frame : FrameParts)
    → frame_of d.bytes ≡ Ok frame → (system : ℕ) →
    answer_at rows (came_to d.port before) d system
    ≡ answer_at rows (came_to d.port (own d.port frame.link.0 before)) d system
own_answers rows before d frame is system =
    answers_same rows system (came_to d.port before)
    (came_to d.port (own d.port frame.link.0 before)) (arrival_of d) frame is
    (frames_are_own d.port frame.link.0 before)

own_line : (rows : Rows) (before : List HandedOver) (d : HandedOver) (frame : FrameParts)
    → frame_of d.bytes ≡ Ok frame → reception_line rows before d
    ≡ reception_line rows (own d.port frame.link.0 before) d
unfolding reception_line
own_line rows before d frame is =
    lines_same rows _ _ d (listener_at rows d.port) (own_answers rows before d frame is)

own_delivered : (rows : Rows) (before : List HandedOver) (d : HandedOver) (frame : FrameParts)
    → frame_of d.bytes ≡ Ok frame → is_delivered rows before d
    ≡ is_delivered rows (own d.port frame.link.0 before) d
unfolding is_delivered
own_delivered rows before d frame is =
    delivered_same rows _ _ d (listener_at rows d.port) (own_answers rows before d frame is)

pub reception-own : ReceptionIsOwn
reception-own = record { line = own_line; delivered = own_delivered; frames = frames_are_own }

-- ---- what is delivered

skips : (rows : Rows) (system port vl : ℕ) (d : HandedOver) (before : List HandedOver)
    → (d.port == port && is_of vl (frame_of d.bytes)) ≡ false →
    messages_at rows system port vl (d ∷ before) ≡ messages_at rows system port vl before
unfolding messages_at
skips rows system port vl d before not = rw not refl

joins : (rows : Rows) (system port vl : ℕ) (d : HandedOver) (before : List HandedOver)
    → d.port ≡ port → is_of vl (frame_of d.bytes) ≡ true →
    messages_at rows system port vl (d ∷ before)
    ≡ with_answer (answer_at rows (came_to port before) d system)
    (messages_at rows system port vl before)
unfolding messages_at
joins rows system port vl d before here is = rw (same d.port port here, is) refl

not_both : (b c : Bool) → c ≡ false → (b && c) ≡ false
not_both true c e = e
not_both false c e = refl

none_yet : (rows : Rows) (system port vl skew : ℕ) (is_open : ℕ → Bool)
    → messages_at rows system port vl [] ≡ delivered skew is_open (frames_of vl (came_to port []))
unfolding messages_at delivered frames_of came_to
none_yet rows system port vl skew is_open = refl

one_more : (skew : ℕ) (is_open : ℕ → Bool) (frame : Incoming) (before : List Incoming) →
    delivered skew is_open (frame ∷ before) ≡ with_answer (answer_after skew is_open before frame)
    (delivered skew is_open before)
unfolding delivered
one_more skew is_open frame before = refl

pub messages-delivered : MessagesAreDelivered
messages-delivered rows system port vl link [] subscribed =
    none_yet rows system port vl (1000 * link.skew_us) (has_port rows.ports system vl)
messages-delivered rows system port vl link (d ∷ before) subscribed =
    elim (cases_eq port d.port) [
      | inl here ↦ at here (frame_of d.bytes) refl (messages-delivered rows system port vl link before subscribed)
      | inr other ↦
          let not : (d.port == port && is_of vl (frame_of d.bytes)) ≡ false =
          rw (ne_eqb d.port port (λ e. other (sym e))) refl in
          skips rows system port vl d before not ∙ messages-delivered rows system port vl link before subscribed
          ∙ sym (ap (λ (past : List Arrived). delivered (1000 * link.skew_us)
          (has_port rows.ports system vl) (frames_of vl past)) (came_there d before port other))
    ]
  where
    frames_own_of : port ≡ d.port → (frame : FrameParts) → frame_of d.bytes ≡ Ok frame → frame.link.0 ≡ vl →
        frames_of vl (arrival_of d ∷ came_to port before) ≡ incoming (arrival_of d) frame
        ∷ frames_of vl (came_to port before)
    frames_own_of here frame is its =
        ap (λ (n : ℕ). frames_of n (arrival_of d ∷ came_to port before)) (sym its)
        ∙ frames_own (arrival_of d) (came_to port before) frame is
        ∙ ap (λ (n : ℕ). incoming (arrival_of d) frame ∷ frames_of n (came_to port before)) its

    own_answer : port ≡ d.port → (frame : FrameParts) → frame_of d.bytes ≡ Ok frame → frame.link.0 ≡ vl →
        answer_at rows (came_to port before) d system
        ≡ answer_after (1000 * link.skew_us) (has_port rows.ports system vl)
        (frames_of vl (came_to port before)) (incoming (arrival_of d) frame)
    own_answer here frame is its =
        answer_own rows system (came_to port before) (arrival_of d) frame link is
        (ap (subscription rows system) its ∙ subscribed)
        ∙ ap (λ (n : ℕ). answer_after (1000 * link.skew_us) (has_port rows.ports system n)
        (frames_of n (came_to port before)) (incoming (arrival_of d) frame)) its

    of_frame : port ≡ d.port → (frame : FrameParts) → frame_of d.bytes ≡ Ok frame →
        messages_at rows system port vl before
        ≡ delivered (1000 * link.skew_us) (has_port rows.ports system vl)
        (frames_of vl (came_to port before)) →
        (frame.link.0 ≡ vl) ⊎ (frame.link.0 ≡ vl → ⊥) →
        messages_at rows system port vl (d ∷ before)
        ≡ delivered (1000 * link.skew_us) (has_port rows.ports system vl)
        (frames_of vl (came_to port (d ∷ before)))
    of_frame here frame is so_far (inr other) =
        skips rows system port vl d before
        (not_both (d.port == port) (is_of vl (frame_of d.bytes))
        (ap (is_of vl) is ∙ ne_eqb frame.link.0 vl other)) ∙ so_far
        ∙ sym (ap (delivered (1000 * link.skew_us) (has_port rows.ports system vl))
        (ap (frames_of vl) (came_here d before port here)
        ∙ frames_other (arrival_of d) (came_to port before) frame vl is
        (ne_eqb frame.link.0 vl other)))
    of_frame here frame is so_far (inl its) =
        joins rows system port vl d before (sym here) (ap (is_of vl) is ∙ same frame.link.0 vl its)
        ∙ ap (with_answer (answer_at rows (came_to port before) d system)) so_far
        ∙ ap (λ (a : Answer). with_answer a
        (delivered (1000 * link.skew_us) (has_port rows.ports system vl)
        (frames_of vl (came_to port before)))) (own_answer here frame is its)
        ∙ sym (one_more (1000 * link.skew_us) (has_port rows.ports system vl)
        (incoming (arrival_of d) frame) (frames_of vl (came_to port before)))
        ∙ sym (ap (delivered (1000 * link.skew_us) (has_port rows.ports system vl))
        (ap (frames_of vl) (came_here d before port here) ∙ frames_own_of here frame is its))

    at : port ≡ d.port → (r : Result FrameParts MacFault) → frame_of d.bytes ≡ r →
        messages_at rows system port vl before
        ≡ delivered (1000 * link.skew_us) (has_port rows.ports system vl)
        (frames_of vl (came_to port before)) →
        messages_at rows system port vl (d ∷ before)
        ≡ delivered (1000 * link.skew_us) (has_port rows.ports system vl)
        (frames_of vl (came_to port (d ∷ before)))
    at here (Err fault) is so_far =
        skips rows system port vl d before
        (not_both (d.port == port) (is_of vl (frame_of d.bytes)) (ap (is_of vl) is)) ∙ so_far
        ∙ sym (ap (delivered (1000 * link.skew_us) (has_port rows.ports system vl))
        (ap (frames_of vl) (came_here d before port here)
        ∙ frames_damaged (arrival_of d) (came_to port before) fault vl is))
    at here (Ok frame) is so_far = of_frame here frame is so_far (cases_eq frame.link.0 vl)

-- ---- by the rules

pub reception-by_the_rules : ReceptionIsByTheRules
unfolding reception_line is_delivered
reception-by_the_rules rows before d is =
    let own : answer_at rows (came_to d.port before) d is.system
    ≡ answer_after (1000 * is.link.skew_us) (has_port rows.ports is.system is.frame.link.0)
    (frames_of is.frame.link.0 (came_to d.port before)) (incoming (arrival_of d) is.frame)
    = answer_own rows is.system (came_to d.port before) (arrival_of d) is.frame is.link is.is_frame is.subscribed in (
      ap (line_at rows (came_to d.port before) d) is.at ∙ ap (answer_line d.time d.line (name_of rows is.system)) own,
      ap (is_delivered_at rows (came_to d.port before) d) is.at ∙ ap is_message own,
    )

-- ---- reasons

carried_has_reason : (vl : ℕ) (is_open : ℕ → Bool) (read : Result Carried IpFault)
    → IsMessageOrLinkReason (answer_to_carried vl is_open read)
carried_has_reason vl is_open (Err fault) = tt
carried_has_reason vl is_open (Ok carried) = at (is_open carried.to_port)
  where
    at : (b : Bool) → IsMessageOrLinkReason (cond b (Message vl carried.to_port carried.payload) (Dropped NoPort))
    at true = tt
    at false = tt

answer_has_reason : (skew : ℕ) (is_open : ℕ → Bool) (before : List Incoming) (frame : Incoming)
    → IsMessageOrLinkReason (answer_after skew is_open before frame)
answer_has_reason skew is_open before frame =
    at (is_valid before frame) (wins skew (winners skew before) frame) refl refl
  where
    at : (valid new : Bool) → is_valid before frame ≡ valid → wins skew (winners skew before) frame
        ≡ new → IsMessageOrLinkReason (answer_after skew is_open before frame)
    at true true e f = rw (e, f) (carried_has_reason frame.vl is_open (carried_by frame.bytes))
    at true false e f = rw (e, f) tt
    at false new e f = rw e tt

pub drops-have_link_reasons : DropsHaveLinkReasons
drops-have_link_reasons rows before d is =
    let own : answer_at rows (came_to d.port before) d is.system
    ≡ answer_after (1000 * is.link.skew_us) (has_port rows.ports is.system is.frame.link.0)
    (frames_of is.frame.link.0 (came_to d.port before)) (incoming (arrival_of d) is.frame)
    = answer_own rows is.system (came_to d.port before) (arrival_of d) is.frame is.link is.is_frame is.subscribed in
    rw own (answer_has_reason (1000 * is.link.skew_us)
    (has_port rows.ports is.system is.frame.link.0)
    (frames_of is.frame.link.0 (came_to d.port before)) (incoming (arrival_of d) is.frame))
