-- What the systems make of the frames that leave, as lines tell it.
use Rattle.std.proofs.Common.{◌≡◌, ℕ, ◌<◌, ◌==◌, Bool, true, false, List, [], ◌∷◌, refl, sym, ap, ◌∙◌, inl, inr}
use Rattle.std.specs.Prelude.{Option, Some, None, Result, slice_get, if◌then◌else◌}
use Rattle.std.proofs.lemmas.Bool.{eqb-true, eq-eqb}
use Rattle.afdx_frame.specs.Parts.{FrameParts, frame_of}
use Rattle.afdx_frame.specs.declared.fault.MacFault.{MacFault}
use Rattle.afdx_config.specs.Lawful.{IsLawfulSwitch}
use Rattle.afdx_config.specs.Reading.{listener_at}
use Rattle.afdx_config.specs.Rows.{SystemRow, Rows}
use Rattle.afdx_config.specs.SentList as sent
use Rattle.afdx_config.proofs.LookUpLemmas.{listeners}
use Rattle.afdx_police.specs.Arrival.{names}
use Rattle.afdx_receive.specs.Answers.{Answer, Message, Dropped, answer_to}
use Rattle.afdx_receive.specs.Delivery.{with_answer}
use Rattle.afdx_receive.proofs.LinkLemmas.{IsOfLink, answer-link}
use Rattle.afdx_switch.proofs.AdmittedLemmas.{system-at}
use Rattle.afdx_network.specs.Events.{Event, Came, Left, Departure}
use Rattle.afdx_network.specs.Order.{IsAmong}
use Rattle.afdx_law_promises.specs.Lines.{Departed, Received, Leaving, IsIn, left_in, arrived_as}
use Rattle.afdx_law_promises.specs.Lines.{answers_told, with_told, messages_told, leaving}
use Rattle.afdx_law_promises.specs.Lines.{with_reception, told_by}
use Rattle.afdx_law_promises.specs.Promises.{IsHeard}
use Rattle.afdx_law_promises.specs.Receptions.{brought, brought_by, with_answer_on, answers_on, messages_in}
use Rattle.afdx_police.proofs.FrameLemmas.{IsFrameOn}
use Rattle.afdx_law_promises.proofs.ReceiverLemmas.{names-frame}

-- ---- an M or X line is of a frame that left

heard-of : (t : Rows) (d : Leaving) (system : ℕ) (answer : Answer) (events : List Event)
    → IsIn (Received d system answer) (told_by t events) → IsIn d (left_in (told_by t events))
    × (listener_at t d.port ≡ Some system)
unfolding told_by left_in
heard-of t d system answer [] h = absurd h
heard-of t d system answer (Came c ∷ before) (inl same) = absurd (cc same)
heard-of t d system answer (Came c ∷ before) (inr later) = heard-of t d system answer before later
heard-of t d system answer (Left e ∷ before) h =
    by (listener_at t e.port) refl h (λ later. heard-of t d system answer before later)
  where
    rest-of : (IsIn (Received d system answer) (told_by t before)
        → IsIn d (left_in (told_by t before)) × (listener_at t d.port ≡ Some system)) →
        IsIn (Received d system answer) (Departed (leaving e) ∷ told_by t before)
        → IsIn d (left_in (Departed (leaving e) ∷ told_by t before))
        × (listener_at t d.port ≡ Some system)
    rest-of rest (inl same) = absurd (cc same)
    rest-of rest (inr later) = let r = rest later in (inr r.0, r.1)

    by : (o : Option ℕ) → listener_at t e.port ≡ o
        → IsIn (Received d system answer)
        (with_reception t (brought_by e.port before) (leaving e) o
        (Departed (leaving e) ∷ told_by t before)) →
        (IsIn (Received d system answer) (told_by t before) → IsIn d (left_in (told_by t before))
        × (listener_at t d.port ≡ Some system)) →
        IsIn d (left_in (with_reception t (brought_by e.port before) (leaving e) o
        (Departed (leaving e) ∷ told_by t before))) × (listener_at t d.port ≡ Some system)
    by None at g rest = rest-of rest g
    by (Some k) at (inl same) rest =
        let d_is : d ≡ leaving e = cc same in
        let k_is : system ≡ k = cc same in
        (inl d_is, ap (λ (x : Leaving). listener_at t x.port) d_is ∙ at ∙ ap (λ n. Some n) (sym k_is))
    by (Some k) at (inr later) rest = rest-of rest later

pub lines-heard : (t : Rows) (events : List Event) (d : Leaving) (system : ℕ) (answer : Answer)
    → IsIn (Received d system answer) (told_by t events) → IsHeard t (told_by t events) d system
lines-heard t events d system answer h = let r = heard-of t d system answer events h in record { left = r.0; at = r.1 }

-- ---- a system's answers on a link

-- the departures are slots of frames
pub record AreSlots (events : List Event) : Type 0 where
  pub kept : (d : Departure) → IsAmong (Left d) events → d.turn.too_old ≡ false
  pub frame : (d : Departure) → IsAmong (Left d) events → (vl : ℕ) × IsFrameOn vl d.turn.entry.item.bytes

pub slots-before : (e : Event) (before : List Event) → AreSlots (e ∷ before) → AreSlots before
slots-before e before are = record { kept = λ d h. are.kept d (inr h); frame = λ d h. are.frame d (inr h) }

told-with : (vl link : ℕ) (answer : Answer) (rest : List sent.Message) → IsOfLink link answer
    → with_told vl true answer rest ≡ (if link == vl then with_answer answer rest else rest)
told-with vl link (Message v udp payload) rest is =
    ap (λ n. if n == vl then record { udp = udp; payload = payload } ∷ rest else rest) is
told-with vl link (Dropped why) rest is = by (link == vl)
  where
    by : (b : Bool) → rest ≡ (if b then rest else rest)
    by true = refl
    by false = refl

told-off : (vl : ℕ) (answer : Answer) (rest : List sent.Message) → with_told vl false answer rest ≡ rest
told-off vl (Message v udp payload) rest = refl
told-off vl (Dropped why) rest = refl

module _ (t : Rows) (system : ℕ) (s : SystemRow) (vl : ℕ)
    (lawful : IsLawfulSwitch t)
    (stands_at : slice_get t.systems system ≡ Some s) (is_own : system < t.own) where
  -- the system hears at its port, and at no other
  at-port : (port : ℕ) → port ≡ s.port → listener_at t port ≡ Some system
  at-port port here = ap (listener_at t) here ∙ (listeners t lawful).each system s stands_at is_own

  elsewhere : (port k : ℕ) → listener_at t port ≡ Some k → (port == s.port) ≡ false → (k == system) ≡ false
  elsewhere port k at apart = by (k == system) refl
    where
      row_port : Option SystemRow → ℕ
      row_port None = 0
      row_port (Some r) = r.port

      by : (b : Bool) → (k == system) ≡ b → b ≡ false
      by false off = refl
      by true same =
          let r = system-at t port k ((listeners t lawful).only port k at).0 in
          let both : Some r.0 ≡ Some s = sym r.1 ∙ ap (slice_get t.systems) (eqb-true k system same) ∙ stands_at in
          let port_is : r.0.port ≡ s.port = ap (λ (o : Option SystemRow). row_port o) both in
          absurd (let here : (port == s.port) ≡ true = eq-eqb port s.port (sym r.2 ∙ port_is) in cc (here, apart))

  brought-more : (d : Departure) (before : List Event) → d.port ≡ s.port → d.turn.too_old ≡ false
      → brought_by s.port (Left d ∷ before) ≡ brought d.side d.turn ∷ brought_by s.port before
  unfolding brought_by
  brought-more d before here slot = rw (eq-eqb d.port s.port here, slot) refl

  brought-none : (d : Departure) (before : List Event) → (d.port == s.port) ≡ false
      → brought_by s.port (Left d ∷ before) ≡ brought_by s.port before
  unfolding brought_by
  brought-none d before off = rw off refl

  pub answers-by-events : (events : List Event) → AreSlots events
      → answers_told system vl (told_by t events) ≡ answers_on t system vl (brought_by s.port events)
  unfolding answers_told told_by answers_on brought_by
  answers-by-events [] are = refl
  answers-by-events (Came c ∷ before) are = answers-by-events before (slots-before (Came c) before are)
  answers-by-events (Left d ∷ before) are =
      by (d.port == s.port) refl (answers-by-events before (slots-before (Left d) before are))
    where
      frame_is : (v : ℕ) × IsFrameOn v d.turn.entry.item.bytes
      frame_is = are.frame d (inl refl)

      off : (o : Option ℕ) → listener_at t d.port ≡ o → (d.port == s.port) ≡ false
          → answers_told system vl (told_by t before)
          ≡ answers_on t system vl (brought_by s.port before) →
          answers_told system vl (with_reception t (brought_by d.port before) (leaving d) o
          (Departed (leaving d) ∷ told_by t before))
          ≡ answers_on t system vl (brought_by s.port before)
      off None at apart rest = rest
      off (Some k) at apart rest = rw (elsewhere d.port k at apart) rest

      own : (c : Bool) → names vl d.turn.entry.item.bytes ≡ c → d.port ≡ s.port
          → answers_told system vl (told_by t before)
          ≡ answers_on t system vl (brought_by s.port before) →
          answers_told system vl (Received (leaving d) system
          (answer_to t system (brought_by s.port before) (arrived_as (leaving d)))
          ∷ Departed (leaving d) ∷ told_by t before)
          ≡ with_answer_on vl (answer_to t system (brought_by s.port before)
          (brought d.side d.turn)) (frame_of d.turn.entry.item.bytes)
          (answers_on t system vl (brought_by s.port before))
      own c named here rest =
          let parts = frame_is.1.parts in
          let test : (parts.link.0 == vl) ≡ c =
          sym (names-frame vl d.turn.entry.item.bytes parts frame_is.1.is_frame) ∙ named in
          rw (eq-eqb system system refl, named, frame_is.1.is_frame, test) (push c)
        where
          push : (c : Bool) → (if c then answer_to t system (brought_by s.port before)
              (arrived_as (leaving d)) ∷ answers_told system vl (told_by t before) else answers_told
              system vl (told_by t before))
              ≡ (if c then answer_to t system (brought_by s.port before) (brought d.side d.turn)
              ∷ answers_on t system vl (brought_by s.port before) else answers_on t system vl
              (brought_by s.port before))
          push true = ap (λ zs. answer_to t system (brought_by s.port before) (brought d.side d.turn) ∷ zs) rest
          push false = rest

      by : (b : Bool) → (d.port == s.port) ≡ b → answers_told system vl (told_by t before)
          ≡ answers_on t system vl (brought_by s.port before) →
          answers_told system vl (with_reception t (brought_by d.port before) (leaving d)
          (listener_at t d.port) (Departed (leaving d) ∷ told_by t before))
          ≡ answers_on t system vl (brought_by s.port (Left d ∷ before))
      by false apart rest = off (listener_at t d.port) refl apart rest
          ∙ ap (answers_on t system vl) (sym (brought-none d before apart))
      by true is rest =
          let here = eqb-true d.port s.port is in
          ap (λ o. answers_told system vl
          (with_reception t (brought_by d.port before) (leaving d) o
          (Departed (leaving d) ∷ told_by t before))) (at-port d.port here)
          ∙ ap (λ n. answers_told system vl
          (Received (leaving d) system (answer_to t system (brought_by n before)
          (arrived_as (leaving d))) ∷ Departed (leaving d) ∷ told_by t before)) here
          ∙ own (names vl d.turn.entry.item.bytes) refl here rest
          ∙ ap (answers_on t system vl) (sym (brought-more d before here (are.kept d (inl refl))))

  pub messages-by-events : (events : List Event) → AreSlots events
      → messages_told system vl (told_by t events)
      ≡ messages_in (answers_on t system vl (brought_by s.port events))
  unfolding messages_told told_by answers_on brought_by
  messages-by-events [] are = refl
  messages-by-events (Came c ∷ before) are = messages-by-events before (slots-before (Came c) before are)
  messages-by-events (Left d ∷ before) are =
      by (d.port == s.port) refl (messages-by-events before (slots-before (Left d) before are))
    where
      frame_is : (v : ℕ) × IsFrameOn v d.turn.entry.item.bytes
      frame_is = are.frame d (inl refl)

      answer : Answer
      answer = answer_to t system (brought_by s.port before) (brought d.side d.turn)

      off : (o : Option ℕ) → listener_at t d.port ≡ o → (d.port == s.port) ≡ false
          → messages_told system vl (told_by t before)
          ≡ messages_in (answers_on t system vl (brought_by s.port before)) →
          messages_told system vl (with_reception t (brought_by d.port before) (leaving d) o
          (Departed (leaving d) ∷ told_by t before))
          ≡ messages_in (answers_on t system vl (brought_by s.port before))
      off None at apart rest = rest
      off (Some k) at apart rest =
          rw (elsewhere d.port k at apart)
          (told-off vl (answer_to t k (brought_by d.port before) (arrived_as (leaving d)))
          (messages_told system vl (told_by t before)) ∙ rest)

      own : messages_told system vl (told_by t before)
          ≡ messages_in (answers_on t system vl (brought_by s.port before)) →
          messages_told system vl (Received (leaving d) system answer ∷ Departed (leaving d) ∷ told_by t before)
          ≡ messages_in (with_answer_on vl answer (frame_of d.turn.entry.item.bytes)
          (answers_on t system vl (brought_by s.port before)))
      own rest =
          let parts = frame_is.1.parts in
          ap (λ b. with_told vl b answer (messages_told system vl (told_by t before))) (eq-eqb system system refl)
          ∙ told-with vl parts.link.0 answer (messages_told system vl (told_by t before))
          (answer-link t system (brought_by s.port before) (brought d.side d.turn) parts
          frame_is.1.is_frame)
          ∙ push (parts.link.0 == vl)
          ∙ ap (λ (r : Result FrameParts MacFault).
          messages_in (with_answer_on vl answer r
          (answers_on t system vl (brought_by s.port before)))) (sym frame_is.1.is_frame)
        where
          push : (c : Bool) → (if c then with_answer answer
              (messages_told system vl (told_by t before)) else messages_told system vl
              (told_by t before))
              ≡ messages_in (if c then answer ∷ answers_on t system vl (brought_by s.port before)
              else answers_on t system vl (brought_by s.port before))
          push true = ap (with_answer answer) rest
          push false = rest

      by : (b : Bool) → (d.port == s.port) ≡ b → messages_told system vl (told_by t before)
          ≡ messages_in (answers_on t system vl (brought_by s.port before)) →
          messages_told system vl (with_reception t (brought_by d.port before) (leaving d)
          (listener_at t d.port) (Departed (leaving d) ∷ told_by t before))
          ≡ messages_in (answers_on t system vl (brought_by s.port (Left d ∷ before)))
      by false apart rest = off (listener_at t d.port) refl apart rest
          ∙ ap (λ zs. messages_in (answers_on t system vl zs)) (sym (brought-none d before apart))
      by true is rest =
          let here = eqb-true d.port s.port is in
          ap (λ o. messages_told system vl
          (with_reception t (brought_by d.port before) (leaving d) o
          (Departed (leaving d) ∷ told_by t before))) (at-port d.port here)
          ∙ ap (λ n. messages_told system vl
          (Received (leaving d) system (answer_to t system (brought_by n before)
          (arrived_as (leaving d))) ∷ Departed (leaving d) ∷ told_by t before)) here
          ∙ own rest
          ∙ ap (λ zs. messages_in (answers_on t system vl zs))
          (sym (brought-more d before here (are.kept d (inl refl))))
