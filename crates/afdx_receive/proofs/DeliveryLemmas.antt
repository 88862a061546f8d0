-- Exactly once: what is delivered of two streams in order.
use Rattle.std.proofs.Common.{◌≡◌, ℕ, suc, ◌+◌, Bool, true, false, cond, Some, Result, Ok, List, []}
use Rattle.std.proofs.Common.{◌∷◌, ◌++◌, length, take, reverse, refl, sym, ◌∙◌, ap}
use Rattle.std.proofs.Common.{arith, append-nil}
use Rattle.std.specs.Prelude.{max, filter, slice_get}
use Rattle.std.proofs.lemmas.Bool.{cond-true, cond-false}
use Rattle.std.proofs.lemmas.List.Elements.{filter-append}
use Rattle.afdx_frame.specs.declared.link.Side.TheVariants.{A, B}
use Rattle.afdx_frame.specs.declared.fault.IpFault.{IpFault}
use Rattle.afdx_frame.specs.Carried.{Carried, carried_by}
use Rattle.afdx_frame.proofs.ListLemmas.{take-one_more}
use Rattle.afdx_config.specs.SentList as sent
use Rattle.afdx_receive.specs.Integrity.{Incoming}
use Rattle.afdx_receive.specs.Standing.{standing}
use Rattle.afdx_receive.specs.Answers.{Message, Dropped, answer_by, answer_to_carried, answer_after}
use Rattle.afdx_receive.specs.declared.memory.Standing.{Standing}
use Rattle.afdx_receive.specs.declared.memory.Standing.TheVariants.{Winner, Redundant}
use Rattle.afdx_receive.specs.declared.reception.DropReason.TheVariants as drop
use Rattle.afdx_receive.specs.TwoStreams.{count_of, is_first_copy, first_copies, AreTwoStreams}
use Rattle.afdx_receive.specs.Delivery.{with_answer, delivered, CarriesSent, AllCarrySent}
use Rattle.afdx_receive.proofs.StreamLemmas.{stand, own_place, counted}
use mathlib.Core.List.{reverse-cons}

-- what is delivered of a frame that carries a message and stands so
one_delivered : (skew : ℕ) (is_open : ℕ → Bool) (before : List Incoming) (frame : Incoming)
    (how : Standing) (read : Result Carried IpFault)
    (older : List sent.Message) →
    standing skew before frame ≡ how → carried_by frame.bytes ≡ read →
    with_answer (answer_after skew is_open before frame) older
    ≡ with_answer (answer_by how (answer_to_carried frame.vl is_open read)) older
one_delivered skew is_open before frame how read older stood carried =
    ap (λ (s : Standing). with_answer
    (answer_by s (answer_to_carried frame.vl is_open (carried_by frame.bytes))) older) stood
    ∙ ap (λ (r : Result Carried IpFault).
    with_answer (answer_by how (answer_to_carried frame.vl is_open r)) older) carried

-- a message joins those that are delivered, if its port is open
joins : (vl from : ℕ) (is_open : ℕ → Bool) (m : sent.Message) (older : List sent.Message) →
    reverse (with_answer (answer_to_carried vl is_open
    (Ok (record { from_port = from; to_port = m.udp; payload = m.payload }))) older)
    ≡ reverse older ++ filter (λ (o : sent.Message). is_open o.udp) (m ∷ [])
joins vl from is_open m older = at (is_open m.udp)
  where
    at : (b : Bool) → reverse
        (with_answer (cond b (Message vl m.udp m.payload) (Dropped drop.NoPort)) older)
        ≡ reverse older ++ cond b (m ∷ []) []
    at true = reverse-cons m older
    at false = sym (append-nil (reverse older))

plus_one : (n : ℕ) → n + 1 ≡ suc n
plus_one n = omega arith

delivered_first : (skew : ℕ) (is_open : ℕ → Bool) (messages : List sent.Message)
    (came : List Incoming) → AreTwoStreams skew came → AllCarrySent messages came →
    reverse (delivered skew is_open came)
    ≡ filter (λ (m : sent.Message). is_open m.udp) (take (length (first_copies came)) messages)
unfolding delivered
delivered_first skew is_open messages [] streams all = refl
delivered_first skew is_open messages (frame ∷ before) streams all =
    at (is_first_copy before frame) refl (delivered_first skew is_open messages before streams.1 all.1)
  where
    older : List sent.Message
    older = delivered skew is_open before

    here : CarriesSent messages (count_of frame.side before) frame
    here = all.0

    read : Result Carried IpFault
    read = Ok (record { from_port = here.from_port; to_port = here.message.udp; payload = here.message.payload })

    at : (b : Bool) → is_first_copy before frame ≡ b
        → reverse older ≡ filter (λ (m : sent.Message). is_open m.udp) (take
        (length (first_copies before)) messages) →
        reverse (with_answer (answer_after skew is_open before frame) older)
        ≡ filter (λ (m : sent.Message). is_open m.udp) (take (length (first_copies (frame ∷ before))) messages)
    at true e so_far =
        let stood : standing skew before frame ≡ Winner = (stand skew before frame streams).0
        ∙ cond-true (is_first_copy before frame) Winner Redundant e in
        let now : first_copies (frame ∷ before) ≡ frame ∷ first_copies before =
        cond-true (is_first_copy before frame) (frame ∷ first_copies before)
        (first_copies before) e in
        let place : slice_get messages (length (first_copies before))
        ≡ Some here.message = ap (slice_get messages) (sym (own_place before frame e)) ∙ here.at_place in
        ap reverse (one_delivered skew is_open before frame Winner read older stood here.carried)
        ∙ joins frame.vl here.from_port is_open here.message older
        ∙ ap (λ ms. ms ++ filter (λ (m : sent.Message). is_open m.udp) (here.message ∷ [])) so_far
        ∙ sym (filter-append (λ (m : sent.Message). is_open m.udp)
        (take (length (first_copies before)) messages) (here.message ∷ []))
        ∙ ap (filter (λ (m : sent.Message). is_open m.udp))
        (sym (take-one_more messages (length (first_copies before)) here.message place) ∙ ap
        (λ n. take n messages) (plus_one (length (first_copies before)) ∙ sym (ap length now)))
    at false e so_far =
        let stood : standing skew before frame ≡ Redundant = (stand skew before frame streams).0
        ∙ cond-false (is_first_copy before frame) Winner Redundant e in
        let now : first_copies (frame ∷ before) ≡ first_copies before =
        cond-false (is_first_copy before frame) (frame ∷ first_copies before)
        (first_copies before) e in
        ap reverse (one_delivered skew is_open before frame Redundant read older stood here.carried) ∙ so_far
        ∙ ap (λ n. filter (λ (m : sent.Message). is_open m.udp) (take n messages)) (sym (ap length now))

pub delivered_once : (skew : ℕ) (is_open : ℕ → Bool) (messages : List sent.Message)
    (came : List Incoming) → AreTwoStreams skew came →
    AllCarrySent messages came →
    reverse (delivered skew is_open came)
    ≡ filter (λ (m : sent.Message). is_open m.udp)
    (take (max (count_of A came) (count_of B came)) messages)
delivered_once skew is_open messages came streams all =
    delivered_first skew is_open messages came streams all
    ∙ ap (λ n. filter (λ (m : sent.Message). is_open m.udp) (take n messages)) (counted came)
