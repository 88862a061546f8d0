-- Ports after a list of calls.
use Rattle.std.proofs.Common.{◌≡◌, ℕ, ◌≤◌, Bool, true, false, cond, Option, Some, List, [], ◌∷◌, ◌++◌, length}
use Rattle.std.proofs.Common.{nat_eq, refl, ap, sym, subst, arith, ◌∙◌, None}
use Rattle.std.proofs.lemmas.List.{append_assoc, length_push}
use Rattle.std.proofs.lemmas.Bool.{eqb-false}
use Rattle.afdx_comport.specs.Messages.{TimedMessage}
use Rattle.afdx_comport.specs.declared.held.PortMemory.{PortMemory}
use Rattle.afdx_comport.specs.declared.held.PortMemory.TheVariants.{Sampling, Queuing}
use Rattle.afdx_comport.specs.Held.{is_full, first_of, without_first, with_spare}
use Rattle.afdx_comport.specs.Calls.{Call, Put, Take, GiveBack, with_put, held_after, put_in, and_then}
use Rattle.afdx_comport.specs.Calls.{taken_from, waiting, newest, empty_queue, IsFirstInFirstOut}

-- what waits in the queue then
record Queued (depth : ℕ) (held : PortMemory) (came left : List (List ℕ)) : Type 0 where
  messages : List (List ℕ)
  spare : Option ℕ
  holds : held ≡ Queuing (record { depth = depth; messages = messages; spare = spare })
  in_order : came ≡ left ++ messages
  within : length messages ≤ depth

queue-put : (depth : ℕ) (m : TimedMessage) (held : PortMemory) (came left : List (List ℕ)) →
    Queued depth held came left →
    Queued depth (with_put m held) (cond (is_full held) came (came ++ m.bytes ∷ [])) left
queue-put depth m held came left q =
    subst (λ h. Queued depth (with_put m h) (cond (is_full h) came (came ++ m.bytes ∷ [])) left)
    (sym q.holds) (by (nat_eq (length q.messages) depth) refl)
  where
    by : (b : Bool) → nat_eq (length q.messages) depth ≡ b →
        Queued depth (cond b (Queuing (record { depth = depth; messages = q.messages; spare = q.spare }))
        (Queuing (record { depth = depth; messages = q.messages ++ m.bytes ∷ []; spare = None })))
        (cond b came (came ++ m.bytes ∷ [])) left
    by true full = record {
      messages = q.messages;
      spare = q.spare;
      holds = refl;
      in_order = q.in_order;
      within = q.within;
    }
    by false room = record {
      messages = q.messages ++ m.bytes ∷ [];
      spare = None;
      holds = refl;
      in_order = ap (λ ms. ms ++ m.bytes ∷ []) q.in_order ∙ append_assoc left q.messages (m.bytes ∷ []);
      within = omega (arith, q.within, length_push q.messages m.bytes, eqb-false (length q.messages) depth room);
    }

queue-take : (depth : ℕ) (held : PortMemory) (came left : List (List ℕ)) → Queued depth held came left →
    Queued depth (without_first held) came (and_then left (first_of held))
queue-take depth held came left q =
    subst (λ h. Queued depth (without_first h) came (and_then left (first_of h))) (sym q.holds)
    (by q.messages q.in_order q.within)
  where
    by : (ms : List (List ℕ)) → came ≡ left ++ ms → length ms ≤ depth →
        Queued depth (without_first (Queuing (record { depth = depth; messages = ms; spare = q.spare }))) came
        (and_then left (first_of (Queuing (record { depth = depth; messages = ms; spare = q.spare }))))
    by [] same short = record { messages = []; spare = q.spare; holds = refl; in_order = same; within = short }
    by (x ∷ xs) same short = record {
      messages = xs;
      spare = q.spare;
      holds = refl;
      in_order = same ∙ sym (append_assoc left (x ∷ []) xs);
      within = omega (arith, short);
    }

queue-give : (depth room : ℕ) (held : PortMemory) (came left : List (List ℕ)) → Queued depth held came left →
    Queued depth (with_spare room held) came left
queue-give depth room held came left q = record {
  messages = q.messages;
  spare = Some room;
  holds = ap (with_spare room) q.holds;
  in_order = q.in_order;
  within = q.within;
}

queued : (depth : ℕ) (calls : List Call) →
    Queued depth (held_after (empty_queue depth) calls) (put_in (empty_queue depth) calls)
    (taken_from (empty_queue depth) calls)
unfolding held_after put_in taken_from
queued depth [] = record { messages = []; spare = None; holds = refl; in_order = refl; within = omega arith }
queued depth (Put m ∷ past) =
    queue-put depth m (held_after (empty_queue depth) past) (put_in (empty_queue depth) past)
    (taken_from (empty_queue depth) past) (queued depth past)
queued depth (Take ∷ past) =
    queue-take depth (held_after (empty_queue depth) past) (put_in (empty_queue depth) past)
    (taken_from (empty_queue depth) past) (queued depth past)
queued depth (GiveBack room ∷ past) =
    queue-give depth room (held_after (empty_queue depth) past) (put_in (empty_queue depth) past)
    (taken_from (empty_queue depth) past) (queued depth past)

pub first_in_first_out : (depth : ℕ) (calls : List Call) → IsFirstInFirstOut depth calls
first_in_first_out depth calls =
    let q = queued depth calls in
    record {
      in_order = q.in_order ∙ ap (λ h. taken_from (empty_queue depth) calls ++ waiting h) (sym q.holds);
      within = subst (λ h. length (waiting h) ≤ depth) (sym q.holds) q.within;
    }

pub newest_is_held : (calls : List Call) → held_after (Sampling None) calls ≡ Sampling (newest calls)
unfolding held_after newest
newest_is_held [] = refl
newest_is_held (Put m ∷ past) = ap (λ h. with_put m h) (newest_is_held past)
newest_is_held (Take ∷ past) = ap (λ h. without_first h) (newest_is_held past)
newest_is_held (GiveBack room ∷ past) = ap (λ h. with_spare room h) (newest_is_held past)
