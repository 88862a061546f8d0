-- A message that would be put to a port of which all was read, and read there at once.
use Rattle.std.proofs.Common.{◌≡◌, ℕ, ◌<◌, ◌≤◌, List, length, Some, sym}
use Rattle.std.proofs.Common.{ap, ◌∙◌, subst, arith, inl, inr, [], ◌∷◌, cond}
use Rattle.std.specs.Prelude.{position, slice_get, slice_set}
use Rattle.std.proofs.lemmas.Bool.{cases_eq}
use Rattle.std.proofs.lemmas.List.{get_or-set_same, get_or-set_other, length-set}
use Rattle.std.proofs.lemmas.Option.{slice_get-get_or, slice_get_past, slice_get_cases, slice_get_within}
use Rattle.afdx_comport.specs.Messages.{TimedMessage}
use Rattle.afdx_comport.specs.Held.{with_message, without_first, with_spare, read_of, IsRead}
use Rattle.afdx_comport.specs.Ports.{is_for}
use Rattle.afdx_comport.specs.declared.held.PortMemory.{PortMemory}
use Rattle.afdx_comport.specs.declared.held.PortMemory.TheVariants.{Sampling, Queuing}
use Rattle.afdx_comport.specs.declared.com_ports.ComPort.{ComPort}
use Rattle.afdx_comport.specs.Calls.{Put, Take, GiveBack, held_after}
use Rattle.afdx_comport.proofs.HeldLemmas.{put_and_read}
use Rattle.afdx_comport.proofs.PlaceLemmas.{stays}
use Rattle.afdx_end_systems.specs.ReadPorts.{AreRead, IsPassedOn, IsReadBack, port_passed}

-- there is a port at each place within
pub port_at : (ports : List ComPort) (place : ℕ) → place < length ports → (port : ComPort)
    × (slice_get ports place ≡ Some port)
port_at ports place within =
    elim (slice_get_cases ports place).1 [
      | inl found ↦ (found.0, found.2)
      | inr past ↦ absurd (omega (arith, past.0, within))
    ]

-- a list that was set at one place, read there and elsewhere
module _ {X : Type 0} where
  pub slice_get-set_here : (xs : List X) (i : ℕ) (x : X) → i < length xs → slice_get (slice_set xs i x) i ≡ Some x
  slice_get-set_here xs i x within =
      slice_get-get_or (slice_set xs i x) i x (subst (λ n. i < n) (sym (length-set xs i x)) within)
      ∙ ap Some (get_or-set_same xs i x x within)

  pub slice_get-set_there : (xs : List X) (i j : ℕ) (x : X) → (j ≡ i → ⊥)
      → slice_get (slice_set xs i x) j ≡ slice_get xs j
  slice_get-set_there xs i j x other =
      elim (slice_get_cases xs j).1 [
        | inl found ↦
            slice_get-get_or (slice_set xs i x) j found.0 (subst (λ n. j < n) (sym (length-set xs i x)) found.1)
            ∙ ap Some (get_or-set_other xs i j x found.0 other ∙ found.3) ∙ sym found.2
        | inr past ↦ slice_get_past (slice_set xs i x) j
            (subst (λ n. n ≤ j) (sym (length-set xs i x)) past.0) ∙ sym past.1
      ]

-- ports that differ from these at one place alone, where all is read
pub read_but_at : (ports after : List ComPort) (place : ℕ) (port : ComPort) → AreRead ports
    → slice_get after place ≡ Some port → IsRead port.held →
    ((j : ℕ) → (j ≡ place → ⊥) → slice_get after j ≡ slice_get ports j) → AreRead after
read_but_at ports after place port read here now same j other is =
    elim (cases_eq j place) [
      | inl e ↦ (let one : Some port ≡ Some other = sym here ∙ ap (slice_get after) (sym e)
          ∙ is in let it : port ≡ other = cc in subst (λ (p : ComPort). IsRead p.held) it now)
      | inr apart ↦ read j other (sym (same j apart) ∙ is)
    ]

-- what a port holds of which all was read, once a message was put there and taken out again
queue_calls : (held : PortMemory) (time : ℕ) (bytes : List ℕ) (room : ℕ) → IsRead held
    → with_spare room (without_first (with_message time bytes held))
    ≡ held_after held (GiveBack room ∷ Take ∷ Put (record { time = time; bytes = bytes }) ∷ [])
unfolding held_after
queue_calls held time bytes room all =
    ap (λ b. with_spare room (without_first (cond b held (with_message time bytes held))))
    (sym (put_and_read held time bytes all).room)

-- its memory is given back
still_read : (held : PortMemory) (room : ℕ) → IsRead held → IsRead (with_spare room held)
still_read (Sampling sample) room all = tt
still_read (Queuing line) room all = all

still_passed : (held : PortMemory) (m : TimedMessage) → IsRead held
    → IsRead (held_after held (GiveBack 0 ∷ Take ∷ Put m ∷ []))
still_passed held m all =
    subst IsRead (queue_calls held m.time m.bytes 0 all)
    (still_read (without_first (with_message m.time m.bytes held)) 0 (put_and_read held m.time m.bytes all).all)

-- ---- a message that is passed on

-- the ports behind it
pub record ArePassed (ports : List ComPort) (place : ℕ) (m : TimedMessage) (after : List ComPort) : Type 0 where
  pub read : AreRead after
  pub found : (link udp : ℕ) → position (is_for link udp) after ≡ position (is_for link udp) ports
  pub passed : IsPassedOn ports place m after

pub are_passed : (ports : List ComPort) (place : ℕ) (m : TimedMessage) (port : ComPort)
    → slice_get ports place ≡ Some port → AreRead ports
    → ArePassed ports place m (slice_set ports place (port_passed m port))
are_passed ports place m port here all =
    let new : ComPort = port_passed m port in
    let after : List ComPort = slice_set ports place new in
    let now : slice_get after place ≡ Some new =
    slice_get-set_here ports place new (slice_get_within ports place port here) in
    let others : (j : ℕ) → (j ≡ place → ⊥) → slice_get after j ≡ slice_get ports j =
    λ j other. slice_get-set_there ports place j new other in
    record {
      read = read_but_at ports after place new all now (still_passed port.held m (all place port here)) others;
      found = λ link udp. stays ports place link udp port new.held here;
      passed = record {
        here = λ other is. let one : Some port ≡ Some other = sym here ∙ is in let it : port ≡ other = cc in (
          0,
          subst (λ (p : ComPort). slice_get after place ≡ Some (port_passed m p)) it now,
        );
        others = others;
      };
    }

-- what a read gives behind the put
read_back : (held : PortMemory) (m : TimedMessage) → IsRead held
    → read_of (held_after held (Put m ∷ [])) ≡ Some m.bytes
unfolding held_after
read_back held m all =
    let put = put_and_read held m.time m.bytes all in
    ap (λ b. read_of (cond b held (with_message m.time m.bytes held))) put.room ∙ put.read

pub are_read_back : (ports after : List ComPort) (vl udp place : ℕ) (m : TimedMessage)
    → Some place ≡ position (is_for vl udp) ports → AreRead ports → IsPassedOn ports place m after
    → IsReadBack ports vl udp m after
are_read_back ports after vl udp place m found all passed = record {
  place = place;
  found = sym found;
  passed = passed;
  read = λ port here. read_back port.held m (all place port here);
}
