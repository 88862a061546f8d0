-- Ports hold the newest messages that were delivered to them.
use Rattle.std.proofs.Common.{◌≡◌, ℕ, Bool, true, false, cond, ◌&&◌, nat_eq, Option, Some, None, List, [], ◌∷◌}
use Rattle.std.proofs.Common.{refl, sym, ap, ◌∙◌, subst, ◌⊎◌, inl, inr, map}
use Rattle.std.specs.Prelude.{position, slice_get, filter}
use Rattle.std.specs.List.{AllByRecursion}
use Rattle.std.proofs.lemmas.Bool.{cases_eq, and_parts, eqb-true}
use Rattle.std.proofs.lemmas.List.Quantifiers.{position-Some}
use Rattle.std.proofs.lemmas.Option.{get_or_from_slice_get}
use Rattle.afdx_frame.proofs.ListLemmas.{AllByRecursion-slice_get}
use Rattle.afdx_config.specs.Rows.{Rows, PortRow}
use Rattle.afdx_config.specs.declared.rows.Kind.{Kind}
use Rattle.afdx_config.specs.declared.rows.Kind.TheVariants as kind
use Rattle.afdx_receive.specs.Arrivals.{Arrived}
use Rattle.afdx_receive.specs.Answers.{Answer, Message, Dropped, answer_to}
use Rattle.afdx_receive.specs.declared.reception.DropReason.{DropReason}
use Rattle.afdx_comport.specs.Messages.{TimedMessage}
use Rattle.afdx_comport.specs.Held.{IsRead}
use Rattle.afdx_comport.specs.Ports.{empty_of, port_at_first, ports_at_first, is_for}
use Rattle.afdx_comport.specs.Calls.{Put, Take, GiveBack, held_after}
use Rattle.afdx_comport.specs.declared.held.PortMemory.{PortMemory}
use Rattle.afdx_comport.specs.declared.held.PortMemory.TheVariants.{Sampling, Queuing}
use Rattle.afdx_comport.specs.declared.com_ports.ComPort.{ComPort}
use Rattle.afdx_comport.proofs.HeldLemmas.{put_and_read}
use Rattle.afdx_end_systems.proofs.SystemsLemmas.{same}
use Rattle.afdx_end_systems.specs.ReadPorts.{AreRead, IsPassedOn, newer, newest_to, HoldsNewest, HoldNewest}

-- ---- new ports

empty_holds : (k : Kind) (depth : ℕ) → HoldsNewest None (empty_of k depth)
empty_holds kind.Sampling depth = refl
empty_holds kind.Queuing depth = refl

all_empty : (system : ℕ) (rows : List PortRow)
    → AllByRecursion (λ (port : ComPort). HoldsNewest None port.held) (ports_at_first system rows)
all_empty system [] = tt
all_empty system (row ∷ rows) = at (nat_eq row.system system) (all_empty system rows)
  where
    at : (b : Bool) → AllByRecursion (λ (port : ComPort). HoldsNewest None port.held) (ports_at_first system rows) →
        AllByRecursion (λ (port : ComPort). HoldsNewest None port.held) (map port_at_first
        (cond b (row ∷ filter (λ (r : PortRow). nat_eq r.system system) rows)
        (filter (λ (r : PortRow). nat_eq r.system system) rows)))
    at true others = (empty_holds row.kind row.depth, others)
    at false others = others

pub newest_at_first : (rows : Rows) (system : ℕ) (ports : List ComPort)
    → ports ≡ ports_at_first system rows.ports → HoldNewest rows system [] ports
unfolding newest_to
newest_at_first rows system ports are = λ vl udp place port found here.
    AllByRecursion-slice_get (λ (p : ComPort). HoldsNewest None p.held) (ports_at_first system rows.ports) place port
    (all_empty system rows.ports) (ap (λ (xs : List ComPort). slice_get xs place) (sym are) ∙ here)

-- ---- what arrives

newest_step : (rows : Rows) (system vl udp : ℕ) (x : Arrived) (past : List Arrived) (answer : Answer)
    → answer ≡ answer_to rows system past x → newest_to rows system vl udp (x ∷ past)
    ≡ newer vl udp x.time answer (newest_to rows system vl udp past)
unfolding newest_to
newest_step rows system vl udp x past answer is =
    ap (λ (a : Answer). newer vl udp x.time a (newest_to rows system vl udp past)) (sym is)

some_same : {n m : ℕ} → Some n ≡ Some m → n ≡ m
some_same e = cc

-- the port that is found is that of the link and the UDP port
found_port : (vl udp place : ℕ) (ports : List ComPort) (port : ComPort)
    → position (is_for vl udp) ports ≡ Some place → slice_get ports place ≡ Some port
    → (port.link.0 ≡ vl) × (port.udp ≡ udp)
found_port vl udp place ports port found here =
    let passes : is_for vl udp port ≡ true =
    ap (is_for vl udp) (sym (get_or_from_slice_get ports place port port here))
    ∙ (position-Some (is_for vl udp) ports place port found).1 in
    let both = and_parts (nat_eq port.link.0 vl) (nat_eq port.udp udp) passes in
    (eqb-true port.link.0 vl both.0, eqb-true port.udp udp both.1)

-- what a port holds that was put a message, which was taken out again
holds_put : (held : PortMemory) (m : TimedMessage) (room : ℕ) → IsRead held
    → HoldsNewest (Some m) (held_after held (GiveBack room ∷ Take ∷ Put m ∷ []))
unfolding held_after
holds_put (Sampling sample) m room all = refl
holds_put (Queuing line) m room all =
    let put = put_and_read (Queuing line) m.time m.bytes all in
    rw put.room put.all.0

module _ (rows : Rows) (system : ℕ) (past : List Arrived) (x : Arrived) where
  -- a frame that is dropped changes nothing
  pub newest_dropped : (why : DropReason) (ports : List ComPort) → Dropped why ≡ answer_to rows system past x
      → HoldNewest rows system past ports → HoldNewest rows system (x ∷ past) ports
  newest_dropped why ports is hold = λ vl udp place port found here.
      subst (λ (n : Option TimedMessage). HoldsNewest n port.held)
      (sym (newest_step rows system vl udp x past (Dropped why) is)) (hold vl udp place port found here)

  -- nor does a message for another port
  newest_other : (vl udp link to : ℕ) (payload : List ℕ) (held : PortMemory)
      → Message link to payload ≡ answer_to rows system past x → (nat_eq link vl && nat_eq to udp) ≡ false
      → HoldsNewest (newest_to rows system vl udp past) held
      → HoldsNewest (newest_to rows system vl udp (x ∷ past)) held
  newest_other vl udp link to payload held is other holds =
      let before = newest_to rows system vl udp past in
      let message : Option TimedMessage = Some (record { time = x.time; bytes = payload }) in
      subst (λ (n : Option TimedMessage). HoldsNewest n held)
      (sym (newest_step rows system vl udp x past (Message link to payload) is
      ∙ ap (λ b. cond b message before) other)) holds

  -- a message that is passed on is the newest of its port
  pub newest_passed : (link to place : ℕ) (payload : List ℕ) (ports after : List ComPort) (port : ComPort)
      → Message link to payload ≡ answer_to rows system past x → position (is_for link to) ports ≡ Some place
      → slice_get ports place ≡ Some port
      → ((vl udp : ℕ) → position (is_for vl udp) after ≡ position (is_for vl udp) ports)
      → IsPassedOn ports place (record { time = x.time; bytes = payload }) after → AreRead ports
      → HoldNewest rows system past ports → HoldNewest rows system (x ∷ past) after
  newest_passed link to place payload ports after port is at-place here stay put all hold =
      λ vl udp other now found there. by vl udp other now (sym (stay vl udp) ∙ found) there (cases_eq other place)
    where
      message : TimedMessage
      message = record { time = x.time; bytes = payload }

      its : (port.link.0 ≡ link) × (port.udp ≡ to)
      its = found_port link to place ports port at-place here

      made : (room : ℕ) → ComPort
      made room = record port { held = held_after port.held (GiveBack room ∷ Take ∷ Put message ∷ []) }

      by : (vl udp other : ℕ) (now : ComPort) → position (is_for vl udp) ports ≡ Some other
          → slice_get after other ≡ Some now → (other ≡ place) ⊎ (other ≡ place → ⊥)
          → HoldsNewest (newest_to rows system vl udp (x ∷ past)) now.held
      by vl udp other now found there (inl e) =
          let own = found_port vl udp place ports port (found ∙ ap Some e) here in
          let calls = put.here port here in
          let one : Some (made calls.0) ≡ Some now = sym calls.1 ∙ ap (slice_get after) (sym e) ∙ there in
          let it : made calls.0 ≡ now = cc in
          let newest : newest_to rows system vl udp (x ∷ past) ≡ Some message =
          newest_step rows system vl udp x past (Message link to payload) is
          ∙ rw (
            same link vl (sym its.0 ∙ own.0),
            same to udp (sym its.1 ∙ own.1),
          ) refl in
          subst (λ (p : ComPort). HoldsNewest (newest_to rows system vl udp (x ∷ past)) p.held) it
          (rw newest (holds_put port.held message calls.0 (all place port here)))
      by vl udp other now found there (inr apart) =
          newest_other vl udp link to payload now.held is
          (not_both (nat_eq link vl && nat_eq to udp) refl)
          (hold vl udp other now found (sym (put.others other apart) ∙ there))
        where
          not_both : (b : Bool) → (nat_eq link vl && nat_eq to udp) ≡ b → b ≡ false
          not_both true e =
              let both = and_parts (nat_eq link vl) (nat_eq to udp) e in
              let places : Some place ≡ Some other =
              sym at-place
              ∙ rw (eqb-true link vl both.0, eqb-true to udp both.1) refl ∙ found in
              absurd (apart (sym (some_same places)))
          not_both false e = refl
