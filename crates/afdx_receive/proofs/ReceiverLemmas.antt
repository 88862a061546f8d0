-- What a frame that arrives does to the memories of the links.
use Rattle.std.proofs.Common.{◌≡◌, ℕ, ◌*◌, Bool, true, false, cond, Option, Some, None, List, []}
use Rattle.std.proofs.Common.{◌∷◌, eqb, nat_eq, Ok, refl, sym, ◌∙◌, ap, subst}
use Rattle.std.proofs.lemmas.Bool.{eqb-true, false_from_ne_true}
use Rattle.std.specs.Option.{IsSome, option_map}
use Rattle.afdx_frame.specs.Parts.{FrameParts, frame_of, IsFrameOf}
use Rattle.afdx_config.specs.Rows.{Rows, LinkRow}
use Rattle.afdx_receive.specs.Integrity.{Incoming, previous}
use Rattle.afdx_receive.specs.Memory.{Remembers, kept_number, sequence_number_of}
use Rattle.afdx_receive.specs.Kept.{Kept, memory_at, IsConsidered}
use Rattle.afdx_receive.specs.Arrivals.{Arrived, incoming, frames_of}
use Rattle.afdx_frame.specs.Carried.{carried_by}
use Rattle.afdx_config.specs.Reading.{has_port}
use Rattle.afdx_receive.specs.Answers.{Answer, Message, Dropped, subscription, answer_to_carried}
use Rattle.afdx_receive.specs.Answers.{answer_by, answer_to, at_ports}
use Rattle.afdx_receive.specs.Reception.{IsReceived, IsAnswer}
use Rattle.afdx_receive.specs.Standing.{standing}
use Rattle.afdx_receive.specs.declared.memory.Standing.{Standing}
use Rattle.afdx_frame.specs.declared.link.Side.{Side}
use Rattle.afdx_frame.specs.declared.link.Side.TheVariants.{A, B}
use Rattle.afdx_receive.specs.StandsFor.{LinkStandsFor, LinksStandFor, PortsStandFor}
use Rattle.afdx_receive.specs.StandsFor.{Receives, Selects, memory_at_first}
use Rattle.afdx_receive.specs.declared.reception.DropReason.TheVariants.{NoPort}
use Rattle.afdx_receive.specs.declared.receiver.Receiver.{Receiver}
use Rattle.afdx_receive.specs.declared.memory.LinkMemory.{LinkMemory}
use Rattle.afdx_receive.proofs.ReceptionLemmas.{frames_with, frames_other, answer_received}

-- what stands of a link that has a memory
pub record Subscribed (tables : Rows) (system : ℕ) (past : List Arrived) (vl : ℕ) (memory : LinkMemory) : Type 0 where
  pub link : LinkRow
  pub subscribed : subscription tables system vl ≡ Some link
  pub skew : memory.skew_ns ≡ 1000 * link.skew_us
  pub remembers : Remembers memory (frames_of vl past)

pub subscribed_at : (tables : Rows) (system : ℕ) (past : List Arrived) (links : Kept) (vl : ℕ) (memory : LinkMemory) →
    LinksStandFor tables system past links → Some memory ≡ memory_at links vl → Subscribed tables system past vl memory
subscribed_at tables system past links vl memory stands found =
    let here = rw (← found) at (stands vl) in
    record { link = here.0; subscribed = here.1; skew = here.2; remembers = here.3 }

-- no memory: the system doesn't receive the link
pub unsubscribed_at : (tables : Rows) (system : ℕ) (past : List Arrived) (links : Kept) (vl : ℕ) →
    LinksStandFor tables system past links → None ≡ memory_at links vl → subscription tables system vl ≡ None
unsubscribed_at tables system past links vl stands missing = rw (← missing) at (stands vl)

-- a memory goes on to stand for its link if the link's frames stay the same
stays : (tables : Rows) (system : ℕ) (past after : List Arrived) (vl : ℕ) (held : Option LinkMemory)
    → LinkStandsFor tables system past vl held →
    (IsSome held → frames_of vl after ≡ frames_of vl past) → LinkStandsFor tables system after vl held
stays tables system past after vl None stands same = stands
stays tables system past after vl (Some memory) stands same =
    (stands.0, stands.1, stands.2, subst (λ (came : List Incoming). Remembers memory came) (sym (same refl)) stands.3)

-- bytes that are no frame change no link's frames
pub all_stay : (tables : Rows) (system : ℕ) (past after : List Arrived) (links : Kept) →
    LinksStandFor tables system past links → ((vl : ℕ) → frames_of vl after ≡ frames_of vl past)
    → LinksStandFor tables system after links
all_stay tables system past after links stands same vl =
    stays tables system past after vl (memory_at links vl) (stands vl) (λ some. same vl)

none_some : (held : Option LinkMemory) → IsSome held → None ≡ held → ⊥
none_some None some none = cc
none_some (Some memory) some none = cc

-- a frame of a link that the system doesn't receive changes no memory
pub others_stay : (tables : Rows) (system : ℕ) (past : List Arrived) (x : Arrived) (frame : FrameParts) (links : Kept) →
    LinksStandFor tables system past links → frame_of x.bytes ≡ Ok frame → None ≡ memory_at links frame.link.0 →
    LinksStandFor tables system (x ∷ past) links
others_stay tables system past x frame links stands is-frame missing vl =
    stays tables system past (x ∷ past) vl (memory_at links vl) (stands vl)
    (λ some. frames_other x past frame vl is-frame (apart some))
  where
    same_key : eqb frame.link.0 vl ≡ true → memory_at links frame.link.0 ≡ memory_at links vl
    same_key e = ap (λ (n : ℕ). memory_at links n) (eqb-true frame.link.0 vl e)

    apart : IsSome (memory_at links vl) → eqb frame.link.0 vl ≡ false
    apart some = false_from_ne_true (eqb frame.link.0 vl)
        (λ e. none_some (memory_at links vl) some (missing ∙ same_key e))

-- a frame changes its own link's memory alone
pub link_joins : (tables : Rows) (system : ℕ) (past : List Arrived) (x : Arrived)
    (frame : FrameParts) (links after : Kept)
    (memory moved : LinkMemory) →
    LinksStandFor tables system past links → frame_of x.bytes ≡ Ok frame
    → Subscribed tables system past frame.link.0 memory →
    moved.skew_ns ≡ memory.skew_ns → Remembers moved (incoming x frame ∷ frames_of frame.link.0 past) →
    ((q : ℕ) → memory_at after q ≡ cond (nat_eq frame.link.0 q) (Some moved) (memory_at links q)) →
    LinksStandFor tables system (x ∷ past) after
link_joins tables system past x frame links after memory moved stands is-frame here skew remembers
    updates q = at (eqb frame.link.0 q) refl
  where
    joined : frames_of q (x ∷ past) ≡ cond (eqb frame.link.0 q) (incoming x frame ∷ frames_of q past) (frames_of q past)
    joined = frames_with x past frame q is-frame

    at : (b : Bool) → eqb frame.link.0 q ≡ b → LinkStandsFor tables system (x ∷ past) q (memory_at after q)
    at true e =
        let same : frame.link.0 ≡ q = eqb-true frame.link.0 q e in
        let found : memory_at after q ≡ Some moved = updates q ∙ ap (λ b. cond b (Some moved) (memory_at links q)) e in
        let own : frames_of q (x ∷ past) ≡ incoming x frame ∷ frames_of q past = joined
        ∙ ap (λ b. cond b (incoming x frame ∷ frames_of q past)
        (frames_of q past)) e in
        rw (found, own, ← same) (here.link, here.subscribed, skew ∙ here.skew, remembers)
    at false e =
        let found : memory_at after q ≡ memory_at links q = updates q ∙ ap (λ b. cond b (Some moved)
        (memory_at links q)) e in
        let other : frames_of q (x ∷ past) ≡ frames_of q past = joined
        ∙ ap (λ b. cond b (incoming x frame ∷ frames_of q past) (frames_of q past)) e in
        rw found (stays tables system past (x ∷ past) q (memory_at links q) (stands q) (λ some. other))

-- a frame that its link's memory took in: how it stands, what that answers, and what the memories stand for then
pub record Taken (tables : Rows) (system : ℕ) (past : List Arrived) (x : Arrived) (frame : FrameParts) (how : Standing)
    (after : Kept) : Type 0 where
  pub received : IsReceived tables system past x frame how
  pub answers : answer_by how
      (answer_to_carried frame.link.0 (has_port tables.ports system frame.link.0)
      (carried_by x.bytes)) ≡ answer_to tables system past x
  pub links : LinksStandFor tables system (x ∷ past) after

pub taken : (tables : Rows) (system : ℕ) (past : List Arrived) (x : Arrived) (frame : FrameParts)
    (links after : Kept) (how : Standing) →
    LinksStandFor tables system past links → IsFrameOf x.bytes frame → frame_of x.bytes ≡ Ok frame →
    IsConsidered links frame.link.0 x.time x.side frame.number how after → Taken tables system past x frame how after
taken tables system past x frame links after how stands is-frame computed took =
    let here : Subscribed tables system past frame.link.0 took.memory =
    subscribed_at tables system past links frame.link.0 took.memory stands (sym took.found) in
    let stood : standing (1000 * here.link.skew_us) (frames_of frame.link.0 past) (incoming x frame) ≡ how =
    sym (took.stands (frames_of frame.link.0 past) frame.link.0 x.bytes here.remembers
    ∙ ap (λ n. standing n (frames_of frame.link.0 past) (incoming x frame)) here.skew) in
    record {
      received = record { is_frame = is-frame; link = here.link; subscribed = here.subscribed; stands = stood };
      answers = answer_received tables system past x frame here.link how computed here.subscribed stood;
      links = link_joins tables system past x frame links after took.memory took.moved stands computed here took.skew
          (took.remembers (frames_of frame.link.0 past) frame.link.0 x.bytes here.remembers) took.updates;
    }

-- what is kept of a link to begin with
pub link_at_first : (tables : Rows) (system vl : ℕ) (o : Option LinkRow) → subscription tables system vl ≡ o →
    LinkStandsFor tables system [] vl (option_map memory_at_first o)
unfolding frames_of
link_at_first tables system vl None e = e
link_at_first tables system vl (Some link) e = (link, e, refl, record { numbers = numbers; winner = refl })
  where
    numbers : (side : Side) → kept_number (memory_at_first link) side ≡ option_map sequence_number_of (previous side [])
    numbers A = refl
    numbers B = refl

-- an answer where it is known whether the system has its UDP port
pub port_is : (tables : Rows) (system vl udp : ℕ) (payload : List ℕ) (is : Bool)
    → has_port tables.ports system vl udp ≡ is →
    at_ports tables system (Message vl udp payload) ≡ cond is (Message vl udp payload) (Dropped NoPort)
port_is tables system vl udp payload is e = ap (λ b. cond b (Message vl udp payload) (Dropped NoPort)) e

-- what a receiver of links selects, once the UDP port is looked up
pub looked_up : (tables : Rows) (system : ℕ) (past : List Arrived) (x : Arrived)
    (answer told : Answer) (new : Receiver) →
    Selects tables system past x answer new.links → at_ports tables system answer ≡ told →
    PortsStandFor tables system new.ports → Receives tables system past x told new
looked_up tables system past x answer told new selected is ports = record {
  computed = sym is ∙ selected.computed;
  right = subst (IsAnswer tables system past x) is selected.right;
  stands = record { links = selected.stands; ports = ports };
}
