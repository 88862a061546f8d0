-- A submission where no emission is left.
use Rattle.std.proofs.Common.{◌≡◌, ℕ, ◌<◌, List, ◌∷◌, Option, Some, None, Result, Ok, Err, OnOk}
use Rattle.std.proofs.Common.{OnErr, IfErr, refl, ap, subst, arith}
use Rattle.afdx_config.specs.Admission.{byte_ns}
use Rattle.afdx_port.specs.History as port
use Rattle.afdx_port.specs.Schedule.{Turn, AreTurns}
use Rattle.afdx_port.specs.declared.left.Left.{Left}
use Rattle.afdx_port.specs.declared.port_state.PortState.{PortState}
use Rattle.afdx_send.specs.declared.fault.SendFault.{SendFault}
use Rattle.afdx_send.specs.declared.fault.SendFault.TheVariants.{NotMyLink, NoSuchSub, Empty}
use Rattle.afdx_send.specs.declared.fault.SendFault.TheVariants.{TooLarge, QueueFull, Memory}
use Rattle.afdx_send.specs.declared.sender_state.SenderState.{SenderState}
use Rattle.afdx_send.specs.Emissions.{entries_of}
use Rattle.afdx_send.specs.Frames.{Frame, facts}
use Rattle.afdx_send.specs.Releases.{Submission}
use Rattle.afdx_send.specs.Sender.{SenderHistory, at, with_submission, HasGiven, IsNextIn, IsQuiet}
use Rattle.afdx_send.specs.Sender.{IsIdle, IsSenderSound, LinkTakes, IsRefused, StandsFor, port_history}
use Rattle.afdx_send.proofs.EmitLemmas.{QuietIsNext, no_more}

-- where no emission is left, none is ready
pub none_ready : (w : SenderState) (h : SenderHistory) (until : ℕ) → StandsFor w (at h until)
    → ((p : PortState Frame) (hp : port.PortHistory Frame) → port.StandsFor facts p hp
    → AreTurns hp.byte_ns hp.entries hp.taken) →
    ((s : Turn Frame) → IsNextIn h s → until < s.end) → w.ready ≡ None
none_ready w h until st law none = by_ready w.ready refl
  where
    by_ready : (o : Option (Left Frame)) → w.ready ≡ o → w.ready ≡ None
    by_ready None e = e
    by_ready (Some left) e =
        absurd (let g : HasGiven (Some left) h.emitted st.given =
        subst (λ (o : Option (Left Frame)). HasGiven o h.emitted st.given) e st.has_given in
        let are = law w.output (port_history h st.released st.given w.output.clock) st.output in
        let are' : AreTurns (byte_ns h.system) (entries_of st.released) (g.0 ∷ h.emitted) =
        subst (λ (z : List (Turn Frame)). AreTurns (byte_ns h.system) (entries_of st.released)
        z) g.1 are in
        let late = none g.0 (record { released = st.released; are_releases = st.are_releases; next = are'.0 }) in
        let end : left.end ≡ g.0.end = ap (λ z. z.end) g.2 in
        let le = st.in_time left e in
        let p = st.port_clock in omega arith)

pub sound_by : {A : Type 0} (r : Result A SendFault) (new : SenderState) (h : SenderHistory) (P : ℕ → Type 0)
    (s : Submission) → OnOk r ((place : ℕ) × P place × StandsFor new (with_submission h place s))
    → OnErr r (StandsFor new h) → IsSenderSound new
sound_by (Ok x) new h P s ok err = (with_submission h ok.0 s, ok.2)
sound_by (Err e) new h P s ok err = (h, err)

-- time doesn't matter for what is admitted and refused
pub admits_at : (h : SenderHistory) (t u place vl sub n : ℕ) → LinkTakes (at h t) u place vl sub n
    → LinkTakes h u place vl sub n
admits_at h t u place vl sub n k =
    record {
      row = k.row;
      link = k.link;
      sub = k.sub;
      some = k.some;
      fits = k.fits;
      count = k.count;
      unreleased = k.unreleased;
      room = k.room;
    }

pub refused_at : (h : SenderHistory) (t u vl sub n : ℕ) (fault : SendFault)
    → IsRefused (at h t) u vl sub n fault → IsRefused h u vl sub n fault
refused_at h t u vl sub n NotMyLink k = k
refused_at h t u vl sub n NoSuchSub k = k
refused_at h t u vl sub n Empty k = k
refused_at h t u vl sub n TooLarge k = k
refused_at h t u vl sub n QueueFull k = k
refused_at h t u vl sub n Memory k = (k.0, admits_at h t u k.0 vl sub n k.1)

pub map_err : {A E : Type 0} (r : Result A E) (P Q : E → Type 0) → ((e : E) → P e → Q e) → IfErr r P → IfErr r Q
map_err (Ok x) P Q f h = search
map_err (Err e) P Q f h = f e h

pub map_ok : {A E : Type 0} (r : Result A E) (P Q : Type 0) → (P → Q) → OnOk r P → OnOk r Q
map_ok (Ok x) P Q f h = f h
map_ok (Err e) P Q f h = search

pub still_quiet : (w : SenderState) (t : ℕ) → QuietIsNext → IsSenderSound w → IsIdle w → w.clock ≡ t → IsQuiet w t
still_quiet w t law sound idle clock =
    (sound.0, sound.1, λ s n. (let lt = no_more w sound.0 law sound.1 idle s n in omega arith))

pub map_on_err : {A E : Type 0} (r : Result A E) (P Q : Type 0) → (P → Q) → OnErr r P → OnErr r Q
map_on_err (Ok x) P Q f h = search
map_on_err (Err e) P Q f h = f h
