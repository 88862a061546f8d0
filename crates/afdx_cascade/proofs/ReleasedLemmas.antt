-- What the systems of a cascade send.
use Rattle.std.proofs.Common.{ℕ, List, ap, ◌∙◌}
use Rattle.afdx_frame.specs.Reading.{BuiltIsComputed}
use Rattle.afdx_config.specs.Switches.{NamedRows}
use Rattle.afdx_admit.specs.Cascade.{RowAt}
use Rattle.afdx_send.specs.Sender.{SenderHistory}
use Rattle.afdx_law_promises.specs.Sent.{stream_of}
use Rattle.afdx_law_promises.proofs.SentLemmas.{one-side, sent-is-fed, sent-so-far}
use Rattle.afdx_cascade.specs.EndToEnd.{begins_at}
use Rattle.afdx_cascade.specs.Plans.{tables_of}
use Rattle.afdx_cascade.specs.Receivers.{IsStreamFrom, heard_by}
use Rattle.afdx_cascade.specs.Released.{HasEmitted, OneSideBringsAll, ReleasedComeOnce, ReleasedComeSoFar, released_of}
use Rattle.afdx_cascade.specs.SwitchEvents.{came_to}

-- what it emitted of the link is a lawful stream
pub emitted-from : (switches : List NamedRows) (first : RowAt) (h : SenderHistory) (at : ℕ)
    → (e : HasEmitted switches first h at)
    → IsStreamFrom switches first (released_of switches first h at e) (stream_of h.system first.row.vl h.emitted)
emitted-from switches first h at e = record { sender = h.system; stands = e.stands; lawful = e.lawfully.lawful }

pub released-once : BuiltIsComputed → ReleasedComeOnce
released-once computed switches so_far r before system at h once way e merged =
    let first = begins_at r before in
    once r before system (released_of switches first h at e) (stream_of h.system first.row.vl h.emitted) way
    (emitted-from switches first h at e)
    (sent-is-fed computed (tables_of switches first.switch) (came_to first.switch so_far) h.system first.row h.emitted
    e.stands e.buildable merged)

pub released-so-far : BuiltIsComputed → ReleasedComeSoFar
released-so-far computed switches so_far r before system at h once way e merged =
    let first = begins_at r before in
    once r before system (released_of switches first h at e) (stream_of h.system first.row.vl h.emitted) way
    (emitted-from switches first h at e)
    (sent-so-far computed (tables_of switches first.switch) (came_to first.switch so_far) h.system first.row h.emitted
    e.stands e.buildable merged)

pub one-side-brings : BuiltIsComputed → OneSideBringsAll
one-side-brings computed switches so_far r before system at h whole once way e merged sent =
    let first = begins_at r before in
    released-so-far computed switches so_far r before system at h once way e merged
    ∙ ap (heard_by switches system r)
    (one-side computed (tables_of switches first.switch) (came_to first.switch so_far) h at first.row whole e.stands
    e.buildable sent e.lawfully)
