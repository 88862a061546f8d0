-- The messages that a sender took can be built into frames.
use Rattle.std.proofs.Common.{◌≡◌, ℕ, ◌+◌, ◌≤◌, List, length, Some}
use Rattle.std.proofs.Common.{arith}
use Rattle.std.specs.List.{slice_get}
use Rattle.std.proofs.lemmas.Option.{slice_get_within}
use Rattle.afdx_frame.proofs.ListLemmas.{slice_get-within}
use Rattle.afdx_config.specs.Lawful.{IsSystem, IsLink}
use Rattle.afdx_config.specs.Rows.{SystemRow, LinkRow}
use Rattle.afdx_config.specs.SentList.{Message, CanBeSent}
use Rattle.afdx_send.specs.declared.sender_state.SenderState.{SenderState}
use Rattle.afdx_send.specs.Emissions.{own_submissions}
use Rattle.afdx_send.specs.Releases.{Submission, IsMessage}
use Rattle.afdx_send.specs.Sender.{SenderHistory, StandsFor}

-- all that was taken
abbrev pub AllMessages : List LinkRow → List (List Submission) → Type 0
AllMessages links taken = (i j : ℕ) (l : LinkRow) (s : Submission) → slice_get links i ≡ Some l
    → slice_get (own_submissions taken i) j ≡ Some s → IsMessage s.message

pub all_messages : (w : SenderState) (h : SenderHistory) → StandsFor w h → AllMessages h.links h.taken
all_messages w h st i j l s row here =
    let below = slice_get_within h.links i l row in
    let count = st.count in
    let line = slice_get-within w.lines.items i (omega (arith, below, count)) in
    (st.lines i line.0 l line.1 row).messages j s here

pub can_be_sent : (profile n : ℕ) (s : SystemRow) (l : LinkRow) (m : Message) → IsSystem profile s
    → IsLink n l → IsMessage m → length m.payload + 47 ≤ l.lmax → CanBeSent s l m
can_be_sent profile n s l m system link is fits = record {
  buildable = record {
    least = link.lmin.0;
    most = (let low = link.lmin.1 in omega (arith, low));
    some = is.some;
    fits = (let high = link.lmax.1 in omega (arith, high, fits));
    vl = (let high = link.vl.1 in omega (arith, high));
    from_port = is.udp;
    to_port = is.udp;
    system_id = (let high = system.id.1 in omega (arith, high));
    partition = (let high = system.partition.1 in omega (arith, high));
  };
  bytes = is.bytes;
}
