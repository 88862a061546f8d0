-- What senders emit is lawful on two networks.
use Rattle.afdx_lawful.proofs.RecordedLemmas.{built_never_accused}
use Rattle.afdx_send.specs.Emissions.{own, sent_list}
use Rattle.afdx_send.specs.Laws.{EmissionsAreLawful}
use Rattle.afdx_senders.specs.Setups.{own_frames}
use Rattle.afdx_senders.proofs.RightSenderLemmas.{none_found_no_line}
use Rattle.afdx_law_recorded.specs.Emitted.{EmittedHasNoLine, EmittedIsNeverAccused}

pub emitted_never_accused : EmissionsAreLawful → EmittedIsNeverAccused
emitted_never_accused emits source xs range up h =
    let e = emits h.sender h.history h.stands h.place h.link h.stream h.sends h.sendings in
    built_never_accused source h.history.system h.link (sent_list (own h.place e.released)) h.stream xs range h.of
    e.lawful up h.recorded

pub emitted_no_line : EmissionsAreLawful → EmittedHasNoLine
emitted_no_line emits z came all =
    none_found_no_line z came all.by_time
    (λ place s is up.
    emitted_never_accused emits s (own_frames z place came) (all.in_range place s is) up (all.emitted place s is))
    all.strays
