use Rattle.std.proofs.Common.{ℕ, ◌<◌, length, sym, arith, refl, ap, ◌∙◌, subst, ◌≡◌, slice_get, Some, None, replicate, false}
use Rattle.afdx_frame.proofs.ListLemmas.{slice_get-within, slice_get-one}
use Rattle.afdx_config.specs.Admission.{links_from}
use Rattle.afdx_config.specs.Lawful.{IsLawfulSwitch}
use Rattle.afdx_config.specs.Rows.{SystemRow, Rows, system_row}
use Rattle.afdx_law_bounds.proofs.TableLemmas.{system-time}
use Rattle.afdx_port.specs.Held.{IsByteTime}
use Rattle.afdx_port.specs.History as port
use Rattle.afdx_send.specs.declared.sender_state.SenderState.{SenderState}
use Rattle.afdx_send.specs.Frames.{facts}
use Rattle.afdx_send.specs.New.{AreNewLines}
use Rattle.afdx_send.specs.Sender.{no_calls}
use Rattle.afdx_send.proofs.NewLemmas.{are_sent, stands_new, quiet_new, held_new, IsNew}
use Rattle.afdx_send.proofs.build.build.Goals as goal

made : goal.In_ok-output → SenderState
made c = record {
  system_id = c.system-row.result.now.id;
  partition = c.system-row.result.now.partition;
  clock = 0;
  is_idle = false;
  lines = c.in_ok-lines.lines;
  places = c.in_ok-places.places;
  agenda = c.in_ok-agenda.agenda;
  output = c.in_ok-output.output;
  ready = None;
  rooms = tt;
  frame_rooms = tt;
}

-- a system stands among those of the tables
within : (c : goal.In_ok-output) → c.args.system.0 < length c.args.tables.now.systems
within c =
    let lawful : IsLawfulSwitch c.args.tables.now =
    subst IsLawfulSwitch c.tables-tables.ensures.tables c.system-row.ensures.lawful in
    omega (arith, c.requires.system, lawful.own)

pub new-requires-2-clause-rate : goal.new-requires-2-clause-rate
new-requires-2-clause-rate c =
    let row : SystemRow = system_row c.system-row.result.now in
    subst IsByteTime (sym (c.byte_ns-byte_ns.ensures.time row c.system-row.ensures.row))
    (system-time c.tables-tables.result.now c.args.system.0 row c.system-row.ensures.lawful
    c.system-row.ensures.row)

is_new : (c : goal.In_ok-output) (s : SystemRow)
    → slice_get c.args.tables.now.systems c.args.system.0 ≡ Some s
    → IsNew (made c) c.args.tables.now c.args.system.0 s
unfolding made
is_new c s at =
    let same : system_row c.system-row.result.now ≡ s =
    slice_get-one c.args.tables.now.systems c.args.system.0 (system_row c.system-row.result.now) s
    (subst (λ (t : Rows). slice_get t.systems c.args.system.0
    ≡ Some (system_row c.system-row.result.now)) c.tables-tables.ensures.tables
    c.system-row.ensures.row) at in
    subst (λ (z : SystemRow). IsNew (made c) c.args.tables.now c.args.system.0 z) same (record {
      system_id = refl;
      partition = refl;
      clock = refl;
      ready = refl;
      lines = subst (λ (t : Rows). AreNewLines (links_from t.links c.args.system.0)
          c.in_ok-lines.lines.items) c.tables-tables.ensures.tables c.in_ok-lines.ensures.new;
      place_count = (let ok = c.in_ok-places.places.ok.0 in let n = c.in_ok-places.ensures.count in omega arith);
      places = c.in_ok-places.ensures.each;
      played = c.in_ok-agenda.ensures.played;
      agenda = c.in_ok-agenda.ensures.none
          ∙ ap (λ n. replicate n None) (let ok = c.in_ok-lines.lines.ok.0 in let n = c.len.ensures
          in omega arith);
      agenda_count = c.in_ok-agenda.ensures.count
          ∙ (let ok = c.in_ok-lines.lines.ok.0 in let n = c.len.ensures in omega arith);
      output = subst (λ (n : ℕ). port.StandsFor facts c.in_ok-output.output (port.no_calls n 65536))
          (c.byte_ns-byte_ns.ensures.time (system_row c.system-row.result.now) c.system-row.ensures.row)
          c.in_ok-output.ensures.stands;
      port_clock = c.in_ok-output.ensures.clock;
      empty = c.in_ok-output.ensures.held;
    })

pub returns-clause-stands : goal.returns-clause-stands
unfolding made
returns-clause-stands c = λ s at.
    let lawful : IsLawfulSwitch c.args.tables.now =
    subst IsLawfulSwitch c.tables-tables.ensures.tables c.system-row.ensures.lawful in
    stands_new (made c) c.args.tables.now c.args.system.0 s
    (are_sent c.args.tables.now c.args.system.0 s c.tables_are_served.ensures.senders lawful
    c.tables-tables.ensures.admitted at c.requires.system) (is_new c s at)

pub returns-clause-sound : goal.returns-clause-sound
returns-clause-sound c = let r =
    slice_get-within c.args.tables.now.systems c.args.system.0 (within c) in
    (no_calls c.args.tables.now c.args.system.0 r.0, returns-clause-stands c r.0 r.1)

pub returns-clause-quiet : goal.returns-clause-quiet
unfolding made
returns-clause-quiet c = λ t. let r =
    slice_get-within c.args.tables.now.systems c.args.system.0 (within c) in
    quiet_new (made c) c.args.tables.now c.args.system.0 r.0 (returns-clause-stands c r.0 r.1) t

pub returns-clause-held : goal.returns-clause-held
unfolding made
returns-clause-held c = let r = slice_get-within c.args.tables.now.systems c.args.system.0 (within c)
    in held_new (made c) c.args.tables.now c.args.system.0 r.0 (is_new c r.0 r.1)
