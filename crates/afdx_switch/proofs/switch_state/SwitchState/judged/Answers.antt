use Rattle.std.proofs.Common.{◌≡◌, ◌≤◌, ℕ, List, true, sym, ◌∙◌, ap, subst, length, Some}
use Rattle.std.proofs.lemmas.Option.{slice_get_read}
use Rattle.afdx_frame.specs.declared.seals.Seal.{Seal}
use Rattle.afdx_frame.specs.declared.seals.Seal.TheVariants.{Right, Wrong, Missing}
use Rattle.afdx_frame.specs.Parts.{bytes_of, parts_of}
use Rattle.afdx_frame.specs.Sealing.{is_sealed, sealed}
use Rattle.afdx_frame.specs.Seals.{whole, IsSealedAs}
use Rattle.afdx_frame.proofs.SealsLemmas.{whole-right}
use Rattle.afdx_police.specs.Arrival.{arrival_with}
use Rattle.afdx_police.specs.LinkAccounts.{account_of}
use Rattle.afdx_police.specs.Rule.{Rule}
use Rattle.afdx_police.specs.Shape.{fault_of}
use Rattle.afdx_police.proofs.FrameLemmas.{frame_is_sealed, judged_without, no_frame}
use Rattle.afdx_switch.specs.Lines.{IsNamedAt}
use Rattle.afdx_switch.specs.Tables.{rows_of}
use Rattle.afdx_switch.specs.declared.line.Line.{Line}
use Rattle.afdx_switch.proofs.FoundLemmas.{any-fault, stranger-fault, row-fault}
use Rattle.afdx_switch.proofs.NamedLemmas.{no-row, row-at}
use Rattle.afdx_switch.proofs.switch_state.SwitchState.judged.Goals as goal

-- a sealed frame is its message, sealed
right : (seal : Seal) (message : List ℕ) → IsSealedAs seal message → is_sealed (whole seal message) ≡ true
    → whole seal message ≡ sealed message
right Right message known e = whole-right message
right Wrong message known e = absurd (cc (known, e))
right Missing message known e = absurd (cc (known, e))

pub returns-in-Err-clause-faulted : goal.returns-in-Err-clause-faulted
returns-in-Err-clause-faulted c t side h tag time st =
    let bytes = (bytes_of c.args.frame) in
    any-fault t (arrival_with tag time side c.args.port bytes) c.into.result
    (λ rule. no_frame rule c.args.port bytes c.in-Err.fault c.in-Err.ensures.computed ∙ ap Some (sym c.into.ensures))

pub returns-in_default-clause-faulted : goal.returns-in_default-clause-faulted
returns-in_default-clause-faulted c t side h tag time st =
    let bytes = (bytes_of c.args.frame) in
    stranger-fault t (arrival_with tag time side c.args.port bytes) _
    (no-row (rows_of t) bytes c.vl.result (c.in-Ok.ensures.at_places.link ∙ ap Some (sym c.vl.ensures))
    (c.in_default.ensures.place t side h st))
    (judged_without c.args.port bytes (parts_of c.in-Ok.view) c.in-Ok.ensures.computed)

pub returns-in-Some-fault-clause-faulted : goal.returns-in-Some-fault-clause-faulted
returns-in-Some-fault-clause-faulted c t side h tag time st =
    let w = c.args.self.now in
    let bytes = (bytes_of c.args.frame) in
    let at = slice_get_read w.lines.items _ c.in-Some.place c.index.result.now w.lines.ok.0
    c.in-Some.ensures.within c.index.ensures in
    let n : IsNamedAt (rows_of t) bytes c.in-Some.place =
    row-at (rows_of t) bytes c.vl.result c.in-Some.place
    (c.in-Ok.ensures.at_places.link ∙ ap Some (sym c.vl.ensures)) (c.in-Some.ensures.place t side h st) in
    let is = st.lines c.in-Some.place n.row c.index.result.now n.stands at in
    row-fault t (arrival_with tag time side c.args.port bytes) c.in-Some-fault.reason c.in-Some.place n
    (ap (λ (r : Rule). fault_of (Some r) c.args.port bytes) (sym is.account.by_rule)
    ∙ sym c.in-Some-fault.ensures.reason)

pub returns-in-None-clause-found : goal.returns-in-None-clause-found
returns-in-None-clause-found c t side h tag time st =
    let w = c.args.self.now in
    let bytes = (bytes_of c.args.frame) in
    let at = slice_get_read w.lines.items _ c.in-Some.place c.index.result.now w.lines.ok.0
    c.in-Some.ensures.within c.index.ensures in
    let n : IsNamedAt (rows_of t) bytes c.in-Some.place =
    row-at (rows_of t) bytes c.vl.result c.in-Some.place
    (c.in-Ok.ensures.at_places.link ∙ ap Some (sym c.vl.ensures)) (c.in-Some.ensures.place t side h st) in
    let is = st.lines c.in-Some.place n.row c.index.result.now n.stands at in
    record {
      named = n;
      line = c.index.result.now;
      stands = at;
      is = is;
      sound = ap (λ (r : Rule). fault_of (Some r) c.args.port bytes) (sym is.account.by_rule)
          ∙ sym c.in-None.ensures.reason;
    }

pub returns-in-None-clause-at_most : goal.returns-in-None-clause-at_most
returns-in-None-clause-at_most c line there =
    let w = c.args.self.now in
    let at = slice_get_read w.lines.items _ c.in-Some.place c.index.result.now w.lines.ok.0
    c.in-Some.ensures.within c.index.ensures in
    let same : c.index.result.now ≡ line = cc in
    subst (λ (l : Line). length (bytes_of c.args.frame) ≤ (account_of l.account).rule.lmax) same
    c.in-None.ensures.longest

pub returns-in-None-clause-sealed : goal.returns-in-None-clause-sealed
returns-in-None-clause-sealed c =
    right c.args.frame.seal c.args.frame.message.now c.args.frame.known
    (frame_is_sealed (bytes_of c.args.frame) (parts_of c.in-Ok.view) c.in-Ok.ensures.computed)

pub returns-in-None-clause-framed : goal.returns-in-None-clause-framed
returns-in-None-clause-framed c = (parts_of c.in-Ok.view, c.in-Ok.ensures.ok)
