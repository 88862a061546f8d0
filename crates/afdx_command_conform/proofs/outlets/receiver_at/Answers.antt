use Rattle.std.proofs.Common.{◌≡◌, ◌<◌, ◌∙◌, ℕ, arith, ap, false, length, refl, subst, sym}
use Rattle.std.proofs.lemmas.Bool.{ne_eqb}
use Rattle.std.proofs.lemmas.List.{length-map, take_all}
use Rattle.std.proofs.lemmas.Option.{same_Some}
use Rattle.std.specs.Prelude.{nat_eq}
use Rattle.afdx_config.specs.Rows.{LinkRow, link_row, system_row}
use Rattle.afdx_command_conform.proofs.OutletLemmas.{port-is}
use Rattle.afdx_command_conform.proofs.ReceiverLemmas.{goes-at, goes-nowhere, is_at, none-next}
use Rattle.afdx_command_conform.proofs.outlets.receiver_at.Goals as goal

pub loop-rank-init : goal.loop-rank-init
loop-rank-init c = λ row at. refl

pub loop-rank-preserved : goal.loop-rank-preserved
loop-rank-preserved c = λ row at.
    let rank : ℕ = c.loop-rank.rank in
    let mine : link_row c.link.result.now ≡ row = same_Some (link_row c.link.result.now) row (sym c.link.ensures.row
    ∙ at) in
    let count = length-map c.link.result.now.to.items (λ i. i.0) in
    let test = c.loop-rank-test.true in
    let len = c.len-rank-end.ensures in
    let lt : rank < length row.to = subst (λ (r : LinkRow). rank < length r.to) mine (omega (arith, test, len, count))
    in
    let s : ℕ = c.receiver-system.result.0 in
    none-next c.args.tables.now c.args.port row.to rank s (c.receiver-system.ensures.is row at) lt
    (ap (λ p. nat_eq p c.args.port) (port-is c.args.tables.now s (system_row c.system.result.now) c.system.ensures.row)
    ∙ ne_eqb c.system.result.now.port c.args.port c.if-system-port.false) (c.loop-rank.invariant row at)

pub returns-then-system-port-clause-to : goal.returns-then-system-port-clause-to
returns-then-system-port-clause-to c l at =
    let rank : ℕ = c.loop-rank.rank in
    let mine : link_row c.link.result.now ≡ l = same_Some (link_row c.link.result.now) l (sym c.link.ensures.row ∙ at)
    in
    let count = length-map c.link.result.now.to.items (λ i. i.0) in
    let test = c.loop-rank-test.true in
    let len = c.len-rank-end.ensures in
    let lt : rank < length l.to = subst (λ (r : LinkRow). rank < length r.to) mine (omega (arith, test, len, count)) in
    goes-at c.args.tables.now c.args.link c.args.port l rank c.receiver-system.result.0 (system_row c.system.result.now)
    c.link.ensures.lawful at (c.receiver-system.ensures.is l at) lt c.system.ensures.row c.if-system-port.true

pub returns-clause-none : goal.returns-clause-none
returns-clause-none c =
    let row : LinkRow = link_row c.link.result.now in
    let count = length-map c.link.result.now.to.items (λ i. i.0) in
    let test = c.loop-rank-test.false in
    let len = c.len-rank-end.ensures in
    let whole = take_all c.loop-rank.rank row.to (omega (arith, test, len, count)) in
    goes-nowhere c.args.tables.now c.args.link c.args.port row c.link.ensures.row
    (subst (λ to. is_at c.args.tables.now c.args.port to ≡ false) whole (c.loop-rank.invariant row c.link.ensures.row))
