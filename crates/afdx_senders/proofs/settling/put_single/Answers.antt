use Rattle.std.proofs.Common.{◌∷◌, [], sym, ap}
use Rattle.afdx_senders.specs.Lines.{single_line}
use Rattle.afdx_senders.specs.declared.sender_line.SenderLine.{SenderLine}
use Rattle.afdx_senders.specs.declared.sender_line.ToldOf.TheVariants.{Single}
use Rattle.afdx_senders.proofs.StandingLemmas.{on_ok}
use Rattle.afdx_senders.proofs.settling.put_single.Goals as goal

pub returns : goal.returns
returns c =
    let told = c.args.told in
    let line : SenderLine =
    record { moment = told.moment; side = told.side; port = c.args.port; line = told.line; told = Single } in
    on_ok (λ moved. (
      line ∷ [],
      sym (ap (λ b. single_line c.args.port told.line told.side told.moment b) c.if-told.false),
      moved,
    )) c.push.result c.push.ensures.more
