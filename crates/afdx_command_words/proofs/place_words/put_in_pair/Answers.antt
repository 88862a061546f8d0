use Rattle.afdx_frame.specs.declared.link.Side.TheVariants.{A, B}
use Rattle.afdx_command_words.specs.PlaceSaid.{spot_of}
use Rattle.afdx_command_words.specs.Placed.{IsNewBy, IsNewOn}
use Rattle.afdx_command_words.proofs.PlacedLemmas.{ok-map, on-ok}
use Rattle.afdx_command_words.proofs.PuttingLemmas.{a-not-b, b-not-a, said-of-both, said-of-other, said-of-this}
use Rattle.afdx_command_words.proofs.place_words.put_in_pair.Goals as goal

pub returns-in_ok-put_once-in-LeftOut-clause-a : goal.returns-in_ok-put_once-in-LeftOut-clause-a
returns-in_ok-put_once-in-LeftOut-clause-a c =
    let old = c.args.pair.now.a in
    let new = c.put_once.new.interfaces in
    on-ok c.put_once-in-LeftOut.result (IsNewOn A old new c.args.interface (spot_of c.args.said))
    (said-of-both A old new c.args.interface c.args.said c.in-LeftOut.is c.in_ok-put_once-in-LeftOut.ensures)

pub returns-in_ok-put_once-in-LeftOut-clause-b : goal.returns-in_ok-put_once-in-LeftOut-clause-b
returns-in_ok-put_once-in-LeftOut-clause-b c =
    let old = c.args.pair.now.b in
    let new = c.put_once-in-LeftOut.new.interfaces in
    ok-map c.put_once-in-LeftOut.result (IsNewBy old new c.args.interface (spot_of c.args.said))
    (IsNewOn B old new c.args.interface (spot_of c.args.said))
    (said-of-both B old new c.args.interface c.args.said c.in-LeftOut.is) c.put_once-in-LeftOut.ensures

pub returns-in-At-A-default-default-clause-a : goal.returns-in-At-A-default-default-clause-a
returns-in-At-A-default-default-clause-a c =
    let arm = c.in-At-A-default-default in
    let old = c.args.pair.now.a in
    let new = c.put_once-in-At-A-default-default.new.interfaces in
    ok-map c.put_once-in-At-A-default-default.result (IsNewBy old new c.args.interface (spot_of c.args.said))
    (IsNewOn A old new c.args.interface (spot_of c.args.said))
    (said-of-this A arm.field-0 arm.field-1 arm.field-2 old new c.args.interface c.args.said arm.is
    (rw arm.is at arm.field-0-is)) c.put_once-in-At-A-default-default.ensures

pub returns-in-At-A-default-default-clause-b : goal.returns-in-At-A-default-default-clause-b
returns-in-At-A-default-default-clause-b c =
    let arm = c.in-At-A-default-default in
    let old = c.args.pair.now.b in
    on-ok c.put_once-in-At-A-default-default.result (IsNewOn B old old c.args.interface (spot_of c.args.said))
    (said-of-other B arm.field-0 arm.field-1 arm.field-2 old c.args.interface c.args.said arm.is
    (a-not-b arm.field-0 (rw arm.is at arm.field-0-is)))

pub returns-in-At-B-default-default-clause-a : goal.returns-in-At-B-default-default-clause-a
returns-in-At-B-default-default-clause-a c =
    let arm = c.in-At-B-default-default in
    let old = c.args.pair.now.a in
    on-ok c.put_once-in-At-B-default-default.result (IsNewOn A old old c.args.interface (spot_of c.args.said))
    (said-of-other A arm.field-0 arm.field-1 arm.field-2 old c.args.interface c.args.said arm.is
    (b-not-a arm.field-0 (rw arm.is at arm.field-0-is)))

pub returns-in-At-B-default-default-clause-b : goal.returns-in-At-B-default-default-clause-b
returns-in-At-B-default-default-clause-b c =
    let arm = c.in-At-B-default-default in
    let old = c.args.pair.now.b in
    let new = c.put_once-in-At-B-default-default.new.interfaces in
    ok-map c.put_once-in-At-B-default-default.result (IsNewBy old new c.args.interface (spot_of c.args.said))
    (IsNewOn B old new c.args.interface (spot_of c.args.said))
    (said-of-this B arm.field-0 arm.field-1 arm.field-2 old new c.args.interface c.args.said arm.is
    (rw arm.is at arm.field-0-is)) c.put_once-in-At-B-default-default.ensures
