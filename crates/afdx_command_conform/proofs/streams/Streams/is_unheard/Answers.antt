use Rattle.std.proofs.Common.{◌≡◌, ◌<◌, Some, true, false, get_or, refl, ap, sym, ◌∙◌, subst}
use Rattle.std.proofs.lemmas.Option.{slice_get-get_or}
use Rattle.std.specs.Prelude.{IfSome, is_some, length, not}
use Rattle.afdx_command_conform.specs.Sight.{sight_in}
use Rattle.afdx_command_conform.specs.Tapped.{is_damaged, is_heard_at, is_of_came, link_to, place_named}
use Rattle.afdx_command_conform.proofs.GivenLemmas.{blank}
use Rattle.afdx_command_conform.proofs.StrangerLemmas.{goes-named, heard-counts, unheard-came, unheard-is}
use Rattle.afdx_command_conform.proofs.streams.Streams.is_unheard.Goals as goal

pub returns-in-Came : goal.returns-in-Came
returns-in-Came c x role side port bytes named =
    sym (unheard-came c.args.self.now.tables.now (sight_in c.args.self.now.tables.now c.args.self.now.taps.now) x
    (ap is_of_came (role ∙ c.in-Came.is)))

pub returns-in_default : goal.returns-in_default
returns-in_default c x role side port bytes named =
    let t = c.args.self.now.tables.now in
    let sight = sight_in c.args.self.now.tables.now c.args.self.now.taps.now in
    sym (heard-counts t sight x (ap (λ o. is_heard_at t sight x.arrival.side o) (sym named ∙ c.in_default.is)))

pub returns-then-is_heard : goal.returns-then-is_heard
returns-then-is_heard c x role side port bytes named =
    let t = c.args.self.now.tables.now in
    let sight = sight_in c.args.self.now.tables.now c.args.self.now.taps.now in
    sym (heard-counts t sight x (ap (λ o. is_heard_at t sight x.arrival.side o) (sym named ∙ c.in-Some.is)
    ∙ ap (λ d. is_heard_at t sight d (Some c.in-Some.link)) side ∙ sym c.is_heard.ensures.at ∙ c.if-is_heard.true))

pub returns-in-Some-receiver_at : goal.returns-in-Some-receiver_at
returns-in-Some-receiver_at c x role side port bytes named =
    let t = c.args.self.now.tables.now in
    let sight = sight_in c.args.self.now.tables.now c.args.self.now.taps.now in
    let link = c.in-Some.link in
    let at : place_named t x.arrival.bytes ≡ Some link = sym named ∙ c.in-Some.is in
    let below : link < length t.links = subst (λ o. IfSome o (λ l. l < length t.links)) c.in-Some.is c.requires in
    let there = slice_get-get_or t.links link blank below in
    ap not (c.is_damaged.ensures ∙ ap (λ b. is_damaged b) bytes)
    ∙ sym (unheard-is t sight x false true (is_damaged x.arrival.bytes) (role ∙ c.in-Left.is)
    (ap (λ o. is_heard_at t sight x.arrival.side o) at ∙ ap (λ d. is_heard_at t sight d (Some link)) side
    ∙ sym c.is_heard.ensures.at ∙ c.if-is_heard.false)
    (goes-named t x.arrival (Some link) at ∙ ap (λ p. is_some (link_to t link p)) port
    ∙ ap is_some (c.in-Some-receiver_at.ensures.to (get_or t.links link blank) there).0) refl)

pub returns-in-None : goal.returns-in-None
returns-in-None c x role side port bytes named =
    let t = c.args.self.now.tables.now in
    let sight = sight_in c.args.self.now.tables.now c.args.self.now.taps.now in
    let link = c.in-Some.link in
    let at : place_named t x.arrival.bytes ≡ Some link = sym named ∙ c.in-Some.is in
    sym (unheard-is t sight x false false (is_damaged x.arrival.bytes) (role ∙ c.in-Left.is)
    (ap (λ o. is_heard_at t sight x.arrival.side o) at ∙ ap (λ d. is_heard_at t sight d (Some link)) side
    ∙ sym c.is_heard.ensures.at ∙ c.if-is_heard.false)
    (goes-named t x.arrival (Some link) at ∙ ap (λ p. is_some (link_to t link p)) port
    ∙ ap is_some c.in-None.ensures.none) refl)
