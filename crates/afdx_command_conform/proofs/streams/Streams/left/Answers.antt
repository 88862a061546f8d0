use Rattle.std.proofs.Common.{true, false, ◌&&◌, ◌∷◌, ◌≡◌, ℕ, None, Some, get_or, refl, sym, ap, ◌∙◌, subst, arith}
use Rattle.std.proofs.lemmas.Option.{slice_get-get_or}
use Rattle.std.specs.Prelude.{is_some}
use Rattle.afdx_law_bounds.specs.Tables.{port_of}
use Rattle.afdx_config.specs.Rows.{LinkRow, Rows}
use Rattle.afdx_police.specs.Arrival.{Arrival, arrival_with}
use Rattle.afdx_police.specs.Shape.{fault_of}
use Rattle.afdx_input_lines.specs.declared.role.Role.TheVariants.{Left}
use Rattle.afdx_conform.specs.declared.finding.Finding.TheVariants.{Strange}
use Rattle.afdx_frame.specs.Parts.{bytes_of}
use Rattle.afdx_command_conform.specs.Choices.{counts}
use Rattle.afdx_command_conform.specs.Sight.{Sight}
use Rattle.afdx_command_conform.specs.Tapped.{is_heard, is_judged}
use Rattle.afdx_command_conform.specs.Frames.{frame_with, gone_of, is_stranger, place_named}
use Rattle.afdx_command_conform.specs.Keeping.{AreKept, given_of, with_left, with_strange}
use Rattle.afdx_command_conform.specs.Keys.{key_with}
use Rattle.afdx_command_conform.specs.Lines.{due_at, found_line, stranger_by, stranger_reason}
use Rattle.afdx_command_conform.specs.Standing.{StreamsStand, streams_with}
use Rattle.afdx_command_conform.specs.declared.key.Key.{Key}
use Rattle.afdx_command_conform.proofs.AddedLemmas.{on-ok}
use Rattle.afdx_command_conform.proofs.GivenLemmas.{blank, falling-more, left-times, strange-times}
use Rattle.afdx_command_conform.proofs.CameLemmas.{and-false}
use Rattle.afdx_command_conform.proofs.StrangerLemmas.{stream-heard}
use Rattle.afdx_command_conform.proofs.JoinLemmas.{counted-behind, join-left, join-strange, join-unseen, left-few, left-start}
use Rattle.afdx_command_conform.proofs.streams.Streams.left.Goals as goal

pub returns-then-not-is_tapped-clause-stands : goal.returns-then-not-is_tapped-clause-stands
returns-then-not-is_tapped-clause-stands c t c' until time frames lines named-is e le behind few running stand =
    let r : Rows = c.args.self.now.tables.now in
    let h = c.args.heading.now in
    let a : Arrival = arrival_with c.args.n h.time h.side h.port (bytes_of c.args.frame) in
    let link : ℕ = c.in-Some.link in
    let mine : StreamsStand r c' until frames lines time c.args.self.now =
    subst (λ (x : Rows). StreamsStand x c' until frames lines time c.args.self.now) (sym stand.tables) stand in
    let named : place_named r a.bytes ≡ Some link =
    sym named-is ∙ c.in-Some.ensures.link.0 in
    let l : LinkRow = get_or r.links link blank in
    let at = slice_get-get_or r.links link blank c.in-Some.ensures.link.1 in
    let to = c.in-Some.ensures.to l at in
    let own : is_stranger r c'.sight a ≡ false =
    subst (λ (p : Sight). is_stranger r p a ≡ false) stand.sight
    (sym (c.in-Some.ensures.strange a refl refl named-is)) in
    let unseen : c'.sight.is_seen h.side h.port ≡ false =
    ap (λ (p : Sight). p.is_seen h.side h.port) (sym stand.sight) ∙ sym c.is_tapped.ensures ∙ c.if-not-is_tapped.true in
    subst (λ (x : Rows). StreamsStand x c' until (frame_with Left a ∷ frames) lines time c.args.self.now) stand.tables
    (record {
      lawful = mine.lawful;
      tables = refl;
      by = mine.by;
      sight = mine.sight;
      kept = join-unseen r c' until c.args.self.now.ended time frames lines c.args.self.now.kept mine.lawful a link l
          (subst (λ (x : Rows). counts x c' (frame_with Left a) ≡ true) (sym stand.tables) e) named to.0 own
          (ap (λ v. is_heard r c'.sight h.side l && v) unseen ∙ and-false (is_heard r c'.sight h.side l)) mine.kept;
    })

pub returns-in-Some-clause-stands : goal.returns-in-Some-clause-stands
returns-in-Some-clause-stands c t c' until time frames lines named-is e le behind few running stand =
    let r : Rows = c.args.self.now.tables.now in
    let h = c.args.heading.now in
    let a : Arrival = arrival_with c.args.n h.time h.side h.port (bytes_of c.args.frame) in
    let link : ℕ = c.in-Some.link in
    let mine : StreamsStand r c' until frames lines time c.args.self.now =
    subst (λ (x : Rows). StreamsStand x c' until frames lines time c.args.self.now) (sym stand.tables) stand in
    let named : place_named r a.bytes ≡ Some link =
    sym named-is ∙ c.in-Some.ensures.link.0 in
    let l : LinkRow = get_or r.links link blank in
    let at = slice_get-get_or r.links link blank c.in-Some.ensures.link.1 in
    let to = c.in-Some.ensures.to l at in
    let key : Key = key_with h.side (port_of r c.in-Some.system.0) (Some link) in
    let old : AreKept r c' until None time (given_of r c' frames) lines c.args.self.now.kept =
    subst (λ o. AreKept r c' until o time (given_of r c' frames) lines c.args.self.now.kept) running mine.kept in
    let n = left-few r c' frames key in
    let mine-e : counts r c' (frame_with Left a) ≡ true =
    subst (λ (x : Rows). counts x c' (frame_with Left a) ≡ true) (sym stand.tables) e in
    let own : is_stranger r c'.sight a ≡ false =
    subst (λ (p : Sight). is_stranger r p a ≡ false) stand.sight
    (sym (c.in-Some.ensures.strange a refl refl named-is)) in
    let sees : c'.sight.is_seen h.side h.port ≡ true =
    ap (λ (p : Sight). p.is_seen h.side h.port) (sym stand.sight) ∙ sym c.is_tapped.ensures ∙
    c.if-not-is_tapped.false in
    let judges : is_judged r c'.sight h.side l h.port ≡ true =
    ap (λ v. v && c'.sight.is_seen h.side h.port) (stream-heard r c'.sight a link l own named at) ∙ sees in
    let left : gone_of (arrival_with c.args.n h.time h.side h.port c.in_ok-bytes.bytes) ≡ gone_of a =
    ap (λ b. gone_of (arrival_with c.args.n h.time h.side h.port b)) c.in_ok-bytes.ensures in
    on-ok (λ k. subst (λ (x : Rows). StreamsStand x c' until (frame_with Left a ∷ frames) lines time
    (streams_with c.args.self.now c.of.new.spare c.leave_to.new.kept)) stand.tables (record {
      lawful = mine.lawful;
      tables = refl;
      by = mine.by;
      sight = mine.sight;
      kept = subst (λ o. AreKept r c' until o time (given_of r c' (frame_with Left a ∷ frames)) lines
          c.leave_to.new.kept) (sym running)
          (join-left r c' until None time frames lines c.leave_to.new.kept mine.lawful a link l mine-e named to.0
          own judges old.falling
          (subst (λ p. AreKept r c' until None time (with_left (key_with h.side p (Some link)) (gone_of a)
          (given_of r c' frames)) lines
          c.leave_to.new.kept) to.1
          (subst (λ g. AreKept r c' until None time (with_left key g (given_of r c' frames)) lines
          c.leave_to.new.kept) left k)));
    })) c.leave_to.result
    (c.leave_to.ensures c' until time (given_of r c' frames) lines l at to.2
    (record { by = mine.by; sight = mine.sight }) le (left-start r c' a mine-e)
    (left-times r c' frames h.time (counted-behind r c' frames h.time behind) key) (omega (arith, n, few)) old)

pub returns-clause-stands : goal.returns-clause-stands
returns-clause-stands c t c' until time frames lines named-is e le behind few running stand =
    let r : Rows = c.args.self.now.tables.now in
    let h = c.args.heading.now in
    let a : Arrival = arrival_with c.args.n h.time h.side h.port (bytes_of c.args.frame) in
    let key : Key = key_with h.side h.port None in
    let mine : StreamsStand r c' until frames lines time c.args.self.now =
    subst (λ (x : Rows). StreamsStand x c' until frames lines time c.args.self.now) (sym stand.tables) stand in
    let named : place_named r a.bytes ≡ c.args.named =
    sym named-is in
    let strange : is_stranger r c'.sight a ≡ true =
    subst (λ (p : Sight). is_stranger r p a ≡ true) stand.sight
    (sym (c.in_default.ensures.strange a refl refl named-is)) in
    let why : c.why_strange-why.result ≡ stranger_reason r a.bytes =
    c.why_strange-why.ensures ∙ ap (λ b. stranger_by b (fault_of None 0 a.bytes)) (c.is_some.ensures
    ∙ ap is_some (sym named)) in
    let old : AreKept r c' until None time (given_of r c' frames) lines c.args.self.now.kept =
    subst (λ o. AreKept r c' until o time (given_of r c' frames) lines c.args.self.now.kept) running mine.kept in
    let all = counted-behind r c' frames h.time behind in
    on-ok (λ k. subst (λ (x : Rows). StreamsStand x c' until (frame_with Left a ∷ frames) lines time
    (streams_with c.args.self.now c.args.self.now.spare c.leave_strange.new.kept)) stand.tables (record {
      lawful = mine.lawful;
      tables = refl;
      by = mine.by;
      sight = mine.sight;
      kept = subst (λ o. AreKept r c' until o time (given_of r c'
          (frame_with Left a ∷ frames)) lines c.leave_strange.new.kept) (sym running)
          (join-strange r c' until None time frames lines c.leave_strange.new.kept mine.lawful a (subst (λ
          (x : Rows). counts x c' (frame_with Left a) ≡ true) (sym stand.tables) e) strange all old.falling
          (subst (λ w. AreKept r c' until None time (with_strange key (due_at key h.time
          (found_line key (Strange c.args.n w))) (given_of r c' frames))
          lines c.leave_strange.new.kept) why k));
    })) c.leave_strange.result
    (c.leave_strange.ensures r c' until time (given_of r c' frames) lines mine.lawful le
    (falling-more (due_at key h.time (found_line key (Strange c.args.n c.why_strange-why.result)))
    (given_of r c' frames key).strange
    (strange-times r c' frames h.time all key) (old.falling key)) old)
