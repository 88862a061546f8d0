use Rattle.std.proofs.Common.{Bor, ◌∷◌, ◌≡◌, ℕ, ◌+◌, ◌<◌, ◌≤◌, List, true, false, length, get_or, map, take, None, Some, refl, sym, ap, ap₂, ◌∙◌, subst, arith}
use Rattle.std.proofs.lemmas.List.{length-map, take_all}
use Rattle.std.specs.Prelude.{IfSome}
use Rattle.std.proofs.lemmas.Option.{same_Some, slice_get-get_or}
use Rattle.std.specs.List.{AllByRecursion}
use Rattle.afdx_law_bounds.specs.Tables.{port_of}
use Rattle.afdx_config.specs.Rows.{LinkRow, Rows, link_row}
use Rattle.afdx_conform.specs.Explanations.{from_time}
use Rattle.afdx_conform.specs.Marks.{arrival_of}
use Rattle.afdx_conform.specs.Ranges.{most_held}
use Rattle.afdx_police.specs.Arrival.{Arrival, arrival_with}
use Rattle.afdx_conform.specs.LeewayOf.{leeway_of}
use Rattle.afdx_input_lines.specs.declared.role.Role.TheVariants.{Came}
use Rattle.afdx_frame.specs.Parts.{bytes_of}
use Rattle.afdx_command_conform.specs.Choices.{counts}
use Rattle.afdx_command_conform.specs.Sight.{Sight, sight_in}
use Rattle.afdx_command_conform.specs.Tapped.{is_heard}
use Rattle.afdx_input_sources.specs.declared.taps.Taps as code
use Rattle.afdx_command_conform.specs.Frames.{frame_with, place_named}
use Rattle.afdx_command_conform.specs.Keeping.{AreKept, Given, came_to, given_of, with_came}
use Rattle.afdx_command_conform.specs.Keys.{key_with}
use Rattle.afdx_command_conform.specs.Standing.{StreamsStand}
use Rattle.afdx_command_conform.specs.declared.key.Key.{Key}
use Rattle.afdx_command_conform.proofs.GivenLemmas.{blank, came-times}
use Rattle.afdx_command_conform.proofs.JoinLemmas.{any-in, came-few, came-start, come-first, come-next, come-past, counted-behind, join-came, join-unheard, join-unnamed}
use Rattle.afdx_command_conform.proofs.PortLemmas.{came-key, fresh-port}
use Rattle.afdx_command_conform.proofs.TappedLemmas.{any-fewer, seen_ports}
use Rattle.afdx_command_conform.proofs.streams.Streams.came.Goals as goal

pub returns-in_default-clause-stands : goal.returns-in_default-clause-stands
returns-in_default-clause-stands c t c' until time frames lines named-is e le behind few running stand =
    let h = c.args.heading.now in
    let a : Arrival = arrival_with c.args.n h.time h.side h.port (bytes_of c.args.frame) in
    let named : place_named c.args.self.now.tables.now a.bytes ≡ None =
    sym named-is ∙ c.in_default.is in
    record {
      lawful = stand.lawful;
      tables = stand.tables;
      by = stand.by;
      sight = stand.sight;
      kept = join-unnamed t c' until c.args.self.now.ended time frames lines c.args.self.now.kept stand.lawful a e
          (subst (λ (r : Rows). place_named r a.bytes ≡ None) stand.tables named) stand.kept;
    }

pub returns-then-not-is_heard-clause-stands : goal.returns-then-not-is_heard-clause-stands
returns-then-not-is_heard-clause-stands c t c' until time frames lines named-is e le behind few running stand =
    let r : Rows = c.args.self.now.tables.now in
    let h = c.args.heading.now in
    let a : Arrival = arrival_with c.args.n h.time h.side h.port (bytes_of c.args.frame) in
    let link : ℕ = c.in-Some.link in
    let l : LinkRow = get_or r.links link blank in
    let at = slice_get-get_or r.links link blank
    (subst (λ o. IfSome o (λ n. n < length r.links)) c.in-Some.is c.requires.known) in
    let named : place_named r a.bytes ≡ Some link =
    sym named-is ∙ c.in-Some.is in
    let deaf : is_heard r c'.sight h.side l ≡ false =
    ap (λ p. is_heard r p h.side l) (sym stand.sight) ∙ sym (c.is_heard.ensures.is l at) ∙ c.if-not-is_heard.true in
    let mine : StreamsStand r c' until frames lines time c.args.self.now =
    subst (λ (x : Rows). StreamsStand x c' until frames lines time c.args.self.now) (sym stand.tables) stand in
    subst (λ (x : Rows). StreamsStand x c' until (frame_with Came a ∷ frames) lines time c.args.self.now) stand.tables
    (record {
      lawful = mine.lawful;
      tables = refl;
      by = mine.by;
      sight = mine.sight;
      kept = join-unheard r c' until c.args.self.now.ended time frames lines c.args.self.now.kept mine.lawful a link l
          (subst (λ (x : Rows). counts x c' (frame_with Came a) ≡ true) (sym stand.tables) e) named at deaf mine.kept;
    })

pub loop-rank-init : goal.loop-rank-init
loop-rank-init c = record {
  tables = refl;
  leeway = refl;
  taps = refl;
  ended = refl;
  kept = λ c' until time given lines row at by sight le start all few k.
      let h = c.args.heading.now in
      come-first c.args.self.now.tables.now c' until time h.side c.in-Some.link row
      (arrival_with c.args.n h.time h.side h.port (bytes_of c.args.frame)) given lines c.args.self.now.kept k;
}

pub loop-rank-preserved : goal.loop-rank-preserved
loop-rank-preserved c = record {
  tables = c.loop-rank.invariant.tables;
  leeway = c.loop-rank.invariant.leeway;
  taps = c.loop-rank.invariant.taps;
  ended = c.loop-rank.invariant.ended;
  kept = λ c' until time given lines row at by sight le start all few k.
      let t : Rows = c.args.self.now.tables.now in
      let h = c.args.heading.now in
      let x : Arrival = arrival_with c.args.n h.time h.side h.port (bytes_of c.args.frame) in
      let s : ℕ = c.receiver-system.result.0 in
      let rank : ℕ = c.loop-rank.rank in
      let link : ℕ = c.in-Some.link in
      let mine : link_row c.link.result.now ≡ row = same_Some (link_row c.link.result.now) row (sym c.link.ensures.row
      ∙ at) in
      let count = length-map c.link.result.now.to.items (λ i. i.0) in
      let test = c.loop-rank-test.true in
      let len = c.len-rank-end.ensures in
      let lt : rank < length row.to = subst (λ (r : LinkRow). rank < length r.to) mine
      (omega (arith, test, len, count)) in
      let is = c.receiver-system.ensures.is row at in
      let key : Key = key_with h.side (port_of t s) (Some link) in
      let before : Key → Given = came_to h.side link (seen_ports t c'.sight h.side (take rank row.to)) x given in
      let same : before key ≡ given key = came-key h.side link (port_of t s)
      (seen_ports t c'.sight h.side (take rank row.to)) x given
      (any-fewer (c'.sight.is_seen h.side) (port_of t s) (map (port_of t) (take rank row.to))
      (fresh-port t link row rank s c.link.ensures.lawful at is lt)) in
      let sees : c'.sight.is_seen h.side (port_of t s) ≡ true =
      ap (λ (p : Sight). p.is_seen h.side (port_of t s)) (sym sight) ∙ sym c.is_seen.ensures ∙ c.if-not-is_seen.false in
      let from : arrival_of c.new-arrived.result ≡ x = c.new-arrived.ensures.given
      ∙ ap (λ b. arrival_with c.args.n h.time h.side h.port b) (c.in_ok-share.ensures ∙ c.in_ok-bytes.ensures) in
      come-next t c' until time h.side link row rank s x given lines c.come_to.new.kept c.link.ensures.lawful at is lt
      sees k.falling
      (subst (λ (y : Arrival). time ≤ y.time → from_time c'.by.start ≤ y.time
      → AllByRecursion (λ w. w.time ≤ y.time) (before key).came
      → AreKept t c' until None time (with_came key y before) lines c.come_to.new.kept) from
      (λ le' start' all'. c.in_ok-come_to.ensures c' until time before lines row at (any-in row.to rank s is lt)
      (record { by = by; sight = sight })
      (λ z rule. c.new-arrived.ensures.judged z (rule ∙ ap (λ (p : Sight). p.rule row) (sym sight)
      ∙ sym (c.rule_at-rule.ensures row at))) le' start' all'
      (subst (λ (g : Given). length g.came + 1 < most_held) (sym same) (few key))
      (c.loop-rank.invariant.kept c' until time given lines row at by sight le start all few k)) le start
      (subst (λ (g : Given). AllByRecursion (λ w. w.time ≤ h.time) g.came) (sym same) (all key)));
}

pub loop-rank-preserved-then-not-is_seen : goal.loop-rank-preserved-then-not-is_seen
loop-rank-preserved-then-not-is_seen c = record {
  tables = c.loop-rank.invariant.tables;
  leeway = c.loop-rank.invariant.leeway;
  taps = c.loop-rank.invariant.taps;
  ended = c.loop-rank.invariant.ended;
  kept = λ c' until time given lines row at by sight le start all few k.
      let t : Rows = c.args.self.now.tables.now in
      let h = c.args.heading.now in
      let x : Arrival = arrival_with c.args.n h.time h.side h.port (bytes_of c.args.frame) in
      let s : ℕ = c.receiver-system.result.0 in
      let rank : ℕ = c.loop-rank.rank in
      let link : ℕ = c.in-Some.link in
      let mine : link_row c.link.result.now ≡ row = same_Some (link_row c.link.result.now) row (sym c.link.ensures.row
      ∙ at) in
      let count = length-map c.link.result.now.to.items (λ i. i.0) in
      let test = c.loop-rank-test.true in
      let len = c.len-rank-end.ensures in
      let lt : rank < length row.to = subst (λ (r : LinkRow). rank < length r.to) mine
      (omega (arith, test, len, count)) in
      let unseen : c'.sight.is_seen h.side (port_of t s) ≡ false =
      ap (λ (p : Sight). p.is_seen h.side (port_of t s)) (sym sight) ∙ sym c.is_seen.ensures ∙ c.if-not-is_seen.true in
      come-past t c' until time h.side link row rank s x given lines c.loop-rank.self.kept
      (c.receiver-system.ensures.is row at) lt unseen
      (c.loop-rank.invariant.kept c' until time given lines row at by sight le start all few k);
}

pub returns-clause-stands : goal.returns-clause-stands
returns-clause-stands c t c' until time frames lines named-is e le behind few running stand =
    let r : Rows = c.args.self.now.tables.now in
    let h = c.args.heading.now in
    let a : Arrival = arrival_with c.args.n h.time h.side h.port (bytes_of c.args.frame) in
    let link : ℕ = c.in-Some.link in
    let row : LinkRow = link_row c.link.result.now in
    let mine : StreamsStand r c' until frames lines time c.args.self.now =
    subst (λ (x : Rows). StreamsStand x c' until frames lines time c.args.self.now) (sym stand.tables) stand in
    let mine-e : counts r c' (frame_with Came a) ≡ true =
    subst (λ (x : Rows). counts x c' (frame_with Came a) ≡ true) (sym stand.tables) e in
    let heard : is_heard r c'.sight h.side row ≡ true =
    ap (λ p. is_heard r p h.side row) (sym stand.sight) ∙ sym (c.is_heard.ensures.is row c.link.ensures.row)
    ∙ c.if-not-is_heard.false in
    let named : place_named r a.bytes ≡ Some link =
    sym named-is ∙ c.in-Some.is in
    let count = length-map c.link.result.now.to.items (λ i. i.0) in
    let test = c.loop-rank-test.false in
    let len = c.len-rank-end.ensures in
    let whole : take c.loop-rank.rank row.to ≡ row.to = take_all c.loop-rank.rank row.to
    (omega (arith, test, len, count)) in
    let old : AreKept r c' until None time (given_of r c' frames) lines c.args.self.now.kept =
    subst (λ o. AreKept r c' until o time (given_of r c' frames) lines c.args.self.now.kept) running mine.kept in
    let new = c.loop-rank.invariant.kept c' until time (given_of r c' frames) lines row c.link.ensures.row mine.by
    mine.sight le
    (came-start r c' a mine-e) (λ k. came-times r c' frames h.time (counted-behind r c' frames h.time behind) k)
    (λ k. let n = came-few r c' frames k in omega (arith, n, few)) old in
    let joined = join-came r c' until None time frames lines c.loop-rank.self.kept c.link.ensures.lawful a link row
    mine-e
    named c.link.ensures.row heard
    old.falling (subst (λ (l : List ℕ). AreKept r c' until None time (came_to h.side link
    (seen_ports r c'.sight h.side l) a (given_of r c' frames))
    lines c.loop-rank.self.kept) whole new) in
    subst (λ (x : Rows). StreamsStand x c' until (frame_with Came a ∷ frames) lines time c.loop-rank.self)
    stand.tables (record {
      lawful = c.link.ensures.lawful;
      tables = ap (λ (b : Bor Rows). b.now) c.loop-rank.invariant.tables;
      by = ap (λ l. leeway_of l) c.loop-rank.invariant.leeway ∙ mine.by;
      sight = ap₂ (λ (u : Bor Rows) (p : Bor code.Taps). sight_in u.now p.now) c.loop-rank.invariant.tables
          c.loop-rank.invariant.taps ∙ mine.sight;
      kept = subst (λ o. AreKept r c' until o time (given_of r c' (frame_with Came a ∷ frames)) lines
          c.loop-rank.self.kept)
          (sym (c.loop-rank.invariant.ended ∙ running)) joined;
    })
