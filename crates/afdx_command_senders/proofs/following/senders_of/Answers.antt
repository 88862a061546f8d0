use Rattle.std.proofs.Common.{◌≡◌, ℕ, [], length, None, refl, sym, ap, ◌∙◌, subst, arith}
use Rattle.std.specs.Prelude.{slice_get}
use Rattle.afdx_config.specs.Rows.{LinkRow, Rows, link_row}
use Rattle.afdx_senders.specs.History.{HaveTold}
use Rattle.afdx_senders.specs.Setups.{ending}
use Rattle.afdx_senders.specs.Sites.{recorded_in}
use Rattle.afdx_command_senders.specs.Asked.{Asked, asked_of}
use Rattle.afdx_command_senders.specs.Outlook.{Outlook, outlook_of}
use Rattle.afdx_command_senders.proofs.SettingLemmas.{all-below, is-next, is-same, next-setup, none-below}
use Rattle.afdx_command_senders.proofs.following.senders_of.Goals.{then-is_own+in_ok-apart, else-is_own}
use Rattle.afdx_command_senders.proofs.following.senders_of.Goals as goal

pub loop-place-init : goal.loop-place-init
loop-place-init c = record {
  judged = λ taps is. (
    _,
    none-below (outlook_of c.args.outlook) (asked_of c.args.outlook.tables.now taps c.args.asked.now)
        (recorded_in c.args.recorded) is,
    λ until before. c.in_ok-senders.ensures.nothing _ before,
  );
}

-- the senders work by the tables, and have room for each link
pub judge-requires-clause-link : goal.judge-requires-clause-link
judge-requires-clause-link c =
    let own = c.loop-place.invariant.judged (λ role side port. recorded_in c.args.recorded side port)
    (λ side port lt. refl) in
    let tables = (own.2 0 None).setup.tables ∙ own.1.tables in
    let count = ap (λ (t : Rows). length t.links) tables in
    let lt = c.loop-place-test.true in
    let n = c.link_count-place-end.ensures.count in
    omega (arith, count, lt, n)

pub judge-requires-clause-room : goal.judge-requires-clause-room
judge-requires-clause-room c =
    let own = c.loop-place.invariant.judged (λ role side port. recorded_in c.args.recorded side port)
    (λ side port lt. refl) in
    let room = (own.2 0 None).setup.room ∙ ap (λ (t : Rows). length t.links) own.1.tables in
    let lt = c.loop-place-test.true in
    let n = c.link_count-place-end.ensures.count in
    omega (arith, room, lt, n)

pub loop-place-preserved : goal.loop-place-preserved
loop-place-preserved c = record {
  judged = λ taps is.
      let o : Outlook = outlook_of c.args.outlook in
      let a : Asked = asked_of c.args.outlook.tables.now taps c.args.asked.now in
      let n : ℕ = c.loop-place.place in
      let l : LinkRow = link_row c.link.result.now in
      let there = c.link.ensures.row in
      let past = c.loop-place.invariant.judged taps is in
      elim c.if-is_own.branch [
        | then-is_own+in_ok-apart w ↦ (
          next-setup o a n past.0 past.1 l there,
          is-next o a n past.0 past.1 l there (sym c.is_own.ensures ∙ w.if-is_own.true),
          λ until before. subst (λ s. HaveTold (ending until (next-setup o a n past.0 past.1 l there)) before [] [] s)
              (sym w.senders-is)
              (w.judge.ensures.judges (ending until past.0)
              (ending until (next-setup o a n past.0 past.1 l there)) before l
              (ap (λ (r : Rows). slice_get r.links n) past.1.tables ∙ there) (sym past.1.leeway)
              (w.in_ok-apart.ensures n taps (ending until past.0) l there
              (record {
                tables = past.1.tables;
                among = past.1.among;
                recorded = past.1.recorded;
                ways = past.1.ways;
                given = past.1.given;
                leeway = past.1.leeway;
                judged = past.1.judged;
              }))
              (record { tables = refl; among = refl; recorded = refl; asked = refl; judged = λ k. refl })
              (past.2 until before)),
        )
        | else-is_own w ↦ (
          past.0,
          is-same o a n past.0 past.1 l there (sym c.is_own.ensures ∙ w.if-is_own.false),
          λ until before. subst (λ s. HaveTold (ending until past.0) before [] [] s) (sym w.senders-is)
              (past.2 until before),
        )
      ];
}

pub returns : goal.returns
returns c = λ taps is.
    let past = c.loop-place.invariant.judged taps is in
    let all : c.loop-place.place ≡ length c.args.outlook.tables.now.links = omega (
      arith,
      c.loop-place-test.false,
      c.loop-place.auto.place-end,
      c.link_count-place-end.ensures.count,
    ) in
    let o = outlook_of c.args.outlook in (
      past.0,
      all-below o (asked_of c.args.outlook.tables.now taps c.args.asked.now) c.loop-place.place past.0 all
          past.1,
      past.2,
    )
