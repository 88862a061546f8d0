use Rattle.std.proofs.Common.{arith, ap, sym, ◌∙◌, subst, ◌≡◌, ◌≤◌, ◌++◌, ◌∷◌, [], length, Bool, nat_eq, take, List}
use Rattle.std.proofs.lemmas.List.{take_all}
use Rattle.afdx_config.specs.Admission.{links_from}
use Rattle.afdx_config.specs.Rows.{LinkRow, link_row}
use Rattle.afdx_admit.proofs.TakenLemmas.{with_row, without_row}
use Rattle.afdx_send.specs.declared.line.SystemLink.{SystemLink}
use Rattle.afdx_send.specs.New.{AreNewLines}
use Rattle.afdx_send.proofs.NewLemmas.{lines_push, filter_short}
use Rattle.afdx_send.proofs.build.new_lines.Goals as goal
use Rattle.afdx_send.proofs.build.new_lines.Goals.{then-eq+in_ok-line+in_ok-push, else-eq}

pub loop-place-preserved : goal.loop-place-preserved
loop-place-preserved c =
    let links = c.args.tables.now.links in
    let i = c.loop-place.place in
    let row = link_row c.link-link.result.now in
    let own : LinkRow → Bool = λ l. nat_eq l.from c.args.system.0 in
    elim c.if-eq.branch [
      | then-eq+in_ok-line+in_ok-push w ↦
          (let more = with_row own links i row c.link-link.ensures.row (sym c.eq.ensures ∙ w.if-eq.true) in
          let pushed = lines_push (links_from (take i links) c.args.system.0)
          c.loop-place.lines.items row _ c.loop-place.invariant w.in_ok-line.ensures in
          subst (λ (z : List LinkRow). AreNewLines z c.if-eq.lines.items) (sym more)
          (subst (λ (z : List SystemLink). AreNewLines
          (links_from (take i links) c.args.system.0 ++ row ∷ []) z)
          (sym (ap (λ v. v.items) w.lines-is ∙ w.in_ok-push.ensures.items)) pushed))
      | else-eq w ↦
          (let less = without_row own links i row c.link-link.ensures.row (sym c.eq.ensures ∙ w.if-eq.false) in
          subst (λ (z : List LinkRow). AreNewLines z c.if-eq.lines.items) (sym less)
          (subst (λ (z : List SystemLink). AreNewLines (links_from (take i links) c.args.system.0) z)
          (sym (ap (λ v. v.items) w.lines-is)) c.loop-place.invariant))
    ]

pub returns-clause-count : goal.returns-clause-count
returns-clause-count c =
    let links = c.args.tables.now.links in
    let ok = c.loop-place.lines.ok.0 in
    let past : length links ≤ c.loop-place.place =
    omega (arith, c.link_count-place-end.ensures.count, c.loop-place-test.false) in
    let all : take c.loop-place.place links ≡ links = take_all c.loop-place.place links past in
    let n : length c.loop-place.lines.items ≡ length (links_from links c.args.system.0) =
    c.loop-place.invariant.count ∙ ap (λ z. length (links_from z c.args.system.0)) all in
    let short = filter_short (λ (l : LinkRow). nat_eq l.from c.args.system.0) links in
    let few = c.link_count-place-end.ensures.lawful.links.count in
    omega (arith, n, short, few)
