use Rattle.std.proofs.Common.{rules, ◌≡◌, ◌<◌, ◌++◌, ◌∷◌, [], List, length, slice_index, ap, subst, ◌∙◌, arith, nat_le, ℕ}
use Rattle.afdx_config.specs.Admission.{greatest_jitter}
use Rattle.afdx_config.specs.Rows.{Rows}
use Rattle.afdx_admit.specs.declared.fault.AdmitFault.TheVariants.{SenderJitter}
use Rattle.afdx_admit.specs.Lines.{line, sender_lines, false_lines}
use Rattle.afdx_admit.specs.Sums.{AreJitters}
use Rattle.afdx_frame.proofs.FalseLinesLemmas.{each_from-none, each_from-added}
use Rattle.afdx_admit.proofs.WalkLemmas.{Stopped, walks_stop_at}
use Rattle.afdx_admit.proofs.lines.add_senders.Goals as goal

-- the line that is asked is that of the place
asked : (t : Rows) (jitters : List ℕ) (i : ℕ) → AreJitters t jitters → i < length t.systems →
    line (nat_le (slice_index jitters i) greatest_jitter) (SenderJitter (record { 0 = i }) (slice_index jitters i)) ∷ []
    ≡ sender_lines t i
unfolding sender_lines
asked t jitters i are within =
    ap (λ n. line (nat_le n greatest_jitter) (SenderJitter (record { 0 = i }) n) ∷ []) (are.each i within)

pub loop-i-init : goal.loop-i-init
loop-i-init g c = each_from-none (sender_lines c.args.tables.now) 0 (g.C.Found.items c.args.found.now)

pub returns-in_err-add_if_false : goal.returns-in_err-add_if_false
returns-in_err-add_if_false g c =
    let t = c.args.tables.now in
    let i = c.loop-i.i in
    let found = g.C.Found.items c.loop-i.found in
    walks_stop_at g.C.Found.Stops (sender_lines t) 0 i i t.own (g.C.Found.items c.args.found.now) found _
    c.in_err-add_if_false.field-0.0 _ (search rules) (omega arith) (omega arith) c.loop-i.invariant
    (subst (λ ls. Stopped g.C.Found.Stops found ls c.in_err-add_if_false.field-0.0)
    (asked t c.args.jitters.now i c.requires (omega (arith, c.own_count-count.ensures.lawful.own)))
    c.in_err-add_if_false.ensures)

pub loop-i-preserved : goal.loop-i-preserved
loop-i-preserved g c =
    let t = c.args.tables.now in
    let i = c.loop-i.i in
    let found = g.C.Found.items c.loop-i.found in
    each_from-added (sender_lines t) 0 i i (g.C.Found.items c.args.found.now) found _ (omega arith) c.loop-i.invariant
    (c.in_ok-add_if_false.ensures ∙ ap (λ ls. found ++ false_lines ls)
    (asked t c.args.jitters.now i c.requires (omega (arith, c.own_count-count.ensures.lawful.own))))
