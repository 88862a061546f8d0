use Rattle.std.proofs.Common.{◌≡◌, length, map, sym, ap, ◌∙◌, arith}
use Rattle.std.specs.List.{range_with_len}
use Rattle.std.proofs.lemmas.List.FromFn.{map-range_with_len_more}
use Rattle.afdx_replay.specs.cascading.Sited.{site_of, sites_of}
use Rattle.afdx_replay.proofs.cascading.sites.sites_of.Goals as goal

pub loop-place-preserved : goal.loop-place-preserved
loop-place-preserved c =
    let place = c.loop-place.place in
    rw (c.in_ok-push.ensures.items, c.loop-place.invariant, c.in_ok-site_at.ensures)
    (sym (map-range_with_len_more (site_of c.args.switches.now) 0 place place (omega arith)))

pub returns : goal.returns
unfolding sites_of
returns c =
    let ss = c.args.switches.now in
    let all : c.loop-place.place ≡ length ss =
    omega (arith, c.loop-place-test.false, c.loop-place.auto.place-end, c.id_count-place-end.ensures.count) in
    c.loop-place.invariant ∙ ap (λ n. map (site_of ss) (range_with_len 0 n)) all
