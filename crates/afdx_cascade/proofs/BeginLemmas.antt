-- A link in first events of an admitted cascade, and in all events of another run.
use Rattle.std.proofs.Common.{◌≡◌, ℕ, Bool, true, false, List, [], ◌∷◌, ◌++◌, map, refl, sym, ap, ◌∙◌}
use Rattle.std.specs.Prelude.{if◌then◌else◌, is_none}
use Rattle.std.proofs.lemmas.List.{append_assoc, map-append}
use Rattle.afdx_frame.specs.declared.link.Side.{Side}
use Rattle.afdx_config.specs.Switches.{NamedRows}
use Rattle.afdx_admit.specs.Cascade.{RowAt}
use Rattle.afdx_police.specs.Arrival.{Arrival, own}
use Rattle.afdx_police.specs.Rule.{Rule}
use Rattle.afdx_police.specs.Verdicts.{accepted_arrivals, reason_after}
use Rattle.afdx_switch.specs.Hops.{AreFirstCopies}
use Rattle.afdx_switch.specs.Tables.{rule_of}
use Rattle.afdx_cascade.specs.Admitted.{IsAdmittedCascade, hop_at, hops_at}
use Rattle.afdx_cascade.specs.Cables.{Hop, Gives, accepted_at, all_turns, brought_by, named}
use Rattle.afdx_cascade.specs.EndToEnd.{BeginWith, BeginsAlike, FirstOfLinksAreAlone, FirstReasonsAreAlone}
use Rattle.afdx_cascade.specs.EndToEnd.{accepted_of, begins_at, left_from, listed_at, reasons_on}
use Rattle.afdx_cascade.specs.Plans.{plan_of, tables_of}
use Rattle.afdx_cascade.specs.SwitchEvents.{SwitchEvent, came_to, turns_of}
use Rattle.afdx_cascade.specs.Ways.{bytes_of, first_of, latency_of, untagged}
use Rattle.afdx_cascade.proofs.AloneLemmas.{left-is, own-of-list, reasons, reasons-are, reasons-more}
use Rattle.afdx_cascade.proofs.AloneLemmas.{reasons-untagged}
use Rattle.afdx_cascade.proofs.EndToEndLemmas.{accepted-at, first-hop, row-port}
use Rattle.afdx_cascade.proofs.OnceLemmas.{turns-there}
use Rattle.afdx_cascade.proofs.WayHopLemmas.{hop-is, rows-ways}
use Rattle.afdx_cascade.proofs.WayLemmas.{all-accepted, first-accepted, same-bytes, untagged-bytes}
use Rattle.afdx_cascade.proofs.WayLemmas.{way-leave, way-leave-all}
use Rattle.afdx_cascade.proofs.WholeLemmas.{rows-whole}

-- ---- lists that begin with others

module _ {X : Type 0} where
  begin-on : (xs ys zs : List X) → BeginWith xs ys → BeginWith ys zs → BeginWith xs zs
  begin-on xs ys zs one two =
      (one.0 ++ two.0, one.1 ∙ ap (λ ws. one.0 ++ ws) two.1 ∙ sym (append_assoc one.0 two.0 zs))

  begin-same : (xs us vs ys : List X) → xs ≡ us → vs ≡ ys → BeginWith us vs → BeginWith xs ys
  begin-same xs us vs ys all first begins =
      (begins.0, all ∙ begins.1 ∙ ap (λ ws. begins.0 ++ ws) first)

begin-map : {X Y : Type 0} (f : X → Y) (xs ys : List X) → BeginWith xs ys → BeginWith (map f xs) (map f ys)
begin-map f xs ys begins = (map f begins.0, ap (map f) begins.1 ∙ map-append f begins.0 ys)

-- ---- verdicts on own arrivals

accepted-more : (rule : Rule) (later xs : List Arrival)
    → BeginWith (accepted_arrivals rule (later ++ xs)) (accepted_arrivals rule xs)
unfolding accepted_arrivals
accepted-more rule [] xs = ([], refl)
accepted-more rule (x ∷ later) xs = one (is_none (reason_after rule (later ++ xs) x)) (accepted-more rule later xs)
  where
    one : (b : Bool) → BeginWith (accepted_arrivals rule (later ++ xs)) (accepted_arrivals rule xs)
        → BeginWith (if b then x ∷ accepted_arrivals rule (later ++ xs) else accepted_arrivals rule (later ++ xs))
        (accepted_arrivals rule xs)
    one true rest = (x ∷ rest.0, ap (λ ys. x ∷ ys) rest.1)
    one false rest = rest

accepted-begin : (rule : Rule) (xs ys : List Arrival) → BeginWith (map untagged xs) (map untagged ys)
    → BeginWith (bytes_of (accepted_arrivals rule xs)) (bytes_of (accepted_arrivals rule ys))
accepted-begin rule xs ys begins =
    let all = begins.0 ++ map untagged ys in
    begin-same (bytes_of (accepted_arrivals rule xs)) (bytes_of (accepted_arrivals rule all))
    (bytes_of (accepted_arrivals rule (map untagged ys))) (bytes_of (accepted_arrivals rule ys))
    (sym (untagged-bytes rule xs) ∙ ap (λ zs. bytes_of (accepted_arrivals rule zs)) begins.1)
    (untagged-bytes rule ys)
    (begin-map (λ (x : Arrival). x.bytes) (accepted_arrivals rule all) (accepted_arrivals rule (map untagged ys))
    (accepted-more rule begins.0 (map untagged ys)))

reasons-begin : (rule : Rule) (xs ys : List Arrival) → BeginWith (map untagged xs) (map untagged ys)
    → BeginWith (reasons rule xs) (reasons rule ys)
reasons-begin rule xs ys begins =
    begin-same (reasons rule xs) (reasons rule (begins.0 ++ map untagged ys)) (reasons rule (map untagged ys))
    (reasons rule ys) (sym (reasons-untagged rule xs) ∙ ap (reasons rule) begins.1) (reasons-untagged rule ys)
    (reasons-more rule begins.0 (map untagged ys))

-- ---- at the first switch

came-begin : (ss : List NamedRows) (so_far others : List SwitchEvent) (side : Side) (r : RowAt)
    → IsAdmittedCascade ss so_far → IsAdmittedCascade ss others → BeginsAlike ss so_far others side r
    → BeginWith (map untagged (own r.row.vl side (came_to r.switch others)))
    (map untagged (own r.row.vl side (came_to r.switch so_far)))
came-begin ss so_far others side r all also alike =
    begin-same (map untagged (own r.row.vl side (came_to r.switch others)))
    (map untagged (own r.row.vl side (listed_at ss r.switch others)))
    (map untagged (own r.row.vl side (listed_at ss r.switch so_far)))
    (map untagged (own r.row.vl side (came_to r.switch so_far)))
    (ap (map untagged) (own-of-list ss others side r also alike.row alike.sent))
    (ap (map untagged) (sym (own-of-list ss so_far side r all alike.row alike.sent))) alike.begins

pub first-reasons-alone : FirstReasonsAreAlone
first-reasons-alone ss so_far others side r all also alike =
    let hop = hop-is ss so_far r all alike.row in
    let t = tables_of ss r.switch in
    let rule = rule_of t r.row in
    let ours = own r.row.vl side (came_to r.switch so_far) in
    let theirs = own r.row.vl side (came_to r.switch others) in
    begin-same (reasons_on t r.row.vl side (came_to r.switch others)) (reasons rule theirs) (reasons rule ours)
    (reasons_on t r.row.vl side (came_to r.switch so_far))
    (sym (reasons-are t hop.place r.row side hop.run.lawful hop.stands (came_to r.switch others)))
    (reasons-are t hop.place r.row side hop.run.lawful hop.stands (came_to r.switch so_far))
    (reasons-begin rule theirs ours (came-begin ss so_far others side r all also alike))

first-begin : (ss : List NamedRows) (so_far others : List SwitchEvent) (side : Side) (b : RowAt)
    → IsAdmittedCascade ss so_far → IsAdmittedCascade ss others → BeginsAlike ss so_far others side b
    → BeginWith (bytes_of (accepted_at (hop_at ss others b) side)) (bytes_of (accepted_at (hop_at ss so_far b) side))
first-begin ss so_far others side b all also alike =
    accepted-begin (rule_of (tables_of ss b.switch) b.row) (own b.row.vl side (came_to b.switch others))
    (own b.row.vl side (came_to b.switch so_far)) (came-begin ss so_far others side b all also alike)

-- ---- along the way

-- the first that went on have the bytes of those that came
first-bytes : (delay : ℕ) (xs ys : List Arrival) → AreFirstCopies delay xs ys → BeginWith (bytes_of xs) (bytes_of ys)
first-bytes delay xs ys first = (
  bytes_of first.waiting,
  ap bytes_of first.all ∙ map-append (λ (x : Arrival). x.bytes) first.waiting first.gone
      ∙ ap (λ bs. bytes_of first.waiting ++ bs) (same-bytes delay first.gone ys first.copies),
)

pub first-links-alone : FirstOfLinksAreAlone
first-links-alone ss so_far others side r before all also is are alike =
    let hop = hop_at ss so_far r in
    let hops = hops_at ss so_far before in
    let other = hop_at ss others r in
    let other_hops = hops_at ss others before in
    let first = begins_at r before in
    let way = rows-ways ss so_far side r before all is are in
    let whole = rows-whole ss others side r before also.cascade is are also.soon also.none in
    let ours = accepted_at (first_of hop hops) side in
    let theirs = accepted_at (first_of other other_hops) side in
    let begins : BeginWith (bytes_of theirs) (bytes_of ours) =
    begin-same (bytes_of theirs) (bytes_of (accepted_at (hop_at ss others first) side))
    (bytes_of (accepted_at (hop_at ss so_far first) side)) (bytes_of ours)
    (ap (λ (h : Hop). bytes_of (accepted_at h side)) (first-hop ss others r before))
    (ap (λ (h : Hop). bytes_of (accepted_at h side)) (sym (first-hop ss so_far r before)))
    (first-begin ss so_far others side first all also.cascade alike) in
    record {
      accepted =
          begin-same (bytes_of (accepted_of ss others side r)) (bytes_of theirs) (bytes_of (accepted_at hop side))
          (bytes_of (accepted_of ss so_far side r))
          (ap bytes_of (sym (accepted-at ss others side r also.cascade is))
          ∙ sym (same-bytes (latency_of other_hops) theirs (accepted_at other side)
          (all-accepted side other other_hops whole.0 whole.1)))
          (ap bytes_of (accepted-at ss so_far side r all is))
          (begin-on (bytes_of theirs) (bytes_of ours) (bytes_of (accepted_at hop side)) begins
          (first-bytes (latency_of hops) ours (accepted_at hop side) (first-accepted side hop hops way)));
      leave = λ port goes.
          (let within = row-port ss so_far r port all goes in
          let turns = turns_of r.switch side port so_far in
          let gives : Gives hop side port turns = record {
            goes = goes;
            are = turns-there (plan_of ss) so_far r.switch port side all.rules within.0 within.1;
          } in
          let left = named r.row.vl (brought_by side port turns) in
          let all_left = named r.row.vl (brought_by side port (all_turns other side port)) in
          begin-same (bytes_of (left_from others side r.switch port r.row.vl)) (bytes_of theirs) (bytes_of left)
          (bytes_of (left_from so_far side r.switch port r.row.vl))
          (ap bytes_of (left-is ss others side r port also is goes)
          ∙ sym (same-bytes (latency_of (other ∷ other_hops)) theirs all_left
          (way-leave-all side other other_hops port port whole.0 whole.1 goes)))
          refl
          (begin-on (bytes_of theirs) (bytes_of ours) (bytes_of left) begins
          (first-bytes (latency_of (hop ∷ hops)) ours left (way-leave side hop hops port port turns way gives))));
    }
