-- What leaves the ports of a link's way in an admitted cascade.
use Rattle.std.proofs.Common.{◌≡◌, ℕ, zero, suc, ◌+◌, ◌*◌, ◌<◌, ◌≤◌, nat_lt, Bool, true, false, ◌&&◌, not}
use Rattle.std.proofs.Common.{List, [], ◌∷◌, length, map, refl, sym, ap, ◌∙◌, subst, arith}
use Rattle.std.proofs.Common.{Some, option_map, option_and_then, slice_get}
use Rattle.std.specs.Prelude.{if◌then◌else◌, is_none}
use Rattle.std.proofs.lemmas.Bool.{and_parts, ltb-false}
use Rattle.std.proofs.lemmas.Option.{slice_get_within}
use Rattle.afdx_frame.specs.declared.link.Side.{Side}
use Rattle.afdx_frame.specs.declared.link.Side.TheVariants.{A, B}
use Rattle.afdx_frame.proofs.ListLemmas.{slice_get-within, AllByRecursion-slice_get}
use Rattle.afdx_config.specs.Lawful.{IsLawfulSwitch, IsSystem}
use Rattle.afdx_config.specs.Rows.{LinkRow, Rows}
use Rattle.afdx_config.specs.Switches.{NamedRows}
use Rattle.afdx_admit.specs.Cascade.{RowAt, row_at, row_before, is_sent_here, latency_within, way_latency}
use Rattle.afdx_admit.specs.Cascade.{IsCascadeAdmitted}
use Rattle.afdx_police.specs.Arrival.{Arrival, is_side, names, own}
use Rattle.afdx_police.specs.Rule.{Rule}
use Rattle.afdx_police.specs.Verdicts.{accepted_arrivals, reason_after}
use Rattle.afdx_port.specs.Schedule.{Turn, AreTurns}
use Rattle.afdx_law_bounds.proofs.VerdictLemmas.{one-name}
use Rattle.afdx_switch.specs.Admitted.{IsAdmittedRun, accepted_on, slots}
use Rattle.afdx_switch.specs.HeldFrames.{HeldFrame}
use Rattle.afdx_switch.specs.Hops.{IsCopy, AreCopies, AreFirstCopies}
use Rattle.afdx_switch.specs.Laws.{is_of}
use Rattle.afdx_switch.specs.Tables.{rule_of, goes_to, byte_ns_at, entries_at}
use Rattle.afdx_switch.specs.Verdicts.{reason_of}
use Rattle.afdx_switch.proofs.AdmittedLemmas.{goes-at, link-reason, turn-in-time}
use Rattle.afdx_switch.proofs.HopLemmas.{first-from}
use Rattle.afdx_cascade.specs.Admitted.{IsRow, AreRowsBefore, IsAdmittedCascade, hop_at, hops_at}
use Rattle.afdx_cascade.specs.Cables.{Hop, accepted_at, all_turns, brought, brought_by, latency_at, named}
use Rattle.afdx_cascade.specs.EndToEnd.{Leaves, EachLeaves, FirstOfThemLeave, begins_at, accepted_of}
use Rattle.afdx_cascade.specs.EndToEnd.{left_from, EachPortHasAWay, LinksLeave, FirstOfLinksLeave, NoOthersLeave}
use Rattle.afdx_cascade.specs.Plans.{plan_of, tables_of}
use Rattle.afdx_cascade.specs.SwitchEvents.{SwitchEvent, accepted_by, came_to, turns_of}
use Rattle.afdx_cascade.specs.Ways.{first_of, latency_of}
use Rattle.afdx_cascade.proofs.CableLemmas.{all-leaves, first-leaves}
use Rattle.afdx_cascade.proofs.FedLemmas.{before-row, each-fed, row-here, sent-here, switch-of, tables-at, way-takes}
use Rattle.afdx_cascade.proofs.OnceLemmas.{turns-there}
use Rattle.afdx_cascade.proofs.PlanLemmas.{switches-plan}
use Rattle.afdx_cascade.proofs.WayHopLemmas.{hop-is, rows-ways, run-at}
use Rattle.afdx_cascade.proofs.WayLemmas.{all-accepted, first-accepted}
use Rattle.afdx_cascade.proofs.WholeLemmas.{all-turned, entry-goes, rows-whole}

-- ---- what leaves, of copies

leaves-on : (d e : ℕ) (x y z : Arrival) → IsCopy d x y → Leaves e y z → Leaves (d + e) x z
leaves-on d e x y z one two = record {
  tag = two.tag ∙ one.tag;
  bytes = two.bytes ∙ one.bytes;
  later = (let a = one.after in let b = two.later in omega (arith, a, b));
  within = (let a = one.within in let b = two.within in omega (arith, a, b));
}

each-on : (d e : ℕ) (xs ys zs : List Arrival) → AreCopies d xs ys → EachLeaves e ys zs → EachLeaves (d + e) xs zs
each-on d e [] [] [] one two = tt
each-on d e [] [] (z ∷ zs) one two = absurd two
each-on d e [] (y ∷ ys) zs one two = absurd one
each-on d e (x ∷ xs) [] zs one two = absurd one
each-on d e (x ∷ xs) (y ∷ ys) [] one two = absurd two
each-on d e (x ∷ xs) (y ∷ ys) (z ∷ zs) one two =
    (leaves-on d e x y z one.0 two.0, each-on d e xs ys zs one.1 two.1)

first-leave-on : (d e : ℕ) (xs ys zs : List Arrival) → AreFirstCopies d xs ys → FirstOfThemLeave e ys zs
    → FirstOfThemLeave (d + e) xs zs
first-leave-on d e xs ys zs one two =
    let part = first-from d xs two.waiting two.gone (subst (AreFirstCopies d xs) two.all one) in
    record {
      waiting = part.waiting;
      gone = part.gone;
      all = part.all;
      leave = each-on d e part.gone two.gone zs part.copies two.leave;
    }

each-same : (d e : ℕ) (xs ys left gone : List Arrival) → d ≡ e → xs ≡ ys → left ≡ gone → EachLeaves d xs left
    → EachLeaves e ys gone
each-same d e xs ys left gone delay came leave each =
    subst (λ n. EachLeaves n ys gone) delay
    (subst (λ zs. EachLeaves d zs gone) came (subst (EachLeaves d xs) leave each))

first-same : (d e : ℕ) (xs ys left : List Arrival) → d ≡ e → xs ≡ ys → FirstOfThemLeave d xs left
    → FirstOfThemLeave e ys left
first-same d e xs ys left delay came first =
    subst (λ n. FirstOfThemLeave n ys left) delay (subst (λ zs. FirstOfThemLeave d zs left) came first)

-- ---- what a switch accepts of a link

side-is : (a b : Side) → is_side a b ≡ true → a ≡ b
side-is A A h = refl
side-is B B h = refl
side-is A B h = absurd (cc h)
side-is B A h = absurd (cc h)

pub own-more : (vl : ℕ) (side : Side) (x : Arrival) (xs : List Arrival) (b c : Bool)
    → (is_side side x.side && names vl x.bytes) ≡ b
    → own vl side (if c then x ∷ xs else xs) ≡ (if b && c then x ∷ own vl side xs else own vl side xs)
own-more vl side x xs true true is = ap (λ d. if d then x ∷ own vl side xs else own vl side xs) is
own-more vl side x xs true false is = refl
own-more vl side x xs false true is = ap (λ d. if d then x ∷ own vl side xs else own vl side xs) is
own-more vl side x xs false false is = refl

accepted-step : (rule : Rule) (x : Arrival) (xs : List Arrival) (b : Bool)
    → accepted_arrivals rule (if b then x ∷ xs else xs)
    ≡ (if b && is_none (reason_after rule xs x) then x ∷ accepted_arrivals rule xs else accepted_arrivals rule xs)
unfolding accepted_arrivals
accepted-step rule x xs true = refl
accepted-step rule x xs false = refl

none-accepted : (rule : Rule) → accepted_arrivals rule [] ≡ []
unfolding accepted_arrivals
none-accepted rule = refl

module _ (t : Rows) (place : ℕ) (l : LinkRow) (side : Side) (lawful : IsLawfulSwitch t)
    (at : slice_get t.links place ≡ Some l) where
  pub own-reason : (x : Arrival) (past : List Arrival) → (is_side side x.side && names l.vl x.bytes) ≡ true
      → reason_of t past x ≡ reason_after (rule_of t l) (own l.vl side past) x
  own-reason x past is =
      let parts = and_parts (is_side side x.side) (names l.vl x.bytes) is in
      link-reason t past x place l lawful at parts.1
      ∙ ap (λ s. reason_after (rule_of t l) (own l.vl s past) x) (sym (side-is side x.side parts.0))

  same-test : (x : Arrival) (past : List Arrival) (b : Bool) → (is_side side x.side && names l.vl x.bytes) ≡ b
      → (b && is_none (reason_after (rule_of t l) (own l.vl side past) x)) ≡ (b && is_none (reason_of t past x))
  same-test x past false is = refl
  same-test x past true is = ap is_none (sym (own-reason x past is))

  -- those of its own arrivals, and those of all
  pub accepted-is : (arrivals : List Arrival)
      → accepted_on t l side arrivals ≡ own l.vl side (accepted_by t arrivals)
  accepted-is [] = none-accepted (rule_of t l)
  accepted-is (x ∷ past) =
      let test = is_side side x.side && names l.vl x.bytes in
      let rule = rule_of t l in
      let ours = own l.vl side past in
      let taken = own l.vl side (accepted_by t past) in
      accepted-step rule x ours test
      ∙ ap (λ zs. if test && is_none (reason_after rule ours x) then x ∷ zs else zs) (accepted-is past)
      ∙ ap (λ b. if b then x ∷ taken else taken) (same-test x past test refl)
      ∙ sym (own-more l.vl side x (accepted_by t past) test (is_none (reason_of t past x)) refl)

-- ---- the first row of a way

pub first-hop : (ss : List NamedRows) (so_far : List SwitchEvent) (r : RowAt) (before : List RowAt)
    → first_of (hop_at ss so_far r) (hops_at ss so_far before) ≡ hop_at ss so_far (begins_at r before)
first-hop ss so_far r [] = refl
first-hop ss so_far r (b ∷ before) = first-hop ss so_far b before

pub first-is : (ss : List NamedRows) (r : RowAt) (before : List RowAt) → IsRow ss r → AreRowsBefore ss r before
    → IsRow ss (begins_at r before)
first-is ss r [] is are = is
first-is ss r (b ∷ before) is are = first-is ss b before (before-row ss r b are.0) are.1

pub accepted-at : (ss : List NamedRows) (so_far : List SwitchEvent) (side : Side) (r : RowAt)
    → IsAdmittedCascade ss so_far → IsRow ss r
    → accepted_at (hop_at ss so_far r) side ≡ accepted_of ss so_far side r
accepted-at ss so_far side r all is =
    let hop = hop-is ss so_far r all is in
    accepted-is (tables_of ss r.switch) hop.place r.row side hop.run.lawful hop.stands (came_to r.switch so_far)

pub accepted-first : (ss : List NamedRows) (so_far : List SwitchEvent) (side : Side) (r : RowAt) (before : List RowAt)
    → IsAdmittedCascade ss so_far → IsRow ss r → AreRowsBefore ss r before
    → accepted_at (first_of (hop_at ss so_far r) (hops_at ss so_far before)) side
    ≡ accepted_of ss so_far side (begins_at r before)
accepted-first ss so_far side r before all is are =
    ap (λ (h : Hop). accepted_at h side) (first-hop ss so_far r before)
    ∙ accepted-at ss so_far side (begins_at r before) all (first-is ss r before is are)

-- ---- the port of a way

pub port-within : (t : Rows) (l : LinkRow) (port : ℕ) → IsLawfulSwitch t → goes_to t l port ≡ true
    → (1 ≤ port) × (port ≤ 24)
port-within t l port lawful goes =
    let at = goes-at t l port goes in
    let system = AllByRecursion-slice_get (IsSystem t.profile) t.systems at.system at.s lawful.systems.each at.stands in
    let low = system.port.0 in
    let high = system.port.1 in
    let here = at.here in
    (omega (arith, low, here), omega (arith, high, here))

pub row-port : (ss : List NamedRows) (so_far : List SwitchEvent) (r : RowAt) (port : ℕ) → IsAdmittedCascade ss so_far
    → goes_to (tables_of ss r.switch) r.row port ≡ true → (1 ≤ port) × (port ≤ 24)
row-port ss so_far r port all goes =
    port-within (tables_of ss r.switch) r.row port ((switches-plan ss all.are).0.lawful r.switch) goes

-- ---- each row has a way

sent-within : (ss : List NamedRows) (r : RowAt) (n : ℕ) → r.switch < n → is_sent_here ss r ≡ true
    → latency_within n ss r ≡ Some r.row.latency_us
sent-within ss r zero within sent = absurd (omega (arith, within))
sent-within ss r (suc n) within sent =
    ap (λ b. if b then Some r.row.latency_us
    else option_and_then (λ (b : RowAt). option_map (λ m. m + r.row.latency_us) (latency_within n ss b))
    (row_before ss r)) sent

pub sent-latency : (ss : List NamedRows) (r : RowAt) → r.switch < length ss → is_sent_here ss r ≡ true
    → way_latency ss r ≡ Some r.row.latency_us
unfolding way_latency
sent-latency ss r within sent = sent-within ss r (length ss) within sent

pub row-latency : (ss : List NamedRows) (r : RowAt) → IsCascadeAdmitted ss → IsRow ss r
    → (sum : ℕ) × (way_latency ss r ≡ Some sum)
row-latency ss r admitted is = by (nat_lt r.row.from s.0.rows.own) refl
  where
    s : (z : NamedRows) × (slice_get ss r.switch ≡ Some z)
    s = switch-of ss r is

    by : (b : Bool) → nat_lt r.row.from s.0.rows.own ≡ b → (sum : ℕ) × (way_latency ss r ≡ Some sum)
    by true ours =
        (r.row.latency_us, sent-latency ss r (slice_get_within ss r.switch s.0 s.1) (sent-here ss r s.0 s.1 ∙ ours))
    by false past =
        let hop = admitted.hops r.switch s.0 s.1 is.place r.row (row-here ss r s.0 is s.1)
        (ltb-false r.row.from s.0.rows.own past) in
        (hop.sum, hop.way)

pub each-way : EachPortHasAWay
each-way ss r port admitted is goes =
    let fed = each-fed ss r admitted is in
    let sum = row-latency ss r admitted is in
    (fed.before, sum.0, record { row = is; are = fed.are; latency = sum.1; goes = goes })

-- ---- end to end

pub links-leave : LinksLeave
links-leave ss so_far side r before sum port events way =
    let all = events.cascade in
    let hop = hop_at ss so_far r in
    let hops = hops_at ss so_far before in
    let whole = rows-whole ss so_far side r before all way.row way.are events.soon events.none in
    let within = row-port ss so_far r port all way.goes in
    each-same (latency_of (hop ∷ hops)) (1000 * sum) (accepted_at (first_of hop hops) side)
    (accepted_of ss so_far side (begins_at r before)) (named r.row.vl (brought_by side port (all_turns hop side port)))
    (left_from so_far side r.switch port r.row.vl) (way-takes ss so_far r before sum way.are way.latency)
    (accepted-first ss so_far side r before all way.row way.are)
    (ap (λ ts. named r.row.vl (brought_by side port ts))
    (sym (all-turned (plan_of ss) so_far r.switch port side all.rules (hop-is ss so_far r all way.row).run.timed
    events.none within.0 within.1)))
    (each-on (latency_of hops) (latency_at hop) (accepted_at (first_of hop hops) side) (accepted_at hop side)
    (named r.row.vl (brought_by side port (all_turns hop side port)))
    (all-accepted side hop hops whole.0 whole.1)
    (all-leaves hop side port port (hop-is ss so_far r all way.row) way.goes))

pub first-links-leave : FirstOfLinksLeave
first-links-leave ss so_far side r before sum port all way =
    let hop = hop_at ss so_far r in
    let hops = hops_at ss so_far before in
    let within = row-port ss so_far r port all way.goes in
    let turns = turns_of r.switch side port so_far in
    first-same (latency_of (hop ∷ hops)) (1000 * sum) (accepted_at (first_of hop hops) side)
    (accepted_of ss so_far side (begins_at r before)) (left_from so_far side r.switch port r.row.vl)
    (way-takes ss so_far r before sum way.are way.latency)
    (accepted-first ss so_far side r before all way.row way.are)
    (first-leave-on (latency_of hops) (latency_at hop) (accepted_at (first_of hop hops) side) (accepted_at hop side)
    (named r.row.vl (brought_by side port turns))
    (first-accepted side hop hops (rows-ways ss so_far side r before all way.row way.are))
    (first-leaves hop side port port turns (hop-is ss so_far r all way.row)
    (record {
      goes = way.goes;
      are = turns-there (plan_of ss) so_far r.switch port side all.rules within.0 within.1;
    })))

-- ---- from other ports

none-leave : (t : Rows) (arrivals : List Arrival) (side : Side) (port to vl : ℕ) → IsAdmittedRun t arrivals
    → ((place : ℕ) (l : LinkRow) → slice_get t.links place ≡ Some l → l.vl ≡ vl → goes_to t l port ≡ false)
    → (turns : List (Turn HeldFrame)) → AreTurns (byte_ns_at t port) (entries_at t side port arrivals) turns
    → named vl (brought_by side to turns) ≡ []
none-leave t arrivals side port to vl run none [] are = refl
none-leave t arrivals side port to vl run none (s ∷ earlier) are =
    by s.too_old (is_of vl s.entry) refl (none-leave t arrivals side port to vl run none earlier are.1)
  where
    not-ours : is_of vl s.entry ≡ true → ⊥
    not-ours own =
        let it = turn-in-time t arrivals side port s earlier run are in
        let goes = entry-goes t arrivals side port it.place s.place it.link s.entry run it.stands are.0.own.stands
        it.named in
        let stays = none it.place it.link it.stands (one-name it.link.vl vl s.entry.item.bytes it.named own) in
        cc (goes, stays)

    by : (b c : Bool) → is_of vl s.entry ≡ c → named vl (brought_by side to earlier) ≡ []
        → named vl (map (brought side to) (if not b then s ∷ slots earlier else slots earlier)) ≡ []
    by true c is rest = rest
    by false false is rest =
        ap (λ d. if d then brought side to s ∷ named vl (brought_by side to earlier)
        else named vl (brought_by side to earlier)) is ∙ rest
    by false true is rest = absurd (not-ours is)

row-there : (ss : List NamedRows) (k : ℕ) (s : NamedRows) (place : ℕ) (l : LinkRow) → slice_get ss k ≡ Some s
    → slice_get (tables_of ss k).links place ≡ Some l → IsRow ss (row_at k l)
row-there ss k s place l at stands = record {
  place = place;
  stands = ap (option_and_then (λ (r : NamedRows). slice_get r.rows.links place)) at
      ∙ ap (λ (t : Rows). slice_get t.links place) (sym (tables-at ss k s at)) ∙ stands;
}

pub no-others : NoOthersLeave
no-others ss so_far side k port vl all within low high none =
    let s = slice_get-within ss k within in
    none-leave (tables_of ss k) (came_to k so_far) side port port vl (run-at ss so_far k s.0 all s.1)
    (λ place l stands is. none l (row-there ss k s.0 place l s.1 stands) is)
    (turns_of k side port so_far) (turns-there (plan_of ss) so_far k port side all.rules low high)
