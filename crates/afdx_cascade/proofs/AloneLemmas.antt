-- A link in two lists of events of one admitted cascade.
use Rattle.std.proofs.Common.{◌≡◌, ℕ, Bool, true, false, ◌&&◌, List, [], ◌∷◌, ◌++◌, map, filter, refl, sym, ap, ◌∙◌}
use Rattle.std.proofs.Common.{Option, None, Some, slice_get}
use Rattle.std.specs.Prelude.{if◌then◌else◌, is_none}
use Rattle.std.proofs.lemmas.Bool.{and_parts}
use Rattle.std.proofs.lemmas.Option.{same_Some}
use Rattle.afdx_frame.specs.declared.link.Side.{Side}
use Rattle.afdx_config.specs.Lawful.{AreDistinct, IsLawfulSwitch}
use Rattle.afdx_config.specs.Rows.{LinkRow, Rows}
use Rattle.afdx_config.specs.Switches.{NamedRows}
use Rattle.afdx_admit.specs.Cascade.{RowAt, row_at, is_sent_here}
use Rattle.afdx_police.specs.Arrival.{Arrival, is_side, names, own}
use Rattle.afdx_police.specs.Rule.{Rule}
use Rattle.afdx_police.specs.Verdicts.{accepted_own, drop_reason, reason_after}
use Rattle.afdx_police.specs.declared.shape.Reason.{Reason}
use Rattle.afdx_law_bounds.proofs.VerdictLemmas.{one-name}
use Rattle.afdx_switch.specs.Tables.{rule_of, goes_to}
use Rattle.afdx_switch.specs.Verdicts.{reason_of}
use Rattle.afdx_cascade.specs.Admitted.{IsRow, IsAdmittedCascade, hop_at, hops_at}
use Rattle.afdx_cascade.specs.Cables.{Hop, all_turns, brought_by, named, rule_at}
use Rattle.afdx_cascade.specs.EndToEnd.{AreAllEvents, AreAlike, BeginWith, begins_at, left_from, reasons_on}
use Rattle.afdx_cascade.specs.EndToEnd.{LinksAreAlone, OnlyItsWayIsAccepted, OwnAreOfList, ReasonsAreAlone}
use Rattle.afdx_cascade.specs.Plans.{plan_of, tables_of}
use Rattle.afdx_cascade.specs.SwitchEvents.{End, SwitchEvent, came_to}
use Rattle.afdx_cascade.specs.Ways.{bytes_of, untagged}
use Rattle.afdx_cascade.proofs.CableLemmas.{again}
use Rattle.afdx_cascade.proofs.EndToEndLemmas.{accepted-at, first-hop, own-more, own-reason, row-port}
use Rattle.afdx_cascade.proofs.FedLemmas.{before-row, row-here, switch-of}
use Rattle.afdx_cascade.proofs.PlanLemmas.{lawful-at}
use Rattle.afdx_cascade.proofs.ReadLemmas.{cables-read}
use Rattle.afdx_cascade.proofs.WayHopLemmas.{hop-goes-on, hop-is}
use Rattle.afdx_cascade.proofs.WayLemmas.{frames-alone, own-untagged}
use Rattle.afdx_cascade.proofs.WholeLemmas.{all-turned, free-port, rows-whole}

-- ---- own arrivals are of the list

identifiers : (t : Rows) → IsLawfulSwitch t → (i j : ℕ) (a b : LinkRow) → slice_get t.links i ≡ Some a
    → slice_get t.links j ≡ Some b → a.vl ≡ b.vl → i ≡ j
unfolding AreDistinct
identifiers t lawful i j a b at there same = lawful.links.identifiers i j a b at there same

append-one : (xs : List Arrival) (x : Arrival) (ys : List Arrival) → xs ++ x ∷ ys ≡ (xs ++ x ∷ []) ++ ys
append-one [] x ys = refl
append-one (z ∷ xs) x ys = ap (λ zs. z ∷ zs) (append-one xs x ys)

-- a switch has one row of a link
one-row : (ss : List NamedRows) (so_far : List SwitchEvent) (k : ℕ) (l m : LinkRow) → IsAdmittedCascade ss so_far
    → IsRow ss (row_at k l) → IsRow ss (row_at k m) → l.vl ≡ m.vl → l ≡ m
one-row ss so_far k l m all is also vl =
    let s = switch-of ss (row_at k l) is in
    let lawful = lawful-at ss all.are k s.0 s.1 in
    let at = row-here ss (row_at k l) s.0 is s.1 in
    let there = row-here ss (row_at k m) s.0 also s.1 in
    let place = identifiers s.0.rows lawful is.place also.place l m at there vl in
    same_Some l m (sym at ∙ ap (slice_get s.0.rows.links) place ∙ there)

module _ (ss : List NamedRows) (so_far : List SwitchEvent) (side : Side) (r : RowAt)
    (all : IsAdmittedCascade ss so_far) (is : IsRow ss r) (sent : is_sent_here ss r ≡ true) where
  -- a frame under the link's name comes where no cable is
  at-free : (later past : List Arrival) (x : Arrival) → came_to r.switch so_far ≡ later ++ x ∷ past
      → names r.row.vl x.bytes ≡ true → (plan_of ss).far_end r.switch x.port ≡ None
  at-free later past x came named = by ((plan_of ss).far_end r.switch x.port) refl
    where
      by : (o : Option End) → (plan_of ss).far_end r.switch x.port ≡ o
          → (plan_of ss).far_end r.switch x.port ≡ None
      by None free = free
      by (Some other) joined =
          let read = (cables-read ss so_far r.switch later past x other all came joined).0 in
          let same = one-row ss so_far r.switch read.link r.row all read.row is
          (one-name read.link.vl r.row.vl x.bytes read.named named) in
          ap ((plan_of ss).far_end r.switch)
          (sym read.port ∙ ap (λ l. (rule_of (tables_of ss r.switch) l).port) same)
          ∙ free-port ss all.are r is sent

  abbrev is_listed : Arrival → Bool
  is_listed x = is_none ((plan_of ss).far_end r.switch x.port)

  -- so none is left out
  own-free : (later xs : List Arrival) → came_to r.switch so_far ≡ later ++ xs
      → own r.row.vl side xs ≡ own r.row.vl side (filter is_listed xs)
  own-free later [] came = refl
  own-free later (x ∷ past) came =
      by (is_side side x.side && names r.row.vl x.bytes) (is_listed x) refl refl
      (own-free (later ++ x ∷ []) past (came ∙ append-one later x past))
    where
      by : (b c : Bool) → (is_side side x.side && names r.row.vl x.bytes) ≡ b → is_listed x ≡ c
          → own r.row.vl side past ≡ own r.row.vl side (filter is_listed past)
          → (if b then x ∷ own r.row.vl side past else own r.row.vl side past)
          ≡ own r.row.vl side (if c then x ∷ filter is_listed past else filter is_listed past)
      by true true ours listed rest =
          ap (λ xs. x ∷ xs) rest ∙ sym (own-more r.row.vl side x (filter is_listed past) true true ours)
      by true false ours listed rest = absurd (
          let named = (and_parts (is_side side x.side) (names r.row.vl x.bytes) ours).1 in
          let off : false ≡ true = sym listed ∙ ap is_none (at-free later past x came named) in cc off)
      by false c ours listed rest = rest ∙ sym (own-more r.row.vl side x (filter is_listed past) false c ours)

pub own-of-list : OwnAreOfList
own-of-list ss so_far side r all is sent = own-free ss so_far side r all is sent [] (came_to r.switch so_far) refl

-- ---- what becomes of own arrivals

pub reasons : Rule → List Arrival → List (Option Reason)
reasons rule [] = []
reasons rule (x ∷ past) = reason_after rule past x ∷ reasons rule past

-- no verdict depends on a tag
pub reasons-untagged : (rule : Rule) (xs : List Arrival) → reasons rule (map untagged xs) ≡ reasons rule xs
unfolding reasons reason_after
reasons-untagged rule [] = refl
reasons-untagged rule (x ∷ past) =
    ap (λ zs. drop_reason rule zs x ∷ reasons rule (map untagged past)) (own-untagged rule past)
    ∙ ap (λ rs. drop_reason rule (accepted_own rule past) x ∷ rs) (reasons-untagged rule past)

-- they begin with those on the first
pub reasons-more : (rule : Rule) (later xs : List Arrival) → BeginWith (reasons rule (later ++ xs)) (reasons rule xs)
unfolding reasons
reasons-more rule [] xs = ([], refl)
reasons-more rule (x ∷ later) xs =
    let rest = reasons-more rule later xs in (
      reason_after rule (later ++ xs) x ∷ rest.0,
      ap (λ rs. reason_after rule (later ++ xs) x ∷ rs) rest.1,
    )

reasons-step : (rule : Rule) (x : Arrival) (xs : List Arrival) (b : Bool)
    → reasons rule (if b then x ∷ xs else xs)
    ≡ (if b then reason_after rule xs x ∷ reasons rule xs else reasons rule xs)
unfolding reasons
reasons-step rule x xs true = refl
reasons-step rule x xs false = refl

no-reasons : (rule : Rule) → reasons rule [] ≡ []
unfolding reasons
no-reasons rule = refl

module _ (t : Rows) (place : ℕ) (l : LinkRow) (side : Side) (lawful : IsLawfulSwitch t)
    (at : slice_get t.links place ≡ Some l) where
  same-reason : (x : Arrival) (past : List Arrival) (b : Bool) → (is_side side x.side && names l.vl x.bytes) ≡ b
      → (rs : List (Option Reason))
      → (if b then reason_after (rule_of t l) (own l.vl side past) x ∷ rs else rs)
      ≡ (if b then reason_of t past x ∷ rs else rs)
  same-reason x past false is rs = refl
  same-reason x past true is rs = ap (λ r. r ∷ rs) (sym (own-reason t place l side lawful at x past is))

  -- they come from its own arrivals
  pub reasons-are : (arrivals : List Arrival) → reasons (rule_of t l) (own l.vl side arrivals)
      ≡ reasons_on t l.vl side arrivals
  reasons-are [] = no-reasons (rule_of t l)
  reasons-are (x ∷ past) =
      let test = is_side side x.side && names l.vl x.bytes in
      let rule = rule_of t l in
      let ours = own l.vl side past in
      reasons-step rule x ours test
      ∙ ap (λ rs. if test then reason_after rule ours x ∷ rs else rs) (reasons-are past)
      ∙ same-reason x past test refl (reasons_on t l.vl side past)

came-alike : (ss : List NamedRows) (so_far others : List SwitchEvent) (side : Side) (r : RowAt)
    → IsAdmittedCascade ss so_far → IsAdmittedCascade ss others → AreAlike ss so_far others side r
    → map untagged (own r.row.vl side (came_to r.switch so_far))
    ≡ map untagged (own r.row.vl side (came_to r.switch others))
came-alike ss so_far others side r all also alike =
    ap (map untagged) (own-of-list ss so_far side r all alike.row alike.sent) ∙ alike.same
    ∙ ap (map untagged) (sym (own-of-list ss others side r also alike.row alike.sent))

pub reasons-alone : ReasonsAreAlone
reasons-alone ss so_far others side r all also alike =
    let hop = hop-is ss so_far r all alike.row in
    let t = tables_of ss r.switch in
    let rule = rule_of t r.row in
    let ours = own r.row.vl side (came_to r.switch so_far) in
    let theirs = own r.row.vl side (came_to r.switch others) in
    sym (reasons-are t hop.place r.row side hop.run.lawful hop.stands (came_to r.switch so_far))
    ∙ sym (reasons-untagged rule ours) ∙ ap (reasons rule) (came-alike ss so_far others side r all also alike)
    ∙ reasons-untagged rule theirs
    ∙ reasons-are t hop.place r.row side hop.run.lawful hop.stands (came_to r.switch others)

-- ---- at each switch of its way

pub only-its-way : OnlyItsWayIsAccepted
only-its-way ss so_far side r b all is before =
    sym (accepted-at ss so_far side r all is)
    ∙ (again side (hop_at ss so_far b) (hop_at ss so_far r) (hop-is ss so_far b all (before-row ss r b before))
    (hop-is ss so_far r all is) (hop-goes-on ss so_far side r b all is before)).accepted

pub left-is : (ss : List NamedRows) (so_far : List SwitchEvent) (side : Side) (r : RowAt) (port : ℕ)
    → AreAllEvents ss so_far → IsRow ss r → goes_to (tables_of ss r.switch) r.row port ≡ true
    → left_from so_far side r.switch port r.row.vl
    ≡ named r.row.vl (brought_by side port (all_turns (hop_at ss so_far r) side port))
left-is ss so_far side r port events is goes =
    let all = events.cascade in
    let within = row-port ss so_far r port all goes in
    ap (λ ts. named r.row.vl (brought_by side port ts))
    (all-turned (plan_of ss) so_far r.switch port side all.rules (hop-is ss so_far r all is).run.timed events.none
    within.0 within.1)

own-at : Side → Hop → List Arrival
own-at side h = own h.link.vl side h.arrivals

pub links-alone : LinksAreAlone
unfolding own-at
links-alone ss so_far others side r before events also is are alike =
    let hop = hop_at ss so_far r in
    let hops = hops_at ss so_far before in
    let other = hop_at ss others r in
    let other_hops = hops_at ss others before in
    let whole = rows-whole ss so_far side r before events.cascade is are events.soon events.none in
    let too = rows-whole ss others side r before also.cascade is are also.soon also.none in
    let first = first-hop ss so_far r before in
    let other_first = first-hop ss others r before in
    let same = frames-alone side hop other hops other_hops whole.0 whole.1 too.0 too.1
    (ap rule_at first ∙ ap rule_at (sym other_first))
    (ap (λ h. map untagged (own-at side h)) first
    ∙ came-alike ss so_far others side (begins_at r before) events.cascade also.cascade alike
    ∙ ap (λ h. map untagged (own-at side h)) (sym other_first)) in
    record {
      accepted = ap bytes_of (sym (accepted-at ss so_far side r events.cascade is)) ∙ same.accepted
          ∙ ap bytes_of (accepted-at ss others side r also.cascade is);
      leave = λ port goes.
          ap bytes_of (left-is ss so_far side r port events is goes) ∙ same.leave port port port goes goes
          ∙ ap bytes_of (sym (left-is ss others side r port also is goes));
    }
