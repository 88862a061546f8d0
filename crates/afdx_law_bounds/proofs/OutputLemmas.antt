-- The entries of a port over a list of arrivals.
use Rattle.std.proofs.Common.{◌≡◌, ℕ, ◌+◌, ◌≤◌, ◌==◌, ◌&&◌, Bool, true, false, List, [], ◌∷◌, ◌++◌}
use Rattle.std.proofs.Common.{length, map, Option, Some, None, inl, inr, refl, sym, ap}
use Rattle.std.proofs.Common.{subst, arith, ◌∙◌, suc, if◌then◌else◌}
use Rattle.std.specs.Prelude.{All, Contains, IfSome, find, reverse}
use Rattle.std.specs.List.{slice_get}
use Rattle.std.proofs.lemmas.Bool.{cases_Bool, eqb-true, and_parts, cond-false}
use Rattle.std.proofs.lemmas.List.{reverse-append}
use Rattle.std.proofs.lemmas.List.Elements.{All-push}
use Rattle.afdx_frame.specs.Flows.{Flow}
use Rattle.afdx_frame.proofs.SideLemmas.{is_side-same}
use Rattle.afdx_police.specs.Arrival.{Arrival, is_side, own}
use Rattle.afdx_police.specs.Charge.{charge_by}
use Rattle.afdx_police.specs.Laws.{EachAccountMoves, ArrivalsAreOffers}
use Rattle.afdx_police.specs.Offers.{offers_of}
use Rattle.afdx_police.specs.Policer.{charged_offer}
use Rattle.afdx_police.specs.Rule.{regulation_of}
use Rattle.afdx_police.specs.Verdicts.{charged_by, accepted_own}
use Rattle.afdx_police.specs.Window.{Charged, fits, accepted_of}
use Rattle.afdx_port.specs.Schedule.{Entry}
use Rattle.afdx_port.specs.ScheduleOf.{AreInOrder}
use Rattle.afdx_port.proofs.TurnLemmas.{eqb-same}
use Rattle.afdx_law_bounds.specs.OutputLaws.{IsServed, SentIsOffered, UnsentIsNot, EntriesAreRegulated}
use Rattle.afdx_law_bounds.specs.OutputLaws.{EntriesAreAccepted, OffersEnter, ArrivalIsKept}
use Rattle.afdx_law_bounds.specs.OutputLaws.{ArrivalsAreInTime, ArrivalsAreNotOld, ArrivalsHaveLeft}
use Rattle.afdx_law_bounds.specs.Policed.{charged_as, charged_to, MayWait, IsCharged, ArePoliced, IsRegulated}
use Rattle.afdx_law_bounds.specs.Admitted.{Joins}
use Rattle.afdx_law_bounds.specs.Outputs.{Row, Output, AreRows, flow_of, flows_at, AreTimed, accepts}
use Rattle.afdx_law_bounds.specs.Outputs.{sends, entry_of, with_sent, offers_at, entries_at, Carries}
use Rattle.afdx_law_bounds.specs.Offered.{is_lost, entries_of}
use Rattle.afdx_law_bounds.proofs.SumLemmas.{charged-push}
use Rattle.afdx_law_bounds.proofs.AdmittedLemmas.{in-time, turn-not-old}
use Rattle.afdx_law_bounds.proofs.LeftLemmas.{each-left}
use Rattle.afdx_law_bounds.proofs.BoundLemmas.{turn_at}
use Rattle.afdx_law_bounds.proofs.ListLemmas.{get_all, all_get}
use Rattle.afdx_law_bounds.proofs.NextLemmas.{order-push, next-regulated, offer-kept}
use Rattle.afdx_law_bounds.proofs.VerdictLemmas.{looks, charge-least, one-name, both-then, accepted-more}
use Rattle.afdx_law_bounds.proofs.RowLemmas.{flow-from, flow-to, flows-are, find-some, find-none}

-- what a row that sends the arrival to the port does
record Sends (o : Output) (past : List Arrival) (x : Arrival) (r : Row) : Type 0 where
  accepted : accepts past x r ≡ true
  side : is_side o.side x.side ≡ true
  goes : r.goes_to o.number ≡ true

sends-parts : (o : Output) (past : List Arrival) (x : Arrival) (r : Row) → sends o past x r ≡ true → Sends o past x r
sends-parts o past x r h =
    let first = and_parts (accepts past x r) (is_side o.side x.side && r.goes_to o.number) h in
    let rest = and_parts (is_side o.side x.side) (r.goes_to o.number) first.1 in
    record { accepted = first.0; side = rest.0; goes = rest.1 }

-- the row that accepts is one
one-row : (rows : List Row) (past : List Arrival) (x : Arrival) (r s : Row) → AreRows rows → Contains rows r →
    Contains rows s → accepts past x r ≡ true → accepts past x s ≡ true → r ≡ s
one-row rows past x r s are k l h g =
    are.distinct r s k l (one-name r.rule.vl s.rule.vl x.bytes (looks r past x h).named
    (looks s past x g).named)

module _ {X : Type 0} where
  -- an entry may wait as long as its row says
  record Waits (vl_of : X → ℕ) (rows : List Row) (e : Entry X) : Type 0 where
    row : Row
    stands : Contains rows row
    named : vl_of e.item ≡ row.rule.vl
    is : e.longest_wait ≡ row.longest_wait

  -- what holds of the entries after some arrivals
  record Inv (vl_of : X → ℕ) (charge_of : Entry X → ℕ) (rows : List Row) (o : Output)
      (past : List Arrival) (entries : List (Entry X)) : Type 0 where
    order : AreInOrder entries
    charged : All (λ e. IsCharged vl_of charge_of (flows_at o.number rows) e) entries
    waits : All (λ e. Waits vl_of rows e) entries
    come : (t : ℕ) → All (λ y. y.time ≤ t) past → All (λ e. e.time ≤ t) entries
    owned : (r : Row) → Contains rows r → r.goes_to o.number ≡ true →
        charged_to vl_of charge_of r.rule.vl entries ≡ accepted_own r.rule (own r.rule.vl o.side past)

  policed : ArrivalsAreOffers → (vl_of : X → ℕ) (charge_of : Entry X → ℕ) (rows : List Row) (o : Output)
      (past : List Arrival) (entries : List (Entry X)) → Inv vl_of charge_of rows o past entries →
      ArePoliced vl_of charge_of (flows_at o.number rows) entries
  policed offers vl_of charge_of rows o past entries inv = record {
    charged = inv.charged;
    accepted = λ f k. (let w = flow-from o.number rows k.0 f k.1 k.2 in
        let came = map (charged_offer (charge_by w.row.rule.policing) (regulation_of w.row.rule))
        (offers_of w.row.rule (own w.row.rule.vl o.side past)) in
        let is : charged_to vl_of charge_of w.row.rule.vl entries
        ≡ accepted_of (regulation_of w.row.rule) came = inv.owned w.row w.stands w.goes
        ∙ offers w.row.rule (own w.row.rule.vl o.side past) in
        let P : Flow → Type 0 = λ d. (xs : List Charged)
        × (charged_to vl_of charge_of d.vl entries ≡ accepted_of d.link xs) in
        subst P w.is (came, is));
  }

  regulated : ArrivalsAreOffers → (vl_of : X → ℕ) (charge_of : Entry X → ℕ) (rows : List Row) (o : Output)
      (past : List Arrival) (entries : List (Entry X)) → IsServed rows o → Inv vl_of charge_of rows o past entries →
      IsRegulated o.byte_ns o.buffer (flows_at o.number rows) vl_of charge_of entries
  regulated offers vl_of charge_of rows o past entries served inv = record {
    line = served.line;
    flows_are = flows-are o.number rows served.rows_are;
    admitted = served.admitted;
    in_order = inv.order;
    policed = policed offers vl_of charge_of rows o past entries inv;
  }

  same-charged : (charge_of : Entry X → ℕ) (item_of : Arrival → X) (r : Row) (x : Arrival) →
      charge_of (entry_of item_of r x) ≡ (charged_by r.rule x).charge →
      charged_as charge_of (entry_of item_of r x) ≡ charged_by r.rule x
  same-charged charge_of item_of r x is = ap (λ n. with_charge n) is
    where
      with_charge : ℕ → Charged
      with_charge n = record { time = x.time; charge = n }

  -- an arrival that a row sends there joins the entries
  arrival-joins : (item_of : Arrival → X) (vl_of : X → ℕ) (charge_of : Entry X → ℕ) (rows : List Row) (o : Output)
      (past : List Arrival) (entries : List (Entry X)) (x : Arrival) (r : Row) →
      Carries item_of vl_of charge_of rows → Inv vl_of charge_of rows o past entries →
      All (λ y. y.time ≤ x.time) past → Contains rows r → Sends o past x r →
      Joins vl_of charge_of (flows_at o.number rows) entries (flow_of r) (entry_of item_of r x)
  arrival-joins item_of vl_of charge_of rows o past entries x r carries inv times stands s =
      let l = looks r past x s.accepted in
      let charge = carries.charge r x stands l.named in
      let c = charge-least r.rule.policing (r.rule.lmax + 20) (length x.bytes + 20)
      (let short = l.short in omega (arith, short)) in
      let is : charged_to vl_of charge_of r.rule.vl entries ≡ accepted_own r.rule (own r.rule.vl x.side past)
      = inv.owned r stands s.goes
      ∙ ap (λ side. accepted_own r.rule (own r.rule.vl side past)) (is_side-same o.side x.side s.side) in
      let P : List Charged → Type 0 = λ xs. fits (regulation_of r.rule) xs (charged_by r.rule x) ≡ true in
      let Q : Charged → Type 0 =
      λ a. fits (regulation_of r.rule) (charged_to vl_of charge_of r.rule.vl entries) a ≡ true in
      record {
        last = inv.come x.time times;
        stands = flow-to o.number rows r stands s.goes;
        named = carries.link r x stands l.named;
        class = refl;
        at_least = (let least = c.0 in omega (arith, charge, least));
        at_most = (let most = c.1 in omega (arith, charge, most));
        fits_in = subst Q (sym (same-charged charge_of item_of r x charge)) (subst P (sym is) l.fit);
      }

  kept : EachAccountMoves → ArrivalsAreOffers → (item_of : Arrival → X) (vl_of : X → ℕ) (charge_of : Entry X → ℕ)
      (rows : List Row) (o : Output) (past : List Arrival) (entries : List (Entry X)) (x : Arrival) (r : Row) →
      IsServed rows o → Carries item_of vl_of charge_of rows → Inv vl_of charge_of rows o past entries →
      All (λ y. y.time ≤ x.time) past → Contains rows r → Sends o past x r →
      is_lost o.byte_ns o.buffer entries (entry_of item_of r x) ≡ false
  kept moves offers item_of vl_of charge_of rows o past entries x r served carries inv times stands s =
      offer-kept moves o.byte_ns o.buffer (flows_at o.number rows) vl_of charge_of entries
      (entry_of item_of r x) inv.order
      (next-regulated o.byte_ns o.buffer (flows_at o.number rows) vl_of charge_of entries
      (flow_of r) (entry_of item_of r x)
      (regulated offers vl_of charge_of rows o past entries served inv)
      (arrival-joins item_of vl_of charge_of rows o past entries x r carries inv times stands s))

  -- no row sends the arrival there
  stays : (vl_of : X → ℕ) (charge_of : Entry X → ℕ) (rows : List Row) (o : Output) (past : List Arrival)
      (entries : List (Entry X)) (x : Arrival) →
      Inv vl_of charge_of rows o past entries
      → ((r : Row) → Contains rows r → sends o past x r ≡ false)
      → Inv vl_of charge_of rows o (x ∷ past) entries
  stays vl_of charge_of rows o past entries x inv none = record {
    order = inv.order;
    charged = inv.charged;
    waits = inv.waits;
    come = λ t times. inv.come t (λ k d lt. times (suc k) d (omega (arith, lt)));
    owned = λ r k goes. inv.owned r k goes
        ∙ sym (accepted-more r o.side past x
        ∙ unsent (accepts past x r) (is_side o.side x.side) (r.goes_to o.number)
        (charged_by r.rule x ∷ accepted_own r.rule (own r.rule.vl o.side past))
        (accepted_own r.rule (own r.rule.vl o.side past)) goes (none r k));
  }
    where
      unsent : (a s g : Bool) (xs ys : List Charged) → g ≡ true → (a && (s && g)) ≡ false →
          (if a && s then xs else ys) ≡ ys
      unsent false s g xs ys goes none = refl
      unsent true false g xs ys goes none = refl
      unsent true true g xs ys goes none = absurd (cc (goes, none))

  -- a row sends it
  grows : (item_of : Arrival → X) (vl_of : X → ℕ) (charge_of : Entry X → ℕ) (rows : List Row) (o : Output)
      (past : List Arrival) (entries : List (Entry X)) (x : Arrival) (r : Row) →
      AreRows rows → Carries item_of vl_of charge_of rows → Inv vl_of charge_of rows o past entries →
      All (λ y. y.time ≤ x.time) past → Contains rows r → Sends o past x r →
      Inv vl_of charge_of rows o (x ∷ past) (entries ++ entry_of item_of r x ∷ [])
  grows item_of vl_of charge_of rows o past entries x r are carries inv times stands s =
      let j = arrival-joins item_of vl_of charge_of rows o past entries x r carries inv times stands s in
      let l = looks r past x s.accepted in
      record {
        order = order-push entries (entry_of item_of r x) inv.order j.last;
        charged = All-push (λ e. IsCharged vl_of charge_of (flows_at o.number rows) e) entries
            (entry_of item_of r x) inv.charged
            (record {
              flow = flow_of r;
              stands = j.stands;
              named = sym j.named;
              class = refl;
              at_least = j.at_least;
              at_most = j.at_most;
            });
        waits = All-push (λ e. Waits vl_of rows e) entries (entry_of item_of r x) inv.waits
            (record { row = r; stands = stands; named = j.named; is = refl });
        come = λ t all. All-push (λ e. e.time ≤ t) entries (entry_of item_of r x)
            (inv.come t (λ k d lt. all (suc k) d (omega (arith, lt))))
            (all 0 x (omega arith));
        owned = λ q k goes. (let push = charged-push vl_of charge_of q.rule.vl entries (entry_of item_of r x) in
            let more = accepted-more q o.side past x in
            let old = inv.owned q k goes in
            elim (cases_Bool (vl_of (item_of x) == q.rule.vl)) [
              | inl is ↦ (let same : r ≡ q =
                  are.distinct r q stands k (sym j.named ∙ eqb-true (vl_of (item_of x)) q.rule.vl is) in
                  let P : Row → Type 0 = λ z. accepts past x z ≡ true in
                  let accepted = subst P same s.accepted in
                  let charge = same-charged charge_of item_of r x
                  (carries.charge r x stands l.named) ∙ ap (λ z. charged_by z.rule x) same in
                  rw is at push ∙ ap (λ a. a ∷ charged_to vl_of charge_of q.rule.vl entries) charge
                  ∙ ap (λ xs. charged_by q.rule x ∷ xs) old
                  ∙ both-then (accepts past x q) (is_side o.side x.side)
                  (charged_by q.rule x ∷ accepted_own q.rule (own q.rule.vl o.side past))
                  (accepted_own q.rule (own q.rule.vl o.side past)) accepted s.side ∙ sym more)
              | inr other ↦ rw other at push ∙ old ∙ sym (elim (cases_Bool (accepts past x q)) [
                | inr refused ↦ rw refused at more
                | inl both ↦ absurd (let same = one-row rows past x r q are stands k s.accepted both in
                    let vls : vl_of (item_of x) ≡ q.rule.vl = j.named ∙ ap (λ z. z.rule.vl) same in
                    let is = eqb-same (vl_of (item_of x)) q.rule.vl vls in
                    cc (other, is))
              ])
            ]);
      }

  next : EachAccountMoves → ArrivalsAreOffers → (item_of : Arrival → X) (vl_of : X → ℕ) (charge_of : Entry X → ℕ)
      (rows : List Row) (o : Output) (past : List Arrival) (earlier : List (Entry X)) (x : Arrival) →
      IsServed rows o → Carries item_of vl_of charge_of rows →
      Inv vl_of charge_of rows o past (entries_of o.byte_ns o.buffer earlier) → All (λ y. y.time ≤ x.time) past →
      Inv vl_of charge_of rows o (x ∷ past)
      (entries_of o.byte_ns o.buffer (with_sent item_of x (find (sends o past x) rows) earlier))
  next moves offers item_of vl_of charge_of rows o past earlier x served carries inv times =
      by_find (find (sends o past x) rows) refl
    where
      by_find : (w : Option Row) → find (sends o past x) rows ≡ w →
          Inv vl_of charge_of rows o (x ∷ past) (entries_of o.byte_ns o.buffer (with_sent item_of x w earlier))
      by_find None h = stays vl_of charge_of rows o past (entries_of o.byte_ns o.buffer earlier) x
          inv (λ r k. find-none (sends o past x) rows r h k)
      by_find (Some r) h =
          let found = find-some (sends o past x) rows r h in
          let s = sends-parts o past x r found.holds in
          let fits-in = kept moves offers item_of vl_of charge_of rows o past
          (entries_of o.byte_ns o.buffer earlier) x r served carries inv times found.stands s in
          rw fits-in (grows item_of vl_of charge_of rows o past
          (entries_of o.byte_ns o.buffer earlier) x r served.rows_are carries inv times
          found.stands s)

  all-of : EachAccountMoves → ArrivalsAreOffers → (item_of : Arrival → X) (vl_of : X → ℕ) (charge_of : Entry X → ℕ)
      (rows : List Row) (o : Output) (arrivals : List Arrival) →
      IsServed rows o → Carries item_of vl_of charge_of rows → AreTimed arrivals →
      Inv vl_of charge_of rows o arrivals (entries_at item_of rows o arrivals)
  unfolding offers_at accepted_own
  all-of moves offers item_of vl_of charge_of rows o [] served carries timed = record {
    order = λ i j d e le g k. absurd (cc g);
    charged = λ k d lt. absurd (omega (arith, lt));
    waits = λ k d lt. absurd (omega (arith, lt));
    come = λ t all k d lt. absurd (omega (arith, lt));
    owned = λ r k goes. refl;
  }
  all-of moves offers item_of vl_of charge_of rows o (x ∷ past) served carries timed =
      next moves offers item_of vl_of charge_of rows o past (offers_at item_of rows o past) x served carries
      (all-of moves offers item_of vl_of charge_of rows o past served carries timed.1) timed.0

  pub entries-regulated : EachAccountMoves → ArrivalsAreOffers → EntriesAreRegulated X
  entries-regulated moves offers item_of vl_of charge_of rows o arrivals served carries timed =
      regulated offers vl_of charge_of rows o arrivals (entries_at item_of rows o arrivals) served
      (all-of moves offers item_of vl_of charge_of rows o arrivals served carries timed)

  pub entries-accepted : EachAccountMoves → ArrivalsAreOffers → EntriesAreAccepted X
  entries-accepted moves offers item_of vl_of charge_of rows o arrivals r served carries timed stands goes =
      (all-of moves offers item_of vl_of charge_of rows o arrivals served carries timed).owned r stands goes

  pub arrival-kept : EachAccountMoves → ArrivalsAreOffers → ArrivalIsKept X
  arrival-kept moves offers item_of vl_of charge_of rows o past x r served carries timed stands h =
      kept moves offers item_of vl_of charge_of rows o past (entries_at item_of rows o past) x r served carries
      (all-of moves offers item_of vl_of charge_of rows o past served carries timed.1) timed.0
      stands (sends-parts o past x r h)

  entry-waits : EachAccountMoves → ArrivalsAreOffers →
      (item_of : Arrival → X) (vl_of : X → ℕ) (charge_of : Entry X → ℕ) (rows : List Row) (o : Output)
      (arrivals : List Arrival) (r : Row) (place : ℕ) (e : Entry X) →
      IsServed rows o → Carries item_of vl_of charge_of rows → AreTimed arrivals → Contains rows r →
      IfSome r.longest_wait (λ wait. r.latency ≤ wait) →
      slice_get (entries_at item_of rows o arrivals) place ≡ Some e → vl_of e.item ≡ r.rule.vl → MayWait r.latency e
  entry-waits moves offers item_of vl_of charge_of rows o arrivals r place e served carries timed
      stands waits at named =
      let inv = all-of moves offers item_of vl_of charge_of rows o arrivals served carries timed in
      let w = get_all (λ d. Waits vl_of rows d) (entries_at item_of rows o arrivals) place e inv.waits at in
      let same : r ≡ w.row = served.rows_are.distinct r w.row stands w.stands (sym named ∙ w.named) in
      let is : r.longest_wait ≡ e.longest_wait = ap (λ z. z.longest_wait) same ∙ sym w.is in
      let P : Option ℕ → Type 0 = λ longest. IfSome longest (λ wait. r.latency ≤ wait) in
      subst P is waits

  pub arrivals-in-time : EachAccountMoves → ArrivalsAreOffers → ArrivalsAreInTime X
  arrivals-in-time moves offers item_of vl_of charge_of rows o arrivals turns r served carries timed stands goes are =
      in-time moves o.byte_ns o.buffer (flows_at o.number rows) vl_of charge_of
      (entries_at item_of rows o arrivals) turns (flow_of r)
      (entries-regulated moves offers item_of vl_of charge_of rows o arrivals served carries timed) are
      (flow-to o.number rows r stands goes)

  pub arrivals-not-old : EachAccountMoves → ArrivalsAreOffers → ArrivalsAreNotOld X
  arrivals-not-old moves offers item_of vl_of charge_of rows o arrivals turns r served carries timed
      stands goes are waits =
      all_get (λ s. vl_of s.entry.item ≡ r.rule.vl → s.too_old ≡ false) turns
      (λ i s g named. let own = turn_at o.byte_ns (entries_at item_of rows o arrivals) turns i s are g in
      turn-not-old moves o.byte_ns o.buffer (flows_at o.number rows) vl_of charge_of
      (entries_at item_of rows o arrivals) turns (flow_of r) i s
      (entries-regulated moves offers item_of vl_of charge_of rows o arrivals served carries timed) are
      (flow-to o.number rows r stands goes) g named
      (entry-waits moves offers item_of vl_of charge_of rows o arrivals r s.place s.entry served
      carries timed stands waits own.next.own.stands named))

  pub arrivals-left : EachAccountMoves → ArrivalsAreOffers → ArrivalsHaveLeft X
  arrivals-left moves offers item_of vl_of charge_of rows o arrivals turns r until place e served
      carries timed stands goes are waits next at named over =
      each-left moves o.byte_ns o.buffer (flows_at o.number rows) vl_of charge_of
      (entries_at item_of rows o arrivals) turns (flow_of r) until place e
      (entries-regulated moves offers item_of vl_of charge_of rows o arrivals served carries timed) are
      (flow-to o.number rows r stands goes) next at named
      (entry-waits moves offers item_of vl_of charge_of rows o arrivals r place e served carries
      timed stands waits at named) over

  -- nothing is lost
  pub offers-enter : EachAccountMoves → ArrivalsAreOffers → OffersEnter X
  unfolding offers_at
  offers-enter moves offers item_of vl_of charge_of rows o [] served carries timed = refl
  offers-enter moves offers item_of vl_of charge_of rows o (x ∷ past) served carries timed =
      by_find (find (sends o past x) rows) refl
      (offers-enter moves offers item_of vl_of charge_of rows o past served carries timed.1)
    where
      by_find : (w : Option Row) → find (sends o past x) rows ≡ w →
          entries_at item_of rows o past ≡ reverse (offers_at item_of rows o past) →
          entries_of o.byte_ns o.buffer (with_sent item_of x w (offers_at item_of rows o past))
          ≡ reverse (with_sent item_of x w (offers_at item_of rows o past))
      by_find None h rest = rest
      by_find (Some r) h rest =
          let found = find-some (sends o past x) rows r h in
          let fits-in = arrival-kept moves offers item_of vl_of charge_of rows o past x r served
          carries timed found.stands found.holds in
          cond-false (is_lost o.byte_ns o.buffer (entries_at item_of rows o past)
          (entry_of item_of r x)) (entries_at item_of rows o past)
          (entries_at item_of rows o past ++ entry_of item_of r x ∷ []) fits-in
          ∙ ap (λ es. es ++ entry_of item_of r x ∷ []) rest
          ∙ sym (reverse-append (entry_of item_of r x ∷ []) (offers_at item_of rows o past))

  with-found : (item_of : Arrival → X) (x : Arrival) (p : Row → Bool) (rows : List Row) (offers : List (Entry X))
      (r : Row) → find p rows ≡ Some r →
      with_sent item_of x (find p rows) offers ≡ entry_of item_of r x ∷ offers
  with-found item_of x p rows offers r h = ap (λ w. with_sent item_of x w offers) h

  with-none : (item_of : Arrival → X) (x : Arrival) (p : Row → Bool) (rows : List Row) (offers : List (Entry X)) →
      find p rows ≡ None → with_sent item_of x (find p rows) offers ≡ offers
  with-none item_of x p rows offers h = ap (λ w. with_sent item_of x w offers) h

  pub sent-offered : SentIsOffered X
  unfolding offers_at
  sent-offered item_of rows o past x r are stands h = by_find (find (sends o past x) rows) refl
    where
      by_find : (w : Option Row) → find (sends o past x) rows ≡ w →
          with_sent item_of x (find (sends o past x) rows)
          (offers_at item_of rows o past) ≡ entry_of item_of r x ∷ offers_at item_of rows o past
      by_find None g = absurd (let none = find-none (sends o past x) rows r g stands in cc (h, none))
      by_find (Some q) g =
          let found = find-some (sends o past x) rows q g in
          let same = one-row rows past x q r are found.stands stands
          (sends-parts o past x q found.holds).accepted (sends-parts o past x r h).accepted in
          with-found item_of x (sends o past x) rows (offers_at item_of rows o past) q g
          ∙ ap (λ z. entry_of item_of z x ∷ offers_at item_of rows o past) same

  pub unsent-not : UnsentIsNot X
  unfolding offers_at
  unsent-not item_of rows o past x none = by_find (find (sends o past x) rows) refl
    where
      by_find : (w : Option Row) → find (sends o past x) rows ≡ w →
          with_sent item_of x (find (sends o past x) rows)
          (offers_at item_of rows o past) ≡ offers_at item_of rows o past
      by_find None g = with-none item_of x (sends o past x) rows (offers_at item_of rows o past) g
      by_find (Some q) g = absurd (let found = find-some (sends o past x) rows q g in let out =
          none q found.stands in cc (found.holds, out))
