-- A further frame that fits.
use Rattle.std.proofs.Common.{◌≡◌, ℕ, ◌+◌, ◌<◌, ◌≤◌, ◌==◌, nat_lt, true, false, List, [], ◌∷◌, ◌++◌}
use Rattle.std.proofs.Common.{inl, inr, refl, sym, ap, subst, arith, ◌∙◌}
use Rattle.std.specs.Prelude.{All, IsTrue, reverse}
use Rattle.std.proofs.lemmas.Option.{slice_get_within}
use Rattle.std.proofs.lemmas.Bool.{cases_Bool, cases_lt, eqb-true, cond-true, cond-false}
use Rattle.std.proofs.lemmas.List.{reverse-append}
use Rattle.std.proofs.lemmas.List.Elements.{All-push}
use Rattle.afdx_frame.specs.Regulation.{Regulation}
use Rattle.afdx_frame.specs.Flows.{Flow}
use Rattle.afdx_frame.proofs.ListLemmas.{slice_get-push_before, slice_get-push_cases}
use Rattle.afdx_port.specs.Schedule.{Entry, waiting_bytes}
use Rattle.afdx_port.specs.ScheduleOf.{AreInOrder, schedule_of}
use Rattle.afdx_port.proofs.TurnLemmas.{nat_lt-false}
use Rattle.afdx_port.proofs.ScheduleLemmas.{schedule_of_is}
use Rattle.afdx_police.specs.Laws.{EachAccountMoves}
use Rattle.afdx_police.specs.Window.{Charged, fits, accepted_of}
use Rattle.afdx_law_bounds.specs.Admitted.{StartIsRegulated, NextIsRegulated}
use Rattle.afdx_law_bounds.specs.Offered.{OffersAreEntries}
use Rattle.afdx_law_bounds.specs.Policed.{AreFlows, charged_as, charged_to, IsCharged, ArePoliced, IsRegulated}
use Rattle.afdx_law_bounds.specs.Admitted.{Joins}
use Rattle.afdx_law_bounds.specs.Offered.{is_lost, with_offer}
use Rattle.afdx_law_bounds.proofs.AdmittedLemmas.{none-lost}
use Rattle.afdx_law_bounds.proofs.ListLemmas.{get_all, all_get}
use Rattle.afdx_law_bounds.proofs.SumLemmas.{charged-push}

-- what fits is accepted
joins : (link : Regulation) (came accepted : List Charged) (x : Charged) → accepted ≡ accepted_of link came →
    fits link accepted x ≡ true → x ∷ accepted ≡ accepted_of link (x ∷ came)
unfolding accepted_of
joins link came accepted x is fit =
    let P : List Charged → Type 0 = λ xs. fits link xs x ≡ true in
    ap (λ xs. x ∷ xs) is ∙ sym
    (cond-true (fits link (accepted_of link came) x) (x ∷ accepted_of link came)
    (accepted_of link came) (subst P is fit))

-- all but the newest of what is accepted is what is accepted of some frames
older : (link : Regulation) (x : Charged) (xs came : List Charged) → x ∷ xs ≡ accepted_of link came →
    (earlier : List Charged) × (xs ≡ accepted_of link earlier)
unfolding accepted_of
older link x xs [] h = absurd (cc h)
older link x xs (y ∷ past) h =
    elim (cases_Bool (fits link (accepted_of link past) y)) [
      | inl fit ↦ (let k = rw fit at h in (past, cc k))
      | inr refused ↦ older link x xs past (rw refused at h)
    ]

true-less : (a b : ℕ) → nat_lt a b ≡ true → a < b
true-less a b h = elim (cases_lt a b) [ inl lt ↦ lt | inr ge ↦ absurd (let k = nat_lt-false a b ge in cc (h, k)) ]

module _ {X : Type 0} where
  -- an offer that leaves the entries policed isn't lost
  pub offer-kept : EachAccountMoves → (byte_ns buffer : ℕ) (flows : List Flow) (vl_of : X → ℕ)
      (charge_of : Entry X → ℕ) (entries : List (Entry X)) (new : Entry X) →
      AreInOrder entries → IsRegulated byte_ns buffer flows vl_of charge_of (entries ++ new ∷ []) →
      is_lost byte_ns buffer entries new ≡ false
  offer-kept moves byte_ns buffer flows vl_of charge_of entries new order regulated =
      elim (cases_Bool (is_lost byte_ns buffer entries new)) [
        | inr stays ↦ stays
        | inl lost ↦ absurd (none-lost moves byte_ns buffer flows vl_of charge_of entries
            (schedule_of byte_ns entries) new regulated
            (schedule_of_is byte_ns entries order)
            (true-less buffer (waiting_bytes entries (schedule_of byte_ns entries) new.time + new.bytes) lost))
      ]

  pub order-push : (entries : List (Entry X)) (new : Entry X) → AreInOrder entries →
      All (λ e. e.time ≤ new.time) entries → AreInOrder (entries ++ new ∷ [])
  order-push entries new order come i j d e le g k =
      elim (slice_get-push_cases entries new j e k) [
        | inl old-j ↦ elim (slice_get-push_cases entries new i d g) [
          | inl old-i ↦ order i j d e le old-i old-j
          | inr new-i ↦ absurd (let within = slice_get_within entries j e old-j in omega (arith, new-i.0, le, within))
        ]
        | inr new-j ↦ (let late : e.time ≡ new.time = ap (λ z. z.time) new-j.1 in
            elim (slice_get-push_cases entries new i d g) [
              | inl old-i ↦ (let came = get_all (λ z. z.time ≤ new.time) entries i d come old-i in
                  omega (arith, came, late))
              | inr new-i ↦ (let same : d.time ≡ new.time = ap (λ z. z.time) new-i.1 in omega (arith, same, late))
            ])
      ]

  joins-charged : (vl_of : X → ℕ) (charge_of : Entry X → ℕ) (flows : List Flow) (entries : List (Entry X)) (f : Flow)
      (new : Entry X) → Joins vl_of charge_of flows entries f new → IsCharged vl_of charge_of flows new
  joins-charged vl_of charge_of flows entries f new h =
      record {
        flow = f;
        stands = h.stands;
        named = sym h.named;
        class = h.class;
        at_least = h.at_least;
        at_most = h.at_most;
      }

  next-policed : (flows : List Flow) (vl_of : X → ℕ) (charge_of : Entry X → ℕ) (entries : List (Entry X)) (f : Flow)
      (new : Entry X) →
      AreFlows flows → ArePoliced vl_of charge_of flows entries → Joins vl_of charge_of flows entries f new →
      ArePoliced vl_of charge_of flows (entries ++ new ∷ [])
  next-policed flows vl_of charge_of entries f new links policed h = record {
    charged = All-push (λ e. IsCharged vl_of charge_of flows e) entries new policed.charged
        (joins-charged vl_of charge_of flows entries f new h);
    accepted = λ g k. (let own = policed.accepted g k in
        let push = charged-push vl_of charge_of g.vl entries new in
        elim (cases_Bool (vl_of new.item == g.vl)) [
          | inr other ↦ (own.0, rw other at push ∙ own.1)
          | inl is ↦ (let same : f ≡ g =
              links.distinct f g h.stands k (sym h.named ∙ eqb-true (vl_of new.item) g.vl is) in
              let P : Flow → Type 0 = λ d.
              IsTrue (fits d.link (charged_to vl_of charge_of d.vl entries)
              (charged_as charge_of new)) in
              let fit = subst P same h.fits_in in (
                charged_as charge_of new ∷ own.0,
                rw is at push ∙ joins g.link own.0 (charged_to vl_of charge_of g.vl entries)
                    (charged_as charge_of new) own.1 fit,
              ))
        ]);
  }

  pub next-regulated : NextIsRegulated X
  next-regulated byte_ns buffer flows vl_of charge_of entries f new regulated h = record {
    line = regulated.line;
    flows_are = regulated.flows_are;
    admitted = regulated.admitted;
    in_order = order-push entries new regulated.in_order h.last;
    policed = next-policed flows vl_of charge_of entries f new regulated.flows_are regulated.policed h;
  }

  -- the frames but the last are policed too
  earlier-regulated : (byte_ns buffer : ℕ) (flows : List Flow) (vl_of : X → ℕ) (charge_of : Entry X → ℕ)
      (entries : List (Entry X)) (last : Entry X) →
      IsRegulated byte_ns buffer flows vl_of charge_of (entries ++ last ∷ []) →
      IsRegulated byte_ns buffer flows vl_of charge_of entries
  earlier-regulated byte_ns buffer flows vl_of charge_of entries last regulated = record {
    line = regulated.line;
    flows_are = regulated.flows_are;
    admitted = regulated.admitted;
    in_order = λ i j d e le g k. regulated.in_order i j d e le (slice_get-push_before entries last i d g)
        (slice_get-push_before entries last j e k);
    policed = record {
      charged = all_get (λ e. IsCharged vl_of charge_of flows e) entries
          (λ i e g. get_all (λ d. IsCharged vl_of charge_of flows d) (entries ++ last ∷ []) i e
          regulated.policed.charged (slice_get-push_before entries last i e g));
      accepted = λ f k. (let own = regulated.policed.accepted f k in
          let push = charged-push vl_of charge_of f.vl entries last in
          elim (cases_Bool (vl_of last.item == f.vl)) [
            | inr other ↦ (own.0, sym (rw other at push) ∙ own.1)
            | inl is ↦ older f.link (charged_as charge_of last)
                (charged_to vl_of charge_of f.vl entries) own.0 (sym (rw is at push) ∙ own.1)
          ]);
    };
  }

  pub offers-entries : EachAccountMoves → OffersAreEntries X
  offers-entries moves byte_ns buffer flows vl_of charge_of [] regulated = refl
  offers-entries moves byte_ns buffer flows vl_of charge_of (new ∷ offers) regulated =
      let last : reverse (new ∷ offers) ≡ reverse offers ++ new ∷ [] = reverse-append (new ∷ []) offers in
      let P : List (Entry X) → Type 0 = λ es. IsRegulated byte_ns buffer flows vl_of charge_of es in
      let all = subst P last regulated in
      let rest = offers-entries moves byte_ns buffer flows vl_of charge_of offers
      (earlier-regulated byte_ns buffer flows vl_of charge_of (reverse offers) new all) in
      ap (λ es. with_offer byte_ns buffer es new) rest ∙ kept all ∙ sym last
    where
      kept : IsRegulated byte_ns buffer flows vl_of charge_of (reverse offers ++ new ∷ []) →
          with_offer byte_ns buffer (reverse offers) new ≡ reverse offers ++ new ∷ []
      kept all = cond-false (is_lost byte_ns buffer (reverse offers) new) (reverse offers) (reverse offers ++ new ∷ [])
          (offer-kept moves byte_ns buffer flows vl_of charge_of (reverse offers) new
          (earlier-regulated byte_ns buffer flows vl_of charge_of (reverse offers) new all).in_order all)

  pub start-regulated : StartIsRegulated X
  unfolding accepted_of
  start-regulated byte_ns buffer flows vl_of charge_of some links admitted = record {
    line = some;
    flows_are = links;
    admitted = admitted;
    in_order = λ i j d e le g k. absurd (cc g);
    policed = record { charged = λ k d lt. absurd (omega (arith, lt)); accepted = λ f k. ([], refl) };
  }
