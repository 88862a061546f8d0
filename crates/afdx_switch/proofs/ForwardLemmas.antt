-- The output ports through the offers of a frame's shares, one after another.
use Rattle.std.proofs.Common.{◌≡◌, ◌≢◌, ℕ, ◌<◌, ◌≤◌, ◌+◌, Bool, true, false, List, [], ◌∷◌, ◌++◌}
use Rattle.std.proofs.Common.{length, set, refl, sym, ap, ◌∙◌, arith, subst, inl, inr}
use Rattle.std.specs.Prelude.{Some, None, slice_get, All, ◌⊎◌}
use Rattle.std.proofs.lemmas.Bool.{cases_eq}
use Rattle.std.proofs.lemmas.List.{length-set, length_push}
use Rattle.std.proofs.lemmas.Option.{slice_get_within}
use Rattle.afdx_frame.specs.declared.link.Priority.{Priority}
use Rattle.afdx_frame.proofs.ListLemmas.{slice_get-set_here, slice_get-set_there, slice_get-push_last}
use Rattle.afdx_frame.proofs.ListLemmas.{slice_get-push_before}
use Rattle.afdx_port.specs.Held as held
use Rattle.afdx_port.specs.History as queue
use Rattle.afdx_port.specs.Serving.{IsServing}
use Rattle.afdx_port.specs.declared.port_state.PortState.{PortState}
use Rattle.afdx_port.specs.declared.serving.Serving.{Serving}
use Rattle.afdx_port.proofs.ServingLemmas.{serving-same}
use Rattle.afdx_switch.specs.declared.ports.PortSet.{PortSet}
use Rattle.afdx_switch.specs.HeldFrames.{HeldFrame, facts}
use Rattle.afdx_switch.specs.Ports.{holds}
use Rattle.afdx_switch.specs.Lines.{is_among, ArePlaces}
use Rattle.afdx_switch.specs.Shares.{AreKept, AreShares, IsOffered, share_of}
use Rattle.afdx_switch.proofs.ListLemmas.{all-set, all-at, bool_cases}
use Rattle.afdx_switch.proofs.PlaceLemmas.{among-at, not-among-at}
use Rattle.afdx_switch.proofs.StandsLemmas.{all-from}

-- the place isn't one of the first so many of these
abbrev pub IsLater : List ℕ → ℕ → ℕ → Type 0
IsLater places k i = (j : ℕ) → j < k → slice_get places j ≡ Some i → ⊥

-- the ports at the first so many of these places have been offered their shares
pub record Forwarded (time : ℕ) (priority : Priority) (places : List ℕ) (shares0 : List HeldFrame)
    (ports0 : List (PortState HeldFrame)) (k : ℕ) (shares : List HeldFrame)
    (ports : List (PortState HeldFrame)) (lost : PortSet) :
    Type 0 where
  pub port_count : length ports ≡ 24
  pub clocks : All (λ (p : PortState HeldFrame). held.last_time p ≤ time) ports
  pub quiet : All (λ (p : PortState HeldFrame). held.IsQuiet facts p time) ports
  pub left : length shares + k ≡ length places
  pub same : (c : HeldFrame) → AreShares c shares0 → AreShares c shares
  pub rest : (i : ℕ) → IsLater places k i → slice_get ports i ≡ slice_get ports0 i
  pub free : (i : ℕ) → IsLater places k i → holds lost (i + 1) ≡ false
  pub offered : (c : HeldFrame) (j i : ℕ) (o n : PortState HeldFrame) → AreShares c shares0 → j < k
      → slice_get places j ≡ Some i → slice_get ports0 i ≡ Some o → slice_get ports i ≡ Some n →
      IsOffered time priority (Some c) o n (holds lost (i + 1))

-- a port that is offered nothing stays as it is
not-offered : (time : ℕ) (priority : Priority) (o : PortState HeldFrame) → held.last_time o ≤ time
    → held.IsQuiet facts o time → IsOffered time priority None o o false
not-offered time priority o in_time quiet = record {
  clock = in_time;
  quiet = quiet;
  more = omega arith;
  stands = λ h st. subst (λ k.
      queue.StandsFor facts o (record {
        byte_ns = h.byte_ns;
        buffer = h.buffer;
        entries = h.entries;
        taken = h.taken;
        time = k;
      })) (sym st.clock) st;
  lost = λ h st. refl;
}

-- the answer on one port is added to the set
pub record Adds (place : ℕ) (lost new_lost : PortSet) (is_lost : Bool) : Type 0 where
  pub here : holds new_lost (place + 1) ≡ is_lost
  pub others : (p : ℕ) → (p ≡ place + 1) ⊎ (holds new_lost p ≡ holds lost p)

module _ (time : ℕ) (priority : Priority) (places : List ℕ) (are : ArePlaces places)
    (shares0 : List HeldFrame) (ports0 : List (PortState HeldFrame)) where
  module _ (k place : ℕ) (shares rest_shares : List HeldFrame) (ports : List (PortState HeldFrame))
      (lost : PortSet) (inv : Forwarded time priority places shares0 ports0 k shares ports lost)
      (here : slice_get places k ≡ Some place) where
    new-here : IsLater places k place
    new-here j below at = omega (arith, below, are.once j k place at here)

    -- where the answer is that nothing is lost, the set stays
    pub adds-none : (b : Bool) → b ≡ false → Adds place lost lost b
    adds-none b not_lost = record { here = inv.free place new-here ∙ sym not_lost; others = λ p. inr refl }

    later-before : (i : ℕ) → IsLater places (k + 1) i → IsLater places k i
    later-before i later j below at = later j (omega (arith, below)) at

    later-other : (i : ℕ) → IsLater places (k + 1) i → i ≢ place
    later-other i later same = later k (omega arith) (subst (λ z. slice_get places k ≡ Some z) (sym same) here)

    module _ (o n : PortState HeldFrame) (share : HeldFrame) (is_lost : Bool) (new_lost : PortSet)
        (at_o : slice_get ports place ≡ Some o) (popped : shares ≡ rest_shares ++ share ∷ [])
        (one : IsOffered time priority (Some share) o n is_lost) (adds : Adds place lost new_lost is_lost) where
      within : place < length ports
      within = slice_get_within ports place o at_o

      first-o : slice_get ports0 place ≡ Some o
      first-o = sym (inv.rest place new-here) ∙ at_o

      kept : (i : ℕ) → i ≢ place → holds new_lost (i + 1) ≡ holds lost (i + 1)
      kept i other = elim (adds.others (i + 1))
          [ inl same ↦ absurd (other (omega (arith, same))) | inr as_before ↦ as_before ]

      share-is : (c : HeldFrame) → AreShares c shares0 → share ≡ c
      share-is c all = all-at (λ s. s ≡ c) shares (length rest_shares) share (inv.same c all)
          (rw popped (slice_get-push_last rest_shares share))

      all-rest : (c : HeldFrame) → AreShares c shares → AreShares c rest_shares
      all-rest c all = all-from (λ s. s ≡ c) rest_shares
          (λ i s at. all-at (λ z. z ≡ c) shares i s all
          (rw popped (slice_get-push_before rest_shares share i s at)))

      at : (c : HeldFrame) (j i : ℕ) (o2 n2 : PortState HeldFrame) → AreShares c shares0 → j < k + 1
          → slice_get places j ≡ Some i → slice_get ports0 i ≡ Some o2
          → slice_get (set ports place n) i ≡ Some n2 →
          (i ≡ place) ⊎ (i ≢ place) → IsOffered time priority (Some c) o2 n2 (holds new_lost (i + 1))
      at c j i o2 n2 all past at_j is_o2 is_n2 (inl same) =
          let at_o2 : slice_get ports0 place ≡ Some o2 = subst (λ z. slice_get ports0 z ≡ Some o2) same is_o2 in
          let at_n2 : slice_get (set ports place n) place ≡ Some n2 =
          subst (λ z. slice_get (set ports place n) z ≡ Some n2) same is_n2 in
          let set_n : slice_get (set ports place n) place ≡ Some n = slice_get-set_here ports place n within in
          let o_stands : slice_get ports0 place ≡ Some o = first-o in
          let same_o : o ≡ o2 = cc in
          let same_n : n ≡ n2 = cc in
          let answer : holds new_lost (i + 1) ≡ is_lost = ap (λ z. holds new_lost (z + 1)) same ∙ adds.here in
          let one_c : IsOffered time priority (Some c) o n is_lost =
          subst (λ s. IsOffered time priority (Some s) o n is_lost) (share-is c all) one in
          let one_o : IsOffered time priority (Some c) o2 n is_lost =
          subst (λ z. IsOffered time priority (Some c) z n is_lost) same_o one_c in
          let one_n : IsOffered time priority (Some c) o2 n2 is_lost =
          subst (λ z. IsOffered time priority (Some c) o2 z is_lost) same_n one_o in
          subst (λ b. IsOffered time priority (Some c) o2 n2 b) (sym answer) one_n
      at c j i o2 n2 all past at_j is_o2 is_n2 (inr other) =
          let before : j < k = omega (arith, past, not_k) in
          subst (λ b. IsOffered time priority (Some c) o2 n2 b) (sym (kept i other))
          (inv.offered c j i o2 n2 all before at_j is_o2 (sym (slice_get-set_there ports place i n other) ∙ is_n2))
        where
          not_k : j ≢ k
          not_k same = let at_k : slice_get places k ≡ Some i =
              subst (λ z. slice_get places z ≡ Some i) same at_j in let both : i ≡ place = cc in
              other both

      -- one more port is offered its share
      pub forwarded-step : Forwarded time priority places shares0 ports0 (k + 1) rest_shares
          (set ports place n) new_lost
      forwarded-step = record {
        port_count = length-set ports place n ∙ inv.port_count;
        clocks = all-set (λ (p : PortState HeldFrame). held.last_time p ≤ time) ports place n within
            inv.clocks one.clock;
        quiet = all-set (λ (p : PortState HeldFrame). held.IsQuiet facts p time) ports place n
            within inv.quiet one.quiet;
        left = omega (arith, inv.left, ap length popped, length_push rest_shares share);
        same = λ c all. all-rest c (inv.same c all);
        rest = λ i later. slice_get-set_there ports place i n (later-other i later) ∙ inv.rest i (later-before i later);
        free = λ i later. kept i (later-other i later) ∙ inv.free i (later-before i later);
        offered = λ c j i o2 n2 all past at_j is_o2 is_n2. at c j i o2 n2 all past at_j is_o2 is_n2 (cases_eq i place);
      }

  -- in the end each port at a place was offered its share, and each other nothing
  pub all-forwarded : (k : ℕ) (shares : List HeldFrame) (ports : List (PortState HeldFrame))
      (lost : PortSet) → Forwarded time priority places shares0 ports0 k shares ports lost
      → k ≡ length places →
      (c : HeldFrame) (i : ℕ) (o n : PortState HeldFrame) → AreShares c shares0
      → slice_get ports0 i ≡ Some o → slice_get ports i ≡ Some n →
      IsOffered time priority (share_of c (is_among i places)) o n (holds lost (i + 1))
  all-forwarded k shares ports lost inv all c i o n shared at_o at_n = by (bool_cases (is_among i places))
    where
      none : is_among i places ≡ false → IsLater places k i
      none not_among j below at = not-among-at i places j not_among at

      by : (is_among i places ≡ true) ⊎ (is_among i places ≡ false)
          → IsOffered time priority (share_of c (is_among i places)) o n (holds lost (i + 1))
      by (inl among) =
          let found = among-at i places among in
          rw among (inv.offered c found.0 i o n shared
          (omega (arith, all, slice_get_within places found.0 i found.1)) found.1 at_o at_n)
      by (inr not_among) =
          let kept = inv.rest i (none not_among) in
          let same : n ≡ o = cc in
          let in_time : held.last_time n ≤ time =
          all-at (λ (p : PortState HeldFrame). held.last_time p ≤ time) ports i n inv.clocks at_n in
          let calm : held.IsQuiet facts n time =
          all-at (λ (p : PortState HeldFrame). held.IsQuiet facts p time) ports i n inv.quiet at_n in
          rw (not_among, inv.free i (none not_among))
          (subst (λ z. IsOffered time priority None z n false) same
          (not-offered time priority n in_time calm))

  -- a port at none of the places stays as it is
  pub kept-elsewhere : (k : ℕ) (shares : List HeldFrame) (ports : List (PortState HeldFrame))
      (lost : PortSet) → Forwarded time priority places shares0 ports0 k shares ports lost
      → AreKept places ports0 ports
  kept-elsewhere k shares ports lost inv i not_among = inv.rest i (λ j below at. not-among-at i places j not_among at)

-- the ports at the first so many of these places are ranked as they are now, the others as they were
pub record RenewedTo (places : List ℕ) (old ports : List (PortState HeldFrame)) (serving : Serving)
    (k : ℕ) : Type 0 where
  pub mid : List (PortState HeldFrame)
  pub is : IsServing facts mid serving
  pub rest : (i : ℕ) → IsLater places k i → slice_get mid i ≡ slice_get old i
  pub done : (j i : ℕ) → j < k → slice_get places j ≡ Some i → slice_get mid i ≡ slice_get ports i

pub none-renewed : (places : List ℕ) (old ports : List (PortState HeldFrame)) (serving : Serving)
    → IsServing facts old serving → RenewedTo places old ports serving 0
none-renewed places old ports serving is =
    record {
      mid = old;
      is = is;
      rest = λ i later. refl;
      done = λ j i below. absurd (omega (arith, below));
    }

pub renewed-next : (places : List ℕ) (old ports : List (PortState HeldFrame)) (serving new : Serving)
    (k place : ℕ) (p : PortState HeldFrame) → RenewedTo places old ports serving k
    → slice_get places k ≡ Some place → place < 24 → slice_get ports place ≡ Some p →
    ((mid : List (PortState HeldFrame)) → IsServing facts mid serving
    → IsServing facts (set mid place p) new) → RenewedTo places old ports new (k + 1)
renewed-next places old ports serving new k place p r here within at step = record {
  mid = set r.mid place p;
  is = step r.mid r.is;
  rest = λ i later. slice_get-set_there r.mid place i p
      (λ same. later k (omega arith) (subst (λ z. slice_get places k ≡ Some z) (sym same) here))
      ∙ r.rest i (λ j below there. later j (omega (arith, below)) there);
  done = λ j i below there. by j i below there (cases_eq i place);
}
  where
    by : (j i : ℕ) → j < k + 1 → slice_get places j ≡ Some i → (i ≡ place) ⊎ (i ≢ place)
        → slice_get (set r.mid place p) i ≡ slice_get ports i
    by j i below there (inl same) = subst (λ z. slice_get (set r.mid place p) z ≡ slice_get ports z)
        (sym same) (slice_get-set_here r.mid place p (omega (arith, within, r.is.port_count)) ∙ sym at)
    by j i below there (inr other) =
        slice_get-set_there r.mid place i p other
        ∙ r.done j i (omega (
          arith,
          below,
          (λ (same : j ≡ k). let at_k : slice_get places k ≡ Some i =
              subst (λ z. slice_get places z ≡ Some i) same there in let both : i ≡ place = cc in
              other both),
        )) there

pub all-renewed : (places : List ℕ) (old ports : List (PortState HeldFrame)) (serving : Serving) (k : ℕ)
    → k ≡ length places → length ports ≡ 24 → AreKept places old ports
    → RenewedTo places old ports serving k → IsServing facts ports serving
all-renewed places old ports serving k all count kept r =
    serving-same facts r.mid ports serving r.is count (λ i. by i (bool_cases (is_among i places)))
  where
    by : (i : ℕ) → (is_among i places ≡ true) ⊎ (is_among i places ≡ false) → slice_get r.mid i ≡ slice_get ports i
    by i (inl among) =
        let found = among-at i places among in
        r.done found.0 i (omega (arith, all, slice_get_within places found.0 i found.1)) found.1
    by i (inr not_among) = r.rest i (λ j below at. not-among-at i places j not_among at) ∙ sym (kept i not_among)
