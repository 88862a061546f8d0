-- The lines of a key that aren't told yet, whatever comes.
use Rattle.std.proofs.Common.{◌≡◌, ℕ, ◌≤◌, Bool, true, false, List, [], ◌∷◌, ◌++◌, map, reverse, refl, sym, ap, ◌∙◌, subst}
use Rattle.std.proofs.lemmas.List.{append_assoc, map-append, reverse-append, reverse-reverse}
use Rattle.std.specs.Prelude.{if◌then◌else◌, Some}
use Rattle.std.specs.List.{AllByRecursion}
use Rattle.afdx_police.specs.Arrival.{Arrival}
use Rattle.afdx_conform.specs.Events.{events_of, moment_at}
use Rattle.afdx_conform.specs.Findings.{Found, Judged, Marked, judged_after}
use Rattle.afdx_conform.specs.Histories.{judged_of, nothing_judged, shown}
use Rattle.afdx_conform.specs.Streams.{Gone, Terms}
use Rattle.afdx_conform.proofs.EveryLemmas.{every-append, every-map, every-on}
use Rattle.afdx_command_conform.specs.Lines.{Due, found_due, judged_dues, unsure_dues}
use Rattle.afdx_command_conform.specs.Slots.{AreFalling, StrangersStand, StreamEnds, StreamStands, waiting_due}
use Rattle.afdx_command_conform.specs.Waiting.{first_time, slot_due}
use Rattle.afdx_command_conform.specs.declared.key.Key.{Key}
use Rattle.afdx_command_conform.specs.declared.slot.Slot.{Slot}
use Rattle.afdx_command_conform.specs.declared.slot.Slot.TheVariants as slot
use Rattle.afdx_command_conform.specs.declared.strangers.Stranger.{Stranger}
use Rattle.afdx_command_conform.proofs.LaterLemmas.{AddsAt}
use Rattle.afdx_command_conform.proofs.RestLemmas.{ended-adds, fresh-adds, running-adds}
use Rattle.afdx_command_conform.proofs.SlotLemmas.{falling-behind}

-- of all these lines the last are those, each other one is of the key and of such a moment
pub record IsBehind (k : Key) (Q : ℕ → Type 0) (first all : List Due) : Type 0 where
  pub rest : List Due
  pub are : all ≡ rest ++ first
  pub later : AllByRecursion (λ d. Q d.moment × (d.key ≡ k)) rest

-- ---- of a stream

pub none-judged : (z : Terms) (k : Key) → judged_dues z k (judged_of z [] []) ≡ []
unfolding judged_dues judged_after events_of
none-judged z k = refl

pub all-shown : (z : Terms) (k : Key) (j : Judged) → judged_dues z k (shown j) ≡ judged_dues z k j
unfolding judged_dues
all-shown z k j = refl

no-dues : (z : Terms) (k : Key) → judged_dues z k nothing_judged ≡ []
unfolding judged_dues
no-dues z k = refl

module _ (z : Terms) (k : Key) (Q : ℕ → Type 0) where
  abbrev At : ℕ → Type 0
  At time = Q (moment_at z time)

  found-at : (found : List Found) → AllByRecursion (λ f. At f.time) found
      → AllByRecursion (λ d. Q d.moment × (d.key ≡ k)) (map (found_due z k) found)
  found-at found h =
      every-map (λ d. Q d.moment × (d.key ≡ k)) (found_due z k) found
      (every-on (λ f. At f.time) (λ f. Q (moment_at z f.time) × (k ≡ k)) (λ f a. (a, refl)) found h)

  unsure-at : (back : List Marked) → ((m : Marked) (before : List Marked) → back ≡ m ∷ before → At m.arrival.time)
      → AllByRecursion (λ d. Q d.moment × (d.key ≡ k)) (unsure_dues z k back)
  unsure-at [] h = tt
  unsure-at (m ∷ before) h = ((h m before refl, refl), tt)

  newest-at : (arrivals : List Marked) → ((m : Marked) (more : List Marked) → arrivals ≡ more ++ m ∷ []
      → At m.arrival.time)
      → (m : Marked) (before : List Marked) → reverse arrivals ≡ m ∷ before → At m.arrival.time
  newest-at arrivals h m before is =
      h m (reverse before) (sym (reverse-reverse arrivals) ∙ ap (λ l. reverse l) is ∙ reverse-append (m ∷ []) before)

  -- the lines of what is found later
  pub dues-added : (j whole : Judged) → AddsAt z At j whole → IsBehind k Q (judged_dues z k j) (judged_dues z k whole)
  unfolding judged_dues
  dues-added j whole h = by j.is_unsure refl whole.is_unsure refl
    where
      found : map (found_due z k) whole.findings ≡ map (found_due z k) h.found ++ map (found_due z k) j.findings
      found = ap (λ l. map (found_due z k) l) h.added ∙ map-append (found_due z k) h.found j.findings

      by : (b : Bool) → j.is_unsure ≡ b → (d : Bool) → whole.is_unsure ≡ d
          → IsBehind k Q (judged_dues z k j) (judged_dues z k whole)
      by true un d e = record { rest = []; are = ap (λ i. judged_dues z k i) (h.same un); later = tt }
      by false sure true e = record {
        rest = unsure_dues z k (reverse whole.arrivals) ++ map (found_due z k) h.found;
        are = ap (λ b. (if b then unsure_dues z k (reverse whole.arrivals) else []) ++ map (found_due z k)
            whole.findings) e
            ∙ ap (λ l. unsure_dues z k (reverse whole.arrivals) ++ l) found
            ∙ sym (append_assoc (unsure_dues z k (reverse whole.arrivals)) (map (found_due z k) h.found)
            (map (found_due z k) j.findings))
            ∙ ap (λ b. (unsure_dues z k (reverse whole.arrivals) ++ map (found_due z k) h.found)
            ++ ((if b then unsure_dues z k (reverse j.arrivals) else []) ++ map (found_due z k) j.findings)) (sym sure);
        later = every-append (λ d. Q d.moment × (d.key ≡ k)) (unsure_dues z k (reverse whole.arrivals))
            (map (found_due z k) h.found)
            (unsure-at (reverse whole.arrivals) (newest-at whole.arrivals (h.newest sure e))) (found-at h.found h.at);
      }
      by false sure false e = record {
        rest = map (found_due z k) h.found;
        are = ap (λ b. (if b then unsure_dues z k (reverse whole.arrivals) else []) ++ map (found_due z k)
            whole.findings) e
            ∙ found
            ∙ ap (λ b. map (found_due z k) h.found
            ++ ((if b then unsure_dues z k (reverse j.arrivals) else []) ++ map (found_due z k) j.findings)) (sym sure);
        later = found-at h.found h.at;
      }

  of-shown : (j whole : Judged) (lines : List Due) → lines ≡ judged_dues z k j → AddsAt z At j (shown whole)
      → IsBehind k Q lines (judged_dues z k whole)
  of-shown j whole lines are h =
      subst (λ l. IsBehind k Q l (judged_dues z k whole)) (sym are)
      (subst (λ l. IsBehind k Q (judged_dues z k j) l) (all-shown z k whole) (dues-added j (shown whole) h))

  module _ (up : (a b : ℕ) → a ≤ b → Q a → Q b) where
    pub stream-behind : (time : ℕ) → Q time → time ≤ z.until → (xs ls : List Arrival) (ys ms : List Gone)
        (lines : List Due)
        (s : Slot) → ((m : ℕ) → slot_due s ≡ Some m → Q m)
        → AllByRecursion (λ x. time ≤ x.time) ls → AllByRecursion (λ y. time ≤ y.time) ms
        → StreamStands z k xs ys lines time s
        → IsBehind k Q lines (judged_dues z k (judged_of z (xs ++ ls) (ys ++ ms)))
    unfolding StreamStands slot_due
    stream-behind time here le xs ls ys ms lines slot.Nothing due come leave (no-xs, no-ys, no-lines) =
        subst (λ l. IsBehind k Q lines (judged_dues z k (judged_of z (l ++ ls) (ys ++ ms)))) (sym no-xs)
        (subst (λ l. IsBehind k Q lines (judged_dues z k (judged_of z ls (l ++ ms)))) (sym no-ys)
        (of-shown nothing_judged (judged_of z ls ms) lines (no-lines ∙ sym (no-dues z k))
        (fresh-adds z Q up time here ls ms come leave)))
    stream-behind time here le xs ls ys ms lines (slot.Strangers s) due come leave stands = absurd stands
    stream-behind time here le xs ls ys ms lines (slot.Stream s told) due come leave (j, stands, are, said) =
        of-shown j (judged_of z (xs ++ ls) (ys ++ ms)) lines are
        (running-adds z Q up time here xs ls ys ms j s.value stands le due come leave)

    pub ended-behind : (xs : List Arrival) (ys : List Gone) (lines : List Due) (s : Slot)
        → ((m : ℕ) → slot_due s ≡ Some m → Q m)
        → StreamEnds z k xs ys lines s → IsBehind k Q lines (judged_dues z k (judged_of z xs ys))
    unfolding StreamEnds slot_due
    ended-behind xs ys lines slot.Nothing due (no-xs, no-ys, no-lines) = record {
      rest = [];
      are = ap (λ l. judged_dues z k (judged_of z l ys)) no-xs ∙ ap (λ l. judged_dues z k (judged_of z [] l)) no-ys
          ∙ none-judged z k ∙ sym no-lines;
      later = tt;
    }
    ended-behind xs ys lines (slot.Strangers s) due stands = absurd stands
    ended-behind xs ys lines (slot.Stream s told) due (j, ending, are, said) =
        of-shown j (judged_of z xs ys) lines are (ended-adds z Q up xs ys j s.value ending due)

-- ---- of frames of no stream

module _ (k : Key) (Q : ℕ → Type 0) (up : (a b : ℕ) → a ≤ b → Q a → Q b) where
  waiting-at : (w : List Stranger) (lines : List Due) → AreFalling (map (waiting_due k) (reverse w) ++ lines)
      → ((m : ℕ) → first_time w ≡ Some m → Q m) → AllByRecursion (λ x. Q x.time) w
  waiting-at [] lines falling due = tt
  waiting-at (x ∷ []) lines falling due = (due x.time refl, tt)
  waiting-at (x ∷ y ∷ w) lines falling due =
      let moved : map (waiting_due k) (reverse (x ∷ y ∷ w)) ++ lines
      ≡ map (waiting_due k) (reverse w) ++ waiting_due k y ∷ waiting_due k x ∷ lines =
      ap (λ l. map (waiting_due k) l ++ lines) (reverse-append (x ∷ y ∷ []) w)
      ∙ ap (λ l. l ++ lines) (map-append (waiting_due k) (reverse w) (y ∷ x ∷ []))
      ∙ append_assoc (map (waiting_due k) (reverse w)) (waiting_due k y ∷ waiting_due k x ∷ []) lines in
      let order : x.time ≤ y.time = falling-behind (map (waiting_due k) (reverse w)) (waiting_due k y)
      (waiting_due k x) lines
      (subst AreFalling moved falling) in
      let one : map (waiting_due k) (reverse (y ∷ w)) ++ waiting_due k x ∷ lines
      ≡ map (waiting_due k) (reverse w) ++ waiting_due k y ∷ waiting_due k x ∷ lines =
      ap (λ l. map (waiting_due k) l ++ waiting_due k x ∷ lines) (reverse-append (y ∷ []) w)
      ∙ ap (λ l. l ++ waiting_due k x ∷ lines) (map-append (waiting_due k) (reverse w) (y ∷ []))
      ∙ append_assoc (map (waiting_due k) (reverse w)) (waiting_due k y ∷ []) (waiting_due k x ∷ lines) in
      let first = due x.time refl in (
        first,
        waiting-at (y ∷ w) (waiting_due k x ∷ lines) (subst AreFalling (moved ∙ sym one) falling)
            (λ m is. (let same : y.time ≡ m = cc in subst Q same (up x.time y.time order first))),
      )

  reversed : {X : Type 0} (P : X → Type 0) (xs : List X) → AllByRecursion P xs → AllByRecursion P (reverse xs)
  reversed P [] h = tt
  reversed P (x ∷ xs) h = subst (λ l. AllByRecursion P l) (sym (reverse-append (x ∷ []) xs))
      (every-append P (reverse xs) (x ∷ []) (reversed P xs h.1) (h.0, tt))

  pub strangers-behind : (newer all lines : List Due) (s : Slot) → AllByRecursion (λ d. Q d.moment × (d.key ≡ k)) newer
      → AreFalling all → ((m : ℕ) → slot_due s ≡ Some m → Q m) → StrangersStand k all lines s
      → IsBehind k Q lines (newer ++ all)
  unfolding StrangersStand slot_due
  strangers-behind newer all lines slot.Nothing new falling due stands = record {
    rest = newer;
    are = ap (λ l. newer ++ l) (stands.0 ∙ sym stands.1);
    later = new;
  }
  strangers-behind newer all lines (slot.Strangers s) new falling due stands =
      let w = s.value.waiting.items in
      record {
        rest = newer ++ map (waiting_due k) (reverse s.value.waiting.items);
        are = ap (λ l. newer ++ l) stands
            ∙ sym (append_assoc newer (map (waiting_due k) (reverse s.value.waiting.items)) lines);
        later = every-append (λ d. Q d.moment × (d.key ≡ k)) newer
            (map (waiting_due k) (reverse s.value.waiting.items)) new
            (every-map (λ d. Q d.moment × (d.key ≡ k)) (waiting_due k) (reverse s.value.waiting.items)
            (reversed (λ x. Q x.time × (k ≡ k)) w (every-on (λ x. Q x.time) (λ x. Q x.time × (k ≡ k))
            (λ x q. (q, refl)) w
            (waiting-at w lines (subst AreFalling stands falling) due))));
      }
  strangers-behind newer all lines (slot.Stream s told) new falling due stands = absurd stands
