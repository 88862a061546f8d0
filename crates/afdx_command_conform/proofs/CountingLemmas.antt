-- What is counted of the streams.
use Rattle.std.proofs.Common.{Box, Global, ◌≡◌, ℕ, ◌+◌, ◌<◌, Bool, true, false, ◌||◌, List, [], ◌∷◌, ◌++◌, get_or, length, map, min, reverse, take, refl, sym, ap, ◌∙◌, subst, arith}
use Rattle.std.proofs.lemmas.List.{reverse-append, take_more}
use Rattle.std.proofs.lemmas.Option.{get_or_from_slice_get, slice_get_within}
use Rattle.std.specs.Prelude.{Some, None, is_some, slice_get, if◌then◌else◌}
use Rattle.afdx_law_bounds.specs.Tables.{port_of}
use Rattle.afdx_config.specs.Rows.{LinkRow, Rows}
use Rattle.afdx_frame.specs.declared.link.Side.{Side}
use Rattle.afdx_police.specs.Arrival.{Arrival}
use Rattle.afdx_conform.specs.Events.{events_of}
use Rattle.afdx_conform.specs.Findings.{Found, Marked, judged_after}
use Rattle.afdx_conform.specs.Histories.{counts_of, judged_of, least_from, newest_tag, shown, unsure_in}
use Rattle.afdx_conform.specs.States.{first_states}
use Rattle.afdx_conform.specs.Streams.{Gone, Terms}
use Rattle.afdx_conform.specs.declared.counts.Counts.{Counts}
use Rattle.afdx_input_runs.specs.Joining.{Frame}
use Rattle.afdx_command_conform.specs.Choices.{Choices, left_out_of, until_or}
use Rattle.afdx_command_conform.specs.Counting.{Counted, HasCounted, both_counted, counted_among, counted_at, counted_of, counted_to, has_some, idle_if, is_told, none_counted, stream_counted, totals_and, totals_of, totals_with}
use Rattle.afdx_command_conform.specs.Frames.{arrivals_of, frames_of, link_to, terms_at}
use Rattle.afdx_command_conform.specs.Keeping.{given_of, given_to}
use Rattle.afdx_command_conform.specs.Keys.{key_with}
use Rattle.afdx_command_conform.specs.Lines.{Due, found_due, judged_dues, lines_of, unsure_dues}
use Rattle.afdx_command_conform.specs.Slots.{StreamEnds, has_line}
use Rattle.afdx_command_conform.specs.Tapped.{is_judged, unseen_of}
use Rattle.afdx_command_conform.specs.Telling.{findings_in, most_counted}
use Rattle.afdx_command_conform.specs.declared.key.Key.{Key}
use Rattle.afdx_command_conform.specs.declared.slot.Slot.{Slot}
use Rattle.afdx_command_conform.specs.declared.slot.Slot.TheVariants as slot
use Rattle.afdx_conform.specs.declared.streaming.Stream.{Stream}
use Rattle.afdx_command_conform.specs.declared.totals.Totals.{Totals}
use Rattle.afdx_command_conform.proofs.LaterLemmas.{unsure-last}
use Rattle.afdx_command_conform.proofs.SlotLemmas.{newest-last, or-none}
use Rattle.afdx_command_conform.proofs.TappedLemmas.{to-judged}

-- ---- counts

counted-same : (a b : Counted) → a.explained ≡ b.explained → a.waiting ≡ b.waiting → a.uncertain ≡ b.uncertain
    → a.idle ≡ b.idle → a.is_unsure ≡ b.is_unsure → a ≡ b
counted-same a b e w u i s =
    ap (λ n. record {
      explained = n;
      waiting = a.waiting;
      uncertain = a.uncertain;
      idle = a.idle;
      is_unsure =
          a.is_unsure;
    }) e
    ∙ ap (λ n. record {
      explained = b.explained;
      waiting = n;
      uncertain = a.uncertain;
      idle = a.idle;
      is_unsure =
          a.is_unsure;
    }) w
    ∙ ap (λ n. record {
      explained = b.explained;
      waiting = b.waiting;
      uncertain = n;
      idle = a.idle;
      is_unsure =
          a.is_unsure;
    }) u
    ∙ ap (λ n. record {
      explained = b.explained;
      waiting = b.waiting;
      uncertain = b.uncertain;
      idle = n;
      is_unsure =
          a.is_unsure;
    }) i
    ∙ ap (λ n. record {
      explained = b.explained;
      waiting = b.waiting;
      uncertain = b.uncertain;
      idle =
          b.idle;
      is_unsure = n;
    }) s

or-assoc : (a b c : Bool) → ((a || b) || c) ≡ (a || (b || c))
or-assoc true b c = refl
or-assoc false b c = refl

pub both-assoc : (a b c : Counted) → both_counted (both_counted a b) c ≡ both_counted a (both_counted b c)
both-assoc a b c = counted-same (both_counted (both_counted a b) c) (both_counted a (both_counted b c)) (omega arith)
    (omega arith)
    (omega arith) (omega arith) (or-assoc a.is_unsure b.is_unsure c.is_unsure)

pub both-none : (a : Counted) → both_counted a none_counted ≡ a
both-none a = counted-same (both_counted a none_counted) a (omega arith) (omega arith) (omega arith) (omega arith)
    (or-none a.is_unsure)

pub none-both : (a : Counted) → both_counted none_counted a ≡ a
none-both a = counted-same (both_counted none_counted a) a (omega arith) (omega arith) (omega arith) (omega arith) refl

pub has-none : (n : Counted) (totals : Totals) → HasCounted n totals → HasCounted (both_counted n none_counted) totals
has-none n totals h = subst (λ m. HasCounted m totals) (sym (both-none n)) h

-- ---- of one stream

abbrev idle_counted : Counted
idle_counted = record { explained = 0; waiting = 0; uncertain = 0; idle = 1; is_unsure = false }

nothing-counted : (z : Terms) → stream_counted z [] [] ≡ idle_counted
unfolding judged_after events_of first_states least_from
nothing-counted z = refl

one-more : (n : Counted) (old new : Totals) → HasCounted n old
    → new ≡ record old { idle = min (old.idle + 1) most_counted }
    → HasCounted (both_counted n idle_counted) new
one-more n old new h is = subst (λ (m : Totals). HasCounted (both_counted n idle_counted) m) (sym is) (record {
  explained = (let e = h.explained in omega (arith, e));
  waiting = (let e = h.waiting in omega (arith, e));
  uncertain = (let e = h.uncertain in omega (arith, e));
  idle = (let e = h.idle in omega (arith, e));
  is_unsure = h.is_unsure ∙ sym (or-none n.is_unsure);
})

-- what isn't a stream is of one that is idle
pub has-other : (n : Counted) (z : Terms) (k : Key) (xs : List Arrival) (ys : List Gone) (lines : List Due) (s : Slot)
    (old new : Totals) → ((b : Box Stream Global) (told : Bool) → s ≡ slot.Stream b told → ⊥)
    → StreamEnds z k xs ys lines s
    → HasCounted n old → new ≡ record old { idle = min (old.idle + 1) most_counted }
    → HasCounted (both_counted n (stream_counted z xs ys)) new
unfolding StreamEnds
has-other n z k xs ys lines slot.Nothing old new none (no-xs, no-ys, no-lines) h is =
    subst (λ m. HasCounted (both_counted n m) new)
    (sym (ap (λ l. stream_counted z l ys) no-xs ∙ ap (λ l. stream_counted z [] l) no-ys ∙ nothing-counted z))
    (one-more n old new h is)
has-other n z k xs ys lines (slot.Strangers b) old new none ends h is = absurd ends
has-other n z k xs ys lines (slot.Stream b told) old new none ends h is = absurd (none b told refl)

-- it is unsure behind an arrival
pub unsure-behind : (z : Terms) (xs : List Arrival) (ys : List Gone)
    → is_some (unsure_in (judged_of z xs ys)) ≡ (judged_of z xs ys).is_unsure
unsure-behind z xs ys = by (judged_of z xs ys).is_unsure refl
  where
    some : (l : List Marked) → (before : List Marked) × (one : Marked) × (l ≡ before ++ one ∷ [])
        → is_some (newest_tag l) ≡ true
    some l last = ap (λ m. is_some (newest_tag m)) last.2 ∙ ap is_some (newest-last last.0 last.1)

    by : (b : Bool) → (judged_of z xs ys).is_unsure ≡ b
        → is_some (if b then newest_tag (judged_of z xs ys).arrivals else None) ≡ b
    by false e = refl
    by true e = some (judged_of z xs ys).arrivals (unsure-last z _ _ _ e)

-- there are lines of it where some are told
pub told-is : (z : Terms) (k : Key) (xs : List Arrival) (ys : List Gone)
    → has_line (judged_dues z k (shown (judged_of z xs ys))) ≡ is_told (judged_of z xs ys)
unfolding judged_dues
told-is z k xs ys = by (judged_of z xs ys).is_unsure refl
  where
    found : (fs : List Found) → has_line (map (found_due z k) fs) ≡ has_some fs
    found [] = refl
    found (f ∷ fs) = refl

    unsure : (l : List Marked) (ds : List Due) → (before : List Marked) × (one : Marked) × (l ≡ before ++ one ∷ [])
        → has_line (unsure_dues z k (reverse l) ++ ds) ≡ true
    unsure l ds last = ap (λ m. has_line (unsure_dues z k (reverse m) ++ ds)) last.2
        ∙ ap (λ m. has_line (unsure_dues z k m ++ ds)) (reverse-append last.0 (last.1 ∷ []))

    by : (b : Bool) → (judged_of z xs ys).is_unsure ≡ b
        → has_line ((if b then unsure_dues z k (reverse (judged_of z xs ys).arrivals) else [])
        ++ map (found_due z k) (judged_of z xs ys).findings) ≡ (b || has_some (judged_of z xs ys).findings)
    by false e = found (judged_of z xs ys).findings
    by true e = unsure (judged_of z xs ys).arrivals (map (found_due z k) (judged_of z xs ys).findings)
        (unsure-last z _ _ _ e)

pub has-stream : (n : Counted) (z : Terms) (xs : List Arrival) (ys : List Gone) (counts : Counts) (old new : Totals)
    (b : Bool)
    (idle : ℕ) → HasCounted n old → counts ≡ counts_of z xs ys → (judged_of z xs ys).is_unsure ≡ b
    → idle ≡ idle_if (counts_of z xs ys).explained (is_told (judged_of z xs ys))
    → new.idle ≡ min (old.idle + idle) most_counted
    → new.explained ≡ min (old.explained + counts.explained) most_counted
    → new.waiting ≡ min (old.waiting + counts.waiting) most_counted
    → new.uncertain ≡ min (old.uncertain + counts.uncertain) most_counted
    → new.is_unsure ≡ (old.is_unsure || b) → HasCounted (both_counted n (stream_counted z xs ys)) new
has-stream n z xs ys counts old new b idle h are unsure idle-is i e w u s = record {
  explained = (let a = h.explained in let d = ap (λ (m : Counts). m.explained) are in omega (arith, a, d, e));
  waiting = (let a = h.waiting in let d = ap (λ (m : Counts). m.waiting) are in omega (arith, a, d, w));
  uncertain = (let a = h.uncertain in let d = ap (λ (m : Counts). m.uncertain) are in omega (arith, a, d, u));
  idle = (let a = h.idle in subst (λ (m : ℕ). new.idle ≡ min (n.idle + m) most_counted) idle-is (omega (arith, a, i)));
  is_unsure = s ∙ ap (λ m. m || b) h.is_unsure ∙ ap (λ m. n.is_unsure || m) (sym unsure);
}

-- ---- of the streams of a link, and of all links

module _ (t : Rows) (c : Choices) (until : ℕ) (frames : List Frame) where
  -- by what is given to it
  pub given-counted : (side : Side) (place port : ℕ) (l : LinkRow) → link_to t place port ≡ Some l
      → is_judged t c.sight side l port ≡ true
      → stream_counted (terms_at t c until l port) (given_of t c frames (key_with side port (Some place))).came
      (given_of t c frames (key_with side port (Some place))).left ≡ counted_at t c until frames side l port
  unfolding given_of counted_at
  given-counted side place port l to judged =
      ap (λ o. stream_counted (terms_at t c until l port) (given_to t c (key_with side port (Some place)) frames o).came
      (given_to t c (key_with side port (Some place)) frames o).left) (to-judged t c.sight side place port l to judged)
      ∙ sym (ap (λ b. if b then stream_counted (terms_at t c until l port)
      (given_to t c (key_with side port (Some place)) frames (Some l)).came
      (given_to t c (key_with side port (Some place)) frames (Some l)).left else none_counted) judged)

  -- one that isn't judged
  pub unjudged-counted : (side : Side) (port : ℕ) (l : LinkRow) → is_judged t c.sight side l port ≡ false
      → counted_at t c until frames side l port ≡ none_counted
  unfolding counted_at
  unjudged-counted side port l e =
      ap (λ b. if b then stream_counted (terms_at t c until l port) (reverse (arrivals_of t c l.vl side frames))
      (reverse (frames_of t c l.vl side port frames)) else none_counted) e

  pub to-none : (side : Side) (l : LinkRow) → counted_to t c until frames side l [] ≡ none_counted
  unfolding counted_to
  to-none side l = refl

  to-append : (side : Side) (l : LinkRow) (xs : List ℕ) (system : ℕ) → counted_to t c until frames side l
      (xs ++ system ∷ [])
      ≡ both_counted (counted_to t c until frames side l xs) (counted_at t c until frames side l (port_of t system))
  unfolding counted_to
  to-append side l [] system = both-none (counted_at t c until frames side l (port_of t system))
      ∙ sym (none-both (counted_at t c until frames side l (port_of t system)))
  to-append side l (x ∷ xs) system =
      ap (λ m. both_counted (counted_at t c until frames side l (port_of t x)) m) (to-append side l xs system)
      ∙ sym (both-assoc (counted_at t c until frames side l (port_of t x)) (counted_to t c until frames side l xs)
      (counted_at t c until frames side l (port_of t system)))

  -- one more system
  pub to-next : (side : Side) (l : LinkRow) (rank system : ℕ) → system ≡ get_or l.to rank system → rank < length l.to
      → counted_to t c until frames side l (take (rank + 1) l.to)
      ≡ both_counted (counted_to t c until frames side l (take rank l.to))
      (counted_at t c until frames side l (port_of t system))
  to-next side l rank system is lt =
      ap (λ xs. counted_to t c until frames side l xs) (take_more l.to rank system lt
      ∙ ap (λ n. take rank l.to ++ n ∷ []) (sym is))
      ∙ to-append side l (take rank l.to) system

  pub among-none : (side : Side) → counted_among t c until frames side [] ≡ none_counted
  unfolding counted_among
  among-none side = refl

  among-append : (side : Side) (xs : List LinkRow) (l : LinkRow) → counted_among t c until frames side (xs ++ l ∷ [])
      ≡ both_counted (counted_among t c until frames side xs) (counted_to t c until frames side l l.to)
  unfolding counted_among
  among-append side [] l = both-none (counted_to t c until frames side l l.to)
      ∙ sym (none-both (counted_to t c until frames side l l.to))
  among-append side (x ∷ xs) l =
      ap (λ m. both_counted (counted_to t c until frames side x x.to) m) (among-append side xs l)
      ∙ sym (both-assoc (counted_to t c until frames side x x.to) (counted_among t c until frames side xs)
      (counted_to t c until frames side l l.to))

  -- one more link
  pub among-next : (side : Side) (links : List LinkRow) (place : ℕ) (l : LinkRow) → slice_get links place ≡ Some l
      → counted_among t c until frames side (take (place + 1) links)
      ≡ both_counted (counted_among t c until frames side (take place links)) (counted_to t c until frames side l l.to)
  among-next side links place l at =
      ap (λ xs. counted_among t c until frames side xs) (take_more links place l (slice_get_within links place l at)
      ∙ ap (λ n. take place links ++ n ∷ []) (get_or_from_slice_get links place l l at))
      ∙ among-append side (take place links) l

-- ---- of a run

pub more-found : (n more old new : ℕ) → old ≡ min n most_counted → new ≡ min (old + more) most_counted
    → new ≡ min (n + more) most_counted
more-found n more old new before here = omega (arith, before, here)

-- without more findings
pub no-more : (k : Rows × Choices) (frames : List Frame) (dues : List Due)
    → totals_and 0 k frames dues ≡ totals_of k frames dues
no-more k frames dues = ap (λ (n : ℕ). totals_with n (left_out_of k.0 k.1 frames) (unseen_of k.0 k.1.sight)
    k.1.exercised
    (counted_of k.0 k.1 (until_or k.1.until frames) frames)) (omega arith)

pub totals-are : (more : ℕ) (k : Rows × Choices) (frames : List Frame) (dues : List Due) (totals : Totals)
    → totals.findings ≡ min (findings_in (lines_of dues) + more) most_counted
    → totals.left_out ≡ min (left_out_of k.0 k.1 frames) most_counted
    → totals.unseen ≡ unseen_of k.0 k.1.sight
    → totals.is_exercised ≡ k.1.exercised
    → HasCounted (counted_of k.0 k.1 (until_or k.1.until frames) frames) totals
    → totals ≡ totals_and more k frames dues
totals-are more k frames dues totals findings left_out unseen exercised has =
    same totals (totals_and more k frames dues) findings has.explained has.waiting has.uncertain left_out unseen
    has.idle has.is_unsure exercised
  where
    same : (a b : Totals) → a.findings ≡ b.findings → a.explained ≡ b.explained → a.waiting ≡ b.waiting
        → a.uncertain ≡ b.uncertain
        → a.left_out ≡ b.left_out → a.unseen ≡ b.unseen → a.idle ≡ b.idle → a.is_unsure ≡ b.is_unsure
        → a.is_exercised ≡ b.is_exercised → a ≡ b
    same a b f e w u l s i un ex =
        ap (λ (n : ℕ). record a { findings = n }) f
        ∙ ap (λ (n : ℕ). record a { findings = b.findings; explained = n }) e
        ∙ ap (λ (n : ℕ). record a { findings = b.findings; explained = b.explained; waiting = n }) w
        ∙ ap (λ (n : ℕ). record a {
          findings = b.findings;
          explained = b.explained;
          waiting = b.waiting;
          uncertain =
              n;
        }) u
        ∙ ap (λ (n : ℕ). record b {
          left_out = n;
          unseen = a.unseen;
          idle = a.idle;
          is_unsure = a.is_unsure;
          is_exercised = a.is_exercised;
        }) l
        ∙ ap (λ (n : ℕ). record b {
          unseen = n;
          idle = a.idle;
          is_unsure = a.is_unsure;
          is_exercised =
              a.is_exercised;
        }) s
        ∙ ap (λ (n : ℕ). record b { idle = n; is_unsure = a.is_unsure; is_exercised = a.is_exercised }) i
        ∙ ap (λ (n : Bool). record b { is_unsure = n; is_exercised = a.is_exercised }) un
        ∙ ap (λ (n : Bool). record b { is_exercised = n }) ex
