-- What an admitted switch accepted of a link leaves it, comes over a cable, and is accepted again.
use Rattle.std.proofs.Common.{◌≡◌, ℕ, suc, ◌+◌, ◌*◌, ◌<◌, ◌≤◌, ◌==◌, ◌&&◌, Bool, true, false, not, List, [], ◌∷◌, ◌++◌}
use Rattle.std.proofs.Common.{map, filter, refl, sym, ap, ◌∙◌, subst, arith}
use Rattle.std.specs.Prelude.{if◌then◌else◌}
use Rattle.std.proofs.lemmas.List.{map-append}
use Rattle.std.proofs.lemmas.List.Elements.{filter-append, All-from_recursion}
use Rattle.std.specs.List.{AllByRecursion}
use Rattle.afdx_frame.specs.declared.link.Side.{Side}
use Rattle.afdx_config.specs.Rows.{LinkRow}
use Rattle.afdx_police.specs.Arrival.{Arrival, is_side, names, own}
use Rattle.afdx_law_bounds.specs.Outputs.{AreTimed}
use Rattle.afdx_law_bounds.proofs.AdmittedLemmas.{product-positive}
use Rattle.afdx_law_bounds.proofs.TableLemmas.{byte-time}
use Rattle.afdx_port.specs.Schedule.{Entry, Turn, AreTurns, end_of, lasting}
use Rattle.afdx_port.proofs.TurnLemmas.{schedule_begins, ends_after}
use Rattle.afdx_switch.specs.Admitted.{Passing, passing, passing_in, frames_among, slots, AreInTime}
use Rattle.afdx_switch.specs.HeldFrames.{HeldFrame}
use Rattle.afdx_switch.specs.Hops.{IsNextRule, AreCopies, AreFirstCopies}
use Rattle.afdx_switch.specs.Laws.{is_of}
use Rattle.afdx_switch.specs.Regular.{at_port}
use Rattle.afdx_switch.specs.Tables.{rule_of, goes_to, byte_ns_at, entries_at}
use Rattle.afdx_switch.proofs.AdmittedLemmas.{turns-in-time}
use Rattle.afdx_switch.proofs.HopLemmas.{copies-accepted, none-dropped}
use Rattle.afdx_law_promises.specs.Sent.{arrivals_at}
use Rattle.afdx_law_promises.proofs.PortLemmas.{its-turns, in-time, entries_back, left-back}
use Rattle.afdx_cascade.specs.Cables.{Hop, IsHop, Gives, GoesOn, IsNextRow, rule_at}
use Rattle.afdx_cascade.specs.Cables.{accepted_at, latency_at, all_turns, brought, brought_by, named}
use Rattle.afdx_cascade.specs.Cables.{CablesBringInOrder, FirstFramesLeave, AllFramesLeave, AcceptedIsAcceptedAgain}
use Rattle.afdx_cascade.specs.EndToEnd.{EachLeaves, FirstOfThemLeave, Leaves}

-- ---- lists

-- what a list is made into, in two parts
cut : {X Y : Type 0} (f : X → Y) (xs : List X) (ys zs : List Y) → map f xs ≡ ys ++ zs
    → (before : List X) × (after : List X) × (xs ≡ before ++ after) × (map f after ≡ zs)
cut f xs [] zs same = ([], xs, refl, same)
cut f [] (y ∷ ys) zs same = absurd (cc same)
cut f (x ∷ xs) (y ∷ ys) zs same =
    let rest = cut f xs ys zs (cc same) in
    (x ∷ rest.0, rest.1, ap (λ ws. x ∷ ws) rest.2, rest.3)

-- two tests in either order
either-way : {X : Type 0} (p q r : X → Bool) (xs : List X)
    → filter r (filter (λ x. p x && q x) xs) ≡ filter q (filter (λ x. p x && r x) xs)
either-way p q r [] = refl
either-way p q r (x ∷ xs) = by (p x) (q x) (r x) refl refl refl (either-way p q r xs)
  where
    by : (a b c : Bool) → p x ≡ a → q x ≡ b → r x ≡ c
        → filter r (filter (λ y. p y && q y) xs) ≡ filter q (filter (λ y. p y && r y) xs)
        → filter r (if p x && q x then x ∷ filter (λ y. p y && q y) xs else filter (λ y. p y && q y) xs)
        ≡ filter q (if p x && r x then x ∷ filter (λ y. p y && r y) xs else filter (λ y. p y && r y) xs)
    by false b c is-p is-q is-r rest = rw is-p rest
    by true true true is-p is-q is-r rest = rw (is-p, is-q, is-r) (rw is-q (ap (λ zs. x ∷ zs) rest))
    by true true false is-p is-q is-r rest = rw (is-p, is-q, is-r) rest
    by true false true is-p is-q is-r rest = rw (is-p, is-r) (rw is-q rest)
    by true false false is-p is-q is-r rest = rw (is-p, is-q, is-r) rest

-- ---- what a port gives

-- a slot ends later than its frame came
slot-later : (byte_ns bytes came moment end : ℕ) (old : Bool) → 0 < byte_ns → old ≡ false → came ≤ moment
    → end ≡ moment + lasting byte_ns old bytes → came < end
slot-later byte_ns bytes came moment end true some slot come lasts = absurd (cc slot)
slot-later byte_ns bytes came moment end false some slot come lasts =
    let long = product-positive (bytes + 20) byte_ns (omega arith) some in omega (arith, come, lasts, long)

leaves-by : (l : LinkRow) (side : Side) (to : ℕ) (g : Arrival) (s : Turn HeldFrame)
    → passing g ≡ passing_in s.entry → s.entry.time < s.end
    → s.end ≤ s.entry.time + 1000 * l.latency_us → Leaves (1000 * l.latency_us) g (brought side to s)
leaves-by l side to g s same later soon =
    let time : g.time ≡ s.entry.time = ap (λ (f : Passing). f.time) same in
    record {
      tag = sym (ap (λ (f : Passing). f.tag) same);
      bytes = sym (ap (λ (f : Passing). f.bytes) same);
      later = omega (arith, time, later);
      within = omega (arith, time, soon);
    }

module _ (l : LinkRow) (side : Side) (to byte_ns : ℕ) (some : 0 < byte_ns) (entries : List (Entry HeldFrame)) where
  each-leaves : (turns : List (Turn HeldFrame)) (gone : List Arrival) → AreTurns byte_ns entries turns
      → AreInTime l turns → map passing gone ≡ frames_among l.vl (entries_back (slots turns))
      → EachLeaves (1000 * l.latency_us) gone (named l.vl (brought_by side to turns))
  each-leaves [] [] are soon same = tt
  each-leaves [] (g ∷ gone) are soon same = absurd (cc same)
  each-leaves (s ∷ earlier) gone are soon same =
      by s.too_old same
      (λ gs rest. each-leaves earlier gs are.1 (λ k d lt. soon (suc k) d (omega (arith, lt))) rest)
    where
      named-one : (gs : List Arrival) → is_of l.vl s.entry ≡ true
          → map passing gs ≡ passing_in s.entry ∷ frames_among l.vl (entries_back (slots earlier))
          → ((hs : List Arrival) → map passing hs ≡ frames_among l.vl (entries_back (slots earlier))
          → EachLeaves (1000 * l.latency_us) hs (named l.vl (brought_by side to earlier)))
          → EachLeaves (1000 * l.latency_us) gs (brought side to s ∷ named l.vl (brought_by side to earlier))
      named-one [] own are-gs rest = absurd (cc are-gs)
      named-one (g ∷ gs) own are-gs rest =
          let in_time = soon 0 s (omega arith) own in (
            leaves-by l side to g s (cc are-gs)
                (slot-later byte_ns s.entry.bytes s.entry.time s.moment s.end s.too_old some in_time.0 are.0.come
                are.0.lasts) in_time.1,
            rest gs (cc are-gs),
          )

      slot : (c : Bool) → is_of l.vl s.entry ≡ c
          → map passing gone
          ≡ map passing_in (if c then s.entry ∷ filter (is_of l.vl) (entries_back (slots earlier))
          else filter (is_of l.vl) (entries_back (slots earlier)))
          → ((hs : List Arrival) → map passing hs ≡ frames_among l.vl (entries_back (slots earlier))
          → EachLeaves (1000 * l.latency_us) hs (named l.vl (brought_by side to earlier)))
          → EachLeaves (1000 * l.latency_us) gone
          (if c then brought side to s ∷ named l.vl (brought_by side to earlier)
          else named l.vl (brought_by side to earlier))
      slot true own are-gone rest = named-one gone own are-gone rest
      slot false other are-gone rest = rest gone are-gone

      by : (b : Bool)
          → map passing gone
          ≡ frames_among l.vl (entries_back (if not b then s ∷ slots earlier else slots earlier))
          → ((hs : List Arrival) → map passing hs ≡ frames_among l.vl (entries_back (slots earlier))
          → EachLeaves (1000 * l.latency_us) hs (named l.vl (brought_by side to earlier)))
          → EachLeaves (1000 * l.latency_us) gone
          (named l.vl (map (brought side to) (if not b then s ∷ slots earlier else slots earlier)))
      by true are-gone rest = rest gone are-gone
      by false are-gone rest = slot (is_of l.vl s.entry) refl are-gone rest

-- what leaves is a copy of what came
leave-copies : (delay : ℕ) (came left : List Arrival) → EachLeaves delay came left → AreCopies delay came left
leave-copies delay [] [] each = tt
leave-copies delay [] (y ∷ after) each = absurd each
leave-copies delay (x ∷ before) [] each = absurd each
leave-copies delay (x ∷ before) (y ∷ after) each = (
  record {
    tag = each.0.tag;
    bytes = each.0.bytes;
    after = (let later = each.0.later in omega (arith, later));
    within = each.0.within;
  },
  leave-copies delay before after each.1,
)

-- they come by time: the turns of a port end in order
brought-by : (side : Side) (to byte_ns : ℕ) (entries : List (Entry HeldFrame)) (turns : List (Turn HeldFrame)) (t : ℕ)
    → AreTurns byte_ns entries turns → end_of turns ≤ t
    → AllByRecursion (λ x. x.time ≤ t) (brought_by side to turns)
brought-by side to byte_ns entries [] t are over = tt
brought-by side to byte_ns entries (s ∷ earlier) t are over =
    by s.too_old (brought-by side to byte_ns entries earlier t are.1
    (let after = are.0.after in let ends = ends_after byte_ns entries earlier s are.0 in
    omega (arith, after, ends, over)))
  where
    by : (b : Bool) → AllByRecursion (λ x. x.time ≤ t) (brought_by side to earlier)
        → AllByRecursion (λ x. x.time ≤ t) (map (brought side to) (if not b then s ∷ slots earlier else slots earlier))
    by true rest = rest
    by false rest = (over, rest)

brought-timed : (side : Side) (to byte_ns : ℕ) (entries : List (Entry HeldFrame)) (turns : List (Turn HeldFrame))
    → AreTurns byte_ns entries turns → AreTimed (brought_by side to turns)
brought-timed side to byte_ns entries [] are = tt
brought-timed side to byte_ns entries (s ∷ earlier) are =
    by s.too_old (brought-by side to byte_ns entries earlier s.end are.1
    (let after = are.0.after in let ends = ends_after byte_ns entries earlier s are.0 in omega (arith, after, ends)))
    (brought-timed side to byte_ns entries earlier are.1)
  where
    by : (b : Bool) → AllByRecursion (λ x. x.time ≤ s.end) (brought_by side to earlier)
        → AreTimed (brought_by side to earlier)
        → AreTimed (map (brought side to) (if not b then s ∷ slots earlier else slots earlier))
    by true all rest = rest
    by false all rest = (All-from_recursion (λ (x : Arrival). x.time ≤ s.end) (brought_by side to earlier) all, rest)

pub in-order : CablesBringInOrder
in-order h side port to turns gives =
    brought-timed side to (byte_ns_at h.tables port) (entries_at h.tables side port h.arrivals) turns gives.are

among-more : (vl : ℕ) (later begun : List (Turn HeldFrame))
    → frames_among vl (entries_back (slots (later ++ begun)))
    ≡ frames_among vl (entries_back (slots later)) ++ frames_among vl (entries_back (slots begun))
among-more vl later begun =
    ap (λ ss. frames_among vl (entries_back ss)) (filter-append (λ s. not s.too_old) later begun)
    ∙ ap (frames_among vl) (map-append (λ s. s.entry) (slots later) (slots begun))
    ∙ ap (map passing_in) (filter-append (is_of vl) (entries_back (slots later)) (entries_back (slots begun)))
    ∙ map-append passing_in (filter (is_of vl) (entries_back (slots later)))
    (filter (is_of vl) (entries_back (slots begun)))

pub first-leaves : (h : Hop) (side : Side) (port to : ℕ) (turns : List (Turn HeldFrame)) → IsHop h
    → Gives h side port turns
    → FirstOfThemLeave (latency_at h) (accepted_at h side) (named h.link.vl (brought_by side to turns))
first-leaves h side port to turns is gives =
    let l = h.link in
    let byte_ns = byte_ns_at h.tables port in
    let entries = entries_at h.tables side port h.arrivals in
    let more = schedule_begins byte_ns entries (all_turns h side port) turns
    (its-turns h.tables side port h.arrivals is.run.timed) gives.are in
    let back = left-back h.tables h.arrivals side port is.place l is.run is.stands gives.goes in
    let parts = cut passing (accepted_at h side) (frames_among l.vl (entries_back (slots more.0)))
    (frames_among l.vl (entries_back (slots turns)))
    (sym back ∙ ap (λ ss. frames_among l.vl (entries_back (slots ss))) more.1
    ∙ among-more l.vl more.0 turns) in
    record {
      waiting = parts.0;
      gone = parts.1;
      all = parts.2;
      leave = each-leaves l side to byte_ns (byte-time h.tables port is.run.lawful) entries turns parts.1 gives.are
          (turns-in-time h.tables h.arrivals side port is.place l turns is.run is.stands gives.are) parts.3;
    }

pub first-leave : FirstFramesLeave
first-leave h side port to turns is gives =
    let first = first-leaves h side port to turns is gives in
    record {
      waiting = first.waiting;
      gone = first.gone;
      all = first.all;
      copies = leave-copies (latency_at h) first.gone (named h.link.vl (brought_by side to turns)) first.leave;
    }

pub all-leaves : (h : Hop) (side : Side) (port to : ℕ) → IsHop h → goes_to h.tables h.link port ≡ true
    → EachLeaves (latency_at h) (accepted_at h side) (named h.link.vl (brought_by side to (all_turns h side port)))
all-leaves h side port to is goes =
    each-leaves h.link side to (byte_ns_at h.tables port) (byte-time h.tables port is.run.lawful)
    (entries_at h.tables side port h.arrivals) (all_turns h side port) (accepted_at h side)
    (its-turns h.tables side port h.arrivals is.run.timed).each_next
    (in-time h.tables h.arrivals side port is.place h.link is.run is.stands)
    (sym (left-back h.tables h.arrivals side port is.place h.link is.run is.stands goes))

pub all-leave : AllFramesLeave
all-leave h side port to is goes =
    leave-copies (latency_at h) (accepted_at h side) (named h.link.vl (brought_by side to (all_turns h side port)))
    (all-leaves h side port to is goes)

-- ---- what comes over a cable

next-rule : (j k : Hop) → IsNextRow j.link k.link → IsNextRule (latency_at j) (rule_at j) (rule_at k)
unfolding rule_of
next-rule j k row = record {
  vl = row.vl;
  bag_ms = row.bag_ms;
  lmin = row.lmin;
  lmax = row.lmax;
  policing = row.policing;
  jitter = omega (arith, row.jitter);
}

-- a link's own arrivals at a port of a side
pub own-there : (k : Hop) (side : Side)
    → at_port (rule_at k) (own k.link.vl side k.arrivals)
    ≡ named k.link.vl (arrivals_at side (rule_at k).port k.arrivals)
own-there k side =
    either-way (λ x. is_side side x.side) (λ x. names k.link.vl x.bytes) (λ x. (rule_at k).port == x.port) k.arrivals

-- the frames of the link that come there are those that left the switch before
pub brought-there : (side : Side) (j k : Hop) (on : GoesOn side j k)
    → named j.link.vl (brought_by side (rule_at k).port on.turns)
    ≡ named k.link.vl (arrivals_at side (rule_at k).port k.arrivals)
brought-there side j k on =
    ap (λ vl. named vl (brought_by side (rule_at k).port on.turns)) (sym on.row.vl)
    ∙ ap (named k.link.vl) (sym on.brings)

pub again : AcceptedIsAcceptedAgain
again side j k is_j is_k on =
    let there : AreFirstCopies (latency_at j) (accepted_at j side)
    (at_port (rule_at k) (own k.link.vl side k.arrivals)) =
    subst (AreFirstCopies (latency_at j) (accepted_at j side))
    (brought-there side j k on ∙ sym (own-there k side))
    (first-leave j side on.port (rule_at k).port on.turns is_j on.gives) in
    let next = next-rule j k on.row in
    let all : accepted_at k side ≡ at_port (rule_at k) (own k.link.vl side k.arrivals) =
    copies-accepted (latency_at j) (rule_at j) (rule_at k) (own j.link.vl side j.arrivals)
    (own k.link.vl side k.arrivals) next there in
    record {
      none_dropped = λ later past x same here port own_link.
          none-dropped (latency_at j) (rule_at j) (own j.link.vl side j.arrivals) k.tables is_k.place k.link
          later past x is_k.run.lawful is_k.stands next
          (subst (λ s. AreFirstCopies (latency_at j) (accepted_at j side)
          (at_port (rule_at k) (own k.link.vl s (later ++ x ∷ past)))) (sym here)
          (subst (λ xs. AreFirstCopies (latency_at j) (accepted_at j side)
          (at_port (rule_at k) (own k.link.vl side xs))) same there)) own_link port;
      accepted = all ∙ own-there k side;
      copies = subst (AreFirstCopies (latency_at j) (accepted_at j side)) (sym all) there;
    }
