-- What a new sender stands for.
use Rattle.std.proofs.Common.{◌≡◌, ◌≢◌, ℕ, ◌+◌, ◌*◌, ◌<◌, ◌≤◌, Bool, true, false, List, [], ◌∷◌}
use Rattle.std.proofs.Common.{◌++◌, length, filter, replicate, Option, Some, None, inl, inr, refl}
use Rattle.std.proofs.Common.{sym, ap, subst, arith, ◌∙◌, suc, zero, slice_set, map, sum_by, nat_eq}
use Rattle.std.proofs.Common.{if◌then◌else◌}
use Rattle.std.specs.List.{slice_get}
use Rattle.std.proofs.lemmas.List.{length-map}
use Rattle.std.proofs.lemmas.List.Sums.{sum_by-cons}
use Rattle.std.proofs.lemmas.Option.{slice_get_within}
use Rattle.std.proofs.lemmas.Bool.{cases_eq}
use Rattle.afdx_frame.specs.declared.link.Priority.TheVariants.{Low}
use Rattle.afdx_config.specs.Admission.{byte_ns, links_from, sender_jitter, IsAdmitted}
use Rattle.afdx_config.specs.Lawful.{IsSystem, IsLink, IsLinkUpTo, IsLawfulSwitch, AreDistinct}
use Rattle.afdx_config.specs.Lawful.{jitter_from_any}
use Rattle.afdx_config.proofs.AmongOthersLemmas.{link-alone}
use Rattle.afdx_config.specs.Numbers.{after_steps}
use Rattle.afdx_config.specs.Rows.{SystemRow, LinkRow, Rows}
use Rattle.afdx_port.specs.Schedule as slots
use Rattle.afdx_port.specs.declared.left.Left.{Left}
use Rattle.afdx_law_bounds.specs.Sender.{one_of_each}
use Rattle.afdx_law_bounds.specs.Tables.{EachSystemIsSender, sent_flow}
use Rattle.afdx_config.specs.Flows.{regulation_of_link}
use Rattle.afdx_frame.specs.Flows.{Flow}
use Rattle.afdx_frame.specs.Regulation.{jitter}
use Rattle.afdx_frame.proofs.ListLemmas.{slice_get-push_cases, AllByRecursion-slice_get, slice_get-filter}
use Rattle.afdx_frame.proofs.ListLemmas.{slice_get-within}
use Rattle.std.proofs.lemmas.Bool.{eqb-true}
use Rattle.afdx_port.specs.Held as held
use Rattle.afdx_port.specs.History as port
use Rattle.afdx_send.specs.declared.line.SystemLink.{SystemLink}
use Rattle.afdx_send.specs.declared.regulator.Queued.{Queued}
use Rattle.afdx_send.specs.declared.sender_state.SenderState.{SenderState}
use Rattle.afdx_send.specs.Agenda.{IsPlayed, nexts}
use Rattle.afdx_send.specs.Emissions.{LinkRelease, own_submissions, AreAllReleases, entries_of}
use Rattle.afdx_send.specs.Frames.{Frame, facts}
use Rattle.afdx_send.specs.Lines.{IsLineOf, LineStands, held_by}
use Rattle.afdx_send.specs.New.{IsNewLine, AreNewLines, IsPlaceIn}
use Rattle.afdx_send.specs.Regulator.{Regulates, HasQueue, IsQueue, waiting_of, next_time_of}
use Rattle.afdx_send.specs.Releases.{Submission}
use Rattle.afdx_send.specs.Sender.{HasGiven, no_calls, AreSent, flows_of, IsQuiet, IsPlaceOf}
use Rattle.afdx_send.specs.Sender.{StandsFor, nexts_of, messages_held, frames_held, ready_count}
use Rattle.afdx_send.specs.Sender.{port_history}
use Rattle.afdx_send.proofs.ReleaseLemmas.{get_set_same, get_set_other, length_set}

-- the queues of a new regulator are empty
none_waits : (line : SystemLink) → Regulates line.regulator [] [] → (i : ℕ) (ms : List Queued)
    → HasQueue (waiting_of line.regulator) i ms → length ms ≡ 0
none_waits line g i [] h = refl
none_waits line g i (m ∷ ms) h =
    absurd (let q : IsQueue [] [] (i + 1) 0 (m ∷ ms) = g.queues i (m ∷ ms) h in let e =
    q.1.own.stands in cc e)

pub new_line : (l : LinkRow) (line : SystemLink) (n : ℕ) → IsLineOf l line
    → IsLinkUpTo jitter_from_any n l
    → Regulates line.regulator [] [] → held_by line.regulator ≡ 0 → line.number ≡ 0
    → LineStands line l [] []
unfolding after_steps
new_line l line n is lawful g none number = record {
  is_line = is;
  regulates = g;
  timely = record {
    limit = λ i s h. absurd (cc h);
    few = (let e = length-map line.regulator.queues.items (λ q. q.items) in let s = is.subs in
        let m = lawful.subs.1 in omega arith);
    full = λ i ms h. (let e = none_waits line g i ms h in omega arith);
    balance = (let e : held_by line.regulator * line.regulator.bag ≡ 0 =
        ap (λ z. z * line.regulator.bag) none ∙ zero_times line.regulator.bag in
        let b : line.regulator.earliest ≡ 0 = g.earliest in omega arith);
  };
  fits = λ i s h. absurd (cc h);
  messages = λ i s h. absurd (cc h);
  number = number;
}
  where
    zero_times : (b : ℕ) → 0 * b ≡ 0
    zero_times b = omega arith

pub lines_push : (links : List LinkRow) (lines : List SystemLink) (l : LinkRow) (line : SystemLink)
    → AreNewLines links lines → IsNewLine l line → AreNewLines (links ++ l ∷ []) (lines ++ line ∷ [])
lines_push links lines l line a new = record {
  count = length_push lines line ∙ ap (λ z. z + 1) a.count ∙ sym (length_push links l);
  each = λ i l1 line1 h k. elim (slice_get-push_cases links l i l1 h) [
    | inl old ↦ elim (slice_get-push_cases lines line i line1 k) [
      | inl old' ↦ a.each i l1 line1 old old'
      | inr last ↦ absurd (let w = slice_get_within links i l1 old in let e = last.0 in let c = a.count in omega arith)
    ]
    | inr last ↦ elim (slice_get-push_cases lines line i line1 k) [
      | inl old' ↦ absurd (let w = slice_get_within lines i line1 old' in let e = last.0 in let c =
          a.count in omega arith)
      | inr last' ↦ subst (λ (z : LinkRow). IsNewLine z line1) (sym last.1)
          (subst (λ (z : SystemLink). IsNewLine l z) (sym last'.1) new)
    ]
  ];
}
  where
    length_push : {Y : Type 0} (xs : List Y) (x : Y) → length (xs ++ x ∷ []) ≡ length xs + 1
    length_push [] x = refl
    length_push (y ∷ ys) x = (let r = length_push ys x in omega arith)

pub filter_short : {Y : Type 0} (p : Y → Bool) (xs : List Y) → length (filter p xs) ≤ length xs
filter_short p [] = omega arith
filter_short p (x ∷ xs) = by (p x) (filter_short p xs)
  where
    by : (b : Bool) → length (filter p xs) ≤ length xs
        → length (if b then x ∷ filter p xs else filter p xs) ≤ length (x ∷ xs)
    by true h = omega arith
    by false h = omega arith

-- the places of the first n lines
abbrev pub IsPlaceTo : ℕ → List SystemLink → ℕ → Option ℕ → Type 0
IsPlaceTo n lines vl None = (i : ℕ) (line : SystemLink) → i < n → slice_get lines i ≡ Some line → line.vl.0 ≡ vl → ⊥
IsPlaceTo n lines vl (Some place) = (line : SystemLink) × (slice_get lines place ≡ Some line) × (line.vl.0 ≡ vl)

pub record ArePlaces (n : ℕ) (lines : List SystemLink) (places : List (Option ℕ)) : Type 0 where
  pub count : length places ≡ 65536
  pub each : (vl : ℕ) (place : Option ℕ) → slice_get places vl ≡ Some place → IsPlaceTo n lines vl place

pub place_set : (n : ℕ) (lines : List SystemLink) (places : List (Option ℕ)) (line : SystemLink)
    → ArePlaces n lines places → slice_get lines n ≡ Some line
    → ArePlaces (n + 1) lines (slice_set places line.vl.0 (Some n))
place_set n lines places line a has = record {
  count = length_set places line.vl.0 (Some n) ∙ a.count;
  each = λ vl place h. elim (cases_eq vl line.vl.0) [
    | inl e ↦ (let same = get_set_same places line.vl.0 (Some n) place
        (subst (λ (z : ℕ). slice_get (slice_set places line.vl.0 (Some n)) z ≡ Some place) e h) in
        subst (λ (z : Option ℕ). IsPlaceTo (n + 1) lines vl z) (sym same) (line, has, sym e))
    | inr ne ↦ longer vl place ne (a.each vl place (get_set_other places line.vl.0 vl (Some n) place ne h))
  ];
}
  where
    longer : (vl : ℕ) (place : Option ℕ) → vl ≢ line.vl.0 → IsPlaceTo n lines vl place
        → IsPlaceTo (n + 1) lines vl place
    longer vl (Some place) ne h = h
    longer vl None ne h = λ i d lt k e. elim (cases_eq i n) [
      | inl s ↦ ne (let both : Some line ≡ Some d = sym has
          ∙ subst (λ (z : ℕ). slice_get lines z ≡ Some d) s k in let f : line ≡ d = cc both in
          let g : line.vl.0 ≡ d.vl.0 = ap (λ z. z.vl.0) f in omega arith)
      | inr other ↦ h i d (omega arith) k e
    ]

pub all_places : (n : ℕ) (lines : List SystemLink) (places : List (Option ℕ)) → ArePlaces n lines places
    → length lines ≤ n → (vl : ℕ) (place : Option ℕ) → slice_get places vl ≡ Some place
    → IsPlaceIn lines vl place
all_places n lines places a all vl (Some place) h = a.each vl (Some place) h
all_places n lines places a all vl None h =
    λ i line k e. a.each vl None h i line (let w = slice_get_within lines i line k in omega arith) k e

-- a row that passes a test is a row
passes_filter : {Y : Type 0} (p : Y → Bool) (xs : List Y) (i : ℕ) (x : Y)
    → slice_get (filter p xs) i ≡ Some x → p x ≡ true
passes_filter p [] i x h = absurd (cc h)
passes_filter p (y ∷ ys) i x h = by (p y) refl i h (λ k g. passes_filter p ys k x g)
  where
    by : (b : Bool) → p y ≡ b → (k : ℕ) → slice_get (if b then y ∷ filter p ys else filter p ys) k
        ≡ Some x → ((m : ℕ) → slice_get (filter p ys) m ≡ Some x → p x ≡ true) → p x ≡ true
    by true e zero g rec = (let f : y ≡ x = cc g in ap p (sym f) ∙ e)
    by true e (suc k) g rec = rec k g
    by false e k g rec = rec k g

abbrev Distinct : {Y : Type 0} → (Y → ℕ) → List Y → Type 0
Distinct {Y} f xs = (i j : ℕ) (a b : Y) → slice_get xs i ≡ Some a → slice_get xs j ≡ Some b → f a ≡ f b → i ≡ j

filter_distinct : {Y : Type 0} (f : Y → ℕ) (p : Y → Bool) (xs : List Y) → Distinct f xs → Distinct f (filter p xs)
filter_distinct f p [] d i j a b h k e = absurd (cc h)
filter_distinct f p (x ∷ xs) d i j a b h k e =
    by (p x) i j h k (filter_distinct f p xs
    (λ m n u v q r s. (let t = d (suc m) (suc n) u v q r s in omega arith)))
  where
    by : (c : Bool) (m n : ℕ) → slice_get (if c then x ∷ filter p xs else filter p xs) m ≡ Some a
        → slice_get (if c then x ∷ filter p xs else filter p xs) n ≡ Some b
        → Distinct f (filter p xs) → m ≡ n
    by true zero zero g l rest = refl
    by true zero (suc n) g l rest =
        absurd (let q = slice_get-filter p xs n b l in let t = d 0 (suc q.0) a b g q.1 e in omega arith)
    by true (suc m) zero g l rest =
        absurd (let q = slice_get-filter p xs m a g in let t = d (suc q.0) 0 a b q.1 l e in omega arith)
    by true (suc m) (suc n) g l rest = ap (λ z. suc z) (rest m n a b g l e)
    by false m n g l rest = rest m n a b g l e

pub distinct_links : (links : List LinkRow) (system : ℕ) → AreDistinct (λ l. l.vl) links
    → AreDistinct (λ l. l.vl) (links_from links system)
unfolding AreDistinct
distinct_links links system d = filter_distinct (λ l. l.vl) (λ l. nat_eq l.from system) links d

-- one frame of each, as admission sums them
pub one_each : (s : SystemRow) (all links : List LinkRow)
    → one_of_each (byte_ns s) (map (sent_flow (byte_ns s) Low all) links)
    ≡ sum_by (λ l. (regulation_of_link l).smax * byte_ns s) links
one_each s all [] = refl
one_each s all (l ∷ links) =
    let rest = one_each s all links in
    sum_by-cons (λ (f : Flow). f.link.smax * byte_ns s) (sent_flow (byte_ns s) Low all l)
    (map (sent_flow (byte_ns s) Low all) links) ∙
    ap (λ z. (l.lmax + 20) * byte_ns s + z) rest
    ∙ sym (sum_by-cons (λ l. (regulation_of_link l).smax * byte_ns s) l links)

jitters_are : (t : Rows) (place : ℕ) (s : SystemRow) → IsAdmitted t → slice_get t.systems place
    ≡ Some s → place < t.own → (i : ℕ) (l : LinkRow) → slice_get (links_from t.links place) i ≡ Some l →
    one_of_each (byte_ns s) (flows_of s (links_from t.links place)) ≤ jitter (regulation_of_link l)
jitters_are t place s admitted row own i l h =
    let p : LinkRow → Bool = λ l. nat_eq l.from place in
    let r = slice_get-filter p t.links i l h in
    let from : l.from ≡ place = eqb-true l.from place (passes_filter p t.links i l h) in
    let sum = admitted.jitters r.0 l s r.1 (subst (λ (z : ℕ). slice_get t.systems z ≡ Some s) (sym from) row)
    (subst (λ (z : ℕ). z < t.own) (sym from) own) in
    let sum' : sender_jitter (byte_ns s) (links_from t.links place) ≤ 1000 * l.jitter_us =
    subst (λ (z : ℕ). sender_jitter (byte_ns s) (links_from t.links z) ≤ 1000 * l.jitter_us)
    from sum in
    let e = one_each s (links_from t.links place) (links_from t.links place) in
    omega (arith, e, sum')

-- a link that a system sends is as in the tables of one switch
link_is : (t : Rows) (place : ℕ) → IsLawfulSwitch t → place < t.own → (i : ℕ) (l : LinkRow)
    → slice_get (links_from t.links place) i ≡ Some l → IsLink (length t.systems) l
link_is t place lawful own i l h =
    let p : LinkRow → Bool = λ l. nat_eq l.from place in
    let r = slice_get-filter p t.links i l h in
    let from : l.from ≡ place = eqb-true l.from place (passes_filter p t.links i l h) in
    link-alone (length t.systems) l
    (AllByRecursion-slice_get (IsLinkUpTo jitter_from_any (length t.systems)) t.links r.0 l lawful.links.each r.1)
    (lawful.sent r.0 l r.1 (subst (λ (z : ℕ). z < t.own) (sym from) own))

pub are_sent : (t : Rows) (place : ℕ) (s : SystemRow) → EachSystemIsSender → IsLawfulSwitch t
    → IsAdmitted t → slice_get t.systems place ≡ Some s → place < t.own
    → AreSent s (links_from t.links place)
are_sent t place s law lawful admitted row own = record {
  system = (t.profile, AllByRecursion-slice_get (IsSystem t.profile) t.systems place s lawful.systems.each row);
  is_sender = law t Low place s lawful admitted row own;
  lawful = λ i l h. (length t.systems, link_is t place lawful own i l h);
  distinct = distinct_links t.links place lawful.links.identifiers;
  jitters = jitters_are t place s admitted row own;
}

all_none : (links : List LinkRow) (lines : List SystemLink) → AreNewLines links lines
    → map (λ l. next_time_of l.regulator) lines ≡ replicate (length lines) None
all_none [] [] a = refl
all_none [] (line ∷ lines) a = absurd (let c = a.count in omega arith)
all_none (l ∷ links) [] a = refl
all_none (l ∷ links) (line ∷ lines) a =
    let one = (a.each 0 l line refl refl).next in
    let rest = all_none links lines
    (record {
      count = (let c = a.count in omega arith);
      each = λ i m d h k. a.each (suc i) m d h k;
    }) in
    ap (λ z. z ∷ map (λ l. next_time_of l.regulator) lines) one ∙ ap (λ z. None ∷ z) rest

all_empty : (links : List LinkRow) (lines : List SystemLink) → AreNewLines links lines
    → sum_by (λ l. held_by l.regulator) lines ≡ 0
all_empty links [] a = refl
all_empty [] (line ∷ lines) a = absurd (let c = a.count in omega arith)
all_empty (l ∷ links) (line ∷ lines) a =
    let one = (a.each 0 l line refl refl).held in
    let rest = all_empty links lines
    (record {
      count = (let c = a.count in omega arith);
      each = λ i m d h k. a.each (suc i) m d h k;
    }) in
    let e = sum_by-cons (λ l. held_by l.regulator) line lines in omega arith

none_taken : (n i : ℕ) → own_submissions (replicate n []) i ≡ []
none_taken zero i = refl
none_taken (suc n) zero = refl
none_taken (suc n) (suc i) = none_taken n i

-- a new sender
pub record IsNew (w : SenderState) (t : Rows) (place : ℕ) (s : SystemRow) : Type 0 where
  pub system_id : w.system_id ≡ s.id
  pub partition : w.partition ≡ s.partition
  pub clock : w.clock ≡ 0
  pub ready : w.ready ≡ None
  pub lines : AreNewLines (links_from t.links place) w.lines.items
  pub place_count : length w.places.items ≡ 65536
  pub places : (vl : ℕ) (place : Option ℕ) → slice_get w.places.items vl ≡ Some place → IsPlaceIn w.lines.items vl place
  pub played : IsPlayed w.agenda
  pub agenda : nexts w.agenda ≡ replicate (length w.lines.items) None
  pub agenda_count : w.agenda.count ≡ length w.lines.items
  pub output : port.StandsFor facts w.output (port.no_calls (byte_ns s) 65536)
  pub port_clock : held.last_time w.output ≡ 0
  pub empty : held.frames_held w.output ≡ 0

pub stands_new : (w : SenderState) (t : Rows) (place : ℕ) (s : SystemRow)
    → AreSent s (links_from t.links place) → IsNew w t place s → StandsFor w (no_calls t place s)
stands_new w t place s are n =
    let links = links_from t.links place in
    let count = n.lines.count in
    let none : nexts_of w ≡ replicate (length w.lines.items) None = all_none links w.lines.items n.lines in
    record {
      system_id = n.system_id;
      partition = n.partition;
      clock = n.clock;
      are_sent = are;
      place_count = n.place_count;
      places = λ vl p h. place_of vl p (n.places vl p h);
      released = [];
      are_releases = tt;
      before = tt;
      count = count;
      lists = length_replicate (length links) [];
      lines = λ i line l h k. subst (λ (z : List Submission). LineStands line l z [])
          (sym (none_taken (length links) i)) (n.lines.each i l line k h).stands;
      come = λ i p d h. absurd
          (let e = subst (λ (z : List Submission). slice_get z p ≡ Some d)
          (none_taken (length links) i) h in cc e);
      played = n.played;
      agenda = n.agenda ∙ sym none;
      agenda_count = n.agenda_count;
      given = [];
      has_given = subst (λ (o : Option (Left Frame)). HasGiven o [] []) (sym n.ready) refl;
      in_time = λ left e. absurd (let f : Some left ≡ None = sym e ∙ n.ready in cc f);
      output = subst (λ (c : ℕ). port.StandsFor facts w.output
          (port_history (no_calls t place s) [] [] c)) (sym n.port_clock) n.output;
      timely = λ i u h. (let c = n.port_clock in omega arith);
      port_clock = (let c = n.port_clock in omega arith);
    }
  where
    length_replicate : {Y : Type 0} (k : ℕ) (y : Y) → length (replicate k y) ≡ k
    length_replicate zero y = refl
    length_replicate (suc k) y = ap (λ z. suc z) (length_replicate k y)

    line_of : (i : ℕ) (l : LinkRow) → slice_get (links_from t.links place) i ≡ Some l
        → (line : SystemLink) × (slice_get w.lines.items i ≡ Some line)
    line_of i l h = slice_get-within w.lines.items i
        (let k = slice_get_within (links_from t.links place) i l h in let c = n.lines.count in
        omega arith)

    row_of : (i : ℕ) (line : SystemLink) → slice_get w.lines.items i ≡ Some line → (l : LinkRow)
        × (slice_get (links_from t.links place) i ≡ Some l)
    row_of i line h = slice_get-within (links_from t.links place) i
        (let k = slice_get_within w.lines.items i line h in let c = n.lines.count in omega arith)

    place_of : (vl : ℕ) (p : Option ℕ) → IsPlaceIn w.lines.items vl p → IsPlaceOf (links_from t.links place) vl p
    place_of vl None h = λ i l k e.
        (let d = line_of i l k in let is = (n.lines.each i l d.0 k d.1).stands.is_line.vl in
        h i d.0 d.1 (is ∙ e))
    place_of vl (Some p) h =
        (let r = row_of p h.0 h.1 in let is = (n.lines.each p r.0 h.0 r.1 h.1).stands.is_line.vl in
        (r.0, r.1, sym is ∙ h.2))

-- it has no emission
pub quiet_new : (w : SenderState) (t : Rows) (place : ℕ) (s : SystemRow)
    → StandsFor w (no_calls t place s) → (u : ℕ) → IsQuiet w u
quiet_new w t place s st u = (
  no_calls t place s,
  st,
  λ d n.
      absurd (none n.released n.are_releases d.entry d.place n.next.own.stands),
)
  where
    none : (xs : List LinkRelease)
        → AreAllReleases (links_from t.links place)
        (replicate (length (links_from t.links place)) []) xs → (e : slots.Entry Frame) (i : ℕ)
        → slice_get (entries_of xs) i ≡ Some e → ⊥
    none [] h e i g = cc g
    none (x ∷ xs) h e i g = let a = h.0.next.own.stands in let b =
        subst (λ (z : List Submission). slice_get z x.release.place ≡ Some x.release.submission)
        (none_taken (length (links_from t.links place)) x.place) a in cc b

pub held_new : (w : SenderState) (t : Rows) (place : ℕ) (s : SystemRow) → IsNew w t place s → frames_held w ≡ 0
held_new w t place s n =
    let a : messages_held w ≡ 0 = all_empty (links_from t.links place) w.lines.items n.lines in
    let b : ready_count w.ready ≡ 0 = ap ready_count n.ready in
    let c = n.empty in omega (arith, a, b, c)
