-- What a submission does to the calls that a sender stands for, and how many messages of a sub-VL wait.
use Rattle.std.proofs.Common.{◌≡◌, ◌≢◌, ℕ, ◌+◌, ◌-◌, ◌*◌, ◌^◌, ◌<◌, ◌≤◌, ◌==◌, max, Bool, true}
use Rattle.std.proofs.Common.{false, if◌then◌else◌, option_map, List, [], ◌∷◌, ◌++◌, length, Option, Some}
use Rattle.std.proofs.Common.{None, inl, inr, refl, sym, ap, subst, arith, ◌∙◌, suc, zero}
use Rattle.std.proofs.Common.{slice_set, slice_index_or, map, sum_by}
use Rattle.std.specs.List.{slice_get, AllByRecursion}
use Rattle.std.proofs.lemmas.List.{map-set, length-map}
use Rattle.std.proofs.lemmas.List.Sums.{sum_by-set}
use Rattle.std.proofs.Math.Seq.{map-set_same}
use Rattle.std.specs.Vec.{with_item}
use Rattle.std.proofs.lemmas.Option.{get_or_from_slice_get, slice_get_within, slice_get-map, slice_get-get_or}
use Rattle.std.proofs.lemmas.Bool.{cases_eq}
use Rattle.std.proofs.lemmas.Bool.Decides.{nat_tests}
use Rattle.afdx_config.specs.Rows.{LinkRow}
use Rattle.afdx_frame.specs.Sealing.{AreBytes}
use Rattle.afdx_frame.proofs.ListLemmas.{slice_get-push_cases, slice_get-one}
use Rattle.afdx_send.specs.declared.agenda.ReleaseAgenda.{ReleaseAgenda}
use Rattle.afdx_send.specs.declared.fault.SendFault.{SendFault}
use Rattle.afdx_send.specs.declared.fault.SendFault.TheVariants.{NotMyLink, NoSuchSub, Empty}
use Rattle.afdx_send.specs.declared.fault.SendFault.TheVariants.{TooLarge, QueueFull, Memory}
use Rattle.afdx_send.specs.declared.line.SystemLink.{SystemLink}
use Rattle.afdx_send.specs.declared.regulator.Queued.{Queued}
use Rattle.afdx_send.specs.declared.regulator.Regulator.{Regulator}
use Rattle.afdx_send.specs.declared.sender_state.SenderState.{SenderState}
use Rattle.afdx_send.specs.Agenda.{NoneBefore, IsPlayed, nexts}
use Rattle.afdx_send.specs.Emissions.{own, own_submissions}
use Rattle.afdx_send.specs.Lines.{LineStands, LineAdmits, LineRefuses, CanTake, held_by}
use Rattle.afdx_send.specs.Regulator.{IsQueue, HasQueue, Pushes, submission_of, waiting_of}
use Rattle.afdx_send.specs.Regulator.{next_time_of, sub_count, first_time}
use Rattle.afdx_send.specs.Releases.{Submission, Release, has_release, IsUnreleased, AreReleases}
use Rattle.afdx_send.specs.Releases.{count_without, earliest_after}
use Rattle.afdx_send.specs.Sender.{SenderHistory, with_submission, submission, nexts_of, HoldsMore}
use Rattle.afdx_send.specs.Sender.{HoldsSame, IsIdle, IsPlaceOf, IsRefused, LinkTakes, StandsFor}
use Rattle.afdx_send.specs.Sender.{AreUnreleased}
use Rattle.afdx_send.proofs.LineLemmas.{Takes, line_takes}
use Rattle.afdx_port.proofs.TurnLemmas.{eqb-same}
use Rattle.afdx_send.proofs.OwnLemmas.{own_set, own_before, all_stay, before_longer}
use Rattle.afdx_send.proofs.RegulatorLemmas.{due, not_none}
use Rattle.afdx_send.proofs.ReleaseLemmas.{get_set_same, get_set_other, length_set}
use Rattle.afdx_send.proofs.StandLemmas.{none_before, held_more}

-- where a queue has a front that has come by t, the next release isn't after t
old_next : (p : Regulator) (i c t : ℕ) (n : Queued) (ms : List Queued)
    → HasQueue (waiting_of p) i (n ∷ ms) → ((u : ℕ) → next_time_of p ≡ Some u → c ≤ u) → n.time ≤ t
    → p.earliest ≤ t → c ≤ t
old_next p i c t n ms h late come over = by_next (next_time_of p) refl
  where
    by_next : (o : Option ℕ) → next_time_of p ≡ o → c ≤ t
    by_next None e = absurd (not_none p i n ms h e)
    by_next (Some u) e = let le = late u e in let d : u ≤ max n.time p.earliest =
        (due p u e).least i n ms h in omega arith

-- a push leaves no release sooner than there was, and than the message
pub push_later : (p new : Regulator) (index c : ℕ) (m : Queued)
    → Pushes (waiting_of p) index m (waiting_of new) → new.earliest ≡ p.earliest
    → ((u : ℕ) → next_time_of p ≡ Some u → c ≤ u) → c ≤ m.time →
    (t : ℕ) → next_time_of new ≡ Some t → c ≤ t
push_later p new index c m k earliest late come t e =
    let d = due new t e in
    let n = d.ready.0 in
    let h = d.ready.2.has in
    let early : n.time ≤ t = d.ready.2.come in
    let over : p.earliest ≤ t = (let a = d.after in omega arith) in
    let h' : slice_get (slice_set (waiting_of p) index (k.before ++ m ∷ [])) d.index
    ≡ Some (n ∷ d.ready.1) = subst
    (λ (z : List (List Queued)). slice_get z d.index ≡ Some (n ∷ d.ready.1)) k.after h in
    elim (cases_eq d.index index) [
      | inl same ↦ front k.before (n ∷ d.ready.1)
          (get_set_same (waiting_of p) index (k.before ++ m ∷ []) (n ∷ d.ready.1)
          (subst (λ (z : ℕ). slice_get (slice_set (waiting_of p) index (k.before ++ m ∷ [])) z
          ≡ Some (n ∷ d.ready.1)) same h')) k.has n d.ready.1 refl early over
      | inr ne ↦ old_next p d.index c t n d.ready.1
          (get_set_other (waiting_of p) index d.index (k.before ++ m ∷ []) (n ∷ d.ready.1) ne h')
          late early over
    ]
  where
    front : (before : List Queued) (n' : List Queued) → n' ≡ before ++ m ∷ []
        → HasQueue (waiting_of p) index before → (n : Queued) (rest : List Queued) → n' ≡ n ∷ rest
        → n.time ≤ t → p.earliest ≤ t → c ≤ t
    front [] n' e1 has n rest e2 early over = let f : n ∷ rest ≡ m ∷ [] = sym e2
        ∙ e1 in let g : n ≡ m = cc f in let a : n.time ≡ m.time = ap (λ z. z.time) g in omega arith
    front (b ∷ bs) n' e1 has n rest e2 early over = let f : n ∷ rest ≡ b ∷ (bs ++ m ∷ []) = sym e2
        ∙ e1 in let g : n ≡ b = cc f in let a : n.time ≡ b.time = ap (λ z. z.time) g in
        old_next p index c t b bs has late (omega arith) over

line_next : (w : SenderState) (place : ℕ) (line : SystemLink) → slice_get w.lines.items place ≡ Some line
    → slice_get (nexts_of w) place ≡ Some (next_time_of line.regulator)
line_next w place line has = slice_get-map (λ l. next_time_of l.regulator) w.lines.items place
    ∙ ap (λ z. option_map (λ l. next_time_of l.regulator) z) has

pub none_after : (w : SenderState) (place index c : ℕ) (line line' : SystemLink) (m : Queued)
    → slice_get w.lines.items place ≡ Some line → Takes line line' index m
    → NoneBefore (nexts_of w) c → c ≤ m.time →
    NoneBefore (map (λ l. next_time_of l.regulator) (slice_set w.lines.items place line')) c
none_after w place index c line line' m has k none come i u e =
    let f : SystemLink → Option ℕ = λ l. next_time_of l.regulator in
    let e' = subst (λ (z : List (Option ℕ)). slice_get z i ≡ Some (Some u)) (map-set f w.lines.items place line') e in
    elim (cases_eq i place) [
      | inl s ↦ push_later line.regulator line'.regulator index c m k.pushes k.earliest
          (λ v g. none place v (line_next w place line has ∙ ap (λ z. Some z) g)) come u
          (sym (get_set_same (nexts_of w) place (next_time_of line'.regulator) (Some u)
          (subst (λ (z : ℕ). slice_get (slice_set (nexts_of w) place
          (next_time_of line'.regulator)) z ≡ Some (Some u)) s e')))
      | inr ne ↦ none i u (get_set_other (nexts_of w) place i (next_time_of line'.regulator) (Some u) ne e')
    ]

-- a link takes a submission
pub record Adds (w : SenderState) (place index : ℕ) (line line' : SystemLink) (m : Queued) (ag : ReleaseAgenda) : Type
    0 where
  pub has : slice_get w.lines.items place ≡ Some line
  pub takes : Takes line line' index m
  pub early : m.time ≤ 1000000000000000
  pub clock : w.clock ≡ m.time
  pub played : IsPlayed ag
  pub agenda : nexts ag ≡ slice_set (nexts w.agenda) place (next_time_of line'.regulator)
  pub agenda_count : ag.count ≡ w.agenda.count

pub submission_stands : (w : SenderState) (h : SenderHistory) (place index : ℕ) (line line' : SystemLink)
    (m : Queued) (ag : ReleaseAgenda) → StandsFor w h → Adds w place index line line' m ag →
    StandsFor (record w { lines = with_item w.lines place line'; agenda = ag })
    (with_submission h place (submission_of (index + 1) m))
submission_stands w h place index line line' m ag st k =
    let f : SystemLink → Option ℕ = λ l. next_time_of l.regulator in
    let below' : place < length h.taken =
    (let a = slice_get_within w.lines.items place line k.has in let c = st.count in let l =
    st.lists in omega arith) in
    let s : Submission = submission_of (index + 1) m in
    let time : h.time ≡ m.time = sym st.clock ∙ k.clock in
    let before : AllByRecursion (λ x. x.release.time < m.time) st.released =
    before_longer h.time m.time st.released (omega arith) st.before in
    record {
      system_id = st.system_id;
      partition = st.partition;
      clock = k.clock;
      are_sent = st.are_sent;
      place_count = st.place_count;
      places = st.places;
      released = st.released;
      are_releases = all_stay h.links h.taken place s st.released below' before st.are_releases;
      before = before;
      count = length_set w.lines.items place line' ∙ st.count;
      lists = length_set h.taken place (own_submissions h.taken place ++ s ∷ []) ∙ st.lists;
      lines = λ i line1 l1 a b.
          elim (own_set h.taken place i (own_submissions h.taken place ++ s ∷ []) below'
          (cases_eq i place)) [
            | inl e ↦ (let a' = subst (λ (z : ℕ). slice_get
                (slice_set w.lines.items place line') z ≡ Some line1) e.0 a in
                let same : line1 ≡ line' = get_set_same w.lines.items place line' line1 a' in
                let b' = subst (λ (z : ℕ). slice_get h.links z ≡ Some l1) e.0 b in
                let stands = line_takes line line' index m l1 (own_submissions h.taken place)
                (own place st.released) k.takes (st.lines place line l1 k.has b') k.early
                (own_before place m.time st.released before)
                (λ q d g. (let c = st.come place q d g in omega arith)) in
                let one : LineStands line1 l1 (own_submissions h.taken place ++ s ∷ [])
                (own place st.released) = subst
                (λ (z : SystemLink). LineStands z l1 (own_submissions h.taken place ++ s ∷ [])
                (own place st.released)) (sym same) stands in
                let two : LineStands line1 l1 (own_submissions h.taken place ++ s ∷ [])
                (own i st.released) = subst (λ (z : ℕ).
                LineStands line1 l1 (own_submissions h.taken place ++ s ∷ []) (own z st.released))
                (sym e.0) one in
                subst (λ (z : List Submission). LineStands line1 l1 z (own i st.released)) (sym e.1) two)
            | inr e ↦ subst (λ (z : List Submission). LineStands line1 l1 z (own i st.released))
                (sym e.1) (st.lines i line1 l1 (get_set_other w.lines.items place i line' line1 e.0 a) b)
          ];
      come = λ i q d g. elim (own_set h.taken place i (own_submissions h.taken place ++ s ∷ [])
          below' (cases_eq i place)) [
            | inl e ↦ (let g' = subst (λ (z : List Submission). slice_get z q ≡ Some d) e.1 g in
                elim (slice_get-push_cases (own_submissions h.taken place) s q d g') [
                  | inl old ↦ (let c = st.come place q d old in omega arith)
                  | inr new ↦ (let c : d.time ≡ m.time = ap (λ z. z.time) new.1 in omega arith)
                ])
            | inr e ↦ (let g' = subst (λ (z : List Submission). slice_get z q ≡ Some d) e.1 g in let c =
                st.come i q d g' in omega arith)
          ];
      played = k.played;
      agenda = k.agenda ∙ ap (λ z. slice_set z place (next_time_of line'.regulator)) st.agenda
          ∙ sym (map-set f w.lines.items place line');
      agenda_count = k.agenda_count ∙ st.agenda_count ∙ sym (length_set w.lines.items place line');
      given = st.given;
      has_given = st.has_given;
      in_time = st.in_time;
      output = st.output;
      timely = none_after w place index w.output.clock line line' m k.has k.takes st.timely
          (let p = st.port_clock in omega arith);
      port_clock = (let p = st.port_clock in omega arith);
    }

pub stays_idle : (w : SenderState) (place index : ℕ) (line line' : SystemLink) (m : Queued) (ag : ReleaseAgenda)
    → Adds w place index line line' m ag → IsIdle w
    → IsIdle (record w { lines = with_item w.lines place line'; agenda = ag })
stays_idle w place index line line' m ag k idle = record {
  ready = idle.ready;
  quiet = idle.quiet;
  none = none_after w place index w.clock line line' m k.has k.takes idle.none (let e = k.clock in omega arith);
}

-- a refused push leaves the link as it was
pub record IsSame (line line' : SystemLink) : Type 0 where
  pub waiting : waiting_of line'.regulator ≡ waiting_of line.regulator
  pub bag : line'.regulator.bag ≡ line.regulator.bag
  pub served : line'.regulator.served ≡ line.regulator.served
  pub earliest : line'.regulator.earliest ≡ line.regulator.earliest
  pub vl : line'.vl ≡ line.vl
  pub least : line'.least ≡ line.least
  pub longest : line'.longest ≡ line.longest
  pub number : line'.number ≡ line.number

line_same : (line line' : SystemLink) (l : LinkRow) (ss : List Submission) (rs : List Release)
    → IsSame line line' → LineStands line l ss rs → LineStands line' l ss rs
line_same line line' l ss rs k st =
    let is = st.is_line in
    let g = st.regulates in
    let count : sub_count line'.regulator ≡ sub_count line.regulator =
    sym (length-map line'.regulator.queues.items (λ q. q.items)) ∙ ap length k.waiting
    ∙ length-map line.regulator.queues.items (λ q. q.items) in
    let held : held_by line'.regulator ≡ held_by line.regulator = ap (λ z. sum_by length z) k.waiting in
    record {
      is_line = record {
        vl = ap (λ z. z.0) k.vl ∙ is.vl;
        least = k.least ∙ is.least;
        longest = k.longest ∙ is.longest;
        bag = k.bag ∙ is.bag;
        subs = count ∙ is.subs;
      };
      regulates = record {
        are_releases = subst (λ (b : ℕ). AreReleases b (sub_count line'.regulator) ss rs)
            (sym k.bag) (subst (λ (n : ℕ). AreReleases line.regulator.bag n ss rs) (sym count)
            g.are_releases);
        earliest = k.earliest ∙ g.earliest ∙ ap (λ b. earliest_after b rs) (sym k.bag);
        served = k.served ∙ g.served;
        queues = λ i ms h. g.queues i ms (subst (λ (z : List (List Queued)). slice_get z i ≡ Some ms) k.waiting h);
        subs = λ i s h. (let r = g.subs i s h in (r.0, (let b = r.1 in omega arith)));
        in_order = g.in_order;
      };
      timely = record {
        limit = st.timely.limit;
        few = (let n : length (waiting_of line'.regulator) ≡ length (waiting_of line.regulator) =
            ap length k.waiting in let f = st.timely.few in omega arith);
        full = λ i ms h. st.timely.full i ms (subst (λ (z : List (List Queued)). slice_get z i ≡ Some ms) k.waiting h);
        balance = subst (λ (b : ℕ). line'.regulator.earliest + held_by line'.regulator * b
            ≤ 1000000000000000 + 257 * b) (sym k.bag)
            (subst (λ (n : ℕ). line'.regulator.earliest + n * line.regulator.bag
            ≤ 1000000000000000 + 257 * line.regulator.bag) (sym held)
            (subst (λ (n : ℕ). n + held_by line.regulator * line.regulator.bag
            ≤ 1000000000000000 + 257 * line.regulator.bag) (sym k.earliest) st.timely.balance));
      };
      fits = st.fits;
      messages = st.messages;
      number = k.number ∙ st.number;
    }

next_same : (line line' : SystemLink) → IsSame line line' → next_time_of line'.regulator ≡ next_time_of line.regulator
next_same line line' k =
    ap (λ q. option_map (λ t. max t line'.regulator.earliest) (first_time None q)) k.waiting
    ∙ ap (λ e. option_map (λ t. max t e) (first_time None (waiting_of line.regulator))) k.earliest

nexts_same : (w : SenderState) (place : ℕ) (line line' : SystemLink)
    → line ≡ slice_index_or w.lines.items place line → IsSame line line'
    → map (λ l. next_time_of l.regulator) (slice_set w.lines.items place line') ≡ nexts_of w
nexts_same w place line line' read k =
    map-set_same (λ l. next_time_of l.regulator) w.lines.items place line' line
    (next_same line line' k ∙ ap (λ z. next_time_of z.regulator) read)

pub same_stands : (w : SenderState) (h : SenderHistory) (place : ℕ) (line line' : SystemLink) → StandsFor w h
    → slice_get w.lines.items place ≡ Some line → line ≡ slice_index_or w.lines.items place line
    → IsSame line line' →
    StandsFor (record w { lines = with_item w.lines place line' }) h
same_stands w h place line line' st has read k = record {
  system_id = st.system_id;
  partition = st.partition;
  clock = st.clock;
  are_sent = st.are_sent;
  place_count = st.place_count;
  places = st.places;
  released = st.released;
  are_releases = st.are_releases;
  before = st.before;
  count = length_set w.lines.items place line' ∙ st.count;
  lists = st.lists;
  lines = λ i line1 l1 a b. elim (cases_eq i place) [
    | inl e ↦ (let same : line1 ≡ line' =
        get_set_same w.lines.items place line' line1
        (subst (λ (z : ℕ). slice_get (slice_set w.lines.items place line') z ≡ Some line1) e a) in
        let before : LineStands line l1 (own_submissions h.taken i) (own i st.released) =
        st.lines i line l1 (subst (λ (z : ℕ). slice_get w.lines.items z ≡ Some line) (sym e) has) b in
        subst (λ (z : SystemLink). LineStands z l1 (own_submissions h.taken i) (own i st.released))
        (sym same) (line_same line line' l1 (own_submissions h.taken i) (own i st.released) k before))
    | inr ne ↦ st.lines i line1 l1 (get_set_other w.lines.items place i line' line1 ne a) b
  ];
  come = st.come;
  played = st.played;
  agenda = st.agenda ∙ sym (nexts_same w place line line' read k);
  agenda_count = st.agenda_count ∙ sym (length_set w.lines.items place line');
  given = st.given;
  has_given = st.has_given;
  in_time = st.in_time;
  output = st.output;
  timely = subst (λ (z : List (Option ℕ)). NoneBefore z w.output.clock)
      (sym (nexts_same w place line line' read k)) st.timely;
  port_clock = st.port_clock;
}

pub same_idle : (w : SenderState) (place : ℕ) (line line' : SystemLink)
    → line ≡ slice_index_or w.lines.items place line → IsSame line line' → IsIdle w
    → IsIdle (record w { lines = with_item w.lines place line' })
same_idle w place line line' read k idle = record {
  ready = idle.ready;
  quiet = idle.quiet;
  none = subst (λ (z : List (Option ℕ)). NoneBefore z w.clock) (sym (nexts_same w place line line' read k)) idle.none;
}

-- a push adds one message
pub pushed_sum : (old new : List (List Queued)) (index : ℕ) (m : Queued) → Pushes old index m new
    → sum_by length new ≡ sum_by length old + 1
pushed_sum old new index m p =
    let s = sum_by-set length old index (p.before ++ m ∷ []) [] (slice_get_within old index p.before p.has) in
    let e = get_or_from_slice_get old index p.before [] p.has in
    let s' = rw e at s in
    let n = length_push p.before m in
    rw p.after (omega (arith, s', n))
  where
    length_push : (ms : List Queued) (x : Queued) → length (ms ++ x ∷ []) ≡ length ms + 1
    length_push [] x = refl
    length_push (y ∷ ys) x = (let r = length_push ys x in omega arith)

-- a queue has as many messages as submissions of its sub-VL aren't released
queue_raise : (ss : List Submission) (rs : List Release) (c from : ℕ) (ms : List Queued)
    → ((d : Submission) → IsUnreleased ss rs from d → d.sub ≡ c → ⊥) → IsQueue ss rs c from ms
    → IsQueue ss rs c (from + 1) ms
queue_raise ss rs c from [] none h = λ q d le w class. h q d (omega arith) w class
queue_raise ss rs c from (m ∷ ms) none h =
    let ne : h.0 ≢ from = λ e. none (submission_of c m)
    (subst (λ (z : ℕ). IsUnreleased ss rs z (submission_of c m)) e h.1.own) refl in
    let up : from ≤ h.0 = h.1.from_on in (
      h.0,
      record {
        from_on = omega arith;
        own = h.1.own;
        first = λ q d le w class. h.1.first q d (omega arith) w class;
      },
      h.2,
    )

eqb-not : (a b : ℕ) → (a == b) ≡ false → a ≡ b → ⊥
eqb-not a b h e = let k = eqb-same a b e in cc

eqb-is : (a b : ℕ) → (a == b) ≡ true → a ≡ b
eqb-is a b h = grind (arith, nat_tests, h)

pub count_is : (ss : List Submission) (rs : List Release) (c from : ℕ) (rest : List Submission)
    (ms : List Queued) → ((i : ℕ) → slice_get ss (i + from) ≡ slice_get rest i)
    → IsQueue ss rs c from ms → count_without rs c from rest ≡ length ms
count_is ss rs c from [] [] g h = refl
count_is ss rs c from [] (m ∷ ms) g h =
    absurd (let up : from ≤ h.0 = h.1.from_on in let e : (h.0 - from) + from ≡ h.0 = omega arith in
    let k : slice_get ss h.0 ≡ None = ap (λ z. slice_get ss z) (sym e) ∙ g (h.0 - from) in
    let f : Some (submission_of c m) ≡ None = sym h.1.own.stands ∙ k in cc f)
count_is ss rs c from (s ∷ rest) ms g h =
    by (has_release rs from) refl (s.sub == c) refl (λ qs q. count_is ss rs c (from + 1) rest qs g' q)
  where
    stands : slice_get ss from ≡ Some s
    stands = ap (λ z. slice_get ss z) zero_from ∙ g 0
      where
        zero_from : from ≡ 0 + from
        zero_from = omega arith

    g' : (i : ℕ) → slice_get ss (i + (from + 1)) ≡ slice_get rest i
    g' i = ap (λ z. slice_get ss z) (shift i) ∙ g (suc i)
      where
        shift : (i : ℕ) → i + (from + 1) ≡ suc i + from
        shift i = omega arith

    same : (d : Submission) → IsUnreleased ss rs from d → d ≡ s
    same d w = slice_get-one ss from d s w.stands stands

    by : (b : Bool) → has_release rs from ≡ b → (e : Bool) → (s.sub == c) ≡ e
        → ((qs : List Queued) → IsQueue ss rs c (from + 1) qs → count_without rs c (from + 1) rest
        ≡ length qs) →
        (if has_release rs from then 0 else if s.sub == c then 1 else 0) + count_without rs c
        (from + 1) rest ≡ length ms
    by true r e q rec = let k =
        rec ms (queue_raise ss rs c from ms
        (λ d w class. (let a = w.without in let b : true ≡ false = sym r ∙ a in cc b)) h) in
        rw r (omega arith)
    by false r false q rec = let k =
        rec ms (queue_raise ss rs c from ms
        (λ d w class. eqb-not s.sub c q (ap (λ z. z.sub) (sym (same d w)) ∙ class)) h) in
        rw r (rw q (omega arith))
    by false r true q rec = rw r (rw q (one ms h))
      where
        one : (ms : List Queued) → IsQueue ss rs c from ms → 1 + count_without rs c (from + 1) rest ≡ length ms
        one [] h = absurd (h from s (omega arith) (record { stands = stands; without = r }) (eqb-is s.sub c q))
        one (m ∷ ms) h =
            let le : h.0 ≤ from = h.1.first from s (omega arith)
            (record { stands = stands; without = r }) (eqb-is s.sub c q) in
            let up : from ≤ h.0 = h.1.from_on in
            let at : h.0 ≡ from = omega arith in
            let k = rec ms (subst (λ (z : ℕ). IsQueue ss rs c (z + 1) ms) at h.2) in omega arith

pub unreleased : (w : SenderState) (h : SenderHistory) (st : StandsFor w h) (place index : ℕ) (line : SystemLink)
    (l : LinkRow) (ms : List Queued) → IsIdle w
    → LineStands line l (own_submissions h.taken place) (own place st.released) →
    HasQueue (waiting_of line.regulator) index ms → AreUnreleased h w.clock place (index + 1) (length ms)
unreleased w h st place index line l ms idle ls has = (
  st.released,
  record {
    are_releases = st.are_releases;
    before = subst (λ (t : ℕ). AllByRecursion (λ x. x.release.time < t) st.released) (sym st.clock) st.before;
    no_more = none_before w h st w.clock idle.none;
  },
  count_is (own_submissions h.taken place) (own place st.released) (index + 1) 0
      (own_submissions h.taken place) ms
      (λ i. ap (λ z. slice_get (own_submissions h.taken place) z) (plus_zero i))
      (ls.regulates.queues index ms has),
)
  where
    plus_zero : (i : ℕ) → i + 0 ≡ i
    plus_zero i = omega arith

pub frames_more : (w : SenderState) (place : ℕ) (line line' : SystemLink) (ag : ReleaseAgenda)
    → slice_get w.lines.items place ≡ Some line → held_by line'.regulator ≡ held_by line.regulator + 1 →
    HoldsMore w (record w { lines = with_item w.lines place line'; agenda = ag })
frames_more w place line line' ag has one = let m = held_more w place line line' has one in
    record { more = omega (arith, m) }

queue_at : (line : SystemLink) (index : ℕ) → index < sub_count line.regulator → (ms : List Queued)
    × HasQueue (waiting_of line.regulator) index ms
queue_at line index lt = (
  slice_index_or (waiting_of line.regulator) index [],
  slice_get-get_or (waiting_of line.regulator) index []
      (omega (arith, length-map line.regulator.queues.items (λ q. q.items))),
)

-- why a line refuses a message is why its sender does
pub refuses : (w : SenderState) (h : SenderHistory) (st : StandsFor w h) (place vl sub n : ℕ) (line : SystemLink)
    (fault : SendFault) → IsIdle w → IsPlaceOf h.links vl (Some place)
    → slice_get w.lines.items place ≡ Some line →
    LineRefuses line sub n fault → IsRefused h w.clock vl sub n fault
refuses w h st place vl sub n line NotMyLink idle p has r = absurd r
refuses w h st place vl sub n line NoSuchSub idle p has r =
    let is = (st.lines place line p.0 has p.1).is_line.subs in
    (place, p.0, (p.1, p.2), elim r [ inl z ↦ inl z | inr lt ↦ inr (omega arith) ])
refuses w h st place vl sub n line Empty idle p has r =
    let is = (st.lines place line p.0 has p.1).is_line.subs in
    (place, p.0, (p.1, p.2), (r.0.0, (let a = r.0.1 in omega arith)), r.1)
refuses w h st place vl sub n line TooLarge idle p has r =
    let is = (st.lines place line p.0 has p.1).is_line in
    let subs = is.subs in
    let long = is.longest in
    (place, p.0, (p.1, p.2), (r.0.0, (let a = r.0.1 in omega arith)), r.1, (let a = r.2 in omega arith))
refuses w h st place vl zero n line QueueFull idle p has r = absurd (let a = r.0.0 in omega arith)
refuses w h st place vl (suc index) n line QueueFull idle p has r =
    let ls = st.lines place line p.0 has p.1 in
    let subs = ls.is_line.subs in
    let long = ls.is_line.longest in
    let q = queue_at line index (let a = r.0.1 in omega arith) in
    let u = unreleased w h st place index line p.0 q.0 idle ls q.1 in
    let at : index + 1 ≡ suc index = omega arith in (
      place,
      p.0,
      (p.1, p.2),
      (r.0.0, (let a = r.0.1 in omega arith)),
      r.1,
      (let a = r.2 in omega arith),
      (
        length q.0,
        subst (λ (z : ℕ). AreUnreleased h w.clock place z (length q.0)) at u,
        r.3 index q.0 at q.1,
      ),
    )
refuses w h st place vl sub n line Memory idle p has r = absurd r

-- what a line admits its link admits
pub admits : (w : SenderState) (h : SenderHistory) (st : StandsFor w h) (place vl sub n : ℕ)
    (line : SystemLink) → IsIdle w → IsPlaceOf h.links vl (Some place) → slice_get w.lines.items place
    ≡ Some line → LineAdmits line sub n → LinkTakes h w.clock place vl sub n
admits w h st place vl zero n line idle p has a = absurd (let b = a.is_sub.0 in omega arith)
admits w h st place vl (suc index) n line idle p has a =
    let ls = st.lines place line p.0 has p.1 in
    let subs = ls.is_line.subs in
    let long = ls.is_line.longest in
    let q = queue_at line index (let b = a.is_sub.1 in omega arith) in
    let u = unreleased w h st place index line p.0 q.0 idle ls q.1 in
    let at : index + 1 ≡ suc index = omega arith in
    record {
      row = p.0;
      link = (p.1, p.2);
      sub = (omega arith, (let b = a.is_sub.1 in omega arith));
      some = a.some;
      fits = (let b = a.fits in omega arith);
      count = length q.0;
      unreleased = subst (λ (z : ℕ). AreUnreleased h w.clock place z (length q.0)) at u;
      room = a.room index q.0 (omega arith) q.1;
    }

pub place_below : (w : SenderState) (h : SenderHistory) (vl place : ℕ) → StandsFor w h
    → IsPlaceOf h.links vl (Some place) → place < length w.lines.items
place_below w h vl place st p = let a = slice_get_within h.links place p.0 p.1 in let c = st.count in omega arith

pub submission_is : (m : Queued) (index sub time udp : ℕ) (payload : List ℕ) → index + 1 ≡ sub
    → m.time ≡ time → m.udp ≡ udp → m.payload.items ≡ payload → submission_of (index + 1) m
    ≡ submission time sub udp payload
submission_is m index sub time udp payload a b c d =
    ap (λ z. submission m.time z m.udp m.payload.items) a
    ∙ ap (λ z. submission z sub m.udp m.payload.items) b
    ∙ ap (λ z. submission time sub z m.payload.items) c ∙ ap (λ z. submission time sub udp z) d

pub can_take : (line : SystemLink) (index sub : ℕ) (m : Queued) (n : ℕ) → LineAdmits line sub n
    → index + 1 ≡ sub → length m.payload.items ≡ n → m.udp < 2 ^ 16 → AreBytes m.payload.items
    → CanTake line index m
can_take line index sub m n a e k udp bytes = record {
  message = record { some = (let b = a.some in omega (arith, b, k)); udp = udp; bytes = bytes };
  within = (let b = a.is_sub.1 in omega arith);
  fits = (let b = a.fits in omega arith);
  room = λ ms h. a.room index ms e h;
}

pub frames_same : (w : SenderState) (place : ℕ) (line line' : SystemLink) → slice_get w.lines.items place
    ≡ Some line → IsSame line line' → HoldsSame w (record w { lines = with_item w.lines place line' })
frames_same w place line line' has k =
    let f : SystemLink → ℕ = λ l. held_by l.regulator in
    let s = sum_by-set f w.lines.items place line' line (slice_get_within w.lines.items place line has) in
    let e = get_or_from_slice_get w.lines.items place line line has in
    let s' = rw e at s in
    let h : held_by line'.regulator ≡ held_by line.regulator = ap (λ z. sum_by length z) k.waiting in
    record { same = omega (arith, s', h) }
