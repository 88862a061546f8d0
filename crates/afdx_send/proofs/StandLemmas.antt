-- What a step does to the calls that a sender stands for.
use Rattle.std.proofs.Common.{◌≡◌, ℕ, ◌+◌, ◌/◌, ◌<◌, ◌≤◌, option_map, Bool, true, false}
use Rattle.std.proofs.Common.{if◌then◌else◌, List, [], ◌∷◌, ◌++◌, length, Option, Some, None}
use Rattle.std.proofs.Common.{IfSome, IfNone, inl, inr, refl, sym, ap, subst, arith, ◌∙◌, suc, zero}
use Rattle.std.proofs.Common.{slice_set, slice_index_or, map, sum_by}
use Rattle.std.specs.List.{slice_get}
use Rattle.std.proofs.lemmas.List.{map-set, length-map}
use Rattle.std.proofs.lemmas.List.Sums.{sum_by-set}
use Rattle.std.specs.Vec.{with_item}
use Rattle.std.proofs.lemmas.Option.{get_or_from_slice_get, slice_get_within, slice_get-map, slice_get-get_or}
use Rattle.std.proofs.lemmas.Bool.{cases_eq}
use Rattle.afdx_admit.proofs.SmallLemmas.{is_gap}
use Rattle.afdx_frame.specs.declared.link.Priority.TheVariants.{Low}
use Rattle.afdx_frame.specs.Regulation.{bag}
use Rattle.afdx_frame.proofs.ListLemmas.{slice_get-one}
use Rattle.afdx_config.specs.Flows.{regulation_of_link}
use Rattle.afdx_config.specs.Admission.{byte_ns}
use Rattle.afdx_config.specs.Lawful.{IsLink}
use Rattle.afdx_config.specs.Numbers.{after_steps}
use Rattle.afdx_config.specs.Rows.{LinkRow}
use Rattle.afdx_config.specs.SentList.{Message}
use Rattle.afdx_port.specs.Schedule as slots
use Rattle.afdx_port.specs.History as port
use Rattle.afdx_port.specs.declared.left.Left.{Left}
use Rattle.afdx_port.specs.declared.port_state.PortState.{PortState}
use Rattle.afdx_send.specs.declared.agenda.ReleaseAgenda.{ReleaseAgenda}
use Rattle.afdx_send.specs.declared.line.SystemLink.{SystemLink}
use Rattle.afdx_send.specs.declared.sender_state.SenderState.{SenderState}
use Rattle.afdx_send.specs.Agenda.{NoneBefore, IsPlayed, IsSoonest, nexts}
use Rattle.afdx_send.specs.Emissions.{LinkRelease, own, own_submissions, IsNextOf, IsNextOfAll}
use Rattle.afdx_send.specs.Emissions.{released_frame, entry_for, entries_of}
use Rattle.afdx_send.specs.Frames.{Frame, numbered_frame, facts}
use Rattle.afdx_send.specs.Lines.{LineStands, LineReleases, held_by}
use Rattle.afdx_send.specs.Regulator.{next_time_of, sub_count}
use Rattle.afdx_send.specs.Releases.{Submission, Release, IsNext}
use Rattle.afdx_send.specs.Sender.{SenderHistory, at, HasGiven, messages_held, nexts_of, port_history, StandsFor}
use Rattle.afdx_send.proofs.LineLemmas.{limited, time_limit, mul_most}
use Rattle.afdx_send.proofs.OwnLemmas.{own_mine, own_other, before_longer}
use Rattle.afdx_send.proofs.ReleaseLemmas.{get_set_same, get_set_other, length_set, next_time_is}

pub read_at : {Y : Type 0} (xs : List Y) (i : ℕ) (x : Y) → i < length xs → x ≡ slice_index_or xs i x
    → slice_get xs i ≡ Some x
read_at xs i x lt e = slice_get-get_or xs i x lt ∙ ap (λ z. Some z) (sym e)

-- the last time used moves on
pub later : (w : SenderState) (h : SenderHistory) (t : ℕ) → h.time ≤ t → StandsFor w h
    → StandsFor (record w { clock = t }) (at h t)
later w h t le st = record {
  system_id = st.system_id;
  partition = st.partition;
  clock = refl;
  are_sent = st.are_sent;
  place_count = st.place_count;
  places = st.places;
  released = st.released;
  are_releases = st.are_releases;
  before = before_longer h.time t st.released le st.before;
  count = st.count;
  lists = st.lists;
  lines = st.lines;
  come = λ i place s g. (let k = st.come i place s g in omega arith);
  played = st.played;
  agenda = st.agenda;
  agenda_count = st.agenda_count;
  given = st.given;
  has_given = st.has_given;
  in_time = st.in_time;
  output = st.output;
  timely = st.timely;
  port_clock = (let k = st.port_clock in omega arith);
}

by_end : (b : Bool) (e u : ℕ) → e + (if b then 1 else 0) ≤ u → e ≤ u
by_end true e u h = omega arith
by_end false e u h = omega arith

-- the port gives its next frame, or none
pub take_stands : (w : SenderState) (r : Option (Left Frame)) (out : PortState Frame) (until : ℕ)
    → w.ready ≡ None → out.clock ≡ until → until ≤ w.clock → NoneBefore (nexts_of w) until →
    ((hp : port.PortHistory Frame) → port.StandsFor facts w.output hp
    → IfSome r (λ left. port.Gives facts hp until left out)) →
    ((hp : port.PortHistory Frame) → port.StandsFor facts w.output hp
    → IfNone r (port.StandsFor facts out (port.at hp until))) →
    (h : SenderHistory) → StandsFor w h → StandsFor (record w { output = out; ready = r }) h
take_stands w None out until idle clock early timely given none h st = record {
  system_id = st.system_id;
  partition = st.partition;
  clock = st.clock;
  are_sent = st.are_sent;
  place_count = st.place_count;
  places = st.places;
  released = st.released;
  are_releases = st.are_releases;
  before = st.before;
  count = st.count;
  lists = st.lists;
  lines = st.lines;
  come = st.come;
  played = st.played;
  agenda = st.agenda;
  agenda_count = st.agenda_count;
  given = st.given;
  has_given = subst (λ (o : Option (Left Frame)). HasGiven o h.emitted st.given) idle st.has_given;
  in_time = λ l e. absurd (cc e);
  output = subst (λ (t : ℕ). port.StandsFor facts out (port_history h st.released st.given t))
      (sym clock) (none (port_history h st.released st.given w.output.clock) st.output);
  timely = subst (λ (t : ℕ). NoneBefore (nexts_of w) t) (sym clock) timely;
  port_clock = (let k = st.clock in omega arith);
}
take_stands w (Some left) out until idle clock early timely given none h st =
    let g = given (port_history h st.released st.given w.output.clock) st.output in
    let before : st.given ≡ h.emitted =
    subst (λ (o : Option (Left Frame)). HasGiven o h.emitted st.given) idle st.has_given in
    record {
      system_id = st.system_id;
      partition = st.partition;
      clock = st.clock;
      are_sent = st.are_sent;
      place_count = st.place_count;
      places = st.places;
      released = st.released;
      are_releases = st.are_releases;
      before = st.before;
      count = st.count;
      lists = st.lists;
      lines = st.lines;
      come = st.come;
      played = st.played;
      agenda = st.agenda;
      agenda_count = st.agenda_count;
      given = g.turn ∷ st.given;
      has_given = (g.turn, ap (λ z. g.turn ∷ z) before, g.is);
      in_time = λ l e. (let same : left ≡ l = cc e in let end : left.end ≡ g.turn.end =
          ap (λ z. z.end) g.is in let end' : left.end ≡ l.end = ap (λ z. z.end) same in
          let le : g.turn.end ≤ until = by_end g.turn.too_old g.turn.end until g.in_time in omega arith);
      output = subst (λ (t : ℕ). port.StandsFor facts out
          (port_history h st.released (g.turn ∷ st.given) t)) (sym clock) g.stands;
      timely = subst (λ (t : ℕ). NoneBefore (nexts_of w) t) (sym clock) timely;
      port_clock = (let k = st.clock in omega arith);
    }

-- the line and the row of one place
pub record IsAt (w : SenderState) (h : SenderHistory) (st : StandsFor w h) (place : ℕ) (line : SystemLink) : Type 0
  where
    pub row : LinkRow
    pub link : slice_get h.links place ≡ Some row
    pub stands : LineStands line row (own_submissions h.taken place) (own place st.released)
    pub systems : ℕ
    pub lawful : IsLink systems row

pub line_at : (w : SenderState) (h : SenderHistory) (st : StandsFor w h) (place : ℕ) (line : SystemLink)
    → slice_get w.lines.items place ≡ Some line → IsAt w h st place line
line_at w h st place line has =
    let below : place < length h.links =
    (let k = slice_get_within w.lines.items place line has in let c = st.count in omega arith) in
    by_row (slice_get h.links place) refl below
  where
    by_row : (o : Option LinkRow) → slice_get h.links place ≡ o → place < length h.links → IsAt w h st place line
    by_row None e lt = absurd (none h.links place lt e)
      where
        none : (xs : List LinkRow) (i : ℕ) → i < length xs → slice_get xs i ≡ None → ⊥
        none [] i lt e = omega arith
        none (x ∷ xs) zero lt e = cc e
        none (x ∷ xs) (suc i) lt e = none xs i (omega arith) e
    by_row (Some l) e lt = let k = st.are_sent.lawful place l e in
        record { row = l; link = e; stands = st.lines place line l has e; systems = k.0; lawful = k.1 }

-- its next release is the link's next
pub next_at : (w : SenderState) (h : SenderHistory) (st : StandsFor w h) (i : ℕ) (l : LinkRow) (r : Release)
    → slice_get h.links i ≡ Some l → IsNextOf h.taken st.released i l r → slice_get (nexts_of w) i
    ≡ Some (Some r.time)
next_at w h st i l r g n = by_line (slice_get w.lines.items i) refl
  where
    none : (xs : List SystemLink) (j : ℕ) → j < length xs → slice_get xs j ≡ None → ⊥
    none [] j lt e = omega arith
    none (x ∷ xs) zero lt e = cc e
    none (x ∷ xs) (suc j) lt e = none xs j (omega arith) e

    by_line : (o : Option SystemLink) → slice_get w.lines.items i ≡ o → slice_get (nexts_of w) i ≡ Some (Some r.time)
    by_line None e = absurd (none w.lines.items i
        (let k = slice_get_within h.links i l g in let c = st.count in omega arith) e)
    by_line (Some line) e =
        let ls = st.lines i line l e g in
        let n' : IsNext line.regulator.bag (sub_count line.regulator) (own_submissions h.taken i)
        (own i st.released) r =
        subst (λ (b : ℕ). IsNext b (sub_count line.regulator) (own_submissions h.taken i)
        (own i st.released) r) (sym ls.is_line.bag)
        (subst (λ (k : ℕ). IsNext (bag (regulation_of_link l)) k (own_submissions h.taken i)
        (own i st.released) r) (sym ls.is_line.subs) n) in
        slice_get-map (λ l. next_time_of l.regulator) w.lines.items i
        ∙ ap (λ z. option_map (λ l. next_time_of l.regulator) z) e
        ∙ ap (λ z. Some z) (next_time_is line.regulator (own_submissions h.taken i)
        (own i st.released) r ls.regulates n')

-- the next release of all
pub next_of_all : (w : SenderState) (h : SenderHistory) (st : StandsFor w h) (t place : ℕ) (line : SystemLink)
    (l : LinkRow) (f : Frame) (new : SystemLink) → IsSoonest (nexts_of w) t place →
    slice_get h.links place ≡ Some l
    → (k : LineReleases line l (own_submissions h.taken place) (own place st.released) t f new) →
    IsNextOfAll h.links h.taken st.released (record { place = place; row = l; release = k.r })
next_of_all w h st t place line l f new s row k = record {
  stands = row;
  next = k.next;
  soonest = λ i m r g n. (let b = s.soonest i r.time (next_at w h st i m r g n) in let e = k.at in omega arith);
  first = λ i m r g n e. s.first i
      (subst (λ (z : ℕ). slice_get (nexts_of w) i ≡ Some (Some z)) (e ∙ k.at) (next_at w h st i m r g n));
}

-- no link releases before the last time used: so none releases before it that isn't released yet
pub none_before : (w : SenderState) (h : SenderHistory) (st : StandsFor w h) (t : ℕ)
    → NoneBefore (nexts_of w) t → (i : ℕ) (l : LinkRow) (r : Release) → slice_get h.links i ≡ Some l
    → IsNextOf h.taken st.released i l r → t ≤ r.time
none_before w h st t none i l r g n = none i r.time (next_at w h st i l r g n)

-- each link stands as before, but for the one that released
line_after : (w : SenderState) (h : SenderHistory) (st : StandsFor w h) (place : ℕ) (line' : SystemLink)
    (l : LinkRow) (r : Release) → slice_get h.links place ≡ Some l →
    LineStands line' l (own_submissions h.taken place) (r ∷ own place st.released) →
    (i : ℕ) (line1 : SystemLink) (l1 : LinkRow) → slice_get (slice_set w.lines.items place line') i
    ≡ Some line1 → slice_get h.links i ≡ Some l1 →
    LineStands line1 l1 (own_submissions h.taken i)
    (own i (record { place = place; row = l; release = r } ∷ st.released))
line_after w h st place line' l r row stands i line1 l1 a b =
    let x : LinkRelease = record { place = place; row = l; release = r } in
    elim (cases_eq i place) [
      | inl e ↦ (let same : line1 ≡ line' =
          get_set_same w.lines.items place line' line1
          (subst (λ (z : ℕ). slice_get (slice_set w.lines.items place line') z ≡ Some line1) e a) in
          let row_same : l ≡ l1 = slice_get-one h.links place l l1 row
          (subst (λ (z : ℕ). slice_get h.links z ≡ Some l1) e b) in
          let one : LineStands line' l (own_submissions h.taken place)
          (own place (x ∷ st.released)) =
          subst (λ (z : List Release). LineStands line' l (own_submissions h.taken place) z)
          (sym (own_mine x st.released)) stands in
          let two : LineStands line1 l (own_submissions h.taken place)
          (own place (x ∷ st.released)) =
          subst (λ (z : SystemLink). LineStands z l (own_submissions h.taken place)
          (own place (x ∷ st.released))) (sym same) one in
          let three : LineStands line1 l1 (own_submissions h.taken place)
          (own place (x ∷ st.released)) =
          subst (λ (z : LinkRow). LineStands line1 z (own_submissions h.taken place)
          (own place (x ∷ st.released))) row_same two in
          subst (λ (z : ℕ). LineStands line1 l1 (own_submissions h.taken z) (own z (x ∷ st.released))) (sym e) three)
      | inr ne ↦ subst (λ (z : List Release). LineStands line1 l1 (own_submissions h.taken i) z)
          (sym (own_other i x st.released ne))
          (st.lines i line1 l1 (get_set_other w.lines.items place i line' line1 ne a) b)
    ]

-- after it, no link releases before its time
timely_after : (w : SenderState) (time place : ℕ) (line' : SystemLink) → IsSoonest (nexts_of w) time place
    → ((t : ℕ) → next_time_of line'.regulator ≡ Some t → time ≤ t) →
    NoneBefore (map (λ l. next_time_of l.regulator) (slice_set w.lines.items place line')) time
timely_after w time place line' soonest later i u e =
    let f : SystemLink → Option ℕ = λ l. next_time_of l.regulator in
    let e' = subst (λ (z : List (Option ℕ)). slice_get z i ≡ Some (Some u)) (map-set f w.lines.items place line') e in
    elim (cases_eq i place) [
      | inl k ↦ later u (sym (get_set_same (nexts_of w) place (next_time_of line'.regulator)
          (Some u) (subst (λ (z : ℕ). slice_get
          (slice_set (nexts_of w) place (next_time_of line'.regulator)) z ≡ Some (Some u)) k e')))
      | inr ne ↦ soonest.soonest i u (get_set_other (nexts_of w) place i (next_time_of line'.regulator) (Some u) ne e')
    ]

-- the line that is read is the one that releases next
pub record IsDueLine (w : SenderState) (time place : ℕ) (line : SystemLink) : Type 0 where
  pub below : place < length w.lines.items
  pub has : slice_get w.lines.items place ≡ Some line
  pub due : next_time_of line.regulator ≡ Some time

pub due_place : (w : SenderState) (time place : ℕ) → IsSoonest (nexts_of w) time place → place < length w.lines.items
due_place w time place soonest =
    omega (
      arith,
      slice_get_within (nexts_of w) place (Some time) soonest.own,
      length-map w.lines.items (λ l. next_time_of l.regulator),
    )

pub line_read : (w : SenderState) (time place : ℕ) (line : SystemLink) → IsSoonest (nexts_of w) time place
    → line ≡ slice_index_or w.lines.items place line → IsDueLine w time place line
line_read w time place line soonest read =
    let below = due_place w time place soonest in
    let has = read_at w.lines.items place line below read in
    let is : slice_get (nexts_of w) place ≡ Some (next_time_of line.regulator) =
    slice_get-map (λ l. next_time_of l.regulator) w.lines.items place
    ∙ ap (λ z. option_map (λ l. next_time_of l.regulator) z) has in
    record {
      below = below;
      has = has;
      due = slice_get-one (nexts_of w) place (next_time_of line.regulator) (Some time) is soonest.own;
    }

-- and it is within the limits of the port
pub record IsInLimits (line : SystemLink) (time : ℕ) : Type 0 where
  pub gap : line.regulator.bag ≤ 128000000
  pub limit : time ≤ 1000032768000000

pub in_limits : (w : SenderState) (h : SenderHistory) (time place : ℕ) (line : SystemLink) → StandsFor w h
    → IsDueLine w time place line → IsInLimits line time
in_limits w h time place line st d =
    let k = line_at w h st place line d.has in
    let gap = is_gap k.row.bag_ms k.lawful.bag_ms in
    let most = mul_most 1 (128 / k.row.bag_ms) k.row.bag_ms gap.often in
    let whole = gap.whole in
    let is = k.stands.is_line.bag in
    let small : line.regulator.bag ≤ 128000000 = omega arith in
    record {
      gap = small;
      limit =
          time_limit line.regulator time small
          (limited line.regulator (own_submissions h.taken place) (own place st.released) time
          k.stands.regulates k.stands.timely d.due);
    }

frame_is : (f : Frame) (vl least number : ℕ) (m : Message) → f.vl ≡ vl → f.least ≡ least
    → f.number ≡ number → f.message ≡ m → f ≡ numbered_frame vl least number m.udp m.payload
frame_is f vl least number m a b c d =
    ap (λ z. record f { vl = z }) a ∙ ap (λ z. record f { vl = vl; least = z }) b
    ∙ ap (λ z. record f { vl = vl; least = least; number = z }) c
    ∙ ap (λ z. record { vl = vl; least = least; number = number; message = z }) d

-- what a release is put into the port as
pub entry_is : (line : SystemLink) (l : LinkRow) (ss : List Submission) (rs : List Release)
    (place time : ℕ) (f : Frame) (new : SystemLink) → LineStands line l ss rs
    → (k : LineReleases line l ss rs time f new) →
    f.vl ≡ line.vl.0 → f.least ≡ line.least → f.number ≡ line.number
    → port.entry_of facts time Low f
    ≡ entry_for (record { place = place; row = l; release = k.r }) (length rs)
entry_is line l ss rs place time f new st k vl least number =
    let is = st.is_line in
    let e : f ≡ released_frame l (length rs) k.r =
    frame_is f l.vl l.lmin (after_steps (length rs) 0) k.r.submission.message (vl ∙ is.vl)
    (least ∙ is.least) (number ∙ st.number) k.message in
    ap (λ z. port.entry_of facts time Low z) e
    ∙ ap (λ z. port.entry_of facts z Low (released_frame l (length rs) k.r)) (sym k.at)

-- the next release of all enters the port
pub record Releases (w : SenderState) (time place : ℕ) (line line' : SystemLink) (f : Frame) (ag : ReleaseAgenda)
    (out : PortState Frame) : Type 0 where
  pub idle : w.ready ≡ None
  pub soonest : IsSoonest (nexts_of w) time place
  pub early : time < w.clock
  pub due : IsDueLine w time place line
  pub vl : f.vl ≡ line.vl.0
  pub least : f.least ≡ line.least
  pub number : f.number ≡ line.number
  pub releases : (l : LinkRow) (ss : List Submission) (rs : List Release) → LineStands line l ss rs
      → LineReleases line l ss rs time f line'
  pub later : (t : ℕ) → next_time_of line'.regulator ≡ Some t → time ≤ t
  pub played : IsPlayed ag
  pub agenda : nexts ag ≡ slice_set (nexts w.agenda) place (next_time_of line'.regulator)
  pub agenda_count : ag.count ≡ w.agenda.count
  pub clock : out.clock ≡ time
  pub put : (hp : port.PortHistory Frame) → port.StandsFor facts w.output hp
      → port.StandsFor facts out (port.with_put hp (port.entry_of facts time Low f))

pub release_stands : (w : SenderState) (h : SenderHistory) (time place : ℕ) (line line' : SystemLink) (f : Frame)
    (ag : ReleaseAgenda) (out : PortState Frame) → StandsFor w h → Releases w time place line line' f ag out →
    StandsFor (record w { lines = with_item w.lines place line'; agenda = ag; output = out }) h
release_stands w h time place line line' f ag out st q =
    let a = line_at w h st place line q.due.has in
    let l = a.row in
    let k = q.releases l (own_submissions h.taken place) (own place st.released) a.stands in
    let x : LinkRelease = record { place = place; row = l; release = k.r } in
    let e = entry_is line l (own_submissions h.taken place) (own place st.released) place time f
    line' a.stands k q.vl q.least q.number in
    let g : SystemLink → Option ℕ = λ l. next_time_of l.regulator in
    record {
      system_id = st.system_id;
      partition = st.partition;
      clock = st.clock;
      are_sent = st.are_sent;
      place_count = st.place_count;
      places = st.places;
      released = x ∷ st.released;
      are_releases = (next_of_all w h st time place line l f line' q.soonest a.link k, st.are_releases);
      before = ((let i = k.at in let c = st.clock in let b = q.early in omega arith), st.before);
      count = length_set w.lines.items place line' ∙ st.count;
      lists = st.lists;
      lines = λ i line1 l1 c d. line_after w h st place line' l k.r a.link k.stands i line1 l1 c d;
      come = st.come;
      played = q.played;
      agenda = q.agenda ∙ ap (λ z. slice_set z place (next_time_of line'.regulator)) st.agenda
          ∙ sym (map-set g w.lines.items place line');
      agenda_count = q.agenda_count ∙ st.agenda_count ∙ sym (length_set w.lines.items place line');
      given = st.given;
      has_given = st.has_given;
      in_time = λ left i. absurd (let none : Some left ≡ None = sym i ∙ q.idle in cc none);
      output = subst (λ (t : ℕ). port.StandsFor facts out (port_history h (x ∷ st.released) st.given t)) (sym q.clock)
          (subst (λ (z : slots.Entry Frame). port.StandsFor facts out
          (record {
            byte_ns = byte_ns h.system;
            buffer = 65536;
            entries = entries_of st.released ++ z ∷ [];
            taken = st.given;
            time = time;
          })) e
          (q.put (port_history h st.released st.given w.output.clock) st.output));
      timely = subst (λ (t : ℕ). NoneBefore (map g (slice_set w.lines.items place line')) t)
          (sym q.clock) (timely_after w time place line' q.soonest q.later);
      port_clock = (let c = st.clock in let b = q.early in let d = q.clock in omega arith);
    }

-- each release takes one message
pub held_after : (w : SenderState) (place : ℕ) (line line' : SystemLink) → slice_get w.lines.items place
    ≡ Some line → held_by line'.regulator + 1 ≡ held_by line.regulator →
    sum_by (λ l. held_by l.regulator) (slice_set w.lines.items place line') + 1 ≡ messages_held w
held_after w place line line' has one =
    let f : SystemLink → ℕ = λ l. held_by l.regulator in
    let s = sum_by-set f w.lines.items place line' line (slice_get_within w.lines.items place line has) in
    let e = get_or_from_slice_get w.lines.items place line line has in
    let s' = rw e at s in
    omega arith

pub held_more : (w : SenderState) (place : ℕ) (line line' : SystemLink) → slice_get w.lines.items place
    ≡ Some line → held_by line'.regulator ≡ held_by line.regulator + 1 →
    sum_by (λ l. held_by l.regulator) (slice_set w.lines.items place line') ≡ messages_held w + 1
held_more w place line line' has one =
    let f : SystemLink → ℕ = λ l. held_by l.regulator in
    let s = sum_by-set f w.lines.items place line' line (slice_get_within w.lines.items place line has) in
    let e = get_or_from_slice_get w.lines.items place line line has in
    let s' = rw e at s in
    omega arith
