-- What a sender emits next, and that it emits all.
use Rattle.std.proofs.Common.{◌≡◌, ℕ, ◌+◌, ◌*◌, ◌<◌, ◌≤◌, Bool, true, false, if◌then◌else◌, List}
use Rattle.std.proofs.Common.{[], ◌∷◌, ◌++◌, length, Option, Some, None, ◌⊎◌, inl, inr, refl, sym}
use Rattle.std.proofs.Common.{ap, subst, arith, ◌∙◌, suc, zero}
use Rattle.std.specs.Prelude.{◌↔◌, is_some}
use Rattle.std.specs.List.{slice_get}
use Rattle.std.proofs.lemmas.Option.{slice_get_within}
use Rattle.std.proofs.lemmas.List.{append-nil}
use Rattle.afdx_frame.specs.declared.link.Priority.TheVariants.{High, Low}
use Rattle.afdx_frame.specs.declared.link.Side.{Side}
use Rattle.afdx_frame.specs.declared.link.Side.TheVariants.{A, B}
use Rattle.afdx_frame.specs.Grammar.{built_frame}
use Rattle.afdx_config.specs.Admission.{byte_ns}
use Rattle.afdx_config.specs.Rows.{LinkRow}
use Rattle.afdx_port.specs.Due.{IsAfter}
use Rattle.afdx_port.specs.Held as held
use Rattle.afdx_port.specs.History as port
use Rattle.afdx_port.specs.History.{due_at}
use Rattle.afdx_port.specs.Schedule.{Entry, Turn, IsNext, AreTurns, is_past, lasting}
use Rattle.afdx_port.specs.ScheduleOf.{AreInOrder}
use Rattle.afdx_port.specs.declared.left.Left.{Left}
use Rattle.afdx_port.specs.declared.port_state.PortState.{PortState}
use Rattle.afdx_send.specs.declared.line.SystemLink.{SystemLink}
use Rattle.afdx_send.specs.declared.sender.Emission.{Emission}
use Rattle.afdx_send.specs.declared.sender_state.SenderState.{SenderState}
use Rattle.afdx_send.specs.Emissions.{LinkRelease, own, AreAllReleases, IsNextOf, entry_for, entries_of, IsSending}
use Rattle.afdx_send.specs.Frames.{Frame, IsReadAs, facts, address_with}
use Rattle.afdx_send.specs.Releases.{Submission, Release}
use Rattle.afdx_send.specs.Sender.{SenderHistory, at, HasGiven, IsIdle, IsNextIn, StandsFor, Gives, port_history, sending_of}
use Rattle.afdx_send.proofs.LineLemmas.{mul_most}
use Rattle.afdx_send.proofs.NextLemmas.{AllSubs, comparable, append_append}
use Rattle.afdx_send.proofs.OwnLemmas.{next_later}
use Rattle.afdx_send.proofs.StandLemmas.{none_before}

pub none_of : {Y : Type 0} (o : Option Y) → is_some o ≡ false → o ≡ None
none_of None e = refl
none_of (Some y) e = absurd (cc e)

-- an element of a list, and of a longer one
pub get_more : {Y : Type 0} (xs ys : List Y) (i : ℕ) (x : Y) → slice_get xs i ≡ Some x → slice_get (xs ++ ys) i ≡ Some x
get_more [] ys i x h = absurd (cc h)
get_more (y ∷ xs) ys zero x h = h
get_more (y ∷ xs) ys (suc i) x h = get_more xs ys i x h

get_first : {Y : Type 0} (xs ys : List Y) (i : ℕ) (x : Y) → slice_get (xs ++ ys) i ≡ Some x
    → (slice_get xs i ≡ Some x) ⊎ ((length xs ≤ i) × ((j : ℕ) × (slice_get ys j ≡ Some x)))
get_first [] ys i x h = inr (omega arith, (i, h))
get_first (y ∷ xs) ys zero x h = inl h
get_first (y ∷ xs) ys (suc i) x h =
    elim (get_first xs ys i x h) [ inl a ↦ inl a | inr b ↦ inr (let le = b.0 in omega arith, b.1) ]

-- a sender's entries are of one class, and may wait for ever
pub record IsOurs (e : Entry Frame) : Type 0 where
  pub class : e.priority ≡ Low
  pub patient : e.longest_wait ≡ None

abbrev pub AreOurs : List (Entry Frame) → Type 0
AreOurs es = (i : ℕ) (e : Entry Frame) → slice_get es i ≡ Some e → IsOurs e

ours_push : (es : List (Entry Frame)) (d : Entry Frame) → AreOurs es → IsOurs d → AreOurs (es ++ d ∷ [])
ours_push es d all one i e h = elim (get_first es (d ∷ []) i e h) [ inl a ↦ all i e a | inr b ↦ by b.1.0 b.1.1 ]
  where
    by : (j : ℕ) → slice_get (d ∷ []) j ≡ Some e → IsOurs e
    by zero g = let same : d ≡ e = cc g in subst IsOurs same one
    by (suc j) g = absurd (cc g)

pub are_ours : (xs : List LinkRelease) → AreOurs (entries_of xs)
are_ours [] i e h = absurd (cc h)
are_ours (x ∷ xs) i e h = ours_push (entries_of xs) (entry_for x (length (own x.place xs)))
    (are_ours xs) (record { class = refl; patient = refl }) i e h

not_high : (e : Entry Frame) → IsOurs e → e.priority ≡ High → ⊥
not_high e o h = let k : Low ≡ High = sym o.class ∙ h in cc k

-- what comes later changes nothing about the next turn
pub next_longer : (b : ℕ) (es more : List (Entry Frame)) (earlier : List (Turn Frame))
    (s : Turn Frame) → AreInOrder (es ++ more) → AreOurs (es ++ more) → IsNext b es earlier s
    → IsNext b (es ++ more) earlier s
next_longer b es more earlier s order ours n =
    let stands = get_more es more s.place s.entry n.own.stands in
    let below = slice_get_within es s.place s.entry n.own.stands in
    record {
      own = record { stands = stands; without = n.own.without };
      drops = n.drops;
      lasts = n.lasts;
      come = n.come;
      after = n.after;
      least = λ t place e w come over. elim (get_first es more place e w.stands) [
        | inl first ↦ n.least t place e (record { stands = first; without = w.without }) come over
        | inr late ↦ n.least t s.place s.entry n.own
            (let le = order s.place place s.entry e (let k = late.0 in omega arith) stands w.stands
            in omega arith) over
      ];
      high_first = λ place e w come high. absurd (not_high e (ours place e w.stands) high);
      in_order = λ place e w class. elim (get_first es more place e w.stands) [
        | inl first ↦ n.in_order place e (record { stands = first; without = w.without }) class
        | inr late ↦ (let k = late.0 in omega arith)
      ];
    }

pub next_shorter : (b : ℕ) (es more : List (Entry Frame)) (earlier : List (Turn Frame))
    (s : Turn Frame) → slice_get es s.place ≡ Some s.entry → IsNext b (es ++ more) earlier s
    → IsNext b es earlier s
next_shorter b es more earlier s stands n = record {
  own = record { stands = stands; without = n.own.without };
  drops = n.drops;
  lasts = n.lasts;
  come = n.come;
  after = n.after;
  least = λ t place e w come over.
      n.least t place e (record { stands = get_more es more place e w.stands; without = w.without })
      come over;
  high_first = λ place e w come high.
      n.high_first place e (record {
        stands = get_more es more place e w.stands;
        without = w.without;
      }) come high;
  in_order = λ place e w class.
      n.in_order place e (record {
        stands = get_more es more place e w.stands;
        without = w.without;
      }) class;
}

-- further releases are further entries, none of which comes before t
pub record IsMore (xs later : List LinkRelease) (t : ℕ) : Type 0 where
  pub more : List (Entry Frame)
  pub is : entries_of (later ++ xs) ≡ entries_of xs ++ more
  pub late : (i : ℕ) (e : Entry Frame) → slice_get more i ≡ Some e → t ≤ e.time

late_release : (links : List LinkRow) (taken : List (List Submission)) (xs later : List LinkRelease)
    (x : LinkRelease) (t : ℕ) → ((i : ℕ) (l : LinkRow) (r : Release) → slice_get links i ≡ Some l
    → IsNextOf taken xs i l r → t ≤ r.time) →
    AreAllReleases links taken (x ∷ (later ++ xs)) → t ≤ x.release.time
late_release links taken xs [] x t none h = none x.place x.row x.release h.0.stands h.0.next
late_release links taken xs (y ∷ later) x t none h =
    let a = late_release links taken xs later y t none h.1 in
    let b = next_later links taken y (later ++ xs) x.place x.row x.release h.0.stands h.1 h.0.next in omega arith

pub more_of : (links : List LinkRow) (taken : List (List Submission)) (xs later : List LinkRelease)
    (t : ℕ) → ((i : ℕ) (l : LinkRow) (r : Release) → slice_get links i ≡ Some l
    → IsNextOf taken xs i l r → t ≤ r.time) →
    AreAllReleases links taken (later ++ xs) → IsMore xs later t
more_of links taken xs [] t none h =
    record { more = []; is = sym (append-nil (entries_of xs)); late = λ i e k. absurd (cc k) }
more_of links taken xs (x ∷ later) t none h =
    let m = more_of links taken xs later t none h.1 in
    let d : Entry Frame = entry_for x (length (own x.place (later ++ xs))) in
    let at : t ≤ d.time = late_release links taken xs later x t none h in
    record {
      more = m.more ++ d ∷ [];
      is = ap (λ z. z ++ d ∷ []) m.is ∙ append_append (entries_of xs) m.more (d ∷ []);
      late = λ i e k. elim (get_first m.more (d ∷ []) i e k) [ inl a ↦ m.late i e a | inr b ↦ by d e at b.1.0 b.1.1 ];
    }
  where
    by : (d e : Entry Frame) → t ≤ d.time → (j : ℕ) → slice_get (d ∷ []) j ≡ Some e → t ≤ e.time
    by d e le zero g = let same : d ≡ e = cc g in subst (λ (z : Entry Frame). t ≤ z.time) same le
    by d e le (suc j) g = absurd (cc g)

-- a turn of a sender is a slot, and takes some time
pub record IsSlot (b : ℕ) (s : Turn Frame) : Type 0 where
  pub kept : s.too_old ≡ false
  pub lasts : s.end ≡ s.moment + (s.entry.bytes + 20) * b

pub is_slot : (b : ℕ) (es : List (Entry Frame)) (earlier : List (Turn Frame)) (s : Turn Frame)
    → AreOurs es → IsNext b es earlier s → IsSlot b s
is_slot b es earlier s ours n =
    let o = ours s.place s.entry n.own.stands in
    let kept : s.too_old ≡ false = n.drops ∙ ap (λ z. past z) o.patient in
    record { kept = kept; lasts = n.lasts ∙ ap (λ z. s.moment + lasting b z s.entry.bytes) kept }
  where
    past : Option ℕ → Bool
    past z = is_past z s.entry.time s.moment

-- the law of ports: no further turn is given by t exactly where the next one is over after it
abbrev pub QuietIsNext : Type 0
QuietIsNext = (p : PortState Frame) (h : port.PortHistory Frame) (t : ℕ) → port.StandsFor facts p h →
    (held.IsQuiet facts p t ↔ ((s : Turn Frame) → IsNext h.byte_ns h.entries h.taken s → IsAfter t (due_at s)))

pub all_subs : (w : SenderState) (h : SenderHistory) → StandsFor w h → AllSubs h.links h.taken
all_subs w h st i l g j s k = by_line (slice_get w.lines.items i) refl
  where
    none : (xs : List SystemLink) (m : ℕ) → m < length xs → slice_get xs m ≡ None → ⊥
    none [] m lt e = omega arith
    none (x ∷ xs) zero lt e = cc e
    none (x ∷ xs) (suc m) lt e = none xs m (omega arith) e

    by_line : (o : Option SystemLink) → slice_get w.lines.items i ≡ o → (1 ≤ s.sub) × (s.sub ≤ l.subs)
    by_line None e = absurd (none w.lines.items i
        (let m = slice_get_within h.links i l g in let c = st.count in omega arith) e)
    by_line (Some line) e = let ls = st.lines i line l e g in let r = ls.regulates.subs j s k in
        (r.0, (let a = ls.is_line.subs in let b = r.1 in omega arith))

after_is : (t b : ℕ) (s : Turn Frame) → IsSlot b s → IsAfter t (due_at s) → t < s.end
after_is t b s slot h = by s.too_old slot.kept h
  where
    by : (o : Bool) → o ≡ false → t < s.end + (if o then 1 else 0) → t < s.end
    by true e k = absurd (cc e)
    by false e k = omega arith

-- an idle sender has no further emission by the last time used
pub no_more : (w : SenderState) (h : SenderHistory) → QuietIsNext → StandsFor w h → IsIdle w
    → (s : Turn Frame) → IsNextIn h s → w.clock < s.end
no_more w h law st idle s n =
    let b = byte_ns h.system in
    let given : st.given ≡ h.emitted =
    subst (λ (o : Option (Left Frame)). HasGiven o h.emitted st.given) idle.ready st.has_given in
    let quiet : (s : Turn Frame) → IsNext b (entries_of st.released) h.emitted s → IsAfter w.clock (due_at s) =
    λ s k. (law w.output (port_history h st.released st.given w.output.clock) w.clock st.output).0
    idle.quiet s (subst (λ (z : List (Turn Frame)). IsNext b (entries_of st.released) z s)
    (sym given) k) in
    let slot = is_slot b (entries_of n.released) h.emitted s (are_ours n.released) n.next in
    elim (comparable h.links h.taken st.released n.released (all_subs w h st) st.are_releases n.are_releases) [
      | inl r ↦ (let m = more_of h.links h.taken st.released r.0 w.clock
          (none_before w h st w.clock idle.none)
          (subst (λ (z : List LinkRelease). AreAllReleases h.links h.taken z) r.1 n.are_releases) in
          let next : IsNext b (entries_of st.released ++ m.more) h.emitted s =
          subst (λ (z : List (Entry Frame)). IsNext b z h.emitted s) (ap entries_of r.1 ∙ m.is)
          n.next in
          elim (get_first (entries_of st.released) m.more s.place s.entry next.own.stands) [
            | inl old ↦ after_is w.clock b s slot
                (quiet s (next_shorter b (entries_of st.released) m.more h.emitted s old next))
            | inr new ↦ (let late = m.late new.1.0 s.entry new.1.1 in
                let come = n.next.come in
                let line : 8 ≤ b = st.are_sent.is_sender.line in
                let some = mul_most 1 (s.entry.bytes + 20) b (omega arith) in
                let end = slot.lasts in
                omega arith)
          ])
      | inr r ↦ (let m = more_of h.links h.taken n.released r.0 0 (λ i l q g k. omega arith)
          (subst (λ (z : List LinkRelease). AreAllReleases h.links h.taken z) r.1 st.are_releases) in
          let is : entries_of st.released ≡ entries_of n.released ++ m.more = ap entries_of r.1 ∙ m.is in
          let order : AreInOrder (entries_of n.released ++ m.more) =
          subst (λ (z : List (Entry Frame)). AreInOrder z) is st.output.in_order in
          let ours : AreOurs (entries_of n.released ++ m.more) =
          subst (λ (z : List (Entry Frame)). AreOurs z) is (are_ours st.released) in
          after_is w.clock b s slot
          (quiet s (subst (λ (z : List (Entry Frame)). IsNext b z h.emitted s) (sym is)
          (next_longer b (entries_of n.released) m.more h.emitted s order ours n.next))))
    ]

-- what is ready left the port in the slot of the next emission
pub record LeftNext (h : SenderHistory) (until : ℕ) (left : Left Frame) (given : List (Turn Frame)) :
    Type 0 where
  pub slot : Turn Frame
  pub next : IsNextIn h slot
  pub in_time : slot.end ≤ until
  pub given_is : given ≡ slot ∷ h.emitted
  pub left_is : left ≡ port.left_of slot

pub left_next : (w : SenderState) (h : SenderHistory) (until : ℕ) (left : Left Frame)
    → (st : StandsFor w (at h until)) → w.ready ≡ Some left →
    ((p : PortState Frame) (hp : port.PortHistory Frame) → port.StandsFor facts p hp
    → AreTurns hp.byte_ns hp.entries hp.taken) → LeftNext h until left st.given
left_next w h until left st ready law =
    let g : HasGiven (Some left) h.emitted st.given =
    subst (λ (o : Option (Left Frame)). HasGiven o h.emitted st.given) ready st.has_given in
    let are = law w.output (port_history h st.released st.given w.output.clock) st.output in
    let are' : AreTurns (byte_ns h.system) (entries_of st.released) (g.0 ∷ h.emitted) =
    subst (λ (z : List (Turn Frame)). AreTurns (byte_ns h.system) (entries_of st.released) z)
    g.1 are in
    let end : left.end ≡ g.0.end = ap (λ z. z.end) g.2 in
    record {
      slot = g.0;
      next = record { released = st.released; are_releases = st.are_releases; next = are'.0 };
      in_time = (let le = st.in_time left ready in let p = st.port_clock in omega arith);
      given_is = g.1;
      left_is = g.2;
    }

-- what is ready is the next emission
pub emits : (w : SenderState) (h : SenderHistory) (until : ℕ) (left : Left Frame) (e : Emission)
    → StandsFor w (at h until) → w.ready ≡ Some left →
    ((p : PortState Frame) (hp : port.PortHistory Frame) → port.StandsFor facts p hp
    → AreTurns hp.byte_ns hp.entries hp.taken) →
    e.time ≡ left.end → e.vl.0 ≡ left.item.vl
    → e.a.items ≡ built_frame (address_with w.system_id w.partition left.item) left.item.number
    A left.item.message.payload →
    e.b.items ≡ built_frame (address_with w.system_id w.partition left.item) left.item.number B
    left.item.message.payload →
    IsReadAs e.a.items left.item → IsReadAs e.b.items left.item →
    IsSending w.system_id w.partition left.end left.item (sending_of e) → Gives h until e (record w { ready = None })
emits w h until left e st ready law time vl a b a_read b_read sending =
    let g = left_next w h until left st ready law in
    let item : left.item ≡ g.slot.entry.item = ap (λ z. z.item) g.left_is in
    let end : left.end ≡ g.slot.end = ap (λ z. z.end) g.left_is in
    let F : Side → ℕ → ℕ → Frame
    → List ℕ = λ side i q s. built_frame (address_with i q s) s.number side s.message.payload in
    record {
      slot = g.slot;
      next = g.next;
      in_time = g.in_time;
      time = time ∙ end;
      vl = vl ∙ ap (λ z. z.vl) item;
      a = a ∙ ap (λ i. F A i w.partition left.item) st.system_id
          ∙ ap (λ q. F A h.system.id q left.item) st.partition
          ∙ ap (λ s. F A h.system.id h.system.partition s) item;
      b = b ∙ ap (λ i. F B i w.partition left.item) st.system_id
          ∙ ap (λ q. F B h.system.id q left.item) st.partition
          ∙ ap (λ s. F B h.system.id h.system.partition s) item;
      a_read = subst (IsReadAs e.a.items) item a_read;
      b_read = subst (IsReadAs e.b.items) item b_read;
      sending = subst (λ (i : ℕ). IsSending i h.system.partition g.slot.end g.slot.entry.item
          (sending_of e)) st.system_id (subst
          (λ (q : ℕ). IsSending w.system_id q g.slot.end g.slot.entry.item (sending_of e)) st.partition
          (subst (λ (t : ℕ). IsSending w.system_id w.partition t g.slot.entry.item (sending_of e)) end
          (subst (λ (s : Frame). IsSending w.system_id w.partition left.end s (sending_of e))
          item sending)));
      stands = record {
        system_id = st.system_id;
        partition = st.partition;
        clock = st.clock;
        are_sent = st.are_sent;
        place_count = st.place_count;
        places = st.places;
        released = st.released;
        are_releases = st.are_releases;
        before = st.before;
        count = st.count;
        lists = st.lists;
        lines = st.lines;
        come = st.come;
        played = st.played;
        agenda = st.agenda;
        agenda_count = st.agenda_count;
        given = st.given;
        has_given = g.given_is;
        in_time = λ l k. absurd (cc k);
        output = st.output;
        timely = st.timely;
        port_clock = st.port_clock;
      };
    }
