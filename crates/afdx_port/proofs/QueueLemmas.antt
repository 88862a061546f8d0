-- The queues of a port are the entries without a turn, and their fronts give the next turn.
use Rattle.std.proofs.Common.{◌≡◌, ◌≢◌, ℕ, ◌+◌, ◌<◌, ◌≤◌, ◌==◌, max, Bool, true, false, ◌||◌, List}
use Rattle.std.proofs.Common.{[], ◌∷◌, ◌++◌, length, Option, Some, None, inl, inr, refl, sym, ap}
use Rattle.std.proofs.Common.{subst, arith, ◌∙◌, ◌-◌, take}
use Rattle.std.specs.Prelude.{MatchOption}
use Rattle.std.specs.List.{slice_get}
use Rattle.std.proofs.lemmas.Option.{slice_get_within}
use Rattle.std.proofs.lemmas.Bool.{cases_lt}
use Rattle.afdx_frame.specs.declared.link.Priority.{Priority}
use Rattle.afdx_frame.specs.declared.link.Priority.TheVariants.{High, Low}
use Rattle.afdx_frame.proofs.ListLemmas.{slice_get-push_last}
use Rattle.afdx_port.specs.declared.port_state.Waiting.{Waiting}
use Rattle.afdx_port.specs.Schedule.{Entry, Turn, has_turn, end_of, IsWithoutTurn, IsNext}
use Rattle.afdx_port.specs.Facts.{Facts}
use Rattle.afdx_port.specs.ScheduleOf.{turn_at}
use Rattle.afdx_port.specs.Held.{ready, choice, due_from}
use Rattle.afdx_port.specs.History.{due_at, waiting_entry, IsFirst, IsQueue}
use Rattle.afdx_port.proofs.TurnLemmas.{eqb-other, eqb-same, nat_lt-true, nat_lt-false}
use Rattle.afdx_port.proofs.TurnLemmas.{without_either, without_longer, same_next}
use Rattle.afdx_port.proofs.TurnLemmas.{priority_cases}

or_left : (a b : Bool) → (a || b) ≡ false → a ≡ false
or_left false b h = refl
or_left true b h = h

or_right : (a b : Bool) → (a || b) ≡ false → b ≡ false
or_right false b h = h
or_right true b h = cc

pub pair_same : (p q : Priority × ℕ) → Some p ≡ Some q → (p.0 ≡ q.0) × (p.1 ≡ q.1)
pair_same p q e = let same : p ≡ q = cc in (ap (λ z. z.0) same, ap (λ z. z.1) same)

pub choice_high : (hi : ℕ) (lo : Option ℕ) (moment : ℕ) → choice (Some hi) lo ≡ Some (High, moment)
    → (moment ≡ hi) × ((m : ℕ) → lo ≡ Some m → moment ≤ m)
choice_high hi None moment e = (sym (pair_same (High, hi) (High, moment) e).1, λ m k. absurd (cc k))
choice_high hi (Some lo) moment e = elim (cases_lt lo hi) [
  | inl lt ↦ absurd (let k = nat_lt-true lo hi lt in let f = rw k at e in let g =
      (pair_same (Low, lo) (High, moment) f).0 in cc g)
  | inr ge ↦ (let k = nat_lt-false lo hi ge in let f = rw k at e in let same : moment ≡ hi =
      sym (pair_same (High, hi) (High, moment) f).1 in
      (same, λ m g. let n : lo ≡ m = cc g in omega arith))
]

pub choice_low : (hi : Option ℕ) (lo moment : ℕ) → choice hi (Some lo) ≡ Some (Low, moment)
    → (moment ≡ lo) × ((m : ℕ) → hi ≡ Some m → moment < m)
choice_low None lo moment e = (sym (pair_same (Low, lo) (Low, moment) e).1, λ m k. absurd (cc k))
choice_low (Some hi) lo moment e = elim (cases_lt lo hi) [
  | inl lt ↦ (let k = nat_lt-true lo hi lt in let f = rw k at e in let same : moment ≡ lo =
      sym (pair_same (Low, lo) (Low, moment) f).1 in (same, λ m g. let n : hi ≡ m = cc g in omega arith))
  | inr ge ↦ absurd (let k = nat_lt-false lo hi ge in let f = rw k at e in let g =
      (pair_same (High, hi) (Low, moment) f).0 in cc g)
]

module _ {X : Type 0} where
  -- what has none of more turns has none of fewer
  pub without_fewer : (entries : List (Entry X)) (s : Turn X) (turns : List (Turn X)) (q : ℕ)
      (d : Entry X) → IsWithoutTurn entries (s ∷ turns) q d → IsWithoutTurn entries turns q d
  without_fewer entries s turns q d h =
      record { stands = h.stands; without = or_right (s.place == q) (has_turn turns q) h.without }

  without_own : (entries : List (Entry X)) (s : Turn X) (turns : List (Turn X)) (q : ℕ)
      (d : Entry X) → IsWithoutTurn entries (s ∷ turns) q d → s.place ≢ q
  without_own entries s turns q d h same = let e =
      or_left (s.place == q) (has_turn turns q) h.without in let k = eqb-same s.place q same in cc

  -- a turn of an entry that the queue doesn't hold leaves the queue
  pub queue_turn : (facts : X → Facts) (entries : List (Entry X)) (s : Turn X)
      (turns : List (Turn X)) (c : Priority) (from : ℕ) (ws : List (Waiting X)) →
      ((q : ℕ) (d : Entry X) → from ≤ q → IsWithoutTurn entries turns q d → d.priority ≡ c
      → s.place ≢ q) → IsQueue facts entries turns c from ws
      → IsQueue facts entries (s ∷ turns) c from ws
  queue_turn facts entries s turns c from [] other h =
      λ q d le w class. h q d le (without_fewer entries s turns q d w) class
  queue_turn facts entries s turns c from (w ∷ ws) other h =
      let f = h.1 in
      let ne : s.place ≢ h.0 = other h.0 (waiting_entry facts c w) f.from_on f.own refl in
      let le : from ≤ h.0 = f.from_on in (
        h.0,
        record {
          from_on = f.from_on;
          own = record { stands = f.own.stands; without = rw (eqb-other s.place h.0 ne) f.own.without };
          first = λ q d up v class. f.first q d up (without_fewer entries s turns q d v) class;
        },
        queue_turn facts entries s turns c (h.0 + 1) ws (λ q d up v class. other q d (omega arith) v class) h.2,
      )

  -- the queue from an earlier place on
  queue_lower : (facts : X → Facts) (entries : List (Entry X)) (turns : List (Turn X))
      (c : Priority) (place : ℕ) (ws : List (Waiting X)) →
      ((q : ℕ) (d : Entry X) → IsWithoutTurn entries turns q d → d.priority ≡ c → place + 1 ≤ q)
      → IsQueue facts entries turns c (place + 1) ws → IsQueue facts entries turns c 0 ws
  queue_lower facts entries turns c place [] above h = λ q d le w class. h q d (above q d w class) w class
  queue_lower facts entries turns c place (w ∷ ws) above h = (
    h.0,
    record {
      from_on = omega arith;
      own = h.1.own;
      first = λ q d up v class. h.1.first q d (above q d v class) v class;
    },
    h.2,
  )

  -- the front of a queue gets its turn
  pub queue_pop : (facts : X → Facts) (entries : List (Entry X)) (s : Turn X)
      (turns : List (Turn X)) (c : Priority) (w : Waiting X) (ws : List (Waiting X)) →
      (h : IsQueue facts entries turns c 0 (w ∷ ws)) → s.place ≡ h.0 → IsQueue facts entries (s ∷ turns) c 0 ws
  queue_pop facts entries s turns c w ws h at =
      queue_lower facts entries (s ∷ turns) c h.0 ws
      (λ q d v class. let le : h.0 ≤ q = h.1.first q d (omega arith) (without_fewer entries s turns q d v) class in
      let ne : s.place ≢ q = without_own entries s turns q d v in omega arith)
      (queue_turn facts entries s turns c (h.0 + 1) ws (λ q d up v class e. omega arith) h.2)

  -- a further entry of the class joins the queue
  pub queue_push : (facts : X → Facts) (entries : List (Entry X)) (turns : List (Turn X))
      (c : Priority) (from : ℕ) (w : Waiting X) (ws : List (Waiting X)) →
      has_turn turns (length entries) ≡ false → from ≤ length entries
      → IsQueue facts entries turns c from ws
      → IsQueue facts (entries ++ waiting_entry facts c w ∷ []) turns c from (ws ++ w ∷ [])
  queue_push facts entries turns c from w [] free le h = (
    length entries,
    record {
      from_on = le;
      own = record { stands = slice_get-push_last entries (waiting_entry facts c w); without = free };
      first = λ q d up v class. elim (without_either entries (waiting_entry facts c w) turns q d v)
          [ inl old ↦ absurd (h q d up old class) | inr new ↦ omega (arith, new.0) ];
    },
    λ q d up v class. elim (without_either entries (waiting_entry facts c w) turns q d v) [
      | inl old ↦ h q d (omega arith) old class
      | inr new ↦ omega (arith, new.0)
    ],
  )
  queue_push facts entries turns c from w (v ∷ vs) free le h =
      let e = waiting_entry facts c w in
      let within : h.0 < length entries = slice_get_within entries h.0 (waiting_entry facts c v) h.1.own.stands in (
        h.0,
        record {
          from_on = h.1.from_on;
          own = without_longer entries (waiting_entry facts c w) turns h.0 (waiting_entry facts c v) h.1.own;
          first = λ q d up u class.
              elim (without_either entries (waiting_entry facts c w) turns q d u)
              [ inl old ↦ h.1.first q d up old class | inr new ↦ omega (arith, new.0) ];
        },
        queue_push facts entries turns c (h.0 + 1) w vs free (omega arith) h.2,
      )

  -- a further entry of the other class leaves the queue
  pub queue_other : (facts : X → Facts) (entries : List (Entry X)) (e : Entry X)
      (turns : List (Turn X)) (c : Priority) (from : ℕ) (ws : List (Waiting X)) →
      e.priority ≢ c → IsQueue facts entries turns c from ws → IsQueue facts (entries ++ e ∷ []) turns c from ws
  queue_other facts entries e turns c from [] other h = λ q d up v class. elim (without_either entries e turns q d v) [
    | inl old ↦ h q d up old class
    | inr new ↦ other (ap (λ z. z.priority) (sym new.1) ∙ class)
  ]
  queue_other facts entries e turns c from (w ∷ ws) other h = (
    h.0,
    record {
      from_on = h.1.from_on;
      own = without_longer entries e turns h.0 (waiting_entry facts c w) h.1.own;
      first = λ q d up v class. elim (without_either entries e turns q d v) [
        | inl old ↦ h.1.first q d up old class
        | inr new ↦ absurd (other (ap (λ z. z.priority) (sym new.1) ∙ class))
      ];
    },
    queue_other facts entries e turns c (h.0 + 1) ws other h.2,
  )

  -- an entry without a turn is in its queue, whose front can be sent no later
  ready_least : (facts : X → Facts) (entries : List (Entry X)) (turns : List (Turn X))
      (c : Priority) (free : ℕ) (ws : List (Waiting X)) →
      ((i j : ℕ) (d e : Entry X) → i ≤ j → slice_get entries i ≡ Some d
      → slice_get entries j ≡ Some e → d.time ≤ e.time) →
      IsQueue facts entries turns c 0 ws → (q : ℕ) (d : Entry X) → IsWithoutTurn entries turns q d
      → d.priority ≡ c → (m : ℕ) × (ready free ws ≡ Some m) × (m ≤ max d.time free)
  ready_least facts entries turns c free [] order h q d v class = absurd (h q d (omega arith) v class)
  ready_least facts entries turns c free (w ∷ ws) order h q d v class =
      let le : h.0 ≤ q = h.1.first q d (omega arith) v class in
      let time : w.time ≤ d.time = order h.0 q (waiting_entry facts c w) d le h.1.own.stands v.stands in
      (max w.time free, refl, omega arith)

  -- the turn of the front of a queue
  abbrev pub front_turn : (X → Facts) → ℕ → Priority → ℕ → ℕ → Waiting X → Turn X
  front_turn facts byte_ns c place moment w = turn_at byte_ns place (waiting_entry facts c w) moment

  is_front : (facts : X → Facts) (byte_ns : ℕ) (entries : List (Entry X)) (turns : List (Turn X))
      (c : Priority) (place moment : ℕ) (w : Waiting X) →
      IsFirst entries turns c 0 place (waiting_entry facts c w) → w.time ≤ moment → end_of turns ≤ moment →
      ((q : ℕ) (d : Entry X) → IsWithoutTurn entries turns q d → moment ≤ max d.time (end_of turns)) →
      ((q : ℕ) (d : Entry X) → IsWithoutTurn entries turns q d → d.time ≤ moment → d.priority ≡ High → c ≡ High) →
      IsNext byte_ns entries turns (front_turn facts byte_ns c place moment w)
  is_front facts byte_ns entries turns c place moment w f come after least high = record {
    own = f.own;
    drops = refl;
    lasts = refl;
    come = come;
    after = after;
    least = λ t q d v came over. let le = least q d v in omega (arith, le);
    high_first = λ q d v came prio. high q d v came prio;
    in_order = λ q d v class. f.first q d (omega arith) v class;
  }

  -- no entry without a turn can be sent before the fronts
  least_by : (facts : X → Facts) (entries : List (Entry X)) (turns : List (Turn X))
      (free moment : ℕ) (highs lows : List (Waiting X)) →
      ((i j : ℕ) (d e : Entry X) → i ≤ j → slice_get entries i ≡ Some d
      → slice_get entries j ≡ Some e → d.time ≤ e.time) →
      IsQueue facts entries turns High 0 highs → IsQueue facts entries turns Low 0 lows →
      ((m : ℕ) → ready free highs ≡ Some m → moment ≤ m) → ((m : ℕ) → ready free lows ≡ Some m → moment ≤ m) →
      (q : ℕ) (d : Entry X) → IsWithoutTurn entries turns q d → moment ≤ max d.time free
  least_by facts entries turns free moment highs lows order high low by_high by_low q d v =
      elim (priority_cases d.priority) [
        | inl c ↦ (let r = ready_least facts entries turns High free highs order high q d v c in
            let le = by_high r.0 r.1 in omega (arith, le, r.2))
        | inr c ↦ (let r = ready_least facts entries turns Low free lows order low q d v c in
            let le = by_low r.0 r.1 in omega (arith, le, r.2))
      ]

  -- the turn of the front of the queue that is chosen comes next
  pub record Chosen (facts : X → Facts) (byte_ns : ℕ) (entries : List (Entry X))
      (turns : List (Turn X)) (c : Priority) (moment : ℕ) (w : Waiting X)
      (highs lows : List (Waiting X)) : Type 0 where
    pub place : ℕ
    pub next : IsNext byte_ns entries turns (front_turn facts byte_ns c place moment w)
    pub high : IsQueue facts entries (front_turn facts byte_ns c place moment w ∷ turns) High 0 highs
    pub low : IsQueue facts entries (front_turn facts byte_ns c place moment w ∷ turns) Low 0 lows

  pub high_next : (facts : X → Facts) (byte_ns : ℕ) (entries : List (Entry X))
      (turns : List (Turn X)) (moment : ℕ) (w : Waiting X) (highs lows : List (Waiting X)) →
      ((i j : ℕ) (d e : Entry X) → i ≤ j → slice_get entries i ≡ Some d
      → slice_get entries j ≡ Some e → d.time ≤ e.time) →
      IsQueue facts entries turns High 0 (w ∷ highs) → IsQueue facts entries turns Low 0 lows →
      choice (ready (end_of turns) (w ∷ highs)) (ready (end_of turns) lows) ≡ Some (High, moment) →
      Chosen facts byte_ns entries turns High moment w highs lows
  high_next facts byte_ns entries turns moment w highs lows order high low e =
      let k = choice_high (max w.time (end_of turns)) (ready (end_of turns) lows) moment e in
      let is : moment ≡ max w.time (end_of turns) = k.0 in
      let least = least_by facts entries turns (end_of turns) moment (w ∷ highs) lows order high low
      (λ m g. let n : m ≡ max w.time (end_of turns) = cc in omega arith) k.1 in
      let s : Turn X = front_turn facts byte_ns High high.0 moment w in
      record {
        place = high.0;
        next = is_front facts byte_ns entries turns High high.0 moment w high.1 (omega arith)
            (omega arith) least (λ q d v came prio. refl);
        high = queue_pop facts entries s turns High w highs high refl;
        low = queue_turn facts entries s turns Low 0 lows (λ q d up v class same. clash q d v class same) low;
      }
    where
      clash : (q : ℕ) (d : Entry X) → IsWithoutTurn entries turns q d → d.priority ≡ Low → high.0 ≡ q → ⊥
      clash q d v class same =
          let a = high.1.own.stands in
          let b : slice_get entries high.0 ≡ Some d = cc (v.stands) in
          let f : waiting_entry facts High w ≡ d = cc in
          let g : High ≡ d.priority = ap (λ z. z.priority) f in
          cc

  pub low_next : (facts : X → Facts) (byte_ns : ℕ) (entries : List (Entry X))
      (turns : List (Turn X)) (moment : ℕ) (w : Waiting X) (highs lows : List (Waiting X)) →
      ((i j : ℕ) (d e : Entry X) → i ≤ j → slice_get entries i ≡ Some d
      → slice_get entries j ≡ Some e → d.time ≤ e.time) →
      IsQueue facts entries turns High 0 highs → IsQueue facts entries turns Low 0 (w ∷ lows) →
      choice (ready (end_of turns) highs) (ready (end_of turns) (w ∷ lows)) ≡ Some (Low, moment) →
      Chosen facts byte_ns entries turns Low moment w highs lows
  low_next facts byte_ns entries turns moment w highs lows order high low e =
      let k = choice_low (ready (end_of turns) highs) (max w.time (end_of turns)) moment e in
      let is : moment ≡ max w.time (end_of turns) = k.0 in
      let least = least_by facts entries turns (end_of turns) moment highs (w ∷ lows) order high low
      (λ m g. let lt = k.1 m g in omega arith)
      (λ m g. let n : m ≡ max w.time (end_of turns) = cc in omega arith) in
      let s : Turn X = front_turn facts byte_ns Low low.0 moment w in
      record {
        place = low.0;
        next = is_front facts byte_ns entries turns Low low.0 moment w low.1 (omega arith) (omega arith) least
            (λ q d v came prio. absurd
            (let r = ready_least facts entries turns High (end_of turns) highs order high q d v
            prio in let lt = k.1 r.0 r.1 in omega (arith, lt, r.2)));
        high = queue_turn facts entries s turns High 0 highs (λ q d up v class same. clash q d v class same) high;
        low = queue_pop facts entries s turns Low w lows low refl;
      }
    where
      clash : (q : ℕ) (d : Entry X) → IsWithoutTurn entries turns q d → d.priority ≡ High → low.0 ≡ q → ⊥
      clash q d v class same =
          let a = low.1.own.stands in
          let b : slice_get entries low.0 ≡ Some d = cc (v.stands) in
          let f : waiting_entry facts Low w ≡ d = cc in
          let g : Low ≡ d.priority = ap (λ z. z.priority) f in
          cc

  -- the queue of a class
  abbrev pub by_class : Priority → List (Waiting X) → List (Waiting X) → List (Waiting X)
  by_class High highs lows = highs
  by_class Low highs lows = lows

  -- the turn that comes next is that of the front of the queue that is chosen
  pub record IsFrontTurn (facts : X → Facts) (byte_ns free : ℕ) (highs lows : List (Waiting X))
      (s : Turn X) : Type 0 where
    pub c : Priority
    pub w : Waiting X
    pub front : slice_get (by_class c highs lows) 0 ≡ Some w
    pub chosen : choice (ready free highs) (ready free lows) ≡ Some (c, s.moment)
    pub due : due_at s ≡ due_from facts byte_ns w s.moment

  front_is : (facts : X → Facts) (byte_ns free : ℕ) (highs lows : List (Waiting X)) (c : Priority)
      (place moment : ℕ) (w : Waiting X) (s : Turn X) → s ≡ front_turn facts byte_ns c place moment w →
      slice_get (by_class c highs lows) 0 ≡ Some w → choice (ready free highs) (ready free lows)
      ≡ Some (c, moment) → IsFrontTurn facts byte_ns free highs lows s
  front_is facts byte_ns free highs lows c place moment w s same front chosen =
      let P : Turn X → Type 0 = λ z. IsFrontTurn facts byte_ns free highs lows z in
      subst P (sym same) (record { c = c; w = w; front = front; chosen = chosen; due = refl })

  pub next_chosen : (facts : X → Facts) (byte_ns : ℕ) (entries : List (Entry X))
      (turns : List (Turn X)) (highs lows : List (Waiting X)) (s : Turn X) →
      ((i j : ℕ) (d e : Entry X) → i ≤ j → slice_get entries i ≡ Some d
      → slice_get entries j ≡ Some e → d.time ≤ e.time) →
      IsQueue facts entries turns High 0 highs → IsQueue facts entries turns Low 0 lows
      → IsNext byte_ns entries turns s →
      IsFrontTurn facts byte_ns (end_of turns) highs lows s
  next_chosen facts byte_ns entries turns [] [] s order high low n =
      absurd (elim (priority_cases s.entry.priority) [
        | inl c ↦ high s.place s.entry (omega arith) n.own c
        | inr c ↦ low s.place s.entry (omega arith) n.own c
      ])
  next_chosen facts byte_ns entries turns (w ∷ ws) [] s order high low n =
      let r = high_next facts byte_ns entries turns (max w.time (end_of turns)) w ws [] order high low refl in
      let same = same_next byte_ns entries turns s
      (front_turn facts byte_ns High r.place (max w.time (end_of turns)) w) n r.next in
      front_is facts byte_ns (end_of turns) (w ∷ ws) [] High r.place (max w.time (end_of turns)) w s same refl refl
  next_chosen facts byte_ns entries turns [] (w ∷ ws) s order high low n =
      let r = low_next facts byte_ns entries turns (max w.time (end_of turns)) w [] ws order high low refl in
      let same = same_next byte_ns entries turns s
      (front_turn facts byte_ns Low r.place (max w.time (end_of turns)) w) n r.next in
      front_is facts byte_ns (end_of turns) [] (w ∷ ws) Low r.place (max w.time (end_of turns)) w s same refl refl
  next_chosen facts byte_ns entries turns (w ∷ ws) (v ∷ vs) s order high low n =
      let hi : ℕ = max w.time (end_of turns) in
      let lo : ℕ = max v.time (end_of turns) in
      elim (cases_lt lo hi) [
        | inl lt ↦ (let k = nat_lt-true lo hi lt in
            let e : choice (Some hi) (Some lo) ≡ Some (Low, lo) = rw k refl in
            let r = low_next facts byte_ns entries turns lo v (w ∷ ws) vs order high low e in
            let same = same_next byte_ns entries turns s (front_turn facts byte_ns Low r.place lo v) n r.next in
            front_is facts byte_ns (end_of turns) (w ∷ ws) (v ∷ vs) Low r.place lo v s same refl e)
        | inr ge ↦ (let k = nat_lt-false lo hi ge in
            let e : choice (Some hi) (Some lo) ≡ Some (High, hi) = rw k refl in
            let r = high_next facts byte_ns entries turns hi w ws (v ∷ vs) order high low e in
            let same = same_next byte_ns entries turns s (front_turn facts byte_ns High r.place hi w) n r.next in
            front_is facts byte_ns (end_of turns) (w ∷ ws) (v ∷ vs) High r.place hi w s same refl e)
      ]

module _ {X : Type 0} where
  -- a lone frame is the first, and none is left after it
  pub lone_first : (xs ys : List X) (o : Option X) → length xs ≡ 1
      → o ≡ slice_get xs (length xs - 1) → ys ≡ take (length xs - 1) xs
      → MatchOption o (xs ≡ []) (λ x. xs ≡ x ∷ ys)
  lone_first [] ys o one last rest = absurd (omega arith)
  lone_first (x ∷ []) ys o one last rest =
      let P : Option X → Type 0 = λ z. MatchOption z (x ∷ [] ≡ []) (λ w. x ∷ [] ≡ w ∷ ys) in
      subst P (sym last) (ap (λ zs. x ∷ zs) (sym rest))
  lone_first (x ∷ y ∷ zs) ys o one last rest = absurd (omega arith)
