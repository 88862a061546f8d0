-- What is due after a turn was due before it, or is given later; the turn that is given is the
-- first.
use Rattle.std.proofs.Common.{◌≡◌, ℕ, ◌+◌, ◌*◌, ◌<◌, ◌≤◌, ◌⊎◌, Bool, true, false, List, [], ◌∷◌}
use Rattle.std.proofs.Common.{refl, sym, ◌∙◌, subst, arith, inl, inr, nat_lt}
use Rattle.std.specs.Prelude.{if◌then◌else◌}
use Rattle.std.specs.List.{AllByRecursion}
use Rattle.std.proofs.lemmas.Bool.{cases_eq, cases_lt}
use Rattle.afdx_frame.specs.declared.link.Side.{Side}
use Rattle.afdx_frame.specs.declared.link.Side.TheVariants.{A, B}
use Rattle.afdx_port.specs.Due.{given_at, order_of}
use Rattle.afdx_port.specs.History.{due_at}
use Rattle.afdx_port.specs.Schedule.{Turn, IsNext}
use Rattle.afdx_port.proofs.TurnLemmas.{nat_lt-true, nat_lt-false}
use Rattle.afdx_law_bounds.proofs.TableLemmas.{byte-time}
use Rattle.afdx_switch.specs.HeldFrames.{HeldFrame}
use Rattle.afdx_switch.specs.Switching.{PortTurn, IsNextOf, taken_at}
use Rattle.afdx_switch.specs.Tables.{byte_ns_at, entries_at}
use Rattle.afdx_network.specs.Events.{Departure, Left, arrivals_in, calls_on, turns_on}
use Rattle.afdx_network.specs.Network.{IsNextOn, GoesFirst}
use Rattle.afdx_network.specs.Order.{is_below, side_number}
use Rattle.afdx_network.specs.declared.network.Network.{Network}
use Rattle.afdx_network.proofs.EventLemmas.{ports-same, taken-same, taken-other}
use Rattle.afdx_cascade.specs.SwitchEvents.{Plan, IsPlan, SwitchEvent, at_switch}
use Rattle.afdx_cascade.specs.Runs.{event_at}
use Rattle.afdx_cascade.specs.Due.{OnCable}
use Rattle.afdx_cascade.specs.Found.{FindsLeast}
use Rattle.afdx_cascade.specs.Standing.{Stands}
use Rattle.afdx_cascade.specs.declared.scan.FirstTurn.{FirstTurn}
use Rattle.afdx_cascade.proofs.BehindLemmas.{next-later}
use Rattle.afdx_cascade.proofs.MoreLemmas.{at-same, at-other}

-- ---- the turn that is given is the first

pub record IsThat (f : FirstTurn) (d : Departure) : Type 0 where
  pub side_is : d.side ≡ f.side
  pub order_is : f.order ≡ order_of (due_at d.turn)

not-back : (k : ℕ) → is_below (side_number B ∷ k ∷ []) (side_number A ∷ k ∷ []) ≡ true → ⊥
not-back k h = cc h

same-sides : (s r : Side) (k : ℕ) → side_number s ≤ side_number r
    → (s ≡ r) ⊎ (is_below (side_number r ∷ k ∷ []) (side_number s ∷ k ∷ []) ≡ true) → s ≡ r
same-sides s r k le (inl same) = same
same-sides A A k le (inr h) = refl
same-sides B B k le (inr h) = refl
same-sides A B k le (inr h) = absurd (not-back k h)
same-sides B A k le (inr h) = absurd (omega (arith, le))

pub that-one : (c : Plan) (so_far : List SwitchEvent) (f : FirstTurn) (d : Departure)
    → (found : FindsLeast c so_far f)
    → (gone : PortTurn) → IsNextOf (c.tables f.switch.0) f.side
    (calls_on f.side (at_switch f.switch.0 so_far) 0) gone
    → f.order ≡ order_of (due_at gone.turn)
    → IsNextOf (c.tables f.switch.0) d.side (calls_on d.side (at_switch f.switch.0 so_far) 0)
    (record { port = d.port; turn = d.turn })
    → GoesFirst (c.tables f.switch.0) (at_switch f.switch.0 so_far) d.side d.turn → IsThat f d
that-one c so_far f d found gone gone_next gone_is next first =
    let mine = first f.side gone.port gone.turn gone_next.port_first gone_next.port_last gone_next.next in
    let least = found.are f.switch.0 d.side d.port d.turn next.port_first next.port_last next.next in
    let is = found.is in
    elim (found.least f.switch.0 d.side) [
      | inl same ↦ whole same.1 mine
          (subst (λ s. found.order f.switch.0 s ≤ order_of (due_at d.turn)) same.1 least)
      | inr more ↦ elim more [
        | inl lt ↦ absurd (elim mine [
          | inl before ↦ omega (arith, lt, least, is, gone_is, before)
          | inr equal ↦ (let e = equal.0 in omega (arith, lt, least, is, gone_is, e))
        ])
        | inr tie ↦ elim mine [
          | inl before ↦ absurd (let t = tie.0 in omega (arith, t, least, is, gone_is, before))
          | inr equal ↦
              (let side = same-sides d.side f.side f.switch.0 equal.1 (inr tie.1) in
              record { side_is = side; order_is = gone_is ∙ sym equal.0 })
        ]
      ]
    ]
  where
    whole : d.side ≡ f.side → (order_of (due_at d.turn) < order_of (due_at gone.turn))
        ⊎ ((order_of (due_at d.turn) ≡ order_of (due_at gone.turn))
        × (side_number d.side ≤ side_number f.side))
        → found.order f.switch.0 f.side ≤ order_of (due_at d.turn) → IsThat f d
    whole side (inl before) least = absurd (let is = found.is in
        omega (arith, is, gone_is, before, least))
    whole side (inr equal) least = record { side_is = side; order_is = gone_is ∙ sym equal.0 }

-- ---- lists

pub all-mapped : {X : Type 0} (P Q : X → Type 0) (xs : List X) → ((x : X) → P x → Q x)
    → AllByRecursion P xs → AllByRecursion Q xs
all-mapped P Q [] f all = tt
all-mapped P Q (x ∷ xs) f all = (f x all.0, all-mapped P Q xs f all.1)

pub head-le : (m n : ℕ) (ms ns : List ℕ) → is_below (m ∷ ms) (n ∷ ns) ≡ true → m ≤ n
head-le m n ms ns h = elim (cases_lt n m) [
  | inr le ↦ le
  | inl lt ↦ absurd (by (nat_lt m n) (nat_lt-false m n (omega (arith, lt))) (nat_lt n m)
      (nat_lt-true n m lt) h)
]
  where
    by : (a : Bool) → a ≡ false → (b : Bool) → b ≡ true
        → (if a then true else if b then false else is_below ms ns) ≡ true → ⊥
    by true i b j e = cc i
    by false i false j e = cc j
    by false i true j e = cc e

-- ---- times

pub given-is : (until end order : ℕ) (old : Bool) → order ≡ 2 * end + (if old then 1 else 0)
    → order ≤ 2 * until
    → 2 * until ≤ order + 1 → until ≡ end + (if old then 1 else 0)
given-is until end order true is low high = omega (arith, is, low, high)
given-is until end order false is low high = omega (arith, is, low, high)

pub given-later : (until end order : ℕ) (old : Bool) → order ≤ 2 * end + (if old then 1 else 0)
    → 2 * until ≤ order + 1 → until ≤ end + (if old then 1 else 0)
given-later until end order true is high = omega (arith, is, high)
given-later until end order false is high = omega (arith, is, high)

-- with frames on cables it ends at their time, and is a slot
pub at-end : (zs : List OnCable) (time end order : ℕ) (old : Bool)
    → AllByRecursion (λ z. z.turn.end ≡ time) zs
    → AllByRecursion (λ z. z.turn.end ≤ end) zs → order ≡ 2 * end + (if old then 1 else 0)
    → (zs ≡ []) ⊎ (order ≤ 2 * time)
    → (zs ≡ []) ⊎ ((time ≡ end) × (old ≡ false))
at-end [] time end order old same le is early = inl refl
at-end (z ∷ zs) time end order old same le is (inl e) = absurd (cc e)
at-end (z ∷ zs) time end order true same le is (inr early) =
    absurd (let s = same.0 in let l = le.0 in omega (arith, s, l, is, early))
at-end (z ∷ zs) time end order false same le is (inr early) =
    inr (let s = same.0 in let l = le.0 in omega (arith, s, l, is, early), refl)

pub restamp : (c : Plan) (ns : List Network) (time until : ℕ) (zs : List OnCable)
    (so_far : List SwitchEvent)
    → Stands c ns time zs so_far → (zs ≡ []) ⊎ (time ≡ until) → Stands c ns until zs so_far
restamp c ns time until zs so_far st (inr same) = subst (λ t. Stands c ns t zs so_far) same st
restamp c ns time until [] so_far st (inl e) = record {
  all = st.all;
  carried = record { at_time = tt; ascending = tt; joined = tt; carries = st.carried.carries };
  rules = st.rules;
}
restamp c ns time until (z ∷ zs) so_far st (inl e) = absurd (cc e)

-- ---- what is due then was due before, or is given later

pub record Was (c : Plan) (so_far : List SwitchEvent) (k : ℕ) (side : Side) (port : ℕ)
    (s : Turn HeldFrame) : Type 0 where
  pub next : IsNextOn (c.tables k) (at_switch k so_far) side port s

pub was-next : (c : Plan) (so_far : List SwitchEvent) (k : ℕ) (d : Departure) → IsPlan c
    → (j : ℕ) (side : Side) (port : ℕ) (s : Turn HeldFrame)
    → IsNextOn (c.tables j) (at_switch j (event_at k (Left d) ∷ so_far)) side port s
    → Was c so_far j side port s ⊎ (d.turn.end < given_at (due_at s))
was-next c so_far k d plan j side port s next = elim (cases_eq k j) [
  | inr apart ↦ inl (record {
    next = subst (λ es. IsNextOn (c.tables j) es side port s)
        (at-other j k (Left d) so_far apart) next;
  })
  | inl same ↦
      (let there : IsNextOn (c.tables k) (Left d ∷ at_switch k so_far) side port s =
      subst (λ es. IsNextOn (c.tables k) es side port s) (at-same k (Left d) so_far)
      (subst (λ i. IsNextOn (c.tables i) (at_switch i (event_at k (Left d) ∷ so_far)) side port s)
      (sym same) next) in
      elim (ports-same side port d) [
        | inr other ↦ inl (record {
          next = subst (λ i. IsNextOn (c.tables i) (at_switch i so_far) side port s) same
              (subst (λ ts. IsNext (byte_ns_at (c.tables k) port)
              (entries_at (c.tables k) side port (arrivals_in (at_switch k so_far))) ts s)
              (taken-other side port d (at_switch k so_far) other) there);
        })
        | inl here ↦
            (let mine : IsNext (byte_ns_at (c.tables k) d.port)
            (entries_at (c.tables k) d.side d.port (arrivals_in (at_switch k so_far)))
            (d.turn ∷ taken_at d.port (turns_on d.side (at_switch k so_far))) s =
            subst (λ ts. IsNext (byte_ns_at (c.tables k) d.port)
            (entries_at (c.tables k) d.side d.port (arrivals_in (at_switch k so_far))) ts s)
            (taken-same d (at_switch k so_far))
            (subst (λ r. IsNextOn (c.tables k) (Left d ∷ at_switch k so_far) r d.port s) here.0
            (subst (λ p. IsNextOn (c.tables k)
            (Left d ∷ at_switch k so_far) side p s) here.1 there)) in
            inr (next-later (byte_ns_at
            (c.tables k) d.port) s.entry.bytes d.turn.end s.moment s.end s.too_old
            (byte-time (c.tables k) d.port (plan.lawful k)) mine.lasts mine.after))
      ])
]

pub own-later : (until end given : ℕ) (old : Bool) → until ≡ end + (if old then 1 else 0)
    → end < given
    → until ≤ given
own-later until end given true is lt = omega (arith, is, lt)
own-later until end given false is lt = omega (arith, is, lt)
