-- The ports of admitted tables.
use Rattle.std.proofs.Common.{◌≡◌, ℕ, ◌+◌, ◌*◌, ◌/◌, ◌<◌, ◌≤◌, ◌==◌, Bool, true, false, ◌||◌, List}
use Rattle.std.proofs.Common.{[], ◌∷◌, length, map, Some, inl, inr, refl, sym, ap}
use Rattle.std.proofs.Common.{subst, arith, ◌∙◌, suc, zero, if◌then◌else◌}
use Rattle.std.specs.Prelude.{All, Contains, IsTrue, nat_eq, slice_index_or, sum_by, Option, None}
use Rattle.std.specs.Option.{option_map_or}
use Rattle.std.specs.List.{slice_get}
use Rattle.std.proofs.lemmas.Bool.{cases_Bool, eqb-true}
use Rattle.std.proofs.lemmas.List.Sums.{sum_by-cons}
use Rattle.std.proofs.lemmas.Option.{slice_get_cases}
use Rattle.afdx_frame.specs.declared.link.Priority.{Priority}
use Rattle.afdx_frame.specs.declared.link.Side.{Side}
use Rattle.afdx_frame.specs.Flows.{IsPortAdmitted}
use Rattle.afdx_frame.proofs.ListLemmas.{AllByRecursion-slice_get, slice_get-filter}
use Rattle.afdx_config.specs.Admission.{IsServing, byte_ns, flows_to, links_from}
use Rattle.afdx_config.specs.Flows.{flow_of_link}
use Rattle.afdx_config.specs.Lawful.{IsLawfulSwitch, IsOneOf, IsLinkUpTo, IsSystem, AreDistinct, jitter_from_any}
use Rattle.afdx_config.specs.Reading.{system_at_port}
use Rattle.afdx_config.specs.Rows.{SystemRow, LinkRow, Rows, is_to}
use Rattle.afdx_config.proofs.LookUpLemmas.{each_row-found}
use Rattle.afdx_police.specs.Rule.{is_bag}
use Rattle.afdx_port.specs.Held.{IsByteTime}
use Rattle.afdx_law_bounds.specs.Outputs.{AreRows, flows_at}
use Rattle.afdx_law_bounds.specs.Sender.{one_of_each, IsSent}
use Rattle.afdx_law_bounds.specs.Tables.{rule_of, goes_to, row_of, rows_of, byte_ns_of, byte_ns_at, IsPortOf}
use Rattle.afdx_law_bounds.specs.Tables.{ServesTables, sent_flow, sent_flows, EachSystemIsSender}

-- a byte takes 8, 80 or 800 ns
pub line-time : (profile : ℕ) (s : SystemRow) → IsSystem profile s → IsByteTime (byte_ns s)
line-time profile s is = by_profile (profile == 2) s.rate is.rate
  where
    one-of : (n rate : ℕ) (rest : Bool) → (nat_eq n rate || rest) ≡ true → IsByteTime (8000 / n) →
        (rest ≡ true → IsByteTime (8000 / rate)) → IsByteTime (8000 / rate)
    one-of n rate rest h here other =
        elim (cases_Bool (nat_eq n rate)) [
          | inl is ↦ subst (λ (m : ℕ). IsByteTime (8000 / m)) (eqb-true n rate is) here
          | inr isnt ↦ other (rw isnt at h)
        ]

    by_profile : (second : Bool) (rate : ℕ) → IsOneOf (if second then 10 ∷ 100 ∷ 1000 ∷ [] else 10 ∷ 100 ∷ []) rate →
        IsByteTime (8000 / rate)
    by_profile true rate h =
        one-of 10 rate _ h (inr (inr refl))
        (λ k. one-of 100 rate _ k (inr (inl refl))
        (λ m. one-of 1000 rate _ m (inl refl) (λ none. absurd (cc none))))
    by_profile false rate h =
        one-of 10 rate _ h (inr (inr refl))
        (λ k. one-of 100 rate _ k (inr (inl refl)) (λ none. absurd (cc none)))

-- so it takes 8 ns at least
some-time : (n : ℕ) → IsByteTime n → 8 ≤ n
some-time n (inl is) = omega (arith, is)
some-time n (inr (inl is)) = omega (arith, is)
some-time n (inr (inr is)) = omega (arith, is)

-- so it does on the line of each system
pub system-time : (t : Rows) (i : ℕ) (s : SystemRow)
    → IsLawfulSwitch t → slice_get t.systems i ≡ Some s
    → IsByteTime (byte_ns s)
system-time t i s lawful at =
    line-time t.profile s (AllByRecursion-slice_get (IsSystem t.profile) t.systems i s lawful.systems.each at)

-- what is the byte time of each row at this place, where one stands
pub line-at : (t : Rows) (i n : ℕ) → IsLawfulSwitch t → i < length t.systems
    → ((s : SystemRow) → slice_get t.systems i ≡ Some s → n ≡ byte_ns s) → IsByteTime n
line-at t i n lawful within is = elim ((slice_get_cases t.systems i).1) [
  | inl (s, here, at, own) ↦ subst IsByteTime (sym (is s at)) (system-time t i s lawful at)
  | inr (past, none) ↦ absurd (omega (arith, within, past))
]

-- a byte takes some time on each line
pub byte-time : (t : Rows) (port : ℕ) → IsLawfulSwitch t → 0 < byte_ns_at t port
unfolding byte_ns_at
byte-time t port lawful = by (system_at_port t.systems port)
  where
    of_row : (i : ℕ) (o : Option SystemRow) → slice_get t.systems i ≡ o → 0 < option_map_or byte_ns o 80
    of_row i None at = omega arith
    of_row i (Some s) at = omega (arith, some-time (byte_ns s) (system-time t i s lawful at))

    by : (o : Option ℕ) → 0 < byte_ns_of t o
    by None = omega arith
    by (Some i) = of_row i (slice_get t.systems i) refl

-- an element of a mapped list
record Mapped {Y Z : Type 0} (f : Y → Z) (xs : List Y) (z : Z) : Type 0 where
  place : ℕ
  own : Y
  stands : slice_get xs place ≡ Some own
  is : f own ≡ z

mapped-at : {Y Z : Type 0} (f : Y → Z) (xs : List Y) (i : ℕ) (z : Z) → i < length (map f xs) →
    slice_index_or (map f xs) i z ≡ z → Mapped f xs z
mapped-at f [] i z lt at = absurd (omega (arith, lt))
mapped-at f (x ∷ xs) zero z lt at = record { place = 0; own = x; stands = refl; is = at }
mapped-at f (x ∷ xs) (suc i) z lt at =
    let rest = mapped-at f xs i z (omega (arith, lt)) at in
    record { place = suc rest.place; own = rest.own; stands = rest.stands; is = rest.is }

mapped : {Y Z : Type 0} (f : Y → Z) (xs : List Y) (z : Z) → Contains (map f xs) z → Mapped f xs z
mapped f xs z h = mapped-at f xs h.0 z h.1 h.2

all-mapped : {Y Z : Type 0} (P : Z → Type 0) (f : Y → Z) (xs : List Y) →
    ((i : ℕ) (y : Y) → slice_get xs i ≡ Some y → P (f y)) → All P (map f xs)
all-mapped P f [] h k d lt = absurd (omega (arith, lt))
all-mapped P f (x ∷ xs) h zero d lt = h 0 x refl
all-mapped P f (x ∷ xs) h (suc k) d lt = all-mapped P f xs (λ i y at. h (suc i) y at) k d (omega (arith, lt))

-- two links of one identifier are one
one-link : (links : List LinkRow) (i j : ℕ) (k l : LinkRow) → AreDistinct (λ m. m.vl) links →
    slice_get links i ≡ Some k → slice_get links j ≡ Some l → k.vl ≡ l.vl → k ≡ l
unfolding AreDistinct
one-link links i j k l distinct at there same =
    let places : i ≡ j = distinct i j k l at there same in
    let here : slice_get links j ≡ Some k = subst (λ (n : ℕ). slice_get links n ≡ Some k) places at in
    cc (here, there)

pub rows-are : (t : Rows) → IsLawfulSwitch t → AreRows (rows_of t)
unfolding rows_of rule_of
rows-are t lawful = record {
  gaps = all-mapped (λ r. IsTrue (is_bag r.rule.bag_ms)) (row_of t) t.links
      (λ i l at. (AllByRecursion-slice_get
      (IsLinkUpTo jitter_from_any (length t.systems)) t.links i l lawful.links.each at).bag_ms);
  distinct = λ r s k l same. (let a = mapped (row_of t) t.links r k in
      let b = mapped (row_of t) t.links s l in
      let vls : a.own.vl ≡ b.own.vl = ap (λ z. z.rule.vl) a.is ∙ same ∙ sym (ap (λ z. z.rule.vl) b.is) in
      sym a.is ∙ ap (λ z. row_of t z)
      (one-link t.links a.place b.place a.own b.own lawful.links.identifiers a.stands b.stands
      vls) ∙ b.is);
}

line-is : (t : Rows) (system : ℕ) (s : SystemRow) → system_at_port t.systems s.port ≡ Some system →
    slice_get t.systems system ≡ Some s → byte_ns_at t s.port ≡ byte_ns s
unfolding byte_ns_at
line-is t system s found at = ap (byte_ns_of t) found ∙ ap (λ (o : Option SystemRow). option_map_or byte_ns o 80) at

goes-is : (t : Rows) (system port : ℕ) (l : LinkRow) → system_at_port t.systems port ≡ Some system
    → goes_to t l port ≡ is_to system l
unfolding goes_to
goes-is t system port l found = ap (λ (o : Option ℕ). option_map_or (λ k. is_to k l) o false) found

pub port-of-system : (t : Rows) (system : ℕ) (s : SystemRow)
    → IsLawfulSwitch t → slice_get t.systems system ≡ Some s → IsPortOf t system s
port-of-system t system s lawful at =
    let found = (each_row-found t lawful).by_port system s at in
    record { line = line-is t system s found at; goes = λ l. goes-is t system s.port l found }

flows-same : (t : Rows) (system port : ℕ) → ((l : LinkRow) → goes_to t l port ≡ is_to system l)
    → (links : List LinkRow) →
    flows_at port (map (row_of t) links) ≡ flows_to links system
unfolding rule_of
flows-same t system port there [] = refl
flows-same t system port there (l ∷ ls) =
    let rest = flows-same t system port there ls in
    elim (cases_Bool (is_to system l)) [
      | inl goes ↦ rw (there l, goes) (ap (λ fs. flow_of_link l ∷ fs) rest)
      | inr stays ↦ rw (there l, stays) rest
    ]

flows-are : (t : Rows) (system : ℕ) (s : SystemRow) → IsPortOf t system s
    → flows_at s.port (rows_of t) ≡ flows_to t.links system
unfolding rows_of
flows-are t system s is = flows-same t system s.port is.goes t.links

pub output-served : (t : Rows) (side : Side) (system : ℕ) (s : SystemRow)
    → IsLawfulSwitch t → IsServing t → slice_get t.systems system ≡ Some s
    → ServesTables t side system s
output-served t side system s lawful admitted at =
    let is = port-of-system t system s lawful at in
    let flows = flows-are t system s is in
    let here : IsPortAdmitted (byte_ns s) t.buffer (flows_at s.port (rows_of t)) =
    subst (λ fs. IsPortAdmitted (byte_ns s) t.buffer fs) (sym flows) (admitted.ports system s at) in
    record {
      flows = flows;
      served = record {
        line = byte-time t s.port lawful;
        rows_are = rows-are t lawful;
        admitted = subst (λ n. IsPortAdmitted n t.buffer (flows_at s.port (rows_of t))) (sym is.line) here;
      };
    }

sent-sum : (b : ℕ) (class : Priority) (own links : List LinkRow) →
    one_of_each b (map (sent_flow b class own) links) ≡ sum_by (λ k. (k.lmax + 20) * b) links
sent-sum b class own [] = refl
sent-sum b class own (l ∷ ls) =
    let rest = sent-sum b class own ls in
    rw (
      sum_by-cons (λ f. f.link.smax * b) (sent_flow b class own l)
          (map (sent_flow b class own) ls),
      sum_by-cons (λ k. (k.lmax + 20) * b) l ls,
    )
    (omega (arith, rest))

pub system-sender : EachSystemIsSender
system-sender t class system s lawful admitted at own-system =
    let own : List LinkRow = links_from t.links system in
    let sum = sent-sum (byte_ns s) class own own in
    let jitter = admitted.senders system s at own-system in
    record {
      line = some-time (byte_ns s) (system-time t system s lawful at);
      flows_are = record {
        gaps = all-mapped (λ f. IsTrue (is_bag f.link.bag_ms)) (sent_flow (byte_ns s) class own) own (λ i l k.
            let in-links = slice_get-filter (λ m. nat_eq m.from system) t.links i l k in
            (AllByRecursion-slice_get (IsLinkUpTo jitter_from_any (length t.systems)) t.links in-links.0 l
            lawful.links.each in-links.1).bag_ms);
        distinct = λ f g k l same. (let a = mapped (sent_flow (byte_ns s) class own) own f k in
            let b = mapped (sent_flow (byte_ns s) class own) own g l in
            let a-in = slice_get-filter (λ m. nat_eq m.from system) t.links a.place a.own a.stands in
            let b-in = slice_get-filter (λ m. nat_eq m.from system) t.links b.place b.own b.stands in
            let vls : a.own.vl ≡ b.own.vl = ap (λ z. z.vl) a.is ∙ same ∙ sym (ap (λ z. z.vl) b.is) in
            sym a.is ∙ ap (λ z. sent_flow (byte_ns s) class own z)
            (one-link t.links a-in.0 b-in.0 a.own b.own lawful.links.identifiers a-in.1 b-in.1 vls) ∙ b.is);
      };
      jitter = omega (arith, sum, jitter);
      each = all-mapped (λ f. IsSent (byte_ns s) class (sent_flows t class system s) f)
          (sent_flow (byte_ns s) class own) own
          (λ i l k. record { own_class = refl; regular = refl; waits = sym sum });
    }
