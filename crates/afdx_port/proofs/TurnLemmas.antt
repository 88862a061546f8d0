-- Turns of the same entries agree, and stay as they are when a later entry comes.
use Rattle.std.proofs.Common.{◌≡◌, ◌≢◌, ℕ, ◌+◌, ◌<◌, ◌≤◌, ◌==◌, nat_lt, Bool, true, false, List, []}
use Rattle.std.proofs.Common.{◌∷◌, ◌++◌, length, Some, ◌⊎◌, inl, inr, refl, sym, ap, subst, arith}
use Rattle.std.proofs.Common.{length-append, ◌∙◌, if◌then◌else◌, add-zero, suc, zero}
use Rattle.std.specs.List.{slice_get, AllByRecursion}
use Rattle.std.proofs.lemmas.Option.{slice_get_within}
use Rattle.std.proofs.lemmas.Bool.{cases_lt}
use Rattle.std.proofs.lemmas.Bool.Decides.{nat_tests}
use Rattle.afdx_frame.specs.declared.link.Priority.{Priority}
use Rattle.afdx_frame.specs.declared.link.Priority.TheVariants.{High, Low}
use Rattle.afdx_frame.proofs.ListLemmas.{slice_get-push_before, slice_get-push_cases}
use Rattle.afdx_port.specs.Schedule.{Entry, Turn, has_turn, IsWithoutTurn, IsNext, AreTurns}
use Rattle.afdx_port.specs.Schedule.{IsSchedule, begun_before, bytes_without_turn, waiting_bytes}

pub priority_cases : (c : Priority) → (c ≡ High) ⊎ (c ≡ Low)
priority_cases High = inl refl
priority_cases Low = inr refl

pub nat_lt-true : (a b : ℕ) → a < b → nat_lt a b ≡ true
nat_lt-true a b h = grind (arith, nat_tests)

pub nat_lt-false : (a b : ℕ) → b ≤ a → nat_lt a b ≡ false
nat_lt-false a b h = grind (arith, nat_tests)

pub eqb-same : (a b : ℕ) → a ≡ b → (a == b) ≡ true
eqb-same a b h = grind (arith, nat_tests)

pub eqb-other : (a b : ℕ) → a ≢ b → (a == b) ≡ false
eqb-other a b h = grind (arith, nat_tests)

same_priority : (b c : Priority) → (b ≡ High → c ≡ High) → (c ≡ High → b ≡ High) → b ≡ c
same_priority High c f g = sym (f refl)
same_priority Low High f g = g refl
same_priority Low Low f g = refl

module _ {X : Type 0} where
  turn : ℕ → Entry X → ℕ → ℕ → Bool → Turn X
  turn p e s n o = record { place = p; entry = e; moment = s; end = n; too_old = o }

  turn_same : (p p' : ℕ) (e e' : Entry X) (s s' n n' : ℕ) (o o' : Bool) → p ≡ p' → e ≡ e' → s ≡ s'
      → n ≡ n' → o ≡ o' → turn p e s n o ≡ turn p' e' s' n' o'
  turn_same p p' e e' s s' n n' o o' a b c d f = cc

  abbrev turn_eq : (a b : Turn X) → a.place ≡ b.place → a.entry ≡ b.entry → a.moment ≡ b.moment
      → a.end ≡ b.end → a.too_old ≡ b.too_old → a ≡ b
  unfolding turn
  turn_eq a b p e s n o = turn_same a.place b.place a.entry b.entry a.moment b.moment a.end b.end
      a.too_old b.too_old p e s n o

  -- what comes next is determined
  pub same_next : (byte_ns : ℕ) (entries : List (Entry X)) (earlier : List (Turn X)) (s s' : Turn X)
      → IsNext byte_ns entries earlier s → IsNext byte_ns entries earlier s' → s ≡ s'
  same_next byte_ns entries earlier s s' n n' =
      let below : s.moment ≤ s'.moment = n.least s'.moment s'.place s'.entry n'.own n'.come n'.after in
      let above : s'.moment ≤ s.moment = n'.least s.moment s.place s.entry n.own n.come n.after in
      let moment : s.moment ≡ s'.moment = omega arith in
      let come : s.entry.time ≤ s'.moment = let h = n.come in omega arith in
      let come' : s'.entry.time ≤ s.moment = let h = n'.come in omega arith in
      let class : s.entry.priority ≡ s'.entry.priority =
      same_priority s.entry.priority s'.entry.priority
      (λ h. n'.high_first s.place s.entry n.own come h)
      (λ h. n.high_first s'.place s'.entry n'.own come' h) in
      let first : s.place ≤ s'.place = n.in_order s'.place s'.entry n'.own (sym class) in
      let first' : s'.place ≤ s.place = n'.in_order s.place s.entry n.own class in
      let place : s.place ≡ s'.place = omega arith in
      let entry : s.entry ≡ s'.entry = cc (n.own.stands, n'.own.stands) in
      let old : s.too_old ≡ s'.too_old = cc (n.drops, n'.drops) in
      let end : s.end ≡ s'.end = cc (n.lasts, n'.lasts) in
      turn_eq s s' place entry moment end old

  pub same_turns : (byte_ns : ℕ) (entries : List (Entry X)) (a b : List (Turn X))
      → AreTurns byte_ns entries a → AreTurns byte_ns entries b → length a ≡ length b → a ≡ b
  same_turns byte_ns entries [] [] h k e = refl
  same_turns byte_ns entries [] (y ∷ ys) h k e = absurd (omega arith)
  same_turns byte_ns entries (x ∷ xs) [] h k e = absurd (omega arith)
  same_turns byte_ns entries (x ∷ xs) (y ∷ ys) h k e =
      let tails : xs ≡ ys = same_turns byte_ns entries xs ys h.1 k.1 (omega arith) in
      let P : List (Turn X) → Type 0 = λ zs. IsNext byte_ns entries zs x in
      let heads : x ≡ y = same_next byte_ns entries ys x y (subst P tails h.0) k.0 in
      cc

  -- the shorter of two lists of turns is the beginning of the other
  pub turns_begin : (byte_ns : ℕ) (entries : List (Entry X)) (a b : List (Turn X))
      → AreTurns byte_ns entries a → AreTurns byte_ns entries b → length b ≤ length a
      → (later : List (Turn X)) × (a ≡ later ++ b)
  turns_begin byte_ns entries [] b h k le = ([], same_turns byte_ns entries [] b h k (omega arith))
  turns_begin byte_ns entries (x ∷ xs) b h k le =
      elim (cases_lt (length xs) (length b)) [
        | inr small ↦ (let r = turns_begin byte_ns entries xs b h.1 k small in (x ∷ r.0, ap (λ zs. x ∷ zs) r.1))
        | inl big ↦ ([], same_turns byte_ns entries (x ∷ xs) b h k (omega arith))
      ]

  -- what follows a list of turns in a longer one is next after it
  pub next_of : (byte_ns : ℕ) (entries : List (Entry X)) (later turns : List (Turn X))
      → AreTurns byte_ns entries (later ++ turns) → 0 < length later → (s : Turn X)
      × IsNext byte_ns entries turns s
  next_of byte_ns entries [] turns h lt = absurd (omega arith)
  next_of byte_ns entries (x ∷ []) turns h lt = (x, h.0)
  next_of byte_ns entries (x ∷ (y ∷ ys)) turns h lt = next_of byte_ns entries (y ∷ ys) turns h.1 (omega arith)

  -- the turns that have begun are the beginning of the schedule
  pub schedule_begins : (byte_ns : ℕ) (entries : List (Entry X)) (turns begun : List (Turn X))
      → IsSchedule byte_ns entries turns → AreTurns byte_ns entries begun → (later : List (Turn X))
      × (turns ≡ later ++ begun)
  schedule_begins byte_ns entries turns begun all some =
      elim (cases_lt (length turns) (length begun)) [
        | inr small ↦ turns_begin byte_ns entries turns begun all.each_next some small
        | inl big ↦ absurd (let r = turns_begin byte_ns entries begun turns some all.each_next (omega arith) in
            let longer : 0 < length r.0 = omega (arith, ap length r.1, length-append r.0 turns) in
            let P : List (Turn X) → Type 0 = λ zs. AreTurns byte_ns entries zs in
            let n = next_of byte_ns entries r.0 turns (subst P r.1 some) longer in
            let sent : has_turn turns n.0.place ≡ true =
            all.all_have_turns n.0.place (slice_get_within entries n.0.place n.0.entry
            n.1.own.stands) in
            cc (n.1.own.without))
      ]

  -- entries have at most one schedule
  pub same_schedule : (byte_ns : ℕ) (entries : List (Entry X)) (a b : List (Turn X))
      → IsSchedule byte_ns entries a → IsSchedule byte_ns entries b → a ≡ b
  same_schedule byte_ns entries a b h k =
      let r = schedule_begins byte_ns entries a b h k.each_next in
      let q = schedule_begins byte_ns entries b a k h.each_next in
      same_turns byte_ns entries a b h.each_next k.each_next
      (omega (arith, ap length r.1, length-append r.0 b, ap length q.1, length-append q.0 a))

  -- a turn ends after it begins
  pub ends_after : (byte_ns : ℕ) (entries : List (Entry X)) (earlier : List (Turn X)) (s : Turn X)
      → IsNext byte_ns entries earlier s → s.moment ≤ s.end
  ends_after byte_ns entries earlier s n = let l = n.lasts in omega arith

  -- where the next turn begins at t or later, so do those after it
  later_starts : (byte_ns : ℕ) (entries : List (Entry X)) (t : ℕ) (later begun : List (Turn X))
      → AreTurns byte_ns entries (later ++ begun)
      → ((s : Turn X) → IsNext byte_ns entries begun s → t ≤ s.moment)
      → AllByRecursion (λ s. t ≤ s.moment) later
  later_starts byte_ns entries t [] begun h next = tt
  later_starts byte_ns entries t (x ∷ []) begun h next = (next x h.0, tt)
  later_starts byte_ns entries t (x ∷ (y ∷ ys)) begun h next =
      let rest = later_starts byte_ns entries t (y ∷ ys) begun h.1 next in
      let after : y.end ≤ x.moment = h.0.after in
      let lasts : y.moment ≤ y.end = ends_after byte_ns entries (ys ++ begun) y h.1.0 in
      (omega (arith, rest.0), rest)

  begun_alone : (t : ℕ) (begun : List (Turn X)) → AllByRecursion (λ s. s.moment < t) begun
      → begun_before t begun ≡ begun
  begun_alone t [] h = refl
  begun_alone t (x ∷ xs) h = let e = begun_alone t xs h.1 in let lt : x.moment < t = h.0 in
      rw (nat_lt-true x.moment t lt) (ap (λ zs. x ∷ zs) e)

  -- the turns that begin before t are those that have begun
  begun_all : (t : ℕ) (later begun : List (Turn X)) → AllByRecursion (λ s. t ≤ s.moment) later
      → AllByRecursion (λ s. s.moment < t) begun → begun_before t (later ++ begun) ≡ begun
  begun_all t [] begun h k = begun_alone t begun k
  begun_all t (x ∷ xs) begun h k = let le : t ≤ x.moment = h.0 in
      rw (nat_lt-false x.moment t le) (begun_all t xs begun h.1 k)

  -- what waits at t is what has no turn, if the turns so far are those that begin before t
  pub waiting_is : (byte_ns : ℕ) (entries : List (Entry X)) (t : ℕ) (turns begun : List (Turn X))
      → IsSchedule byte_ns entries turns → AreTurns byte_ns entries begun
      → AllByRecursion (λ s. s.moment < t) begun
      → ((s : Turn X) → IsNext byte_ns entries begun s → t ≤ s.moment)
      → waiting_bytes entries turns t ≡ bytes_without_turn begun 0 entries
  waiting_is byte_ns entries t turns begun all some started next =
      let r = schedule_begins byte_ns entries turns begun all some in
      let P : List (Turn X) → Type 0 = λ zs. AreTurns byte_ns entries zs in
      let later = later_starts byte_ns entries t r.0 begun (subst P r.1 all.each_next) next in
      ap (λ zs. bytes_without_turn (begun_before t zs) 0 entries) r.1
      ∙ ap (λ zs. bytes_without_turn zs 0 entries) (begun_all t r.0 begun later started)

  -- an entry without a turn is one of the earlier ones, or the last
  pub without_either : (entries : List (Entry X)) (e : Entry X) (turns : List (Turn X)) (place : ℕ)
      (d : Entry X) → IsWithoutTurn (entries ++ e ∷ []) turns place d
      → IsWithoutTurn entries turns place d ⊎ ((place ≡ length entries) × (d ≡ e))
  without_either entries e turns place d h =
      elim (slice_get-push_cases entries e place d h.stands)
      [ inl a ↦ inl (record { stands = a; without = h.without }) | inr b ↦ inr b ]

  pub without_longer : (entries : List (Entry X)) (e : Entry X) (turns : List (Turn X)) (place : ℕ)
      (d : Entry X) → IsWithoutTurn entries turns place d
      → IsWithoutTurn (entries ++ e ∷ []) turns place d
  without_longer entries e turns place d h =
      record { stands = slice_get-push_before entries e place d h.stands; without = h.without }

  -- a turn that began before an entry came stays the next one
  pub next_stays : (byte_ns : ℕ) (entries : List (Entry X)) (e : Entry X) (earlier : List (Turn X))
      (s : Turn X) → s.moment < e.time → IsNext byte_ns entries earlier s
      → IsNext byte_ns (entries ++ e ∷ []) earlier s
  next_stays byte_ns entries e earlier s before n = record {
    own = without_longer entries e earlier s.place s.entry n.own;
    lasts = n.lasts;
    drops = n.drops;
    come = n.come;
    after = n.after;
    least = λ t place d w come over. elim (without_either entries e earlier place d w) [
      | inl old ↦ n.least t place d old come over
      | inr new ↦ (let time : d.time ≡ e.time = ap (λ z. z.time) new.1 in omega arith)
    ];
    high_first = λ place d w come high. elim (without_either entries e earlier place d w) [
      | inl old ↦ n.high_first place d old come high
      | inr new ↦ absurd (let time : d.time ≡ e.time = ap (λ z. z.time) new.1 in omega arith)
    ];
    in_order = λ place d w class. elim (without_either entries e earlier place d w) [
      | inl old ↦ n.in_order place d old class
      | inr new ↦ (let own : s.place < length entries =
          slice_get_within entries s.place s.entry n.own.stands in omega (arith, new.0))
    ];
  }

  pub turns_stay : (byte_ns : ℕ) (entries : List (Entry X)) (e : Entry X) (turns : List (Turn X))
      → AllByRecursion (λ s. s.moment < e.time) turns → AreTurns byte_ns entries turns
      → AreTurns byte_ns (entries ++ e ∷ []) turns
  turns_stay byte_ns entries e [] before h = tt
  turns_stay byte_ns entries e (s ∷ earlier) before h = (
    next_stays byte_ns entries e earlier s before.0 h.0,
    turns_stay byte_ns entries e earlier before.1 h.1,
  )

  -- no turn has a place past the last entry
  pub no_turn_past : (byte_ns : ℕ) (entries : List (Entry X)) (turns : List (Turn X))
      → AreTurns byte_ns entries turns → has_turn turns (length entries) ≡ false
  no_turn_past byte_ns entries [] h = refl
  no_turn_past byte_ns entries (s ∷ earlier) h =
      let rest = no_turn_past byte_ns entries earlier h.1 in
      let own : s.place < length entries = slice_get_within entries s.place s.entry h.0.own.stands in
      let other : s.place ≢ length entries = λ e. omega arith in
      rw (eqb-other s.place (length entries) other) rest

  -- the bytes of the entries after a turn
  bytes_above : (s : Turn X) (turns : List (Turn X)) (place : ℕ) (es : List (Entry X))
      → s.place < place → bytes_without_turn (s ∷ turns) place es ≡ bytes_without_turn turns place es
  bytes_above s turns place [] lt = refl
  bytes_above s turns place (e ∷ es) lt =
      let other : s.place ≢ place = λ q. omega arith in
      let rest = bytes_above s turns (place + 1) es (omega arith) in
      rw (eqb-other s.place place other) (ap (λ n. (if has_turn turns place then 0 else e.bytes) + n) rest)

  -- a turn takes its entry's bytes
  pub bytes_served : (s : Turn X) (turns : List (Turn X)) (place i : ℕ) (e : Entry X)
      (es : List (Entry X)) → slice_get es i ≡ Some e → s.place ≡ place + i → has_turn turns s.place
      ≡ false → bytes_without_turn (s ∷ turns) place es + e.bytes ≡ bytes_without_turn turns place es
  bytes_served s turns place i e [] h at free = cc
  bytes_served s turns place zero e (d ∷ ds) h at free =
      let here : s.place ≡ place = omega arith in
      let same : d ≡ e = cc in
      let none : has_turn turns place ≡ false = subst (λ (p : ℕ). has_turn turns p ≡ false) here free in
      let rest = bytes_above s turns (place + 1) ds (omega arith) in
      let bytes : d.bytes ≡ e.bytes = ap (λ z. z.bytes) same in
      rw (eqb-same s.place place here, none, rest) (omega arith)
  bytes_served s turns place (suc i) e (d ∷ ds) h at free =
      let other : s.place ≢ place = λ q. omega arith in
      let rest = bytes_served s turns (place + 1) i e ds h (omega arith) free in
      rw (eqb-other s.place place other) (omega (arith, rest))

  -- a further entry adds its bytes
  pub bytes_longer : (turns : List (Turn X)) (place : ℕ) (es : List (Entry X)) (e : Entry X)
      → has_turn turns (place + length es) ≡ false → bytes_without_turn turns place (es ++ e ∷ [])
      ≡ bytes_without_turn turns place es + e.bytes
  bytes_longer turns place [] e free = let none : has_turn turns place ≡ false =
      subst (λ (p : ℕ). has_turn turns p ≡ false) (add-zero place) free in rw none (omega arith)
  bytes_longer turns place (d ∷ ds) e free =
      let moved : place + length (d ∷ ds) ≡ (place + 1) + length ds = omega arith in
      let rest = bytes_longer turns (place + 1) ds e (subst (λ (p : ℕ). has_turn turns p ≡ false) moved free) in
      omega (arith, rest)
