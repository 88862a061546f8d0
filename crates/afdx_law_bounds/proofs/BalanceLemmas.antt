-- The balances of the work left, from the busy time back from a moment.
use Rattle.std.proofs.Common.{◌≡◌, ℕ, ◌+◌, ◌*◌, ◌-◌, ◌<◌, ◌≤◌, max, true, false, List, [], ◌∷◌}
use Rattle.std.proofs.Common.{Some, refl, sym, ap, subst, arith, ◌∙◌}
use Rattle.std.specs.List.{slice_get, AllByRecursion}
use Rattle.std.proofs.lemmas.Option.{slice_get_within}
use Rattle.afdx_frame.specs.declared.link.Priority.TheVariants.{High, Low}
use Rattle.afdx_frame.specs.Regulation.{byte_units}
use Rattle.afdx_port.specs.Schedule.{Entry, Turn, has_turn, end_of, IsWithoutTurn, AreTurns, IsSchedule, begun_before}
use Rattle.afdx_port.specs.ScheduleOf.{AreInOrder}
use Rattle.afdx_law_bounds.specs.Curve.{wire, wire_in, wire_between, left_over, work_left}
use Rattle.afdx_law_bounds.specs.Curve.{high_work_left, low_work_left, waiting}
use Rattle.afdx_law_bounds.proofs.RateLemmas.{even, even-high, even-low}
use Rattle.afdx_law_bounds.proofs.WorkLemmas.{both_classes, one_class, same_left, left_add, wire_full, wire_later}
use Rattle.afdx_law_bounds.proofs.BusyLemmas.{counts-is, counts-not, is-counted, Weighs, busy_at}
use Rattle.afdx_law_bounds.proofs.BegunLemmas.{both_full, begun_at, each_turn}
use Rattle.afdx_law_bounds.proofs.BoundLemmas.{came_before, shorter}

module _ {X : Type 0} where
  -- the balance of the work left against what comes until t
  pub work_bound : (byte_ns hb hr lb lr : ℕ) (entries : List (Entry X)) (turns : List (Turn X)) (t : ℕ) →
      byte_ns * (hr + lr) ≤ byte_units →
      ((since : ℕ) → since ≤ t → byte_units * wire_between High since t entries ≤ hb + hr * (t - since)) →
      ((since : ℕ) → since ≤ t → byte_units * wire_between Low since t entries ≤ lb + lr * (t - since)) →
      ((i : ℕ) (e : Entry X) → slice_get entries i ≡ Some e → e.time ≤ t) → IsSchedule byte_ns entries turns →
      byte_units * work_left byte_ns entries turns t ≤ byte_ns * (hb + lb)
  work_bound byte_ns hb hr lb lr entries turns t rates highs lows come schedule =
      let weight : Entry X → ℕ = λ e. wire_in High 0 t e + wire_in Low 0 t e in
      let full : (i : ℕ) (e : Entry X) → slice_get entries i ≡ Some e → weight e ≡ e.bytes + 20
      = λ i e g. both_full 0 t t e (omega arith) (λ c. come i e g) (λ c. come i e g) in
      let b = begun_at byte_ns entries turns t schedule.each_next
      (λ idle place e free. absurd
      (let has = schedule.all_have_turns place (slice_get_within entries place e free.stands) in
      cc (has, free.without))) in
      let now : ℕ = max t (end_of b.begun) in
      let weighs = each_turn (Weighs weight true 0) byte_ns entries b.begun
      (λ i e g. record { full = λ c. full i e g; small = λ c. absurd (cc c) }) b.are in
      let line = busy_at byte_ns weight true 0 entries b.begun now b.are weighs
      (λ idle place e free. let later : t ≤ e.time = b.left (omega (arith, idle)) place e free in
      omega (arith, later, idle)) in
      let begins : line.since ≤ t = line.begins t (λ idle. omega (arith, idle)) b.started in
      let came = both_classes weight line.earlier line.since t t 0 entries
      (λ i e g free. let own : IsWithoutTurn entries line.earlier i e = record {
        stands = g;
        without = subst (λ (n : ℕ). has_turn line.earlier n ≡ false) (omega arith) free;
      } in
      let from : line.since ≤ e.time = line.come i e own refl in
      let here = wire_later High line.since t e (λ c. from) in
      let there = wire_later Low line.since t e (λ c. from) in
      omega (arith, here, there)) in
      let waits : waiting wire entries turns t ≡ left_over weight b.begun 0 entries =
      ap (λ zs. left_over wire zs 0 entries) b.is ∙ sym
      (same_left weight wire b.begun 0 entries full) in
      let ends : end_of (begun_before t turns) ≡ end_of b.begun = ap (λ zs. end_of zs) b.is in
      let waits-ns : byte_ns * waiting wire entries turns t
      ≡ byte_ns * left_over weight b.begun 0 entries = ap (λ n. byte_ns * n) waits in
      even byte_ns hb hr lb lr (t - line.since) (work_left byte_ns entries turns t)
      (left_over weight line.earlier 0 entries)
      (wire_between High line.since t entries) (wire_between Low line.since t entries) rates
      (highs line.since begins) (lows line.since begins) came (omega (arith, waits-ns, ends, line.balance, begins))

  -- the balance of the high work left
  pub high_work_bound : (byte_ns extra hb hr : ℕ) (entries : List (Entry X)) (turns : List (Turn X)) (t : ℕ) →
      byte_ns * hr ≤ byte_units →
      ((since : ℕ) → since ≤ t → byte_units * wire_between High since t entries ≤ hb + hr * (t - since)) →
      ((i : ℕ) (e : Entry X) → slice_get entries i ≡ Some e → e.time ≤ t) →
      ((i : ℕ) (e : Entry X) → slice_get entries i ≡ Some e → e.priority ≡ Low → e.bytes + 20 ≤ extra) →
      IsSchedule byte_ns entries turns → byte_units * high_work_left byte_ns entries turns t ≤ byte_ns *
      (hb + byte_units * extra)
  high_work_bound byte_ns extra hb hr entries turns t rate highs come small schedule =
      let weight : Entry X → ℕ = wire_in High 0 t in
      let b = begun_at byte_ns entries turns t schedule.each_next
      (λ idle place e free. absurd
      (let has = schedule.all_have_turns place (slice_get_within entries place e free.stands) in
      cc (has, free.without))) in
      let now : ℕ = max t (end_of b.begun) in
      let weighs = each_turn (Weighs weight false extra) byte_ns entries b.begun
      (λ i e g. record {
        full = λ c. wire_full High 0 t e (counts-is e.priority c) (omega arith) (come i e g);
        small = λ c. small i e g (counts-not e.priority c);
      }) b.are in
      let line = busy_at byte_ns weight false extra entries b.begun now b.are weighs
      (λ idle place e free. let later : t ≤ e.time = b.left (omega (arith, idle)) place e free in
      omega (arith, later, idle)) in
      let begins : line.since ≤ t = line.begins t (λ idle. omega (arith, idle)) b.started in
      let came = one_class weight line.earlier High line.since t 0 entries
      (λ i e g free. let own : IsWithoutTurn entries line.earlier i e = record {
        stands = g;
        without = subst (λ (n : ℕ). has_turn line.earlier n ≡ false) (omega arith) free;
      } in
      wire_later High line.since t e (λ c. line.come i e own (is-counted e.priority c))) in
      let waits : waiting (wire_in High 0 t) entries turns t ≡ left_over weight b.begun 0 entries =
      ap (λ zs. left_over (wire_in High 0 t) zs 0 entries) b.is in
      let ends : end_of (begun_before t turns) ≡ end_of b.begun = ap (λ zs. end_of zs) b.is in
      let waits-ns : byte_ns * waiting (wire_in High 0 t) entries turns t
      ≡ byte_ns * left_over weight b.begun 0 entries = ap (λ n. byte_ns * n) waits in
      even-high byte_ns extra hb hr (t - line.since) (high_work_left byte_ns entries turns t)
      (left_over weight line.earlier 0 entries)
      (wire_between High line.since t entries) rate (highs line.since begins) came
      (omega (arith, waits-ns, ends, line.balance, begins))

  begun_weighs : (byte_ns : ℕ) (entries : List (Entry X)) (t : ℕ) (turns : List (Turn X)) (place : ℕ) (e : Entry X) →
      AreInOrder entries → AreTurns byte_ns entries turns →
      IsWithoutTurn entries turns place e → e.priority ≡ Low → AllByRecursion (λ s. s.moment < t) turns →
      AllByRecursion (λ x. Weighs (λ d. wire_in High 0 t d + wire_in Low 0 e.time d) true 0 x.entry) turns
  begun_weighs byte_ns entries t [] place e order h free low started = tt
  begun_weighs byte_ns entries t (x ∷ rest) place e order h free low started =
      let begins : x.moment < t = started.0 in
      let come : x.entry.time ≤ x.moment = h.0.come in (
        record {
          full = λ c. both_full 0 t e.time x.entry (omega arith) (λ is. omega (arith, come, begins))
              (λ is. came_before byte_ns entries rest x place e order h.0 free (low ∙ sym is));
          small = λ c. absurd (cc c);
        },
        begun_weighs byte_ns entries t rest place e order h.1 (shorter x rest entries place e free) low started.1,
      )

  -- the balance along a low frame's wait
  pub low_work_bound : (byte_ns hb hr lb lr : ℕ) (entries : List (Entry X)) (turns : List (Turn X)) (t place : ℕ)
      (e : Entry X) → byte_ns * (hr + lr) ≤ byte_units →
      ((since : ℕ) → since ≤ t → byte_units * wire_between High since t entries ≤ hb + hr * (t - since)) →
      ((since : ℕ) → since ≤ e.time → byte_units * wire_between Low since e.time entries ≤ lb + lr * (e.time - since)) →
      ((i : ℕ) (d : Entry X) → slice_get entries i ≡ Some d → d.time ≤ t) → AreInOrder entries →
      IsSchedule byte_ns entries turns →
      IsWithoutTurn entries (begun_before t turns) place e → e.priority ≡ Low →
      byte_units * low_work_left byte_ns entries turns e.time t + (byte_units - byte_ns * hr) * (t - e.time)
      ≤ byte_ns * (hb + lb)
  low_work_bound byte_ns hb hr lb lr entries turns t place e rates highs lows come order schedule waits-at low =
      let weight : Entry X → ℕ = λ d. wire_in High 0 t d + wire_in Low 0 e.time d in
      let b = begun_at byte_ns entries turns t schedule.each_next
      (λ idle p d free. absurd
      (let has = schedule.all_have_turns p (slice_get_within entries p d free.stands) in
      cc (has, free.without))) in
      let now : ℕ = max t (end_of b.begun) in
      let free : IsWithoutTurn entries b.begun place e = record {
        stands = waits-at.stands;
        without = subst (λ (zs : List (Turn X)). has_turn zs place ≡ false) b.is waits-at.without;
      } in
      let late : e.time ≤ t = come place e waits-at.stands in
      let line = busy_at byte_ns weight true 0 entries b.begun now b.are
      (begun_weighs byte_ns entries t b.begun place e order b.are free low b.started)
      (λ idle p d w. let later : t ≤ d.time = b.left (omega (arith, idle)) p d w in omega (arith, later, idle)) in
      let begins : line.since ≤ e.time =
      line.come place e (record {
        stands = waits-at.stands;
        without = line.still place free.without;
      }) refl in
      let came = both_classes weight line.earlier line.since t e.time 0 entries
      (λ j d k w. let own : IsWithoutTurn entries line.earlier j d = record {
        stands = k;
        without = subst (λ (n : ℕ). has_turn line.earlier n ≡ false) (omega arith) w;
      } in
      let from : line.since ≤ d.time = line.come j d own refl in
      let here = wire_later High line.since t d (λ c. from) in
      let there = wire_later Low line.since e.time d (λ c. from) in
      omega (arith, here, there)) in
      let high-waits : waiting (wire_in High 0 t) entries turns t
      ≡ left_over (wire_in High 0 t) b.begun 0 entries = ap (λ zs. left_over (wire_in High 0 t) zs 0 entries) b.is in
      let low-waits : waiting (wire_in Low 0 e.time) entries turns t
      ≡ left_over (wire_in Low 0 e.time) b.begun 0 entries =
      ap (λ zs. left_over (wire_in Low 0 e.time) zs 0 entries) b.is in
      let sum = left_add (wire_in High 0 t) (wire_in Low 0 e.time) b.begun 0 entries in
      let ends : end_of (begun_before t turns) ≡ end_of b.begun = ap (λ zs. end_of zs) b.is in
      let waits : left_over weight b.begun 0 entries
      ≡ waiting (wire_in High 0 t) entries turns t + waiting (wire_in Low 0 e.time) entries
      turns t = omega
      (arith, sum, high-waits, low-waits) in
      let waits-ns : byte_ns * left_over weight b.begun 0 entries
      ≡ byte_ns * (waiting (wire_in High 0 t) entries turns t + waiting (wire_in Low 0 e.time)
      entries turns t) = ap (λ n. byte_ns * n) waits in
      let whole : t - line.since ≡ (e.time - line.since) + (t - e.time) = omega (arith, begins, late) in
      let high-curve = highs line.since (omega (arith, begins, late)) in
      let high-now = rw whole at high-curve in
      even-low byte_ns hb hr lb lr (byte_units - byte_ns * hr) (e.time - line.since) (t - e.time)
      (low_work_left byte_ns entries turns e.time t)
      (left_over weight line.earlier 0 entries) (wire_between High line.since t entries)
      (wire_between Low line.since e.time entries)
      rates (omega (arith, rates)) high-now (lows line.since begins) came
      (omega (arith, waits-ns, ends, line.balance, begins, late))
